-- Values laid over a meaning. Assumes nothing.
use Rattle.std.proofs.Common.{◌≡◌, ℕ, cond, eqb, ◌≢◌, List, [], ◌∷◌, ◌++◌, length, Some, None, Ok, Err, Option, Result, sym, refl, ap, ◌∙◌, inl, inr}
use mathlib.Core.Path.{fun_ext}
use Rattle.std.proofs.lemmas.Bool.{eq-eqb, ne_eqb, cases_eq, cases_lt, lt-ltb, le-ltb}
use Rattle.store.specs.declared.fault.Fault.{Fault}
use Rattle.store.specs.Faults.{raised}
use Rattle.store.specs.Meaning.{Meaning, rewritten, put}
use Rattle.write_buffer.specs.declared.entries.Entry.{Entry}
use Rattle.write_buffer.specs.Held.{entry, or_else, held_value, renewed, written_by, written, sent_by, sent}
use Rattle.write_buffer.specs.Buffered.{laid, sunk}

rewritten_twice : (r : Result ℕ Fault) (v w : ℕ) → rewritten (rewritten r v) w ≡ rewritten r w
rewritten_twice (Ok x) v w = refl
rewritten_twice (Err e) v w = refl

rewritten_put : (f : Meaning) (c v k w : ℕ) → rewritten (put f c v k) w ≡ rewritten (f k) w
rewritten_put f c v k w =
    elim (cases_eq k c) [ inl q ↦ rw (eq-eqb k c q) (rewritten_twice (f k) v w) | inr n ↦ rw (ne_eqb k c n) ]

laid_push : (f : Meaning) (es : List Entry) (c v : ℕ) → laid f (es ++ (entry c v ∷ [])) ≡ put (laid f es) c v
laid_push f [] c v = refl
laid_push f (e ∷ es) c v = laid_push (put f e.cell e.value) es c v

-- a value that lies over what a cell says
abbrev pub over : Result ℕ Fault → Option ℕ → Result ℕ Fault
over r None = r
over r (Some v) = rewritten r v

under_step : (f : Meaning) (e : Entry) (k : ℕ) (o : Option ℕ)
    → over (put f e.cell e.value k) o ≡ over (f k) (or_else o (cond (eqb e.cell k) (Some e.value) None))
under_step f e k (Some v) = rewritten_put f e.cell e.value k v
under_step f e k None =
    elim (cases_eq e.cell k) [
      | inl a ↦ rw (eq-eqb k e.cell (sym a), eq-eqb e.cell k a)
      | inr n ↦ rw (ne_eqb k e.cell (λ q. n (sym q)), ne_eqb e.cell k n)
    ]

-- what a cell says: the held value over its own
pub laid_reads : (f : Meaning) (es : List Entry) (k : ℕ) → laid f es k ≡ over (f k) (held_value es k)
laid_reads f [] k = refl
laid_reads f (e ∷ es) k = laid_reads (put f e.cell e.value) es k ∙ under_step f e k (held_value es k)

-- another value, where there is one
abbrev pub changed : Option ℕ → ℕ → Option ℕ
changed None v = None
changed (Some old) v = Some v

changed_newer : (o : Option ℕ) (u v : ℕ) → or_else (changed o v) (Some v) ≡ changed (or_else o (Some u)) v
changed_newer None u v = refl
changed_newer (Some old) u v = refl

changed_other : (o : Option ℕ) (v : ℕ) → or_else (changed o v) None ≡ changed (or_else o None) v
changed_other None v = refl
changed_other (Some old) v = refl

pub renewed_same : (es : List Entry) (c v : ℕ) → held_value (renewed es c v) c ≡ changed (held_value es c) v
renewed_same [] c v = refl
renewed_same (e ∷ es) c v =
    elim (cases_eq e.cell c) [
      | inl a ↦ rw (eq-eqb e.cell c a, eq-eqb c c refl, renewed_same es c v) (changed_newer (held_value es c) e.value v)
      | inr n ↦ rw (ne_eqb e.cell c n, renewed_same es c v) (rw (ne_eqb e.cell c n) (changed_other (held_value es c) v))
    ]

pub renewed_other : (es : List Entry) (c v k : ℕ) → (k ≡ c → ⊥) → held_value (renewed es c v) k ≡ held_value es k
renewed_other [] c v k m = refl
renewed_other (e ∷ es) c v k m =
    elim (cases_eq e.cell c) [
      | inl a ↦
          let here : c ≢ k = λ q. m (sym q) in
          let there : e.cell ≢ k = λ q. m (sym q ∙ a) in
          rw (eq-eqb e.cell c a, ne_eqb c k here, ne_eqb e.cell k there, renewed_other es c v k m)
      | inr n ↦ rw (ne_eqb e.cell c n, renewed_other es c v k m)
    ]

-- another value for a held cell is as a write above all
laid_renewed : (f : Meaning) (es : List Entry) (c v old : ℕ) → held_value es c ≡ Some old → laid f (renewed es c v) ≡ put (laid f es) c v
laid_renewed f es c v old h =
    fun_ext
    (λ k.
    laid_reads f (renewed es c v) k
    ∙
    elim (cases_eq k c) [
      | inl q ↦
          let mine : held_value (renewed es c v) k ≡ Some v = ap (held_value (renewed es c v)) q ∙ renewed_same es c v ∙ ap (λ o. changed o v) h in
          let under : laid f es k ≡ rewritten (f k) old = laid_reads f es k ∙ ap (λ j. over (f k) (held_value es j)) q ∙ ap (over (f k)) h in
          rw (eq-eqb k c q, mine, under) (sym (rewritten_twice (f k) old v))
      | inr n ↦ rw (ne_eqb k c n, renewed_other es c v k n) (sym (laid_reads f es k))
    ])

written_as_held : (f : Meaning) (es : List Entry) (c v : ℕ) (o : Option ℕ) → held_value es c ≡ o
    → laid (sunk f (sent_by o es)) (written_by o es c v) ≡ put (laid f es) c v
written_as_held f es c v (Some old) h = laid_renewed f es c v old h
written_as_held f [] c v None h = refl
written_as_held f (e ∷ es) c v None h =
    elim (cases_lt (length (e ∷ es)) 16) [
      | inl a ↦ rw (lt-ltb (length (e ∷ es)) 16 a) (laid_push f (e ∷ es) c v)
      | inr b ↦ rw (le-ltb (length (e ∷ es)) 16 b) (laid_push (put f e.cell e.value) es c v)
    ]

-- whatever a write sends below, what is laid over it shows that write and nothing else
pub laid_written : (f : Meaning) (es : List Entry) (c v : ℕ) → laid (sunk f (sent es c)) (written es c v) ≡ put (laid f es) c v
laid_written f es c v = written_as_held f es c v (held_value es c) refl

raised_rewritten : (r : Result ℕ Fault) (v : ℕ) → raised (rewritten r v) ≡ rewritten (raised r) v
raised_rewritten (Ok x) v = refl
raised_rewritten (Err e) v = refl

pub raised_put : (f : Meaning) (c v : ℕ) → ◌≡◌ {A = Meaning} (λ k. raised (put f c v k)) (put (λ k. raised (f k)) c v)
raised_put f c v =
    fun_ext
    (λ k.
    elim (cases_eq k c) [ inl q ↦ rw (eq-eqb k c q) (raised_rewritten (f k) v) | inr n ↦ rw (ne_eqb k c n) ])
