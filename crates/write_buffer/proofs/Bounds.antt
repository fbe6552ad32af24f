-- How much is held. Assumes nothing.
use Rattle.std.proofs.Common.{◌≡◌, ℕ, suc, ◌≤◌, cond, eqb, List, [], ◌∷◌, ◌++◌, map, length, Some, None, Option, sym, refl, ap, ◌∙◌, inl, inr, arith}
use Rattle.std.proofs.lemmas.List.{length-append}
use Rattle.std.proofs.lemmas.Bool.{eq-eqb, ne_eqb, cases_eq, cases_lt, lt-ltb, le-ltb}
use Rattle.write_buffer.specs.declared.entries.Entry.{Entry}
use Rattle.write_buffer.specs.Held.{entry, or_else, held_value, renewed, written_by, written}
use Rattle.write_buffer.specs.Laws.{HeldOnce, cell_of}
use Rattle.write_buffer.proofs.Laid.{changed, renewed_same, renewed_other}

same_cell : (e : Entry) (c v : ℕ) → (cond (eqb e.cell c) (entry c v) e).cell ≡ e.cell
same_cell e c v = elim (cases_eq e.cell c) [ inl q ↦ rw (eq-eqb e.cell c q) (sym q) | inr n ↦ rw (ne_eqb e.cell c n) ]

-- a rewrite leaves the cells in their order
pub ages_stay : (es : List Entry) (c v : ℕ) → map cell_of (renewed es c v) ≡ map cell_of es
ages_stay [] c v = refl
ages_stay (e ∷ es) c v = rw (same_cell e c v) (ap (λ t. e.cell ∷ t) (ages_stay es c v))

length-renewed : (es : List Entry) (c v : ℕ) → length (renewed es c v) ≡ length es
length-renewed [] c v = refl
length-renewed (e ∷ es) c v = ap suc (length-renewed es c v)

none_renewed : (es : List Entry) (c v k : ℕ) → held_value es k ≡ None → held_value (renewed es c v) k ≡ None
none_renewed es c v k h =
    elim (cases_eq k c) [
      | inl q ↦
          let mine : held_value es c ≡ None = ap (held_value es) (sym q) ∙ h in
          ap (held_value (renewed es c v)) q ∙ renewed_same es c v ∙ ap (λ o. changed o v) mine
      | inr n ↦ renewed_other es c v k n ∙ h
    ]

once_renewed : (es : List Entry) (c v : ℕ) → HeldOnce es → HeldOnce (renewed es c v)
once_renewed [] c v o = tt
once_renewed (e ∷ es) c v o = (
  ap (held_value (renewed es c v)) (same_cell e c v) ∙ none_renewed es c v e.cell o.0,
  once_renewed es c v o.1,
)

none_parts : (o : Option ℕ) (d c v : ℕ) → or_else o (cond (eqb d c) (Some v) None) ≡ None → (o ≡ None) × (d ≡ c → ⊥)
none_parts (Some x) d c v h = let z : ◌≡◌ {A = ℕ} 0 1 = cc in absurd (omega arith)
none_parts None d c v h =
    (refl, λ q. let e = rw (eq-eqb d c q) at h in let z : ◌≡◌ {A = ℕ} 0 1 = cc in omega arith)

-- an entry of another cell behind the others
none_pushed : (es : List Entry) (c v k : ℕ) → (c ≡ k → ⊥) → held_value es k ≡ None → held_value (es ++ (entry c v ∷ [])) k ≡ None
none_pushed [] c v k n h = rw (ne_eqb c k n)
none_pushed (e ∷ es) c v k n h =
    let p = none_parts (held_value es k) e.cell k e.value h in
    rw (none_pushed es c v k n p.0, ne_eqb e.cell k p.1)

once_pushed : (es : List Entry) (c v : ℕ) → HeldOnce es → held_value es c ≡ None → HeldOnce (es ++ (entry c v ∷ []))
once_pushed [] c v o h = (refl, tt)
once_pushed (e ∷ es) c v o h =
    let p = none_parts (held_value es c) e.cell c e.value h in
    (none_pushed es c v e.cell (λ q. p.1 (sym q)) o.0, once_pushed es c v o.1 p.0)

by_value : (es : List Entry) (c v : ℕ) (o : Option ℕ) → held_value es c ≡ o → (length es ≤ 16) × HeldOnce es
    → (length (written_by o es c v) ≤ 16) × HeldOnce (written_by o es c v)
by_value es c v (Some old) h s = let l = length-renewed es c v in (omega (arith, s.0), once_renewed es c v s.1)
by_value [] c v None h s = (omega arith, (refl, tt))
by_value (e ∷ es) c v None h s =
    let p = none_parts (held_value es c) e.cell c e.value h in
    elim (cases_lt (length (e ∷ es)) 16) [
      | inl a ↦
          rw (lt-ltb (length (e ∷ es)) 16 a)
          (let l = length-append (e ∷ es) (entry c v ∷ []) in (omega arith, once_pushed (e ∷ es) c v s.1 h))
      | inr b ↦
          rw (le-ltb (length (e ∷ es)) 16 b)
          (let l = length-append es (entry c v ∷ []) in (omega (arith, s.0), once_pushed es c v s.1.1 p.0))
    ]

pub at_most_sixteen : (es : List Entry) (c v : ℕ) → (length es ≤ 16) × HeldOnce es → (length (written es c v) ≤ 16) × HeldOnce (written es c v)
at_most_sixteen es c v s = by_value es c v (held_value es c) refl s
