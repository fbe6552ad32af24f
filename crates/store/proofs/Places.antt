-- Places of values: a write to one changes the value of no other cell. Assumes nothing.
use Rattle.std.proofs.Common.{◌≡◌, ℕ, ◌<◌, cond, eqb, List, length, set, Some, None, Ok, Option, refl, ap, ◌∙◌, inl, inr, get_or-set_same, get_or-set_other, ◌≢◌}
use mathlib.Core.Path.{fun_ext}
use Rattle.std.proofs.lemmas.Bool.{eq-eqb, ne_eqb, cases_eq}
use Rattle.std.proofs.lemmas.List.{length-set}
use Rattle.store.specs.declared.slices.SliceStore.{SliceStore}
use Rattle.store.specs.declared.layout.Layout as Layout
use Rattle.store.specs.Meaning.{rewritten, put}
use Rattle.store.specs.Seen.{slice_seen, SliceWrote}
use Rattle.store.specs.Slices.{set_at}
use Rattle.store.specs.Sparse.{value_at}

same_value : (o : Option ℕ) (vs : List ℕ) (k i w : ℕ) → (o ≡ Some i → ⊥) → value_at o (set vs i w) k ≡ value_at o vs k
same_value None vs k i w n = refl
same_value (Some j) vs k i w n =
    let other : j ≢ i = λ e. n (ap Some e) in
    ap Ok (get_or-set_other vs i j w 0 other)

by_place : (o p : Option ℕ) (vs : List ℕ) (c k w : ℕ) → ((i : ℕ) → o ≡ Some i → i < length vs) → ((i : ℕ) → o ≡ Some i → p ≡ Some i → k ≡ c)
    → (k ≡ c → p ≡ o) → value_at p (set_at o vs w) k ≡ cond (eqb k c) (rewritten (value_at p vs k) w) (value_at p vs k)
by_place None p vs c k w b a s =
    elim (cases_eq k c) [
      | inl q ↦ rw (eq-eqb k c q, s q)
      | inr n ↦ rw (ne_eqb k c n)
    ]
by_place (Some i) p vs c k w b a s =
    elim (cases_eq k c) [
      | inl q ↦ rw (eq-eqb k c q, s q) (ap Ok (get_or-set_same vs i w 0 (b i refl)))
      | inr n ↦ rw (ne_eqb k c n) (same_value p vs k i w (λ q. n (a i refl q)))
    ]

same_length : (o : Option ℕ) (vs : List ℕ) (w : ℕ) → length (set_at o vs w) ≡ length vs
same_length None vs w = refl
same_length (Some i) vs w = length-set vs i w

-- a write at the place of a cell changes the value of that cell alone, as no other has the place
pub wrote_sets : {X : Type 0} (L : Layout.Ghosts X) (s t : SliceStore X) (c w : ℕ)
    → ((x : X) (n d i : ℕ) → L.place x n d ≡ Some i → i < n)
    → ((x : X) (n d k i : ℕ) → L.place x n d ≡ Some i → L.place x n k ≡ Some i → d ≡ k)
    → SliceWrote L s c w t → slice_seen L t ≡ put (slice_seen L s) c w
wrote_sets L s t c w within apart h =
    let n = length s.values.now in
    let find = L.place s.layout n in
    fun_ext
    (λ k.
    let same : L.place t.layout (length t.values.now) k ≡ find k
    = ap (λ x. L.place x (length t.values.now) k) h.0 ∙ ap (λ m. L.place s.layout m k) (ap length h.2 ∙ same_length (find c) s.values.now w) in
    rw (same, h.2) (by_place (find c) (find k) s.values.now c k w (λ i q. within s.layout n c i q) (λ i q r. apart s.layout n k c i r q) (λ e. ap find e)))
