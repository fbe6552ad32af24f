-- The table of entries as a list by age. Assumes nothing.
use Rattle.std.proofs.Common.{◌≡◌, ℕ, zero, suc, ◌+◌, ◌<◌, Bool, true, false, cond, eqb, reverse, List, [], ◌∷◌, ◌++◌, length, get_or, take, drop, set, Some, None, Option, refl, ap, ◌∙◌, arith}
use Rattle.std.proofs.lemmas.Bool.{eq-eqb, ne_eqb}
use Rattle.std.proofs.lemmas.List.Folds.{find-append}
use Rattle.std.proofs.lemmas.Grind.{reverse_onto}
use Rattle.std.specs.Option.{option_map, option_or}
use Rattle.std.specs.List.{find}
use Rattle.write_buffer.specs.declared.entries.Entry.{Entry}
use Rattle.write_buffer.specs.Held.{entry, or_else, held_value, renewed}

youngest : (o : Option Entry) (b : Bool) (e : Entry)
    → option_map (λ (x : Entry). x.value) (option_or o (cond b (Some e) None)) ≡ or_else (option_map (λ (x : Entry). x.value) o) (cond b (Some e.value) None)
youngest (Some x) b e = refl
youngest None true e = refl
youngest None false e = refl

-- from the back, the first entry of a cell is the youngest
pub held_reversed : (es : List Entry) (c : ℕ) → option_map (λ (e : Entry). e.value) (find (λ (e : Entry). eqb e.cell c) (reverse es)) ≡ held_value es c
held_reversed [] c = refl
held_reversed (e ∷ es) c =
    let test : Entry → Bool = λ x. eqb x.cell c in
    rw (reverse_onto es e [], find-append test (reverse es) (e ∷ []))
    (youngest (find test (reverse es)) (eqb e.cell c) e ∙ ap (λ o. or_else o (cond (eqb e.cell c) (Some e.value) None)) (held_reversed es c))

-- those passed, and then those to come renewed
abbrev pub passed : List Entry → ℕ → ℕ → ℕ → List Entry
passed es i c v = take i es ++ renewed (drop i es) c v

-- one entry more is passed
renew_at : (es : List Entry) (i c v : ℕ) → i < length es
    → passed (set es i (cond (eqb (get_or es i (entry 0 0)).cell c) (entry c v) (get_or es i (entry 0 0)))) (suc i) c v ≡ passed es i c v
renew_at [] i c v l = absurd (omega arith)
renew_at (x ∷ es) zero c v l = refl
renew_at (x ∷ es) (suc i) c v l = ap (λ t. x ∷ t) (renew_at es i c v (omega arith))

next : (es fs : List Entry) (i c v : ℕ) (x : Entry) → i < length es → x ≡ cond (eqb (get_or es i (entry 0 0)).cell c) (entry c v) (get_or es i (entry 0 0))
    → fs ≡ set es i x → passed fs (i + 1) c v ≡ passed es i c v
next es fs i c v x l e is =
    let n : i + 1 ≡ suc i = omega arith in
    rw (n, is, e) (renew_at es i c v l)

pub renewing_same : (es fs : List Entry) (i c v : ℕ) → i < length es → (get_or es i (entry 0 0)).cell ≡ c
    → fs ≡ set es i (entry (get_or es i (entry 0 0)).cell v) → passed fs (i + 1) c v ≡ passed es i c v
renewing_same es fs i c v l e is =
    let d = (get_or es i (entry 0 0)).cell in
    next es fs i c v (entry d v) l (rw (eq-eqb d c e) (ap (λ k. entry k v) e)) is

pub renewing_other : (es fs : List Entry) (i c v : ℕ) → i < length es → ((get_or es i (entry 0 0)).cell ≡ c → ⊥)
    → fs ≡ set es i (get_or es i (entry 0 0)) → passed fs (i + 1) c v ≡ passed es i c v
renewing_other es fs i c v l n is =
    next es fs i c v (get_or es i (entry 0 0)) l (rw (ne_eqb (get_or es i (entry 0 0)).cell c n)) is

pub renewed_take : (n : ℕ) (es : List Entry) (c v : ℕ) → take n (renewed es c v) ≡ renewed (take n es) c v
renewed_take zero es c v = refl
renewed_take (suc n) [] c v = refl
renewed_take (suc n) (x ∷ es) c v = ap (λ t. cond (eqb x.cell c) (entry c v) x ∷ t) (renewed_take n es c v)
