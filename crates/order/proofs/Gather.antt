-- Facts on cells that are added one by one.
use Rattle.std.proofs.Common.{◌≡◌, ℕ, ◌<◌, ◌≤◌, Bool, true, false, cond, leb, List, [], ◌∷◌, ◌++◌, length, Ok, Err, Result, sym, refl, ap, ◌∙◌, arith, length-append}
use Rattle.std.proofs.lemmas.List.{append_assoc, append-nil}
use Rattle.std.proofs.lemmas.Bool.Decides.{nat_tests}
use Rattle.order.specs.declared.refusal.ListRefusal.{ListRefusal}
use Rattle.order.specs.declared.refusal.ListRefusal.TheVariants.{TooMany, Repeated}
use Rattle.order.specs.Cells.{has, different}
use Rattle.order.proofs.Lists.{lacks_middle}
use Rattle.order.specs.Refusals.{addition, added, and_then, gathered}

-- a cell that was taken was not there before, and stands last
pub taken : (xs : List ℕ) (c : ℕ) → Ok tt ≡ addition xs c → (has xs c ≡ false) × (added xs c ≡ xs ++ (c ∷ []))
taken xs c e = by_cases (leb 8 (length xs)) (has xs c) e
  where
    by_cases : (a b : Bool) → Ok (tt {0}) ≡ cond a (Err TooMany) (cond b (Err Repeated) (Ok (tt {0}))) → (b ≡ false) × (cond a xs (cond b xs (xs ++ (c ∷ []))) ≡ xs ++ (c ∷ []))
    by_cases true b e = let z : ◌≡◌ {A = ℕ} 0 1 = cc in absurd (omega arith)
    by_cases false true e = let z : ◌≡◌ {A = ℕ} 0 1 = cc in absurd (omega arith)
    by_cases false false e = (refl, refl)

-- a list that has room refuses a cell only where it has it
pub repeated : (xs : List ℕ) (c : ℕ) (e : ListRefusal) → length xs < 8 → Err e ≡ addition xs c → (has xs c ≡ true) × (e ≡ Repeated)
repeated xs c e l h =
    let room : leb 8 (length xs) ≡ false = grind (arith, nat_tests) in
    by_cases (leb 8 (length xs)) (has xs c) room h
  where
    by_cases : (a b : Bool) → a ≡ false → ◌≡◌ {A = Result (Unit {0}) ListRefusal} (Err e) (cond a (Err TooMany) (cond b (Err Repeated) (Ok (tt {0})))) → (b ≡ true) × (e ≡ Repeated)
    by_cases true b r h = let z : ◌≡◌ {A = ℕ} 0 1 = cc in absurd (omega arith)
    by_cases false true r h = (refl, cc)
    by_cases false false r h = let z : ◌≡◌ {A = ℕ} 0 1 = cc in absurd (omega arith)

-- one cell more is taken
pub gathered_more : (before after : List ℕ) (c : ℕ) (cs : List ℕ) → Ok tt ≡ addition before c → after ≡ added before c → gathered before (c ∷ cs) ≡ gathered after cs
gathered_more before after c cs e a =
    ap (λ (r : Result (Unit {0}) ListRefusal). and_then r (gathered (before ++ (c ∷ [])) cs)) (sym e) ∙ ap (λ (l : List ℕ). gathered l cs) (sym (a ∙ (taken before c e).1))

-- a list of at most eight different cells is taken whole
pub gathered_fits : (before xs : List ℕ) → length (before ++ xs) ≤ 8 → different (before ++ xs) ≡ true → gathered before xs ≡ Ok (before ++ xs)
gathered_fits before [] l d = ap Ok (sym (append-nil before))
gathered_fits before (x ∷ xs) l d =
    let e = append_assoc before (x ∷ []) xs in
    let n : length before < 8 = omega (arith, length-append before (x ∷ xs)) in
    let a : leb 8 (length before) ≡ false = grind (arith, nat_tests) in
    let b = lacks_middle before x xs d in
    let step : addition before x ≡ Ok (tt {0}) = rw (a, b) in
    ap (λ (r : Result (Unit {0}) ListRefusal). and_then r (gathered (before ++ (x ∷ [])) xs)) step
    ∙ (gathered_fits (before ++ (x ∷ [])) xs (rw e l) (rw e d) ∙ ap Ok e)
