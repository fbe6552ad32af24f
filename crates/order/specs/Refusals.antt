-- Why a cell is not added to a list.
use Rattle.std.specs.Prelude.{ℕ, cond, List, [], ◌∷◌, ◌++◌, length, Ok, Err, Result, nat_le}
use Rattle.order.specs.declared.refusal.ListRefusal.{ListRefusal}
use Rattle.order.specs.declared.refusal.ListRefusal.TheVariants.{TooMany, Repeated}
use Rattle.order.specs.Cells.{has}

-- the number of each refusal
abbrev pub number_of : ListRefusal → ℕ
number_of TooMany = 6
number_of Repeated = 7

-- the answer to one cell more: a full list is refused first, then a cell that it has
abbrev pub addition : List ℕ → ℕ → Result (Unit {0}) ListRefusal
addition xs c = cond (nat_le 8 (length xs)) (Err TooMany) (cond (has xs c) (Err Repeated) (Ok tt))

-- the list after one cell more: the cell stands last, and a refusal leaves the list as it was
abbrev pub added : List ℕ → ℕ → List ℕ
added xs c = cond (nat_le 8 (length xs)) xs (cond (has xs c) xs (xs ++ (c ∷ [])))

-- what an answer leads to: a refusal stays
abbrev pub and_then : {B : Type 0} → Result (Unit {0}) ListRefusal → Result B ListRefusal → Result B ListRefusal
and_then (Ok u) b = b
and_then (Err e) b = Err e

-- cells after those that stand before them, added one by one; the first refusal stops
abbrev pub gathered : List ℕ → List ℕ → Result (List ℕ) ListRefusal
gathered before [] = Ok before
gathered before (c ∷ cs) = and_then (addition before c) (gathered (before ++ (c ∷ [])) cs)
