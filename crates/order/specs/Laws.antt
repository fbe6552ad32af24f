-- What holds of lists of cells.
use Rattle.std.specs.Prelude.{◌≡◌, ℕ, ◌≤◌, true, List, [], length, Ok}
use Rattle.order.specs.declared.cells.Cells.{Cells}
use Rattle.order.specs.Cells.{different}
use Rattle.order.specs.Orders.{listed}
use Rattle.order.specs.Refusals.{gathered}

-- a list has at most eight cells, all different, and each such list is taken whole
abbrev pub ListsAreSound : Type 0
ListsAreSound =
    ((l : Cells) → (length (listed l) ≤ 8) × (different (listed l) ≡ true))
    × ((cs : List ℕ) → length cs ≤ 8 → different cs ≡ true → gathered [] cs ≡ Ok cs)
