use Rattle.std.proofs.Common.{◌≡◌, [], length}
use Rattle.order.specs.Orders.{listed}
use Rattle.order.specs.Refusals.{gathered}
use Rattle.telegram.specs.Decode.{cells_of}
use Rattle.telegram.proofs.list.CellsTryFromCellList.try_from.Given as goal

-- what is left to add gives the whole
abbrev pub invariant-loop-left : goal.invariant-loop-left
invariant-loop-left l = gathered (listed l.cells) (cells_of l.left) ≡ gathered [] (cells_of l.list.entries.now)

abbrev pub decreases-loop-left : goal.decreases-loop-left
decreases-loop-left l = length l.left
