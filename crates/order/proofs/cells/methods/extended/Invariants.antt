use Rattle.std.proofs.Common.{◌≡◌, drop}
use Rattle.order.specs.Orders.{listed}
use Rattle.order.specs.Refusals.{gathered}
use Rattle.order.proofs.cells.methods.extended.Given as goal

-- what is left to add gives the whole
abbrev pub invariant-loop-cell : goal.invariant-loop-cell
invariant-loop-cell l = gathered (listed l.list) (drop l.cell-index l.cells) ≡ gathered (listed l.initial.list) l.cells
