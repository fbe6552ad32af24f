use Rattle.std.proofs.Common.{◌≤◌, length, rules}
use Rattle.order.specs.Orders.{listed}
use Rattle.telegram.proofs.Bytes.{cells_again}
use Rattle.telegram.proofs.list.CellsTryFromCellList.try_from.Goals as goal

pub loop-left-preserved : goal.loop-left-preserved
loop-left-preserved c =
    let l = c.loop-left.left.now in
    let h : 2 ≤ length l = search rules in
    cells_again (listed c.loop-left.cells) (listed c.push.new.self) l c.from_be_bytes.result _ h c.from_be_bytes.ensures c.in_ok-push.ensures.answer c.push.ensures.after c.loop-left.invariant
