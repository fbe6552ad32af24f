use Rattle.order.proofs.Lists.{has_contained}
use Rattle.order.proofs.cells.methods.holds.Goals as goal

pub returns : goal.returns
returns c = has_contained c.args.cells.now c.args.cell c.contains.result c.contains.ensures.cases
