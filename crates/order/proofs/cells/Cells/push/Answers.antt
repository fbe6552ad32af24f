use Rattle.std.proofs.Common.{◌≡◌, ◌<◌, false, length, take, sym, ◌∙◌, arith}
use Rattle.order.specs.Cells.{has}
use Rattle.order.proofs.Lists.{pushed_fits}
use Rattle.order.proofs.cells.Cells.push.Goals as goal

pub invariant_of-self : goal.invariant_of-self
invariant_of-self c =
    let s = c.args.self.now in
    let l : s.count < length s.items = omega arith in
    let h : has (take s.count s.items) c.args.cell ≡ false = sym c.contains.ensures ∙ c.if-contains.false in
    record { few = omega arith; apart = pushed_fits s.items s.count c.args.cell l s.apart h }
