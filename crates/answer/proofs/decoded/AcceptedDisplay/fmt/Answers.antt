use Rattle.std.proofs.Common.{rules, arith}
use Rattle.answer.proofs.Writing.{order_written}
use Rattle.answer.proofs.decoded.AcceptedDisplay.fmt.Goals as goal

pub loop-number-preserved : goal.loop-number-preserved
loop-number-preserved g c = λ plain.
    order_written _ _ _ _ c.args.self.now.0.now c.loop-number.number c.order-item.result (omega arith) c.order-item.is (c.loop-number.invariant plain) (search rules)
