use Rattle.std.proofs.Common.{map, take}
use Rattle.std.specs.Fmt.{HasWritten, IsPlainFormatter}
use Rattle.order.specs.Orders.{stock_order}
use Rattle.answer.specs.Texts.{accepted_text}
use Rattle.answer.proofs.decoded.AcceptedDisplay.fmt.Given as goal

-- the orders so far are written
abbrev pub invariant-loop-number : goal.invariant-loop-number
invariant-loop-number g l =
    IsPlainFormatter l.fn.f → HasWritten g.W.Write.write_str_gives l.fn.f (accepted_text (map stock_order (take l.number l.self.0.now))) l.f
