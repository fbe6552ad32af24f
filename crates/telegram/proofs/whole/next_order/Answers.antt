use Rattle.telegram.specs.Records.{decoded}
use Rattle.telegram.proofs.Orders.{order_taken}
use Rattle.telegram.proofs.whole.next_order.Goals as goal

pub returns : goal.returns
returns c =
    let r = c.args.reader.now in
    (c.next_record.ensures.same, order_taken r.bytes.now r.place c.next_record.new.self.place (decoded c.in_ok-record.record) c.try_from.result c.map_err.result _ r.inside c.in_ok-record.ensures.value c.try_from.ensures c.map_err.ensures.cases)
