use Rattle.std.proofs.Common.{length, ◌∙◌, rules, arith}
use Rattle.std.proofs.lemmas.Result.{err_from_is_err_and}
use Rattle.telegram.proofs.Orders.{places_again, places_stop, places_all}
use Rattle.telegram.proofs.whole.next_orders.Goals as goal

pub returns-in_err-place : goal.returns-in_err-place
returns-in_err-place c =
    let i = c.loop-place.invariant in
    let p = err_from_is_err_and c.from_residual.result c.from_residual.ensures.1 in
    let v = rw i.same at c.in_err-place.ensures.1 in
    rw (p.1, p.2) (c.next_order.ensures.0 ∙ i.same, places_stop (length c.args.places.now) c.loop-place.place-index c.args.reader.now.bytes.now c.loop-place.reader.place _ _ _ _ (omega arith) v i.whole)

pub loop-place-preserved : goal.loop-place-preserved
loop-place-preserved c =
    let i = c.loop-place.invariant in
    let v = rw i.same at c.in_ok-place.ensures.1 in record {
      same = search rules;
      whole = places_again (length c.args.places.now) c.loop-place.place-index c.args.reader.now.bytes.now c.loop-place.reader.place c.next_order.new.reader.place c.loop-place.places c.in_ok-place.field-0 _ (omega arith) (omega arith) v i.whole;
    }

pub returns : goal.returns
returns c =
    (c.loop-place.invariant.same, places_all (length c.args.places.now) c.loop-place.place-index c.args.reader.now.bytes.now c.loop-place.reader.place c.loop-place.places _ (search rules) (omega arith) c.loop-place.invariant.whole)
