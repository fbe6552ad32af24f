use Rattle.std.proofs.Common.{◌≡◌, ◌-◌, ◌++◌, map, length, take}
use Rattle.order.specs.Orders.{stock_order}
use Rattle.telegram.specs.Decode.{got, next, order_of, records_at}
use Rattle.telegram.specs.Whole.{orders_at}
use Rattle.telegram.proofs.whole.next_orders.Given as goal

-- what is left to read, after the orders that were put down, is the whole
abbrev pub invariant-loop-place : goal.invariant-loop-place
invariant-loop-place l = record {
  same : l.reader.bytes.now ≡ l.fn.reader.bytes.now;
  whole : next (records_at (length l.fn.places - l.place-index) l.fn.reader.bytes.now l.reader.place) (λ ds q. got (map stock_order (take l.place-index l.places) ++ map order_of ds) q) ≡ orders_at (length l.fn.places) l.fn.reader.bytes.now l.fn.reader.place;
}
