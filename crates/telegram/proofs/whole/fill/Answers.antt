use Rattle.std.proofs.Common.{◌≡◌, map, length, rules}
use Rattle.order.specs.Orders.{stock_order}
use Rattle.telegram.specs.Decode.{got}
use Rattle.telegram.specs.Whole.{orders_of}
use Rattle.telegram.proofs.Orders.{table_whole, orders_in_turn}
use Rattle.telegram.proofs.whole.fill.Goals as goal

pub returns-clause-table : goal.returns-clause-table
returns-clause-table c =
    let n = c.from-count.result in
    let places = c.next_orders.new.places in
    let old = c.args.table.now in
    let l : length places ≡ n = search rules in
    let w : orders_of c.args.bytes.now ≡ got (map stock_order places) c.next_orders.new.reader.place = search (rules, orders_in_turn) in
    rw w (table_whole n places old l)
