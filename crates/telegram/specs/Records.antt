-- What the code's answers say of a telegram.
use Rattle.std.specs.Prelude.{◌≡◌, ℕ, ◌*◌, cond, List, [], length, take, drop, Ok, Err, Result, nat_lt}
use Rattle.order.specs.declared.stock.Order.{Order}
use Rattle.order.specs.declared.refusal.ListRefusal.{ListRefusal}
use Rattle.order.specs.Orders.{StockOrder, stock_order}
use Rattle.order.specs.Refusals.{gathered}
use Rattle.telegram.specs.declared.refusal.Refusal.{Refusal}
use Rattle.telegram.specs.declared.refusal.Refusal.TheVariants.{BadClass}
use Rattle.telegram.specs.declared.refusal.Refused.{Refused}
use Rattle.telegram.specs.declared.list.CellList.{CellList}
use Rattle.telegram.specs.declared.record.Record.{Record}
use Rattle.telegram.specs.Refusals.{from_list}
use Rattle.telegram.specs.Decode.{Read, got, refused, DecodedList, DecodedOrder, cells_of}

abbrev pub decoded_list : CellList → DecodedList
decoded_list l = record { place = l.place; cells = cells_of l.entries.now }

abbrev pub decoded : Record → DecodedOrder
decoded r = record { class = r.class; code = r.code; argument = r.argument; reads = decoded_list r.reads; writes = decoded_list r.writes }

-- what a function read: its answer, with the place at which it left the reader
abbrev pub seen_by : {V W : Type 0} → (V → W) → Result V Refused → ℕ → Read W
seen_by f (Ok v) q = got (f v) q
seen_by f (Err e) q = refused e.refusal e.place

abbrev pub seen : {V : Type 0} → Result V Refused → ℕ → Read V
seen r q = seen_by (λ v. v) r q

abbrev pub seen_record : Result Record Refused → ℕ → Read DecodedOrder
seen_record r q = seen_by decoded r q

-- a list is a part of the telegram: its entries are the bytes from its place on
abbrev pub PartOf : List ℕ → CellList → Type 0
PartOf t l = l.entries.now ≡ take (2 * length (cells_of l.entries.now)) (drop l.place t)

abbrev pub PartsOf : List ℕ → Record → Type 0
PartsOf t r = PartOf t r.reads × PartOf t r.writes

-- the order in an answer, or the refusal
abbrev pub held_order : Result Order Refusal → Result StockOrder Refusal
held_order (Ok o) = Ok (stock_order o)
held_order (Err e) = Err e

-- a list's cells go on, its refusal becomes the telegram's
abbrev pub with_cells : {B : Type 0} → Result (List ℕ) ListRefusal → (List ℕ → Result B Refusal) → Result B Refusal
with_cells (Ok cs) f = f cs
with_cells (Err e) f = Err (from_list e)

-- the order of a record: its class and its lists are tested again, since anyone may make a record
abbrev pub order_in : DecodedOrder → Result StockOrder Refusal
order_in d =
    cond (nat_lt 7 d.class) (Err BadClass)
    (with_cells (gathered [] d.reads.cells) (λ reads.
    with_cells (gathered [] d.writes.cells) (λ writes.
    Ok (record { class = d.class; code = d.code; argument = d.argument; reads = reads; writes = writes }))))
