-- What an order is, whatever holds it.
use Rattle.std.specs.Prelude.{ℕ, List, [], take, Ok, Err, Result}
use Rattle.order.specs.declared.cells.Cells.{Cells}
use Rattle.order.specs.declared.refusal.ListRefusal.{ListRefusal}
use Rattle.order.specs.declared.stock.Order.{Order}

-- a stock order: its class, code and argument, and the cells that it reads and writes, in list order
pub record StockOrder : Type 0 where
  pub class : ℕ
  pub code : ℕ
  pub argument : ℕ
  pub reads : List ℕ
  pub writes : List ℕ

-- the cells that a `Cells` holds
abbrev pub listed : Cells → List ℕ
listed c = take c.count c.items

-- the cells in an answer, or the refusal
abbrev pub held_cells : Result Cells ListRefusal → Result (List ℕ) ListRefusal
held_cells (Ok c) = Ok (listed c)
held_cells (Err e) = Err e

-- the stock order that an `Order` holds
abbrev pub stock_order : Order → StockOrder
stock_order o = record { class = o.class; code = o.code; argument = o.argument; reads = listed o.reads; writes = listed o.writes }

-- the order of no work: it has neither list, and the class, code and argument of an order that names none
abbrev pub plain_order : StockOrder
plain_order = record { class = 4; code = 1; argument = 0; reads = []; writes = [] }
