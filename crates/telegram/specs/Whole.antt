-- What becomes of a table of orders that a whole telegram is decoded into.
use Rattle.std.specs.Prelude.{ℕ, List, ◌++◌, map, length, drop, Ok, Err, Result}
use Rattle.order.specs.Orders.{StockOrder}
use Rattle.telegram.specs.declared.refusal.Refused.{Refused}
use Rattle.telegram.specs.Decode.{Read, got, refused, next, order_of, record_at, records_at, telegram_of}

-- the orders by themselves
abbrev pub order_at : List ℕ → ℕ → Read StockOrder
order_at t p = next (record_at t p) (λ d q. got (order_of d) q)

abbrev pub orders_at : ℕ → List ℕ → ℕ → Read (List StockOrder)
orders_at n t p = next (records_at n t p) (λ ds q. got (map order_of ds) q)

abbrev pub orders_of : List ℕ → Read (List StockOrder)
orders_of t = next (telegram_of t) (λ ds q. got (map order_of ds) q)

-- the answer: how many orders, or the refusal
abbrev pub counted : Read (List StockOrder) → Result ℕ Refused
counted (got os q) = Ok (length os)
counted (refused e p) = Err (record { refusal = e; place = p })

-- the table: the orders in its first places, the other places as they stood; a refusal leaves all as it stood
abbrev pub tabled : Read (List StockOrder) → List StockOrder → List StockOrder
tabled (got os q) old = os ++ drop (length os) old
tabled (refused e p) old = old

-- how many places of the table an answer fills: none where the telegram is refused
abbrev pub filled : Result ℕ Refused → ℕ
filled (Ok n) = n
filled (Err e) = 0
