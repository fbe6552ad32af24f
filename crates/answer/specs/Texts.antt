-- The lines that answer a run sheet, as bytes. Assumes nothing.
use Rattle.std.specs.Prelude.{ℕ, suc, List, [], ◌∷◌, ◌++◌, codes, decimal}
use Rattle.order.specs.Orders.{StockOrder}
use Rattle.telegram.specs.Refusals.{number_of}
use Rattle.telegram.specs.Decode.{Read, got, refused}

-- each cell of a list with a space before it
abbrev pub cells_text : List ℕ → List ℕ
cells_text [] = []
cells_text (c ∷ cs) = codes " " ++ (decimal c ++ cells_text cs)

-- the lists of an order
abbrev pub lists_text : List ℕ → List ℕ → List ℕ
lists_text reads writes = codes ", reads" ++ (cells_text reads ++ (codes ", writes" ++ cells_text writes))

-- the line of the order with the number k, around the text of its lists
abbrev pub order_around : ℕ → StockOrder → List ℕ → List ℕ
order_around k o lists =
    codes "order " ++ (decimal k
    ++ (codes ": class " ++ (decimal o.class
    ++ (codes ", code " ++ (decimal o.code
    ++ (codes ", argument " ++ (decimal o.argument ++ (lists ++ codes "\n"))))))))

abbrev pub order_text : ℕ → StockOrder → List ℕ
order_text k o = order_around k o (lists_text o.reads o.writes)

-- the lines of orders whose first has the number k
abbrev pub order_texts : ℕ → List StockOrder → List ℕ
order_texts k [] = []
order_texts k (o ∷ os) = order_text k o ++ order_texts (suc k) os

abbrev pub accepted_text : List StockOrder → List ℕ
accepted_text os = codes "decode: accepted\n" ++ order_texts 0 os

abbrev pub refused_text : ℕ → ℕ → List ℕ
refused_text n p = codes "decode: refused " ++ (decimal n ++ (codes " at " ++ (decimal p ++ codes "\n")))

-- the answer to `decode`
abbrev pub decode_text : Read (List StockOrder) → List ℕ
decode_text (got os q) = accepted_text os
decode_text (refused e p) = refused_text (number_of e) p
