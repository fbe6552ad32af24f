-- Facts on texts that are written part by part.
use Rattle.std.proofs.Common.{◌≡◌, ℕ, suc, ◌+◌, ◌<◌, List, [], ◌∷◌, ◌++◌, map, length, get_or, take, drop, Ok, decimal, codes, sym, refl, ap, ◌∙◌, arith, append_assoc}
use Rattle.std.proofs.lemmas.List.{append-nil, length-map, length-take-le, map-append, take-map, take_at, take_more}
use Rattle.std.proofs.Output.{has_written_append}
use Rattle.std.specs.Fmt.{HasWritten}
use Rattle.std.specs.declared.fmt.Formatter.{Formatter}
use Rattle.order.specs.declared.stock.Order.{Order}
use Rattle.order.specs.Orders.{StockOrder, stock_order}
use Rattle.telegram.specs.Decode.{Read, got, refused}
use Rattle.telegram.specs.Whole.{counted, tabled}
use Rattle.answer.specs.Texts.{cells_text, order_text, order_texts, accepted_text, decode_text}

-- one cell more is written
cells_push : (xs : List ℕ) (x : ℕ) → cells_text (xs ++ x ∷ []) ≡ cells_text xs ++ (codes " " ++ decimal x)
cells_push [] x = ap (λ t. codes " " ++ t) (append-nil (decimal x))
cells_push (y ∷ ys) x =
    ap (λ t. codes " " ++ (decimal y ++ t)) (cells_push ys x)
    ∙ ap (λ t. codes " " ++ t) (sym (append_assoc (decimal y) (cells_text ys) (codes " " ++ decimal x)))

pub cell_written : {W : Type 0} (took : W → List ℕ → W → Type 0) (f g h : Formatter W) (xs : List ℕ) (i : ℕ) → i < length xs
    → HasWritten took f (cells_text (take i xs)) g → HasWritten took g (codes " " ++ decimal (get_or xs i 0)) h
    → HasWritten took f (cells_text (take (i + 1) xs)) h
cell_written took f g h xs i l before now =
    let more : cells_text (take (i + 1) xs) ≡ cells_text (take i xs) ++ (codes " " ++ decimal (get_or xs i 0)) =
    ap cells_text (take_more xs i 0 l) ∙ cells_push (take i xs) (get_or xs i 0) in
    rw more (has_written_append _ _ _ _ _ _ before now)

-- one order more is written, whose number is how many there were
orders_push : (k n : ℕ) (os : List StockOrder) (o : StockOrder) → k + length os ≡ n → order_texts k (os ++ o ∷ []) ≡ order_texts k os ++ order_text n o
orders_push k n [] o e =
    let same : k ≡ n = omega arith in
    append-nil (order_text k o) ∙ ap (λ j. order_text j o) same
orders_push k n (p ∷ os) o e =
    ap (λ t. order_text k p ++ t) (orders_push (suc k) n os o (omega arith))
    ∙ sym (append_assoc (order_text k p) (order_texts (suc k) os) (order_text n o))

pub order_written : {W : Type 0} (took : W → List ℕ → W → Type 0) (f g h : Formatter W) (os : List Order) (k : ℕ) (o : Order) → k < length os → o ≡ get_or os k o
    → HasWritten took f (accepted_text (map stock_order (take k os))) g → HasWritten took g (order_text k (stock_order o)) h
    → HasWritten took f (accepted_text (map stock_order (take (k + 1) os))) h
order_written took f g h os k o l is before now =
    let front = map stock_order (take k os) in
    let n : length front ≡ k = length-map (take k os) stock_order ∙ length-take-le k os (omega arith) in
    let step : map stock_order (take (k + 1) os) ≡ front ++ stock_order o ∷ [] =
    ap (map stock_order) (take_more os k o l) ∙ map-append stock_order (take k os) (get_or os k o ∷ []) ∙ ap (λ x. front ++ stock_order x ∷ []) (sym is) in
    let more : accepted_text (map stock_order (take (k + 1) os)) ≡ accepted_text front ++ order_text k (stock_order o) =
    ap accepted_text step ∙ ap (λ t. codes "decode: accepted\n" ++ t) (orders_push 0 k front (stock_order o) (omega arith)) in
    rw more (has_written_append _ _ _ _ _ _ before now)

-- what the table holds is what was decoded
pub answer_accepted : (r : Read (List StockOrder)) (n : ℕ) (table : List Order) (old : List StockOrder) → Ok n ≡ counted r → map stock_order table ≡ tabled r old
    → accepted_text (map stock_order (take n table)) ≡ decode_text r
answer_accepted (refused e p) n table old k h = let z : ◌≡◌ {A = ℕ} 0 1 = cc in absurd (omega arith)
answer_accepted (got os q) n table old k h =
    let m : n ≡ length os = cc in
    let front : map stock_order (take n table) ≡ os =
    sym (take-map stock_order n table) ∙ (ap (take n) h ∙ (ap (λ j. take j (os ++ drop (length os) old)) m ∙ take_at os (drop (length os) old) (length os) refl)) in
    ap accepted_text front
