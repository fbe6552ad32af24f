-- Facts on the orders of accepted records, one by one and of a whole telegram.
use Rattle.std.proofs.Common.{◌≡◌, ℕ, suc, ◌+◌, ◌-◌, ◌<◌, ◌≤◌, false, ltb, List, [], ◌∷◌, ◌++◌, map, length, take, drop, set, Ok, Err, Result, MatchResult, sym, refl, ap, ◌∙◌, arith}
use Rattle.std.proofs.lemmas.List.{append_assoc, append-nil, map-append, length-map, take_more_set, take_all, drop-map}
use Rattle.std.proofs.lemmas.Bool.Decides.{nat_tests}
use Rattle.order.specs.declared.stock.Order.{Order}
use Rattle.order.specs.Orders.{StockOrder, stock_order}
use Rattle.order.proofs.Gather.{gathered_fits}
use Rattle.telegram.specs.declared.refusal.Refusal.{Refusal}
use Rattle.telegram.specs.Decode.{Read, got, refused, next, DecodedOrder, order_of, record_at, records_at, count_at, end_at}
use Rattle.telegram.specs.Laws.{SoundOrder}
use Rattle.telegram.specs.declared.refusal.Refused.{Refused}
use Rattle.telegram.specs.Records.{held_order, order_in, seen_by}
use Rattle.telegram.specs.Whole.{order_at, orders_at, orders_of}
use Rattle.telegram.proofs.Sound.{got_record}

-- a sound record's order is itself
pub order_sound : (d : DecodedOrder) → SoundOrder d → order_in d ≡ Ok (order_of d)
order_sound d s =
    let low : ltb 7 d.class ≡ false = grind (arith, nat_tests) in
    let reads = gathered_fits [] d.reads.cells s.1.0 s.1.1 in
    let writes = gathered_fits [] d.writes.cells s.2.0 s.2.1 in
    rw (low, reads, writes)

sound_at : (t : List ℕ) (p q : ℕ) (d : DecodedOrder) → p ≤ length t → got d q ≡ record_at t p → SoundOrder d
sound_at t p q d l e = (got_record t p q d l (sym e)).2

pub order_read : (t : List ℕ) (p q : ℕ) (d : DecodedOrder) (o : StockOrder) → p ≤ length t → got d q ≡ record_at t p → Ok o ≡ order_in d → got o q ≡ order_at t p
order_read t p q d o l e h =
    let s = order_sound d (sound_at t p q d l e) in
    let same : o ≡ order_of d = cc in
    rw (sym e, same)

pub order_kept : (t : List ℕ) (p q : ℕ) (d : DecodedOrder) (e : Refusal) → p ≤ length t → got d q ≡ record_at t p → Err e ≡ order_in d → ⊥
order_kept t p q d e l g h =
    let s = order_sound d (sound_at t p q d l g) in
    let z : ◌≡◌ {A = ℕ} 0 1 = cc in
    omega arith

-- a sound record's order is the answer, whatever a refusal would have become
pub order_taken : (t : List ℕ) (p q : ℕ) (d : DecodedOrder) (x : Result Order Refusal) (y : Result Order Refused) (Otherwise : Refusal → Type 0) → p ≤ length t → got d q ≡ record_at t p → held_order x ≡ order_in d
    → MatchResult x (λ o. y ≡ Ok o) Otherwise → seen_by stock_order y q ≡ order_at t p
order_taken t p q d (Ok o) y Otherwise l e h m = rw m (order_read t p q d (stock_order o) l e h)
order_taken t p q d (Err r) y Otherwise l e h m = absurd (order_kept t p q d r l e h)

-- n records from p on, after the orders xs
abbrev pub remaining : ℕ → List ℕ → ℕ → List StockOrder → Read (List StockOrder)
remaining n t p xs = next (records_at n t p) (λ ds q. got (xs ++ map order_of ds) q)

-- one order more is read
pub remaining_more : (m : ℕ) (t : List ℕ) (p q : ℕ) (xs : List StockOrder) (o : StockOrder) → got o q ≡ order_at t p → remaining (suc m) t p xs ≡ remaining m t q (xs ++ (o ∷ []))
remaining_more m t p q xs o e = step (record_at t p) e
  where
    after : (d : DecodedOrder) (w : Read (List DecodedOrder)) → o ≡ order_of d → next (next w (λ ds r. got (d ∷ ds) r)) (λ ds q. got (xs ++ map order_of ds) q) ≡ next w (λ ds q. got ((xs ++ (o ∷ [])) ++ map order_of ds) q)
    after d (refused e r) h = refl
    after d (got ds r) h = ap (λ (l : List StockOrder). got l r) (ap (λ x. xs ++ (x ∷ map order_of ds)) (sym h) ∙ sym (append_assoc xs (o ∷ []) (map order_of ds)))

    step : (r : Read DecodedOrder) → got o q ≡ next r (λ d z. got (order_of d) z)
        → next (next r (λ d z. next (records_at m t z) (λ ds r. got (d ∷ ds) r))) (λ ds q. got (xs ++ map order_of ds) q) ≡ remaining m t q (xs ++ (o ∷ []))
    step (refused e r) h = let z : ◌≡◌ {A = ℕ} 0 1 = cc in absurd (omega arith)
    step (got d z) h =
        let same : o ≡ order_of d = cc in
        let at : z ≡ q = cc in
        after d (records_at m t z) same ∙ ap (λ n. remaining m t n (xs ++ (o ∷ []))) at

-- or refused
pub remaining_stop : (m : ℕ) (t : List ℕ) (p r : ℕ) (xs : List StockOrder) (e : Refusal) → refused e r ≡ order_at t p → remaining (suc m) t p xs ≡ refused e r
remaining_stop m t p r xs e h = step (record_at t p) h
  where
    step : (w : Read DecodedOrder) → refused e r ≡ next w (λ d z. got (order_of d) z)
        → next (next w (λ d z. next (records_at m t z) (λ ds r. got (d ∷ ds) r))) (λ ds q. got (xs ++ map order_of ds) q) ≡ refused e r
    step (refused f z) h = cc
    step (got d z) h = let y : ◌≡◌ {A = ℕ} 0 1 = cc in absurd (omega arith)

-- a turn of the loop over places for orders
pub places_again : (n k : ℕ) (t : List ℕ) (p q : ℕ) (places : List Order) (o : Order) (d : Read (List StockOrder)) → k < n → k < length places → got (stock_order o) q ≡ order_at t p
    → remaining (n - k) t p (map stock_order (take k places)) ≡ d → remaining (n - (k + 1)) t q (map stock_order (take (k + 1) (set places k o))) ≡ d
places_again n k t p q places o d l m e i =
    let s : n - k ≡ suc (n - (k + 1)) = omega arith in
    let more : map stock_order (take (k + 1) (set places k o)) ≡ map stock_order (take k places) ++ (stock_order o ∷ []) =
    ap (map stock_order) (take_more_set places k o m) ∙ map-append stock_order (take k places) (o ∷ []) in
    rw more (sym (remaining_more (n - (k + 1)) t p q (map stock_order (take k places)) (stock_order o) e) ∙ (rw s at i))

pub places_stop : (n k : ℕ) (t : List ℕ) (p r : ℕ) (xs : List StockOrder) (e : Refusal) (d : Read (List StockOrder)) → k < n → refused e r ≡ order_at t p
    → remaining (n - k) t p xs ≡ d → refused e r ≡ d
places_stop n k t p r xs e d l h i =
    let s : n - k ≡ suc (n - (k + 1)) = omega arith in
    sym (remaining_stop (n - (k + 1)) t p r xs e h) ∙ (rw s at i)

-- all places are filled
pub places_all : (n k : ℕ) (t : List ℕ) (p : ℕ) (places : List Order) (d : Read (List StockOrder)) → length places ≡ n → n ≤ k → remaining (n - k) t p (map stock_order (take k places)) ≡ d → got (map stock_order places) p ≡ d
places_all n k t p places d len l i =
    let s : n - k ≡ 0 = omega arith in
    let all : map stock_order (take k places) ++ [] ≡ map stock_order places = append-nil (map stock_order (take k places)) ∙ ap (map stock_order) (take_all k places (omega arith)) in
    ap (λ (xs : List StockOrder). got xs p) (sym all) ∙ (rw s at i)

-- the orders of a telegram: its count, its orders one after another, and nothing left over
pub orders_in_turn : (t : List ℕ) → orders_of t ≡ next (count_at t 0) (λ n p. next (orders_at n t p) (λ os q. next (end_at t q) (λ _ r. got os r)))
orders_in_turn t = by_count (count_at t 0)
  where
    by_end : (ds : List DecodedOrder) (w : Read (Unit {0})) → next (next w (λ _ r. got ds r)) (λ ds q. got (map order_of ds) q) ≡ next w (λ _ r. got (map order_of ds) r)
    by_end ds (refused e r) = refl
    by_end ds (got u r) = refl

    by_records : (w : Read (List DecodedOrder)) → next (next w (λ os q. next (end_at t q) (λ _ r. got os r))) (λ ds q. got (map order_of ds) q) ≡ next (next w (λ ds q. got (map order_of ds) q)) (λ os q. next (end_at t q) (λ _ r. got os r))
    by_records (refused e r) = refl
    by_records (got ds q) = by_end ds (end_at t q)

    by_count : (w : Read ℕ) → next (next w (λ n p. next (records_at n t p) (λ os q. next (end_at t q) (λ _ r. got os r)))) (λ ds q. got (map order_of ds) q) ≡ next w (λ n p. next (orders_at n t p) (λ os q. next (end_at t q) (λ _ r. got os r)))
    by_count (refused e r) = refl
    by_count (got n p) = by_records (records_at n t p)

-- a table whose first places are filled
pub table_whole : (n : ℕ) (places old : List Order) → length places ≡ n → map stock_order (places ++ drop n old) ≡ map stock_order places ++ drop (length (map stock_order places)) (map stock_order old)
table_whole n places old l =
    let m : length (map stock_order places) ≡ n = length-map places stock_order ∙ l in
    map-append stock_order places (drop n old) ∙ ap (λ (r : List StockOrder). map stock_order places ++ r) (sym (drop-map stock_order n old) ∙ ap (λ j. drop j (map stock_order old)) (sym m))
