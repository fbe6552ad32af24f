-- Laws of what is set up. Assumes nothing.
use Rattle.std.proofs.Common.{◌≡◌, ℕ, ◌-◌, ◌<◌, ◌≤◌, ◌⊎◌, List, [], length, get_or, take, replicate, unwrap_or, sym, ◌∙◌, inl, inr, arith}
use Rattle.std.proofs.lemmas.List.{length-append, length-take, length-replicate, get_or_append_left, get_or-append_right, get_or-take, get_or_past, get_or-replicate}
use Rattle.std.proofs.lemmas.Bool.{cases_lt}
use Rattle.sheet.specs.Setups.{values_for, store_wanted, cell_count, AnyOrder, PlaceForEach, ValuesInOrder}

-- ---- the order of lines

pub any_order : AnyOrder
any_order o p q = grind arith

-- ---- the memory

length_values : (n : ℕ) (vs : List ℕ) → length (values_for n vs) ≡ n
length_values n vs =
    omega (arith, length-append (take n vs) (replicate (n - length vs) 0), length-take n vs, length-replicate {A = ℕ} (n - length vs) 0)

pub place_for_each : PlaceForEach
place_for_each s = length_values (cell_count (store_wanted s)) (unwrap_or s.values [])

value_in_place : (n : ℕ) (vs : List ℕ) (k : ℕ) → k < n → (k < length vs) ⊎ (length vs ≤ k) → get_or (values_for n vs) k 0 ≡ get_or vs k 0
value_in_place n vs k h (inl l) =
    let front : k < length (take n vs) = omega (arith, length-take n vs) in
    get_or_append_left (take n vs) (replicate (n - length vs) 0) 0 k front ∙ get_or-take n vs k 0 h
value_in_place n vs k h (inr l) =
    let front : length (take n vs) ≡ length vs = omega (arith, length-take n vs) in
    get_or-append_right (take n vs) (replicate (n - length vs) 0) (length vs) k 0 front l
    ∙ get_or-replicate (n - length vs) (k - length vs) 0 0 (omega arith) ∙ sym (get_or_past vs k 0 l)

pub values_in_order : ValuesInOrder
values_in_order s k h = value_in_place (cell_count (store_wanted s)) (unwrap_or s.values []) k h (cases_lt k (length (unwrap_or s.values [])))
