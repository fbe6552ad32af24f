-- What the bytes of a telegram say from a place on.
use Rattle.std.specs.Prelude.{ℕ, zero, suc, ◌+◌, ◌*◌, ◌/◌, ◌%◌, ◌^◌, Bool, cond, ◌&&◌, ◌||◌, List, [], ◌∷◌, ◌++◌, length, take, drop, ◌==◌, nat_le, nat_lt, slice_index}
use Rattle.order.specs.Cells.{has}
use Rattle.order.specs.Orders.{StockOrder}
use Rattle.telegram.specs.declared.refusal.Refusal.{Refusal}
use Rattle.telegram.specs.declared.refusal.Refusal.TheVariants.{EndsEarly, LeftOver, TooManyOrders, BadMap, BadClass, BadListCount, RepeatedCell}

-- a value and the place after it, or a refusal and its place
pub data Read (V : Type 0) : Type 0 where
  got : V → ℕ → Read V
  refused : Refusal → ℕ → Read V

-- reading goes on at the place after a value, and stops at a refusal
abbrev pub next : {V W : Type 0} → Read V → (V → ℕ → Read W) → Read W
next (got v q) f = f v q
next (refused e p) f = refused e p

-- n bytes from p on, where the telegram has them; a telegram that ends early is refused at its length
abbrev pub within : {V : Type 0} → List ℕ → ℕ → ℕ → V → Read V
within t p n v = cond (nat_le (p + n) (length t)) (got v (p + n)) (refused EndsEarly (length t))

-- n bytes by themselves
abbrev pub bytes_at : ℕ → List ℕ → ℕ → Read (List ℕ)
bytes_at n t p = within t p n (take n (drop p t))

-- numbers of one, two and four bytes, the high byte first
abbrev pub byte_at : List ℕ → ℕ → Read ℕ
byte_at t p = within t p 1 (slice_index t p)

abbrev pub cell_at : List ℕ → ℕ → Read ℕ
cell_at t p = within t p 2 (slice_index t p * 256 + slice_index t (p + 1))

abbrev pub word_at : List ℕ → ℕ → Read ℕ
word_at t p = within t p 4 (slice_index t p * 16777216 + slice_index t (p + 1) * 65536 + slice_index t (p + 2) * 256 + slice_index t (p + 3))

-- whether bit k stands in a map
abbrev pub stands : ℕ → ℕ → Bool
stands m k = m / 2 ^ k % 2 == 1

-- a map byte: bits 6 and 7 are never set, bits 4 and 5 never both
abbrev pub map_at : List ℕ → ℕ → Read ℕ
map_at t p = next (byte_at t p) (λ m q. cond (stands m 6 || stands m 7 || (stands m 4 && stands m 5)) (refused BadMap p) (got m q))

-- a byte of at most max: a larger one is refused, with this refusal
abbrev pub byte_up_to : ℕ → Refusal → List ℕ → ℕ → Read ℕ
byte_up_to max e t p = next (byte_at t p) (λ b q. cond (nat_lt max b) (refused e p) (got b q))

-- a class is at most 7
abbrev pub class_at : List ℕ → ℕ → Read ℕ
class_at t p = byte_up_to 7 BadClass t p

-- n entries of a list after the cells that stand before them: none of them repeats a cell of the list
abbrev pub entries_at : ℕ → List ℕ → List ℕ → ℕ → Read (List ℕ)
entries_at zero before t p = got before p
entries_at (suc n) before t p = next (cell_at t p) (λ c q. cond (has before c) (refused RepeatedCell p) (entries_at n (before ++ (c ∷ [])) t q))

-- a list as it stands in a telegram: the place of its first entry, and its cells
pub record DecodedList : Type 0 where
  pub place : ℕ
  pub cells : List ℕ

abbrev pub entry_list : ℕ → List ℕ → ℕ → Read DecodedList
entry_list n t p = next (entries_at n [] t p) (λ cs q. got (record { place = p; cells = cs }) q)

-- a list: its count, 1 to 8, and its entries
abbrev pub list_at : List ℕ → ℕ → Read DecodedList
list_at t p = next (byte_at t p) (λ n q. cond (n == 0 || nat_lt 8 n) (refused BadListCount p) (entry_list n t q))

-- a field stands where its bit does, and else is v and takes no byte
abbrev pub field : {V : Type 0} → ℕ → ℕ → V → (ℕ → Read V) → ℕ → Read V
field m k v read p = cond (stands m k) (read p) (got v p)

-- a list without its bit is empty
abbrev pub list_field : List ℕ → ℕ → ℕ → ℕ → Read DecodedList
list_field t m k p = field m k (record { place = p; cells = [] }) (list_at t) p

-- with bit 5 the write list is the read list
abbrev pub writes_at : List ℕ → ℕ → DecodedList → ℕ → Read DecodedList
writes_at t m reads p = cond (stands m 5) (got reads p) (list_field t m 4 p)

-- an order as it stands in a telegram
pub record DecodedOrder : Type 0 where
  pub class : ℕ
  pub code : ℕ
  pub argument : ℕ
  pub reads : DecodedList
  pub writes : DecodedList

abbrev pub order_of : DecodedOrder → StockOrder
order_of d = record { class = d.class; code = d.code; argument = d.argument; reads = d.reads.cells; writes = d.writes.cells }

-- a record: its map, and then the fields whose bits stand, lowest bit first
abbrev pub record_at : List ℕ → ℕ → Read DecodedOrder
record_at t p =
    next (map_at t p) (λ m q0.
    next (field m 0 4 (class_at t) q0) (λ class q1.
    next (field m 1 1 (byte_at t) q1) (λ code q2.
    next (field m 2 0 (word_at t) q2) (λ argument q3.
    next (list_field t m 3 q3) (λ reads q4.
    next (writes_at t m reads q4) (λ writes q5.
    got (record { class = class; code = code; argument = argument; reads = reads; writes = writes }) q5))))))

-- the number of orders: at most 64
abbrev pub count_at : List ℕ → ℕ → Read ℕ
count_at t p = byte_up_to 64 TooManyOrders t p

-- n records, one after another
abbrev pub records_at : ℕ → List ℕ → ℕ → Read (List DecodedOrder)
records_at zero t p = got [] p
records_at (suc n) t p = next (record_at t p) (λ o q. next (records_at n t q) (λ os r. got (o ∷ os) r))

-- the telegram's end: the first byte left over is refused
abbrev pub end_at : List ℕ → ℕ → Read (Unit {0})
end_at t p = cond (nat_lt p (length t)) (refused LeftOver p) (got tt p)

-- a whole telegram: its count, its records, and nothing left over
abbrev pub telegram_of : List ℕ → Read (List DecodedOrder)
telegram_of t =
    next (count_at t 0) (λ n p.
    next (records_at n t p) (λ os q.
    next (end_at t q) (λ _ r. got os r)))

-- where a reader stands after it: past what was read, and where it was if that was refused
abbrev pub place_after : {V : Type 0} → ℕ → Read V → ℕ
place_after p (got v q) = q
place_after p (refused e r) = p

-- the cells of a list's bytes, two bytes a cell
abbrev pub cells_of : List ℕ → List ℕ
cells_of [] = []
cells_of (h ∷ []) = []
cells_of (h ∷ l ∷ rest) = (h * 256 + l) ∷ cells_of rest
