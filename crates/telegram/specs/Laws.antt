-- What holds of everything that is decoded.
use Rattle.std.specs.Prelude.{◌≡◌, ℕ, ◌<◌, ◌≤◌, true, List, length, slice_index}
use Rattle.std.specs.List.{AllByRecursion}
use Rattle.order.specs.Cells.{different}
use Rattle.telegram.specs.declared.refusal.Refusal.{Refusal}
use Rattle.order.specs.declared.refusal.ListRefusal.{ListRefusal}
use Rattle.order.specs.Refusals.{number_of as list_number_of}
use Rattle.telegram.specs.Refusals.{number_of, from_list}
use Rattle.telegram.specs.Decode.{got, refused, DecodedList, DecodedOrder, record_at, telegram_of}

-- a record takes at least one byte, and none past the telegram's end
abbrev pub DecodingGoesForward : Type 0
DecodingGoesForward = (t : List ℕ) (p q : ℕ) (d : DecodedOrder) → p ≤ length t → record_at t p ≡ got d q → (p < q) × (q ≤ length t)

-- two telegrams have the same bytes from p up to q
abbrev pub Agree : List ℕ → List ℕ → ℕ → ℕ → Type 0
Agree t u p q = (i : ℕ) → p ≤ i → i < q → slice_index t i ≡ slice_index u i

-- a record means what its own bytes say: a telegram that has the same bytes there decodes it alike
abbrev pub DecodingIsLocal : Type 0
DecodingIsLocal = (t u : List ℕ) (p q : ℕ) (d : DecodedOrder) → p ≤ length t → record_at t p ≡ got d q → q ≤ length u → Agree t u p q → record_at u p ≡ got d q

-- at most eight cells, all different
abbrev pub SoundList : DecodedList → Type 0
SoundList l = (length l.cells ≤ 8) × (different l.cells ≡ true)

abbrev pub SoundOrder : DecodedOrder → Type 0
SoundOrder d = (d.class ≤ 7) × SoundList d.reads × SoundList d.writes

-- an accepted record has a class of at most 7 and sound lists
abbrev pub RecordsAreSound : Type 0
RecordsAreSound = (t : List ℕ) (p q : ℕ) (d : DecodedOrder) → p ≤ length t → record_at t p ≡ got d q → SoundOrder d

-- a refusal's place: the length of a telegram that ends early, else a byte of it, from a on
abbrev pub Placed : List ℕ → ℕ → Refusal → ℕ → Type 0
Placed t a e r = (a ≤ r) × (number_of e ≡ 1 → r ≡ length t) × (1 < number_of e → r < length t)

abbrev pub RefusalsArePlaced : Type 0
RefusalsArePlaced = (t : List ℕ) (p r : ℕ) (e : Refusal) → p ≤ length t → record_at t p ≡ refused e r → Placed t p e r

-- an accepted telegram has at most 64 orders, each sound, and ends with the last of them; a refusal of another is placed as above
abbrev pub TelegramsAreWhole : Type 0
TelegramsAreWhole =
    ((t : List ℕ) (q : ℕ) (ds : List DecodedOrder) → telegram_of t ≡ got ds q → (length ds ≤ 64) × AllByRecursion SoundOrder ds × (q ≡ length t))
    × ((t : List ℕ) (r : ℕ) (e : Refusal) → telegram_of t ≡ refused e r → Placed t 0 e r)

-- a list's refusal keeps its number as the telegram's
abbrev pub NumbersAgree : Type 0
NumbersAgree = (e : ListRefusal) → number_of (from_list e) ≡ list_number_of e
