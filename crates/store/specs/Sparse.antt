-- The cells that a slice lists. Assumes nothing.
use Rattle.std.specs.Prelude.{ℕ, zero, suc, ◌+◌, ◌-◌, ◌/◌, Bool, cond, List, [], ◌∷◌, length, Some, None, Ok, Err, Option, ◌==◌, nat_lt, slice_index}
use Rattle.store.specs.Faults.{missing}
use Rattle.store.specs.Meaning.{Meaning}

-- the cells of a list, each with the value at its place
abbrev pub listed_at : List ℕ → List ℕ → Meaning
listed_at [] values c = Err (missing c)
listed_at (x ∷ cells) [] c = Err (missing c)
listed_at (x ∷ cells) (v ∷ values) c = cond (x == c) (Ok v) (listed_at cells values c)

-- the place half way between two
abbrev pub middle : ℕ → ℕ → ℕ
middle low high = low + (high - low) / 2

-- the place that at most n halvings between two places come to
unfoldable pub halved : ℕ → List ℕ → ℕ → ℕ → ℕ → ℕ
halved zero cells c low high = low
halved (suc n) cells c low high =
    cond (nat_lt low high)
    (cond (nat_lt (slice_index cells (middle low high)) c) (halved n cells c (middle low high + 1) high) (halved n cells c low (middle low high)))
    low

-- the place that a cell would have in a list that rises
abbrev pub sought : List ℕ → ℕ → ℕ
sought cells c = halved (length cells) cells c 0 (length cells)

-- this place, if the cell stands there, and one of n values
abbrev pub place_at : List ℕ → ℕ → ℕ → ℕ → Option ℕ
place_at cells n c i = cond (nat_lt i (length cells)) (cond (slice_index cells i == c) (cond (nat_lt i n) (Some i) None) None) None

-- the place where halving finds a cell, if it finds it
abbrev pub place_of : List ℕ → ℕ → ℕ → Option ℕ
place_of cells n c = place_at cells n c (sought cells c)

-- the value at a place
abbrev pub value_at : Option ℕ → List ℕ → Meaning
value_at None values c = Err (missing c)
value_at (Some i) values c = Ok (slice_index values i)

-- what halving finds; in a list that rises these are the cells of the list
abbrev pub sparse_at : List ℕ → List ℕ → Meaning
sparse_at cells values c = value_at (place_of cells (length values) c) values c

-- the place of a cell, with n values: none if the slices were not taken
abbrev pub sparse_place : Bool → List ℕ → ℕ → ℕ → Option ℕ
sparse_place taken cells n c = cond taken (place_of cells n c) None
