-- The cells below the length of a slice. Assumes nothing.
use Rattle.std.specs.Prelude.{ℕ, Bool, cond, ◌&&◌, List, length, Some, None, Ok, Err, Option, nat_lt, slice_index}
use Rattle.store.specs.Faults.{missing}
use Rattle.store.specs.Meaning.{Meaning}

-- the cells below the length, each with the value at its place
abbrev pub dense_at : List ℕ → Meaning
dense_at values c = cond (nat_lt c (length values)) (Ok (slice_index values c)) (Err (missing c))

-- the place of a cell among n values: none if the slice was not taken
abbrev pub dense_place : Bool → ℕ → ℕ → Option ℕ
dense_place taken n c = cond (taken && nat_lt c n) (Some c) None
