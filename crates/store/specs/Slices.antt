-- Which slices a store can be built over, and what building answers. Assumes nothing.
use Rattle.std.specs.Prelude.{ℕ, Bool, true, false, ◌&&◌, List, [], ◌∷◌, length, Some, None, Option, ◌==◌, nat_le, nat_lt, slice_set}
use Rattle.store.specs.declared.build.Refusal.{Refusal}
use Rattle.store.specs.declared.build.Refusal.TheVariants.{BadSlices}
use Rattle.store.specs.Meaning.{Meaning, no_cells}

abbrev pub refusal_number : Refusal → ℕ
refusal_number BadSlices = 13

-- at most 16,384 elements
abbrev pub short : List ℕ → Bool
short xs = nat_le (length xs) 16384

-- each number is above the one before it
abbrev pub rising : List ℕ → Bool
rising [] = true
rising (x ∷ []) = true
rising (x ∷ y ∷ xs) = nat_lt x y && rising (y ∷ xs)

-- cell numbers and values that a sparse store takes
abbrev pub paired : List ℕ → List ℕ → Bool
paired cells values = short cells && length cells == length values && rising cells

-- the refusal of slices, unless they are taken
abbrev pub unless_taken : Bool → Option Refusal
unless_taken true = None
unless_taken false = Some BadSlices

-- what a store over slices means: no cells if they were not taken
abbrev pub if_taken : Bool → Meaning → Meaning
if_taken true f = f
if_taken false f = no_cells

-- the values with the one at a place changed, if there is such a place
abbrev pub set_at : Option ℕ → List ℕ → ℕ → List ℕ
set_at None values w = values
set_at (Some i) values w = slice_set values i w
