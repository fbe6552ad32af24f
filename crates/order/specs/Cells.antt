-- Lists of cells.
use Rattle.std.specs.Prelude.{ℕ, Bool, true, false, not, ◌&&◌, ◌||◌, List, [], ◌∷◌, ◌==◌}

-- whether a cell stands in a list
abbrev pub has : List ℕ → ℕ → Bool
has [] c = false
has (x ∷ xs) c = x == c || has xs c

-- whether all cells of a list are different
abbrev pub different : List ℕ → Bool
different [] = true
different (x ∷ xs) = not (has xs x) && different xs
