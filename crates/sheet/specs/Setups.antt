-- What is set up by the lines of a sheet. Assumes nothing.
use Rattle.std.specs.Prelude.{◌≡◌, ℕ, ◌-◌, ◌<◌, Bool, true, false, cond, List, [], ◌∷◌, ◌++◌, length, take, replicate, is_some, Some, None, codes, Option, slice_index}
use Rattle.std.specs.Option.{option_map, unwrap_or}
use Rattle.std.specs.Str.{bytes_eq}
use Rattle.sheet.specs.declared.setup_line.WindowSize.{WindowSize}
use Rattle.sheet.specs.Numbers.{number_of, only_number}
use Rattle.sheet.specs.Words.{all_of, end_of}

-- ---- one line

-- which store a sheet wants: the cells below a number, or the cells of a list as they were given
pub data WantedStore : Type 0 where
  dense : ℕ → WantedStore
  sparse : List ℕ → WantedStore

-- what one line sets up
pub data Piece : Type 0 where
  a_store : WantedStore → Piece
  some_values : List ℕ → Piece
  a_window : WindowSize → Piece
  a_buffer : Piece

-- a window of its base and its length, if both are numbers
abbrev pub window_from : Option ℕ → Option ℕ → Option WindowSize
window_from None l = None
window_from (Some b) None = None
window_from (Some b) (Some l) = Some (record { base = b; len = l })

-- the window that words say, if they are two words: its base and its length
abbrev pub window_of : List (List ℕ) → Option WindowSize
window_of [] = None
window_of (b ∷ []) = None
window_of (b ∷ l ∷ []) = window_from (number_of 65535 b) (number_of 65535 l)
window_of (b ∷ l ∷ w ∷ ws) = None

-- the store that words say: `dense` and a number of cells, or `sparse` and the numbers of the cells
abbrev pub store_of : List (List ℕ) → Option WantedStore
store_of [] = None
store_of (w ∷ ws) =
    cond (bytes_eq w (codes "dense")) (option_map dense (only_number ws))
    (cond (bytes_eq w (codes "sparse")) (option_map sparse (all_of (number_of 65535) ws)) None)

-- what a first word and those after it set up, if they do
abbrev pub piece_of : List ℕ → List (List ℕ) → Option Piece
piece_of w ws =
    cond (bytes_eq w (codes "store")) (option_map a_store (store_of ws))
    (cond (bytes_eq w (codes "values")) (option_map some_values (all_of (number_of 4294967295) ws))
    (cond (bytes_eq w (codes "window")) (option_map a_window (window_of ws))
    (cond (bytes_eq w (codes "buffer")) (option_map (λ _. a_buffer) (end_of ws)) None)))

-- ---- all lines so far

-- what was set up so far
pub record Wanted : Type 0 where
  pub store : Option WantedStore
  pub values : Option (List ℕ)
  pub window : Option WindowSize
  pub buffer : Bool

abbrev pub nothing_yet : Wanted
nothing_yet = record { store = None; values = None; window = None; buffer = false }

-- whether such a line came before
abbrev pub came_before : Wanted → Piece → Bool
came_before s (a_store k) = is_some s.store
came_before s (some_values vs) = is_some s.values
came_before s (a_window f) = is_some s.window
came_before s a_buffer = s.buffer

-- what is set up with one line more
abbrev pub with_piece : Wanted → Piece → Wanted
with_piece s (a_store k) = record { store = Some k; values = s.values; window = s.window; buffer = s.buffer }
with_piece s (some_values vs) = record { store = s.store; values = Some vs; window = s.window; buffer = s.buffer }
with_piece s (a_window f) = record { store = s.store; values = s.values; window = Some f; buffer = s.buffer }
with_piece s a_buffer = record { store = s.store; values = s.values; window = s.window; buffer = true }

-- the store that is wanted: 64 dense cells where no line says another
abbrev pub store_wanted : Wanted → WantedStore
store_wanted s = unwrap_or s.store (dense 64)

-- how many cells a store has
abbrev pub cell_count : WantedStore → ℕ
cell_count (dense n) = n
cell_count (sparse cs) = length cs

-- values for n cells, in their order: what is missing is 0, and what is beyond the last cell is ignored
abbrev pub values_for : ℕ → List ℕ → List ℕ
values_for n vs = take n vs ++ replicate (n - length vs) 0

-- the memory of the values of the store that is wanted
abbrev pub memory_of : Wanted → List ℕ
memory_of s = values_for (cell_count (store_wanted s)) (unwrap_or s.values [])

-- ---- laws

-- what is set up with one line more, if the lines before it were understood and none of them was such a line
abbrev pub set_up : Option Wanted → Piece → Option Wanted
set_up None p = None
set_up (Some s) p = cond (came_before s p) None (Some (with_piece s p))

-- in which order two lines come does not matter
abbrev pub AnyOrder : Type 0
AnyOrder = (o : Option Wanted) (p q : Piece) → set_up (set_up o p) q ≡ set_up (set_up o q) p

-- the memory has one place for each cell
abbrev pub PlaceForEach : Type 0
PlaceForEach = (s : Wanted) → length (memory_of s) ≡ cell_count (store_wanted s)

-- each place has the value that the sheet gives in that place, and 0 where it gives none
abbrev pub ValuesInOrder : Type 0
ValuesInOrder = (s : Wanted) (k : ℕ) → k < cell_count (store_wanted s) → slice_index (memory_of s) k ≡ slice_index (unwrap_or s.values []) k
