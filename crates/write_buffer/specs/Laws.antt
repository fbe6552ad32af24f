-- What a keeper may rely on, of every write buffer. Assumes nothing.
use Rattle.std.specs.Prelude.{◌≡◌, ℕ, ◌≤◌, List, [], ◌∷◌, map, length, None}
use Rattle.store.specs.Faults.{raised}
use Rattle.store.specs.Meaning.{Meaning, checked}
use Rattle.write_buffer.specs.declared.entries.Entry.{Entry}
use Rattle.write_buffer.specs.Held.{held_value, renewed, written}
use Rattle.write_buffer.specs.Buffered.{laid, buffer_at}

-- no cell is held twice
abbrev pub HeldOnce : List Entry → Type 0
HeldOnce [] = Unit {0}
HeldOnce (e ∷ es) = (held_value es e.cell ≡ None) × HeldOnce es

-- a buffer that began with nothing never holds more than sixteen values, nor two for one cell
abbrev pub AtMostSixteen : Type 0
AtMostSixteen = (es : List Entry) (c v : ℕ) → (length es ≤ 16) × HeldOnce es → (length (written es c v) ≤ 16) × HeldOnce (written es c v)

abbrev pub cell_of : Entry → ℕ
cell_of e = e.cell

-- a rewrite renews no age: the cells stand in the order in which they stood
abbrev pub RewritesRenewNoAge : Type 0
RewritesRenewNoAge = (es : List Entry) (c v : ℕ) → map cell_of (renewed es c v) ≡ map cell_of es

-- the cells and the faults are those of the store below, one layer up, whatever is held
abbrev pub CellsAreThoseBelow : Type 0
CellsAreThoseBelow = (f : Meaning) (es : List Entry) (c : ℕ) → checked (buffer_at f es c) ≡ raised (checked (f c))

-- nothing that a reader sees changes when all that is held is sent below
abbrev pub FlushShowsNothing : Type 0
FlushShowsNothing = (f : Meaning) (es : List Entry) → buffer_at (laid f es) [] ≡ buffer_at f es
