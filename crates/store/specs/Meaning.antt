-- What a store means. Assumes nothing.
use Rattle.std.specs.Prelude.{ℕ, cond, Ok, Err, Result, ◌==◌}
use Rattle.store.specs.declared.fault.Fault.{Fault}
use Rattle.store.specs.Faults.{missing}

-- for each cell its value, or, if the cell is outside the set, its fault
abbrev pub Meaning : Type 0
Meaning = ℕ → Result ℕ Fault

-- no cells
abbrev pub no_cells : Meaning
no_cells c = Err (missing c)

-- what a check says where a read says this
abbrev pub checked : Result ℕ Fault → Result (Unit {0}) Fault
checked (Ok v) = Ok tt
checked (Err f) = Err f

-- what a read says after a write of w where it said this before: a cell outside the set stays outside, with its fault
abbrev pub rewritten : Result ℕ Fault → ℕ → Result ℕ Fault
rewritten (Ok v) w = Ok w
rewritten (Err f) w = Err f

-- the meaning after a write of w to the cell c: that cell has w, if it is in the set, and every other cell is as before
abbrev pub put : Meaning → ℕ → ℕ → Meaning
put f c w k = cond (k == c) (rewritten (f k) w) (f k)
