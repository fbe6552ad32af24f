-- A part of the cells of another store. Assumes nothing.
use Rattle.std.specs.Prelude.{ℕ, ◌+◌, cond, Ok, Err, Result, nat_le, nat_lt}
use Rattle.store.specs.declared.fault.Fault.{Fault}
use Rattle.store.specs.Faults.{outside, raised}
use Rattle.store.specs.Meaning.{Meaning}

-- the cell below that a window shows as the cell c, if it shows one
abbrev pub placed : ℕ → ℕ → ℕ → Result ℕ Fault
placed base len c = cond (nat_lt c len) (cond (nat_le (base + c) 65535) (Ok (base + c)) (Err (outside c))) (Err (outside c))

-- what the store below says of that cell, passed up
abbrev pub through : Result ℕ Fault → Meaning → Result ℕ Fault
through (Ok p) f = raised (f p)
through (Err e) f = Err e

-- what a window over the meaning f shows
abbrev pub window_at : Meaning → ℕ → ℕ → Meaning
window_at f base len c = through (placed base len c) f
