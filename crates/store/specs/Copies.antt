-- One cell gets the value of another. Assumes nothing.
use Rattle.std.specs.Prelude.{ℕ, Ok, Err, Result}
use Rattle.store.specs.declared.fault.Fault.{Fault}
use Rattle.store.specs.Meaning.{Meaning, checked, put}

-- the fault of the cell that is read, else the fault of the cell that is written, if either has one
abbrev pub first_fault : Result ℕ Fault → Result ℕ Fault → Result (Unit {0}) Fault
first_fault (Ok v) r = checked r
first_fault (Err e) r = Err e

abbrev pub copy_answer : Meaning → ℕ → ℕ → Result (Unit {0}) Fault
copy_answer f from to = first_fault (f from) (f to)

-- the meaning after a write of what was read
abbrev pub put_read : Result ℕ Fault → Meaning → ℕ → Meaning
put_read (Ok v) f to = put f to v
put_read (Err e) f to = f

abbrev pub copied : Meaning → ℕ → ℕ → Meaning
copied f from to = put_read (f from) f to
