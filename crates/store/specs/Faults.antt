-- Faults. Assumes nothing.
use Rattle.std.specs.Prelude.{ℕ, ◌+◌, min, Ok, Err, Result}
use Rattle.store.specs.declared.fault.Fault.{Fault}
use Rattle.store.specs.declared.fault.Cause.{Cause}
use Rattle.store.specs.declared.fault.Cause.TheVariants.{NoSuchCell, OutsideWindow}

abbrev pub cause_number : Cause → ℕ
cause_number NoSuchCell = 1
cause_number OutsideWindow = 2

-- a cell that is not there, as the one that refuses it says
abbrev pub missing : ℕ → Fault
missing c = record { cause = NoSuchCell; cell = c; depth = 0 }

-- a cell that a window does not show, as the window says
abbrev pub outside : ℕ → Fault
outside c = record { cause = OutsideWindow; cell = c; depth = 0 }

-- a fault seen from one layer above: one deeper, up to 65,535, and nothing else
abbrev pub passed_up : Fault → Fault
passed_up f = record { cause = f.cause; cell = f.cell; depth = min (f.depth + 1) 65535 }

-- an answer seen from one layer above
abbrev pub raised : {V : Type 0} → Result V Fault → Result V Fault
raised (Ok v) = Ok v
raised (Err f) = Err (passed_up f)
