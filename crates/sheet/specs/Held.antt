-- What the code's set-up says. Assumes nothing.
use Rattle.std.specs.Prelude.{Bool, cond, Ok, Err, vec_items, Result}
use Rattle.std.specs.Option.{option_map}
use Rattle.sheet.specs.declared.LineError.{LineError}
use Rattle.sheet.specs.declared.LineError.TheVariants.{NotUnderstood}
use Rattle.sheet.specs.declared.setup.Setup.{Setup}
use Rattle.sheet.specs.declared.setup.StoreCells.{StoreCells}
use Rattle.sheet.specs.declared.setup.StoreCells.TheVariants.{Dense, Sparse}
use Rattle.sheet.specs.Requests.{store_said}
use Rattle.sheet.specs.Setups.{WantedStore, dense, sparse, Piece, Wanted, came_before, with_piece}

-- what a set-up holds
abbrev pub wanted : Setup → Wanted
wanted s = record { store = option_map store_said s.store; values = option_map vec_items s.values; window = s.window; buffer = s.buffer }

-- which store is shown
abbrev pub shown_store : StoreCells → WantedStore
shown_store (Dense n) = dense n
shown_store (Sparse cs) = sparse cs.now

-- the answer to something that may come once, by whether it came before
abbrev pub placing : Bool → Result (Unit {0}) LineError
placing before = cond before (Err NotUnderstood) (Ok tt)

-- the answer to one line more
abbrev pub addition : Wanted → Piece → Result (Unit {0}) LineError
addition s p = placing (came_before s p)

-- what is set up after one line more: as before, if such a line came before
abbrev pub added : Wanted → Piece → Wanted
added s p = cond (came_before s p) s (with_piece s p)
