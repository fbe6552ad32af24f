-- A store with values laid over it. Assumes nothing.
use Rattle.std.specs.Prelude.{ℕ, List, [], ◌∷◌, Some, None, Ok, Err, Option, Result}
use Rattle.store.specs.declared.fault.Fault.{Fault}
use Rattle.store.specs.Faults.{raised}
use Rattle.store.specs.Meaning.{Meaning, put}
use Rattle.write_buffer.specs.declared.entries.Entry.{Entry}
use Rattle.write_buffer.specs.Held.{written, sent}

-- the values written one after another, the one held longest first
abbrev pub laid : Meaning → List Entry → Meaning
laid f [] = f
laid f (e ∷ es) = laid (put f e.cell e.value) es

-- what a buffer over the meaning f shows
abbrev pub buffer_at : Meaning → List Entry → Meaning
buffer_at f es c = raised (laid f es c)

-- the meaning below once an entry is sent there
abbrev pub sunk : Meaning → Option Entry → Meaning
sunk f None = f
sunk f (Some e) = put f e.cell e.value

-- the entries after a write, by what the store below says of the cell: a cell outside the set changes nothing
abbrev pub written_if : Result ℕ Fault → List Entry → ℕ → ℕ → List Entry
written_if (Ok x) es c v = written es c v
written_if (Err e) es c v = es

-- what the write sends below
abbrev pub sent_if : Result ℕ Fault → List Entry → ℕ → Option Entry
sent_if (Ok x) es c = sent es c
sent_if (Err e) es c = None
