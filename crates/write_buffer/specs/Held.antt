-- Written values that are held back, by age: the one held longest first. Assumes nothing.
use Rattle.std.specs.Prelude.{ℕ, cond, List, [], ◌∷◌, ◌++◌, length, take, drop, Some, None, Option, ◌==◌, nat_lt}
use Rattle.write_buffer.specs.declared.entries.Entry.{Entry}
use Rattle.write_buffer.specs.declared.entries.Entries.{Entries}

abbrev pub entry : ℕ → ℕ → Entry
entry c v = record { cell = c; value = v }

-- the list that the table stands for. Only this list is promised: where the table puts what is free
abbrev pub by_age : Entries → List Entry
by_age t = take t.count t.slots

-- the first of two values, if there is one, else the second
abbrev pub or_else : Option ℕ → Option ℕ → Option ℕ
or_else (Some v) o = Some v
or_else None o = o

-- the value that is held for a cell: the youngest
abbrev pub held_value : List Entry → ℕ → Option ℕ
held_value [] c = None
held_value (e ∷ es) c = or_else (held_value es c) (cond (e.cell == c) (Some e.value) None)

-- a cell that is held gets another value, and keeps its age
abbrev pub renewed : List Entry → ℕ → ℕ → List Entry
renewed [] c v = []
renewed (e ∷ es) c v = cond (e.cell == c) (entry c v) e ∷ renewed es c v

abbrev pub oldest : List Entry → Option Entry
oldest [] = None
oldest (e ∷ es) = Some e

-- with room for one more: of sixteen the one held longest goes
abbrev pub with_room : List Entry → List Entry
with_room es = cond (nat_lt (length es) 16) es (drop 1 es)

-- the one that goes to make room, if one has to
abbrev pub evicted : List Entry → Option Entry
evicted es = cond (nat_lt (length es) 16) None (oldest es)

-- the entries after a write, by the value that is held for the cell: a held cell is renewed, another comes last
abbrev pub written_by : Option ℕ → List Entry → ℕ → ℕ → List Entry
written_by (Some old) es c v = renewed es c v
written_by None es c v = with_room es ++ (entry c v ∷ [])

abbrev pub written : List Entry → ℕ → ℕ → List Entry
written es c v = written_by (held_value es c) es c v

-- what such a write sends below: one has to go only for a cell that is not held
abbrev pub sent_by : Option ℕ → List Entry → Option Entry
sent_by (Some old) es = None
sent_by None es = evicted es

abbrev pub sent : List Entry → ℕ → Option Entry
sent es c = sent_by (held_value es c) es
