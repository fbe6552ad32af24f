-- What a write buffer means over any store below, whose ghost members are G, and what its calls make of it. Assumes nothing.
use Rattle.std.specs.Prelude.{◌≡◌, ℕ, List, [], ◌∷◌, Some, None, Option}
use Rattle.store.specs.declared.Store.{Ghosts}
use Rattle.store.specs.Meaning.{Meaning}
use Rattle.write_buffer.specs.declared.entries.Entry.{Entry}
use Rattle.write_buffer.specs.declared.buffer.WriteBuffer.{WriteBuffer}
use Rattle.write_buffer.specs.Held.{by_age}
use Rattle.write_buffer.specs.Buffered.{buffer_at, written_if, sent_if}

-- the held values, the one held longest first
abbrev pub held_by : {X : Type 0} → WriteBuffer X → List Entry
held_by b = by_age b.entries

abbrev pub buffer_seen : {X : Type 0} → Ghosts X → WriteBuffer X → Meaning
buffer_seen G b = buffer_at (G.at b.below) (held_by b)

-- the store below is written with what is sent, or stays as it was
abbrev pub SentTo : {X : Type 0} → Ghosts X → Option Entry → X → X → Type 0
SentTo G None s t = t ≡ s
SentTo G (Some e) s t = G.wrote s e.cell e.value t

-- what is held, and what is sent below
abbrev pub BufferWrote : {X : Type 0} → Ghosts X → WriteBuffer X → ℕ → ℕ → WriteBuffer X → Type 0
BufferWrote G b c v d =
    (held_by d ≡ written_if (G.at b.below c) (held_by b) c v)
    × SentTo G (sent_if (G.at b.below c) (held_by b) c) b.below d.below

-- every entry is sent below, the one held longest first
abbrev pub AllSent : {X : Type 0} → Ghosts X → List Entry → X → X → Type 0
AllSent G [] s t = t ≡ s
AllSent {X} G (e ∷ es) s t = (m : X) × G.wrote s e.cell e.value m × AllSent G es m t
