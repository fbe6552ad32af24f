use Rattle.std.proofs.Common.{◌≡◌, length}
use Rattle.write_buffer.specs.Buffered.{laid}
use Rattle.write_buffer.specs.Seen.{held_by, AllSent}
use Rattle.write_buffer.proofs.buffer.WriteBuffer.flush.Given as goal

-- what is still to be sent, sent to the store below, is all sent to the store at the beginning
abbrev pub invariant-loop-oldest : goal.invariant-loop-oldest
invariant-loop-oldest g l =
    (laid (g.S.Store.at l.self.below) (held_by l.self) ≡ laid (g.S.Store.at l.initial.self.below) (held_by l.initial.self))
    × ((t : _) → AllSent g.S.Store (held_by l.self) l.self.below t → AllSent g.S.Store (held_by l.initial.self) l.initial.self.below t)

abbrev pub decreases-loop-oldest : goal.decreases-loop-oldest
decreases-loop-oldest g l = length (held_by l.self)
