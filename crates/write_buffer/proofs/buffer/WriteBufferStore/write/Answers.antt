use Rattle.write_buffer.specs.Seen.{held_by}
use Rattle.write_buffer.proofs.Layered.{shown_set}
use Rattle.write_buffer.proofs.buffer.WriteBufferStore.write.Goals as goal

pub returns-clause-sets : goal.returns-clause-sets
returns-clause-sets g c =
    let s = c.args.self.now in
    let t = c.hold_back.new.self in
    shown_set (g.S.Store.at s.below) (g.S.Store.at t.below) (held_by s) (held_by t) c.args.cell c.args.value c.hold_back.ensures.went.0 c.hold_back.ensures.sends
