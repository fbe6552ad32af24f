use Rattle.write_buffer.proofs.Bounds.{at_most_sixteen}
use Rattle.write_buffer.proofs.laws.buffers_are_bounded.Goals as goal

pub returns-clause-sixteen : goal.returns-clause-sixteen
returns-clause-sixteen c = at_most_sixteen
