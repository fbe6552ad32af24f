use Rattle.std.proofs.Common.{◌≡◌}
use Rattle.write_buffer.specs.Held.{renewed}
use Rattle.write_buffer.proofs.Table.{passed}
use Rattle.write_buffer.proofs.entries.renew.Given as goal

-- those passed, and then those to come renewed, are all renewed
abbrev pub invariant-loop-entry : goal.invariant-loop-entry
invariant-loop-entry l = passed l.entries l.entry-index l.latest.cell l.latest.value ≡ renewed l.initial.entries l.latest.cell l.latest.value
