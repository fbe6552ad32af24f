use Rattle.answer.proofs.stored.AskedCellDisplay.fmt.Goals as goal

pub returns-in-Err-clause-writes : goal.returns-in-Err-clause-writes
returns-in-Err-clause-writes g c = rw (c.in-Err.is, ← c.from-cause.ensures) c.writeln-in-Err.ensures.writes
