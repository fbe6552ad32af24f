use Rattle.std.proofs.Common.{rules, sym}
use Rattle.telegram.proofs.reader.Reader.all_or_nothing.Goals as goal

pub returns : goal.returns
returns g c = (c.read.new.arg2, rw (sym c.in-Err.is) (search rules), c.drop-rewind-2.ensures)
