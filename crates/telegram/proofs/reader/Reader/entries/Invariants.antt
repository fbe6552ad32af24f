use Rattle.std.proofs.Common.{◌≡◌, ◌+◌, ◌-◌, ◌*◌, [], length, take, drop}
use Rattle.order.specs.Orders.{listed}
use Rattle.telegram.specs.Decode.{cells_of, entries_at}
use Rattle.telegram.proofs.reader.Reader.entries.Given as goal

-- as many entries were read as cells were seen, and what is left to read gives the whole
abbrev pub invariant-loop : goal.invariant-loop
invariant-loop l = record {
  same : l.self.bytes.now ≡ l.fn.self.bytes.now;
  seen_all : length (listed l.seen) ≡ l.counter;
  passed : l.self.place ≡ l.from + 2 * length (listed l.seen);
  shows : listed l.seen ≡ cells_of (take (l.self.place - l.from) (drop l.from l.fn.self.bytes.now));
  rest : entries_at (l.count - length (listed l.seen)) (listed l.seen) l.fn.self.bytes.now l.self.place ≡ entries_at l.count [] l.fn.self.bytes.now l.from;
}
