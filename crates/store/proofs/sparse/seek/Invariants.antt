use Rattle.std.proofs.Common.{◌≡◌, ◌-◌, ◌≤◌, length}
use Rattle.store.specs.Sparse.{halved, sought}
use Rattle.store.proofs.sparse.seek.Given as goal

abbrev pub invariant-loop-low : goal.invariant-loop-low
invariant-loop-low l =
    (l.low ≤ l.high) × (l.high ≤ length l.cells)
    × (halved (l.high - l.low) l.cells l.cell l.low l.high ≡ sought l.cells l.cell)

abbrev pub decreases-loop-low : goal.decreases-loop-low
decreases-loop-low l = l.high - l.low
