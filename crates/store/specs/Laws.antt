-- What a keeper may rely on, of every store. Assumes nothing.
use Rattle.std.specs.Prelude.{◌≡◌, ℕ, ◌+◌, ◌<◌, ◌≤◌, ◌⊎◌, List, [], ◌∷◌, length, Ok, Err, ◌≢◌}
use Rattle.store.specs.declared.fault.Fault.{Fault}
use Rattle.store.specs.Faults.{outside, raised}
use Rattle.store.specs.Meaning.{Meaning, checked, put}
use Rattle.store.specs.Sparse.{halved, sought}
use Rattle.store.specs.Windows.{window_at}

-- a write to a cell of the set is read back
abbrev pub WritesAreReadBack : Type 0
WritesAreReadBack = (f : Meaning) (c v w : ℕ) → f c ≡ Ok v → put f c w c ≡ Ok w

-- a write changes no other cell
abbrev pub OtherCellsStay : Type 0
OtherCellsStay = (f : Meaning) (c w k : ℕ) → (k ≢ c) → put f c w k ≡ f k

-- a write to a cell outside the set changes nothing
abbrev pub FaultsChangeNothing : Type 0
FaultsChangeNothing = (f : Meaning) (c w : ℕ) (e : Fault) → f c ≡ Err e → put f c w ≡ f

-- the meaning after writes one after another, each of a cell and a value
abbrev pub after_writes : Meaning → List (ℕ × ℕ) → Meaning
after_writes f [] = f
after_writes f (w ∷ ws) = after_writes (put f w.0 w.1) ws

-- the set of cells and the faults never change, whatever is written
abbrev pub CellsNeverChange : Type 0
CellsNeverChange = (f : Meaning) (ws : List (ℕ × ℕ)) (k : ℕ) → checked (after_writes f ws k) ≡ checked (f k)

-- a window shows exactly its part of the store below, and a write there is a write to its place below
pub record WindowsShowTheirPart : Type 0 where
  pub shows : (f : Meaning) (base len c : ℕ) → c < len → base + c ≤ 65535 → window_at f base len c ≡ raised (f (base + c))
  pub hides : (f : Meaning) (base len c : ℕ) → (len ≤ c) ⊎ (65535 < base + c) → window_at f base len c ≡ Err (outside c)
  pub writes : (f : Meaning) (base len c w : ℕ) → c < len → base + c ≤ 65535 → window_at (put f (base + c) w) base len ≡ put (window_at f base len) c w

-- fifteen halvings find the place of a cell among as many as a store takes
abbrev pub FifteenHalvings : Type 0
FifteenHalvings = (cells : List ℕ) (c : ℕ) → length cells ≤ 16384 → halved 15 cells c 0 (length cells) ≡ sought cells c
