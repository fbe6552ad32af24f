-- What a copy through layers leaves in the store below them. Assumes nothing.
use Rattle.std.specs.Prelude.{◌≡◌, ℕ, List, [], Ok, Err, Option, Result}
use Rattle.store.specs.declared.fault.Fault.{Fault}
use Rattle.store.specs.declared.Store.{Ghosts}
use Rattle.store.specs.Meaning.{Meaning}
use Rattle.store.specs.Slices.{short, paired, if_taken, set_at}
use Rattle.store.specs.Dense.{dense_at}
use Rattle.store.specs.Sparse.{listed_at}
use Rattle.store.specs.Windows.{window_at}
use Rattle.write_buffer.specs.Buffered.{buffer_at}

-- what was read is written to the cell, if it is there; else the store is as it was
abbrev pub CarriedTo : {X : Type 0} → Ghosts X → Result ℕ Fault → Result ℕ Fault → X → ℕ → X → Type 0
CarriedTo G (Ok v) (Ok w) s to t = G.wrote s to v t
CarriedTo G (Ok v) (Err e) s to t = t ≡ s
CarriedTo G (Err e) r s to t = t ≡ s

-- the same through a place of the store, if there is one
abbrev pub CarriedThrough : {X : Type 0} → Ghosts X → Result ℕ Fault → Result ℕ Fault → X → Result ℕ Fault → X → Type 0
CarriedThrough G r q s (Ok p) t = CarriedTo G r q s p t
CarriedThrough G r q s (Err e) t = t ≡ s

-- a buffer that holds nothing, over a window, over a store
abbrev pub stack_over : Meaning → ℕ → ℕ → Meaning
stack_over f base len = buffer_at (window_at f base len) []

-- a dense store over a slice
abbrev pub dense_over : List ℕ → Meaning
dense_over values = if_taken (short values) (dense_at values)

-- a sparse store over slices
abbrev pub sparse_over : List ℕ → List ℕ → Meaning
sparse_over cells values = if_taken (paired cells values) (listed_at cells values)

-- the lent values after a copy: what was read stands where the store finds the cell below, if both cells are there
abbrev pub memory_after : Result ℕ Fault → Result ℕ Fault → Result ℕ Fault → (ℕ → Option ℕ) → List ℕ → List ℕ
memory_after (Ok v) (Ok w) (Ok p) find values = set_at (find p) values v
memory_after (Ok v) (Ok w) (Err e) find values = values
memory_after (Ok v) (Err e) p find values = values
memory_after (Err e) q p find values = values
