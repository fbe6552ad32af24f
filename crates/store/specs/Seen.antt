-- What each store means, and what a write makes of it. Assumes nothing.
use Rattle.std.specs.Prelude.{◌≡◌, ℕ, length, None, Option, Ok, Err, Result, nat_le}
use Rattle.store.specs.declared.fault.Fault.{Fault}
use Rattle.store.specs.declared.dense.Dense.{Dense}
use Rattle.store.specs.declared.sparse.Listed.{Listed}
use Rattle.store.specs.declared.sparse.Listed.TheVariants.{Rising, Refused}
use Rattle.store.specs.declared.slices.SliceStore.{SliceStore}
use Rattle.store.specs.declared.layout.Layout as Layout
use Rattle.store.specs.declared.window.Window.{Window}
use Rattle.store.specs.declared.Store.{Ghosts}
use Rattle.store.specs.Meaning.{Meaning}
use Rattle.store.specs.Slices.{set_at}
use Rattle.store.specs.Dense.{dense_place}
use Rattle.store.specs.Sparse.{place_of, value_at}
use Rattle.store.specs.Windows.{placed, window_at}

-- a store over a slice, with any layout, whose ghost members are L: each cell has the value at its place
abbrev pub slice_seen : {X : Type 0} → Layout.Ghosts X → SliceStore X → Meaning
slice_seen L s c = value_at (L.place s.layout (length s.values.now) c) s.values.now c

-- the same layout and the same lent memory, with the value at its place
abbrev pub SliceWrote : {X : Type 0} → Layout.Ghosts X → SliceStore X → ℕ → ℕ → SliceStore X → Type 0
SliceWrote L s c w t =
    (t.layout ≡ s.layout) × (t.values.ghost_name ≡ s.values.ghost_name)
    × (t.values.now ≡ set_at (L.place s.layout (length s.values.now) c) s.values.now w)

-- the place with the cell's number, in a slice that is not too long
abbrev pub dense_placed : Dense → ℕ → ℕ → Option ℕ
dense_placed d n = dense_place (nat_le n 16384) n

abbrev pub dense_seen : SliceStore Dense → Meaning
dense_seen = slice_seen record { place = dense_placed }

-- the place where halving finds the cell among rising numbers; none among refused ones
abbrev pub listed_placed : Listed → ℕ → ℕ → Option ℕ
listed_placed (Rising cells) n c = place_of cells.now n c
listed_placed (Refused cells) n c = None

abbrev pub sparse_seen : SliceStore Listed → Meaning
sparse_seen = slice_seen record { place = listed_placed }

-- over any store below, whose ghost members are G
abbrev pub window_seen : {X : Type 0} → Ghosts X → Window X → Meaning
window_seen G w = window_at (G.at w.below) w.base w.len

-- the store below is written at the place of the cell, or stays as it was
abbrev pub WentTo : {X : Type 0} → Ghosts X → Result ℕ Fault → X → ℕ → X → Type 0
WentTo G (Ok p) s w t = G.wrote s p w t
WentTo G (Err e) s w t = t ≡ s

-- the same base and length, with the store below written
abbrev pub WindowWrote : {X : Type 0} → Ghosts X → Window X → ℕ → ℕ → Window X → Type 0
WindowWrote G s c w t =
    (t.base ≡ s.base) × (t.len ≡ s.len) × WentTo G (placed s.base s.len c) s.below w t.below

-- the store is written with what was read, or stays as it was
abbrev pub WroteRead : {X : Type 0} → Ghosts X → Result ℕ Fault → X → ℕ → X → Type 0
WroteRead G (Ok v) s to t = G.wrote s to v t
WroteRead G (Err e) s to t = t ≡ s

abbrev pub CopyWrote : {X : Type 0} → Ghosts X → X → ℕ → ℕ → X → Type 0
CopyWrote G s from to t = WroteRead G (G.at s from) s to t
