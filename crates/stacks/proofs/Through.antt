-- What comes through a layer that is taken apart. Assumes nothing.
use Rattle.std.proofs.Common.{◌≡◌, ℕ, List, [], ◌∷◌, Ok, Err, Result, sym, ap, ◌∙◌, subst}
use Rattle.store.specs.declared.fault.Fault.{Fault}
use Rattle.store.specs.declared.Store.{Ghosts}
use Rattle.store.specs.Seen.{WroteRead}
use Rattle.write_buffer.specs.declared.buffer.WriteBuffer.{WriteBuffer}
use Rattle.write_buffer.specs.declared.entries.Entry.{Entry}
use Rattle.write_buffer.specs.Held.{entry}
use Rattle.write_buffer.specs.Buffered.{buffer_at, written_if, sent_if}
use Rattle.write_buffer.specs.Seen.{held_by, buffer_seen, BufferWrote, SentTo, AllSent}
use Rattle.stacks.specs.Carried.{CarriedTo}

module _ {X : Type 0} (G : Ghosts X) where
  -- a buffer as a store
  abbrev buffered : Ghosts (WriteBuffer X)
  buffered = record { at = buffer_seen G; wrote = BufferWrote G }

  one_sent : (s u : X) (to v : ℕ) → AllSent G (entry to v ∷ []) s u → G.wrote s to v u
  one_sent s u to v a = subst (λ (m : X). G.wrote s to v m) (sym a.2) a.1

  -- by what the store below says of the cell that is written
  held_sent : (q : Result ℕ Fault) (s t u : X) (es : List Entry) (to v : ℕ) → es ≡ written_if q [] to v → SentTo G (sent_if q [] to) s t
      → AllSent G es t u → CarriedTo G (Ok v) q s to u
  held_sent (Ok w) s t u es to v h z a =
      one_sent s u to v (subst (λ (x : X). AllSent G (entry to v ∷ []) x u) z (subst (λ (js : List Entry). AllSent G js t u) h a))
  held_sent (Err e) s t u es to v h z a = subst (λ (js : List Entry). AllSent G js t u) h a ∙ z

  nothing_held : (s t : WriteBuffer X) (u : X) → held_by s ≡ [] → t ≡ s → AllSent G (held_by t) t.below u → u ≡ s.below
  nothing_held s t u h e a =
      let b : AllSent G (held_by s) s.below u = subst (λ (x : WriteBuffer X). AllSent G (held_by x) x.below u) e a in
      subst (λ (js : List Entry). AllSent G js s.below u) h b

  -- by what the buffer says of the cell that is read
  by_read : (r : Result ℕ Fault) (s t : WriteBuffer X) (u : X) (to : ℕ) → held_by s ≡ [] → WroteRead buffered r s to t
      → AllSent G (held_by t) t.below u → CarriedTo G r (G.at s.below to) s.below to u
  by_read (Ok v) s t u to h w a =
      let q = G.at s.below to in
      held_sent q s.below t.below u (held_by t) to v (w.0 ∙ ap (λ (es : List Entry). written_if q es to v) h)
      (subst (λ (es : List Entry). SentTo G (sent_if q es to) s.below t.below) h w.1) a
  by_read (Err e) s t u to h w a = nothing_held s t u h w a

  -- a copy through a new buffer, which is then taken apart
  pub through_buffer : (b : X) (s t : WriteBuffer X) (u : X) (from to : ℕ) → s.below ≡ b → held_by s ≡ []
      → WroteRead buffered (buffer_seen G s from) s to t → AllSent G (held_by t) t.below u
      → CarriedTo G (buffer_at (G.at b) [] from) (G.at b to) b to u
  through_buffer b s t u from to e h w a =
      let x : CarriedTo G (buffer_at (G.at s.below) [] from) (G.at s.below to) s.below to u
      = subst (λ (es : List Entry). CarriedTo G (buffer_at (G.at s.below) es from) (G.at s.below to) s.below to u) h
      (by_read (buffer_seen G s from) s t u to h w a) in
      subst (λ (y : X). CarriedTo G (buffer_at (G.at y) [] from) (G.at y to) y to u) e x
