-- What a write buffer shows over a store. Assumes nothing.
use Rattle.std.proofs.Common.{◌≡◌, ℕ, List, Some, None, Ok, Err, Option, Result, sym, refl, ap, ◌∙◌}
use Rattle.store.specs.declared.fault.Fault.{Fault}
use Rattle.store.specs.Faults.{passed_up, raised}
use Rattle.store.specs.Meaning.{Meaning, put}
use Rattle.store.proofs.Writes.{put_fault}
use Rattle.write_buffer.specs.declared.entries.Entry.{Entry}
use Rattle.write_buffer.specs.Held.{held_value, written, sent}
use Rattle.write_buffer.specs.Buffered.{laid, buffer_at, sunk, written_if, sent_if}
use Rattle.write_buffer.proofs.Laid.{over, laid_reads, laid_written, raised_put}

written_sets : (f d : Meaning) (es js : List Entry) (c v : ℕ) → js ≡ written es c v → d ≡ sunk f (sent es c) → buffer_at d js ≡ put (buffer_at f es) c v
written_sets f d es js c v e p =
    let t : laid d js ≡ put (laid f es) c v = rw (p, e) (laid_written f es c v) in
    ap (λ (y : Meaning). λ k. raised (y k)) t ∙ raised_put (laid f es) c v

no_value : (e : Fault) (o : Option ℕ) → over (Err e) o ≡ Err e
no_value e None = refl
no_value e (Some v) = refl

shown_if : (f d : Meaning) (es js : List Entry) (c v : ℕ) (r : Result ℕ Fault) → f c ≡ r → js ≡ written_if r es c v → d ≡ sunk f (sent_if r es c)
    → buffer_at d js ≡ put (buffer_at f es) c v
shown_if f d es js c v (Ok x) q h s = written_sets f d es js c v h s
shown_if f d es js c v (Err e) q h s =
    rw (s, h) (sym (put_fault (buffer_at f es) c v (passed_up e) (ap raised (laid_reads f es c ∙ ap (λ r. over r (held_value es c)) q ∙ no_value e (held_value es c)))))

-- what the buffer shows after a write, by what it holds then and what it sent below
pub shown_set : (f d : Meaning) (es js : List Entry) (c v : ℕ) → js ≡ written_if (f c) es c v → d ≡ sunk f (sent_if (f c) es c)
    → buffer_at d js ≡ put (buffer_at f es) c v
shown_set f d es js c v h s = shown_if f d es js c v (f c) refl h s
