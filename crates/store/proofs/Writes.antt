-- What a write leaves. Assumes nothing.
use Rattle.std.proofs.Common.{◌≡◌, ℕ, Bool, true, false, cond, eqb, List, [], ◌∷◌, Ok, Err, Result, sym, refl, ap, ◌∙◌}
use mathlib.Core.Path.{fun_ext}
use Rattle.std.proofs.lemmas.Bool.{eqb-true}
use Rattle.store.specs.declared.fault.Fault.{Fault}
use Rattle.store.specs.Meaning.{Meaning, checked, rewritten, put}
use Rattle.store.specs.Laws.{after_writes}

same_check : (b : Bool) (r : Result ℕ Fault) (w : ℕ) → checked (cond b (rewritten r w) r) ≡ checked r
same_check true (Ok v) w = refl
same_check true (Err e) w = refl
same_check false r w = refl

pub cells_stay : (f : Meaning) (c w k : ℕ) → checked (put f c w k) ≡ checked (f k)
cells_stay f c w k = same_check (eqb k c) (f k) w

pub cells_never_change : (f : Meaning) (ws : List (ℕ × ℕ)) (k : ℕ) → checked (after_writes f ws k) ≡ checked (f k)
cells_never_change f [] k = refl
cells_never_change f (w ∷ ws) k = cells_never_change (put f w.0 w.1) ws k ∙ cells_stay f w.0 w.1 k

fault_stays : (b : Bool) (r : Result ℕ Fault) (w : ℕ) (e : Fault) → (b ≡ true → r ≡ Err e) → cond b (rewritten r w) r ≡ r
fault_stays true r w e h = ap (λ q. rewritten q w) (h refl) ∙ sym (h refl)
fault_stays false r w e h = refl

pub put_fault : (f : Meaning) (c w : ℕ) (e : Fault) → f c ≡ Err e → put f c w ≡ f
put_fault f c w e h = fun_ext (λ k. fault_stays (eqb k c) (f k) w e (λ t. ap f (eqb-true k c t) ∙ h))
