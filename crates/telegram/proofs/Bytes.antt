-- Facts on the cells that the bytes of a list spell.
use Rattle.std.proofs.Common.{◌≡◌, ℕ, ◌+◌, ◌-◌, ◌*◌, ◌≤◌, List, [], ◌∷◌, length, get_or, take, drop, Ok, Result, sym, refl, ap, ◌∙◌, arith}
use Rattle.std.proofs.lemmas.Slice.{between_to_end}
use Rattle.order.specs.declared.refusal.ListRefusal.{ListRefusal}
use Rattle.order.specs.Refusals.{addition, added, gathered}
use Rattle.order.proofs.Gather.{gathered_more}
use Rattle.telegram.specs.Decode.{cells_of}

pub cells_two : (l : List ℕ) → 2 ≤ length l → cells_of l ≡ (get_or l 0 0 * 256 + get_or l 1 0) ∷ cells_of (drop 2 l)
cells_two [] h = absurd (omega arith)
cells_two (x ∷ []) h = absurd (omega arith)
cells_two (x ∷ y ∷ r) h = refl

-- one entry more of a list is added
pub cells_again : (before after l : List ℕ) (x : ℕ) (g : Result (List ℕ) ListRefusal) → 2 ≤ length l → x ≡ get_or l 0 0 * 256 + get_or l 1 0
    → Ok tt ≡ addition before x → after ≡ added before x → gathered before (cells_of l) ≡ g → gathered after (cells_of (take (length l - 2) (drop 2 l))) ≡ g
cells_again before after l x g h e ok a i =
    let rest : cells_of (take (length l - 2) (drop 2 l)) ≡ cells_of (drop 2 l) = ap cells_of (between_to_end l 2 (length l) (omega arith)) in
    let all : cells_of l ≡ x ∷ cells_of (drop 2 l) = cells_two l h ∙ ap (λ n. n ∷ cells_of (drop 2 l)) (sym e) in
    rw rest (sym (gathered_more before after x (cells_of (drop 2 l)) ok a) ∙ (rw all at i))
