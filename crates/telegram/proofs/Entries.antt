-- Facts on the entries of a list, read one by one.
use Rattle.std.proofs.Common.{◌≡◌, ℕ, suc, ◌+◌, ◌-◌, ◌*◌, ◌%◌, ◌<◌, ◌≤◌, Bool, true, false, cond, leb, Ok, Err, Result, MatchResult, IsErrAnd, List, [], ◌∷◌, ◌++◌, length, get_or, take, drop, sym, refl, ap, ◌∙◌, arith, get_or-drop, leb-true}
use Rattle.std.proofs.lemmas.List.{take_more, append_assoc, length-take-le, length-drop, length_push}
use Rattle.order.specs.Cells.{has}
use Rattle.order.specs.declared.refusal.ListRefusal.{ListRefusal}
use Rattle.telegram.specs.Refusals.{from_list}
use Rattle.telegram.specs.declared.refusal.Refused.{Refused}
use Rattle.telegram.specs.declared.refusal.Refusal.{Refusal}
use Rattle.telegram.specs.declared.refusal.Refusal.TheVariants.{EndsEarly, RepeatedCell}
use Rattle.telegram.specs.Decode.{Read, got, refused, next, within, cell_at, cells_of, entries_at}

-- what bytes that were read tell
pub within_tells : {V : Type 0} (t : List ℕ) (p n q : ℕ) (v w : V) → got v q ≡ within t p n w → (p + n ≤ length t) × (q ≡ p + n) × (v ≡ w)
within_tells {V = V} t p n q v w e = by_cases (leb (p + n) (length t)) (λ h. leb-true (p + n) (length t) h) e
  where
    by_cases : (b : Bool) → (b ≡ true → p + n ≤ length t) → got v q ≡ cond b (got w (p + n)) (refused EndsEarly (length t)) → (p + n ≤ length t) × (q ≡ p + n) × (v ≡ w)
    by_cases true h e = (h refl, cc, cc)
    by_cases false h e = let z : ◌≡◌ {A = ℕ} 0 1 = cc in absurd (omega arith)

-- the cells of a front and of what follows it
pub cells_append : (a b : List ℕ) → length a % 2 ≡ 0 → cells_of (a ++ b) ≡ cells_of a ++ cells_of b
cells_append [] b h = refl
cells_append (x ∷ []) b h = absurd (omega arith)
cells_append (x ∷ y ∷ a) b h = ap (λ r. (x * 256 + y) ∷ r) (cells_append a b (omega arith))

pub cells_take_more : (l : List ℕ) (i : ℕ) → i % 2 ≡ 0 → i + 2 ≤ length l → cells_of (take (i + 2) l) ≡ cells_of (take i l) ++ ((get_or l i 0 * 256 + get_or l (i + 1) 0) ∷ [])
cells_take_more l i even h =
    let k : length (take i l) % 2 ≡ 0 = rw (length-take-le i l (omega arith)) even in
    let two : i + 2 ≡ (i + 1) + 1 = omega arith in
    let e : take (i + 2) l ≡ take i l ++ (get_or l i 0 ∷ get_or l (i + 1) 0 ∷ []) =
    rw (two, take_more l (i + 1) 0 (omega arith), take_more l i 0 (omega arith)) (append_assoc (take i l) (get_or l i 0 ∷ []) (get_or l (i + 1) 0 ∷ [])) in
    ap cells_of e ∙ cells_append (take i l) _ k

-- one entry more of the part that begins at `from`
pub part_more : (t : List ℕ) (from k p q c : ℕ) (before after : List ℕ) → p ≡ from + 2 * k → got c q ≡ cell_at t p → before ≡ cells_of (take (p - from) (drop from t)) → after ≡ before ++ (c ∷ [])
    → after ≡ cells_of (take (q - from) (drop from t))
part_more t from k p q c before after e g b a =
    let w = within_tells t p 2 q c _ g in
    let l = drop from t in
    let i = p - from in
    let n : length l ≡ length t - from = length-drop from t in
    let even : i % 2 ≡ 0 = omega arith in
    let m = cells_take_more l i even (omega (arith, w.0)) in
    let at0 : get_or l i 0 ≡ get_or t p 0 = get_or-drop from t i 0 ∙ ap (λ j. get_or t j 0) (omega arith) in
    let at1 : get_or l (i + 1) 0 ≡ get_or t (p + 1) 0 = get_or-drop from t (i + 1) 0 ∙ ap (λ j. get_or t j 0) (omega arith) in
    let v : get_or l i 0 * 256 + get_or l (i + 1) 0 ≡ c = rw (at0, at1) (sym w.2) in
    let s : q - from ≡ i + 2 = omega (arith, w.1) in
    a ∙ (ap (λ (x : List ℕ). x ++ (c ∷ [])) b ∙ (ap (λ n. cells_of (take i l) ++ (n ∷ [])) (sym v) ∙ (sym m ∙ ap (λ n. cells_of (take n l)) (sym s))))

-- a refusal of the list, told beside its place
pub refused_beside : (x : Result (Unit {0}) ListRefusal) (y : Result (Unit {0}) Refused) (e : Refused) (at : ℕ) (Told : ListRefusal → Refused → Type 0)
    → MatchResult x (λ u. y ≡ Ok u) (λ r. IsErrAnd y (Told r)) → y ≡ Err e → ((r : ListRefusal) (z : Refused) → Told r z → (z.refusal ≡ from_list r) × (z.place ≡ at))
    → (r : ListRefusal) × (x ≡ Err r) × (e.refusal ≡ from_list r) × (e.place ≡ at)
refused_beside (Ok u) y e at Told h m k = let z : ◌≡◌ {A = ℕ} 0 1 = cc in absurd (omega arith)
refused_beside (Err r) y e at Told h m k = let t = k r e (rw m at h) in (r, refl, t.0, t.1)

pub same_refusal : {V : Type 0} (e : Refused) (f : Refusal) (at : ℕ) → e.refusal ≡ f → e.place ≡ at → ◌≡◌ {A = Read V} (refused e.refusal e.place) (refused f at)
same_refusal e f at r p = rw (r, p)

-- what becomes of the next entry: n more follow it
abbrev entry : ℕ → List ℕ → List ℕ → ℕ → ℕ → ℕ → Read (List ℕ)
entry n before t p c q = cond (has before c) (refused RepeatedCell p) (entries_at n (before ++ (c ∷ [])) t q)

-- it is cut off
pub entries_cut : (n : ℕ) (before t : List ℕ) (p r : ℕ) (e : Refusal) (d : Read (List ℕ)) → length before < n → refused e r ≡ cell_at t p
    → entries_at (n - length before) before t p ≡ d → d ≡ refused e r
entries_cut n before t p r e d l c i =
    let s : n - length before ≡ suc (n - (length before + 1)) = omega arith in
    sym (rw s at i) ∙ ap (λ (x : Read ℕ). next x (entry (n - (length before + 1)) before t p)) (sym c)

-- or repeats a cell
pub entries_repeat : (n : ℕ) (before t : List ℕ) (p q c : ℕ) (d : Read (List ℕ)) → length before < n → got c q ≡ cell_at t p → has before c ≡ true
    → entries_at (n - length before) before t p ≡ d → d ≡ refused RepeatedCell p
entries_repeat n before t p q c d l g h i =
    let s : n - length before ≡ suc (n - (length before + 1)) = omega arith in
    sym (rw s at i) ∙ (ap (λ (x : Read ℕ). next x (entry (n - (length before + 1)) before t p)) (sym g) ∙ rw h)

-- or is taken
pub entries_more : (n : ℕ) (before after t : List ℕ) (p q c : ℕ) (d : Read (List ℕ)) → length before < n → got c q ≡ cell_at t p → has before c ≡ false → after ≡ before ++ (c ∷ [])
    → entries_at (n - length before) before t p ≡ d → entries_at (n - length after) after t q ≡ d
entries_more n before after t p q c d l g h a i =
    let k = n - (length before + 1) in
    let s : n - length before ≡ suc k = omega arith in
    let m : length after ≡ length before + 1 = ap length a ∙ length_push before c in
    let step : next (cell_at t p) (entry k before t p) ≡ entries_at k (before ++ (c ∷ [])) t q = ap (λ (x : Read ℕ). next x (entry k before t p)) (sym g) ∙ rw h in
    rw (m, a) (sym step ∙ (rw s at i))
