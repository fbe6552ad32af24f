-- Facts on lists of cells.
use Rattle.std.proofs.Common.{◌≡◌, ℕ, ◌+◌, ◌<◌, Bool, true, false, eqb, List, [], ◌∷◌, ◌++◌, length, take, set, Decides, refl, arith}
use Rattle.std.specs.List.{IsAnyAnswer, ContainsAt}
use Rattle.std.proofs.lemmas.List.Elements.{contains_decides}
use Rattle.std.proofs.lemmas.Bool.Decides.{same_from_decides, Decides-eqb, Decides-by_or, nat_tests}
use Rattle.std.proofs.lemmas.List.{take_more_set}
use Rattle.order.specs.Cells.{has, different}

pub has_decides : (xs : List ℕ) (c : ℕ) → Decides (has xs c) (ContainsAt xs c)
has_decides xs c = Decides-by_or (λ x. eqb x c) (λ x. x ≡ c) (λ l. has l c) (λ x. Decides-eqb x c) refl (λ _ _. refl) xs

pub has_contained : (xs : List ℕ) (c : ℕ) (r : Bool) → IsAnyAnswer (λ y t. eqb y c ≡ t) xs r → r ≡ has xs c
has_contained xs c r h = same_from_decides r (has xs c) (contains_decides eqb Decides-eqb xs c r h) (has_decides xs c)

-- a cell that one longer list lacks is none of its cells
pub has_push : (xs : List ℕ) (x c : ℕ) → has xs c ≡ false → eqb x c ≡ false → has (xs ++ (x ∷ [])) c ≡ false
has_push [] x c h k = rw k
has_push (y ∷ ys) x c h k =
    let a : eqb y c ≡ false = grind (arith, nat_tests) in
    let b : has ys c ≡ false = grind (arith, nat_tests) in
    rw (a, has_push ys x c b k)

-- a cell that the list lacks may be added
pub different_push : (xs : List ℕ) (c : ℕ) → different xs ≡ true → has xs c ≡ false → different (xs ++ (c ∷ [])) ≡ true
different_push [] c d h = refl
different_push (x ∷ xs) c d h =
    let a : has xs x ≡ false = grind (arith, nat_tests) in
    let b : different xs ≡ true = grind (arith, nat_tests) in
    let e : eqb c x ≡ false = grind (arith, nat_tests) in
    let f : has xs c ≡ false = grind (arith, nat_tests) in
    rw (has_push xs c x a e, different_push xs c b f)

-- of different cells, those before one are others
lacks_after : (xs : List ℕ) (c : ℕ) (ys : List ℕ) (x : ℕ) → has (xs ++ (c ∷ ys)) x ≡ false → eqb c x ≡ false
lacks_after [] c ys x h = grind (arith, nat_tests)
lacks_after (y ∷ xs) c ys x h =
    let k : has (xs ++ (c ∷ ys)) x ≡ false = grind (arith, nat_tests) in
    lacks_after xs c ys x k

pub lacks_middle : (xs : List ℕ) (c : ℕ) (ys : List ℕ) → different (xs ++ (c ∷ ys)) ≡ true → has xs c ≡ false
lacks_middle [] c ys d = refl
lacks_middle (x ∷ xs) c ys d =
    let a : has (xs ++ (c ∷ ys)) x ≡ false = grind (arith, nat_tests) in
    let b : different (xs ++ (c ∷ ys)) ≡ true = grind (arith, nat_tests) in
    let e = lacks_after xs c ys x a in
    let f = lacks_middle xs c ys b in
    grind (arith, nat_tests)

-- the first cells of an array, after one more is put behind them
pub pushed_fits : (xs : List ℕ) (n c : ℕ) → n < length xs → different (take n xs) ≡ true → has (take n xs) c ≡ false → different (take (n + 1) (set xs n c)) ≡ true
pushed_fits xs n c l d h = rw (take_more_set xs n c l) (different_push (take n xs) c d h)
