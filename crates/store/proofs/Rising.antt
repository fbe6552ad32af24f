-- Numbers that rise. Assumes nothing.
use Rattle.std.proofs.Common.{◌≡◌, ℕ, zero, suc, ◌+◌, ◌<◌, Bool, true, false, ltb, List, [], ◌∷◌, length, get_or, sym, refl, subst, arith}
use Rattle.std.proofs.lemmas.Bool.{and_parts, ltb-true}
use Rattle.std.specs.List.{IsAllAdjacentAnswer}
use Rattle.std.proofs.Math.Bool.{and-false}
use Rattle.store.specs.Slices.{rising}

-- each number is above all those before it
abbrev pub Rising : List ℕ → Type 0
Rising xs = (i j : ℕ) → i < j → j < length xs → get_or xs i 0 < get_or xs j 0

all_rise : (xs : List ℕ) → ((k d : ℕ) → suc k < length xs → true ≡ ltb (get_or xs k d) (get_or xs (suc k) d)) → true ≡ rising xs
all_rise [] h = refl
all_rise (x ∷ []) h = refl
all_rise (x ∷ y ∷ xs) h = rw (sym (h 0 0 (omega arith))) (all_rise (y ∷ xs) (λ k d l. h (suc k) d (omega arith)))

some_falls : (xs : List ℕ) (k : ℕ) → suc k < length xs → ((d : ℕ) → false ≡ ltb (get_or xs k d) (get_or xs (suc k) d)) → false ≡ rising xs
some_falls [] k l h = absurd (omega arith)
some_falls (x ∷ []) k l h = absurd (omega arith)
some_falls (x ∷ y ∷ xs) zero l h = rw (sym (h 0))
some_falls (x ∷ y ∷ xs) (suc k) l h =
    rw (sym (some_falls (y ∷ xs) k (omega arith) h)) (sym (and-false (ltb x y)))

next : (k : ℕ) → k + 1 ≡ suc k
next k = omega arith

-- the answer of a test of each number and the one after it
pub adjacent_answer : (xs : List ℕ) (r : Bool) → IsAllAdjacentAnswer (λ x y b. b ≡ ltb x y) xs r → r ≡ rising xs
adjacent_answer xs true h = all_rise xs (λ k d l. subst (λ j. true ≡ ltb (get_or xs k d) (get_or xs j d)) (next k) (h k d (omega arith)))
adjacent_answer xs false h = some_falls xs h.0 (omega (arith, h.1)) (λ d. subst (λ j. false ≡ ltb (get_or xs h.0 d) (get_or xs j d)) (next h.0) (h.2 d))

-- the parts of a test that holds
first_rises : (x y : ℕ) (xs : List ℕ) → true ≡ rising (x ∷ y ∷ xs) → x < y
first_rises x y xs e = ltb-true x y (and_parts (ltb x y) (rising (y ∷ xs)) (sym e)).0

rest_rises : (x y : ℕ) (xs : List ℕ) → true ≡ rising (x ∷ y ∷ xs) → true ≡ rising (y ∷ xs)
rest_rises x y xs e = sym (and_parts (ltb x y) (rising (y ∷ xs)) (sym e)).1

above_first : (x : ℕ) (xs : List ℕ) → true ≡ rising (x ∷ xs) → (j : ℕ) → j < length xs → x < get_or xs j 0
above_first x [] e j l = absurd (omega arith)
above_first x (y ∷ xs) e zero l = first_rises x y xs e
above_first x (y ∷ xs) e (suc j) l =
    let a = first_rises x y xs e in
    let b = above_first y xs (rest_rises x y xs e) j (omega arith) in
    omega arith

-- the test finds what it says
pub rising_sound : (xs : List ℕ) → true ≡ rising xs → Rising xs
rising_sound [] e i j l m = absurd (omega arith)
rising_sound (x ∷ xs) e zero zero l m = absurd (omega arith)
rising_sound (x ∷ xs) e zero (suc j) l m = above_first x xs e j (omega arith)
rising_sound (x ∷ xs) e (suc i) zero l m = absurd (omega arith)
rising_sound (x ∷ []) e (suc i) (suc j) l m = absurd (omega arith)
rising_sound (x ∷ y ∷ xs) e (suc i) (suc j) l m = rising_sound (y ∷ xs) (rest_rises x y xs e) i j (omega arith) (omega arith)
