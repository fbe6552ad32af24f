-- How a number is read digit by digit. Assumes nothing.
use Rattle.std.proofs.Common.{◌≡◌, ℕ, ◌+◌, ◌-◌, ◌*◌, ◌/◌, ◌%◌, ◌^◌, ◌<◌, ◌≤◌, true, List, [], ◌∷◌, ◌++◌, length, get_or, drop, Some, None, decimal, sym, refl, ap, ◌∙◌, arith}
use Rattle.std.proofs.lemmas.List.{drop_more}
use Rattle.std.proofs.lemmas.Bool.Decides.{nat_tests}
use Rattle.std.proofs.lemmas.Fmt.{decimal_by_steps, decimal_nonempty}
use Rattle.sheet.specs.Numbers.{is_digit, decimal_digit, digits_after, up_to, number_of, NumbersReadBack, ZerosDropped}

pub number_some : (max : ℕ) (w : List ℕ) → 0 < length w → number_of max w ≡ up_to max (digits_after 0 w)
number_some max [] h = absurd (omega arith)
number_some max (c ∷ cs) h = refl

pub zeros_dropped : ZerosDropped
zeros_dropped max w h = sym (number_some max w h)

-- ---- past the range

-- digits only make a number larger
above : (max n : ℕ) (cs : List ℕ) → max < n → up_to max (digits_after n cs) ≡ None
above max n [] h = grind (arith, nat_tests)
above max n (c ∷ cs) h = grind (arith, nat_tests, above max (n * 10 + (c - 48)) cs (omega arith))

pub digits_above : (max : ℕ) (w : List ℕ) (i n : ℕ) → i < length w → ((d : ℕ) → decimal_digit (get_or w i 0) ≡ Some d → max < n * 10 + d)
    → digits_after 0 w ≡ digits_after n (drop i w) → None ≡ number_of max w
digits_above max w i n h past inv = grind (arith, nat_tests, number_some max w, drop_more w i 0 h, above max (n * 10 + (get_or w i 0 - 48)) (drop (i + 1) w), past (get_or w i 0 - 48))

-- ---- what is written of a number

digits_push : (m k c : ℕ) (ds : List ℕ) → is_digit c ≡ true → digits_after m ds ≡ Some k → digits_after m (ds ++ (c ∷ [])) ≡ Some (k * 10 + (c - 48))
digits_push m k c [] is e = grind arith
digits_push m k c (d ∷ ds) is e = grind (arith, digits_push (m * 10 + (d - 48)) k c ds is)

digits_decimal : (n : ℕ) → n < 2 ^ 64 → digits_after 0 (decimal n) ≡ Some n
digits_decimal n h = decimal_by_steps (λ k ds. digits_after 0 ds ≡ Some k) one more n h
  where
    one : (k : ℕ) → k < 10 → digits_after 0 ((48 + k) ∷ []) ≡ Some k
    one k l = let is : is_digit (48 + k) ≡ true = grind (arith, nat_tests) in rw is (ap Some (omega arith))

    more : (k : ℕ) (ds : List ℕ) → 10 ≤ k → digits_after 0 ds ≡ Some (k / 10) → digits_after 0 (ds ++ ((48 + k % 10) ∷ [])) ≡ Some k
    more k ds l e =
        let is : is_digit (48 + k % 10) ≡ true = grind (arith, nat_tests) in
        digits_push 0 (k / 10) (48 + k % 10) ds is e ∙ ap Some (omega arith)

pub numbers_read_back : NumbersReadBack
numbers_read_back max n h = number_some max (decimal n) (decimal_nonempty n h) ∙ ap (up_to max) (digits_decimal n h)
