-- Numbers in decimal digits. Assumes nothing.
use Rattle.std.specs.Prelude.{◌≡◌, ℕ, ◌+◌, ◌-◌, ◌*◌, ◌^◌, ◌<◌, Bool, cond, ◌&&◌, List, [], ◌∷◌, length, Some, None, decimal, Option, nat_le}

-- a digit 0 to 9, by its ASCII code
abbrev pub is_digit : ℕ → Bool
is_digit c = nat_le 48 c && nat_le c 57

-- the value of a digit
abbrev pub decimal_digit : ℕ → Option ℕ
decimal_digit c = cond (is_digit c) (Some (c - 48)) None

-- the number n with digits written after it, each of which makes it ten times as large and adds its value
abbrev pub digits_after : ℕ → List ℕ → Option ℕ
digits_after n [] = Some n
digits_after n (c ∷ cs) = cond (is_digit c) (digits_after (n * 10 + (c - 48)) cs) None

-- a number, if it is in its range
abbrev pub up_to : ℕ → Option ℕ → Option ℕ
up_to max None = None
up_to max (Some n) = cond (nat_le n max) (Some n) None

-- the number that a word of one or more digits says, if it is at most max
abbrev pub number_of : ℕ → List ℕ → Option ℕ
number_of max [] = None
number_of max (c ∷ cs) = up_to max (digits_after 0 (c ∷ cs))

-- the number of 0 to 65,535 that words say, if they are one word
abbrev pub only_number : List (List ℕ) → Option ℕ
only_number [] = None
only_number (w ∷ []) = number_of 65535 w
only_number (w ∷ v ∷ ws) = None

-- a number is read back from what is written of it, if it is in its range
abbrev pub NumbersReadBack : Type 0
NumbersReadBack = (max n : ℕ) → n < 2 ^ 64 → number_of max (decimal n) ≡ up_to max (Some n)

-- a zero in front of a number does not matter
abbrev pub ZerosDropped : Type 0
ZerosDropped = (max : ℕ) (w : List ℕ) → 0 < length w → number_of max (48 ∷ w) ≡ number_of max w
