-- Bytes written as two hexadecimal digits. Assumes nothing.
use Rattle.std.specs.Prelude.{ℕ, ◌+◌, ◌-◌, ◌*◌, cond, ◌&&◌, List, [], ◌∷◌, Some, None, Option, nat_le}
use Rattle.sheet.specs.Words.{all_of}

-- the value of a hexadecimal digit: 0 to 9, a to f or A to F, by their ASCII codes
abbrev pub hex_digit : ℕ → Option ℕ
hex_digit c =
    cond (nat_le 48 c && nat_le c 57) (Some (c - 48))
    (cond (nat_le 97 c && nat_le c 102) (Some (c - 97 + 10))
    (cond (nat_le 65 c && nat_le c 70) (Some (c - 65 + 10)) None))

-- the byte of its high and its low digit, if both are digits
abbrev pub join_digits : Option ℕ → Option ℕ → Option ℕ
join_digits None l = None
join_digits (Some h) None = None
join_digits (Some h) (Some l) = Some (h * 16 + l)

-- the byte that a word of exactly two digits says
abbrev pub byte_of : List ℕ → Option ℕ
byte_of [] = None
byte_of (h ∷ []) = None
byte_of (h ∷ l ∷ []) = join_digits (hex_digit h) (hex_digit l)
byte_of (h ∷ l ∷ m ∷ bs) = None

-- the bytes of words, if each word is a byte
abbrev pub bytes_of : List (List ℕ) → Option (List ℕ)
bytes_of ws = all_of byte_of ws
