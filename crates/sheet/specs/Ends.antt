-- The end of a line. Assumes nothing.
use Rattle.std.specs.Prelude.{ℕ, cond, List, [], ◌∷◌, Some, None, Option, ◌==◌}
use Rattle.std.specs.Option.{option_map, unwrap_or}

-- a text without its last byte, if that is b
abbrev pub stripped : ℕ → List ℕ → Option (List ℕ)
stripped b [] = None
stripped b (x ∷ []) = cond (x == b) (Some []) None
stripped b (x ∷ y ∷ xs) = option_map (λ t. x ∷ t) (stripped b (y ∷ xs))

-- a text without a carriage return at its end
abbrev pub without_return : List ℕ → List ℕ
without_return bs = unwrap_or (stripped 13 bs) bs

-- a line without its end, which is a line feed, or a carriage return and a line feed; the last line may have none
abbrev pub without_end : List ℕ → List ℕ
without_end bs = unwrap_or (option_map without_return (stripped 10 bs)) bs
