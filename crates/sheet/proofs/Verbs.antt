-- A word of six letters, told by its letters. Assumes nothing.
use Rattle.std.proofs.Common.{◌≡◌, ℕ, true, List, [], ◌∷◌, length, get_or, Result, arith}
use Rattle.std.proofs.lemmas.Grind.{elements}
use Rattle.std.proofs.lemmas.Slice.Eq.{bytes_eq-Decides}
use Rattle.std.specs.Str.{bytes_eq}
use Rattle.sheet.specs.declared.LineError.{LineError}
use Rattle.sheet.specs.declared.setup_line.SetupLine.{SetupLine}
use Rattle.sheet.specs.Lines.{Tells}
use Rattle.sheet.specs.Requests.{piece_said}
use Rattle.sheet.specs.Setups.{piece_of}

letters : (w : List ℕ) (a b c d e f : ℕ) → length w ≡ 6 → get_or w 0 0 ≡ a → get_or w 1 0 ≡ b → get_or w 2 0 ≡ c → get_or w 3 0 ≡ d → get_or w 4 0 ≡ e → get_or w 5 0 ≡ f → w ≡ a ∷ b ∷ c ∷ d ∷ e ∷ f ∷ []
letters w a b c d e f l ea eb ec ed ee ef = grind (arith, elements)

pub six_letters : (w : List ℕ) (a b c d e f : ℕ) → length w ≡ 6 → get_or w 0 0 ≡ a → get_or w 1 0 ≡ b → get_or w 2 0 ≡ c → get_or w 3 0 ≡ d → get_or w 4 0 ≡ e → get_or w 5 0 ≡ f
    → bytes_eq w (a ∷ b ∷ c ∷ d ∷ e ∷ f ∷ []) ≡ true
six_letters w a b c d e f l ea eb ec ed ee ef = (bytes_eq-Decides w (a ∷ b ∷ c ∷ d ∷ e ∷ f ∷ [])).1 (letters w a b c d e f l ea eb ec ed ee ef)

-- what a first word of six letters sets up, told by its letters
pub piece_told : (r : Result SetupLine LineError) (ws : List (List ℕ)) (w : List ℕ) (a b c d e f : ℕ) → length w ≡ 6 → get_or w 0 0 ≡ a → get_or w 1 0 ≡ b → get_or w 2 0 ≡ c → get_or w 3 0 ≡ d → get_or w 4 0 ≡ e → get_or w 5 0 ≡ f
    → Tells piece_said r (piece_of (a ∷ b ∷ c ∷ d ∷ e ∷ f ∷ []) ws) → Tells piece_said r (piece_of w ws)
piece_told r ws w a b c d e f l ea eb ec ed ee ef h = rw (letters w a b c d e f l ea eb ec ed ee ef) h
