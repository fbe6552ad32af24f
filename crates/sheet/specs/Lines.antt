-- What a line says. Assumes nothing.
use Rattle.std.specs.Prelude.{◌≡◌, ℕ, cond, List, [], ◌∷◌, Some, None, Ok, Err, vec_items, codes, Option, Result}
use Rattle.std.specs.Option.{option_map}
use Rattle.std.specs.Str.{bytes_eq}
use Rattle.sheet.specs.declared.Line.{Line}
use Rattle.sheet.specs.declared.Line.TheVariants.{Empty, Decode}
use Rattle.sheet.specs.declared.LineError.{LineError}
use Rattle.sheet.specs.declared.LineError.TheVariants.{NotUnderstood, NoMemory}
use Rattle.sheet.specs.Bytes.{bytes_of}
use Rattle.sheet.specs.Words.{words}

-- what a line can say: nothing, or that bytes are to be decoded
pub data Sentence : Type 0 where
  nothing : Sentence
  decoding : List ℕ → Sentence

-- what words say, if they are understood
abbrev pub sentence_of : List (List ℕ) → Option Sentence
sentence_of [] = Some nothing
sentence_of (w ∷ ws) = cond (bytes_eq w (codes "decode")) (option_map decoding (bytes_of ws)) None

-- what a line says, if it is understood
abbrev pub line_of : List ℕ → Option Sentence
line_of bs = sentence_of (words bs)

-- what a line that was read says
abbrev pub said_by : Line → Sentence
said_by Empty = nothing
said_by (Decode v) = decoding (vec_items v)

-- what an answer tells: the value that is defined, or that none is; where memory failed it tells nothing
abbrev pub Tells : {V W : Type 0} → (V → W) → Result V LineError → Option W → Type 0
Tells f (Ok v) d = d ≡ Some (f v)
Tells f (Err NotUnderstood) d = d ≡ None
Tells f (Err NoMemory) d = Unit {0}

-- what is written of a line that was not read, after its number
abbrev pub text_of : LineError → List ℕ
text_of NotUnderstood = codes "is not understood"
text_of NoMemory = codes "finds no memory"
