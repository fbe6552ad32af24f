-- What a line says where a sheet has a store. Assumes nothing.
use Rattle.std.specs.Prelude.{ℕ, cond, List, [], ◌∷◌, Some, vec_items, codes, Option}
use Rattle.std.specs.Option.{option_map}
use Rattle.std.specs.Str.{bytes_eq}
use Rattle.sheet.specs.declared.setup_line.StoreKind.{StoreKind}
use Rattle.sheet.specs.declared.setup_line.StoreKind.TheVariants.{Dense, Sparse}
use Rattle.sheet.specs.declared.setup_line.SetupLine.{SetupLine}
use Rattle.sheet.specs.declared.setup_line.SetupLine.TheVariants.{Store, Values, Window, Buffer}
use Rattle.sheet.specs.declared.sheet_line.SheetLine.{SheetLine}
use Rattle.sheet.specs.declared.sheet_line.SheetLine.TheVariants.{Plain, Setup, Cell}
use Rattle.sheet.specs.Lines.{Sentence, nothing, sentence_of, said_by}
use Rattle.sheet.specs.Numbers.{only_number}
use Rattle.sheet.specs.Setups.{WantedStore, dense, sparse, Piece, a_store, some_values, a_window, a_buffer, piece_of}
use Rattle.sheet.specs.Words.{words}

-- what a line can say: what needs no store, that something is set up, or that the value of a cell is asked for
pub data Request : Type 0 where
  plain : Sentence → Request
  setting_up : Piece → Request
  asking_for : ℕ → Request

-- what words say, if they are understood
abbrev pub request_of : List (List ℕ) → Option Request
request_of [] = Some (plain nothing)
request_of (w ∷ ws) =
    cond (bytes_eq w (codes "decode")) (option_map plain (sentence_of (w ∷ ws)))
    (cond (bytes_eq w (codes "cell")) (option_map asking_for (only_number ws)) (option_map setting_up (piece_of w ws)))

-- what a line says, if it is understood
abbrev pub request_in : List ℕ → Option Request
request_in bs = request_of (words bs)

-- which store was read
abbrev pub store_said : StoreKind → WantedStore
store_said (Dense n) = dense n
store_said (Sparse cs) = sparse (vec_items cs)

-- what a set-up line that was read says
abbrev pub piece_said : SetupLine → Piece
piece_said (Store k) = a_store (store_said k)
piece_said (Values vs) = some_values (vec_items vs)
piece_said (Window f) = a_window f
piece_said Buffer = a_buffer

-- what a line that was read says
abbrev pub requested : SheetLine → Request
requested (Plain l) = plain (said_by l)
requested (Setup l) = setting_up (piece_said l)
requested (Cell c) = asking_for c
