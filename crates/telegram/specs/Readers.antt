-- What a reader's calls read.
use Rattle.std.specs.Prelude.{◌≡◌, ℕ, List, Result, IfOk}
use Rattle.telegram.specs.declared.list.CellList.{CellList}
use Rattle.telegram.specs.declared.reader.Reader.{Reader}
use Rattle.telegram.specs.declared.refusal.Refused.{Refused}
use Rattle.telegram.specs.Decode.{Read, DecodedList}
use Rattle.telegram.specs.Records.{seen_by, decoded_list, PartOf}

-- a call that answered x took a reader from r to s: it holds the same telegram, and the answer, with the place that it came to, is what stands at the place where it was
abbrev pub Reads : {V W : Type 0} → (V → W) → Reader → Result V Refused → Reader → (List ℕ → ℕ → Read W) → Type 0
Reads f r x s at = (s.bytes.now ≡ r.bytes.now) × (seen_by f x s.place ≡ at r.bytes.now r.place)

-- the same of a list, which is a part of the telegram
abbrev pub ReadsList : Reader → Result CellList Refused → Reader → (List ℕ → ℕ → Read DecodedList) → Type 0
ReadsList r x s at = IfOk x (PartOf r.bytes.now) × Reads decoded_list r x s at
