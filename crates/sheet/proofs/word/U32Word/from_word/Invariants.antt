use Rattle.std.proofs.Common.{◌≡◌, ◌≤◌, drop}
use Rattle.sheet.specs.Numbers.{digits_after}
use Rattle.sheet.proofs.word.U32Word.from_word.Given as goal

-- the number so far, with the digits to come after it, is the whole
abbrev pub invariant-loop-code : goal.invariant-loop-code
invariant-loop-code l = (l.number ≤ 4294967295) × (digits_after 0 l.word ≡ digits_after l.number (drop l.code-index l.word))
