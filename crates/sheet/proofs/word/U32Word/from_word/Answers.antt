use Rattle.std.proofs.Common.{◌≡◌, refl, ◌∙◌, arith}
use Rattle.sheet.proofs.Digits.{digits_above}
use Rattle.sheet.proofs.word.U32Word.from_word.Goals as goal

pub returns-in_err-checked_mul : goal.returns-in_err-checked_mul
returns-in_err-checked_mul c =
    c.from_residual.ensures ∙ digits_above 4294967295 c.args.word.now c.loop-code.code-index c.loop-code.number (omega arith) (λ d e. omega arith) c.loop-code.invariant.1

pub returns-in_err-number : goal.returns-in_err-number
returns-in_err-number c =
    c.from_residual-in_err-number.ensures
    ∙ digits_above 4294967295 c.args.word.now c.loop-code.code-index c.loop-code.number (omega arith)
    (λ d e. let same : d ≡ c.in_ok-digit.field-0 = cc (c.in_ok-digit.ensures.decimal refl) in omega arith) c.loop-code.invariant.1
