use Rattle.std.proofs.Common.{◌<◌, length, not, arith, rules, true-eqb, false-eqb, ap}
use Rattle.sheet.proofs.Cuts.{next_some, next_none}
use Rattle.sheet.specs.Words.{plain_words, is_blank}
use Rattle.sheet.proofs.lexer.WordsIterator.next.Goals as goal

pub returns-then-is_empty-clause-steps : goal.returns-then-is_empty-clause-steps
returns-then-is_empty-clause-steps c =
    let blanks = c.prefix_len.ensures.value is_blank (λ b r e. search rules) in
    let letters = c.prefix_len-2.ensures.value (λ b. not (is_blank b)) (λ b r e. search rules) in
    let none = true-eqb _ 0 c.if-is_empty.ensures in
    next_none c.args.self.now.rest.now _ _ _ _ blanks letters c.split_at.ensures.front c.split_at.ensures.back none

pub returns-else-is_empty-clause-steps : goal.returns-else-is_empty-clause-steps
returns-else-is_empty-clause-steps c =
    let blanks = c.prefix_len.ensures.value is_blank (λ b r e. search rules) in
    let letters = c.prefix_len-2.ensures.value (λ b. not (is_blank b)) (λ b r e. search rules) in
    let some = false-eqb _ 0 c.if-is_empty.ensures in
    next_some c.args.self.now.rest.now _ _ _ _ blanks letters c.split_at.ensures.front c.split_at.ensures.back (omega arith)

pub returns-else-is_empty-clause-goes : goal.returns-else-is_empty-clause-goes
returns-else-is_empty-clause-goes c =
    let fewer : length (plain_words c.split_at.result.1.now) < length (plain_words c.args.self.now.rest.now) =
    omega (arith, ap length (returns-else-is_empty-clause-steps c)) in
    search rules
