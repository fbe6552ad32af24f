use Rattle.std.proofs.Common.{◌≡◌, ◌++◌, vec_items}
use Rattle.std.specs.Option.{option_map}
use Rattle.sheet.specs.Words.{plain_words, all_of}
use Rattle.sheet.proofs.word.read_all.Given as goal

-- what was read, and then what is to come, is the whole
abbrev pub invariant-loop-word : goal.invariant-loop-word
invariant-loop-word g l =
    option_map (λ more. vec_items l.all ++ more) (all_of g.T.Word.said (plain_words l.word-iterator.rest.now)) ≡ all_of g.T.Word.said (plain_words l.fn.words.rest.now)
