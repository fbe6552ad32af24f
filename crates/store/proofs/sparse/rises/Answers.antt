use Rattle.std.proofs.Common.{ltb, rules}
use Rattle.std.proofs.lemmas.List.Sorted.{answers_always}
use Rattle.store.proofs.Rising.{adjacent_answer}
use Rattle.store.proofs.sparse.rises.Goals as goal

pub returns : goal.returns
returns c = adjacent_answer c.args.cells.now c.is_sorted_by.result (c.is_sorted_by.ensures.cases ltb (answers_always _ _ _ (λ f a r g called. search rules)))
