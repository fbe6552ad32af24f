use Rattle.std.proofs.Common.{[], arith}
use Rattle.std.proofs.lemmas.List.{length-take}
use Rattle.order.proofs.Gather.{gathered_fits}
use Rattle.order.proofs.laws.lists_are_sound.Goals as goal

pub returns : goal.returns
returns c = (λ l. (rw (length-take l.count l.items) (omega arith), l.apart), λ cs few apart. gathered_fits [] cs few apart)
