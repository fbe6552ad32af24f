use Rattle.telegram.specs.Decode.{record_at}
use Rattle.telegram.specs.Laws.{SoundOrder}
use Rattle.telegram.proofs.Sound.{good_record, good_refused}
use Rattle.telegram.proofs.laws.refusals_are_placed.Goals as goal

pub returns : goal.returns
returns c t p r e l h = good_refused t p p 1 SoundOrder (λ u. record_at u p) (record_at t p) e r (good_record t p l) h
