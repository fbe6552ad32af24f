use Rattle.telegram.proofs.Sound.{got_record}
use Rattle.telegram.proofs.laws.records_are_sound.Goals as goal

pub returns : goal.returns
returns c t p q d l e = (got_record t p q d l e).2
