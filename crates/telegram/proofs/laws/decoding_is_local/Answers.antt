use Rattle.telegram.proofs.Sound.{got_record}
use Rattle.telegram.proofs.laws.decoding_is_local.Goals as goal

pub returns : goal.returns
returns c t u p q d l e m same = (got_record t p q d l e).3 u same m
