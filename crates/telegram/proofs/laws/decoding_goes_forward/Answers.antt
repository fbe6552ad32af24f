use Rattle.std.proofs.Common.{arith}
use Rattle.telegram.proofs.Sound.{got_record}
use Rattle.telegram.proofs.laws.decoding_goes_forward.Goals as goal

pub returns : goal.returns
returns c t p q d l e = let g = got_record t p q d l e in (omega (arith, g.0), g.1)
