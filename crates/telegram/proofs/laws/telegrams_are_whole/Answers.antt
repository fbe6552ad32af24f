use Rattle.telegram.proofs.Sound.{whole_got, whole_refused}
use Rattle.telegram.proofs.laws.telegrams_are_whole.Goals as goal

pub returns : goal.returns
returns c = (λ t q ds e. whole_got t ds q e, λ t r e h. whole_refused t e r h)
