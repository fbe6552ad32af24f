use Rattle.sheet.proofs.Pieces.{any_order, place_for_each, values_in_order}
use Rattle.sheet.proofs.setup.laws_of_setups.Goals as goal

pub returns : goal.returns
returns c = record { order = any_order; places = place_for_each; values = values_in_order }
