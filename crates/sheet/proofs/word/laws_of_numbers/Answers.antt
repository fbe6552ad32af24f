use Rattle.sheet.proofs.Digits.{numbers_read_back, zeros_dropped}
use Rattle.sheet.proofs.word.laws_of_numbers.Goals as goal

pub returns : goal.returns
returns c = record { back = numbers_read_back; zeros = zeros_dropped }
