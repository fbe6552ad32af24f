use Rattle.sheet.proofs.Cuts.{comments_dropped, blanks_part}
use Rattle.sheet.proofs.laws_of_words.Goals as goal

pub returns : goal.returns
returns c = record { comments = comments_dropped; blanks = blanks_part }
