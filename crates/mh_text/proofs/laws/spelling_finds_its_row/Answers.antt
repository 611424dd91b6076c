use Rattle.mh_text.proofs.SpellingLaws.{found-spelling}
use Rattle.mh_text.proofs.laws.spelling_finds_its_row.Goals as goal

pub returns : goal.returns
returns c = found-spelling
