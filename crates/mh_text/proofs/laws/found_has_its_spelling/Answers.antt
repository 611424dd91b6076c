use Rattle.mh_text.proofs.SpellingLaws.{found-contains}
use Rattle.mh_text.proofs.laws.found_has_its_spelling.Goals as goal

pub returns : goal.returns
returns c = found-contains
