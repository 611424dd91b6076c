use Rattle.mh_text.proofs.SpellingLaws.{found-none}
use Rattle.mh_text.proofs.laws.nothing_has_the_spelling.Goals as goal

pub returns : goal.returns
returns c = found-none
