use Rattle.mh_pytok.specs.Words.{signs}
use Rattle.mh_pytok.proofs.words.sign.Goals as goal

pub returns : goal.returns
unfolding signs
returns c = c.lookup.ensures.exact
