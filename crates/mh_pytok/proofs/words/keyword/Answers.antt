use Rattle.mh_pytok.specs.Words.{keywords}
use Rattle.mh_pytok.proofs.words.keyword.Goals as goal

pub returns : goal.returns
unfolding keywords
returns c = c.lookup.ensures.exact
