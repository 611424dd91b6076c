use Rattle.mh_pytok.proofs.Always.{always}
use Rattle.mh_pytok.proofs.laws.tokens_always.Goals as goal

pub returns : goal.returns
returns c = always
