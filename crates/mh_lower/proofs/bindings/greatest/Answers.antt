use Rattle.mh_num.proofs.Words.{word-mask}
use Rattle.mh_lower.proofs.bindings.greatest.Goals as goal

pub returns : goal.returns
returns c = word-mask c.args.n c.requires
