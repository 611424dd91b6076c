use Rattle.mh_num.proofs.Words.{word-mask}
use Rattle.mh_gen.proofs.operators.greatest.Goals as goal

pub returns : goal.returns
returns c = word-mask c.args.width c.requires
