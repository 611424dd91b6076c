use Rattle.mh_num.proofs.Words.{word-mask}
use Rattle.mh_consts.proofs.operators.greatest.Goals as goal

pub returns : goal.returns
returns c = word-mask c.args.w c.requires
