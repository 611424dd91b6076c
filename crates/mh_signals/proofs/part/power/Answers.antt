use Rattle.mh_num.proofs.Words.{word-power}
use Rattle.mh_signals.proofs.part.power.Goals as goal

pub returns : goal.returns
returns c = word-power c.args.exponent c.requires
