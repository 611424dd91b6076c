use Rattle.mh_num.proofs.Words.{word-or}
use Rattle.mh_num.proofs.bits.or.Goals as goal

pub returns : goal.returns
returns c = word-or c.args.a c.args.b c.ranges.a c.ranges.b
