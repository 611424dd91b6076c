use Rattle.mh_num.proofs.Words.{word-and}
use Rattle.mh_num.proofs.bits.and.Goals as goal

pub returns : goal.returns
returns c = word-and c.args.a c.args.b c.ranges.a c.ranges.b
