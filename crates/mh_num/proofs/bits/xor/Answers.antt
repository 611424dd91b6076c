use Rattle.mh_num.proofs.Words.{word-xor}
use Rattle.mh_num.proofs.bits.xor.Goals as goal

pub returns : goal.returns
returns c = word-xor c.args.a c.args.b c.ranges.a c.ranges.b
