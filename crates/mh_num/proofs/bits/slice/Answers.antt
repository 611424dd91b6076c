use Rattle.mh_num.proofs.Words.{word-slice}
use Rattle.mh_num.proofs.bits.slice.Goals as goal

pub returns : goal.returns
returns c = word-slice c.args.a c.mask.result c.args.i c.args.j c.requires.places c.ranges.a c.mask.ensures
