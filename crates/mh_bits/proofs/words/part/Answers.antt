use Rattle.std.proofs.Common.{◌∙◌}
use Rattle.mh_bits.proofs.MovedWords.{part_of}
use Rattle.mh_bits.proofs.words.part.Goals as goal

pub returns : goal.returns
returns c = c.low_bits.ensures.value ∙ part_of c.args.n c.args.low c.args.width
