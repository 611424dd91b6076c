use Rattle.std.proofs.Common.{◌∙◌}
use Rattle.mh_bits.proofs.Arithmetic.{difference_word}
use Rattle.mh_bits.proofs.words.difference.Goals as goal

pub returns-clause-value : goal.returns-clause-value
returns-clause-value c = λ s. c.low_bits.ensures.value ∙ difference_word c.args.width c.args.m c.args.n c.requires.most c.requires.left c.requires.right s
