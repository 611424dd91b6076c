use Rattle.mh_bits.proofs.MovedWords.{joined_words}
use Rattle.mh_bits.proofs.words.joined.Goals as goal

pub returns : goal.returns
returns c = joined_words c.args.high c.args.low c.args.width c.args.above c.requires.most c.requires.high_within c.requires.low_within
