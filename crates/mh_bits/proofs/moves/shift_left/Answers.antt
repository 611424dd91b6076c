use Rattle.mh_bits.specs.View.{vector_of}
use Rattle.mh_bits.proofs.Gathered.{valid_from}
use Rattle.mh_bits.proofs.Chosen.{left_words}
use Rattle.mh_bits.proofs.moves.shift_left.Goals as goal

pub returns : goal.returns
returns c = left_words (vector_of c.args.a) c.args.a.valid.apart c.args.amount _ _ c.shifted_left.ensures c.shifted_left-2.ensures

pub invariant_of-result : goal.invariant_of-result
invariant_of-result c =
    let e = left_words (vector_of c.args.a) c.args.a.valid.apart c.args.amount _ _ c.shifted_left.ensures c.shifted_left-2.ensures in
    record { valid = valid_from _ _ _ e c.args.a.valid.some_bits c.args.a.valid.word_bits }
