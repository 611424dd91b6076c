use Rattle.mh_bits.specs.View.{vector_of}
use Rattle.mh_bits.proofs.Gathered.{valid_from}
use Rattle.mh_bits.proofs.Chosen.{right_words}
use Rattle.mh_bits.proofs.moves.shift_right.Goals as goal

pub returns : goal.returns
returns c = right_words (vector_of c.args.a) c.args.a.valid.apart c.args.signed c.args.amount _ _ _ _ c.is_below_zero-one.ensures.top c.is_below_zero-x.ensures.top c.shifted_right.ensures c.shifted_right-2.ensures

pub invariant_of-result : goal.invariant_of-result
invariant_of-result c =
    let e = right_words (vector_of c.args.a) c.args.a.valid.apart c.args.signed c.args.amount _ _ _ _ c.is_below_zero-one.ensures.top c.is_below_zero-x.ensures.top c.shifted_right.ensures c.shifted_right-2.ensures in
    record { valid = valid_from _ _ _ e c.args.a.valid.some_bits c.args.a.valid.word_bits }
