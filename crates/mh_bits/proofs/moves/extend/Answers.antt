use Rattle.std.proofs.Common.{arith}
use Rattle.mh_bits.specs.View.{vector_of}
use Rattle.mh_bits.proofs.Gathered.{valid_from}
use Rattle.mh_bits.proofs.Chosen.{extended_words}
use Rattle.mh_bits.proofs.moves.extend.Goals as goal

pub returns : goal.returns
returns c = extended_words (vector_of c.args.a) c.args.a.valid.apart c.args.signed c.args.w _ _ _ _ c.is_below_zero-one.ensures.top c.is_below_zero-x.ensures.top c.extended.ensures c.extended-2.ensures

pub invariant_of-result : goal.invariant_of-result
invariant_of-result c =
    let e = extended_words (vector_of c.args.a) c.args.a.valid.apart c.args.signed c.args.w _ _ _ _ c.is_below_zero-one.ensures.top c.is_below_zero-x.ensures.top c.extended.ensures c.extended-2.ensures in
    record { valid = valid_from _ _ _ e (omega arith) c.requires.most }
