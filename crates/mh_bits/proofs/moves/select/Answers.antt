use Rattle.std.proofs.Common.{arith}
use Rattle.mh_bits.specs.View.{vector_of}
use Rattle.mh_bits.proofs.Gathered.{valid_from}
use Rattle.mh_bits.proofs.Chosen.{selected_words}
use Rattle.mh_bits.proofs.moves.select.Goals as goal

pub returns : goal.returns
returns c = selected_words (vector_of c.args.a) c.args.a.valid.apart c.args.hi c.args.lo _ _ _ (omega arith) c.part.ensures c.part-2.ensures

pub invariant_of-result : goal.invariant_of-result
invariant_of-result c =
    let e = selected_words (vector_of c.args.a) c.args.a.valid.apart c.args.hi c.args.lo _ _ _ (omega arith) c.part.ensures c.part-2.ensures in
    record { valid = valid_from _ _ _ e (omega arith) (omega arith) }
