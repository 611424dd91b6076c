use Rattle.std.proofs.Common.{arith}
use Rattle.mh_bits.specs.View.{vector_of}
use Rattle.mh_bits.proofs.Gathered.{valid_from}
use Rattle.mh_bits.proofs.Chosen.{joined_words}
use Rattle.mh_bits.proofs.moves.cat.Goals as goal

pub returns : goal.returns
returns c = joined_words (vector_of c.args.a) c.args.a.valid.apart (vector_of c.args.b) c.args.b.valid.apart _ _ c.joined.ensures c.joined-2.ensures

pub invariant_of-result : goal.invariant_of-result
invariant_of-result c =
    let e = joined_words (vector_of c.args.a) c.args.a.valid.apart (vector_of c.args.b) c.args.b.valid.apart _ _ c.joined.ensures c.joined-2.ensures in
    record { valid = valid_from _ _ _ e (omega arith) c.requires }
