use Rattle.mh_bits.specs.View.{vector_of}
use Rattle.mh_bits.proofs.Gathered.{valid_from}
use Rattle.mh_bits.proofs.Tabled.{or_tabled}
use Rattle.mh_bits.proofs.tables.or.Goals as goal

pub returns : goal.returns
returns c = or_tabled (vector_of c.args.a) (vector_of c.args.b) c.args.a.valid c.args.b.valid c.requires

pub invariant_of-result : goal.invariant_of-result
invariant_of-result c =
    let e = or_tabled (vector_of c.args.a) (vector_of c.args.b) c.args.a.valid c.args.b.valid c.requires in
    record { valid = valid_from _ _ _ e c.args.a.valid.some_bits c.args.a.valid.word_bits }
