use Rattle.mh_bits.specs.View.{vector_of}
use Rattle.mh_bits.proofs.Gathered.{valid_from}
use Rattle.mh_bits.proofs.Tabled.{xor_tabled}
use Rattle.mh_bits.proofs.tables.xor.Goals as goal

pub returns : goal.returns
returns c = xor_tabled (vector_of c.args.a) (vector_of c.args.b) c.args.a.valid c.args.b.valid c.requires

pub invariant_of-result : goal.invariant_of-result
invariant_of-result c =
    let e = xor_tabled (vector_of c.args.a) (vector_of c.args.b) c.args.a.valid c.args.b.valid c.requires in
    record { valid = valid_from _ _ _ e c.args.a.valid.some_bits c.args.a.valid.word_bits }
