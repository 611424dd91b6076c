use Rattle.std.proofs.Common.{ap, ◌∙◌, ◌-◌, ◌^◌, bit_and, bit_or}
use Rattle.mh_bits.specs.View.{vector_of}
use Rattle.mh_bits.specs.Vector.{vector_from}
use Rattle.mh_bits.proofs.Gathered.{valid_from}
use Rattle.mh_bits.proofs.Tabled.{not_tabled}
use Rattle.mh_bits.proofs.tables.not.Goals as goal

pub returns : goal.returns
returns c =
    let a = vector_of c.args.a in
    ap (λ m. vector_from a.width (bit_and m (2 ^ 128 - 1 - bit_or a.val a.unk)) a.unk) c.mask.ensures ∙ not_tabled a c.args.a.valid

pub invariant_of-result : goal.invariant_of-result
invariant_of-result c =
    let a = vector_of c.args.a in
    let e = ap (λ m. vector_from a.width (bit_and m (2 ^ 128 - 1 - bit_or a.val a.unk)) a.unk) c.mask.ensures ∙ not_tabled a c.args.a.valid in
    record { valid = valid_from _ _ _ e c.args.a.valid.some_bits c.args.a.valid.word_bits }
