use Rattle.std.proofs.Common.{ap, sym, ◌∙◌}
use Rattle.mh_bits.specs.View.{vector_of}
use Rattle.mh_bits.specs.Operators.{binary_of, equality, inverted, single}
use Rattle.mh_bits.proofs.Tabled.{inverted-single}
use Rattle.mh_bits.proofs.binary.Goals as goal

pub returns-in-Ne : goal.returns-in-Ne
returns-in-Ne c =
    let a = vector_of c.args.a in
    let b = vector_of c.args.b in
    c.not.ensures
    ∙ ap inverted (c.single-in-Ne.ensures ∙ ap single c.equality-in-Ne.ensures)
    ∙ inverted-single (equality a b)
    ∙ ap (λ op. binary_of op a b c.args.signed) (sym c.in-Ne.is)
