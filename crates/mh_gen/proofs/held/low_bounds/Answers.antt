use Rattle.std.proofs.Common.{pos, ◌∙◌, rules, arith}
use Rattle.std.proofs.lemmas.Int.{to_z-of_z, ints}
use Rattle.std.specs.Int.{w128}
use Rattle.std.specs.Int.RustNames.{FitsSigned}
use Rattle.mh_num.proofs.Ends.{narrow_unsigned}
use Rattle.mh_gen.proofs.Ends.{low_range}
use Rattle.mh_gen.proofs.held.low_bounds.Goals as goal

pub invariant_of-result : goal.invariant_of-result
invariant_of-result c =
    let f : FitsSigned w128 c.greatest-top.result = search rules in
    let o = low_range c.args.n _ (to_z-of_z w128 c.greatest-top.result f ∙ c.greatest-top.ensures) in
    record { ordered = o; in_127_bits = narrow_unsigned (pos 0) _ o (omega (arith, ints)) (search rules) }
