use Rattle.std.proofs.Common.{pos, ◌+ℤ◌, to_z, of_z, ap, ◌∙◌, sym, arith, rules}
use Rattle.std.proofs.lemmas.Int.{to_z-of_z}
use Rattle.std.specs.Int.{w128}
use Rattle.std.specs.Int.RustNames.{FitsSigned}
use Rattle.mh_codes.specs.Codes.{code}
use Rattle.mh_codes.specs.Integers.{slice_of}
use Rattle.mh_num.specs.Results.{in_i128, left_shift_of}
use Rattle.mh_gen.proofs.Joins.{more-none, more-some}
use Rattle.mh_gen.proofs.eval.appended.Goals as goal

pub returns-in-Some : goal.returns-in-Some
returns-in-Some c =
    let f : FitsSigned w128 c.in-Some.high = search rules in
    let g : FitsSigned w128 c.low_bits.result = search rules in
    let shifted = c.in-Some.ensures ∙ ap (λ y. left_shift_of y (pos c.args.width)) (to_z-of_z w128 c.args.z c.ranges.z) in
    let low = c.low_bits.ensures ∙ ap (λ y. pos (slice_of c.args.width 0 y)) (to_z-of_z w128 c.args.part c.ranges.part) in
    c.add.ensures
    ∙ ap (λ y. in_i128 (y +ℤ to_z w128 (of_z w128 c.low_bits.result))) (to_z-of_z w128 c.in-Some.high f)
    ∙ ap (λ y. in_i128 (c.in-Some.high +ℤ y)) (to_z-of_z w128 c.low_bits.result g)
    ∙ more-some c.args.z c.args.width c.args.part c.in-Some.high c.low_bits.result c.requires.natural (omega arith) shifted low

pub returns-in-None : goal.returns-in-None
returns-in-None c =
    let shifted = c.in-None.ensures ∙ ap (λ y. left_shift_of y (pos c.args.width)) (to_z-of_z w128 c.args.z c.ranges.z) in
    sym (more-none c.args.z c.args.width (code c.args.width c.args.part) c.requires.natural (omega arith) shifted)
