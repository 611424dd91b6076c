use Rattle.std.specs.Int.RustNames.{FitsSigned}
use Rattle.std.proofs.Common.{rules, ◌≡◌, Bool, true, pos, sym, arith, ap, ◌∙◌}
use Rattle.std.specs.Int.{w128, cast_signed, cast_unsigned}
use Rattle.std.specs.Ordering.{int_eq}
use Rattle.std.proofs.lemmas.Int.{to_z-of_z}
use Rattle.mh_design.specs.Enums.{item_code}
use Rattle.mh_design.proofs.Below.{any_below_found}
use Rattle.mh_design.proofs.enums.is_listed_code.Goals as goal

pub returns-then-is_same : goal.returns-then-is_same
returns-then-is_same c =
    let code = c.item_code.result in
    let fits : FitsSigned w128 code = search rules in
    let written : int_eq c.args.z code ≡ int_eq (cast_signed w128 (cast_unsigned w128 c.args.z)) (cast_signed w128 (cast_unsigned w128 code)) =
    sym (ap (λ y. int_eq y code) (to_z-of_z w128 c.args.z c.ranges.z))
    ∙ sym (ap (λ y. int_eq (cast_signed w128 (cast_unsigned w128 c.args.z)) y) (to_z-of_z w128 code fits)) in
    sym (any_below_found c.args.count c.loop-place.place (λ k. int_eq c.args.z (pos (item_code c.args.encoding c.args.count k))) (omega arith)
    (ap (int_eq c.args.z) (sym c.item_code.ensures) ∙ (written ∙ (sym c.is_same.ensures ∙ c.if-is_same.true))))
