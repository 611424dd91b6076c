use Rattle.std.proofs.Common.{◌≡◌, ◌&&◌, ap, sym, ◌∙◌, pos}
use Rattle.std.specs.Int.{w128}
use Rattle.std.specs.Prelude.{int_le, int_lt}
use Rattle.std.proofs.lemmas.Int.{to_z-of_z}
use Rattle.mh_design.specs.Enums.{is_item_code}
use Rattle.mh_design.proofs.EnumLaws.{binary_codes}
use Rattle.mh_design.proofs.enums.is_item_code.Goals as goal

pub returns-in-Binary : goal.returns-in-Binary
returns-in-Binary c =
    c.is_below.ensures
    ∙ (ap (λ z. int_le (pos 0) z && int_lt z (pos c.args.count)) (to_z-of_z w128 c.args.z c.ranges.z)
    ∙ sym (ap (λ e. is_item_code e c.args.count c.args.z) c.in-Binary.is ∙ binary_codes c.args.count c.args.z))
