use Rattle.std.proofs.Common.{◌∙◌, rules}
use Rattle.std.proofs.lemmas.Int.{to_z-of_z}
use Rattle.std.specs.Int.{w128}
use Rattle.std.specs.Int.RustNames.{FitsSigned}
use Rattle.mh_world.proofs.Turns.{turn_is}
use Rattle.mh_world.proofs.lists.range_item.Goals as goal

pub returns-in-Some : goal.returns-in-Some
returns-in-Some c =
    let fits : FitsSigned w128 c.in-Some.n = search rules in
    c.number_before.ensures
    ∙ turn_is c.args.from c.args.to c.args.step c.in-Some.n _ _ _ _ _ c.args.place (to_z-of_z w128 c.args.from c.ranges.from) (to_z-of_z w128 c.args.to c.ranges.to) (to_z-of_z w128 c.args.step c.ranges.step) (to_z-of_z w128 c.args.step c.ranges.step) (to_z-of_z w128 c.in-Some.n fits) c.in-Some.ensures
