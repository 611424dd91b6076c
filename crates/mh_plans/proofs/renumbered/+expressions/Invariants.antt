use Rattle.std.proofs.Common.{◌≡◌, ◌++◌, map, drop}
use Rattle.mh_design.specs.Tree.{expression_of}
use Rattle.mh_plans.specs.Renumbered as spec
use Rattle.mh_plans.specs.View.{chosen_of}
use Rattle.mh_plans.proofs.renumbered.+expressions.Given as goal

abbrev pub invariant-parts_in-loop-part : goal.invariant-parts_in-loop-part
invariant-parts_in-loop-part l = map (spec.expression_in (chosen_of l.k)) (map expression_of l.parts) ≡ map expression_of l.all ++ map (spec.expression_in (chosen_of l.k)) (map expression_of (drop l.part-index l.parts))
