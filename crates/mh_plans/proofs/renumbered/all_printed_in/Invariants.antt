use Rattle.std.proofs.Common.{◌≡◌, ◌++◌, map, drop}
use Rattle.mh_design.specs.Tree.{printed_of}
use Rattle.mh_plans.specs.Renumbered as spec
use Rattle.mh_plans.specs.View.{chosen_of}
use Rattle.mh_plans.proofs.renumbered.all_printed_in.Given as goal

abbrev pub invariant-loop-part : goal.invariant-loop-part
invariant-loop-part l = map (spec.printed_in (chosen_of l.k)) (map printed_of l.parts) ≡ map printed_of l.all ++ map (spec.printed_in (chosen_of l.k)) (map printed_of (drop l.part-index l.parts))
