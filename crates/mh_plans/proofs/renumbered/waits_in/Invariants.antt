use Rattle.std.proofs.Common.{◌≡◌, ◌++◌, map, drop}
use Rattle.mh_plans.specs.Renumbered as spec
use Rattle.mh_plans.specs.View.{chosen_of}
use Rattle.mh_plans.proofs.renumbered.waits_in.Given as goal

abbrev pub invariant-loop-w : goal.invariant-loop-w
invariant-loop-w l = map (spec.wait_in (chosen_of l.k)) l.ws ≡ l.all ++ map (spec.wait_in (chosen_of l.k)) (drop l.w-index l.ws)
