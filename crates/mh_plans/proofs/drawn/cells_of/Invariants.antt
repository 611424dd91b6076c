use Rattle.std.proofs.Common.{◌≡◌, ◌++◌, map, drop}
use Rattle.mh_plans.specs.Renumbered.{number_in}
use Rattle.mh_plans.specs.View.{chosen_of}
use Rattle.mh_plans.proofs.drawn.cells_of.Given as goal

abbrev pub invariant-loop-n : goal.invariant-loop-n
invariant-loop-n l = map (number_in (chosen_of l.k).signals) l.cells ≡ l.all ++ map (number_in (chosen_of l.k).signals) (drop l.n-index l.cells)
