use Rattle.std.proofs.Common.{◌≡◌, ◌++◌, map, drop}
use Rattle.mh_plans.specs.Plans as spec
use Rattle.mh_plans.specs.Planned.{drawn_of}
use Rattle.mh_plans.specs.View.{chosen_of}
use Rattle.mh_world.specs.View.{world}
use Rattle.mh_plans.proofs.drawn.generators_in.Given as goal

abbrev pub invariant-loop-g : goal.invariant-loop-g
invariant-loop-g l = map (spec.drawn (world l.state) l.top (chosen_of l.k)) (spec.reads_at (world l.state) l.gs) ≡ map drawn_of l.all ++ map (spec.drawn (world l.state) l.top (chosen_of l.k)) (spec.reads_at (world l.state) (drop l.g-index l.gs))
