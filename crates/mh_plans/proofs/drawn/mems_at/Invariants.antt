use Rattle.std.proofs.Common.{◌≡◌, ◌++◌, drop}
use Rattle.mh_plans.specs.Plans as spec
use Rattle.mh_plans.specs.View.{chosen_of}
use Rattle.mh_world.specs.View.{world}
use Rattle.mh_plans.proofs.drawn.mems_at.Given as goal

abbrev pub invariant-loop-m : goal.invariant-loop-m
invariant-loop-m l = spec.mems_at (world l.state) l.top (chosen_of l.k) l.ms ≡ l.all ++ spec.mems_at (world l.state) l.top (chosen_of l.k) (drop l.m-index l.ms)
