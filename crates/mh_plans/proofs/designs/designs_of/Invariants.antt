use Rattle.std.proofs.Common.{◌≡◌, ◌++◌, map, Ok, drop}
use Rattle.mh_world.specs.World.{after}
use Rattle.mh_plans.specs.Plans as spec
use Rattle.mh_plans.specs.Planned.{plan_of}
use Rattle.mh_world.specs.View.{world}
use Rattle.mh_plans.proofs.designs.designs_of.Given as goal

abbrev pub invariant-loop-top : goal.invariant-loop-top
invariant-loop-top l = spec.plans_of (world l.state) l.tops ≡ after (spec.plans_of (world l.state) (drop l.top-index l.tops)) (λ qs. Ok (map plan_of l.all ++ qs))
