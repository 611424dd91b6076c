use Rattle.std.proofs.Common.{◌≡◌, ◌++◌, map, drop}
use Rattle.mh_plans.specs.Plans as spec
use Rattle.mh_plans.proofs.designs.requests_of.Given as goal

abbrev pub invariant-loop-asked : goal.invariant-loop-asked
invariant-loop-asked l = map (spec.request_of l.tops) l.requests ≡ l.all ++ map (spec.request_of l.tops) (drop l.asked-index l.requests)
