use Rattle.std.proofs.Common.{◌≡◌, [], drop}
use Rattle.mh_plans.specs.Plans as spec
use Rattle.mh_plans.proofs.designs.tops_of.Given as goal

abbrev pub invariant-loop-asked : goal.invariant-loop-asked
invariant-loop-asked l = spec.instances_asked [] l.requests ≡ spec.instances_asked l.all (drop l.asked-index l.requests)
