use Rattle.std.proofs.Common.{◌≡◌, drop}
use Rattle.mh_plans.specs.Paths as spec
use Rattle.mh_plans.proofs.paths.are_these.Given as goal

abbrev pub invariant-loop-v : goal.invariant-loop-v
invariant-loop-v l = spec.are_these l.zs l.items ≡ spec.are_these l.rest (drop l.v-index l.items)
