use Rattle.std.proofs.Common.{◌≡◌, drop}
use Rattle.mh_plans.specs.Plans as spec
use Rattle.mh_plans.proofs.designs.holds_signals.Given as goal

abbrev pub invariant-loop-v : goal.invariant-loop-v
invariant-loop-v l = spec.holds_signals l.vs ≡ spec.holds_signals (drop l.v-index l.vs)
