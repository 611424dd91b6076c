use Rattle.std.proofs.Common.{◌≡◌, ◌++◌, drop}
use Rattle.std.specs.List.{flat_map}
use Rattle.mh_plans.specs.Plans as spec
use Rattle.mh_plans.proofs.used.wait_for_all.Given as goal

abbrev pub invariant-loop-wait : goal.invariant-loop-wait
invariant-loop-wait l = l.fn.signals ++ flat_map spec.waited_signals l.waits ≡ l.signals ++ flat_map spec.waited_signals (drop l.wait-index l.waits)
