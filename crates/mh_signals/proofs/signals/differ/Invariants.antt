use Rattle.std.proofs.Common.{◌≡◌, drop}
use Rattle.mh_design.specs.Deltas as spec
use Rattle.mh_signals.proofs.signals.differ.Given as goal

abbrev pub invariant-loop-at : goal.invariant-loop-at
invariant-loop-at l = spec.differ l.old l.new ≡ spec.differ (drop l.at l.old) (drop l.at l.new)
