use Rattle.std.proofs.Common.{◌≡◌, drop}
use Rattle.std.specs.List.{list_any}
use Rattle.mh_design.specs.Deltas as spec
use Rattle.mh_signals.proofs.waiter.some_has_happened.Given as goal

abbrev pub invariant-loop-wait : goal.invariant-loop-wait
invariant-loop-wait l =
    list_any (spec.has_happened l.old l.new) l.waits
    ≡ list_any (spec.has_happened l.old l.new) (drop l.wait-index l.waits)
