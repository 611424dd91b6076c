use Rattle.std.proofs.Common.{◌≡◌, ◌++◌, map, take, drop}
use Rattle.mh_design.specs.Deltas as spec
use Rattle.mh_signals.proofs.signals.wake.Given as goal

abbrev pub invariant-loop-waiter : goal.invariant-loop-waiter
invariant-loop-waiter l =
    l.waiter-items
    ≡ map (spec.woken_by l.old l.new) (take l.waiter-index l.fn.waiters.items) ++ drop l.waiter-index l.fn.waiters.items
