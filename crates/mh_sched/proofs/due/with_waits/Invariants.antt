use Rattle.std.proofs.Common.{◌≡◌, drop}
use Rattle.mh_sched.specs.Events.{with_ends}
use Rattle.mh_sched.proofs.due.with_waits.Given as goal

abbrev pub invariant-loop-wait : goal.invariant-loop-wait
invariant-loop-wait l =
    with_ends l.after l.since l.waits l.fn.best ≡ with_ends l.after l.since (drop l.wait-index l.waits) l.earliest
