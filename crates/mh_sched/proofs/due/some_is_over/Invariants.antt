use Rattle.std.proofs.Common.{◌≡◌, drop}
use Rattle.std.specs.List.{list_any}
use Rattle.mh_design.specs.Deltas as spec
use Rattle.mh_sched.proofs.due.some_is_over.Given as goal

abbrev pub invariant-loop-wait : goal.invariant-loop-wait
invariant-loop-wait l =
    list_any (spec.is_over l.time l.since) l.waits ≡ list_any (spec.is_over l.time l.since) (drop l.wait-index l.waits)
