use Rattle.std.proofs.Common.{◌≡◌, map, take}
use Rattle.mh_design.specs.Values as spec
use Rattle.mh_signals.specs.Seen.{limits_seen}
use Rattle.mh_signals.proofs.start.all_limits.Given as goal

abbrev pub invariant-loop-x : goal.invariant-loop-x
invariant-loop-x l = map limits_seen l.all.items ≡ map (λ x. spec.limits_of l.d x.kind) (take l.x-index l.d.signals)
