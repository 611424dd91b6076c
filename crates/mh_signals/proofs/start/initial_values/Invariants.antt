use Rattle.std.proofs.Common.{◌≡◌, map, take}
use Rattle.mh_signals.proofs.start.initial_values.Given as goal

abbrev pub invariant-loop-x : goal.invariant-loop-x
invariant-loop-x l = l.all.items ≡ map (λ x. x.init) (take l.x-index l.d.signals)
