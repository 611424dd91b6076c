use Rattle.std.proofs.Common.{◌≡◌, map, take}
use Rattle.mh_gate.specs.Gate.{signal_of}
use Rattle.mh_gate.proofs.gate.signals_of.Given as goal

abbrev pub invariant-loop-s : goal.invariant-loop-s
invariant-loop-s l = l.all ≡ map signal_of (take l.s-index l.signals)
