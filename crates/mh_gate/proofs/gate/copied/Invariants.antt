use Rattle.std.proofs.Common.{◌≡◌, take}
use Rattle.mh_gate.proofs.gate.copied.Given as goal

abbrev pub invariant-loop-port : goal.invariant-loop-port
invariant-loop-port l = l.all ≡ take l.port-index l.ports
