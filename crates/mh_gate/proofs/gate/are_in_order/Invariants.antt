use Rattle.std.proofs.Common.{◌≡◌, drop}
use Rattle.mh_gate.specs.Gate.{are_from}
use Rattle.mh_gate.proofs.gate.are_in_order.Given as goal

-- those so far are in order
abbrev pub invariant-loop-at : goal.invariant-loop-at
invariant-loop-at l = are_from l.at (drop l.at l.ports) ≡ are_from 0 l.ports
