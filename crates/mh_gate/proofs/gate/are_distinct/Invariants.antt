use Rattle.std.proofs.Common.{◌≡◌, drop}
use Rattle.mh_gate.specs.Gate.{are_distinct}
use Rattle.mh_gate.proofs.gate.are_distinct.Given as goal

-- no name so far comes again
abbrev pub invariant-loop-at : goal.invariant-loop-at
invariant-loop-at l = are_distinct (drop l.at l.signals) ≡ are_distinct l.signals
