use Rattle.std.proofs.Common.{◌≤◌}
use Rattle.mh_flat.specs.declared.step.Step.{size-Step}
use Rattle.mh_flat.proofs.step.Step.+drop.Given as goal

-- what is left to let go is no deeper than the statement
abbrev pub invariant-loop-self : goal.invariant-loop-self
invariant-loop-self g l = size-Step _ _ _ _ _ _ l.self ≤ size-Step _ _ _ _ _ _ l.fn.self
