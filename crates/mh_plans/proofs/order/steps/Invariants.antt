use Rattle.std.proofs.Common.{◌≡◌, ◌+◌, drop, length}
use Rattle.std.specs.Prelude.{sum_by}
use Rattle.mh_plans.specs.Order.{steps}
use Rattle.mh_plans.proofs.order.steps.Given as goal

abbrev pub invariant-loop-x : goal.invariant-loop-x
invariant-loop-x l = l.count + sum_by (λ x. length x.parts) (drop l.x-index l.instances) ≡ steps l.instances
