use Rattle.std.proofs.Common.{◌≡◌}
use Rattle.mh_plans.specs.Order.{walk}
use Rattle.mh_plans.specs.Walks.{walk_of}
use Rattle.mh_plans.proofs.order.go.Given as goal

abbrev pub invariant-loop-turn : goal.invariant-loop-turn
invariant-loop-turn l = walk_of l.walk ≡ walk l.turn l.instances (walk_of l.fn.walk)
