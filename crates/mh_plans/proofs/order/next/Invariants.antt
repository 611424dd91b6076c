use Rattle.std.proofs.Common.{◌≡◌, vec_len}
use Rattle.mh_plans.specs.Walks.{parts_ahead}
use Rattle.mh_plans.proofs.order.next.Given as goal

abbrev pub invariant-loop-parts : goal.invariant-loop-parts
invariant-loop-parts l = parts_ahead l.fn.ahead.items ≡ parts_ahead l.ahead.items

abbrev pub decreases-loop-parts : goal.decreases-loop-parts
decreases-loop-parts l = vec_len l.ahead
