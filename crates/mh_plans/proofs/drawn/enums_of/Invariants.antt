use Rattle.std.proofs.Common.{◌≡◌, ◌++◌, drop}
use Rattle.mh_plans.proofs.drawn.enums_of.Given as goal

abbrev pub invariant-loop-x : goal.invariant-loop-x
invariant-loop-x l = l.enums ≡ l.all ++ drop l.x-index l.enums
