use Rattle.std.proofs.Common.{◌≡◌, ◌++◌, drop}
use Rattle.mh_plans.proofs.drawn.locals_of.Given as goal

abbrev pub invariant-loop-x : goal.invariant-loop-x
invariant-loop-x l = l.locals ≡ l.all ++ drop l.x-index l.locals
