use Rattle.std.proofs.Common.{◌≡◌, ◌++◌, drop}
use Rattle.mh_plans.proofs.drawn.copy_names.Given as goal

abbrev pub invariant-loop-t : goal.invariant-loop-t
invariant-loop-t l = l.ts ≡ l.all ++ drop l.t-index l.ts
