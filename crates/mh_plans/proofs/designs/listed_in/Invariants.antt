use Rattle.std.proofs.Common.{◌≡◌, ◌++◌, drop}
use Rattle.mh_plans.specs.Plans as spec
use Rattle.mh_plans.proofs.designs.listed_in.Given as goal

abbrev pub invariant-loop-argument : goal.invariant-loop-argument
invariant-loop-argument l = spec.listed_among l.lists l.arguments ≡ l.all ++ spec.listed_among l.lists (drop l.argument-index l.arguments)
