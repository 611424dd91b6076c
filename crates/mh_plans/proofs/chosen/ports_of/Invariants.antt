use Rattle.std.proofs.Common.{◌≡◌, ◌++◌, drop}
use Rattle.mh_plans.specs.Paths.{ports_in}
use Rattle.mh_plans.proofs.chosen.ports_of.Given as goal

abbrev pub invariant-loop-argument : goal.invariant-loop-argument
invariant-loop-argument l = ports_in l.arguments ≡ l.all ++ ports_in (drop l.argument-index l.arguments)
