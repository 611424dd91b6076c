use Rattle.std.proofs.Common.{◌≡◌, drop}
use Rattle.mh_plans.specs.Plans.{each_once}
use Rattle.mh_plans.proofs.numbers.Numbers.add_all.Given as goal

abbrev pub invariant-loop-n : goal.invariant-loop-n
invariant-loop-n l = each_once l.fn.self l.ns ≡ each_once l.self (drop l.n-index l.ns)
