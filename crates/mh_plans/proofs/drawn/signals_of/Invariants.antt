use Rattle.std.proofs.Common.{◌≡◌, ◌++◌, drop}
use Rattle.mh_plans.specs.Plans as spec
use Rattle.mh_world.specs.View.{world}
use Rattle.mh_plans.proofs.drawn.signals_of.Given as goal

abbrev pub invariant-loop-n : goal.invariant-loop-n
invariant-loop-n l = spec.signals_of (world l.state) l.top l.arguments l.ns ≡ l.all ++ spec.signals_of (world l.state) l.top l.arguments (drop l.n-index l.ns)
