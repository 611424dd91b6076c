use Rattle.std.proofs.Common.{◌≡◌, ◌++◌, drop}
use Rattle.mh_plans.specs.Plans as spec
use Rattle.mh_world.specs.View.{world}
use Rattle.mh_plans.proofs.drawn.tables_at.Given as goal

abbrev pub invariant-loop-t : goal.invariant-loop-t
invariant-loop-t l = spec.tables_at (world l.state) l.top l.ts ≡ l.all ++ spec.tables_at (world l.state) l.top (drop l.t-index l.ts)
