use Rattle.std.proofs.Common.{◌≡◌, ◌+◌, ◌≤◌, drop, length}
use Rattle.mh_plans.specs.Plans as spec
use Rattle.mh_world.specs.View.{world}
use Rattle.mh_plans.proofs.designs.made_count.Given as goal

abbrev pub invariant-loop-g : goal.invariant-loop-g
invariant-loop-g l = record {
  counted : length (spec.reads_at (world l.state) l.gs) ≡ l.count + length (spec.reads_at (world l.state) (drop l.g-index l.gs));
  few : l.count ≤ l.g-index;
}
