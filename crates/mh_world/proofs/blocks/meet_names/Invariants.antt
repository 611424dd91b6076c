use Rattle.std.proofs.Common.{◌≡◌, ◌-◌, drop, length}
use Rattle.mh_world.specs.Blocks.{bound_parts, once_onto}
use Rattle.mh_world.specs.Once.{IsOnce}
use Rattle.mh_world.proofs.blocks.meet_names.Given as goal

abbrev pub invariant-loop-v : goal.invariant-loop-v
invariant-loop-v l = record {
  once : IsOnce l.once;
  parts : once_onto l.once.parts (bound_parts l.lists (drop l.place l.names)) ≡ once_onto l.fn.once.parts (bound_parts l.lists l.names);
}

abbrev pub decreases-loop-v : goal.decreases-loop-v
decreases-loop-v l = length l.names - l.place
