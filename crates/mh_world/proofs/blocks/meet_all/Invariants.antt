use Rattle.std.proofs.Common.{◌≡◌, drop}
use Rattle.std.specs.Prelude.{filter}
use Rattle.mh_world.specs.Blocks.{is_part, once_onto}
use Rattle.mh_world.specs.Once.{IsOnce}
use Rattle.mh_world.proofs.blocks.meet_all.Given as goal

abbrev pub invariant-loop-v : goal.invariant-loop-v
invariant-loop-v l = record {
  once : IsOnce l.once;
  parts : once_onto l.once.parts (filter is_part (drop l.v-index l.us)) ≡ once_onto l.fn.once.parts (filter is_part l.us);
}
