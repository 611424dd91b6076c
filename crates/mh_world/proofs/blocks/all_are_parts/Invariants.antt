use Rattle.std.proofs.Common.{◌≡◌, drop}
use Rattle.mh_world.specs.Blocks.{are_parts}
use Rattle.mh_world.proofs.blocks.all_are_parts.Given as goal

abbrev pub invariant-loop-v : goal.invariant-loop-v
invariant-loop-v l = are_parts (drop l.v-index l.vs) ≡ are_parts l.vs
