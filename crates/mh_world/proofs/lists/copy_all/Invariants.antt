use Rattle.std.proofs.Common.{◌≡◌, take}
use Rattle.mh_world.proofs.lists.copy_all.Given as goal

abbrev pub invariant-loop-v : goal.invariant-loop-v
invariant-loop-v l = l.all ≡ take l.v-index l.vs
