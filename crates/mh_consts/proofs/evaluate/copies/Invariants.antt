use Rattle.std.proofs.Common.{◌≡◌, take}
use Rattle.mh_consts.proofs.evaluate.copies.Given as goal

abbrev pub invariant-loop-v : goal.invariant-loop-v
invariant-loop-v l = l.items ≡ take l.v-index l.parts
