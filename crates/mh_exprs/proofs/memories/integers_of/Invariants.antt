use Rattle.std.proofs.Common.{◌≡◌, [], drop}
use Rattle.mh_exprs.specs.Leaves.{integers_onto}
use Rattle.mh_exprs.proofs.memories.integers_of.Given as goal

abbrev pub invariant-loop-v : goal.invariant-loop-v
invariant-loop-v l = integers_onto l.all (drop l.v-index l.vs) ≡ integers_onto [] l.vs
