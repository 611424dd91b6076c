use Rattle.std.proofs.Common.{◌≡◌, [], drop}
use Rattle.mh_exprs.specs.Leaves.{signals_onto}
use Rattle.mh_exprs.proofs.memories.signals_of.Given as goal

abbrev pub invariant-loop-v : goal.invariant-loop-v
invariant-loop-v l = signals_onto l.all (drop l.v-index l.vs) ≡ signals_onto [] l.vs
