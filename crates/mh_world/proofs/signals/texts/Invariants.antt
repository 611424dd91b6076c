use Rattle.std.proofs.Common.{◌≡◌, [], drop}
use Rattle.mh_world.specs.Signals.{texts_onto}
use Rattle.mh_world.proofs.signals.texts.Given as goal

abbrev pub invariant-loop-v : goal.invariant-loop-v
invariant-loop-v l = texts_onto l.all (drop l.v-index l.vs) ≡ texts_onto [] l.vs
