use Rattle.std.proofs.Common.{◌≡◌, [], drop}
use Rattle.mh_world.specs.Signals.{differ_onto}
use Rattle.mh_world.proofs.signals.all_differ.Given as goal

abbrev pub invariant-loop-t : goal.invariant-loop-t
invariant-loop-t l = differ_onto l.met (drop l.t-index l.ts) ≡ differ_onto [] l.ts
