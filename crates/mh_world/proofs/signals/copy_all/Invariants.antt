use Rattle.std.proofs.Common.{◌≡◌, take}
use Rattle.mh_world.proofs.signals.copy_all.Given as goal

abbrev pub invariant-loop-t : goal.invariant-loop-t
invariant-loop-t l = l.all ≡ take l.t-index l.ts
