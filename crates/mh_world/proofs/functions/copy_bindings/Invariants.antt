use Rattle.std.proofs.Common.{◌≡◌, take}
use Rattle.mh_world.proofs.functions.copy_bindings.Given as goal

abbrev pub invariant-loop-b : goal.invariant-loop-b
invariant-loop-b l = l.all ≡ take l.b-index l.bs
