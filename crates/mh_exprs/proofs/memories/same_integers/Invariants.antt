use Rattle.std.proofs.Common.{◌≡◌, drop}
use Rattle.mh_exprs.specs.Leaves.{same_integers}
use Rattle.mh_exprs.proofs.memories.same_integers.Given as goal

abbrev pub invariant-loop-x : goal.invariant-loop-x
invariant-loop-x l = same_integers (drop l.x-index l.a) l.rest ≡ same_integers l.a l.b
