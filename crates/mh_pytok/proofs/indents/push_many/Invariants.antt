use Rattle.std.proofs.Common.{◌≡◌, ◌++◌, replicate}
use Rattle.mh_pytok.proofs.indents.push_many.Given as goal

abbrev pub invariant-loop-i : goal.invariant-loop-i
invariant-loop-i l = l.out ≡ l.initial.out ++ replicate l._i l.token
