use Rattle.std.proofs.Common.{reverse, length}
use Rattle.mh_pytok.proofs.IndentLaws.{Left}
use Rattle.mh_pytok.proofs.indents.leave.Given as goal

abbrev pub invariant-loop-indents : goal.invariant-loop-indents
invariant-loop-indents l = Left l.column l.count (reverse l.initial.indents) l.indents

abbrev pub decreases-loop-indents : goal.decreases-loop-indents
decreases-loop-indents l = length l.indents
