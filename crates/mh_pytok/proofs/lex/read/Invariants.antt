use Rattle.std.proofs.Common.{◌-◌, length}
use Rattle.mh_pytok.specs.State.{left_of}
use Rattle.mh_pytok.proofs.Reading.{Keeps, measure}
use Rattle.mh_pytok.proofs.lex.read.Given as goal

abbrev pub invariant-loop-more : goal.invariant-loop-more
invariant-loop-more l = Keeps l.more l.src l.state l.out

abbrev pub decreases-loop-more : goal.decreases-loop-more
decreases-loop-more l = measure l.more (left_of l.state.line (length l.src - l.state.at))
