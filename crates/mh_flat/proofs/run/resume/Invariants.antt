use Rattle.std.proofs.Common.{List}
use Rattle.mh_flow.specs.Flow.{Item}
use Rattle.mh_flat.specs.Fits.{FitsItems}
use Rattle.mh_flat.specs.Stands.{StandsFor}
use Rattle.mh_flat.proofs.Turns.{SoFar, measure}
use Rattle.mh_flat.proofs.run.resume.Given as goal

abbrev pub invariant-loop-answer : goal.invariant-loop-answer
invariant-loop-answer g l =
    (xs : List (Item g.row.L-Expr.Denot g.row.L-Place.Denot)) → StandsFor l.code xs l.fn.state → FitsItems g.L.Lang xs l.fn.store → SoFar g.L.Lang l.budget l.code xs l.fn.state l.fn.store l.state l.store

abbrev pub decreases-loop-answer : goal.decreases-loop-answer
decreases-loop-answer g l = measure l.code.instructions.items l.code.depth l.budget l.state
