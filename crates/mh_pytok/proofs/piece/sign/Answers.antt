use Rattle.std.proofs.Common.{sym, arith}
use Rattle.mh_pytok.proofs.WordLaws.{longest_begins}
use Rattle.mh_pytok.proofs.piece.sign.Goals as goal

pub overflow_cast-result : goal.overflow_cast-result
overflow_cast-result c = let at = longest_begins _ _ (sym c.in-Some.ensures) in omega (arith, at.within)
