use Rattle.std.proofs.Common.{sym, subst}
use Rattle.mh_pytok.specs.State.{LiesWithin}
use Rattle.mh_pytok.proofs.PieceLaws.{piece-within}
use Rattle.mh_pytok.proofs.piece.piece.Goals as goal

pub returns-clause-within : goal.returns-clause-within
returns-clause-within c = subst (λ x. LiesWithin x c.args.bytes.now) (sym c.front.ensures) (piece-within c.args.bytes.now)
