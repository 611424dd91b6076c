use Rattle.std.proofs.Common.{arith, sym}
use Rattle.std.proofs.lemmas.Bool.{eqb-false}
use Rattle.mh_flat.proofs.Bodies.{first_full}
use Rattle.mh_flat.proofs.emit.start_of.Goals as goal

pub returns-else-is_empty : goal.returns-else-is_empty
returns-else-is_empty g c =
    sym (first_full c.args.block.now c.args.place c.args.after (omega (arith, eqb-false _ _ (sym c.if-is_empty.ensures))))
