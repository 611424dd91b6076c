use Rattle.std.proofs.Common.{◌<◌, reverse, arith}
use Rattle.mh_pytok.specs.Layout.{innermost}
use Rattle.mh_pytok.proofs.IndentLaws.{left_more}
use Rattle.mh_pytok.proofs.indents.leave.Goals as goal

pub loop-indents-preserved : goal.loop-indents-preserved
loop-indents-preserved c =
    let further : c.args.column < innermost (reverse c.loop-indents.indents) = omega arith in
    left_more _ _ _ _ _ c.pop.result c.pop.ensures further c.loop-indents.invariant
