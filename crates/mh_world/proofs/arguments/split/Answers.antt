use Rattle.std.proofs.Common.{Some, None, sym, ◌∙◌, arith}
use Rattle.mh_world.proofs.Splits.{split-by}
use Rattle.mh_world.proofs.arguments.split.Goals as goal

pub returns-in-Some : goal.returns-in-Some
returns-in-Some c =
    split-by c.args.arguments.now c.args.values.now c.count_positional-count.result (Some c.in-Some.named) c.count_positional-count.ensures.count (omega arith)
    (sym c.in-Some.is ∙ c.in_ok-named.ensures)

pub returns-in-None : goal.returns-in-None
returns-in-None c =
    split-by c.args.arguments.now c.args.values.now c.count_positional-count.result None c.count_positional-count.ensures.count (omega arith)
    (sym c.in-None.is ∙ c.in_ok-named.ensures)
