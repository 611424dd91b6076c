use Rattle.std.proofs.Common.{map, drop, ap, arith}
use Rattle.std.proofs.lemmas.List.{drop_all}
use Rattle.mh_design.specs.Tree.{expression_of}
use Rattle.mh_plans.specs.Renumbered as spec
use Rattle.mh_plans.specs.View.{chosen_of}
use Rattle.mh_plans.proofs.EndLaws.{row_ends}
use Rattle.mh_plans.proofs.renumbered.+expressions.Goals as goal

pub parts_in-returns : goal.parts_in-returns
parts_in-returns t c =
    row_ends (chosen_of c.args.k.now) (map expression_of c.args.parts.now) (map expression_of c.loop-part.all) (map (spec.expression_in (chosen_of c.args.k.now)) (map expression_of (drop c.loop-part.part-index c.args.parts.now)))
    c.loop-part.invariant (ap (λ ps. map (spec.expression_in (chosen_of c.args.k.now)) (map expression_of ps)) (drop_all c.loop-part.part-index c.args.parts.now (omega arith)))
