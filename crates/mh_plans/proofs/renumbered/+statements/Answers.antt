use Rattle.std.proofs.Common.{map, drop, ap, arith}
use Rattle.std.proofs.lemmas.List.{drop_all}
use Rattle.mh_design.specs.Tree.{arm_of, statement_of}
use Rattle.mh_plans.specs.Renumbered as spec
use Rattle.mh_plans.specs.View.{chosen_of}
use Rattle.mh_plans.proofs.EndLaws.{block_ends, arms_end}
use Rattle.mh_plans.proofs.renumbered.+statements.Goals as goal

pub block_in-returns : goal.block_in-returns
block_in-returns t c =
    block_ends (chosen_of c.args.k.now) (map statement_of c.args.body.now) (map statement_of c.loop-s.all) (map (spec.statement_in (chosen_of c.args.k.now)) (map statement_of (drop c.loop-s.s-index c.args.body.now)))
    c.loop-s.invariant (ap (λ ss. map (spec.statement_in (chosen_of c.args.k.now)) (map statement_of ss)) (drop_all c.loop-s.s-index c.args.body.now (omega arith)))

pub branches_in-returns : goal.branches_in-returns
branches_in-returns t c =
    arms_end (chosen_of c.args.k.now) (map arm_of c.args.branches.now) (map arm_of c.loop-branch.all) (map (spec.arm_in (chosen_of c.args.k.now)) (map arm_of (drop c.loop-branch.branch-index c.args.branches.now)))
    c.loop-branch.invariant (ap (λ bs. map (spec.arm_in (chosen_of c.args.k.now)) (map arm_of bs)) (drop_all c.loop-branch.branch-index c.args.branches.now (omega arith)))
