use Rattle.std.proofs.Common.{◌≡◌, ◌++◌, map, drop}
use Rattle.mh_design.specs.Tree.{arm_of, statement_of}
use Rattle.mh_plans.specs.Renumbered as spec
use Rattle.mh_plans.specs.View.{chosen_of}
use Rattle.mh_plans.proofs.renumbered.+statements.Given as goal

abbrev pub invariant-block_in-loop-s : goal.invariant-block_in-loop-s
invariant-block_in-loop-s l = map (spec.statement_in (chosen_of l.k)) (map statement_of l.body) ≡ map statement_of l.all ++ map (spec.statement_in (chosen_of l.k)) (map statement_of (drop l.s-index l.body))

abbrev pub invariant-branches_in-loop-branch : goal.invariant-branches_in-loop-branch
invariant-branches_in-loop-branch l = map (spec.arm_in (chosen_of l.k)) (map arm_of l.branches) ≡ map arm_of l.all ++ map (spec.arm_in (chosen_of l.k)) (map arm_of (drop l.branch-index l.branches))
