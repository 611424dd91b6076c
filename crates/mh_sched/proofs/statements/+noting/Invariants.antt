use Rattle.std.proofs.Common.{◌≡◌, ◌++◌, map, drop}
use Rattle.mh_design.specs.Tree.{arm_of, arms, block, statement_of}
use Rattle.mh_design.specs.Numbering as numbering
use Rattle.mh_sched.specs.Notes.{seen_statements}
use Rattle.mh_sched.proofs.statements.+noting.Given as goal

abbrev pub invariant-put_statements-loop-s : goal.invariant-put_statements-loop-s
invariant-put_statements-loop-s l =
    seen_statements l.fn.out.items ++ numbering.block_statements (block (map statement_of l.body))
    ≡ seen_statements l.out.items ++ numbering.block_statements (block (map statement_of (drop l.s-index l.body)))

abbrev pub invariant-put_branches-loop-branch : goal.invariant-put_branches-loop-branch
invariant-put_branches-loop-branch l =
    seen_statements l.fn.out.items ++ numbering.arms_statements (arms (map arm_of l.branches))
    ≡ seen_statements l.out.items ++ numbering.arms_statements (arms (map arm_of (drop l.branch-index l.branches)))
