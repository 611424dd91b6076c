use Rattle.std.proofs.Common.{◌≡◌, ◌++◌, map, drop}
use Rattle.mh_design.specs.Tree.{arm_of, arms, block, statement_of}
use Rattle.mh_design.specs.Bodies as bodies
use Rattle.mh_sched.proofs.statements.+lining.Given as goal

abbrev pub invariant-put_lines-loop-s : goal.invariant-put_lines-loop-s
invariant-put_lines-loop-s l =
    l.fn.out.items ++ bodies.block_lines (block (map statement_of l.body))
    ≡ l.out.items ++ bodies.block_lines (block (map statement_of (drop l.s-index l.body)))

abbrev pub invariant-put_branch_lines-loop-branch : goal.invariant-put_branch_lines-loop-branch
invariant-put_branch_lines-loop-branch l =
    l.fn.out.items ++ bodies.arms_lines l.line (arms (map arm_of l.branches))
    ≡ l.out.items ++ bodies.arms_lines l.line (arms (map arm_of (drop l.branch-index l.branches)))
