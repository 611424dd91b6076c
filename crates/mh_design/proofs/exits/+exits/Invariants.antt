use Rattle.std.proofs.Common.{◌≡◌, map, drop}
use Rattle.mh_design.specs.Tree.{statement_of, arm_of, block, arms}
use Rattle.mh_design.specs.Statements as spec
use Rattle.mh_design.proofs.exits.+exits.Given as goal

abbrev pub invariant-block_exits_fit-loop-s : goal.invariant-block_exits_fit-loop-s
invariant-block_exits_fit-loop-s l =
    spec.block_exits_fit l.in_loop (block (map statement_of l.body))
    ≡ spec.block_exits_fit l.in_loop (block (map statement_of (drop l.s-index l.body)))

abbrev pub invariant-branches_exits_fit-loop-branch : goal.invariant-branches_exits_fit-loop-branch
invariant-branches_exits_fit-loop-branch l =
    spec.arms_exits_fit l.in_loop (arms (map arm_of l.branches))
    ≡ spec.arms_exits_fit l.in_loop (arms (map arm_of (drop l.branch-index l.branches)))
