use Rattle.std.proofs.Common.{◌≡◌, map, drop}
use Rattle.mh_design.specs.Tree.{statement_of, arm_of, block, arms}
use Rattle.mh_design.specs.Assigned as spec
use Rattle.mh_design.proofs.assigned.+walking.Given as goal

abbrev pub invariant-walk_block-loop-s : goal.invariant-walk_block-loop-s
invariant-walk_block-loop-s l =
    spec.walk_block l.local (block (map statement_of l.body)) l.fn.before
    ≡ spec.walk_block l.local (block (map statement_of (drop l.s-index l.body))) l.flow

abbrev pub invariant-walk_branches-loop-branch : goal.invariant-walk_branches-loop-branch
invariant-walk_branches-loop-branch l =
    spec.walk_arms l.local (arms (map arm_of l.branches)) l.assigned l.fn.beside
    ≡ spec.walk_arms l.local (arms (map arm_of (drop l.branch-index l.branches))) l.assigned l.flow
