use Rattle.std.proofs.Common.{◌≡◌, map, drop}
use Rattle.mh_design.specs.Tree.{statement_of, arm_of, block, arms}
use Rattle.mh_design.specs.Depth as spec
use Rattle.mh_design.proofs.depth.+statement_depth.Given as goal

abbrev pub invariant-block_is_within-loop-s : goal.invariant-block_is_within-loop-s
invariant-block_is_within-loop-s l =
    spec.block_is_within (block (map statement_of l.body)) l.levels ≡ spec.block_is_within (block (map statement_of (drop l.s-index l.body))) l.levels

abbrev pub invariant-branches_are_within-loop-branch : goal.invariant-branches_are_within-loop-branch
invariant-branches_are_within-loop-branch l =
    spec.arms_are_within (arms (map arm_of l.branches)) l.levels ≡ spec.arms_are_within (arms (map arm_of (drop l.branch-index l.branches))) l.levels
