use Rattle.std.proofs.Common.{◌+◌, ◌*◌, map}
use Rattle.mh_design.specs.Tree.{statement_of, arm_of, block, arms}
use Rattle.mh_design.specs.Bodies.{extent, block_extent, arms_extent}
use Rattle.mh_gen.proofs.Making.{SoFar, ArmsSoFar}
use Rattle.mh_gen.proofs.steps.+making.Given as goal

abbrev pub invariant-put_block-loop-s : goal.invariant-put_block-loop-s
invariant-put_block-loop-s l = SoFar l.initial.out.items l.out.items l.fn.first l.at l.body l.s-index

abbrev pub invariant-make_arms-loop-branch : goal.invariant-make_arms-loop-branch
invariant-make_arms-loop-branch l = ArmsSoFar l.made.items l.fn.first l.at l.branches l.branch-index

abbrev pub decreases-put_statement : goal.decreases-put_statement
decreases-put_statement l = 4 * extent (statement_of l.s.now)

abbrev pub decreases-put_block : goal.decreases-put_block
decreases-put_block l = 4 * block_extent (block (map statement_of l.body.now)) + 1

abbrev pub decreases-put_while : goal.decreases-put_while
decreases-put_while l = 4 * block_extent (block (map statement_of l.body.now)) + 2

abbrev pub decreases-put_for : goal.decreases-put_for
decreases-put_for l = 4 * block_extent (block (map statement_of l.body.now)) + 2

abbrev pub decreases-make_arms : goal.decreases-make_arms
decreases-make_arms l = 4 * arms_extent (arms (map arm_of l.branches.now)) + 2

abbrev pub decreases-put_if : goal.decreases-put_if
decreases-put_if l =
    4 * (arms_extent (arms (map arm_of l.branches.now)) + block_extent (block (map statement_of l.other.now))) + 3
