use Rattle.std.proofs.Common.{◌≡◌, ◌+◌, ◌*◌, max, [], drop, map, None}
use Rattle.mh_pytree.specs.Depth.{stmt_depth, branch_depth, deepest}
use Rattle.mh_pytree.proofs.Depths.{stmts_depth_if_any}
use Rattle.mh_design.specs.Tree.{statement_of, arm_of}
use Rattle.mh_lower.specs.Body.{line_of, choice_of, lines, choices}
use Rattle.mh_lower.specs.Bodies.{read_lines, read_choices}
use Rattle.mh_lower.proofs.bodies.+bodies.Given as goal

abbrev pub invariant-read_lines-loop-x : goal.invariant-read_lines-loop-x
invariant-read_lines-loop-x l =
    read_lines l.s l.locals l.instance l.in_loop (map statement_of l.out) (lines (map line_of (drop l.x-index l.xs))) l.w l.d
    ≡ read_lines l.s l.locals l.instance l.in_loop [] (lines (map line_of l.xs)) l.initial.w l.initial.d

abbrev pub invariant-read_branches-loop-choice : goal.invariant-read_branches-loop-choice
invariant-read_branches-loop-choice l =
    read_choices l.s l.locals l.instance l.in_loop l.line l.before (map arm_of l.branches, l.after) (choices (map choice_of (drop l.choice-index l.choices))) l.w l.d
    ≡ read_choices l.s l.locals l.instance l.in_loop l.line l.before ([], None) (choices (map choice_of l.choices)) l.initial.w l.initial.d

abbrev pub decreases-read_line : goal.decreases-read_line
decreases-read_line l = 6 * stmt_depth l.x.now

abbrev pub decreases-read_lines : goal.decreases-read_lines
decreases-read_lines l = 6 * deepest (map stmt_depth l.xs.now) + 1

abbrev pub decreases-read_while : goal.decreases-read_while
decreases-read_while l = 6 * deepest (map stmt_depth l.body.now) + 2

abbrev pub decreases-read_for : goal.decreases-read_for
decreases-read_for l = 6 * deepest (map stmt_depth l.body.now) + 2

abbrev pub decreases-read_branch : goal.decreases-read_branch
decreases-read_branch l = 6 * branch_depth l.choice.now + 2

abbrev pub decreases-read_branches : goal.decreases-read_branches
decreases-read_branches l = 6 * deepest (map branch_depth l.choices.now) + 3

abbrev pub decreases-read_other : goal.decreases-read_other
decreases-read_other l = 6 * stmts_depth_if_any l.other.now + 2

abbrev pub decreases-read_if : goal.decreases-read_if
decreases-read_if l = 6 * max (deepest (map branch_depth l.choices.now)) (stmts_depth_if_any l.other.now) + 4
