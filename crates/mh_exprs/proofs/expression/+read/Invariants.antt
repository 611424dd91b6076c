use Rattle.std.proofs.Common.{◌≡◌, ◌+◌, ◌*◌, max, drop, map}
use Rattle.mh_pytree.specs.Depth.{expr_depth, argument_depth, deepest}
use Rattle.mh_consts.specs.Expression.{given_of, parts_of}
use Rattle.mh_exprs.specs.Expression.{first, row, all}
use Rattle.mh_exprs.proofs.expression.+read.Given as goal

abbrev pub invariant-row-loop-part : goal.invariant-row-loop-part
invariant-row-loop-part l =
    row l.s l.locals l.w l.r (parts_of (map given_of (drop l.part-index l.arguments))) l.d
    ≡ row l.s l.locals l.w l.initial.r (parts_of (map given_of l.arguments)) l.initial.d

abbrev pub invariant-misfit-loop-part : goal.invariant-misfit-loop-part
invariant-misfit-loop-part l =
    all l.s l.locals l.w (parts_of (map given_of (drop l.part-index l.arguments))) l.d
    ≡ all l.s l.locals l.w (parts_of (map given_of l.arguments)) l.initial.d

abbrev pub invariant-first-loop-part : goal.invariant-first-loop-part
invariant-first-loop-part l =
    first l.s l.locals l.w l.wide (parts_of (map given_of (drop l.part-index l.arguments))) l.d
    ≡ first l.s l.locals l.w l.wide (parts_of (map given_of l.arguments)) l.initial.d

abbrev pub decreases-part : goal.decreases-part
decreases-part l = 7 * expr_depth l.e.now + 1

abbrev pub decreases-form : goal.decreases-form
decreases-form l = 7 * expr_depth l.e.now

abbrev pub decreases-negation : goal.decreases-negation
decreases-negation l = 7 * expr_depth l.a.now + 2

abbrev pub decreases-unary : goal.decreases-unary
decreases-unary l = 7 * expr_depth l.a.now + 2

abbrev pub decreases-member : goal.decreases-member
decreases-member l = 7 * expr_depth l.a.now + 2

abbrev pub decreases-binary : goal.decreases-binary
decreases-binary l = 7 * max (expr_depth l.a.now) (expr_depth l.b.now) + 2

abbrev pub decreases-index : goal.decreases-index
decreases-index l = 7 * max (expr_depth l.a.now) (expr_depth l.i.now) + 2

abbrev pub decreases-slice_from : goal.decreases-slice_from
decreases-slice_from l = 7 * max (expr_depth l.a.now) (expr_depth l.i.now) + 2

abbrev pub decreases-slice_to : goal.decreases-slice_to
decreases-slice_to l = 7 * max (expr_depth l.a.now) (max (expr_depth l.i.now) (expr_depth l.j.now)) + 2

abbrev pub decreases-call : goal.decreases-call
decreases-call l = 7 * max (expr_depth l.f.now) (deepest (map argument_depth l.arguments.now)) + 6

abbrev pub decreases-called : goal.decreases-called
decreases-called l = 7 * deepest (map argument_depth l.arguments.now) + 5

abbrev pub decreases-length_of : goal.decreases-length_of
decreases-length_of l = 7 * deepest (map argument_depth l.arguments.now) + 4

abbrev pub decreases-integer_of : goal.decreases-integer_of
decreases-integer_of l = 7 * deepest (map argument_depth l.arguments.now) + 4

abbrev pub decreases-truth_of : goal.decreases-truth_of
decreases-truth_of l = 7 * deepest (map argument_depth l.arguments.now) + 4

abbrev pub decreases-unbounded_of : goal.decreases-unbounded_of
decreases-unbounded_of l = 7 * deepest (map argument_depth l.arguments.now) + 4

abbrev pub decreases-row_of : goal.decreases-row_of
decreases-row_of l = 7 * deepest (map argument_depth l.arguments.now) + 4

abbrev pub decreases-first : goal.decreases-first
decreases-first l = 7 * deepest (map argument_depth l.arguments.now) + 3

abbrev pub decreases-row : goal.decreases-row
decreases-row l = 7 * deepest (map argument_depth l.arguments.now) + 3

abbrev pub decreases-misfit : goal.decreases-misfit
decreases-misfit l = 7 * deepest (map argument_depth l.arguments.now) + 3

abbrev pub decreases-argument : goal.decreases-argument
decreases-argument l = 7 * argument_depth l.a.now + 2
