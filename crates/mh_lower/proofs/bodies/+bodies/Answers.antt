use Rattle.std.proofs.Common.{◌≡◌, ◌∙◌, suc, ◌+◌, ◌*◌, ◌<◌, ◌≤◌, ◌++◌, ◌∷◌, [], max, map, length, drop, Err, sym, ap, subst, arith, rules}
use Rattle.mh_pytree.specs.Depth.{expr_depth, stmt_depth, branch_depth, deepest}
use Rattle.mh_pytree.specs.declared.statement.Branch.{out-Branch}
use Rattle.mh_pytree.proofs.Depths.{depth-branch, depth-for, depth-if, depth-while, stmts_depth_if_any}
use Rattle.mh_design.specs.Tree.{statement_of, arm_of}
use Rattle.std.specs.Option.{option_map}
use Rattle.mh_lower.specs.Bodies.{branches_of, read_lines, read_choices, with_any}
use Rattle.mh_lower.specs.Body.{line_of, choice_of, lines, choices}
use Rattle.mh_lower.specs.Run.{Runs}
use Rattle.mh_lower.proofs.Deepest.{deepest_at}
use Rattle.mh_lower.proofs.Lines.{branches_end, branches_refused, branches_step, break-read, continue-read, if-read, lines_end, lines_refused, lines_step, raise-read, raised, runs_same, yield-read}
use Rattle.mh_lower.proofs.bodies.+bodies.Goals as goal

pub read_branch-read_lines-requires : goal.read_branch-read_lines-requires
read_branch-read_lines-requires t c =
    let is : c.as_slice-body.result.now ≡ (out-Branch c.args.choice.now).body = search rules in
    let deep : branch_depth c.args.choice.now ≡ max (expr_depth (out-Branch c.args.choice.now).test) (deepest (map stmt_depth c.as_slice-body.result.now)) =
    depth-branch c.args.choice.now ∙ ap (λ ss. max (expr_depth (out-Branch c.args.choice.now).test) (deepest (map stmt_depth ss))) (sym is) in
    let here : 6 * branch_depth c.args.choice.now + 2 ≡ t = c.decreases in
    let low : 6 * deepest (map stmt_depth c.as_slice-body.result.now) + 1 < t = omega (arith, deep, here) in
    (low, tt)

pub read_branches-read_branch-requires : goal.read_branches-read_branch-requires
read_branches-read_branch-requires t c =
    let deep : branch_depth c.choice-item.result ≤ deepest (map branch_depth c.args.choices.now) =
    subst (λ a. branch_depth a ≤ deepest (map branch_depth c.args.choices.now)) (sym c.choice-item.is) (deepest_at branch_depth c.args.choices.now c.loop-choice.choice-index c.choice-item.result c.loop-choice-test.true) in
    let here : 6 * deepest (map branch_depth c.args.choices.now) + 3 ≡ t = c.decreases in
    let low : 6 * branch_depth c.choice-item.result + 2 < t = omega (arith, deep, here) in
    (low, tt)

pub read_branches-returns-in_err-branch : goal.read_branches-returns-in_err-branch
read_branches-returns-in_err-branch t c =
    let is : c.from_residual-in_err-branch.result ≡ Err c.in_err-branch.field-0.0 = search rules in
    let run : Runs branches_of (read_choices c.args.s.now c.args.locals.now c.args.instance c.args.in_loop c.args.line c.args.before.now (map arm_of c.loop-choice.branches, c.loop-choice.after) (choices (map choice_of (drop c.loop-choice.choice-index c.args.choices.now))) c.loop-choice.w c.loop-choice.d) (Err c.in_err-branch.field-0.0) c.read_branch.new.w c.read_branch.new.d =
    branches_refused c.args.s.now c.args.locals.now c.args.instance c.args.in_loop c.args.line c.args.before.now (map arm_of c.loop-choice.branches, c.loop-choice.after) c.args.choices.now c.loop-choice.choice-index c.choice-item.result c.read_branch.result c.in_err-branch.field-0.0 c.in_ok-w.field-0 c.loop-choice.w c.read_branch.new.w c.loop-choice.d c.read_branch.new.d c.loop-choice-test.true c.choice-item.is c.in_err-branch.was c.in_ok-w.ensures c.read_branch.ensures in
    raised branches_of _ _ c.from_residual-in_err-branch.result c.in_err-branch.field-0.0 c.read_branch.new.w c.read_branch.new.d is c.loop-choice.invariant run

pub read_branches-loop-choice-preserved : goal.read_branches-loop-choice-preserved
read_branches-loop-choice-preserved t c =
    let grown : c.push.new.self ≡ c.loop-choice.branches ++ c.in_ok-branch.branch ∷ [] = search rules in
    branches_step c.args.s.now c.args.locals.now c.args.instance c.args.in_loop c.args.line c.args.before.now c.push.new.self c.loop-choice.branches c.in_ok-after.after c.loop-choice.after c.args.choices.now c.loop-choice.choice-index c.choice-item.result c.read_branch.result c.in_ok-branch.branch c.in_ok-w.field-0 c.loop-choice.w c.read_branch.new.w c.loop-choice.d c.read_branch.new.d c.loop-choice-test.true c.choice-item.is c.in_ok-branch.was c.in_ok-w.ensures c.read_branch.ensures grown c.in_ok-after.ensures
    ∙ c.loop-choice.invariant

pub read_branches-returns : goal.read_branches-returns
read_branches-returns t c =
    let over : length c.args.choices.now ≤ c.loop-choice.choice-index = omega arith in
    sym c.loop-choice.invariant ∙ branches_end c.args.s.now c.args.locals.now c.args.instance c.args.in_loop c.args.line c.args.before.now (map arm_of c.loop-choice.branches, c.loop-choice.after) c.args.choices.now c.loop-choice.choice-index c.loop-choice.w c.loop-choice.d over

pub read_line-read_if-requires : goal.read_line-read_if-requires
read_line-read_if-requires t c =
    let deep : stmt_depth c.args.x.now ≡ suc (max (deepest (map branch_depth c.in-If.branches)) (stmts_depth_if_any c.in-If.other)) = ap stmt_depth c.in-If.is ∙ depth-if c.in-If.l c.in-If.branches c.in-If.other in
    let same : deepest (map branch_depth c.as_slice-choices.result.now) ≡ deepest (map branch_depth c.in-If.branches) = ap (λ bs. deepest (map branch_depth bs)) c.as_slice-choices.ensures in
    let here : 6 * stmt_depth c.args.x.now ≡ t = c.decreases in
    let low : 6 * max (deepest (map branch_depth c.as_slice-choices.result.now)) (stmts_depth_if_any c.in-If.other) + 4 < t = omega (arith, deep, same, here) in
    (low, tt)

pub read_line-read_for-requires : goal.read_line-read_for-requires
read_line-read_for-requires t c =
    let deep : stmt_depth c.args.x.now ≡ suc (max (expr_depth c.in-For.over) (deepest (map stmt_depth c.in-For.body))) = ap stmt_depth c.in-For.is ∙ depth-for c.in-For.l c.in-For.t c.in-For.over c.in-For.body in
    let same : deepest (map stmt_depth c.as_slice-turns.result.now) ≡ deepest (map stmt_depth c.in-For.body) = ap (λ ss. deepest (map stmt_depth ss)) c.as_slice-turns.ensures in
    let here : 6 * stmt_depth c.args.x.now ≡ t = c.decreases in
    let low : 6 * deepest (map stmt_depth c.as_slice-turns.result.now) + 2 < t = omega (arith, deep, same, here) in
    (low, tt)

pub read_line-read_while-requires : goal.read_line-read_while-requires
read_line-read_while-requires t c =
    let deep : stmt_depth c.args.x.now ≡ suc (max (expr_depth c.in-While.e) (deepest (map stmt_depth c.in-While.body))) = ap stmt_depth c.in-While.is ∙ depth-while c.in-While.l c.in-While.e c.in-While.body in
    let same : deepest (map stmt_depth c.as_slice-again.result.now) ≡ deepest (map stmt_depth c.in-While.body) = ap (λ ss. deepest (map stmt_depth ss)) c.as_slice-again.ensures in
    let here : 6 * stmt_depth c.args.x.now ≡ t = c.decreases in
    let low : 6 * deepest (map stmt_depth c.as_slice-again.result.now) + 2 < t = omega (arith, deep, same, here) in
    (low, tt)

pub read_line-returns-in-If : goal.read_line-returns-in-If
read_line-returns-in-If t c =
    runs_same (option_map statement_of) _ _ c.read_if.result c.read_if.new.w c.read_if.new.d
    (if-read c.args.s.now c.args.locals.now c.args.instance c.args.in_loop c.args.x.now c.in-If.l c.in-If.branches c.as_slice-choices.result.now c.in-If.other c.args.w.now c.args.d.now c.in-If.is c.as_slice-choices.ensures)
    c.read_if.ensures

pub read_line-returns-in-Break : goal.read_line-returns-in-Break
read_line-returns-in-Break t c =
    runs_same (option_map statement_of) _ _ c.break_line.result c.break_line.new.w c.args.d.now
    (break-read c.args.s.now c.args.locals.now c.args.instance c.args.in_loop c.args.x.now c.in-Break.l c.args.w.now c.args.d.now c.in-Break.is)
    (c.break_line.ensures c.args.d.now)

pub read_line-returns-in-Continue : goal.read_line-returns-in-Continue
read_line-returns-in-Continue t c =
    runs_same (option_map statement_of) _ _ c.continue_line.result c.continue_line.new.w c.args.d.now
    (continue-read c.args.s.now c.args.locals.now c.args.instance c.args.in_loop c.args.x.now c.in-Continue.l c.args.w.now c.args.d.now c.in-Continue.is)
    (c.continue_line.ensures c.args.d.now)

pub read_line-returns-in-Yield : goal.read_line-returns-in-Yield
read_line-returns-in-Yield t c =
    runs_same (option_map statement_of) _ _ c.yield_line.result c.args.w.now c.args.d.now
    (yield-read c.args.s.now c.args.locals.now c.args.instance c.args.in_loop c.args.x.now c.in-Yield.l c.in-Yield.e c.args.w.now c.args.d.now c.in-Yield.is)
    (c.yield_line.ensures c.args.w.now c.args.d.now)

pub read_line-returns-in-Raise : goal.read_line-returns-in-Raise
read_line-returns-in-Raise t c =
    runs_same (option_map statement_of) _ _ c.raise_line.result c.raise_line.new.w c.args.d.now
    (raise-read c.args.s.now c.args.locals.now c.args.instance c.args.in_loop c.args.x.now c.in-Raise.l c.in-Raise.e c.args.w.now c.args.d.now c.in-Raise.is)
    (c.raise_line.ensures c.args.d.now)

pub read_lines-read_line-requires : goal.read_lines-read_line-requires
read_lines-read_line-requires t c =
    let deep : stmt_depth c.x-item.result ≤ deepest (map stmt_depth c.args.xs.now) =
    subst (λ a. stmt_depth a ≤ deepest (map stmt_depth c.args.xs.now)) (sym c.x-item.is) (deepest_at stmt_depth c.args.xs.now c.loop-x.x-index c.x-item.result c.loop-x-test.true) in
    let here : 6 * deepest (map stmt_depth c.args.xs.now) + 1 ≡ t = c.decreases in
    let low : 6 * stmt_depth c.x-item.result < t = omega (arith, deep, here) in
    (low, tt)

pub read_lines-returns-in_err-made : goal.read_lines-returns-in_err-made
read_lines-returns-in_err-made t c =
    let is : c.from_residual.result ≡ Err c.in_err-made.field-0.0 = search rules in
    let run : Runs (map statement_of) (read_lines c.args.s.now c.args.locals.now c.args.instance c.args.in_loop (map statement_of c.loop-x.out) (lines (map line_of (drop c.loop-x.x-index c.args.xs.now))) c.loop-x.w c.loop-x.d) (Err c.in_err-made.field-0.0) c.read_line.new.w c.read_line.new.d =
    lines_refused c.args.s.now c.args.locals.now c.args.instance c.args.in_loop (map statement_of c.loop-x.out) c.args.xs.now c.loop-x.x-index c.x-item.result c.read_line.result c.in_err-made.field-0.0 c.loop-x.w c.read_line.new.w c.loop-x.d c.read_line.new.d c.loop-x-test.true c.x-item.is c.in_err-made.was c.read_line.ensures in
    raised (map statement_of) _ _ c.from_residual.result c.in_err-made.field-0.0 c.read_line.new.w c.read_line.new.d is c.loop-x.invariant run

pub read_lines-loop-x-preserved : goal.read_lines-loop-x-preserved
read_lines-loop-x-preserved t c =
    let grown : map statement_of c.add.new.out ≡ with_any (map statement_of c.loop-x.out) (option_map statement_of c.in_ok-made.made) = search rules in
    lines_step c.args.s.now c.args.locals.now c.args.instance c.args.in_loop c.loop-x.out c.add.new.out c.args.xs.now c.loop-x.x-index c.x-item.result c.read_line.result c.in_ok-made.made c.loop-x.w c.read_line.new.w c.loop-x.d c.read_line.new.d c.loop-x-test.true c.x-item.is c.in_ok-made.was c.read_line.ensures grown
    ∙ c.loop-x.invariant

pub read_lines-returns : goal.read_lines-returns
read_lines-returns t c =
    let over : length c.args.xs.now ≤ c.loop-x.x-index = omega arith in
    sym c.loop-x.invariant ∙ lines_end c.args.s.now c.args.locals.now c.args.instance c.args.in_loop (map statement_of c.loop-x.out) c.args.xs.now c.loop-x.x-index c.loop-x.w c.loop-x.d over
