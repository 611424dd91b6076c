use Rattle.std.proofs.Common.{◌+◌, ◌*◌, ◌≡◌, map, refl, ap, sym, ◌∙◌, arith}
use Rattle.mh_flow.specs.Flow as flow
use Rattle.mh_design.specs.Tree as tree
use Rattle.mh_design.specs.Tree.{expression_of, statement_of, arm_of, block, arms}
use Rattle.mh_design.specs.declared.statement.Binding.TheVariants as binding
use Rattle.mh_design.specs.Bodies as spec
use Rattle.mh_design.proofs.Shapes as shape
use Rattle.mh_gen.proofs.Making.{so_far-start, so_far-next, so_far-ends, arms-next, arms-ends, puts-if, puts-loop, ok-as, ok-statement, ok-extent, extent-if, extent-while, extent-for, puts-fresh, while-as, for-as, if-as, arm-as, extent-at, extent-of-arm}
use Rattle.mh_gen.proofs.steps.+making.Goals as goal

pub put_block-loop-s-init : goal.put_block-loop-s-init
put_block-loop-s-init t c = so_far-start _ _ _

pub put_block-loop-s-preserved : goal.put_block-loop-s-preserved
put_block-loop-s-preserved t c = so_far-next _ _ _ _ _ _ _ _ _ (omega arith) c.s-item.is c.loop-s.invariant c.in_ok-at.ensures

pub put_block-returns : goal.put_block-returns
put_block-returns t c = so_far-ends _ _ _ _ _ _ (omega arith) c.loop-s.invariant

pub make_arms-loop-branch-preserved : goal.make_arms-loop-branch-preserved
make_arms-loop-branch-preserved t c =
    rw c.in_ok-push.ensures.items (arms-next _ _ _ _ _ _ _ _ _ _ _ (omega arith) c.branch-item.is (arm-as c.branch-item.result c.as_slice.result.now c.as_slice.ensures) c.source-test.ensures refl c.in_ok-count.ensures (puts-fresh _ _ _ _ _ _ c.new-body.ensures.items c.in_ok-at.ensures) c.loop-branch.invariant)

pub make_arms-returns : goal.make_arms-returns
make_arms-returns t c = arms-ends _ _ _ _ _ (omega arith) c.loop-branch.invariant

pub put_while-returns : goal.put_while-returns
put_while-returns t c =
    puts-loop _ _ _ _ _ _ _ (flow.WhileStatement (expression_of c.args.test.now)) _ (λ y. refl) c.in_ok-number.ensures c.in_ok-count.ensures (puts-fresh _ _ _ _ _ _ c.new-inner.ensures.items c.in_ok-end.ensures) c.while_of.ensures c.in_ok-push.ensures

pub put_for-returns : goal.put_for-returns
put_for-returns t c =
    let r = c.args.range in
    puts-loop _ _ _ _ _ _ _ (flow.CountStatement (tree.Bind r.variable binding.Plain) (spec.end_of r.down (expression_of r.from.now)) (spec.end_of r.down (expression_of r.to.now)) (spec.step_of r.down r.step.now)) _ (λ y. refl) c.in_ok-number.ensures c.in_ok-count.ensures (puts-fresh _ _ _ _ _ _ c.new-inner.ensures.items c.in_ok-end.ensures) c.count_of.ensures c.in_ok-push.ensures

pub put_if-returns : goal.put_if-returns
put_if-returns t c =
    puts-if _ _ _ _ _ _ _ _ _ _ _ c.in_ok-number.ensures refl c.in_ok-arms.ensures (puts-fresh _ _ _ _ _ _ c.new-rest.ensures.items c.in_ok-end.ensures) c.in_ok-chain.ensures c.in_ok-append.ensures

pub put_statement-returns-in-Set : goal.put_statement-returns-in-Set
put_statement-returns-in-Set t c =
    ok-statement _ _ _ _ (tree.Set _ _ _) _ (ap statement_of c.in-Set.is ∙ shape.statement-set _ _ _) (ok-as _ _ _ _ _ _ 1 c.set_step.ensures c.put_one.ensures)

pub put_statement-returns-in-Break : goal.put_statement-returns-in-Break
put_statement-returns-in-Break t c =
    ok-statement _ _ _ _ (tree.Break _) _ (ap statement_of c.in-Break.is ∙ shape.statement-break _) c.put_one-in-Break.ensures

pub put_statement-returns-in-Continue : goal.put_statement-returns-in-Continue
put_statement-returns-in-Continue t c =
    ok-statement _ _ _ _ (tree.Continue _) _ (ap statement_of c.in-Continue.is ∙ shape.statement-continue _) c.put_one-in-Continue.ensures

pub put_statement-returns-in-Yield : goal.put_statement-returns-in-Yield
put_statement-returns-in-Yield t c =
    ok-statement _ _ _ _ (tree.Yield _ _) _ (ap statement_of c.in-Yield.is ∙ shape.statement-yield _ _) c.put_one-in-Yield.ensures

pub put_statement-returns-in-Print : goal.put_statement-returns-in-Print
put_statement-returns-in-Print t c =
    ok-statement _ _ _ _ (tree.Print _ _) _ (ap statement_of c.in-Print.is ∙ shape.statement-print _ _) c.put_one-in-Print.ensures

pub put_statement-returns-in-Stop : goal.put_statement-returns-in-Stop
put_statement-returns-in-Stop t c =
    ok-statement _ _ _ _ (tree.Stop _) _ (ap statement_of c.in-Stop.is ∙ shape.statement-stop _) c.put_one-in-Stop.ensures

pub put_statement-returns-in-Assert : goal.put_statement-returns-in-Assert
put_statement-returns-in-Assert t c =
    ok-statement _ _ _ _ (tree.Assert _ _) _ (ap statement_of c.in-Assert.is ∙ shape.statement-assert _ _) (ok-as _ _ _ _ _ _ 1 c.check_step.ensures c.put_one-in-Assert.ensures)

pub put_statement-returns-in-While : goal.put_statement-returns-in-While
put_statement-returns-in-While t c =
    ok-statement _ _ _ _ (tree.While _ _ _) _ (ap statement_of c.in-While.is ∙ while-as _ _ _ _ c.as_slice-in-While.ensures) (ok-extent _ _ _ _ _ _ _ (sym (extent-while c.in-While.line (expression_of c.in-While.test) (block (map statement_of c.as_slice-in-While.result.now)))) c.put_while.ensures)

pub put_statement-returns-in-For : goal.put_statement-returns-in-For
put_statement-returns-in-For t c =
    ok-statement _ _ _ _ (tree.For _ _ _ _ _ _ _) _ (ap statement_of c.in-For.is ∙ for-as _ _ _ _ _ _ _ _ c.as_slice-in-For.ensures) (ok-extent _ _ _ _ _ _ _ (sym (extent-for c.in-For.line c.in-For.variable c.in-For.down (expression_of c.in-For.from) (expression_of c.in-For.to) c.in-For.step (block (map statement_of c.as_slice-in-For.result.now)))) c.put_for.ensures)

pub put_statement-returns-in-If : goal.put_statement-returns-in-If
put_statement-returns-in-If t c =
    ok-statement _ _ _ _ (tree.If _ _ _) _ (ap statement_of c.in-If.is ∙ if-as _ _ _ _ _ c.as_slice.ensures c.as_slice-in-If.ensures) (ok-extent _ _ _ _ _ _ _ (sym (extent-if c.in-If.line (arms (map arm_of c.as_slice.result.now)) (block (map statement_of c.as_slice-in-If.result.now)))) c.put_if.ensures)

pub put_while-put_block-requires : goal.put_while-put_block-requires
put_while-put_block-requires n c =
    let here : 4 * spec.block_extent (block (map statement_of c.args.body.now)) + 2 ≡ n = c.decreases in
    (omega (arith, here), tt)

pub put_for-put_block-requires : goal.put_for-put_block-requires
put_for-put_block-requires n c =
    let here : 4 * spec.block_extent (block (map statement_of c.args.body.now)) + 2 ≡ n = c.decreases in
    (omega (arith, here), tt)

pub put_if-make_arms-requires : goal.put_if-make_arms-requires
put_if-make_arms-requires n c =
    let here : 4 * (spec.arms_extent (arms (map arm_of c.args.branches.now)) + spec.block_extent (block (map statement_of c.args.other.now))) + 3 ≡ n = c.decreases in
    (omega (arith, here), tt)

pub put_if-put_block-requires : goal.put_if-put_block-requires
put_if-put_block-requires n c =
    let here : 4 * (spec.arms_extent (arms (map arm_of c.args.branches.now)) + spec.block_extent (block (map statement_of c.args.other.now))) + 3 ≡ n = c.decreases in
    (omega (arith, here), tt)

pub put_block-put_statement-requires : goal.put_block-put_statement-requires
put_block-put_statement-requires n c =
    let here : 4 * spec.block_extent (block (map statement_of c.args.body.now)) + 1 ≡ n = c.decreases in
    let part = extent-at c.args.body.now c.loop-s.s-index c.s-item.result c.loop-s-test.true c.s-item.is in
    (omega (arith, here, part), tt)

pub make_arms-put_block-requires : goal.make_arms-put_block-requires
make_arms-put_block-requires n c =
    let here : 4 * spec.arms_extent (arms (map arm_of c.args.branches.now)) + 2 ≡ n = c.decreases in
    let part = extent-of-arm c.args.branches.now c.loop-branch.branch-index c.branch-item.result _ _ c.loop-branch-test.true c.branch-item.is (arm-as c.branch-item.result c.as_slice.result.now c.as_slice.ensures) in
    (omega (arith, here, part), tt)

pub put_statement-put_while-requires : goal.put_statement-put_while-requires
put_statement-put_while-requires n c =
    let here : 4 * spec.extent (statement_of c.args.s.now) ≡ n = c.decreases in
    let is = ap spec.extent (ap statement_of c.in-While.is ∙ while-as _ _ _ _ c.as_slice-in-While.ensures) in
    (omega (arith, here, is, extent-while c.in-While.line (expression_of c.in-While.test) (block (map statement_of c.as_slice-in-While.result.now))), tt)

pub put_statement-put_for-requires : goal.put_statement-put_for-requires
put_statement-put_for-requires n c =
    let here : 4 * spec.extent (statement_of c.args.s.now) ≡ n = c.decreases in
    let is = ap spec.extent (ap statement_of c.in-For.is ∙ for-as _ _ _ _ _ _ _ _ c.as_slice-in-For.ensures) in
    (omega (arith, here, is, extent-for c.in-For.line c.in-For.variable c.in-For.down (expression_of c.in-For.from) (expression_of c.in-For.to) c.in-For.step (block (map statement_of c.as_slice-in-For.result.now))), tt)

pub put_statement-put_if-requires : goal.put_statement-put_if-requires
put_statement-put_if-requires n c =
    let here : 4 * spec.extent (statement_of c.args.s.now) ≡ n = c.decreases in
    let is = ap spec.extent (ap statement_of c.in-If.is ∙ if-as _ _ _ _ _ c.as_slice.ensures c.as_slice-in-If.ensures) in
    (omega (arith, here, is, extent-if c.in-If.line (arms (map arm_of c.as_slice.result.now)) (block (map statement_of c.as_slice-in-If.result.now))), tt)
