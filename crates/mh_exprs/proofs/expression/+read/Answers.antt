use Rattle.std.proofs.Common.{rules, ◌≡◌, ◌∙◌, suc, ◌+◌, ◌*◌, ◌<◌, ◌≤◌, max, Some, map, ap, sym, subst, arith}
use Rattle.mh_pytree.specs.Depth.{expr_depth, argument_depth, deepest}
use Rattle.mh_pytree.proofs.Depths.{depth-slice}
use Rattle.mh_exprs.proofs.Deep.{deepest_at}
use Rattle.mh_pytree.specs.declared.expression.PyExpr.TheVariants as tree
use Rattle.mh_exprs.proofs.Forms.{form-unary, form-between, form-attribute, grows}
use Rattle.mh_exprs.proofs.expression.+read.Goals as goal

pub form-returns-in-Unary : goal.form-returns-in-Unary
form-returns-in-Unary n c =
    let is : c.args.e.now ≡ tree.Unary c.in-Unary.sign c.get-in-Unary.result.now = search rules in
    grows c.unary.result c.unary.new.d (form-unary c.args.s.now c.args.locals.now c.args.w.now c.args.e.now c.in-Unary.sign c.get-in-Unary.result.now c.args.d.now is) c.unary.ensures

pub form-returns-in-Binary : goal.form-returns-in-Binary
form-returns-in-Binary n c =
    let is : c.args.e.now ≡ tree.Binary c.in-Binary.op c.get-in-Binary.result.now c.get-in-Binary-2.result.now = search rules in
    grows c.binary.result c.binary.new.d (form-between c.args.s.now c.args.locals.now c.args.w.now c.args.e.now c.in-Binary.op c.get-in-Binary.result.now c.get-in-Binary-2.result.now c.args.d.now is) c.binary.ensures

pub form-returns-in-Attribute : goal.form-returns-in-Attribute
form-returns-in-Attribute n c =
    let is : c.args.e.now ≡ tree.Attribute c.get-in-Attribute.result.now c.in-Attribute.name = search rules in
    grows c.member.result c.member.new.d (form-attribute c.args.s.now c.args.locals.now c.args.w.now c.args.e.now c.get-in-Attribute.result.now c.in-Attribute.name c.args.d.now is) c.member.ensures

pub first-argument-requires : goal.first-argument-requires
first-argument-requires n c =
    let deep : argument_depth c.part-item.result ≤ deepest (map argument_depth c.args.arguments.now) =
    subst (λ a. argument_depth a ≤ deepest (map argument_depth c.args.arguments.now)) (sym c.part-item.is) (deepest_at c.args.arguments.now c.loop-part.part-index c.part-item.result c.loop-part-test.true) in
    let here : 7 * deepest (map argument_depth c.args.arguments.now) + 3 ≡ n = c.decreases in
    let low : 7 * argument_depth c.part-item.result + 2 < n = omega (arith, deep, here) in
    (low, tt)

pub row-argument-requires : goal.row-argument-requires
row-argument-requires n c =
    let deep : argument_depth c.part-item.result ≤ deepest (map argument_depth c.args.arguments.now) =
    subst (λ a. argument_depth a ≤ deepest (map argument_depth c.args.arguments.now)) (sym c.part-item.is) (deepest_at c.args.arguments.now c.loop-part.part-index c.part-item.result c.loop-part-test.true) in
    let here : 7 * deepest (map argument_depth c.args.arguments.now) + 3 ≡ n = c.decreases in
    let low : 7 * argument_depth c.part-item.result + 2 < n = omega (arith, deep, here) in
    (low, tt)

pub misfit-argument-requires : goal.misfit-argument-requires
misfit-argument-requires n c =
    let deep : argument_depth c.part-item.result ≤ deepest (map argument_depth c.args.arguments.now) =
    subst (λ a. argument_depth a ≤ deepest (map argument_depth c.args.arguments.now)) (sym c.part-item.is) (deepest_at c.args.arguments.now c.loop-part.part-index c.part-item.result c.loop-part-test.true) in
    let here : 7 * deepest (map argument_depth c.args.arguments.now) + 3 ≡ n = c.decreases in
    let low : 7 * argument_depth c.part-item.result + 2 < n = omega (arith, deep, here) in
    (low, tt)

pub form-slice_to-requires : goal.form-slice_to-requires
form-slice_to-requires n c =
    let whole : c.args.e.now ≡ tree.Slice c.get-in-Some.result.now c.get-in-Some-2.result.now (Some c.get-in-Some-3.result.now) = search rules in
    let deep : expr_depth c.args.e.now ≡ suc (max (expr_depth c.get-in-Some.result.now) (max (expr_depth c.get-in-Some-2.result.now) (expr_depth c.get-in-Some-3.result.now))) =
    ap expr_depth whole ∙ depth-slice c.get-in-Some.result.now c.get-in-Some-2.result.now (Some c.get-in-Some-3.result.now) in
    let here : 7 * expr_depth c.args.e.now ≡ n = c.decreases in
    let low : 7 * max (expr_depth c.get-in-Some.result.now) (max (expr_depth c.get-in-Some-2.result.now) (expr_depth c.get-in-Some-3.result.now)) + 2 < n = omega (arith, deep, here) in
    (low, tt)
