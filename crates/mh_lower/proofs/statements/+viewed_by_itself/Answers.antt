use Rattle.std.proofs.Common.{rules, ◌≡◌, ◌∙◌, ℕ, false, List, map, Option, Some, None, is_some, refl, sym, ap, subst}
use Rattle.std.specs.Option.{option_map}
use Rattle.mh_pytree.specs.declared.expression.Argument.{Argument}
use Rattle.mh_pytree.specs.declared.expression.PyExpr.{PyExpr}
use Rattle.mh_pytree.specs.declared.expression.PyExpr.TheVariants as tree
use Rattle.mh_consts.specs.Expression.{Ex, Exs, Keys, attribute_in, called_as, ex_of, given_of, keys_of, parts_of}
use Rattle.mh_consts.proofs.Shapes.{ex-call}
use Rattle.mh_design.specs.Tree.{statement_of}
use Rattle.mh_lower.specs.Run.{Reads}
use Rattle.mh_lower.specs.Statements.{by_itself_view}
use Rattle.mh_lower.specs.Views.{View, view, Called}
use Rattle.mh_lower.proofs.statements.+viewed_by_itself.Goals as goal

-- a call of what is no attribute, as a view
plain_view : (m : Option (List ℕ × Exs)) (f : Ex) (keys : Keys) (args : Exs) → is_some m ≡ false → view (called_as m f keys args) ≡ Called keys f args
plain_view None f keys args h = refl
plain_view (Some a) f keys args h = absurd (cc)

plain_call : (e f : PyExpr) (gs : List Argument) → e ≡ tree.Call f gs → is_some (attribute_in (ex_of f)) ≡ false →
    view (ex_of e) ≡ Called (keys_of (map given_of gs)) (ex_of f) (parts_of (map given_of gs))
plain_call e f gs h k = ap (λ x. view (ex_of x)) h ∙ ap view (ex-call f gs) ∙ plain_view (attribute_in (ex_of f)) (ex_of f) (keys_of (map given_of gs)) (parts_of (map given_of gs)) k

pub returns-else-is_method : goal.returns-else-is_method
returns-else-is_method n c =
    let is : c.args.e.now ≡ tree.Call c.get-else-is_method.result.now c.as_slice.result.now = search rules in
    let plain : is_some (attribute_in (ex_of c.get-else-is_method.result.now)) ≡ false = search rules in
    subst (λ (x : View). Reads (option_map statement_of) (by_itself_view c.args.s.now c.args.locals.now c.args.w.now c.args.line x c.args.d.now) c.called_by_itself.result c.called_by_itself.new.d) (sym (plain_call c.args.e.now c.get-else-is_method.result.now c.as_slice.result.now is plain)) c.called_by_itself.ensures
