use Rattle.std.proofs.Common.{◌≡◌, List, [], ◌∷◌, map, sym, subst}
use Rattle.mh_pytree.specs.declared.expression.Argument.{Argument}
use Rattle.mh_consts.specs.Expression.{ex_of, given_of, keys_of}
use Rattle.mh_exprs.specs.declared.names.Form.{Form}
use Rattle.mh_exprs.specs.Calls.{form_of}
use Rattle.mh_exprs.specs.Step.{Grows}
use Rattle.mh_lower.proofs.Counts.{made_by, three_are}
use Rattle.mh_lower.proofs.bindings.made_right.Goals as goal

pub returns-in-len3 : goal.returns-in-len3
returns-in-len3 c =
    let are : c.args.arguments.now ≡ c.v-item.result ∷ c.a-item.result ∷ c.b-item.result ∷ [] =
    three_are c.args.arguments.now c.v-item.result c.a-item.result c.b-item.result c.in-len3.len_at_least c.in-len3.len_below c.v-item.is c.a-item.is c.b-item.is in
    let by_form = subst (λ (f : Form). Grows (made_by c.args.s.now c.args.locals.now c.args.w.now c.args.wraps f (ex_of c.args.e.now) (c.v-item.result ∷ c.a-item.result ∷ c.b-item.result ∷ []) c.args.d.now) c.made_of_three.result c.made_of_three.new.d) c.form_of-form.ensures c.made_of_three.ensures in
    subst (λ (xs : List Argument). Grows (made_by c.args.s.now c.args.locals.now c.args.w.now c.args.wraps (form_of (keys_of (map given_of c.args.arguments.now))) (ex_of c.args.e.now) xs c.args.d.now) c.made_of_three.result c.made_of_three.new.d) (sym are) by_form
