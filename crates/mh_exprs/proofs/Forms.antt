-- What the forms of expression come to that go by cases.
use Rattle.std.proofs.Common.{◌≡◌, ℕ, Bool, true, false, List, Option, Some, None, Result, refl, sym, ap, ◌∙◌, subst, if◌then◌else◌}
use Rattle.mh_pytree.specs.declared.expression.Operator.{Operator}
use Rattle.mh_pytree.specs.declared.expression.Operator.TheVariants as op
use Rattle.mh_pytree.specs.declared.expression.PyExpr.{PyExpr}
use Rattle.mh_pytree.specs.declared.expression.PyExpr.TheVariants as tree
use Rattle.mh_pytree.specs.declared.expression.Sign.{Sign}
use Rattle.mh_text.specs.declared.code.Code.{Code}
use Rattle.mh_text.specs.declared.code.Code.TheVariants.{E2NotElaborable}
use Rattle.mh_consts.specs.declared.scope.Scope.{Scope}
use Rattle.mh_consts.specs.Expression as h
use Rattle.mh_consts.proofs.Shapes.{ex-unary, ex-binary, ex-attribute}
use Rattle.mh_consts.specs.Expression.{ex_of, Ex, Exs, Keys, binary, slice_from, called_as, maker, name_in}
use Rattle.mh_consts.proofs.Forms.{forms as constant_forms}
use Rattle.mh_design.specs.declared.design.Design.{Design}
use Rattle.mh_exprs.specs.declared.locals.Locals.{Locals}
use Rattle.mh_exprs.specs.declared.typed.Typed.{Typed}
use Rattle.mh_exprs.specs.declared.typed.Work.{Work}
use Rattle.mh_exprs.specs.Calls.{callee_of, is_maker}
use Rattle.mh_text.specs.declared.fault.Fault.{Fault}
use Rattle.mh_exprs.specs.Expression.{read, read_form, folding, on_one, on_two, on_three, is_wide, is_made_by}
use Rattle.mh_exprs.specs.Operations.{attribute, operated, signed, slice, zero_end}
use Rattle.mh_exprs.specs.Step.{Grows, Step, pure, refuse}

pub read-is : (s : Scope) (ls : Locals) (w : Work) (wide : Bool) (e : Ex) (d : Design) → read s ls w wide e d ≡ folding s ls wide e (read_form s ls w e) d
read-is s ls w wide (h.Number n) d = refl
read-is s ls w wide (h.Str bytes) d = refl
read-is s ls w wide (h.Truth b) d = refl
read-is s ls w wide h.Nothing d = refl
read-is s ls w wide (h.Name t) d = refl
read-is s ls w wide (h.And a b) d = refl
read-is s ls w wide (h.Or a b) d = refl
read-is s ls w wide (h.Op head xs) d = refl
read-is s ls w wide (h.Collect item t over) d = refl

pub ruleset reading = (read-is)

pub form-binary : (s : Scope) (ls : Locals) (w : Work) (o : Operator) (a b : Ex) (d : Design) →
    read_form s ls w (binary o a b) d ≡ on_two (read s ls w false a) (read s ls w false b) (operated o) d
form-binary s ls w op.Or a b d = refl
form-binary s ls w op.And a b d = refl
form-binary s ls w o a b d = refl

abbrev pub sliced_from : Scope → Locals → Work → Bool → Ex → Ex → Step Typed
sliced_from s ls w true a b = refuse E2NotElaborable
sliced_from s ls w false a b = on_three (read s ls w true a) (read s ls w false b) (pure zero_end) slice

form-slice_by : (s : Scope) (ls : Locals) (w : Work) (made : Bool) (a b : Ex) (d : Design) →
    (if made then refuse E2NotElaborable else on_three (read s ls w true a) (read s ls w false b) (pure zero_end) slice) d ≡ sliced_from s ls w made a b d
form-slice_by s ls w true a b d = refl
form-slice_by s ls w false a b d = refl

pub form-slice_from : (s : Scope) (ls : Locals) (w : Work) (m : Option (List ℕ)) (a b : Ex) (d : Design) →
    read_form s ls w (slice_from m a b) d ≡ sliced_from s ls w (is_made_by s ls m) a b d
form-slice_from s ls w None a b d = refl
form-slice_from s ls w (Some t) a b d = form-slice_by s ls w (is_maker (callee_of s ls (h.Name t))) a b d

pub ruleset forms = (constant_forms, form-binary, form-slice_from)

-- ---- what reading a form with an operator comes to

pub form-unary : (s : Scope) (ls : Locals) (w : Work) (e : PyExpr) (sign : Sign) (a : PyExpr) (d : Design) → e ≡ tree.Unary sign a →
    on_one (read s ls w (is_wide sign) (ex_of a)) (signed sign) d ≡ read_form s ls w (ex_of e) d
form-unary s ls w e sign a d h = sym (ap (λ x. read_form s ls w x d) (ap ex_of h ∙ ex-unary sign a))

pub form-between : (s : Scope) (ls : Locals) (w : Work) (e : PyExpr) (o : Operator) (a b : PyExpr) (d : Design) → e ≡ tree.Binary o a b →
    on_two (read s ls w false (ex_of a)) (read s ls w false (ex_of b)) (operated o) d ≡ read_form s ls w (ex_of e) d
form-between s ls w e o a b d h = sym (ap (λ x. read_form s ls w x d) (ap ex_of h ∙ ex-binary o a b) ∙ form-binary s ls w o (ex_of a) (ex_of b) d)

pub form-attribute : (s : Scope) (ls : Locals) (w : Work) (e : PyExpr) (a : PyExpr) (t : List ℕ) (d : Design) → e ≡ tree.Attribute a t →
    on_one (read s ls w true (ex_of a)) (attribute t) d ≡ read_form s ls w (ex_of e) d
form-attribute s ls w e a t d h = sym (ap (λ x. read_form s ls w x d) (ap ex_of h ∙ ex-attribute a t))

pub grows : {A : Type 0} {r q : Result (A × Design) Code} (x : Result A (Fault Code)) (d : Design) → r ≡ q → Grows r x d → Grows q x d
grows x d h g = subst (λ y. Grows y x d) h g
