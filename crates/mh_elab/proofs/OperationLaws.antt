-- Which expressions are operations, and which operations are calls of what isn't an attribute.
use Rattle.std.proofs.Common.{◌≡◌, ℕ, Bool, true, false, not, List, ◌∷◌, Option, Some, None, refl, ap, is_some, slice_get}
use Rattle.std.proofs.lemmas.Bool.{false≢true}
use Rattle.mh_pytree.specs.declared.expression.Operator.{Operator}
use Rattle.mh_pytree.specs.declared.expression.Operator.TheVariants as op
use Rattle.mh_consts.specs.declared.kinds.Const.{Const}
use Rattle.mh_consts.specs.Expression as x
use Rattle.mh_consts.specs.Expression.{Ex, Exs, Head, Keys, attribute_name, binary, called_as, slice_from}
use Rattle.mh_consts.specs.declared.kinds.Const.{out-Const}
use Rattle.mh_consts.specs.declared.kinds.Const.TheVariants as c
use Rattle.mh_consts.specs.declared.kinds.Builtin.{Builtin}
use Rattle.mh_consts.proofs.Shapes.{shapes}
use Rattle.mh_consts.proofs.Values.{values, out-builtin}
use Rattle.mh_world.specs.World.{World}
use Rattle.mh_world.specs.Heads.{head_in, operate_in, call_builtin}
use Rattle.mh_elab.specs.Machine.{Frame, Give, Operates, call_first, call_value, eval, is_call, is_operation, operates, operates_in, parts, to}
use Rattle.mh_elab.specs.Views.{parts_in}

-- ---- operations, whose parts are evaluated first

pub operation-slice_from : (m : Option (List ℕ)) (a b : Ex) → is_operation (slice_from m a b) ≡ true
operation-slice_from None a b = refl
operation-slice_from (Some t) a b = refl

pub operation-called_as : (m : Option (List ℕ × Exs)) (f : Ex) (keys : Keys) (args : Exs) → is_operation (called_as m f keys args) ≡ true
operation-called_as None f keys args = refl
operation-called_as (Some a) f keys args = refl

pub eval_operation : (l n : ℕ) (e : Ex) (k : List Frame) (w : World) → is_operation e ≡ true → eval l n e k w ≡ parts l n (Operates e) (parts_in e) k w
eval_operation l n (x.Op h es) k w p = refl
eval_operation l n (x.Number z) k w p = absurd (false≢true p)
eval_operation l n (x.Str bytes) k w p = absurd (false≢true p)
eval_operation l n (x.Truth b) k w p = absurd (false≢true p)
eval_operation l n x.Nothing k w p = absurd (false≢true p)
eval_operation l n (x.Name t) k w p = absurd (false≢true p)
eval_operation l n (x.And a b) k w p = absurd (false≢true p)
eval_operation l n (x.Or a b) k w p = absurd (false≢true p)
eval_operation l n (x.Collect e t r) k w p = absurd (false≢true p)

pub ruleset operation_forms = (shapes, operation-slice_from, operation-called_as)

-- ---- calls

pub call-binary : (o : Operator) (a b : Ex) → is_call (binary o a b) ≡ false
call-binary op.Or a b = refl
call-binary op.And a b = refl
call-binary o a b = refl

pub call-slice_from : (m : Option (List ℕ)) (a b : Ex) → is_call (slice_from m a b) ≡ false
call-slice_from None a b = refl
call-slice_from (Some t) a b = refl

pub call-called_as : (m : Option (List ℕ × Exs)) (f : Ex) (keys : Keys) (args : Exs) → is_call (called_as m f keys args) ≡ not (is_some (attribute_name m))
call-called_as None f keys args = refl
call-called_as (Some a) f keys args = refl

pub head-called_as : (m : Option (List ℕ × Exs)) (f : Ex) (keys : Keys) (args : Exs) → None ≡ attribute_name m → head_in (called_as m f keys args) ≡ Some (x.Call keys)
head-called_as None f keys args p = refl
head-called_as (Some a) f keys args p = cc

pub operates_other : (l n : ℕ) (e : Ex) (vs : List Const) (k : List Frame) (w : World) → is_call e ≡ false → operates_in l n e vs k w ≡ to (operate_in l e vs w) (λ v w. Give l n v k w)
operates_other l n (x.Op (x.Call keys) es) vs k w p = cc
operates_other l n (x.Op h es) vs k w p = refl
operates_other l n e vs k w p = refl

pub operates_first : (l n : ℕ) (e : Ex) (keys : Keys) (vs : List Const) (k : List Frame) (w : World) → head_in e ≡ Some (x.Call keys) → operates_in l n e vs k w ≡ call_first l n keys vs (slice_get vs 0) k w
operates_first l n (x.Op h es) keys vs k w p = let q : h ≡ x.Call keys = cc in rw q refl
operates_first l n e keys vs k w p = cc

pub value-builtin : (l n : ℕ) (keys : Keys) (vs : List Const) (b : Builtin) (k : List Frame) (w : World) → call_value l n keys vs (out-Const (c.Builtin b)) k w ≡ to (call_builtin l b keys vs w) (λ v w. Give l n v k w)
value-builtin l n keys vs b k w = rw (out-builtin b) refl

pub ruleset called_values = (values, value-builtin)

pub ruleset call_laws = (call-called_as, head-called_as, operates_first)

pub ruleset call_forms = (shapes, call-binary, call-slice_from, call-called_as)
