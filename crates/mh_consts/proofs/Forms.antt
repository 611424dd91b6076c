-- What the plain forms that go by cases are not.
use Rattle.std.proofs.Common.{◌≡◌, ℕ, List, [], ◌∷◌, Option, Some, None, Result, Ok, Err, refl, ap, ◌∙◌, sym, is_some, Bool, true, false, if◌then◌else◌}
use Rattle.mh_pytree.specs.declared.expression.Operator.{Operator}
use Rattle.mh_pytree.specs.declared.expression.Operator.TheVariants as op
use Rattle.mh_text.specs.declared.code.Code.{Code}
use Rattle.mh_consts.specs.declared.kinds.Const.{Const}
use Rattle.mh_consts.specs.declared.kinds.Const.TheVariants as c
use Rattle.mh_consts.specs.Numbers.{truth}
use Rattle.mh_consts.specs.declared.scope.Scope.{Scope}
use Rattle.mh_consts.specs.Outcome.{Outcome, after, part}
use Rattle.mh_consts.specs.Operators.{operated}
use Rattle.mh_consts.specs.Constant.{operate, value, values, between, called_at, sliced_at, slice_parts, truth_value, with_two}
use Rattle.mh_consts.specs.Steps.{decided, in_steps, call_value, onto, all_parts, operation}
use Rattle.mh_consts.specs.Expression as h
use Rattle.mh_consts.specs.Expression.{ex_of, attribute_name, Ex, Exs, Keys, name_in, attribute_in, maker, binary, slice_from, called_as}
use Rattle.mh_pytree.specs.declared.expression.PyExpr.{PyExpr}
use Rattle.mh_pytree.specs.declared.expression.PyExpr.TheVariants as e
use Rattle.mh_consts.proofs.Shapes.{shapes, ex-slice, ex-slice_from, ex-whole}

pub name_in-binary : (o : Operator) (a b : Ex) → name_in (binary o a b) ≡ None
name_in-binary op.Or a b = refl
name_in-binary op.And a b = refl
name_in-binary o a b = refl

pub name_in-slice_from : (m : Option (List ℕ)) (a b : Ex) → name_in (slice_from m a b) ≡ None
name_in-slice_from None a b = refl
name_in-slice_from (Some t) a b = refl

pub name_in-called_as : (m : Option (List ℕ × Exs)) (f : Ex) (keys : Keys) (args : Exs) → name_in (called_as m f keys args) ≡ None
name_in-called_as None f keys args = refl
name_in-called_as (Some t) f keys args = refl

pub attribute_in-binary : (o : Operator) (a b : Ex) → attribute_in (binary o a b) ≡ None
attribute_in-binary op.Or a b = refl
attribute_in-binary op.And a b = refl
attribute_in-binary o a b = refl

pub attribute_in-slice_from : (m : Option (List ℕ)) (a b : Ex) → attribute_in (slice_from m a b) ≡ None
attribute_in-slice_from None a b = refl
attribute_in-slice_from (Some t) a b = refl

pub attribute_in-called_as : (m : Option (List ℕ × Exs)) (f : Ex) (keys : Keys) (args : Exs) → attribute_in (called_as m f keys args) ≡ None
attribute_in-called_as None f keys args = refl
attribute_in-called_as (Some t) f keys args = refl

pub maker-binary : (o : Operator) (a b : Ex) → maker (binary o a b) ≡ None
maker-binary op.Or a b = refl
maker-binary op.And a b = refl
maker-binary o a b = refl

pub maker-slice_from : (m : Option (List ℕ)) (a b : Ex) → maker (slice_from m a b) ≡ None
maker-slice_from None a b = refl
maker-slice_from (Some t) a b = refl

pub ruleset forms = (shapes, name_in-binary, name_in-slice_from, name_in-called_as, attribute_in-binary, attribute_in-slice_from, attribute_in-called_as, maker-binary, maker-slice_from)

-- ---- what these forms come to

pub operate-binary : (s : Scope) (o : Operator) (a b : Ex) (vs : List Const) → operate s (binary o a b) vs ≡ between o (part vs 0) (part vs 1)
operate-binary s op.Or a b vs = refl
operate-binary s op.And a b vs = refl
operate-binary s o a b vs = refl

pub operate-called_as : (s : Scope) (m : Option (List ℕ × Exs)) (f : Ex) (keys : Keys) (args : Exs) (vs : List Const) → operate s (called_as m f keys args) vs ≡ called_at s m keys vs
operate-called_as s None f keys args vs = refl
operate-called_as s (Some a) f keys args vs = refl

pub operate-slice_from : (s : Scope) (m : Option (List ℕ)) (a b : Ex) (vs : List Const) → operate s (slice_from m a b) vs ≡ sliced_at s m vs
operate-slice_from s None a b vs = refl
operate-slice_from s (Some t) a b vs = refl

pub operate-slice : (s : Scope) (a b : PyExpr) (c : Option PyExpr) (vs : List Const) → operate s (ex_of (e.Slice a b c)) vs ≡ slice_parts s (maker (ex_of a)) (is_some c) vs
operate-slice s a b None vs = ap (λ t. operate s t vs) (ex-slice_from a b) ∙ operate-slice_from s (maker (ex_of a)) (ex_of a) (ex_of b) vs
operate-slice s a b (Some c) vs = ap (λ t. operate s t vs) (ex-slice a b c)

pub ruleset operations = (shapes, operate-binary, operate-called_as, operate-slice)

-- two parts, one after the other
two_parts : (x y : Outcome) (f : Const → Const → Outcome) →
    after (after x (λ v. after (after y (λ w. Ok (w ∷ []))) (λ vs. Ok (v ∷ vs)))) (λ vs. with_two vs f) ≡ after x (λ v. after y (λ w. f v w))
two_parts (Err code) y f = refl
two_parts (Ok v) (Err code) f = refl
two_parts (Ok v) (Ok w) f = refl

and_in_steps : (t : Result Bool Code) (y : Outcome) →
    after t (λ b. if b then after y truth_value else Ok (c.Truth false))
    ≡ after (after t (λ b. Ok (if b then None else Some (c.Truth false)))) (λ d. decided d (after y (λ w. after t (λ b. if b then truth_value w else Ok (c.Truth false)))))
and_in_steps (Err code) y = refl
and_in_steps (Ok true) y = refl
and_in_steps (Ok false) y = refl

or_in_steps : (t : Result Bool Code) (y : Outcome) →
    after t (λ b. if b then Ok (c.Truth true) else after y truth_value)
    ≡ after (after t (λ b. Ok (if b then Some (c.Truth true) else None))) (λ d. decided d (after y (λ w. after t (λ b. if b then Ok (c.Truth true) else truth_value w))))
or_in_steps (Err code) y = refl
or_in_steps (Ok true) y = refl
or_in_steps (Ok false) y = refl

between-steps : (o : Operator) (x y : Outcome) → between o x y ≡ in_steps o x y
between-steps op.And (Err code) y = refl
between-steps op.And (Ok v) y = and_in_steps (truth v) y
between-steps op.Or (Err code) y = refl
between-steps op.Or (Ok v) y = or_in_steps (truth v) y
between-steps o x y = refl

value-between : (s : Scope) (o : Operator) (a b : Ex) → value s (binary o a b) ≡ between o (value s a) (value s b)
value-between s op.Or a b = refl
value-between s op.And a b = refl
value-between s o a b = two_parts (value s a) (value s b) (operated o)

pub value-binary : (s : Scope) (o : Operator) (a b : Ex) → value s (binary o a b) ≡ in_steps o (value s a) (value s b)
value-binary s o a b = value-between s o a b ∙ between-steps o (value s a) (value s b)

call_parts : (x : Outcome) (ys : Result (List Const) Code) (f : List Const → Outcome) →
    after (after x (λ v. after ys (λ vs. Ok (v ∷ vs)))) f ≡ after x (λ v. after (onto (v ∷ []) ys) f)
call_parts (Err code) ys f = refl
call_parts (Ok v) (Err code) f = refl
call_parts (Ok v) (Ok vs) f = refl

pub value-called_as : (s : Scope) (m : Option (List ℕ × Exs)) (f : Ex) (keys : Keys) (args : Exs) → value s (called_as m f keys args) ≡ call_value s m f keys args
value-called_as s (Some a) f keys args = refl
value-called_as s None f keys args = call_parts (value s f) (values s args) (called_at s None keys)

pub no_attribute : (m : Option (List ℕ × Exs)) → attribute_name m ≡ None → m ≡ None
no_attribute None e = refl
no_attribute (Some a) e = cc

-- ---- operations whose parts are all evaluated

slice_from_operation : (s : Scope) (m : Option (List ℕ)) (a b : Ex) → value s (slice_from m a b) ≡ operation s (slice_from m a b)
slice_from_operation s None a b = refl
slice_from_operation s (Some t) a b = refl

pub value-slice : (s : Scope) (a b : PyExpr) (c : Option PyExpr) → value s (ex_of (e.Slice a b c)) ≡ operation s (ex_of (e.Slice a b c))
value-slice s a b None = ap (value s) (ex-slice_from a b) ∙ (slice_from_operation s (maker (ex_of a)) (ex_of a) (ex_of b) ∙ sym (ap (operation s) (ex-slice_from a b)))
value-slice s a b (Some c) = ap (value s) (ex-slice a b c) ∙ sym (ap (operation s) (ex-slice a b c))

pub value-whole : (s : Scope) (a : PyExpr) → value s (ex_of (e.Whole a)) ≡ operation s (ex_of (e.Whole a))
value-whole s a = ap (value s) (ex-whole a) ∙ sym (ap (operation s) (ex-whole a))

pub all_parts-binary : (o : Operator) (a b : Ex) → all_parts (binary o a b) ≡ None
all_parts-binary op.Or a b = refl
all_parts-binary op.And a b = refl
all_parts-binary o a b = refl

pub all_parts-called_as : (m : Option (List ℕ × Exs)) (f : Ex) (keys : Keys) (args : Exs) → all_parts (called_as m f keys args) ≡ None
all_parts-called_as None f keys args = refl
all_parts-called_as (Some a) f keys args = refl

-- the parts of a slice
abbrev pub slice_parts_in : PyExpr → PyExpr → Option PyExpr → Exs
slice_parts_in a b None = h.two (ex_of a) (ex_of b)
slice_parts_in a b (Some c) = h.three (ex_of a) (ex_of b) (ex_of c)

slice_from_parts : (m : Option (List ℕ)) (a b : Ex) → all_parts (slice_from m a b) ≡ Some (h.two a b)
slice_from_parts None a b = refl
slice_from_parts (Some t) a b = refl

pub all_parts-slice : (a b : PyExpr) (c : Option PyExpr) → all_parts (ex_of (e.Slice a b c)) ≡ Some (slice_parts_in a b c)
all_parts-slice a b None = ap all_parts (ex-slice_from a b) ∙ slice_from_parts (maker (ex_of a)) (ex_of a) (ex_of b)
all_parts-slice a b (Some c) = ap all_parts (ex-slice a b c)

pub ruleset parts = (shapes, all_parts-binary, all_parts-called_as, all_parts-slice)

pub ruleset evaluations = (shapes, value-binary, value-called_as, value-slice, value-whole, no_attribute)
