-- What an operation is, by the form of the expression.
use Rattle.std.proofs.Common.{◌≡◌, ◌∙◌, ℕ, List, Option, Some, None, Result, map, refl, ap, sym}
use Rattle.mh_pytree.specs.declared.expression.Operator.{Operator}
use Rattle.mh_pytree.specs.declared.expression.Operator.TheVariants as op
use Rattle.mh_pytree.specs.declared.expression.Argument.{Argument}
use Rattle.mh_pytree.specs.declared.expression.PyExpr.{PyExpr}
use Rattle.mh_pytree.specs.declared.expression.PyExpr.TheVariants as e
use Rattle.mh_consts.specs.declared.kinds.Const.{Const}
use Rattle.mh_consts.specs.Expression as x
use Rattle.mh_consts.specs.Expression.{Ex, Exs, Head, Keys, attribute_in, attribute_name, binary, called_as, ex_of, given_of, keys_of, maker, parts_of, slice_from}
use Rattle.mh_consts.proofs.Shapes.{shapes, ex-call, ex-slice, ex-slice_from}
use Rattle.mh_world.specs.World.{World, Broken}
use Rattle.mh_world.specs.Heads.{computed, computed_in, head_in, names_held, names_in, operate, operate_in}

-- an operation of constants, by its head
abbrev pub computed_by : ℕ → Option Head → Ex → List Const → World → Result (Const × World) Broken
computed_by l None a vs w = computed_in l a vs w
computed_by l (Some h) a vs w = computed l h vs w

pub computed_head : (l : ℕ) (a : Ex) (vs : List Const) (w : World) → computed_in l a vs w ≡ computed_by l (head_in a) a vs w
computed_head l (x.Op h xs) vs w = refl
computed_head l (x.Number n) vs w = refl
computed_head l (x.Str t) vs w = refl
computed_head l (x.Truth b) vs w = refl
computed_head l x.Nothing vs w = refl
computed_head l (x.Name t) vs w = refl
computed_head l (x.And a b) vs w = refl
computed_head l (x.Or a b) vs w = refl
computed_head l (x.Collect a t b) vs w = refl

-- ---- the name that is looked up

pub names-binary : (o : Operator) (a b : Ex) → names_in (binary o a b) ≡ names_held None
names-binary op.Or a b = refl
names-binary op.And a b = refl
names-binary o a b = refl

pub names-called : (m : Option (List ℕ × Exs)) (f : Ex) (keys : Keys) (args : Exs) → names_in (called_as m f keys args) ≡ names_held None
names-called None f keys args = refl
names-called (Some a) f keys args = refl

pub names-slice_from : (m : Option (List ℕ)) (a b : Ex) → names_in (slice_from m a b) ≡ names_held m
names-slice_from None a b = refl
names-slice_from (Some t) a b = refl

pub ruleset looked_up = (shapes, names-binary, names-called, names-slice_from)

-- ---- operations that are none of lists and methods

pub operate-binary : (l : ℕ) (o : Operator) (a b : Ex) (vs : List Const) (w : World) → operate_in l (binary o a b) vs w ≡ computed_in l (binary o a b) vs w
operate-binary l op.Or a b vs w = refl
operate-binary l op.And a b vs w = refl
operate-binary l o a b vs w = refl

pub operate-slice_from : (l : ℕ) (m : Option (List ℕ)) (a b : Ex) (vs : List Const) (w : World) → operate_in l (slice_from m a b) vs w ≡ computed_in l (slice_from m a b) vs w
operate-slice_from l None a b vs w = refl
operate-slice_from l (Some t) a b vs w = refl

pub operate-slice : (l : ℕ) (a b : PyExpr) (c : Option PyExpr) (vs : List Const) (w : World) → operate_in l (ex_of (e.Slice a b c)) vs w ≡ computed_in l (ex_of (e.Slice a b c)) vs w
operate-slice l a b None vs w =
    ap (λ t. operate_in l t vs w) (ex-slice_from a b) ∙ (operate-slice_from l (maker (ex_of a)) (ex_of a) (ex_of b) vs w ∙ sym (ap (λ t. computed_in l t vs w) (ex-slice_from a b)))
operate-slice l a b (Some c) vs w = ap (λ t. operate_in l t vs w) (ex-slice a b c) ∙ sym (ap (λ t. computed_in l t vs w) (ex-slice a b c))

-- ---- calls

-- by the name of the attribute that is called, if it is one
abbrev pub head_by : Option (List ℕ) → Keys → Head
head_by None keys = x.Call keys
head_by (Some t) keys = x.Method t keys

abbrev pub operate_by : ℕ → Option (List ℕ) → Ex → Keys → List Const → World → Result (Const × World) Broken
operate_by l None a keys vs w = computed_in l a vs w
operate_by l (Some t) a keys vs w = operate l (x.Method t keys) vs w

head_called : (m : Option (List ℕ × Exs)) (f : Ex) (keys : Keys) (args : Exs) → head_in (called_as m f keys args) ≡ Some (head_by (attribute_name m) keys)
head_called None f keys args = refl
head_called (Some a) f keys args = refl

operate_called : (l : ℕ) (m : Option (List ℕ × Exs)) (f : Ex) (keys : Keys) (args : Exs) (vs : List Const) (w : World) →
    operate_in l (called_as m f keys args) vs w ≡ operate_by l (attribute_name m) (called_as m f keys args) keys vs w
operate_called l None f keys args vs w = refl
operate_called l (Some a) f keys args vs w = refl

pub head_call : (f : PyExpr) (gs : List Argument) → head_in (ex_of (e.Call f gs)) ≡ Some (head_by (attribute_name (attribute_in (ex_of f))) (keys_of (map given_of gs)))
head_call f gs = ap head_in (ex-call f gs) ∙ head_called (attribute_in (ex_of f)) (ex_of f) (keys_of (map given_of gs)) (parts_of (map given_of gs))

pub operate_call : (l : ℕ) (f : PyExpr) (gs : List Argument) (vs : List Const) (w : World) →
    operate_in l (ex_of (e.Call f gs)) vs w ≡ operate_by l (attribute_name (attribute_in (ex_of f))) (ex_of (e.Call f gs)) (keys_of (map given_of gs)) vs w
operate_call l f gs vs w =
    ap (λ t. operate_in l t vs w) (ex-call f gs)
    ∙ (operate_called l (attribute_in (ex_of f)) (ex_of f) (keys_of (map given_of gs)) (parts_of (map given_of gs)) vs w
    ∙ sym (ap (λ t. operate_by l (attribute_name (attribute_in (ex_of f))) t (keys_of (map given_of gs)) vs w) (ex-call f gs)))

pub ruleset operations = (shapes, operate-binary, operate-slice)
