-- Which forms of expression name locals, and which are made of constants.
use Rattle.std.proofs.Common.{◌≡◌, ℕ, Bool, true, false, not, ◌&&◌, ◌||◌, List, Option, Some, None, refl, ap, ◌∙◌, sym, is_some, if◌then◌else◌}
use Rattle.mh_pytree.specs.declared.expression.Operator.{Operator}
use Rattle.mh_pytree.specs.declared.expression.Operator.TheVariants as op
use Rattle.mh_pytree.specs.declared.expression.PyExpr.{PyExpr}
use Rattle.mh_pytree.specs.declared.expression.PyExpr.TheVariants as e
use Rattle.mh_consts.specs.declared.scope.Scope.{Scope}
use Rattle.mh_consts.specs.Expression as h
use Rattle.mh_consts.specs.Expression.{ex_of, Ex, Exs, Keys, binary, slice_from, called_as, attribute_in, maker, join}
use Rattle.mh_consts.proofs.Shapes.{shapes, ex-slice, ex-slice_from}
use Rattle.mh_exprs.specs.declared.locals.Locals.{Locals}
use Rattle.mh_exprs.specs.Constant.{names_local, name_locals, is_constant, are_constant, is_len, is_known}

pub or-false : (b : Bool) → (b || false) ≡ b
or-false true = refl
or-false false = refl

or-assoc : (a b c : Bool) → ((a || b) || c) ≡ (a || (b || c))
or-assoc true b c = refl
or-assoc false b c = refl

pub and-true : (b : Bool) → (b && true) ≡ b
and-true true = refl
and-true false = refl

two-or : (a b : Bool) → (a || (b || false)) ≡ (a || b)
two-or a b = ap (λ c. a || c) (or-false b)

two-and : (a b : Bool) → (a && (b && true)) ≡ (a && b)
two-and a b = ap (λ c. a && c) (and-true b)

-- ---- locals

pub local-binary : (ls : Locals) (o : Operator) (a b : Ex) → names_local ls (binary o a b) ≡ (names_local ls a || names_local ls b)
local-binary ls op.Or a b = refl
local-binary ls op.And a b = refl
local-binary ls o a b = two-or (names_local ls a) (names_local ls b)

local-slice_from : (ls : Locals) (m : Option (List ℕ)) (a b : Ex) → names_local ls (slice_from m a b) ≡ (names_local ls a || (names_local ls b || false))
local-slice_from ls None a b = refl
local-slice_from ls (Some t) a b = refl

-- a local stands in the lower end of a slice
abbrev pub local_end : Locals → Option PyExpr → Bool
local_end ls None = false
local_end ls (Some c) = names_local ls (ex_of c)

pub local-slice : (ls : Locals) (a b : PyExpr) (c : Option PyExpr) → names_local ls (ex_of (e.Slice a b c)) ≡ (names_local ls (ex_of a) || (names_local ls (ex_of b) || local_end ls c))
local-slice ls a b None = ap (names_local ls) (ex-slice_from a b) ∙ local-slice_from ls (maker (ex_of a)) (ex_of a) (ex_of b)
local-slice ls a b (Some c) = ap (names_local ls) (ex-slice a b c) ∙ ap (λ r. names_local ls (ex_of a) || (names_local ls (ex_of b) || r)) (or-false (names_local ls (ex_of c)))

locals-join : (ls : Locals) (xs ys : Exs) → name_locals ls (join xs ys) ≡ (name_locals ls xs || name_locals ls ys)
locals-join ls h.NoMore ys = refl
locals-join ls (h.More a xs) ys = ap (λ r. names_local ls a || r) (locals-join ls xs ys) ∙ sym (or-assoc (names_local ls a) (name_locals ls xs) (name_locals ls ys))

pub local-called : (ls : Locals) (f : Ex) (keys : Keys) (args : Exs) → names_local ls (called_as (attribute_in f) f keys args) ≡ (names_local ls f || name_locals ls args)
local-called ls (h.Op (h.Attribute name) xs) keys args = locals-join ls xs args
local-called ls f keys args = refl

pub ruleset local_forms = (shapes, or-false, local-binary, local-slice, local-called)

-- ---- constants

pub constant-binary : (s : Scope) (ls : Locals) (o : Operator) (a b : Ex) → is_constant s ls (binary o a b) ≡ (is_constant s ls a && is_constant s ls b)
constant-binary s ls op.Or a b = refl
constant-binary s ls op.And a b = refl
constant-binary s ls o a b = two-and (is_constant s ls a) (is_constant s ls b)

constant-slice_from : (s : Scope) (ls : Locals) (m : Option (List ℕ)) (a b : Ex) → is_constant s ls (slice_from m a b) ≡ (is_constant s ls a && (is_constant s ls b && true))
constant-slice_from s ls None a b = refl
constant-slice_from s ls (Some t) a b = refl

-- the lower end of a slice is made of constants
abbrev pub constant_end : Scope → Locals → Option PyExpr → Bool
constant_end s ls None = true
constant_end s ls (Some c) = is_constant s ls (ex_of c)

pub constant-slice : (s : Scope) (ls : Locals) (a b : PyExpr) (c : Option PyExpr) → is_constant s ls (ex_of (e.Slice a b c)) ≡ (is_constant s ls (ex_of a) && (is_constant s ls (ex_of b) && constant_end s ls c))
constant-slice s ls a b None = ap (is_constant s ls) (ex-slice_from a b) ∙ constant-slice_from s ls (maker (ex_of a)) (ex_of a) (ex_of b)
constant-slice s ls a b (Some c) = ap (is_constant s ls) (ex-slice a b c) ∙ ap (λ r. is_constant s ls (ex_of a) && (is_constant s ls (ex_of b) && r)) (and-true (is_constant s ls (ex_of c)))

-- a call, which is that of a method or not
abbrev pub constant_call : Scope → Locals → Bool → Ex → Bool → Ex → Bool
constant_call s ls true f arguments whole = false
constant_call s ls false f arguments whole = if is_len s f then is_known s ls whole else (not (names_local ls f) && arguments)

constant_as : (s : Scope) (ls : Locals) (m : Option (List ℕ × Exs)) (f : Ex) (keys : Keys) (args : Exs) →
    is_constant s ls (called_as m f keys args) ≡ constant_call s ls (is_some m) f (are_constant s ls args) (called_as m f keys args)
constant_as s ls None f keys args = refl
constant_as s ls (Some a) f keys args = refl

pub constant-called : (s : Scope) (ls : Locals) (f : Ex) (keys : Keys) (args : Exs) →
    is_constant s ls (called_as (attribute_in f) f keys args) ≡ constant_call s ls (is_some (attribute_in f)) f (are_constant s ls args) (called_as (attribute_in f) f keys args)
constant-called s ls f keys args = constant_as s ls (attribute_in f) f keys args

pub ruleset constant_forms = (shapes, and-true, constant-binary, constant-slice, constant-called)
