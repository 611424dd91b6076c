-- Which forms of expression are constant expressions.
use Rattle.std.proofs.Common.{◌≡◌, ℕ, Bool, true, false, ◌&&◌, List, Option, Some, None, refl, ap, ◌∙◌, sym}
use Rattle.mh_pytree.specs.declared.expression.Operator.{Operator}
use Rattle.mh_pytree.specs.declared.expression.Operator.TheVariants as op
use Rattle.mh_pytree.specs.declared.expression.PyExpr.{PyExpr}
use Rattle.mh_pytree.specs.declared.expression.PyExpr.TheVariants as e
use Rattle.mh_consts.specs.declared.scope.Scope.{Scope}
use Rattle.mh_consts.specs.Expression as h
use Rattle.mh_consts.specs.Expression.{ex_of, Ex, Exs, Keys, binary, slice_from, called_as, attribute_in, name_in, maker}
use Rattle.mh_consts.specs.Constant.{is_plain, are_plain, plain_name}
use Rattle.mh_consts.proofs.Shapes.{shapes, ex-slice, ex-slice_from}

pub and-true : (b : Bool) → (b && true) ≡ b
and-true true = refl
and-true false = refl

two-plain : (a b : Bool) → (a && (b && true)) ≡ (a && b)
two-plain a b = ap (λ c. a && c) (and-true b)

pub plain-binary : (s : Scope) (o : Operator) (a b : Ex) → is_plain s (binary o a b) ≡ (is_plain s a && is_plain s b)
plain-binary s op.Or a b = refl
plain-binary s op.And a b = refl
plain-binary s o a b = two-plain (is_plain s a) (is_plain s b)

pub plain-slice_from : (s : Scope) (m : Option (List ℕ)) (a b : Ex) → is_plain s (slice_from m a b) ≡ (is_plain s a && is_plain s b)
plain-slice_from s None a b = two-plain (is_plain s a) (is_plain s b)
plain-slice_from s (Some t) a b = two-plain (is_plain s a) (is_plain s b)

-- a name is plain, so that a call by it is plain where its arguments are
named_plain : (s : Scope) (f : Ex) (r : Bool) → (plain_name s (name_in f) && (is_plain s f && r)) ≡ (plain_name s (name_in f) && r)
named_plain s (h.Name t) r = refl
named_plain s f r = refl

unnamed : (s : Scope) (f : Ex) (a : List ℕ × Exs) (r : Bool) → attribute_in f ≡ Some a → false ≡ (plain_name s (name_in f) && r)
unnamed s (h.Name t) a r e = cc
unnamed s f a r e = refl

plain_call : (s : Scope) (m : Option (List ℕ × Exs)) (f : Ex) (keys : Keys) (args : Exs) → attribute_in f ≡ m →
    is_plain s (called_as m f keys args) ≡ (plain_name s (name_in f) && are_plain s args)
plain_call s None f keys args e = named_plain s f (are_plain s args)
plain_call s (Some a) f keys args e = unnamed s f a (are_plain s args) e

pub plain-called : (s : Scope) (f : Ex) (keys : Keys) (args : Exs) → is_plain s (called_as (attribute_in f) f keys args) ≡ (plain_name s (name_in f) && are_plain s args)
plain-called s f keys args = plain_call s (attribute_in f) f keys args refl

-- the lower end of a slice
abbrev pub plain_lower : Scope → Option PyExpr → Bool
plain_lower s None = true
plain_lower s (Some c) = is_plain s (ex_of c)

pub plain-slice : (s : Scope) (a b : PyExpr) (c : Option PyExpr) → is_plain s (ex_of (e.Slice a b c)) ≡ (is_plain s (ex_of a) && (is_plain s (ex_of b) && plain_lower s c))
plain-slice s a b None = ap (is_plain s) (ex-slice_from a b) ∙ (plain-slice_from s (maker (ex_of a)) (ex_of a) (ex_of b) ∙ sym (two-plain (is_plain s (ex_of a)) (is_plain s (ex_of b))))
plain-slice s a b (Some c) = ap (is_plain s) (ex-slice a b c) ∙ ap (λ r. is_plain s (ex_of a) && (is_plain s (ex_of b) && r)) (and-true (is_plain s (ex_of c)))

pub ruleset plain_forms = (shapes, and-true, plain-binary, plain-slice, plain-called)
