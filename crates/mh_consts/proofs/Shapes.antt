-- The plain form of each form of expression, as an equation.
use Rattle.std.proofs.Common.{◌≡◌, ℕ, ℤ, List, map, Some, None, true, false, rules}
use Rattle.mh_pytree.specs.declared.expression.Operator.{Operator}
use Rattle.mh_pytree.specs.declared.expression.Sign.{Sign}
use Rattle.mh_pytree.specs.declared.expression.Argument.{Argument, out-Argument}
use Rattle.mh_pytree.specs.declared.expression.PyExpr.{PyExpr, the_lemmas}
use Rattle.mh_pytree.specs.declared.expression.PyExpr.TheVariants as e
use Rattle.mh_consts.specs.Expression as x
use Rattle.mh_consts.specs.Expression.{exs, ex_of, given_of, keys_of, parts_of}

pub ex-name : (t : List ℕ) → ex_of (e.Name t) ≡ x.Name t
unfolding ex_of given_of
ex-name t = search (rules, the_lemmas)

pub ex-number : (n : ℤ) → ex_of (e.Number n) ≡ x.Number n
unfolding ex_of given_of
ex-number n = search (rules, the_lemmas)

pub ex-str : (bytes : List ℕ) → ex_of (e.Str bytes) ≡ x.Str bytes
unfolding ex_of given_of
ex-str bytes = search (rules, the_lemmas)

pub ex-true : ex_of e.True ≡ x.Truth true
unfolding ex_of given_of
ex-true = search (rules, the_lemmas)

pub ex-false : ex_of e.False ≡ x.Truth false
unfolding ex_of given_of
ex-false = search (rules, the_lemmas)

pub ex-none : ex_of e.None ≡ x.Nothing
unfolding ex_of given_of
ex-none = search (rules, the_lemmas)

pub ex-group : (a : PyExpr) → ex_of (e.Group a) ≡ ex_of a
unfolding ex_of given_of
ex-group a = search (rules, the_lemmas)

pub ex-bracketed : (xs : List PyExpr) → ex_of (e.Bracketed xs) ≡ x.Op x.TupleOf (exs (map ex_of xs))
unfolding ex_of given_of
ex-bracketed xs = search (rules, the_lemmas)

pub ex-tuple : (xs : List PyExpr) → ex_of (e.Tuple xs) ≡ x.Op x.TupleOf (exs (map ex_of xs))
unfolding ex_of given_of
ex-tuple xs = search (rules, the_lemmas)

pub ex-list : (xs : List PyExpr) → ex_of (e.List xs) ≡ x.Op x.ListOf (exs (map ex_of xs))
unfolding ex_of given_of
ex-list xs = search (rules, the_lemmas)

pub ex-comprehension : (a : PyExpr) (t : List ℕ) (b : PyExpr) → ex_of (e.Comprehension a t b) ≡ x.Collect (ex_of a) t (ex_of b)
unfolding ex_of given_of
ex-comprehension a t b = search (rules, the_lemmas)

pub ex-not : (a : PyExpr) → ex_of (e.Not a) ≡ x.Op x.Negation (x.one (ex_of a))
unfolding ex_of given_of
ex-not a = search (rules, the_lemmas)

pub ex-unary : (sign : Sign) (a : PyExpr) → ex_of (e.Unary sign a) ≡ x.Op (x.Apply sign) (x.one (ex_of a))
unfolding ex_of given_of
ex-unary sign a = search (rules, the_lemmas)

pub ex-binary : (op : Operator) (a : PyExpr) (b : PyExpr) → ex_of (e.Binary op a b) ≡ x.binary op (ex_of a) (ex_of b)
unfolding ex_of given_of
ex-binary op a b = search (rules, the_lemmas)

pub ex-attribute : (a : PyExpr) (t : List ℕ) → ex_of (e.Attribute a t) ≡ x.Op (x.Attribute t) (x.one (ex_of a))
unfolding ex_of given_of
ex-attribute a t = search (rules, the_lemmas)

pub ex-call : (f : PyExpr) (gs : List Argument) → ex_of (e.Call f gs) ≡ x.called_as (x.attribute_in (ex_of f)) (ex_of f) (keys_of (map given_of gs)) (parts_of (map given_of gs))
unfolding ex_of given_of
ex-call f gs = search (rules, the_lemmas)

pub ex-index : (a : PyExpr) (b : PyExpr) → ex_of (e.Index a b) ≡ x.Op x.Index (x.two (ex_of a) (ex_of b))
unfolding ex_of given_of
ex-index a b = search (rules, the_lemmas)

pub ex-slice : (a : PyExpr) (b : PyExpr) (d : PyExpr) → ex_of (e.Slice a b (Some d)) ≡ x.Op x.Slice (x.three (ex_of a) (ex_of b) (ex_of d))
unfolding ex_of given_of
ex-slice a b d = search (rules, the_lemmas)

pub ex-slice_from : (a : PyExpr) (b : PyExpr) → ex_of (e.Slice a b None) ≡ x.slice_from (x.maker (ex_of a)) (ex_of a) (ex_of b)
unfolding ex_of given_of
ex-slice_from a b = search (rules, the_lemmas)

pub ex-whole : (a : PyExpr) → ex_of (e.Whole a) ≡ x.Op x.Whole (x.one (ex_of a))
unfolding ex_of given_of
ex-whole a = search (rules, the_lemmas)

pub given-argument : (a : Argument) → given_of a ≡ ((out-Argument a).name, ex_of (out-Argument a).value)
unfolding ex_of given_of
given-argument a = search (rules, the_lemmas)

pub ruleset shapes = (ex-name, ex-number, ex-str, ex-true, ex-false, ex-none, ex-group, ex-bracketed, ex-tuple, ex-list, ex-comprehension, ex-not, ex-unary, ex-binary, ex-attribute, ex-call, ex-index, ex-slice, ex-slice_from, ex-whole, given-argument)
