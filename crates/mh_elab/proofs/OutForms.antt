-- What an expression is, by its variant: `out-PyExpr` opens one level. And what it is as a target.
use Rattle.std.proofs.Common.{◌≡◌, ℕ, ℤ, List, Option, Some, None, refl, rules}
use Rattle.mh_pytree.specs.declared.expression.Operator.{Operator}
use Rattle.mh_pytree.specs.declared.expression.Sign.{Sign}
use Rattle.mh_pytree.specs.declared.expression.Argument.{Argument}
use Rattle.mh_pytree.specs.declared.expression.PyExpr.{PyExpr, out-PyExpr, the_lemmas}
use Rattle.mh_pytree.specs.declared.expression.PyExpr.TheOpen.{PyExpr-F}
use Rattle.mh_pytree.specs.declared.expression.PyExpr.TheVariants as e
use Rattle.mh_consts.specs.Expression as x
use Rattle.mh_consts.specs.Expression.{Ex}
use Rattle.mh_world.specs.Statements.{to_names}
use Rattle.mh_elab.specs.Elaboration.{read_parts, target_parts}

pub out-name : (t : List ℕ) → out-PyExpr (e.Name t) ≡ PyExpr-F.Name t
out-name t = search (rules, the_lemmas)

pub out-number : (n : ℤ) → out-PyExpr (e.Number n) ≡ PyExpr-F.Number n
out-number n = search (rules, the_lemmas)

pub out-str : (t : List ℕ) → out-PyExpr (e.Str t) ≡ PyExpr-F.Str t
out-str t = search (rules, the_lemmas)

pub out-true : out-PyExpr e.True ≡ PyExpr-F.True
out-true = search (rules, the_lemmas)

pub out-false : out-PyExpr e.False ≡ PyExpr-F.False
out-false = search (rules, the_lemmas)

pub out-none : out-PyExpr e.None ≡ PyExpr-F.None
out-none = search (rules, the_lemmas)

pub out-group : (a : PyExpr) → out-PyExpr (e.Group a) ≡ PyExpr-F.Group a
out-group a = search (rules, the_lemmas)

pub out-bracketed : (xs : List PyExpr) → out-PyExpr (e.Bracketed xs) ≡ PyExpr-F.Bracketed xs
out-bracketed xs = search (rules, the_lemmas)

pub out-tuple : (xs : List PyExpr) → out-PyExpr (e.Tuple xs) ≡ PyExpr-F.Tuple xs
out-tuple xs = search (rules, the_lemmas)

pub out-list : (xs : List PyExpr) → out-PyExpr (e.List xs) ≡ PyExpr-F.List xs
out-list xs = search (rules, the_lemmas)

pub out-comprehension : (a : PyExpr) (t : List ℕ) (b : PyExpr) → out-PyExpr (e.Comprehension a t b) ≡ PyExpr-F.Comprehension a t b
out-comprehension a t b = search (rules, the_lemmas)

pub out-not : (a : PyExpr) → out-PyExpr (e.Not a) ≡ PyExpr-F.Not a
out-not a = search (rules, the_lemmas)

pub out-unary : (s : Sign) (a : PyExpr) → out-PyExpr (e.Unary s a) ≡ PyExpr-F.Unary s a
out-unary s a = search (rules, the_lemmas)

pub out-binary : (o : Operator) (a b : PyExpr) → out-PyExpr (e.Binary o a b) ≡ PyExpr-F.Binary o a b
out-binary o a b = search (rules, the_lemmas)

pub out-attribute : (a : PyExpr) (t : List ℕ) → out-PyExpr (e.Attribute a t) ≡ PyExpr-F.Attribute a t
out-attribute a t = search (rules, the_lemmas)

pub out-call : (f : PyExpr) (gs : List Argument) → out-PyExpr (e.Call f gs) ≡ PyExpr-F.Call f gs
out-call f gs = search (rules, the_lemmas)

pub out-index : (a b : PyExpr) → out-PyExpr (e.Index a b) ≡ PyExpr-F.Index a b
out-index a b = search (rules, the_lemmas)

pub out-slice : (a b : PyExpr) (d : Option PyExpr) → out-PyExpr (e.Slice a b d) ≡ PyExpr-F.Slice a b d
out-slice a b d = search (rules, the_lemmas)

pub out-whole : (a : PyExpr) → out-PyExpr (e.Whole a) ≡ PyExpr-F.Whole a
out-whole a = search (rules, the_lemmas)

pub parts-names : (o : Option (List (List ℕ))) → target_parts (to_names o) ≡ x.NoMore
parts-names None = refl
parts-names (Some ts) = refl

pub read-names : (o : Option (List (List ℕ))) (e : Ex) → read_parts (to_names o) e ≡ x.one e
read-names None e = refl
read-names (Some ts) e = refl

pub ruleset outs = (out-name, out-number, out-str, out-true, out-false, out-none, out-group, out-bracketed, out-tuple, out-list, out-comprehension, out-not, out-unary, out-binary, out-attribute, out-call, out-index, out-slice, out-whole)

pub ruleset target_forms = (outs, parts-names, read-names)
