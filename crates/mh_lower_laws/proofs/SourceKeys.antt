-- Expressions of a source tell of each argument whether it has a name.
use Rattle.std.proofs.Common.{◌≡◌, ℕ, suc, true, List, [], ◌∷◌, length, map, Option, Some, None, refl, ap, sym, ◌∙◌, subst}
use Rattle.std.specs.Prelude.{nat_eq}
use Rattle.std.proofs.lemmas.Bool.{and_parts, and_from, eq-eqb}
use Rattle.mh_pytree.specs.declared.expression.Operator.{Operator}
use Rattle.mh_pytree.specs.declared.expression.Operator.TheVariants as op
use Rattle.mh_pytree.specs.declared.expression.PyExpr.{PyExpr, map-PyExpr}
use Rattle.mh_pytree.specs.declared.expression.Argument.{Argument, map-Argument}
use Rattle.mh_pytree.specs.declared.expression.PyExpr.TheOpen.{PyExpr-F}
use Rattle.mh_pytree.specs.declared.expression.PyExpr.TheFolds.{ind-PyExpr, fold-roll-PyExpr, fold-roll-Argument}
use Rattle.mh_consts.specs.Expression as x
use Rattle.mh_consts.specs.Expression.{Ex, Exs, Keys, Given, exs, join, maker, slice_from, binary, attribute_in, called_as, keys_of, parts_of, expr_step, argument_step, ex_of, given_of}
use Rattle.mh_lower_laws.proofs.Keys.{count, head_keys_fit, keys_fit, all_keys_fit}

-- ---- the forms

join_fits : (xs ys : Exs) → all_keys_fit xs ≡ true → all_keys_fit ys ≡ true → all_keys_fit (join xs ys) ≡ true
join_fits x.NoMore ys h k = k
join_fits (x.More e xs) ys h k = let p = and_parts (keys_fit e) (all_keys_fit xs) h in and_from (keys_fit e) (all_keys_fit (join xs ys)) p.0 (join_fits xs ys p.1 k)

one_fits : (a : Ex) → keys_fit a ≡ true → all_keys_fit (x.one a) ≡ true
one_fits a h = and_from (keys_fit a) true h refl

two_fit : (a b : Ex) → keys_fit a ≡ true → keys_fit b ≡ true → all_keys_fit (x.two a b) ≡ true
two_fit a b h k = and_from (keys_fit a) _ h (one_fits b k)

three_fit : (a b c : Ex) → keys_fit a ≡ true → keys_fit b ≡ true → keys_fit c ≡ true → all_keys_fit (x.three a b c) ≡ true
three_fit a b c h k l = and_from (keys_fit a) _ h (two_fit b c k l)

binary_fits : (o : Operator) (a b : Ex) → keys_fit a ≡ true → keys_fit b ≡ true → keys_fit (binary o a b) ≡ true
binary_fits op.Or a b h k = and_from (keys_fit a) (keys_fit b) h k
binary_fits op.And a b h k = and_from (keys_fit a) (keys_fit b) h k
binary_fits op.Equal a b h k = two_fit a b h k
binary_fits op.NotEqual a b h k = two_fit a b h k
binary_fits op.Less a b h k = two_fit a b h k
binary_fits op.LessEqual a b h k = two_fit a b h k
binary_fits op.Greater a b h k = two_fit a b h k
binary_fits op.GreaterEqual a b h k = two_fit a b h k
binary_fits op.BitOr a b h k = two_fit a b h k
binary_fits op.BitXor a b h k = two_fit a b h k
binary_fits op.BitAnd a b h k = two_fit a b h k
binary_fits op.ShiftLeft a b h k = two_fit a b h k
binary_fits op.ShiftRight a b h k = two_fit a b h k
binary_fits op.Add a b h k = two_fit a b h k
binary_fits op.Subtract a b h k = two_fit a b h k
binary_fits op.Multiply a b h k = two_fit a b h k
binary_fits op.Divide a b h k = two_fit a b h k
binary_fits op.Remainder a b h k = two_fit a b h k

from_fits : (m : Option (List ℕ)) (a b : Ex) → keys_fit a ≡ true → keys_fit b ≡ true → keys_fit (slice_from m a b) ≡ true
from_fits None a b h k = two_fit a b h k
from_fits (Some t) a b h k = two_fit a b h k

-- an attribute's base
AttributeFits : Option (List ℕ × Exs) → Type 0
AttributeFits o = (a : List ℕ × Exs) → o ≡ Some a → all_keys_fit a.1 ≡ true

head_attribute : (h : x.Head) (xs : Exs) → all_keys_fit xs ≡ true → AttributeFits (attribute_in (x.Op h xs))
unfolding AttributeFits
head_attribute (x.Attribute name) xs k a q = let same : (name, xs) ≡ a = cc in ap (λ (b : List ℕ × Exs). all_keys_fit b.1) (sym same) ∙ k
head_attribute (x.Apply s) xs k a q = absurd (cc)
head_attribute x.Negation xs k a q = absurd (cc)
head_attribute (x.Both o) xs k a q = absurd (cc)
head_attribute x.Index xs k a q = absurd (cc)
head_attribute x.Slice xs k a q = absurd (cc)
head_attribute x.SliceFrom xs k a q = absurd (cc)
head_attribute (x.Resize t) xs k a q = absurd (cc)
head_attribute x.Whole xs k a q = absurd (cc)
head_attribute x.TupleOf xs k a q = absurd (cc)
head_attribute x.ListOf xs k a q = absurd (cc)
head_attribute (x.Call keys) xs k a q = absurd (cc)
head_attribute (x.Method name keys) xs k a q = absurd (cc)

attribute_fits : (f : Ex) → keys_fit f ≡ true → AttributeFits (attribute_in f)
unfolding AttributeFits
attribute_fits (x.Op h xs) k a q = head_attribute h xs (and_parts (head_keys_fit h xs) (all_keys_fit xs) k).1 a q
attribute_fits (x.Number n) k a q = absurd (cc)
attribute_fits (x.Str t) k a q = absurd (cc)
attribute_fits (x.Truth b) k a q = absurd (cc)
attribute_fits x.Nothing k a q = absurd (cc)
attribute_fits (x.Name t) k a q = absurd (cc)
attribute_fits (x.And b c) k a q = absurd (cc)
attribute_fits (x.Or b c) k a q = absurd (cc)
attribute_fits (x.Collect i t o) k a q = absurd (cc)

called_fits : (o : Option (List ℕ × Exs)) (f : Ex) (keys : Keys) (args : Exs) → AttributeFits o → keys_fit f ≡ true → all_keys_fit args ≡ true → nat_eq (length keys) (count args) ≡ true → keys_fit (called_as o f keys args) ≡ true
unfolding AttributeFits
called_fits (Some a) f keys args i h k l = join_fits a.1 args (i a refl) k
called_fits None f keys args i h k l = and_from (nat_eq (length keys) (count args)) _ l (and_from (keys_fit f) (all_keys_fit args) h k)

-- ---- a layer whose parts fit

module _ {A B : Type 0} (f : A → PyExpr) (g : B → Argument) (parts : (a : A) → keys_fit (ex_of (f a)) ≡ true) (arguments : (b : B) → keys_fit (given_of (g b)).1 ≡ true) where
  all_fit : (as_ : List A) → all_keys_fit (exs (map ex_of (map f as_))) ≡ true
  all_fit [] = refl
  all_fit (a ∷ rest) = and_from (keys_fit (ex_of (f a))) (all_keys_fit (exs (map ex_of (map f rest)))) (parts a) (all_fit rest)

  parts_fit : (bs : List B) → all_keys_fit (parts_of (map given_of (map g bs))) ≡ true
  parts_fit [] = refl
  parts_fit (b ∷ rest) = and_from (keys_fit (given_of (g b)).1) (all_keys_fit (parts_of (map given_of (map g rest)))) (arguments b) (parts_fit rest)

  as_many : (bs : List B) → length (keys_of (map given_of (map g bs))) ≡ count (parts_of (map given_of (map g bs)))
  as_many [] = refl
  as_many (b ∷ rest) = ap suc (as_many rest)

  layer_fits : (y : PyExpr-F A B) → keys_fit (expr_step (map-PyExpr PyExpr Argument Ex Given ex_of given_of (map-PyExpr A B PyExpr Argument f g y))) ≡ true
  layer_fits (PyExpr-F.Name t) = refl
  layer_fits (PyExpr-F.Number n) = refl
  layer_fits (PyExpr-F.Str bytes) = refl
  layer_fits PyExpr-F.True = refl
  layer_fits PyExpr-F.False = refl
  layer_fits PyExpr-F.None = refl
  layer_fits (PyExpr-F.Group a) = parts a
  layer_fits (PyExpr-F.Bracketed xs) = all_fit xs
  layer_fits (PyExpr-F.Tuple xs) = all_fit xs
  layer_fits (PyExpr-F.List xs) = all_fit xs
  layer_fits (PyExpr-F.Comprehension item t over) = and_from (keys_fit (ex_of (f item))) (keys_fit (ex_of (f over))) (parts item) (parts over)
  layer_fits (PyExpr-F.Not a) = one_fits (ex_of (f a)) (parts a)
  layer_fits (PyExpr-F.Unary s a) = one_fits (ex_of (f a)) (parts a)
  layer_fits (PyExpr-F.Binary o a b) = binary_fits o (ex_of (f a)) (ex_of (f b)) (parts a) (parts b)
  layer_fits (PyExpr-F.Attribute a t) = one_fits (ex_of (f a)) (parts a)
  layer_fits (PyExpr-F.Call a bs) =
      called_fits (attribute_in (ex_of (f a))) (ex_of (f a)) (keys_of (map given_of (map g bs))) (parts_of (map given_of (map g bs))) (attribute_fits (ex_of (f a)) (parts a)) (parts a) (parts_fit bs)
      (eq-eqb (length (keys_of (map given_of (map g bs)))) (count (parts_of (map given_of (map g bs)))) (as_many bs))
  layer_fits (PyExpr-F.Index a b) = two_fit (ex_of (f a)) (ex_of (f b)) (parts a) (parts b)
  layer_fits (PyExpr-F.Slice a b None) = from_fits (maker (ex_of (f a))) (ex_of (f a)) (ex_of (f b)) (parts a) (parts b)
  layer_fits (PyExpr-F.Slice a b (Some c)) = three_fit (ex_of (f a)) (ex_of (f b)) (ex_of (f c)) (parts a) (parts b) (parts c)
  layer_fits (PyExpr-F.Whole a) = one_fits (ex_of (f a)) (parts a)

abbrev Fits : PyExpr → Type 0
Fits a = keys_fit (ex_of a) ≡ true

abbrev ArgumentFits : Argument → Type 0
ArgumentFits b = keys_fit (given_of b).1 ≡ true

pub source_keys : (a : PyExpr) → Fits a
unfolding ex_of given_of
source_keys = ind-PyExpr Fits ArgumentFits
    (λ x y is. ap keys_fit (fold-roll-PyExpr Ex Given expr_step argument_step x) ∙ subst (λ z. keys_fit (expr_step (map-PyExpr PyExpr Argument Ex Given ex_of given_of z)) ≡ true) is (layer_fits (λ e. e.0) (λ e. e.0) (λ e. e.1) (λ e. e.1) y))
    (λ x y is. ap (λ (z : Given). keys_fit z.1) (fold-roll-Argument Ex Given expr_step argument_step x) ∙ subst (λ z. keys_fit (argument_step (map-Argument PyExpr Argument Ex Given ex_of given_of z)).1 ≡ true) is y.value.1)
