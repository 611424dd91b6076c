-- The names in an expression, put together piece by piece.
use Rattle.std.proofs.Common.{Bor, ◌≡◌, List, [], ◌∷◌, ◌++◌, Option, Some, None, ℕ, refl, ap, ◌∙◌, sym}
use Rattle.std.proofs.lemmas.List.{append_assoc, append-nil, map-append}
use Rattle.mh_pytree.specs.declared.expression.PyExpr.{PyExpr}
use Rattle.mh_pytree.specs.declared.expression.PyExpr.TheVariants as e
use Rattle.mh_pytree.specs.declared.expression.Operator.{Operator}
use Rattle.mh_pytree.specs.declared.expression.Operator.TheVariants as op
use Rattle.mh_consts.specs.Expression as x
use Rattle.mh_consts.specs.Expression.{Ex, Exs, Keys, binary, called, ex_of, join, slice_from}
use Rattle.mh_consts.proofs.Shapes.{ex-name}
use Rattle.mh_elab.specs.Reads.{in_ex, in_exs}
use Rattle.mh_elab.specs.Views.{texts}

in_join : (xs ys : Exs) → in_exs (join xs ys) ≡ in_exs xs ++ in_exs ys
in_join x.NoMore ys = refl
in_join (x.More e es) ys = rw (in_join es ys, append_assoc (in_ex e) (in_exs es) (in_exs ys)) refl

pub in-called : (f : Ex) (keys : Keys) (args : Exs) → in_ex (called f keys args) ≡ in_ex f ++ in_exs args
in-called (x.Op (x.Attribute t) xs) keys args = in_join xs args
in-called f keys args = refl

pub in-binary : (o : Operator) (a b : Ex) → in_ex (binary o a b) ≡ in_ex a ++ in_ex b
in-binary op.Or a b = refl
in-binary op.And a b = refl
in-binary o a b = ap (λ ts. in_ex a ++ ts) (append-nil (in_ex b))

pub in-slice_from : (m : Option (List ℕ)) (a b : Ex) → in_ex (slice_from m a b) ≡ in_ex a ++ in_ex b
in-slice_from None a b = ap (λ ts. in_ex a ++ ts) (append-nil (in_ex b))
in-slice_from (Some t) a b = ap (λ ts. in_ex a ++ ts) (append-nil (in_ex b))

pub ruleset name_laws = (append_assoc, append-nil, in-called, in-binary, in-slice_from)

-- a name is added
pub name_last : (ts us : List (Bor (List ℕ))) (t : Bor (List ℕ)) (v : PyExpr) → us ≡ ts ++ t ∷ [] → v ≡ e.Name t.now → texts us ≡ texts ts ++ in_ex (ex_of v)
name_last ts us t v added named = ap texts added ∙ (map-append (λ t. t.now) ts (t ∷ []) ∙ ap (λ x. texts ts ++ in_ex x) (sym (ap ex_of named ∙ ex-name t.now)))
