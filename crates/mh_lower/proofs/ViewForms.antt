-- The view of each form of expression.
use Rattle.std.proofs.Common.{◌≡◌, ℕ, List, Option, Some, None, refl}
use Rattle.mh_pytree.specs.declared.expression.Operator.{Operator}
use Rattle.mh_pytree.specs.declared.expression.Operator.TheVariants as op
use Rattle.mh_consts.specs.Expression.{Ex, Exs, Keys, binary, slice_from, called_as}
use Rattle.mh_consts.proofs.Forms.{forms}
use Rattle.mh_lower.specs.Views.{View, view, Called, RangedFrom, Resized, Another}

pub view-binary : (o : Operator) (a b : Ex) → view (binary o a b) ≡ Another
view-binary op.Or a b = refl
view-binary op.And a b = refl
view-binary o a b = refl

abbrev pub range_view : Option (List ℕ) → Ex → Ex → View
range_view None a b = RangedFrom a b
range_view (Some t) a b = Resized a b

pub view-slice_from : (m : Option (List ℕ)) (a b : Ex) → view (slice_from m a b) ≡ range_view m a b
view-slice_from None a b = refl
view-slice_from (Some t) a b = refl

abbrev pub call_view : Option (List ℕ × Exs) → Ex → Keys → Exs → View
call_view None f keys args = Called keys f args
call_view (Some a) f keys args = Another

pub view-called_as : (m : Option (List ℕ × Exs)) (f : Ex) (keys : Keys) (args : Exs) → view (called_as m f keys args) ≡ call_view m f keys args
view-called_as None f keys args = refl
view-called_as (Some a) f keys args = refl

pub ruleset views = (forms, view-binary, view-slice_from, view-called_as)
