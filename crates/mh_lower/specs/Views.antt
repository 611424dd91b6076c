-- The forms of expression that statements tell apart.
use Rattle.std.specs.Prelude.{ℕ, List, Option, Some, None}
use Rattle.mh_consts.specs.Expression as x
use Rattle.mh_consts.specs.Expression.{Ex, Exs, Keys}

pub data View : Type 0 where
  Named : (name : List ℕ) → View
  Text : (bytes : List ℕ) → View
  Tupled : (items : Exs) → View
  Called : (keys : Keys) (f : Ex) (arguments : Exs) → View  -- `f(..)`, where f is no attribute
  Attributed : (base : Ex) (name : List ℕ) → View  -- `base.name`
  Indexed : (base place : Ex) → View  -- `base[place]`
  Ranged : (base upper lower : Ex) → View  -- `base[upper:lower]`
  RangedFrom : (base upper : Ex) → View  -- `base[upper:]`
  Resized : (base upper : Ex) → View  -- `f(..)[upper:]`, where f is a name
  Entire : (base : Ex) → View  -- `base[:]`
  Another : View

abbrev pub view : Ex → View
view (x.Name t) = Named t
view (x.Str bytes) = Text bytes
view (x.Op x.TupleOf xs) = Tupled xs
view (x.Op (x.Call keys) (x.More f xs)) = Called keys f xs
view (x.Op (x.Attribute name) (x.More a xs)) = Attributed a name
view (x.Op x.Index (x.More a (x.More i xs))) = Indexed a i
view (x.Op x.Slice (x.More a (x.More i (x.More j xs)))) = Ranged a i j
view (x.Op x.SliceFrom (x.More a (x.More i xs))) = RangedFrom a i
view (x.Op (x.Resize maker) (x.More a (x.More n xs))) = Resized a n
view (x.Op x.Whole (x.More a xs)) = Entire a
view e = Another
