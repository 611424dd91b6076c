-- Which values are of a design, by their variants.
use Rattle.std.proofs.Common.{◌≡◌, Bool, true, false, ◌&&◌, List, [], ◌∷◌, map, refl, ap}
use Rattle.std.specs.Prelude.{nat_le}
use Rattle.std.specs.List.{list_all}
use Rattle.std.specs.Option.{option_map_or}
use Rattle.mh_codes.specs.Ranges.{is_inside}
use Rattle.mh_consts.specs.declared.kinds.Const.{Const, out-Const, map-Const}
use Rattle.mh_consts.specs.declared.kinds.Const.TheOpen.{Const-F}
use Rattle.mh_consts.specs.declared.kinds.Const.TheFolds.{fold_out-Const}
use Rattle.mh_design.specs.declared.design.Design.{Design}
use Rattle.mh_design.specs.Kinds.{signal_kind}
use Rattle.mh_design.specs.Statements.{is_bool_kind}
use Rattle.mh_lower_laws.specs.Holds.{is_signal, value_step, is_of}

-- what a value is of a design by what it holds
abbrev pub step_of : Design → Const-F Const → Bool
step_of d (Const-F.Signal n k) = is_signal d n k
step_of d (Const-F.Edge n rising) = option_map_or is_bool_kind (signal_kind d n) false
step_of d (Const-F.Bounded v b) = is_inside b.lo b.top v
step_of d (Const-F.Delay n) = nat_le 1 n && nat_le n 2147483647
step_of d (Const-F.Tuple items) = list_all (is_of d) items
step_of d v = true

all_of_map : {X : Type 0} (f : X → Bool) (xs : List X) → list_all (λ b. b) (map f xs) ≡ list_all f xs
all_of_map f [] = refl
all_of_map f (x ∷ xs) = ap (λ b. f x && b) (all_of_map f xs)

by_variant : (d : Design) (x : Const-F Const) → value_step d (map-Const Const Bool (is_of d) x) ≡ step_of d x
by_variant d Const-F.None = refl
by_variant d (Const-F.Int n) = refl
by_variant d (Const-F.Truth b) = refl
by_variant d (Const-F.Str t) = refl
by_variant d (Const-F.Delay n) = refl
by_variant d (Const-F.EnumType n names) = refl
by_variant d (Const-F.Item n place) = refl
by_variant d (Const-F.Bounded v b) = refl
by_variant d (Const-F.Signal n k) = refl
by_variant d (Const-F.Edge n rising) = refl
by_variant d (Const-F.Range a b step) = refl
by_variant d (Const-F.List n) = refl
by_variant d (Const-F.Tuple items) = all_of_map (is_of d) items
by_variant d (Const-F.Function n) = refl
by_variant d (Const-F.Instance n) = refl
by_variant d (Const-F.Generator n) = refl
by_variant d (Const-F.Builtin b) = refl

-- a value is of a design by its variant
pub is_of-out : (d : Design) (v : Const) → is_of d v ≡ step_of d (out-Const v)
unfolding is_of
is_of-out d v = rw (fold_out-Const Bool (value_step d) v) (by_variant d (out-Const v))
