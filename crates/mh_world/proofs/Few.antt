-- Lists of few names, by the first of them.
use Rattle.std.proofs.Common.{◌≡◌, ℕ, Bool, not, ◌&&◌, List, [], ◌∷◌, Option, Some, None, refl, is_some, slice_get, bytes_eq, if◌then◌else◌}
use Rattle.std.specs.Prelude.{codes}
use Rattle.std.specs.Option.{option_map}
use Rattle.mh_design.specs.declared.design.Encoding.{Encoding}
use Rattle.mh_design.specs.declared.design.Encoding.TheVariants as encoding
use Rattle.mh_consts.specs.declared.kinds.Const.{Const}
use Rattle.mh_world.specs.World.{Bindings}
use Rattle.mh_world.specs.Signals.{are_two, encoding_held, encoding_in}

pub two : (bs : Bindings) → are_two bs ≡ (is_some (option_map (λ e. e.1) (slice_get bs 1)) && not (is_some (option_map (λ e. e.1) (slice_get bs 2))))
two [] = refl
two (a ∷ []) = refl
two (a ∷ b ∷ []) = refl
two (a ∷ b ∷ d ∷ bs) = refl

-- by the first value, its name, and whether there is another
abbrev pub encoding_by : Option Const → Option (List ℕ) → Bool → Option Encoding
encoding_by None t more = Some encoding.Binary
encoding_by (Some v) None more = None
encoding_by (Some v) (Some t) more = if not more && bytes_eq t (codes "encoding") then encoding_held v else None

pub encoding_first : (bs : Bindings) →
    encoding_in bs ≡ encoding_by (option_map (λ e. e.1) (slice_get bs 0)) (option_map (λ e. e.0) (slice_get bs 0)) (is_some (option_map (λ e. e.1) (slice_get bs 1)))
encoding_first [] = refl
encoding_first (b ∷ []) = refl
encoding_first (b ∷ d ∷ bs) = refl
