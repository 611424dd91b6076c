-- Names from a place on, and what is bound to the one at the place.
use Rattle.std.proofs.Common.{◌≡◌, ◌∙◌, ℕ, ◌+◌, ◌<◌, suc, zero, Bool, true, ◌&&◌, List, [], ◌∷◌, ◌++◌, Option, Some, None, length, drop, refl, ap, is_some, slice_get, arith}
use Rattle.std.specs.Option.{option_map, option_map_or}
use Rattle.mh_consts.specs.declared.kinds.Const.{Const, out-Const}
use Rattle.mh_consts.specs.Names.{lookup}
use Rattle.mh_world.specs.World.{Bindings}
use Rattle.mh_world.specs.Arguments.{Formal, all_known, all_parameters}
use Rattle.mh_world.specs.Blocks.{bound_in, bound_parts}

next : (i : ℕ) → suc i ≡ i + 1
next i = omega arith

-- what stands at a place is one of the list
pub within : {A B : Type 0} (f : A → B) (xs : List A) (i : ℕ) (y : B) → option_map f (slice_get xs i) ≡ Some y → i < length xs
within f [] i y h = absurd (cc)
within f (x ∷ xs) zero y h = omega arith
within f (x ∷ xs) (suc i) y h = let less = within f xs i y h in omega arith

-- ---- each name is known

known_at : (known : List (List ℕ × Bool)) (bs : Bindings) (i : ℕ) →
    all_known known (drop i bs) ≡ option_map_or (λ t. is_some (lookup known t) && all_known known (drop (suc i) bs)) (option_map (λ e. e.0) (slice_get bs i)) true
known_at known [] zero = refl
known_at known [] (suc i) = refl
known_at known (b ∷ bs) zero = refl
known_at known (b ∷ bs) (suc i) = known_at known bs i

pub known_step : (known : List (List ℕ × Bool)) (bs : Bindings) (i : ℕ) →
    all_known known (drop i bs) ≡ option_map_or (λ t. is_some (lookup known t) && all_known known (drop (i + 1) bs)) (option_map (λ e. e.0) (slice_get bs i)) true
known_step known bs i =
    known_at known bs i ∙ ap (λ n. option_map_or (λ t. is_some (lookup known t) && all_known known (drop n bs)) (option_map (λ e. e.0) (slice_get bs i)) true) (next i)

-- without a first name there is none that isn't a parameter's
pub none_named : (ps : List Formal) (bs : Bindings) →
    all_parameters ps bs ≡ option_map_or (λ t. all_parameters ps bs) (option_map (λ e. e.0) (slice_get bs 0)) true
none_named ps [] = refl
none_named ps (b ∷ bs) = refl

-- ---- what is bound to each

bound_at : (ls : List (List Const)) (bs : Bindings) (i : ℕ) →
    bound_parts ls (drop i bs) ≡ option_map_or (λ v. bound_in ls v (out-Const v) ++ bound_parts ls (drop (suc i) bs)) (option_map (λ e. e.1) (slice_get bs i)) []
bound_at ls [] zero = refl
bound_at ls [] (suc i) = refl
bound_at ls (b ∷ bs) zero = refl
bound_at ls (b ∷ bs) (suc i) = bound_at ls bs i

pub bound_step : (ls : List (List Const)) (bs : Bindings) (i : ℕ) →
    bound_parts ls (drop i bs) ≡ option_map_or (λ v. bound_in ls v (out-Const v) ++ bound_parts ls (drop (i + 1) bs)) (option_map (λ e. e.1) (slice_get bs i)) []
bound_step ls bs i =
    bound_at ls bs i ∙ ap (λ n. option_map_or (λ v. bound_in ls v (out-Const v) ++ bound_parts ls (drop n bs)) (option_map (λ e. e.1) (slice_get bs i)) []) (next i)
