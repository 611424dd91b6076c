-- Bounds that are made from their ends.
use Rattle.std.proofs.Common.{◌≡◌, T, ℤ, Bool, true, false, Option, Some, None, ◌≤◌, refl, ap, ◌∙◌, ◌≤ℤ◌, subst, sym, IsSome, IfSome, ◌↔◌}
use Rattle.std.specs.Int.Signed.{le_z, le_z_yes}
use Rattle.std.proofs.Math.Dec.{leb}
use Rattle.std.proofs.Math.Facts.{leb_yes, yes_leb}
use Rattle.mh_codes.specs.Widths.{width_of}
use Rattle.mh_num.specs.declared.bounds.Bounds.{Bounds}
use Rattle.mh_num.proofs.BoundsLaws.{same_bounds}
use Rattle.mh_consts.specs.Numbers.{allowed, bounds_of}

-- what passes both tests is made
allowed-yes : {A : Type 0} (a b : Bool) (f : T a → T b → A) (x : T a) (y : T b) → allowed a b f ≡ Some (f x y)
allowed-yes true true f x y = refl
allowed-yes true false f x y = absurd y
allowed-yes false b f x y = absurd x

-- what fails one isn't
allowed-no : {A : Type 0} (a b : Bool) (f : T a → T b → A) → (T a → T b → ⊥) → allowed a b f ≡ None
allowed-no true true f h = absurd (h tt tt)
allowed-no true false f h = refl
allowed-no false b f h = refl

-- the bounds with the ends of bounds are these
pub bounds_of-some : (b : Bounds) → bounds_of b.lo b.top b.wraps ≡ Some b
unfolding bounds_of
bounds_of-some b = allowed-yes (le_z b.lo b.top) (leb (width_of b.lo b.top) 127) _ b.ordered.le (yes_leb b.in_127_bits) ∙ ap Some (same_bounds _ b refl refl refl)

-- there are none where the order or the width doesn't hold
pub bounds_of-none : (lo top : ℤ) (wraps : Bool) → ((lo ≤ℤ top) × (width_of lo top ≤ 127) → ⊥) → bounds_of lo top wraps ≡ None
unfolding bounds_of
bounds_of-none lo top wraps h = allowed-no (le_z lo top) (leb (width_of lo top) 127) _ (λ o n. h (le_z_yes o, leb_yes n))

-- the bounds with these ends
pub bounds_of-is : (b : Bounds) (lo top : ℤ) (wraps : Bool) → b.lo ≡ lo → b.top ≡ top → b.wraps ≡ wraps → bounds_of lo top wraps ≡ Some b
bounds_of-is b lo top wraps e f g =
    subst (λ l. bounds_of l top wraps ≡ Some b) e (subst (λ t. bounds_of b.lo t wraps ≡ Some b) f (subst (λ w. bounds_of b.lo b.top w ≡ Some b) g (bounds_of-some b)))

none-made : {X : Type 0} → IsSome {T = Bounds} None → X
none-made h = let e : false ≡ true = h in cc

-- what the call that makes bounds answers
pub bounds_of-made : (r : Option Bounds) (low lo high top : ℤ) (wraps : Bool) → low ≡ lo → high ≡ top → (IsSome r ↔ ((low ≤ℤ high) × (width_of low high ≤ 127))) →
    IfSome r (λ b. (b.lo ≡ low) × (b.top ≡ high) × (b.wraps ≡ wraps)) → r ≡ bounds_of lo top wraps
bounds_of-made None low lo high top wraps e g h f =
    sym (bounds_of-none low high wraps (λ x. none-made {X = ⊥} (h.1 x))) ∙ (ap (λ l. bounds_of l high wraps) e ∙ ap (λ t. bounds_of lo t wraps) g)
bounds_of-made (Some b) low lo high top wraps e g h f = sym (bounds_of-is b lo top wraps (f.0 ∙ e) (f.1 ∙ g) f.2)
