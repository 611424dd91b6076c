-- What putting a number into bounds gives.
use Rattle.std.proofs.Common.{ℤ, ◌≤ℤ◌, ◌≡◌, refl, sym, ap, subst, Bool, true, false, ◌⊎◌, ⊎_elim, Ok, Err, inl, inr, arith}
use Rattle.std.proofs.lemmas.Bool.{cond-true, cond_both}
use Rattle.std.proofs.lemmas.Int.{ints}
use Rattle.mh_codes.specs.Codes.{Fits}
use Rattle.mh_codes.specs.Ranges.{is_inside, wrap_of}
use Rattle.mh_codes.specs.Widths.{is_signed, width_of}
use Rattle.mh_codes.proofs.WidthLaws.{fits-width_of}
use Rattle.mh_codes.proofs.Wrapping.{wrap_of_low, wrap_of_high, wrap_of_inside}
use Rattle.mh_num.specs.Fit.{fit_of}

-- the test is the order
inside_low : (lo top v : ℤ) → is_inside lo top v ≡ true → lo ≤ℤ v
inside_low lo top v e = grind (arith, ints)

inside_high : (lo top v : ℤ) → is_inside lo top v ≡ true → v ≤ℤ top
inside_high lo top v e = grind (arith, ints)

inside_from : (lo top v : ℤ) → lo ≤ℤ v → v ≤ℤ top → is_inside lo top v ≡ true
inside_from lo top v a b = grind (arith, ints)

-- inside, a number stays, whether the bounds wrap or not
pub fit_of-inside : (lo top v : ℤ) (wraps : Bool) → lo ≤ℤ v → v ≤ℤ top → fit_of lo top wraps v ≡ Ok v
fit_of-inside lo top v wraps a b = cond-true (is_inside lo top v) (Ok v) _ (inside_from lo top v a b)

-- bounds that wrap take every number
pub fit_of-wraps : (lo top v : ℤ) → lo ≤ℤ top → fit_of lo top true v ≡ Ok (wrap_of lo top v)
fit_of-wraps lo top v l =
    cond_both (is_inside lo top v) (Ok v) (Ok (wrap_of lo top v)) (λ r. r ≡ Ok (wrap_of lo top v))
    (λ yes. ap Ok (sym (wrap_of_inside lo top l v (inside_low lo top v yes) (inside_high lo top v yes)))) (λ no. refl)

-- what comes out is the number itself, which is inside, or what it wraps to
from_fit : (lo top v z : ℤ) (wraps : Bool) → fit_of lo top wraps v ≡ Ok z → (z ≡ v) × (is_inside lo top v ≡ true) ⊎ (z ≡ wrap_of lo top v)
from_fit lo top v z true = cond_both (is_inside lo top v) (Ok v) (Ok (wrap_of lo top v)) (λ r. r ≡ Ok z → (z ≡ v) × (is_inside lo top v ≡ true) ⊎ (z ≡ wrap_of lo top v)) (λ yes e. inl (cc, yes)) (λ no e. inr cc)
from_fit lo top v z false = cond_both (is_inside lo top v) (Ok v) (Err (record { value = v; low = lo; high = top })) (λ r. r ≡ Ok z → (z ≡ v) × (is_inside lo top v ≡ true) ⊎ (z ≡ wrap_of lo top v)) (λ yes e. inl (cc, yes)) (λ no e. absurd cc)

-- so it is inside
pub fit_of-low : (lo top v z : ℤ) (wraps : Bool) → lo ≤ℤ top → fit_of lo top wraps v ≡ Ok z → lo ≤ℤ z
fit_of-low lo top v z wraps l e =
    ⊎_elim (λ h. subst (λ x. lo ≤ℤ x) (sym h.0) (inside_low lo top v h.1)) (λ h. subst (λ x. lo ≤ℤ x) (sym h) (wrap_of_low lo top l v)) (from_fit lo top v z wraps e)

pub fit_of-high : (lo top v z : ℤ) (wraps : Bool) → lo ≤ℤ top → fit_of lo top wraps v ≡ Ok z → z ≤ℤ top
fit_of-high lo top v z wraps l e =
    ⊎_elim (λ h. subst (λ x. x ≤ℤ top) (sym h.0) (inside_high lo top v h.1)) (λ h. subst (λ x. x ≤ℤ top) (sym h) (wrap_of_high lo top l v)) (from_fit lo top v z wraps e)

-- so fitting it again changes nothing
pub fit_of-fit_of : (lo top v z : ℤ) (wraps : Bool) → lo ≤ℤ top → fit_of lo top wraps v ≡ Ok z → fit_of lo top wraps z ≡ Ok z
fit_of-fit_of lo top v z wraps l e = fit_of-inside lo top z wraps (fit_of-low lo top v z wraps l e) (fit_of-high lo top v z wraps l e)

-- and it has the width of the bounds
pub fit_of-width_of : (lo top v z : ℤ) (wraps : Bool) → lo ≤ℤ top → fit_of lo top wraps v ≡ Ok z → Fits (is_signed lo) (width_of lo top) z
fit_of-width_of lo top v z wraps l e = fits-width_of lo top z (fit_of-low lo top v z wraps l e) (fit_of-high lo top v z wraps l e)
