-- Tests of the numbers below a number.
use Rattle.std.proofs.Common.{◌≡◌, ℕ, zero, suc, ◌+◌, ◌<◌, ◌≤◌, Bool, true, false, not, ◌||◌, ◌&&◌, ◌⊎◌, inl, inr, refl, ap, sym, ◌∙◌, arith, add-one}
use Rattle.std.specs.Prelude.{if◌then◌else◌}
use Rattle.std.proofs.Math.Nat.{eq-or-lt_of_le}
use Rattle.mh_design.specs.Enums.{any_below}
use Rattle.mh_design.specs.Assigned.{all_below}
use Rattle.mh_design.specs.WellFormed.{count_below}

or_true : (a : Bool) → (a || true) ≡ true
or_true true = refl
or_true false = refl

and_false : (a : Bool) → (a && false) ≡ false
and_false true = refl
and_false false = refl

at_most : (k n : ℕ) → k ≤ n → (k ≡ n) ⊎ (k < n)
at_most k n h = eq-or-lt_of_le h

below_or_equal : (k n : ℕ) → k < suc n → (k ≡ n) ⊎ (k < n)
below_or_equal k n h = let l : k ≤ n = omega (arith, h) in eq-or-lt_of_le l

pub any_below-more : (n : ℕ) (t : ℕ → Bool) → any_below (n + 1) t ≡ (any_below n t || t n)
any_below-more n t = ap (λ m. any_below m t) (add-one n)

pub all_below-more : (n : ℕ) (t : ℕ → Bool) → all_below (n + 1) t ≡ (all_below n t && t n)
all_below-more n t = ap (λ m. all_below m t) (add-one n)

pub count_below-more : (n : ℕ) (t : ℕ → Bool) → count_below (n + 1) t ≡ count_below n t + (if t n then 1 else 0)
count_below-more n t = ap (λ m. count_below m t) (add-one n)

-- where some number below passes
pub any_below_found : (n k : ℕ) (t : ℕ → Bool) → k < n → t k ≡ true → any_below n t ≡ true
any_below_found zero k t h e = absurd (omega (arith, h))
any_below_found (suc n) k t h e =
    elim (below_or_equal k n h) [
      | inl q ↦ ap (λ b. any_below n t || b) (ap t (sym q) ∙ e) ∙ or_true (any_below n t)
      | inr l ↦ ap (λ b. b || t n) (any_below_found n k t l e)
    ]

-- where some number below doesn't pass
pub all_below_fails : (n k : ℕ) (t : ℕ → Bool) → k < n → t k ≡ false → all_below n t ≡ false
all_below_fails zero k t h e = absurd (omega (arith, h))
all_below_fails (suc n) k t h e =
    elim (below_or_equal k n h) [
      | inl q ↦ ap (λ b. all_below n t && b) (ap t (sym q) ∙ e) ∙ and_false (all_below n t)
      | inr l ↦ ap (λ b. b && t n) (all_below_fails n k t l e)
    ]

-- more numbers, no smaller count
pub count_below_rises : (n k : ℕ) (t : ℕ → Bool) → k ≤ n → count_below k t ≤ count_below n t
count_below_rises zero k t h = let q : k ≡ 0 = omega (arith, h) in let e : count_below k t ≡ 0 = ap (λ m. count_below m t) q in omega (arith, e)
count_below_rises (suc n) k t h =
    elim (at_most k (suc n) h) [
      | inl q ↦ let e : count_below k t ≡ count_below (suc n) t = ap (λ m. count_below m t) q in omega (arith, e)
      | inr l ↦ let r = count_below_rises n k t (omega (arith, l)) in omega (arith, r)
    ]

-- where no number below passes
pub any_below_none : (n : ℕ) (t : ℕ → Bool) → ((k : ℕ) → k < n → t k ≡ false) → any_below n t ≡ false
any_below_none zero t h = refl
any_below_none (suc n) t h = ap (λ b. b || t n) (any_below_none n t (λ k l. h k (omega (arith, l)))) ∙ h n (omega arith)

pub ruleset below_laws = (any_below-more, all_below-more, count_below-more)
