-- The number of a turn of a range that has no end: half of the way stays inside where the whole way does.
use Rattle.std.proofs.Common.{ℕ, suc, ℤ, pos, negsuc, ◌+◌, ◌*◌, ◌^◌, ◌-◌, ◌<◌, ◌≤◌, ◌≡◌, ◌+ℤ◌, ◌*ℤ◌, ◌≤ℤ◌, Some, None, sym, ap, ◌∙◌, arith}
use Rattle.std.proofs.Math.Nat.{mul-le-mul_right}
use Rattle.std.proofs.lemmas.Int.{ints}
use Rattle.std.specs.Int.{w128}
use Rattle.std.specs.Int.RustNames.{FitsSigned}
use Rattle.mh_codes.specs.Widths.{magnitude_of}
use Rattle.mh_num.specs.Results.{in_i128}
use Rattle.mh_num.proofs.ResultLaws.{in_i128-none, in_i128-outside, in_i128-some}
use Rattle.mh_world.specs.Lists.{number_before}

-- an even and an odd number of steps
pub even_is : (from step : ℤ) (p h : ℕ) → p ≡ h + h → (from +ℤ pos h *ℤ step) +ℤ pos h *ℤ step ≡ from +ℤ pos p *ℤ step
even_is from (pos s) p h e = omega (arith, ints, ap (λ x. x * s) e)
even_is from (negsuc s) p h e = omega (arith, ints, ap (λ x. x * suc s) e)

pub odd_is : (from step : ℤ) (p h : ℕ) → p ≡ suc (h + h) → ((from +ℤ pos h *ℤ step) +ℤ pos h *ℤ step) +ℤ step ≡ from +ℤ pos p *ℤ step
odd_is from (pos s) p h e = omega (arith, ints, ap (λ x. x * s) e)
odd_is from (negsuc s) p h e = omega (arith, ints, ap (λ x. x * suc s) e)

-- above or below all numbers of the type
high : (z : ℤ) → pos (2 ^ 127) ≤ℤ z → 2 ^ 127 ≤ magnitude_of z
high (pos n) h = omega (arith, ints)
high (negsuc n) h = absurd (omega (arith, ints))

low : (z : ℤ) → z ≤ℤ negsuc (2 ^ 127) → 2 ^ 127 ≤ magnitude_of z
low (pos n) h = absurd (omega (arith, ints))
low (negsuc n) h = omega (arith, ints)

far_up : (z lo : ℤ) → FitsSigned w128 lo → lo ≤ℤ z → 2 ^ 127 ≤ magnitude_of z → pos (2 ^ 127) ≤ℤ z
far_up (pos n) lo f h b = omega (arith, ints)
far_up (negsuc n) (pos m) f h b = absurd (omega (arith, ints))
far_up (negsuc n) (negsuc m) f h b = let s = f.sfits in absurd (omega (arith, ints))

far_down : (z top : ℤ) → FitsSigned w128 top → z ≤ℤ top → 2 ^ 127 ≤ magnitude_of z → z ≤ℤ negsuc (2 ^ 127)
far_down (negsuc n) top f h b = omega (arith, ints)
far_down (pos n) (negsuc m) f h b = absurd (omega (arith, ints))
far_down (pos n) (pos m) f h b = let s = f.sfits in absurd (omega (arith, ints))

least : (z : ℤ) → FitsSigned w128 z → negsuc (2 ^ 127 - 1) ≤ℤ z
least (pos n) f = omega (arith, ints)
least (negsuc n) f = let s = f.sfits in omega (arith, ints)

most : (z : ℤ) → FitsSigned w128 z → z ≤ℤ pos (2 ^ 127 - 1)
most (pos n) f = let s = f.sfits in omega (arith, ints)
most (negsuc n) f = omega (arith, ints)

-- a number outside after some steps is outside after more
pub stays-outside : (from step : ℤ) (k p : ℕ) → FitsSigned w128 from → k ≤ p → None ≡ in_i128 (from +ℤ pos k *ℤ step) → None ≡ in_i128 (from +ℤ pos p *ℤ step)
stays-outside from (pos s) k p f le e =
    let m : k * s ≤ p * s = mul-le-mul_right s le in
    let u = far_up (from +ℤ pos (k * s)) from f (omega (arith, ints)) (in_i128-outside (from +ℤ pos (k * s)) e) in
    sym (in_i128-none (from +ℤ pos (p * s)) (high (from +ℤ pos (p * s)) (omega (arith, ints))))
stays-outside from (negsuc s) k p f le e =
    let m : k * suc s ≤ p * suc s = mul-le-mul_right (suc s) le in
    let u = far_down (from +ℤ pos k *ℤ negsuc s) from f (omega (arith, ints)) (in_i128-outside (from +ℤ pos k *ℤ negsuc s) e) in
    sym (in_i128-none (from +ℤ pos p *ℤ negsuc s) (low (from +ℤ pos p *ℤ negsuc s) (omega (arith, ints))))

-- where half of the way is no number, the whole way leads outside
pub half-outside : (from step : ℤ) (h p : ℕ) → FitsSigned w128 from → h + h ≤ p → None ≡ in_i128 (pos h *ℤ step) → None ≡ in_i128 (from +ℤ pos p *ℤ step)
half-outside from (pos s) h p f le e =
    let m : (h + h) * s ≤ p * s = mul-le-mul_right s le in
    let l = least from f in
    let b = in_i128-outside (pos (h * s)) e in
    sym (in_i128-none (from +ℤ pos (p * s)) (high (from +ℤ pos (p * s)) (omega (arith, ints))))
half-outside from (negsuc s) h p f le e =
    let m : (h + h) * suc s ≤ p * suc s = mul-le-mul_right (suc s) le in
    let l = most from f in
    let u = far_down (pos h *ℤ negsuc s) (pos 0) (record { sfits = omega arith }) (omega (arith, ints)) (in_i128-outside (pos h *ℤ negsuc s) e) in
    sym (in_i128-none (from +ℤ pos p *ℤ negsuc s) (low (from +ℤ pos p *ℤ negsuc s) (omega (arith, ints))))

-- what sums and products are of equal numbers
pub half_is : (step half first second : ℤ) (h : ℕ) → first ≡ pos h → second ≡ step → Some half ≡ in_i128 (first *ℤ second) → half ≡ pos h *ℤ step
half_is step half first second h p q e =
    in_i128-some (first *ℤ second) half e ∙ (ap (λ x. x *ℤ second) p ∙ ap (λ y. pos h *ℤ y) q)

pub half_none : (step first second : ℤ) (h : ℕ) → first ≡ pos h → second ≡ step → None ≡ in_i128 (first *ℤ second) → None ≡ in_i128 (pos h *ℤ step)
half_none step first second h p q e = e ∙ ap in_i128 (ap (λ x. x *ℤ second) p ∙ ap (λ y. pos h *ℤ y) q)

pub sum_same : (a b first second : ℤ) → first ≡ a → second ≡ b → first +ℤ second ≡ a +ℤ b
sum_same a b first second p q = ap (λ x. x +ℤ second) p ∙ ap (λ y. a +ℤ y) q

pub sum_is : (a b sum first second : ℤ) → first ≡ a → second ≡ b → Some sum ≡ in_i128 (first +ℤ second) → sum ≡ a +ℤ b
sum_is a b sum first second p q e = in_i128-some (first +ℤ second) sum e ∙ sum_same a b first second p q

pub sum_none : (a b first second : ℤ) → first ≡ a → second ≡ b → None ≡ in_i128 (first +ℤ second) → None ≡ in_i128 (a +ℤ b)
sum_none a b first second p q e = e ∙ ap in_i128 (sum_same a b first second p q)

-- the number of a turn, where it comes before the end
pub turn_is : (from to step n first last by after at : ℤ) (p : ℕ) → first ≡ from → last ≡ to → by ≡ step → after ≡ step → at ≡ n → Some n ≡ in_i128 (first +ℤ pos p *ℤ by) →
    number_before at last after ≡ number_before (from +ℤ pos p *ℤ step) to step
turn_is from to step n first last by after at p f t s u a e =
    let whole : n ≡ from +ℤ pos p *ℤ step =
    in_i128-some (first +ℤ pos p *ℤ by) n e ∙ (ap (λ x. x +ℤ pos p *ℤ by) f ∙ ap (λ y. from +ℤ pos p *ℤ y) s) in
    ap (λ x. number_before x last after) (a ∙ whole)
    ∙ (ap (λ y. number_before (from +ℤ pos p *ℤ step) y after) t ∙ ap (λ y. number_before (from +ℤ pos p *ℤ step) to y) u)
