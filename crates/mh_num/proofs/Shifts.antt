-- Shifts to the left in two steps.
use Rattle.std.proofs.Common.{ℕ, suc, ℤ, pos, negsuc, ◌+◌, ◌-◌, ◌*◌, ◌/◌, ◌^◌, ◌<◌, ◌≤◌, ◌*ℤ◌, ◌≡◌, sym, ap, ◌∙◌, ltb, Some, None, arith}
use Rattle.std.proofs.lemmas.Int.{ints, to_z-of_z}
use Rattle.std.proofs.lemmas.Bool.{cond_both}
use Rattle.std.proofs.lemmas.Bool.Decides.{nat_tests}
use Rattle.std.proofs.lemmas.Nat.{pow_pos, pow-add}
use Rattle.std.proofs.Math.Nat.{mul-le-mul_left, mul_assoc}
use borrow.Author.Differences.{product_is}
use Rattle.mh_codes.specs.Widths.{magnitude_of}
use Rattle.std.specs.Int.{w128, cast_unsigned, cast_signed}
use Rattle.std.specs.Int.RustNames.{FitsSigned}
use Rattle.std.specs.Option.{option_and_then}
use Rattle.mh_num.specs.Results.{in_i128, amount_of, left_shift_of}
use Rattle.mh_num.proofs.ResultLaws.{in_i128-some, in_i128-none, in_i128-outside}

-- a product of a negative integer
negative : (n m : ℕ) → 0 < m → negsuc n *ℤ pos m ≡ negsuc (suc n * m - 1)
negative n m some = omega (arith, ints, product_is)

-- what is outside stays outside when it is doubled
times_outside : (z : ℤ) (m : ℕ) → 0 < m → 2 ^ 127 ≤ magnitude_of z → 2 ^ 127 ≤ magnitude_of (z *ℤ pos m)
times_outside (pos n) m some h = let l : 1 ≤ m = some in let g = mul-le-mul_left n l in omega (arith, g)
times_outside (negsuc n) m some h =
    let l : 1 ≤ m = some in
    let g = mul-le-mul_left (suc n) l in
    let f = ap magnitude_of (negative n m some) in
    omega (arith, g, f)

-- two powers of 2 in turn
times-times : (a : ℤ) (i j : ℕ) → (a *ℤ pos (2 ^ i)) *ℤ pos (2 ^ j) ≡ a *ℤ pos (2 ^ (i + j))
times-times (pos n) i j = ap pos (mul_assoc n (2 ^ i) (2 ^ j) ∙ ap (λ k. n * k) (sym (pow-add 2 i j)))
times-times (negsuc n) i j =
    let p = pow_pos i in
    let q = pow_pos j in
    let s = pow_pos (i + j) in
    let e = mul_assoc (suc n) (2 ^ i) (2 ^ j) ∙ ap (λ k. suc n * k) (sym (pow-add 2 i j)) in
    ap (λ z. z *ℤ pos (2 ^ j)) (negative n (2 ^ i) p) ∙ negative (suc n * 2 ^ i - 1) (2 ^ j) q ∙ ap negsuc (less (suc n * 2 ^ i) (2 ^ j) (suc n * 2 ^ (i + j)) (positive n (2 ^ i) p) e) ∙ sym (negative n (2 ^ (i + j)) s)
  where
    positive : (n m : ℕ) → 0 < m → 0 < suc n * m
    positive n m h = omega arith

    less : (x y z : ℕ) → 0 < x → x * y ≡ z → suc (x - 1) * y - 1 ≡ z - 1
    less x y z h e = ap (λ k. k * y - 1) (one_less x h) ∙ ap (λ k. k - 1) e
      where
        one_less : (x : ℕ) → 0 < x → suc (x - 1) ≡ x
        one_less x h = omega arith

-- an amount is below 128
amount_below : (b : ℤ) (k : ℕ) → Some k ≡ amount_of b → k < 128
amount_below (pos n) k = cond_both (ltb n 128) (Some n) None (λ o. Some k ≡ o → k < 128) (λ t e. let f : k ≡ n = cc in grind (arith, nat_tests)) (λ _ e. absurd cc)
amount_below (negsuc n) k = λ e. absurd cc

module _ (a b p : ℤ) (k : ℕ) (f : FitsSigned w128 a) (g : FitsSigned w128 p) (e : Some k ≡ amount_of b) (h : p ≡ pos (2 ^ (k / 2))) where
  halves : k / 2 + (k - k / 2) ≡ k
  halves = omega arith

  shifted : left_shift_of a b ≡ in_i128 ((a *ℤ pos (2 ^ (k / 2))) *ℤ pos (2 ^ (k - k / 2)))
  shifted = ap (option_and_then (λ k. in_i128 (a *ℤ pos (2 ^ k)))) (sym e) ∙ ap in_i128 (ap (λ n. a *ℤ pos (2 ^ n)) (sym halves) ∙ sym (times-times a (k / 2) (k - k / 2)))

  first : cast_signed w128 (cast_unsigned w128 a) *ℤ cast_signed w128 (cast_unsigned w128 p) ≡ a *ℤ pos (2 ^ (k / 2))
  first = ap (λ x. x *ℤ cast_signed w128 (cast_unsigned w128 p)) (to_z-of_z w128 a f) ∙ ap (λ x. a *ℤ x) (to_z-of_z w128 p g ∙ h)

  -- the first step leaves i128: so does the whole
  pub left_shift-none : None ≡ in_i128 (cast_signed w128 (cast_unsigned w128 a) *ℤ cast_signed w128 (cast_unsigned w128 p)) → None ≡ left_shift_of a b
  left_shift-none n =
      let o = in_i128-outside (a *ℤ pos (2 ^ (k / 2))) (n ∙ ap in_i128 first) in
      sym (shifted ∙ in_i128-none ((a *ℤ pos (2 ^ (k / 2))) *ℤ pos (2 ^ (k - k / 2))) (times_outside (a *ℤ pos (2 ^ (k / 2))) (2 ^ (k - k / 2)) (pow_pos (k - k / 2)) o))

  -- and else the second step gives it
  pub left_shift-some : (r q : ℤ) → FitsSigned w128 r → FitsSigned w128 q → Some r ≡ in_i128 (cast_signed w128 (cast_unsigned w128 a) *ℤ cast_signed w128 (cast_unsigned w128 p)) → q ≡ pos (2 ^ (k - k / 2)) → in_i128 (cast_signed w128 (cast_unsigned w128 r) *ℤ cast_signed w128 (cast_unsigned w128 q)) ≡ left_shift_of a b
  left_shift-some r q u v n i =
      let s : r ≡ a *ℤ pos (2 ^ (k / 2)) = in_i128-some (a *ℤ pos (2 ^ (k / 2))) r (n ∙ ap in_i128 first) in
      ap in_i128 (ap (λ x. x *ℤ cast_signed w128 (cast_unsigned w128 q)) (to_z-of_z w128 r u ∙ s) ∙ ap (λ x. (a *ℤ pos (2 ^ (k / 2))) *ℤ x) (to_z-of_z w128 q v ∙ i)) ∙ sym shifted
