-- Replacing bits of an integer of 128 signed bits leaves it one.
use Rattle.std.proofs.Common.{ℕ, ℤ, pos, negsuc, ◌+◌, ◌-◌, ◌*◌, ◌/◌, ◌%◌, ◌^◌, ◌<◌, ◌≤◌, ◌+ℤ◌, ◌-ℤ◌, ◌*ℤ◌, ◌≤ℤ◌, ◌≡◌, refl, sym, ap, subst, ◌∙◌, arith}
use Rattle.std.proofs.lemmas.Int.{ints}
use Rattle.std.proofs.lemmas.Nat.{mod_below, div-add-mod', pow_pos, pow-add}
use Rattle.std.proofs.Math.Nat.{mul-le-mul_right, mul_assoc, div-lt_iff_lt-mul}
use borrow.Author.Differences.{sum_is_lem, product_is}
use Rattle.std.specs.Int.{w128}
use Rattle.std.specs.Int.RustNames.{FitsSigned}
use Rattle.mh_codes.specs.Integers.{slice_of}
use Rattle.mh_codes.proofs.Powers.{wider}
use Rattle.mh_design.specs.Assignments.{replaced}

-- a quotient and a remainder stay below the product
below : (q r m d : ℕ) → q < m → r < d → q * d + r < m * d
below q r m d a b = let g = mul-le-mul_right d a in omega (arith, g)

-- A natural n is h * r * p + t * p + l, where t are its r-fold digit, h what stands above it, and l what stands below.
module _ (n p r k : ℕ) (some : 0 < p) (more : 0 < r) (small : n < k * (r * p)) where
  abbrev pub high : ℕ
  high = n / p / r

  abbrev pub part : ℕ
  part = n / p % r

  abbrev pub rest : ℕ
  rest = n % p

  pub digits : high * r * p + part * p + rest ≡ n
  digits = let e = div-add-mod' n p in let f = ap (λ x. x * p) (div-add-mod' (n / p) r) in omega (arith, e, f)

  quotient_below : n / p < k * r
  quotient_below = (div-lt_iff_lt-mul some).1 (subst (λ x. n < x) (sym (mul_assoc k r p)) small)

  high_below : high < k
  high_below = (div-lt_iff_lt-mul more).1 quotient_below

  pub part_below : part < r
  part_below = mod_below (n / p) r more

  pub put_below : (t : ℕ) → t < r → high * r * p + t * p + rest < k * (r * p)
  put_below t h =
      let a = below high t k r high_below h in
      let b = below (high * r + t) rest (k * r) p a (mod_below n p some) in
      subst (λ x. high * r * p + t * p + rest < x) (mul_assoc k r p) (omega (arith, b))

  -- the greatest digit times p
  pub full : (r - 1 - part) * p + part * p ≡ (r - 1) * p
  full = let b = part_below in let e : r - 1 - part + part ≡ r - 1 = omega (arith, b) in let f = ap (λ x. x * p) e in omega (arith, f)

-- Without these bits, an integer of 0 or more has those above and below, and a negative one also lacks them.
cleared_pos : (n h t l p : ℕ) → h * p + t * p + l ≡ n → pos n -ℤ pos (t * p) ≡ pos (h * p + l)
cleared_pos n h t l p e = omega (arith, ints, sum_is_lem, e)

cleared_neg : (n h t s m l p : ℕ) → h * p + t * p + l ≡ n → s * p + t * p ≡ m * p → negsuc n -ℤ pos (s * p) ≡ negsuc (h * p + m * p + l)
cleared_neg n h t s m l p e f = omega (arith, ints, sum_is_lem, e, f)

put_pos : (h l v p : ℕ) → pos (h * p + l) +ℤ (pos v *ℤ pos p) ≡ pos (h * p + v * p + l)
put_pos h l v p = omega (arith, ints, sum_is_lem, product_is)

put_neg : (h l m v p : ℕ) → v * p ≤ m * p → negsuc (h * p + m * p + l) +ℤ (pos v *ℤ pos p) ≡ negsuc (h * p + (m * p - v * p) + l)
put_neg h l m v p f = omega (arith, ints, sum_is_lem, product_is, f)

-- 2 ^ 127 by the places
powers : (i j : ℕ) → j < i → i ≤ 127 → 2 ^ (127 - i) * (2 ^ (i - j) * 2 ^ j) ≡ 2 ^ 127
powers i j a b =
    let e : 127 - i + (i - j + j) ≡ 127 = omega (arith, a, b) in
    ap (λ x. 2 ^ (127 - i) * x) (sym (pow-add 2 (i - j) j)) ∙ sym (pow-add 2 (127 - i) (i - j + j)) ∙ ap (λ n. 2 ^ n) e

module _ (i j : ℕ) (a : j < i) (b : i ≤ 127) where
  small : (n : ℕ) → n < 2 ^ 127 → n < 2 ^ (127 - i) * (2 ^ (i - j) * 2 ^ j)
  small n h = subst (λ x. n < x) (sym (powers i j a b)) h

  within : (n m : ℕ) (h : n < 2 ^ 127) → m < 2 ^ (127 - i) * (2 ^ (i - j) * 2 ^ j) → m < 2 ^ 127
  within n m h g = subst (λ x. m < x) (powers i j a b) g

  -- an integer without these bits
  pub cleared_fits : (z : ℤ) → FitsSigned w128 z → FitsSigned w128 (z -ℤ pos (slice_of i j z * 2 ^ j))
  cleared_fits (pos n) f =
      let p = pow_pos j in
      let r = pow_pos (i - j) in
      let s = small n f.sfits in
      let d = digits n (2 ^ j) (2 ^ (i - j)) (2 ^ (127 - i)) p r s in
      let u = put_below n (2 ^ j) (2 ^ (i - j)) (2 ^ (127 - i)) p r s 0 r in
      subst (FitsSigned w128) (sym (cleared_pos n (n / 2 ^ j / 2 ^ (i - j) * 2 ^ (i - j)) (n / 2 ^ j % 2 ^ (i - j)) (n % 2 ^ j) (2 ^ j) d)) (record { sfits = within n _ f.sfits (omega (arith, u)) })
  cleared_fits (negsuc n) f =
      let p = pow_pos j in
      let r = pow_pos (i - j) in
      let s = small n f.sfits in
      let d = digits n (2 ^ j) (2 ^ (i - j)) (2 ^ (127 - i)) p r s in
      let g = full n (2 ^ j) (2 ^ (i - j)) (2 ^ (127 - i)) p r s in
      let u = put_below n (2 ^ j) (2 ^ (i - j)) (2 ^ (127 - i)) p r s (2 ^ (i - j) - 1) (omega (arith, r)) in
      subst (FitsSigned w128) (sym (cleared_neg n (n / 2 ^ j / 2 ^ (i - j) * 2 ^ (i - j)) (n / 2 ^ j % 2 ^ (i - j)) (2 ^ (i - j) - 1 - n / 2 ^ j % 2 ^ (i - j)) (2 ^ (i - j) - 1) (n % 2 ^ j) (2 ^ j) d g)) (record { sfits = within n _ f.sfits u })

  -- a part, moved to its place
  pub moved_fits : (t : ℕ) → t < 2 ^ (i - j) → FitsSigned w128 (pos t *ℤ pos (2 ^ j))
  moved_fits t h =
      let u = below t 0 (2 ^ (i - j)) (2 ^ j) h (pow_pos j) in
      let e : i - j + j ≡ i = omega (arith, a) in
      let f : 2 ^ (i - j) * 2 ^ j ≡ 2 ^ i = sym (pow-add 2 (i - j) j) ∙ ap (λ n. 2 ^ n) e in
      let w = wider i 127 b in
      record { sfits = omega (arith, u, f, w) }

  -- and an integer with other bits there
  put_fits : (z : ℤ) (t : ℕ) → FitsSigned w128 z → t < 2 ^ (i - j) → FitsSigned w128 (replaced i j z (pos t))
  put_fits (pos n) t f h =
      let p = pow_pos j in
      let r = pow_pos (i - j) in
      let s = small n f.sfits in
      let d = digits n (2 ^ j) (2 ^ (i - j)) (2 ^ (127 - i)) p r s in
      let u = put_below n (2 ^ j) (2 ^ (i - j)) (2 ^ (127 - i)) p r s t h in
      let q = n / 2 ^ j / 2 ^ (i - j) * 2 ^ (i - j) in
      subst (FitsSigned w128) (sym (ap (λ x. x +ℤ (pos t *ℤ pos (2 ^ j))) (cleared_pos n q (n / 2 ^ j % 2 ^ (i - j)) (n % 2 ^ j) (2 ^ j) d) ∙ put_pos q (n % 2 ^ j) t (2 ^ j))) (record { sfits = within n _ f.sfits u })
  put_fits (negsuc n) t f h =
      let p = pow_pos j in
      let r = pow_pos (i - j) in
      let s = small n f.sfits in
      let d = digits n (2 ^ j) (2 ^ (i - j)) (2 ^ (127 - i)) p r s in
      let g = full n (2 ^ j) (2 ^ (i - j)) (2 ^ (127 - i)) p r s in
      let u = put_below n (2 ^ j) (2 ^ (i - j)) (2 ^ (127 - i)) p r s (2 ^ (i - j) - 1) (omega (arith, r)) in
      let l : t ≤ 2 ^ (i - j) - 1 = omega (arith, h) in
      let k = mul-le-mul_right (2 ^ j) l in
      let q = n / 2 ^ j / 2 ^ (i - j) * 2 ^ (i - j) in
      subst (FitsSigned w128) (sym (ap (λ x. x +ℤ (pos t *ℤ pos (2 ^ j))) (cleared_neg n q (n / 2 ^ j % 2 ^ (i - j)) (2 ^ (i - j) - 1 - n / 2 ^ j % 2 ^ (i - j)) (2 ^ (i - j) - 1) (n % 2 ^ j) (2 ^ j) d g) ∙ put_neg q (n % 2 ^ j) (2 ^ (i - j) - 1) t (2 ^ j) k)) (record { sfits = within n _ f.sfits (omega (arith, u, k)) })

  -- a value that fits the part
  as_part : (v : ℤ) → pos 0 ≤ℤ v → v ≤ℤ pos (2 ^ (i - j) - 1) → (t : ℕ) × (v ≡ pos t) × (t < 2 ^ (i - j))
  as_part (pos t) x y = let r = pow_pos (i - j) in (t, refl, omega (arith, ints, x, y, r))
  as_part (negsuc t) x y = absurd (omega (arith, ints, x))

  pub replaced_fits : (z v : ℤ) → FitsSigned w128 z → pos 0 ≤ℤ v → v ≤ℤ pos (2 ^ (i - j) - 1) → FitsSigned w128 (replaced i j z v)
  replaced_fits z v f x y =
      let t = as_part v x y in subst (λ u. FitsSigned w128 (replaced i j z u)) (sym t.1) (put_fits z t.0 f t.2)

  pub value_fits : (v : ℤ) → pos 0 ≤ℤ v → v ≤ℤ pos (2 ^ (i - j) - 1) → FitsSigned w128 (v *ℤ pos (2 ^ j))
  value_fits v x y =
      let t = as_part v x y in subst (λ u. FitsSigned w128 (u *ℤ pos (2 ^ j))) (sym t.1) (moved_fits t.0 t.2)
