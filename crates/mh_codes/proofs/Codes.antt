-- Codes respect sums, differences and products; what fits a kind is read back from its code.
use Rattle.std.proofs.Common.{ℕ, suc, ℤ, pos, negsuc, ◌+◌, ◌-◌, ◌*◌, ◌/◌, ◌%◌, ◌^◌, ◌<◌, ◌≤◌, ◌+ℤ◌, ◌-ℤ◌, ◌*ℤ◌, ◌≡◌, refl, sym, ap, ◌∙◌, unsigned_abs, arith}
use Rattle.std.proofs.lemmas.Int.{ints, int_rem_euclid_is}
use Rattle.std.proofs.lemmas.Nat.{pow_pos, shr_split, mod_below, pow-add, field_of, div_below, div-add-mod'}
use lib.Arith.{digits_div}
use Rattle.mh_codes.specs.Integers.{floor_div}
use Rattle.std.proofs.Math.Nat.{mul-le-mul_left}
use borrow.Author.Differences.{up, down, sum_is_lem, neg_is, product_is}
use Rattle.mh_codes.specs.Codes.{code}

-- z plus k times 2 ^ w is the natural m
pub code_is : (w : ℕ) (z : ℤ) (k m : ℕ) → z +ℤ pos (k * 2 ^ w) ≡ pos m → code w z ≡ m % 2 ^ w
code_is w (pos n) k m e = ap unsigned_abs (int_rem_euclid_is (pos n) (pos (2 ^ w)) (2 ^ w) k m (pow_pos w) refl e)
code_is w (negsuc n) k m e = ap unsigned_abs (int_rem_euclid_is (negsuc n) (pos (2 ^ w)) (2 ^ w) k m (pow_pos w) refl e)

-- two integers that differ by a multiple of 2 ^ w have one code
pub code_same : (w : ℕ) (a b : ℤ) (j k : ℕ) → up a + j * 2 ^ w + down b ≡ up b + k * 2 ^ w + down a → code w a ≡ code w b
code_same w a b j k e =
    let m = 2 ^ w in
    let some = pow_pos w in
    let t = down a + down b in
    let far : t * 1 ≤ t * m = mul-le-mul_left t some in
    let n = up a + (j + t) * m - down a in
    let from : (z : ℤ) (i : ℕ) → z +ℤ pos ((i + t) * m) ≡ pos n → code w z ≡ n % m = λ z i h. code_is w z (i + t) n h in
    from a j (omega (arith, ints)) ∙ sym (from b k (omega (arith, ints)))

-- an integer is its code and a multiple of 2 ^ w
pub code_read : (w : ℕ) (z : ℤ) → (j : ℕ) × (k : ℕ) × (up z + j * 2 ^ w ≡ code w z + k * 2 ^ w + down z)
code_read w (pos n) = (0, n / 2 ^ w, let e = shr_split n w in omega arith)
code_read w (negsuc n) = (suc (n / 2 ^ w), 0, let e = shr_split n w in let h = mod_below n (2 ^ w) (pow_pos w) in let p = pow_pos w in omega arith)

-- a code has no more than its bits
pub code_below : (w : ℕ) (z : ℤ) → code w z < 2 ^ w
code_below w (pos n) = mod_below n (2 ^ w) (pow_pos w)
code_below w (negsuc n) = let p = pow_pos w in omega arith

-- the code of a sum, a difference and a product
pub code-add : (w : ℕ) (a b : ℤ) → code w (a +ℤ b) ≡ (code w a + code w b) % 2 ^ w
code-add w a b =
    let r = code_read w a in
    let s = code_read w b in
    code_same w (a +ℤ b) (pos (code w a + code w b)) (r.0 + s.0) (r.1 + s.1) (omega (arith, sum_is_lem, r.2, s.2))

pub code-sub : (w : ℕ) (a b : ℤ) → code w (a -ℤ b) ≡ (code w a + (2 ^ w - code w b)) % 2 ^ w
code-sub w a b =
    let r = code_read w a in
    let s = code_read w b in
    let h = code_below w b in
    code_same w (a -ℤ b) (pos (code w a + (2 ^ w - code w b))) (r.0 + s.1 + 1) (r.1 + s.0) (omega (arith, sum_is_lem, neg_is, r.2, s.2))

pub code-mul : (w : ℕ) (a b : ℤ) → code w (a *ℤ b) ≡ (code w a * code w b) % 2 ^ w
code-mul w a b =
    let r = code_read w a in
    let s = code_read w b in
    let n = code w a in
    let e : up a + r.0 * 2 ^ w ≡ n + r.1 * 2 ^ w + down a = r.2 in
    let f : up b + s.0 * 2 ^ w ≡ code w b + s.1 * 2 ^ w + down b = s.2 in
    let e1 = ap (λ x. x * up b) e in
    let e2 = ap (λ x. x * down b) e in
    let f1 = ap (λ x. n * x) f in
    code_same w (a *ℤ b) (pos (n * code w b)) (r.0 * up b + r.1 * down b + n * s.0) (r.1 * up b + r.0 * down b + n * s.1) (omega (arith, product_is))

-- fewer bits
pub code_cut : (w v : ℕ) (z : ℤ) → v ≤ w → code w z % 2 ^ v ≡ code v z
code_cut w v z l =
    let r = code_read w z in
    let p = pow-add 2 (w - v) v in
    let e : 2 ^ w ≡ 2 ^ (w - v + v) = ap (λ k. 2 ^ k) (omega arith) in
    let m : 2 ^ w ≡ 2 ^ (w - v) * 2 ^ v = e ∙ p in
    let j = ap (λ k. r.0 * k) m in
    let k = ap (λ k. r.1 * k) m in
    sym (code_same v z (pos (code w z)) (r.0 * 2 ^ (w - v)) (r.1 * 2 ^ (w - v)) (omega (arith, r.2)))

-- the higher part of a number whose bits are inverted
complement_div : (p q r : ℕ) → 0 < q → r < p * q → (p * q - 1 - r) / q ≡ p - 1 - r / q
complement_div p q r some h =
    let e = div-add-mod' r q in
    let l = mod_below r q some in
    let less : r / q < p = div_below r q p some h in
    let t = p - 1 - r / q in
    let s : p ≡ t + r / q + 1 = omega arith in
    let m = ap (λ k. k * q) s in
    let is : p * q - 1 - r ≡ t * q + (q - 1 - r % q) = omega arith in
    ap (λ k. k / q) is ∙ digits_div t (omega arith)

-- higher bits
pub code_shr : (w j : ℕ) (z : ℤ) → j ≤ w → code w z / 2 ^ j ≡ code (w - j) (floor_div z (2 ^ j))
code_shr w j (pos n) l =
    let e : w ≡ w - j + j = omega arith in
    ap (λ k. n % 2 ^ k / 2 ^ j) e ∙ field_of n (w - j) j
code_shr w j (negsuc n) l =
    let e : w ≡ w - j + j = omega arith in
    let p = pow-add 2 (w - j) j in
    let m : 2 ^ w ≡ 2 ^ (w - j) * 2 ^ j = ap (λ k. 2 ^ k) e ∙ p in
    let b : n % 2 ^ w < 2 ^ (w - j) * 2 ^ j = let c = mod_below n (2 ^ w) (pow_pos w) in omega arith in
    ap (λ k. (k - 1 - n % 2 ^ w) / 2 ^ j) m ∙ complement_div (2 ^ (w - j)) (2 ^ j) (n % 2 ^ w) (pow_pos j) b ∙ ap (λ k. 2 ^ (w - j) - 1 - k) (ap (λ k. n % 2 ^ k / 2 ^ j) e ∙ field_of n (w - j) j)

-- the bits from j up to i
pub code_part : (w i j : ℕ) (z : ℤ) → j ≤ i → i ≤ w → code w z / 2 ^ j % 2 ^ (i - j) ≡ code (i - j) (floor_div z (2 ^ j))
code_part w i j z l m = let l2 : j ≤ w = omega arith in ap (λ k. k % 2 ^ (i - j)) (code_shr w j z l2) ∙ code_cut (w - j) (i - j) (floor_div z (2 ^ j)) (omega arith)
