-- What fits a width and sign, and reading codes back.
use Rattle.std.proofs.Common.{ℕ, ℤ, pos, negsuc, ◌+◌, ◌-◌, ◌%◌, ◌^◌, ◌<◌, ◌≤◌, ◌-ℤ◌, ◌≤ℤ◌, ◌≡◌, refl, sym, ap, ◌∙◌, subst, Bool, true, false, cond, ltb, arith}
use Rattle.std.proofs.lemmas.Int.{ints}
use Rattle.std.proofs.lemmas.Bool.Decides.{nat_tests}
use Rattle.std.proofs.lemmas.Bool.{cond_both}
use Rattle.std.proofs.lemmas.Nat.{pow_pos, pow-add, shr_le}
use Rattle.std.proofs.Math.Nat.{mod-eq_of_lt, pow-le-pow_right}
use Rattle.mh_codes.specs.Integers.{floor_div}
use Rattle.mh_codes.proofs.Powers.{two}
use Rattle.mh_codes.specs.Codes.{code, number, Fits, Holds}

-- a code is a remainder, and remainders below 2 ^ w stay
pub code_small : (w n : ℕ) → n < 2 ^ w → n % 2 ^ w ≡ n
code_small w n h = mod-eq_of_lt h

-- what fits a kind is the number of its code
pub number-code : (s : Bool) (w : ℕ) (z : ℤ) → Fits s w z → number s w (code w z) ≡ z
number-code false w (pos n) h = ap pos (mod-eq_of_lt h)
number-code false w (negsuc n) h = absurd h
number-code true w (pos n) h =
    let e : n % 2 ^ w ≡ n = mod-eq_of_lt (omega arith) in
    ap (number true w) e ∙ yes (ltb (n + n) (2 ^ w)) (grind (arith, nat_tests))
  where
    yes : (t : Bool) → t ≡ true → cond t (pos n) (negsuc (2 ^ w - 1 - n)) ≡ pos n
    yes t e = ap (λ t. cond t (pos n) (negsuc (2 ^ w - 1 - n))) e
number-code true w (negsuc n) h =
    let e : n % 2 ^ w ≡ n = mod-eq_of_lt (omega arith) in
    let m = 2 ^ w - 1 - n in
    ap (λ r. number true w (2 ^ w - 1 - r)) e ∙ no (ltb (m + m) (2 ^ w)) (grind (arith, nat_tests)) ∙ ap negsuc (omega arith)
  where
    no : (t : Bool) → t ≡ false → cond t (pos (2 ^ w - 1 - n)) (negsuc (2 ^ w - 1 - (2 ^ w - 1 - n))) ≡ negsuc (2 ^ w - 1 - (2 ^ w - 1 - n))
    no t e = ap (λ t. cond t (pos (2 ^ w - 1 - n)) (negsuc (2 ^ w - 1 - (2 ^ w - 1 - n)))) e

-- bits of a kind are the code of their number
pub code-number : (s : Bool) (w n : ℕ) → n < 2 ^ w → code w (number s w n) ≡ n
code-number false w n h = mod-eq_of_lt h
code-number true w n h = by (ltb (n + n) (2 ^ w))
  where
    by : (t : Bool) → code w (cond t (pos n) (negsuc (2 ^ w - 1 - n))) ≡ n
    by true = mod-eq_of_lt h
    by false = let e : (2 ^ w - 1 - n) % 2 ^ w ≡ 2 ^ w - 1 - n = mod-eq_of_lt (omega arith) in omega arith

-- the code 0 is the number 0
pub number-zero : (s : Bool) (w : ℕ) → number s w 0 ≡ pos 0
number-zero false w = refl
number-zero true w = yes (ltb (0 + 0) (2 ^ w)) (let p = pow_pos w in grind (arith, nat_tests))
  where
    yes : (t : Bool) → t ≡ true → cond t (pos 0) (negsuc (2 ^ w - 1 - 0)) ≡ pos 0
    yes t e = ap (λ t. cond t (pos 0) (negsuc (2 ^ w - 1 - 0))) e

-- a wider kind of the same sign holds the same numbers, and a signed one with a bit more too
pub fits_wider : (s : Bool) (w v : ℕ) (z : ℤ) → w ≤ v → Fits s w z → Fits s v z
fits_wider false w v (pos n) l h = let p = pow-le-pow_right two l in omega arith
fits_wider false w v (negsuc n) l h = h
fits_wider true w v (pos n) l h = let p = pow-le-pow_right two l in omega arith
fits_wider true w v (negsuc n) l h = let p = pow-le-pow_right two l in omega arith

-- an unsigned number fits a signed width with one bit more
pub fits_signed : (w v : ℕ) (z : ℤ) → w < v → Fits false w z → Fits true v z
fits_signed w v (pos n) l h = let l2 : w + 1 ≤ v = omega arith in let p = pow-le-pow_right two l2 in let q = pow-add 2 w 1 in omega arith
fits_signed w v (negsuc n) l h = absurd h

-- an unsigned number is its own code
pub code_unsigned : (w v : ℕ) (z : ℤ) → w ≤ v → Fits false w z → code v z ≡ code w z
code_unsigned w v (pos n) l h = let p = pow-le-pow_right two l in mod-eq_of_lt (omega arith) ∙ sym (mod-eq_of_lt h)
code_unsigned w v (negsuc n) l h = absurd h

-- what fits, said by the ends
pub fits_unsigned_from : (w : ℕ) (z : ℤ) → pos 0 ≤ℤ z → z ≤ℤ pos (2 ^ w - 1) → Fits false w z
fits_unsigned_from w (pos n) a b = let p = pow_pos w in omega (arith, ints)
fits_unsigned_from w (negsuc n) a b = absurd (omega (arith, ints))

-- and those ends hold of what fits
pub fits_unsigned_low : (w : ℕ) (z : ℤ) → Fits false w z → pos 0 ≤ℤ z
fits_unsigned_low w (pos n) f = omega (arith, ints)
fits_unsigned_low w (negsuc n) f = absurd f

pub fits_unsigned_high : (w : ℕ) (z : ℤ) → Fits false w z → z ≤ℤ pos (2 ^ w - 1)
fits_unsigned_high w (pos n) f = omega (arith, ints)
fits_unsigned_high w (negsuc n) f = absurd f

doubled : (v : ℕ) → 2 ^ (v + 1) ≡ 2 ^ v + 2 ^ v
doubled v = let p = pow-add 2 v 1 in omega arith

-- the same for signed widths
pub fits_signed_from : (w : ℕ) (z : ℤ) → negsuc (2 ^ w - 1) ≤ℤ z → z ≤ℤ pos (2 ^ w - 1) → Fits true (w + 1) z
fits_signed_from w (pos n) a b = let p = pow_pos w in let t = doubled w in omega (arith, ints)
fits_signed_from w (negsuc n) a b = let p = pow_pos w in let t = doubled w in omega (arith, ints)

-- and those ends hold of what fits
pub fits_signed_low : (w : ℕ) (z : ℤ) → Fits true (w + 1) z → negsuc (2 ^ w - 1) ≤ℤ z
fits_signed_low w (pos n) f = omega (arith, ints)
fits_signed_low w (negsuc n) f = let t = doubled w in omega (arith, ints)

pub fits_signed_high : (w : ℕ) (z : ℤ) → Fits true (w + 1) z → z ≤ℤ pos (2 ^ w - 1)
fits_signed_high w (pos n) f = let t = doubled w in omega (arith, ints)
fits_signed_high w (negsuc n) f = omega (arith, ints)

-- a signed number fits
number_fits : (w n : ℕ) → n < 2 ^ w → Fits true w (number true w n)
number_fits w n h = cond_both (ltb (n + n) (2 ^ w)) (pos n) (negsuc (2 ^ w - 1 - n)) (Fits true w) (λ e. grind (arith, nat_tests)) (λ e. grind (arith, nat_tests))

-- each number of a width and sign fits them
pub fits-number : (s : Bool) (w n : ℕ) → n < 2 ^ w → Fits s w (number s w n)
fits-number false w n h = h
fits-number true w n h = number_fits w n h

-- a sign and width that holds another holds its numbers
pub fits_held : (s : Bool) (w : ℕ) (t : Bool) (v : ℕ) (z : ℤ) → Holds s w t v → Fits s w z → Fits t v z
fits_held false w false v z h f = fits_wider false w v z h f
fits_held false w true v z h f = fits_signed w v z h f
fits_held true w true v z h f = fits_wider true w v z h f
fits_held true w false v z h f = absurd h

-- the lesser of two naturals fits where the greater does
pub fits_less : (s : Bool) (w m n : ℕ) → n ≤ m → Fits s w (pos m) → Fits s w (pos n)
fits_less false w m n l f = omega arith
fits_less true w m n l f = omega arith

-- a shift right keeps the width
pub fits-floor_div : (s : Bool) (w : ℕ) (z : ℤ) (n : ℕ) → Fits s w z → Fits s w (floor_div z (2 ^ n))
fits-floor_div false w (pos k) n f = let l = shr_le k n in omega arith
fits-floor_div false w (negsuc k) n f = absurd f
fits-floor_div true w (pos k) n f = let l = shr_le k n in omega arith
fits-floor_div true w (negsuc k) n f = let l = shr_le k n in omega arith

-- and so does turning over each of w bits
pub fits_inverse : (w : ℕ) (z : ℤ) → Fits false w z → Fits false w (pos (2 ^ w - 1) -ℤ z)
fits_inverse w (pos n) f = let e : pos (2 ^ w - 1 - n) ≡ pos (2 ^ w - 1) -ℤ pos n = omega (arith, ints) in subst (Fits false w) e (omega arith)
fits_inverse w (negsuc n) f = absurd f
