-- The width of a range is the least.
use Rattle.std.proofs.Common.{ℕ, zero, suc, ℤ, pos, negsuc, ◌+◌, ◌/◌, ◌^◌, ◌<◌, ◌≤◌, ◌≤ℤ◌, ◌≡◌, ap, max, arith}
use Rattle.std.proofs.lemmas.Int.{ints}
use Rattle.std.proofs.lemmas.Nat.{pow-add}
use Rattle.std.proofs.Math.Nat.{pow-le-pow_right}
use Rattle.mh_codes.proofs.Powers.{two, twice}
use Rattle.mh_codes.specs.Codes.{Fits, code, number}
use Rattle.mh_codes.proofs.Numbers.{number-code}
use Rattle.mh_codes.specs.Widths.{bits_within, bit_length, is_signed, width_of, IsWidth}

-- a number is below the power of its length
bits_within_hold : (f n : ℕ) → n ≤ f → n < 2 ^ bits_within f n
bits_within_hold zero n h = omega arith
bits_within_hold (suc f) zero h = omega arith
bits_within_hold (suc f) (suc n) h =
    let i = bits_within_hold f (suc n / 2) (omega arith) in
    let p = pow-add 2 (bits_within f (suc n / 2)) 1 in
    let e : 2 ^ suc (bits_within f (suc n / 2)) ≡ 2 ^ (bits_within f (suc n / 2) + 1) = ap (λ x. 2 ^ x) (omega arith) in
    omega arith

-- the same without a bound
pub bit_length_holds : (n : ℕ) → n < 2 ^ bit_length n
bit_length_holds n = bits_within_hold n n (omega arith)

-- what a width holds needs no more bits
bits_within_least : (f n v : ℕ) → n < 2 ^ v → bits_within f n ≤ v
bits_within_least zero n v h = omega arith
bits_within_least (suc f) zero v h = omega arith
bits_within_least (suc f) (suc n) zero h = absurd (omega arith)
bits_within_least (suc f) (suc n) (suc v) h = let t = twice v in let i = bits_within_least f (suc n / 2) v (omega arith) in omega arith

-- the same without a bound
pub bit_length_least : (n v : ℕ) → n < 2 ^ v → bit_length n ≤ v
bit_length_least n v h = bits_within_least n n v h

-- from its length on each width holds a number
pub below_from : (n v : ℕ) → bit_length n ≤ v → n < 2 ^ v
below_from n v h = let a = bit_length_holds n in let p = pow-le-pow_right two h in omega arith

module _ (n m : ℕ) where
  positive : n ≤ m → IsWidth (pos n) (pos m) (max 1 (bit_length m))
  positive l =
      let w = max 1 (bit_length m) in
      let t = below_from m w (omega arith) in
      record { some = omega arith; low_fits = omega arith; top_fits = t; least = λ v o p q. let s = bit_length_least m v q in omega arith }

  -- the largest of the numbers that stand for the ends, and what holds its double
  halves : (v : ℕ) → max (bit_length n) (bit_length m) ≤ v → (n + n + 1 < 2 ^ suc v) × (m + m + 1 < 2 ^ suc v)
  halves v l = let t = twice v in let p = below_from n v (omega arith) in let q = below_from m v (omega arith) in (omega arith, omega arith)

  doubles : (v : ℕ) → 1 ≤ v → n + n < 2 ^ v → m + m < 2 ^ v → suc (max (bit_length n) (bit_length m)) ≤ v
  doubles zero o p q = absurd (omega arith)
  doubles (suc v) o p q = let t = twice v in let a = bit_length_least n v (omega arith) in let b = bit_length_least m v (omega arith) in omega arith

-- the width of a range is the least
pub width_of_is : (lo top : ℤ) → lo ≤ℤ top → IsWidth lo top (width_of lo top)
width_of_is (pos n) (pos m) l = positive n m (omega (arith, ints))
width_of_is (pos n) (negsuc m) l = absurd (omega (arith, ints))
width_of_is (negsuc n) (pos m) l =
    let h = halves n m (max (bit_length n) (bit_length m)) (omega arith) in
    record { some = omega arith; low_fits = h.0; top_fits = omega (arith, h.1); least = λ v o p q. doubles n m v o (omega arith) (omega arith) }
width_of_is (negsuc n) (negsuc m) l =
    let h = halves n m (max (bit_length n) (bit_length m)) (omega arith) in
    record { some = omega arith; low_fits = h.0; top_fits = h.1; least = λ v o p q. doubles n m v o (omega arith) (omega arith) }

-- no range has two widths
pub same_width : (lo top : ℤ) (w v : ℕ) → IsWidth lo top w → IsWidth lo top v → w ≡ v
same_width lo top w v a b = let p = a.least v b.some b.low_fits b.top_fits in let q = b.least w a.some a.low_fits a.top_fits in omega arith

-- a range whose ends fit a width is that wide at most
pub width_at_most : (lo top : ℤ) (v : ℕ) → lo ≤ℤ top → 1 ≤ v → Fits (is_signed lo) v lo → Fits (is_signed lo) v top → width_of lo top ≤ v
width_at_most lo top v l o p q = (width_of_is lo top l).least v o p q

-- each integer of a range fits the width of the range
pub fits-width_of : (lo top z : ℤ) → lo ≤ℤ z → z ≤ℤ top → Fits (is_signed lo) (width_of lo top) z
fits-width_of lo top z a b = let w = width_of_is lo top (omega (arith, ints)) in between lo top z (width_of lo top) a b w.low_fits w.top_fits
  where
    between : (lo top z : ℤ) (w : ℕ) → lo ≤ℤ z → z ≤ℤ top → Fits (is_signed lo) w lo → Fits (is_signed lo) w top → Fits (is_signed lo) w z
    between (pos n) (pos m) (pos k) w a b f g = omega (arith, ints)
    between (pos n) (negsuc m) (pos k) w a b f g = absurd g
    between (pos n) top (negsuc k) w a b f g = absurd (omega (arith, ints))
    between (negsuc n) (pos m) (pos k) w a b f g = omega (arith, ints)
    between (negsuc n) (negsuc m) (pos k) w a b f g = absurd (omega (arith, ints))
    between (negsuc n) top (negsuc k) w a b f g = omega (arith, ints)

-- and is read back from its code at that width
pub number-width_of : (lo top z : ℤ) → lo ≤ℤ z → z ≤ℤ top → number (is_signed lo) (width_of lo top) (code (width_of lo top) z) ≡ z
number-width_of lo top z a b = number-code (is_signed lo) (width_of lo top) z (fits-width_of lo top z a b)
