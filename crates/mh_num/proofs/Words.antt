-- The type i128 and its bits, against codes and numbers of 128 bits.
use Rattle.std.proofs.Common.{ℕ, ℤ, pos, negsuc, ◌+◌, ◌-◌, ◌*◌, ◌/◌, ◌%◌, ◌^◌, ◌<◌, ◌≤◌, ◌≡◌, refl, sym, ap, ◌∙◌, bit_and, bit_or, bit_xor, true, false, ltb, ◌-ℤ◌, arith}
use Rattle.std.proofs.lemmas.Int.{ints, to_z-of_z, to_z_pos}
use Rattle.std.proofs.lemmas.Bool.{cond-false}
use Rattle.std.proofs.lemmas.Bool.Decides.{nat_tests}
use Rattle.std.proofs.lemmas.Nat.{pow_pos, pow-add, and_mask, shr_high, one_shl}
use Rattle.std.proofs.Math.Nat.{mod-eq_of_lt, pow-le-pow_right}
use lib.Signed.{lt_z}
use Rattle.std.specs.Int.{w128, cast_unsigned, cast_signed, int_shr}
use Rattle.std.specs.Int.RustNames.{FitsSigned}
use Rattle.mh_codes.specs.Integers.{floor_div, slice_of, integer_and, integer_or, integer_xor}
use Rattle.mh_codes.specs.Codes.{code, number, Fits}
use Rattle.mh_codes.proofs.Codes.{code_cut, code_below}
use Rattle.mh_codes.proofs.Bitwise.{code-and, code-or, code-xor}
use Rattle.mh_codes.proofs.Numbers.{fits-floor_div}
use Rattle.mh_codes.proofs.Fitting.{fits-and, fits-or, fits-xor}

-- what an i128 holds fits 128 bits
pub fits_word : (z : ℤ) → FitsSigned w128 z → Fits true 128 z
fits_word (pos n) f = let h = f.sfits in omega arith
fits_word (negsuc n) f = let h = f.sfits in omega arith

pub word_fits : (z : ℤ) → Fits true 128 z → FitsSigned w128 z
word_fits (pos n) f = record { sfits = omega arith }
word_fits (negsuc n) f = record { sfits = omega arith }

-- and its bits are its code
pub cast_unsigned-code : (z : ℤ) → FitsSigned w128 z → cast_unsigned w128 z ≡ code 128 z
cast_unsigned-code (pos n) f = let h = f.sfits in sym (mod-eq_of_lt (omega arith))
cast_unsigned-code (negsuc n) f = let h = f.sfits in let e : n % 2 ^ 128 ≡ n = mod-eq_of_lt (omega arith) in omega (arith, e)

-- the code of what an i128 holds is read back as that
pub cast_signed-code : (z : ℤ) → Fits true 128 z → cast_signed w128 (code 128 z) ≡ z
cast_signed-code z f = ap (cast_signed w128) (sym (cast_unsigned-code z (word_fits z f))) ∙ to_z-of_z w128 z (word_fits z f)

module _ (a b : ℤ) (f : FitsSigned w128 a) (g : FitsSigned w128 b) where
  -- an operator on bits, whose result is the code of an integer that fits
  by_codes : (op : ℕ → ℕ → ℕ) (z : ℤ) → code 128 z ≡ op (code 128 a) (code 128 b) → Fits true 128 z → cast_signed w128 (op (cast_unsigned w128 a) (cast_unsigned w128 b)) ≡ z
  by_codes op z e h =
      ap (λ x. cast_signed w128 (op x (cast_unsigned w128 b))) (cast_unsigned-code a f) ∙ ap (λ x. cast_signed w128 (op (code 128 a) x)) (cast_unsigned-code b g) ∙ ap (cast_signed w128) (sym e) ∙ cast_signed-code z h

  pub word-and : cast_signed w128 (bit_and (cast_unsigned w128 a) (cast_unsigned w128 b)) ≡ integer_and a b
  word-and = by_codes bit_and (integer_and a b) (code-and 128 a b) (fits-and true 128 a b (fits_word a f) (fits_word b g))

  pub word-or : cast_signed w128 (bit_or (cast_unsigned w128 a) (cast_unsigned w128 b)) ≡ integer_or a b
  word-or = by_codes bit_or (integer_or a b) (code-or 128 a b) (fits-or true 128 a b (fits_word a f) (fits_word b g))

  pub word-xor : cast_signed w128 (bit_xor (cast_unsigned w128 a) (cast_unsigned w128 b)) ≡ integer_xor a b
  word-xor = by_codes bit_xor (integer_xor a b) (code-xor 128 a b) (fits-xor true 128 a b (fits_word a f) (fits_word b g))

-- the w low bits, all 1, from the 127 of the greatest i128
pub ones-shr : (w : ℕ) → w ≤ 127 → (2 ^ 127 - 1) / 2 ^ (127 - w) ≡ 2 ^ w - 1
ones-shr w l =
    let k = 127 - w in
    let e : 127 ≡ w + k = omega arith in
    let p : 2 ^ 127 ≡ 2 ^ w * 2 ^ k = ap (λ n. 2 ^ n) e ∙ pow-add 2 w k in
    let a = pow_pos w in
    let b = pow_pos k in
    let s : 2 ^ 127 - 1 ≡ (2 ^ w - 1) * 2 ^ k + (2 ^ k - 1) = parts (2 ^ w) (2 ^ k) a b p in
    ap (λ n. n / 2 ^ k) s ∙ shr_high (2 ^ w - 1) k (2 ^ k - 1) (omega arith)
  where
    parts : (m n : ℕ) → 0 < m → 0 < n → 2 ^ 127 ≡ m * n → 2 ^ 127 - 1 ≡ (m - 1) * n + (n - 1)
    parts m n a b e = let q : m ≡ (m - 1) + 1 = omega arith in let f = ap (λ k. k * n) q in omega (arith, e, f)

pub word-mask : (w : ℕ) → w ≤ 127 → cast_signed w128 ((2 ^ 127 - 1) / 2 ^ (127 - w)) ≡ pos (2 ^ w - 1)
word-mask w l =
    let two : 0 < 2 = omega arith in
    let p = pow-le-pow_right two l in
    let q = pow_pos w in
    ap (cast_signed w128) (ones-shr w l) ∙ to_z_pos w128 (2 ^ w - 1) (omega arith)

-- std's shift right rounds down
pub shr_is : (z : ℤ) (k : ℕ) → int_shr z k ≡ floor_div z (2 ^ k)
shr_is (pos n) k = refl
shr_is (negsuc n) k = refl

-- the k low bits
pub word-low : (z m : ℤ) (k : ℕ) → k ≤ 127 → FitsSigned w128 z → m ≡ pos (2 ^ k - 1) → cast_signed w128 (bit_and (cast_unsigned w128 z) (cast_unsigned w128 m)) ≡ pos (code k z)
word-low z m k l f e =
    let two : 0 < 2 = omega arith in
    let p = pow-le-pow_right two l in
    let q = code_below k z in
    ap (λ x. cast_signed w128 (bit_and (cast_unsigned w128 z) (cast_unsigned w128 x))) e ∙ ap (λ x. cast_signed w128 (bit_and x (2 ^ k - 1))) (cast_unsigned-code z f) ∙ ap (cast_signed w128) (and_mask (code 128 z) k ∙ code_cut 128 k z (omega arith)) ∙ to_z_pos w128 (code k z) (omega arith)

-- a slice: shifted right, and the low bits of that
pub word-slice : (a m : ℤ) (i j : ℕ) → i ≤ 127 → FitsSigned w128 a → m ≡ pos (2 ^ (i - j) - 1) → cast_signed w128 (bit_and (cast_unsigned w128 (int_shr (cast_signed w128 (cast_unsigned w128 a)) j)) (cast_unsigned w128 m)) ≡ pos (slice_of i j a)
word-slice a m i j l f e =
    let s : int_shr (cast_signed w128 (cast_unsigned w128 a)) j ≡ floor_div a (2 ^ j) = ap (λ z. int_shr z j) (to_z-of_z w128 a f) ∙ shr_is a j in
    let g = word_fits (floor_div a (2 ^ j)) (fits-floor_div true 128 a j (fits_word a f)) in
    ap (λ z. cast_signed w128 (bit_and (cast_unsigned w128 z) (cast_unsigned w128 m))) s ∙ word-low (floor_div a (2 ^ j)) m (i - j) (omega arith) g e

pub word-power : (k : ℕ) → k ≤ 126 → cast_signed w128 ((1 * 2 ^ k) % 2 ^ 128) ≡ pos (2 ^ k)
word-power k l =
    let two : 0 < 2 = omega arith in
    let p = pow-le-pow_right two l in
    ap (cast_signed w128) (one_shl k 128 (omega arith)) ∙ to_z_pos w128 (2 ^ k) (omega arith)

-- the whole number as a slice
pub slice-whole : (w : ℕ) (a : ℤ) → slice_of w 0 a ≡ code w a
slice-whole w a = let e : w - 0 ≡ w = omega arith in ap (λ v. code v (floor_div a 1)) e ∙ ap (code w) (floor_div-one a)
  where
    floor_div-one : (a : ℤ) → floor_div a 1 ≡ a
    floor_div-one (pos n) = let e : n / 1 ≡ n = omega arith in ap pos e
    floor_div-one (negsuc n) = let e : n / 1 ≡ n = omega arith in ap negsuc e

-- a number of less than twice m, but of m or more, with m taken away twice
module _ (n m : ℕ) (low half : ℤ) (e : low ≡ pos n) (f : half ≡ pos m) (b : m ≤ 2 ^ 126) (h : n < m + m) where
  not_less : lt_z (cast_signed w128 (cast_unsigned w128 low)) (cast_signed w128 (cast_unsigned w128 half)) ≡ false → m ≤ n
  not_less g = grind (arith, ints)

  twice_less : m ≤ n → cast_signed w128 (cast_unsigned w128 (cast_signed w128 (cast_unsigned w128 (cast_signed w128 (cast_unsigned w128 low) -ℤ cast_signed w128 (cast_unsigned w128 half))) -ℤ cast_signed w128 (cast_unsigned w128 half))) ≡ negsuc (m + m - 1 - n)
  twice_less g = omega (arith, ints)

-- w bits whose highest is 1, read as signed
pub word-signed : (w n : ℕ) (low half : ℤ) → 1 ≤ w → w ≤ 127 → n < 2 ^ w → low ≡ pos n → half ≡ pos (2 ^ (w - 1)) → lt_z (cast_signed w128 (cast_unsigned w128 low)) (cast_signed w128 (cast_unsigned w128 half)) ≡ false → cast_signed w128 (cast_unsigned w128 (cast_signed w128 (cast_unsigned w128 (cast_signed w128 (cast_unsigned w128 low) -ℤ cast_signed w128 (cast_unsigned w128 half))) -ℤ cast_signed w128 (cast_unsigned w128 half))) ≡ number true w n
word-signed w n low half one l h e f g =
    let m = 2 ^ (w - 1) in
    let two : 0 < 2 = omega arith in
    let l2 : w - 1 ≤ 126 = omega arith in
    let p : m ≤ 2 ^ 126 = pow-le-pow_right two l2 in
    let u : w ≡ w - 1 + 1 = omega arith in
    let d : 2 ^ w ≡ m * 2 = ap (λ k. 2 ^ k) u ∙ pow-add 2 (w - 1) 1 in
    let b : n < m + m = omega (arith, h, d) in
    let k = not_less n m low half e f p b g in
    let s : ltb (n + n) (2 ^ w) ≡ false = grind (arith, nat_tests, d, k) in
    let t : m + m - 1 - n ≡ 2 ^ w - 1 - n = omega (arith, d) in
    twice_less n m low half e f p b k ∙ ap negsuc t ∙ sym (cond-false (ltb (n + n) (2 ^ w)) (pos n) (negsuc (2 ^ w - 1 - n)) s)
