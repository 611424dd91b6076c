-- The bits of integers, one by one.
use Rattle.std.proofs.Common.{ℕ, zero, suc, ℤ, pos, negsuc, ◌+◌, ◌-◌, ◌*◌, ◌/◌, ◌%◌, ◌^◌, ◌<◌, ◌≤◌, ◌≡◌, refl, sym, ap, ◌∙◌, bit_and, bit_or, bit_xor, arith, min, max, true}
use Rattle.std.proofs.lemmas.Nat.{and_shr, or_shr, xor_shr, shr_split, pow-add}
use Rattle.std.proofs.lemmas.Int.{ints}
use Rattle.std.proofs.lemmas.Nat.{pow_pos}
use Rattle.mh_codes.specs.Integers.{floor_mod, floor_div, bit_of, integer_and, integer_or, integer_xor, inverse_of}
use Rattle.mh_codes.specs.Codes.{code, Fits, number}
use Rattle.mh_codes.proofs.Codes.{code_shr, code_cut, code_part, code_below, code_same}
use Rattle.mh_codes.proofs.Bitwise.{code-and, code-or, code-xor}
use Rattle.mh_codes.proofs.Numbers.{number-code}

-- a bit is 0 or 1
pub bit_below : (k : ℕ) (z : ℤ) → bit_of k z < 2
bit_below k z = code_below 1 (floor_div z (2 ^ k))

-- bit k is the highest bit of the code of k + 1 bits
pub code-high : (k : ℕ) (z : ℤ) → code (k + 1) z / 2 ^ k ≡ bit_of k z
code-high k z =
    let e : k + 1 - k ≡ 1 = omega arith in
    code_shr (k + 1) k z (omega arith) ∙ ap (λ w. code w (floor_div z (2 ^ k))) e

-- a code, by its highest bit and the others
pub code-add_one : (k : ℕ) (z : ℤ) → code (k + 1) z ≡ bit_of k z * 2 ^ k + code k z
code-add_one k z =
    let s = shr_split (code (k + 1) z) k in
    let h = ap (λ b. b * 2 ^ k) (code-high k z) in
    let l = code_cut (k + 1) k z (omega arith) in
    omega (arith, s, h, l)

-- bit k of a code is bit k of the integer
pub bit_of-code : (w k : ℕ) (z : ℤ) → k < w → code w z / 2 ^ k % 2 ≡ bit_of k z
bit_of-code w k z l =
    let e : k + 1 - k ≡ 1 = omega arith in
    ap (λ v. code w z / 2 ^ k % 2 ^ v) (sym e) ∙ code_part w (k + 1) k z (omega arith) (omega arith) ∙ ap (λ v. code v (floor_div z (2 ^ k))) e

-- the operators on single bits
and_bits : (x y : ℕ) → x < 2 → y < 2 → bit_and x y ≡ min x y
and_bits zero zero p q = refl
and_bits zero (suc zero) p q = refl
and_bits (suc zero) zero p q = refl
and_bits (suc zero) (suc zero) p q = refl
and_bits x (suc (suc y)) p q = absurd (omega arith)
and_bits (suc (suc x)) y p q = absurd (omega arith)

or_bits : (x y : ℕ) → x < 2 → y < 2 → bit_or x y ≡ max x y
or_bits zero zero p q = refl
or_bits zero (suc zero) p q = refl
or_bits (suc zero) zero p q = refl
or_bits (suc zero) (suc zero) p q = refl
or_bits x (suc (suc y)) p q = absurd (omega arith)
or_bits (suc (suc x)) y p q = absurd (omega arith)

xor_bits : (x y : ℕ) → x < 2 → y < 2 → bit_xor x y ≡ (x + y) % 2
xor_bits zero zero p q = refl
xor_bits zero (suc zero) p q = refl
xor_bits (suc zero) zero p q = refl
xor_bits (suc zero) (suc zero) p q = refl
xor_bits x (suc (suc y)) p q = absurd (omega arith)
xor_bits (suc (suc x)) y p q = absurd (omega arith)

-- an operator on codes that works bit by bit, at the highest bit
at_high : (f : ℕ → ℕ → ℕ) (k : ℕ) (a b z : ℤ) → code (k + 1) z ≡ f (code (k + 1) a) (code (k + 1) b) → ((x y : ℕ) → f x y / 2 ^ k ≡ f (x / 2 ^ k) (y / 2 ^ k)) → bit_of k z ≡ f (bit_of k a) (bit_of k b)
at_high f k a b z e s =
    sym (code-high k z) ∙ ap (λ n. n / 2 ^ k) e ∙ s (code (k + 1) a) (code (k + 1) b) ∙ ap (λ x. f x (code (k + 1) b / 2 ^ k)) (code-high k a) ∙ ap (f (bit_of k a)) (code-high k b)

-- the bits of `&`, `|` and `^`
pub bit_of-and : (k : ℕ) (a b : ℤ) → bit_of k (integer_and a b) ≡ min (bit_of k a) (bit_of k b)
bit_of-and k a b = at_high bit_and k a b (integer_and a b) (code-and (k + 1) a b) (λ x y. and_shr x y k) ∙ and_bits (bit_of k a) (bit_of k b) (bit_below k a) (bit_below k b)

pub bit_of-or : (k : ℕ) (a b : ℤ) → bit_of k (integer_or a b) ≡ max (bit_of k a) (bit_of k b)
bit_of-or k a b = at_high bit_or k a b (integer_or a b) (code-or (k + 1) a b) (λ x y. or_shr x y k) ∙ or_bits (bit_of k a) (bit_of k b) (bit_below k a) (bit_below k b)

pub bit_of-xor : (k : ℕ) (a b : ℤ) → bit_of k (integer_xor a b) ≡ (bit_of k a + bit_of k b) % 2
bit_of-xor k a b = at_high bit_xor k a b (integer_xor a b) (code-xor (k + 1) a b) (λ x y. xor_shr x y k) ∙ xor_bits (bit_of k a) (bit_of k b) (bit_below k a) (bit_below k b)

-- bits and codes determine each other
pub code_from_bits : (w : ℕ) (a b : ℤ) → ((k : ℕ) → k < w → bit_of k a ≡ bit_of k b) → code w a ≡ code w b
code_from_bits zero a b h = let p = code_below 0 a in let q = code_below 0 b in omega arith
code_from_bits (suc w) a b h =
    let low = code_from_bits w a b (λ k l. h k (omega arith)) in
    let high = ap (λ x. x * 2 ^ w) (h w (omega arith)) in
    ap (λ n. code n a) e ∙ code-add_one w a ∙ omega (arith, low, high) ∙ sym (code-add_one w b) ∙ sym (ap (λ n. code n b) e)
  where
    e : suc w ≡ w + 1
    e = omega arith

-- a number is below its own power of 2
below_pow : (n : ℕ) → n < 2 ^ n
below_pow zero = omega arith
below_pow (suc n) =
    let i = below_pow n in
    let e : suc n ≡ n + 1 = omega arith in
    let p : 2 ^ suc n ≡ 2 ^ n * 2 = ap (λ k. 2 ^ k) e ∙ pow-add 2 n 1 in
    omega arith

-- each integer fits some width, and all greater ones
abbrev pub ample_width : ℤ → ℕ
ample_width (pos n) = n + n + 2
ample_width (negsuc n) = n + n + 2

-- at such a width it fits
pub fits_ample : (z : ℤ) (w : ℕ) → ample_width z ≤ w → Fits true w z
fits_ample (pos n) w l = let p = below_pow w in omega arith
fits_ample (negsuc n) w l = let p = below_pow w in omega arith

-- the bits determine the integer
pub same_from_bits : (a b : ℤ) → ((k : ℕ) → bit_of k a ≡ bit_of k b) → a ≡ b
same_from_bits a b h =
    let w = ample_width a + ample_width b in
    sym (number-code true w a (fits_ample a w (omega arith))) ∙ ap (number true w) (code_from_bits w a b (λ k l. h k)) ∙ number-code true w b (fits_ample b w (omega arith))

-- -1 - z, each of whose bits is that of z inverted
abbrev pub complement_of : ℤ → ℤ
complement_of (pos n) = negsuc n
complement_of (negsuc n) = pos n

-- its parity is the other
floor_mod-complement_of : (z : ℤ) → floor_mod (complement_of z) 2 ≡ 1 - floor_mod z 2
floor_mod-complement_of (pos n) = refl
floor_mod-complement_of (negsuc n) = omega arith

-- a shift of it is the complement of the shift
floor_div-complement_of : (z : ℤ) (d : ℕ) → floor_div (complement_of z) d ≡ complement_of (floor_div z d)
floor_div-complement_of (pos n) d = refl
floor_div-complement_of (negsuc n) d = refl

-- so each bit of it is the other
pub bit_of-complement_of : (k : ℕ) (z : ℤ) → bit_of k (complement_of z) ≡ 1 - bit_of k z
bit_of-complement_of k z = ap (λ q. floor_mod q 2) (floor_div-complement_of z (2 ^ k)) ∙ floor_mod-complement_of (floor_div z (2 ^ k))

-- inverting w bits is the complement, up to a multiple of 2 ^ w
code-inverse_of : (w : ℕ) (z : ℤ) → code w (inverse_of w z) ≡ code w (complement_of z)
code-inverse_of w (pos n) = let p = pow_pos w in code_same w (inverse_of w (pos n)) (negsuc n) 0 1 (omega (arith, ints))
code-inverse_of w (negsuc n) = let p = pow_pos w in code_same w (inverse_of w (negsuc n)) (pos n) 0 1 (omega (arith, ints))

-- inverting w bits inverts each of them
pub bit_of-inverse : (w k : ℕ) (z : ℤ) → k < w → bit_of k (inverse_of w z) ≡ 1 - bit_of k z
bit_of-inverse w k z l =
    sym (bit_of-code w k (inverse_of w z) l) ∙ ap (λ n. n / 2 ^ k % 2) (code-inverse_of w z) ∙ bit_of-code w k (complement_of z) l ∙ bit_of-complement_of k z
