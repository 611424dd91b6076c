-- Ranges of i128: their width and their size.
use Rattle.std.proofs.Common.{ℕ, suc, ℤ, pos, negsuc, ◌+◌, ◌-◌, ◌*◌, ◌^◌, ◌<◌, ◌≤◌, ◌+ℤ◌, ◌-ℤ◌, ◌≤ℤ◌, ◌<ℤ◌, ◌≡◌, ap, ◌∙◌, unsigned_abs, true, false, arith, ⊎_elim}
use Rattle.std.proofs.lemmas.Bool.{cases_lt}
use Rattle.std.proofs.lemmas.Int.{ints, to_z-of_z, to_z_pos}
use Rattle.std.proofs.lemmas.Nat.{leading_length, pow-add}
use Rattle.std.proofs.Math.Nat.{pow-le-pow_right}
use Rattle.std.specs.Int.{w128, cast_unsigned, cast_signed, leading_zeros}
use lib.Signed.{lt_z}
use Rattle.std.specs.Int.RustNames.{FitsSigned}
use Rattle.mh_codes.specs.Integers.{floor_mod}
use Rattle.mh_codes.specs.Widths.{bit_length, magnitude_of, width_of}
use Rattle.mh_codes.specs.Ranges.{size_of, wrap_of}
use Rattle.mh_codes.proofs.WidthLaws.{bit_length_least, bit_length_holds, below_from}
use Rattle.mh_codes.proofs.Wrapping.{size_is}

-- the bits without the leading zeros
pub length_is : (n : ℕ) → n < 2 ^ 128 → 128 - leading_zeros w128 n ≡ bit_length n
length_is n h =
    let l = leading_length 128 n h in
    let low = bit_length_least n l.0 l.2 in
    let high = not_longer (bit_length n) l.0 n (bit_length_holds n) l.3 in
    omega (arith, l.1, low, high)
  where
    not_longer : (b m n : ℕ) → n < 2 ^ b → 2 ^ m ≤ 2 * n + 1 → m ≤ b
    not_longer b m n p q = ⊎_elim (λ l. let l2 : b + 1 ≤ m = omega arith in let two : 0 < 2 = omega arith in let g = pow-le-pow_right two l2 in let e = pow-add 2 b 1 in absurd (omega arith)) (λ l. l) (cases_lt b m)

-- the bits of v, or of -1 - v, as the code takes them
pub length_positive : (v z : ℤ) (r : ℕ) → FitsSigned w128 v → lt_z (cast_signed w128 (cast_unsigned w128 v)) (pos 0) ≡ false → z ≡ cast_signed w128 (cast_unsigned w128 v) → r ≡ leading_zeros w128 (cast_unsigned w128 z) → 128 - r ≡ bit_length (magnitude_of v)
length_positive (pos n) z r f s e h =
    let g = f.sfits in
    let i = e ∙ to_z-of_z w128 (pos n) f in
    let k = h ∙ ap (λ z. leading_zeros w128 (cast_unsigned w128 z)) i in
    ap (λ k. 128 - k) k ∙ length_is n (omega arith)
length_positive (negsuc n) z r f s e h = absurd (grind (arith, ints))

pub length_negative : (v z : ℤ) (r : ℕ) → FitsSigned w128 v → lt_z (cast_signed w128 (cast_unsigned w128 v)) (pos 0) ≡ true → z ≡ cast_signed w128 (2 ^ 128 - 1 - cast_unsigned w128 v) → r ≡ leading_zeros w128 (cast_unsigned w128 z) → 128 - r ≡ bit_length (magnitude_of v)
length_negative (pos n) z r f s e h = absurd (grind (arith, ints))
length_negative (negsuc n) z r f s e h =
    let g = f.sfits in
    let m : 2 ^ 128 - 1 - (2 ^ 128 - suc n) ≡ n = omega arith in
    let i : z ≡ pos n = e ∙ ap (cast_signed w128) m ∙ to_z_pos w128 n (omega arith) in
    let k = h ∙ ap (λ z. leading_zeros w128 (cast_unsigned w128 z)) i in
    ap (λ k. 128 - k) k ∙ length_is n (omega arith)

-- the ends of a range of at most 127 bits are of i128
pub top_fits : (lo top : ℤ) → width_of lo top ≤ 127 → FitsSigned w128 top
top_fits (pos n) (pos m) w = record { sfits = below_from m 127 (omega arith) }
top_fits (pos n) (negsuc m) w = record { sfits = below_from m 127 (omega arith) }
top_fits (negsuc n) (pos m) w = record { sfits = below_from m 127 (omega arith) }
top_fits (negsuc n) (negsuc m) w = record { sfits = below_from m 127 (omega arith) }

-- a range from 0 or more has at most 127 bits
pub narrow_unsigned : (lo top : ℤ) → lo ≤ℤ top → pos 0 ≤ℤ lo → FitsSigned w128 top → width_of lo top ≤ 127
narrow_unsigned (pos n) (pos m) l s f = let h = f.sfits in let b = bit_length_least m 127 h in omega arith
narrow_unsigned (pos n) (negsuc m) l s f = absurd (omega (arith, ints))
narrow_unsigned (negsuc n) top l s f = absurd (omega (arith, ints))

-- and another where its ends have
pub narrow_signed : (lo top : ℤ) → lo ≤ℤ top → negsuc (2 ^ 126 - 1) ≤ℤ lo → top ≤ℤ pos (2 ^ 126 - 1) → width_of lo top ≤ 127
narrow_signed (pos n) (pos m) l a b = let c = bit_length_least m 127 (omega (arith, ints)) in omega arith
narrow_signed (pos n) (negsuc m) l a b = absurd (omega (arith, ints))
narrow_signed (negsuc n) (pos m) l a b = let c = bit_length_least n 126 (omega (arith, ints)) in let d = bit_length_least m 126 (omega (arith, ints)) in omega arith
narrow_signed (negsuc n) (negsuc m) l a b = let c = bit_length_least n 126 (omega (arith, ints)) in let d = bit_length_least m 126 (omega (arith, ints)) in omega arith

pub narrow_low : (lo top : ℤ) → lo <ℤ pos 0 → width_of lo top ≤ 127 → negsuc (2 ^ 126 - 1) ≤ℤ lo
narrow_low (pos n) top s w = absurd (omega (arith, ints))
narrow_low (negsuc n) top s w = let b = below_from n 126 (omega arith) in omega (arith, ints)

pub narrow_top : (lo top : ℤ) → lo <ℤ pos 0 → width_of lo top ≤ 127 → top ≤ℤ pos (2 ^ 126 - 1)
narrow_top (pos n) top s w = absurd (omega (arith, ints))
narrow_top (negsuc n) (pos m) s w = let b = below_from m 126 (omega arith) in omega (arith, ints)
narrow_top (negsuc n) (negsuc m) s w = omega (arith, ints)

-- a range of at most 127 bits has at most 2 ^ 127 integers
pub size_at_most : (lo top : ℤ) → lo ≤ℤ top → FitsSigned w128 top → width_of lo top ≤ 127 → size_of lo top ≤ 2 ^ 127
size_at_most (pos n) (pos m) l f w = let h = f.sfits in let s = size_is (pos n) (pos m) l in omega (arith, ints)
size_at_most (pos n) (negsuc m) l f w = absurd (omega (arith, ints))
size_at_most (negsuc n) top l f w =
    let s = size_is (negsuc n) top l in
    let b = below_from n 126 (omega arith) in
    let t = narrow_top (negsuc n) top (omega (arith, ints)) w in
    omega (arith, ints)

-- what the code computes
pub word_size : (lo top : ℤ) (d : ℕ) → FitsSigned w128 lo → FitsSigned w128 top → d ≡ unsigned_abs (cast_signed w128 (cast_unsigned w128 top) -ℤ cast_signed w128 (cast_unsigned w128 lo)) → d + 1 ≡ size_of lo top
word_size lo top d f g e = ap (λ n. n + 1) (e ∙ ap (λ z. unsigned_abs (z -ℤ cast_signed w128 (cast_unsigned w128 lo))) (to_z-of_z w128 top g) ∙ ap (λ z. unsigned_abs (top -ℤ z)) (to_z-of_z w128 lo f))

-- lo and an offset below the size
pub word_wrap : (lo top v : ℤ) (r : ℕ) → FitsSigned w128 lo → FitsSigned w128 v → r < 2 ^ 127 → r ≡ floor_mod (cast_signed w128 (cast_unsigned w128 v) -ℤ cast_signed w128 (cast_unsigned w128 lo)) (size_of lo top) → cast_signed w128 (cast_unsigned w128 lo) +ℤ cast_signed w128 r ≡ wrap_of lo top v
word_wrap lo top v r f g l e =
    let s : r ≡ floor_mod (v -ℤ lo) (size_of lo top) = e ∙ ap (λ z. floor_mod (z -ℤ cast_signed w128 (cast_unsigned w128 lo)) (size_of lo top)) (to_z-of_z w128 v g) ∙ ap (λ z. floor_mod (v -ℤ z) (size_of lo top)) (to_z-of_z w128 lo f) in
    ap (λ z. z +ℤ cast_signed w128 r) (to_z-of_z w128 lo f) ∙ ap (λ z. lo +ℤ z) (to_z_pos w128 r l ∙ ap pos s)

-- what lies between two i128 is one
pub fits_between : (lo top z : ℤ) → FitsSigned w128 lo → FitsSigned w128 top → lo ≤ℤ z → z ≤ℤ top → FitsSigned w128 z
fits_between lo (pos m) (pos n) f g a b = let h = g.sfits in record { sfits = omega (arith, ints) }
fits_between lo (negsuc m) (pos n) f g a b = absurd (omega (arith, ints))
fits_between (negsuc m) top (negsuc n) f g a b = let h = f.sfits in record { sfits = omega (arith, ints) }
fits_between (pos m) top (negsuc n) f g a b = absurd (omega (arith, ints))
