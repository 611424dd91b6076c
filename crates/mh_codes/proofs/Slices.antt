-- Slices of integers: their bits, and adjacent ones.
use Rattle.std.proofs.Common.{ℕ, ℤ, pos, negsuc, ◌+◌, ◌-◌, ◌*◌, ◌/◌, ◌^◌, ◌<◌, ◌≤◌, ◌≡◌, ap, ◌∙◌, arith}
use Rattle.std.proofs.lemmas.Nat.{shr_split, shr-shr}
use Rattle.mh_codes.specs.Integers.{floor_div, floor_mod, bit_of, slice_of}
use Rattle.mh_codes.specs.Codes.{code}
use Rattle.mh_codes.proofs.Codes.{code_shr, code_cut, code_below}
use Rattle.mh_codes.proofs.Bits.{bit_of-code}

-- two shifts right are one
pub floor_div-floor_div : (z : ℤ) (j k : ℕ) → floor_div (floor_div z (2 ^ j)) (2 ^ k) ≡ floor_div z (2 ^ (j + k))
floor_div-floor_div (pos n) j k = ap pos (shr-shr n j k)
floor_div-floor_div (negsuc n) j k = ap negsuc (shr-shr n j k)

-- a slice has as many bits as places
pub slice_below : (i j : ℕ) (z : ℤ) → slice_of i j z < 2 ^ (i - j)
slice_below i j z = code_below (i - j) (floor_div z (2 ^ j))

-- and its bits are those of the number
pub bit_of-slice : (i j k : ℕ) (z : ℤ) → j + k < i → bit_of k (pos (slice_of i j z)) ≡ bit_of (j + k) z
bit_of-slice i j k z l = bit_of-code (i - j) k (floor_div z (2 ^ j)) (omega arith) ∙ ap (λ q. floor_mod q 2) (floor_div-floor_div z j k)

-- a slice is its high part and its low part
pub slice-join : (i j k : ℕ) (z : ℤ) → k ≤ j → j ≤ i → slice_of i k z ≡ slice_of i j z * 2 ^ (j - k) + slice_of j k z
slice-join i j k z l m =
    let y = floor_div z (2 ^ k) in
    let s = shr_split (code (i - k) y) (j - k) in
    let e : i - k - (j - k) ≡ i - j = omega arith in
    let f : k + (j - k) ≡ j = omega arith in
    let h : code (i - k) y / 2 ^ (j - k) ≡ slice_of i j z = code_shr (i - k) (j - k) y (omega arith) ∙ ap (λ v. code v (floor_div y (2 ^ (j - k)))) e ∙ ap (code (i - j)) (floor_div-floor_div z k (j - k) ∙ ap (λ n. floor_div z (2 ^ n)) f) in
    let c = ap (λ n. n * 2 ^ (j - k)) h in
    let d = code_cut (i - k) (j - k) y (omega arith) in
    omega (arith, s, c, d)
