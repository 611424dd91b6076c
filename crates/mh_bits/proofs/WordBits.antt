-- The bits of words.
use Rattle.std.proofs.Common.{ℕ, zero, suc, ◌+◌, ◌-◌, ◌*◌, ◌/◌, ◌%◌, ◌^◌, ◌<◌, ◌≤◌, ◌≡◌, refl, sym, ap, ◌∙◌, arith, inl, inr}
use Rattle.std.specs.Int.{bit_at}
use Rattle.std.proofs.lemmas.Nat.{pow_pos, mul-le, shr-shr, shr_split}
use Rattle.std.proofs.lemmas.Nat.Bits.{bit_at-lt, bit_at-zero, bit_at_lowest, bit_at_cat_low, bit_at_cat_high, same_from_bits_below}
use Rattle.std.proofs.Math.Nat.{mod-eq_of_lt}
use Rattle.std.proofs.lemmas.Bool.{cases_lt}
use Rattle.mh_codes.proofs.Powers.{twice}
use Rattle.mh_bits.specs.Vector.{word}

-- a digit is its own lowest bit
lowest : (n : ℕ) → n < 2 → bit_at n 0 ≡ n
lowest n h = bit_at_lowest n ∙ mod-eq_of_lt h

-- words of digits
pub word_below : (f : ℕ → ℕ) (w : ℕ) → ((k : ℕ) → k < w → f k < 2) → word f w < 2 ^ w
unfolding word
word_below f zero h = omega arith
word_below f (suc w) h =
    let low = word_below f w (λ k l. h k (omega arith)) in
    let digit = h w (omega arith) in
    let high = mul-le (f w) (2 ^ w) 1 (2 ^ w) (omega arith) (omega arith) in
    let power = twice w in
    omega arith

pub bit_at-word : (f : ℕ → ℕ) (w k : ℕ) → ((i : ℕ) → i < w → f i < 2) → k < w → bit_at (word f w) k ≡ f k
unfolding word
bit_at-word f zero k h l = absurd (omega arith)
bit_at-word f (suc w) k h l =
    let digits : (i : ℕ) → i < w → f i < 2 = λ i m. h i (omega arith) in
    let turned : word f w + f w * 2 ^ w ≡ f w * 2 ^ w + word f w = omega arith in
    ap (λ n. bit_at n k) turned ∙ elim (cases_lt k w) [
      | inl m ↦ bit_at_cat_low (f w) w (word f w) k m ∙ bit_at-word f w k digits m
      | inr m ↦
          let e : k ≡ w = omega arith in
          let none : k - w ≡ 0 = omega arith in
          bit_at_cat_high (f w) w (word f w) k (word_below f w digits) m ∙ ap (bit_at (f w)) none ∙ lowest (f w) (h w (omega arith)) ∙ ap f (sym e)
    ]

-- a number below 2 ^ w is the word of its digits
pub word_is : (n w : ℕ) (f : ℕ → ℕ) → n < 2 ^ w → ((k : ℕ) → k < w → bit_at n k ≡ f k) → n ≡ word f w
word_is n w f h e =
    let digits : (k : ℕ) → k < w → f k < 2 = λ k l. omega (arith, e k l, bit_at-lt n k) in
    same_from_bits_below w n (word f w) h (word_below f w digits) (λ k l. e k l ∙ sym (bit_at-word f w k digits l))

pub word-same : (f g : ℕ → ℕ) (w : ℕ) → ((k : ℕ) → k < w → f k ≡ g k) → word f w ≡ word g w
unfolding word
word-same f g zero h = refl
word-same f g (suc w) h =
    let low = word-same f g w (λ k l. h k (omega arith)) in
    let high = ap (λ x. x * 2 ^ w) (h w (omega arith)) in
    omega arith

-- remainders, quotients and products by powers of 2
pub bit_at-mod : (n w k : ℕ) → k < w → bit_at (n % 2 ^ w) k ≡ bit_at n k
bit_at-mod n w k l =
    sym (bit_at_cat_low (n / 2 ^ w) w (n % 2 ^ w) k l) ∙ ap (λ m. bit_at m k) (shr_split n w)

pub bit_at-shr : (n j k : ℕ) → bit_at (n / 2 ^ j) k ≡ bit_at n (k + j)
bit_at-shr n j k = ap (λ m. m % 2) (shr-shr n j k ∙ ap (λ i. n / 2 ^ i) (omega arith))

pub bit_at-shl_low : (n j k : ℕ) → k < j → bit_at (n * 2 ^ j) k ≡ 0
bit_at-shl_low n j k l = ap (λ m. bit_at m k) (omega arith) ∙ bit_at_cat_low n j 0 k l ∙ bit_at-zero k

pub bit_at-shl_high : (n j k : ℕ) → j ≤ k → bit_at (n * 2 ^ j) k ≡ bit_at n (k - j)
bit_at-shl_high n j k l = let p = pow_pos j in let e : n * 2 ^ j ≡ n * 2 ^ j + 0 = omega arith in ap (λ m. bit_at m k) e ∙ bit_at_cat_high n j 0 k p l
