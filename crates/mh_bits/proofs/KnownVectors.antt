-- What the operators give on vectors without x: numbers and codes.
use Rattle.std.proofs.Common.{ℕ, zero, suc, ℤ, pos, negsuc, ◌+◌, ◌-◌, ◌*◌, ◌/◌, ◌%◌, ◌^◌, ◌<◌, ◌≤◌, ◌+ℤ◌, ◌-ℤ◌, ◌*ℤ◌, neg_ℤ, ◌≡◌, refl, sym, ap, ◌∙◌, Bool, true, false, cond, ltb, ◌&&◌, int_div, int_rem, int_lt, int_le, bit_and, bit_or, bit_xor, arith}
use Rattle.std.specs.Int.{bit_at, from_bool}
use Rattle.std.proofs.lemmas.Bool.{ltb-true}
use Rattle.std.proofs.lemmas.Bool.Decides.{nat_tests}
use Rattle.std.proofs.lemmas.Nat.{pow_pos, xor_lt, or_comm, and_mask, and_comm, mul-mod_second}
use Rattle.std.proofs.lemmas.Nat.Bits.{bit_at-zero, bit_at-lt, same_from_bits_below}
use Rattle.std.proofs.Math.Nat.{mod-eq_of_lt}
use Rattle.mh_codes.specs.Integers.{floor_div, integer_and, integer_or, integer_xor}
use Rattle.mh_codes.specs.Codes.{code, number, Fits}
use Rattle.mh_codes.proofs.Codes.{code_same, code_read, code-add, code-sub, code-mul, code_below, code_cut, code_part}
use borrow.Author.Differences.{neg_is}
use Rattle.mh_codes.proofs.Bitwise.{code-and, code-or, code-xor}
use Rattle.mh_codes.proofs.Numbers.{code-number, number-code, fits_wider}
use Rattle.mh_codes.proofs.Powers.{wider}
use Rattle.mh_codes.proofs.Extensions.{low_extends, high_extends, unsigned_extends}
use Rattle.mh_bits.specs.declared.values.BinOp.TheVariants.{Add, Sub, Mul, Div, Rem, Lt, Le, Gt, Ge}
use Rattle.mh_bits.specs.declared.values.UnOp.TheVariants.{Neg}
use Rattle.mh_bits.specs.Vector.{Bit, low, high, unknown, bit_from, Vector, IsVector, is_known, vector_from, known, gathered, bit, word}
use Rattle.mh_bits.proofs.Arithmetic.{sum_word, difference_word, product_word}
use Rattle.mh_bits.specs.Operators.{by_number, where_known, binary_of, unary_of, coded, number_of, divided, tested, bitwise, and_bit, or_bit, xor_bit, inverted, shifted_left, shifted_right, fill, extended, selected, joined, differs, equality}
use Rattle.mh_bits.proofs.WordBits.{word_is, word-same, bit_at-word}
use Rattle.mh_bits.proofs.SomeBelow.{equality-same, equality-apart}
use Rattle.mh_bits.proofs.Gathered.{bit-gathered, gathered-same}
use Rattle.mh_bits.proofs.MovedWords.{top_bit, moved_left, extended_low, extended_high, part_of, joined_sum}
use Rattle.mh_bits.proofs.Chosen.{left_words, extended_words, selected_words, joined_words}
use Rattle.mh_bits.proofs.Tabled.{and_tabled, or_tabled, xor_tabled, not_tabled, differing_word}
use Rattle.mh_bits.proofs.Validity.{and_zero, IsVector-known}

-- ---- by moving bits

-- an extension is the code of the number
pub extended-known : (s : Bool) (w v n : ℕ) → 1 ≤ w → w ≤ v → n < 2 ^ w → extended (known w n) v s ≡ coded v (number s w n)
extended-known false w v n some upto h =
    sym (extended_words (known w n) (and_zero n) false v n 0 false false refl refl (extended_low n w v upto h) (extended_low 0 w v upto (pow_pos w))) ∙ ap (known v) (unsigned_extends w v n upto h)
extended-known true w v n some upto h = by (ltb (2 ^ (w - 1) - 1) n) refl
  where
    by : (t : Bool) → ltb (2 ^ (w - 1) - 1) n ≡ t → extended (known w n) v true ≡ coded v (number true w n)
    by false e =
        sym (extended_words (known w n) (and_zero n) true v n 0 false false (ap from_bool (sym e) ∙ top_bit w n some h) (sym (bit_at-zero (w - 1))) (extended_low n w v upto h) (extended_low 0 w v upto (pow_pos w)))
        ∙ ap (known v) (low_extends w v n some upto h (grind (arith, nat_tests)))
    by true e =
        sym (extended_words (known w n) (and_zero n) true v (n + (2 ^ v - 2 ^ w)) 0 true false (ap from_bool (sym e) ∙ top_bit w n some h) (sym (bit_at-zero (w - 1))) (extended_high n w v upto h) (extended_low 0 w v upto (pow_pos w)))
        ∙ ap (known v) (high_extends w v n some upto h (ltb-true (2 ^ (w - 1) - 1) n e))

pub extended-coded : (s : Bool) (w v : ℕ) (z : ℤ) → 1 ≤ w → w ≤ v → Fits s w z → extended (coded w z) v s ≡ coded v z
extended-coded s w v z some upto fits = extended-known s w v (code w z) some upto (code_below w z) ∙ ap (coded v) (number-code s w z fits)

pub number-extension : (s : Bool) (w v : ℕ) (z : ℤ) → 1 ≤ w → w ≤ v → Fits s w z → number_of s (extended (coded w z) v s) ≡ z
number-extension s w v z some upto fits = ap (number_of s) (extended-coded s w v z some upto fits) ∙ number-code s v z (fits_wider s w v z upto fits)

-- a part is a quotient's remainder
pub selected-known : (w n hi lo : ℕ) → selected (known w n) hi lo ≡ known (hi + 1 - lo) (n / 2 ^ lo % 2 ^ (hi + 1 - lo))
selected-known w n hi lo =
    sym (selected_words (known w n) (and_zero n) hi lo (hi + 1 - lo) (n / 2 ^ lo % 2 ^ (hi + 1 - lo)) 0 refl (part_of n lo (hi + 1 - lo))
    (word_is 0 (hi + 1 - lo) (λ k. bit_at 0 (lo + k)) (pow_pos (hi + 1 - lo)) (λ k l. bit_at-zero k ∙ sym (bit_at-zero (lo + k)))))

pub selected-coded : (w : ℕ) (z : ℤ) (hi lo : ℕ) → lo ≤ hi → hi < w → selected (coded w z) hi lo ≡ coded (hi + 1 - lo) (floor_div z (2 ^ lo))
selected-coded w z hi lo order within = selected-known w (code w z) hi lo ∙ ap (known (hi + 1 - lo)) (code_part w (hi + 1) lo z (omega arith) (omega arith))

-- a concatenation is a sum of digits
pub joined-known : (v m w n : ℕ) → m < 2 ^ v → n < 2 ^ w → joined (known v m) (known w n) ≡ known (v + w) (m * 2 ^ w + n)
joined-known v m w n p q =
    let none : 0 ≡ 0 * 2 ^ w + 0 = omega arith in
    sym (joined_words (known v m) (and_zero m) (known w n) (and_zero n) (m * 2 ^ w + n) 0 (joined_sum m n w v p q) (none ∙ joined_sum 0 0 w v (pow_pos v) (pow_pos w)))

-- a shift left is a product, and a shift right a quotient that is rounded down
pub shifted_left-known : (w n k : ℕ) → shifted_left (known w n) k ≡ known w (n * 2 ^ k % 2 ^ w)
shifted_left-known w n k =
    let none : 0 ≡ 0 * 2 ^ k = omega arith in
    let rest : 0 ≡ 0 % 2 ^ w = sym (mod-eq_of_lt (pow_pos w)) in
    sym (left_words (known w n) (and_zero n) k (n * 2 ^ k % 2 ^ w) 0 (moved_left n k w) (rest ∙ ap (λ m. m % 2 ^ w) none ∙ moved_left 0 k w))

pub shifted_left-coded : (w : ℕ) (z : ℤ) (k : ℕ) → shifted_left (coded w z) k ≡ coded w (z *ℤ pos (2 ^ k))
shifted_left-coded w z k = shifted_left-known w (code w z) k ∙ ap (known w) (sym (mul-mod_second (code w z) (2 ^ k) (2 ^ w)) ∙ sym (code-mul w z (pos (2 ^ k))))

-- a shift right is the high part of an extension
shifted_right-part : (a : Vector) (s : Bool) (k : ℕ) → 1 ≤ a.width → shifted_right (fill s a) a k ≡ selected (extended a (a.width + k) s) (a.width + k - 1) k
shifted_right-part a s k some =
    let e : a.width ≡ a.width + k - 1 + 1 - k = omega arith in
    gathered-same a.width (λ i. cond (ltb (i + k) a.width) (bit a (i + k)) (fill s a)) (λ i. bit (extended a (a.width + k) s) (k + i))
    (λ i l. let turned : i + k ≡ k + i = omega arith in ap (λ j. cond (ltb j a.width) (bit a j) (fill s a)) turned ∙ sym (bit-gathered (a.width + k) (λ j. cond (ltb j a.width) (bit a j) (fill s a)) (k + i) (omega arith)))
    ∙ ap (λ w. gathered w (λ i. bit (extended a (a.width + k) s) (k + i))) e

pub shifted_right-known : (s : Bool) (w n k : ℕ) → 1 ≤ w → n < 2 ^ w → shifted_right (fill s (known w n)) (known w n) k ≡ coded w (floor_div (number s w n) (2 ^ k))
shifted_right-known s w n k some h =
    let e : w + k - 1 + 1 - k ≡ w = omega arith in
    shifted_right-part (known w n) s k some
    ∙ ap (λ v. selected v (w + k - 1) k) (extended-known s w (w + k) n some (omega arith) h)
    ∙ selected-coded (w + k) (number s w n) (w + k - 1) k (omega arith) (omega arith)
    ∙ ap (λ v. coded v (floor_div (number s w n) (2 ^ k))) e

pub shifted_right-coded : (s : Bool) (w : ℕ) (z : ℤ) (k : ℕ) → 1 ≤ w → Fits s w z → shifted_right (fill s (coded w z)) (coded w z) k ≡ coded w (floor_div z (2 ^ k))
shifted_right-coded s w z k some fits = shifted_right-known s w (code w z) k some (code_below w z) ∙ ap (λ x. coded w (floor_div x (2 ^ k))) (number-code s w z fits)

-- ---- by the table of one bit
module _ (w : ℕ) (some : 1 ≤ w) (most : w ≤ 128) where
  module _ (m n : ℕ) (p : m < 2 ^ w) (q : n < 2 ^ w) where
    pub and-known : bitwise and_bit (known w m) (known w n) ≡ known w (bit_and m n)
    and-known = sym (and_tabled (known w m) (known w n) (IsVector-known w m some most p) (IsVector-known w n some most q) refl)

    pub or-known : bitwise or_bit (known w m) (known w n) ≡ known w (bit_or m n)
    or-known = sym (or_tabled (known w m) (known w n) (IsVector-known w m some most p) (IsVector-known w n some most q) refl)

    pub xor-known : bitwise xor_bit (known w m) (known w n) ≡ known w (bit_xor m n)
    xor-known =
        let whole = wider w 128 most in
        let within = xor_lt w m n p q in
        sym (xor_tabled (known w m) (known w n) (IsVector-known w m some most p) (IsVector-known w n some most q) refl)
        ∙ ap (λ v. vector_from w v 0) (and_mask (bit_xor m n) 128 ∙ mod-eq_of_lt (omega arith))

  pub and-coded : (x y : ℤ) → bitwise and_bit (coded w x) (coded w y) ≡ coded w (integer_and x y)
  and-coded x y = and-known (code w x) (code w y) (code_below w x) (code_below w y) ∙ ap (known w) (sym (code-and w x y))

  pub or-coded : (x y : ℤ) → bitwise or_bit (coded w x) (coded w y) ≡ coded w (integer_or x y)
  or-coded x y = or-known (code w x) (code w y) (code_below w x) (code_below w y) ∙ ap (known w) (sym (code-or w x y))

  pub xor-coded : (x y : ℤ) → bitwise xor_bit (coded w x) (coded w y) ≡ coded w (integer_xor x y)
  xor-coded x y = xor-known (code w x) (code w y) (code_below w x) (code_below w y) ∙ ap (known w) (sym (code-xor w x y))

  pub inverted-known : (n : ℕ) → n < 2 ^ w → inverted (known w n) ≡ known w (2 ^ w - 1 - n)
  inverted-known n q =
      let whole = wider w 128 most in
      let same : n % 2 ^ w ≡ n = mod-eq_of_lt q in
      let cut : 2 ^ 128 - 1 - n ≡ code 128 (negsuc n) = ap (λ k. 2 ^ 128 - 1 - k) (sym (mod-eq_of_lt (omega arith))) in
      sym (not_tabled (known w n) (IsVector-known w n some most q))
      ∙ ap (λ m. vector_from w (bit_and (2 ^ w - 1) (2 ^ 128 - 1 - m)) 0) (or_comm n 0)
      ∙ ap (λ v. vector_from w v 0) (and_comm (2 ^ w - 1) (2 ^ 128 - 1 - n) ∙ and_mask (2 ^ 128 - 1 - n) w ∙ ap (λ m. m % 2 ^ w) cut ∙ code_cut 128 w (negsuc n) most ∙ ap (λ m. 2 ^ w - 1 - m) same)

-- `==` of vectors without x
digits_same : (i j : ℕ) → i < 2 → j < 2 → differs (bit_from 0 i) (bit_from 0 j) ≡ false → i ≡ j
digits_same zero zero p q e = refl
digits_same zero (suc j) p q e = absurd (cc)
digits_same (suc i) zero p q e = absurd (cc)
digits_same (suc i) (suc j) p q e = omega arith

differs-same : (x : Bit) → differs x x ≡ false
differs-same low = refl
differs-same high = refl
differs-same unknown = refl

from_bool-lt : (b : Bool) → from_bool b < 2
from_bool-lt true = omega arith
from_bool-lt false = omega arith

digit_zero : (b : Bool) → from_bool b ≡ 0 → b ≡ false
digit_zero true e = absurd (cc)
digit_zero false e = refl

module _ (w : ℕ) (some : 1 ≤ w) (most : w ≤ 128) (m n : ℕ) (p : m < 2 ^ w) (q : n < 2 ^ w) where
  apart-word : bit_and (bit_xor m n) (2 ^ 128 - 1 - bit_or 0 0) ≡ word (λ k. from_bool (differs (bit (known w m) k) (bit (known w n) k))) w
  apart-word = differing_word (known w m) (known w n) (IsVector-known w m some most p) (IsVector-known w n some most q) refl

  pub equality-known_same : m ≡ n → equality (known w m) (known w n) ≡ high
  equality-known_same e =
      equality-same (known w m) (known w n) _ apart-word
      (apart-word ∙ ap (λ i. word (λ k. from_bool (differs (bit (known w m) k) (bit (known w i) k))) w) (sym e)
      ∙ word-same (λ k. from_bool (differs (bit (known w m) k) (bit (known w m) k))) (λ k. 0) w (λ k l. ap from_bool (differs-same (bit (known w m) k)))
      ∙ sym (word_is 0 w (λ k. 0) (pow_pos w) (λ k l. bit_at-zero k)))
      refl

  pub equality-known_apart : (m ≡ n → ⊥) → equality (known w m) (known w n) ≡ low
  equality-known_apart h =
      equality-apart (known w m) (known w n) _ apart-word (λ none. h (same_from_bits_below w m n p q (same none)))
    where
      same : bit_and (bit_xor m n) (2 ^ 128 - 1 - bit_or 0 0) ≡ 0 → (k : ℕ) → k < w → bit_at m k ≡ bit_at n k
      same none k l =
          let zero_at : bit_at 0 k ≡ 0 = bit_at-zero k in
          let digit = sym (bit_at-word (λ i. from_bool (differs (bit (known w m) i) (bit (known w n) i))) w k (λ i j. from_bool-lt (differs (bit (known w m) i) (bit (known w n) i))) l) ∙ ap (λ x. bit_at x k) (sym apart-word ∙ none) ∙ zero_at in
          digits_same (bit_at m k) (bit_at n k) (bit_at-lt m k) (bit_at-lt n k)
          (ap (λ u. differs (bit_from u (bit_at m k)) (bit_from u (bit_at n k))) (sym zero_at) ∙ digit_zero (differs (bit (known w m) k) (bit (known w n) k)) digit)

-- ---- by number
module _ (s : Bool) (w : ℕ) (x y : ℤ) where
  read : (z : ℤ) → code w (number s w (code w z)) ≡ code w z
  read z = code-number s w (code w z) (code_below w z)

  pub sum-coded : binary_of Add (coded w x) (coded w y) s ≡ coded w (x +ℤ y)
  sum-coded =
      ap (known w) (code-add w (number s w (code w x)) (number s w (code w y)) ∙ ap (λ m. (m + code w (number s w (code w y))) % 2 ^ w) (read x) ∙ ap (λ n. (code w x + n) % 2 ^ w) (read y) ∙ sym (code-add w x y))

  pub difference-coded : binary_of Sub (coded w x) (coded w y) s ≡ coded w (x -ℤ y)
  difference-coded =
      ap (known w) (code-sub w (number s w (code w x)) (number s w (code w y)) ∙ ap (λ m. (m + (2 ^ w - code w (number s w (code w y)))) % 2 ^ w) (read x) ∙ ap (λ n. (code w x + (2 ^ w - n)) % 2 ^ w) (read y) ∙ sym (code-sub w x y))

  pub product-coded : binary_of Mul (coded w x) (coded w y) s ≡ coded w (x *ℤ y)
  product-coded =
      ap (known w) (code-mul w (number s w (code w x)) (number s w (code w y)) ∙ ap (λ m. (m * code w (number s w (code w y))) % 2 ^ w) (read x) ∙ ap (λ n. (code w x * n) % 2 ^ w) (read y) ∙ sym (code-mul w x y))

  -- at sufficient width
  pub number-sum : Fits s w (x +ℤ y) → number_of s (binary_of Add (coded w x) (coded w y) s) ≡ x +ℤ y
  number-sum fits = ap (number_of s) sum-coded ∙ number-code s w (x +ℤ y) fits

  pub number-difference : Fits s w (x -ℤ y) → number_of s (binary_of Sub (coded w x) (coded w y) s) ≡ x -ℤ y
  number-difference fits = ap (number_of s) difference-coded ∙ number-code s w (x -ℤ y) fits

  pub number-product : Fits s w (x *ℤ y) → number_of s (binary_of Mul (coded w x) (coded w y) s) ≡ x *ℤ y
  number-product fits = ap (number_of s) product-coded ∙ number-code s w (x *ℤ y) fits

  module _ (p : Fits s w x) (q : Fits s w y) where
    numbers : {A : Type 0} (f : ℤ → ℤ → A) → f (number s w (code w x)) (number s w (code w y)) ≡ f x y
    numbers f = ap (λ z. f z (number s w (code w y))) (number-code s w x p) ∙ ap (f x) (number-code s w y q)

    pub quotient-coded : binary_of Div (coded w x) (coded w y) s ≡ divided int_div w x y
    quotient-coded = numbers (divided int_div w)

    pub remainder-coded : binary_of Rem (coded w x) (coded w y) s ≡ divided int_rem w x y
    remainder-coded = numbers (divided int_rem w)

    pub less-coded : binary_of Lt (coded w x) (coded w y) s ≡ tested (int_lt x y)
    less-coded = numbers (λ i j. tested (int_lt i j))

    pub less_or_equal-coded : binary_of Le (coded w x) (coded w y) s ≡ tested (int_le x y)
    less_or_equal-coded = numbers (λ i j. tested (int_le i j))

    pub greater-coded : binary_of Gt (coded w x) (coded w y) s ≡ tested (int_lt y x)
    greater-coded = numbers (λ i j. tested (int_lt j i))

    pub greater_or_equal-coded : binary_of Ge (coded w x) (coded w y) s ≡ tested (int_le y x)
    greater_or_equal-coded = numbers (λ i j. tested (int_le j i))

-- the sign makes no difference to sums, differences and products
module _ (a b : Vector) (p : IsVector a) (q : IsVector b) (e : a.width ≡ b.width) where
  second : b.val < 2 ^ a.width
  second = let f = ap (λ k. 2 ^ k) e in omega (arith, q.val_within)

  same_sign : (f : ℤ → ℤ → ℤ) → ((s : Bool) → code a.width (f (number s a.width a.val) (number s a.width b.val)) ≡ code a.width (f (number false a.width a.val) (number false a.width b.val))) → (s : Bool) → by_number (λ x y. coded a.width (f x y)) s a b ≡ by_number (λ x y. coded a.width (f x y)) false a b
  same_sign f h s =
      ap (λ w. where_known (is_known a && is_known b) (known a.width (code a.width (f (number s a.width a.val) (number s w b.val))))) (sym e)
      ∙ ap (λ n. where_known (is_known a && is_known b) (known a.width n)) (h s)
      ∙ ap (λ w. where_known (is_known a && is_known b) (known a.width (code a.width (f (number false a.width a.val) (number false w b.val))))) e

  pub sum-sign : (s : Bool) → binary_of Add a b s ≡ binary_of Add a b false
  sum-sign = same_sign (λ x y. x +ℤ y) (λ s. sym (sum_word a.width a.val b.val p.word_bits p.val_within second s) ∙ sum_word a.width a.val b.val p.word_bits p.val_within second false)

  pub difference-sign : (s : Bool) → binary_of Sub a b s ≡ binary_of Sub a b false
  difference-sign = same_sign (λ x y. x -ℤ y) (λ s. sym (difference_word a.width a.val b.val p.word_bits p.val_within second s) ∙ difference_word a.width a.val b.val p.word_bits p.val_within second false)

  pub product-sign : (s : Bool) → binary_of Mul a b s ≡ binary_of Mul a b false
  product-sign = same_sign (λ x y. x *ℤ y) (λ s. sym (product_word a.width a.val b.val p.word_bits p.val_within second s) ∙ product_word a.width a.val b.val p.word_bits p.val_within second false)

pub negation-coded : (w : ℕ) (x : ℤ) → unary_of Neg (coded w x) ≡ coded w (neg_ℤ x)
negation-coded w x =
    let r = code_read w x in
    ap (known w) (code_same w (neg_ℤ (pos (code w x))) (neg_ℤ x) r.0 r.1 (omega (arith, neg_is, r.2)))
