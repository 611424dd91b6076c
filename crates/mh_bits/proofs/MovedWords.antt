-- Words whose bits move.
use Rattle.std.proofs.Common.{ℕ, suc, ◌+◌, ◌-◌, ◌*◌, ◌/◌, ◌%◌, ◌^◌, ◌<◌, ◌≤◌, ◌≡◌, refl, sym, ap, ◌∙◌, true, false, cond, ltb, bit_or, inl, inr, arith}
use Rattle.std.specs.Int.{bit_at, from_bool}
use Rattle.std.proofs.lemmas.Bool.{cases_lt, cond-true, cond-false}
use Rattle.std.proofs.lemmas.Bool.Decides.{nat_tests}
use Rattle.std.proofs.lemmas.Nat.{pow_pos, pow-add, mod_below, shl_whole, or_shifted, mul-add-lt}
use Rattle.std.proofs.lemmas.Nat.Bits.{bit_at-zero, bit_at_above, bit_at_cat_low, bit_at_cat_high, bit_at_ones}
use Rattle.mh_codes.proofs.Powers.{twice, wider}
use Rattle.mh_bits.specs.Vector.{word}
use Rattle.mh_bits.proofs.WordBits.{word_is, word-same, bit_at-mod, bit_at-shr, bit_at-shl_low, bit_at-shl_high}

-- a choice by the order of two numbers
pub chosen : {A : Type 0} (k n : ℕ) (x y z : A) → (k < n → z ≡ x) → (n ≤ k → z ≡ y) → z ≡ cond (ltb k n) x y
chosen k n x y z below above =
    elim (cases_lt k n) [
      | inl l ↦ below l ∙ sym (cond-true (ltb k n) x y (grind (arith, nat_tests)))
      | inr l ↦ above l ∙ sym (cond-false (ltb k n) x y (grind (arith, nat_tests)))
    ]

-- the top bit of a word
pub top_bit : (w n : ℕ) → 1 ≤ w → n < 2 ^ w → from_bool (ltb (2 ^ (w - 1) - 1) n) ≡ bit_at n (w - 1)
top_bit w n some within =
    let h = 2 ^ (w - 1) in
    let p = pow_pos (w - 1) in
    let e : w ≡ suc (w - 1) = omega arith in
    let whole = ap (λ k. 2 ^ k) e ∙ twice (w - 1) in
    elim (cases_lt n h) [
      | inl l ↦ ap from_bool (below (omega arith)) ∙ sym (bit_at_above n (w - 1) (w - 1) l (omega arith))
      | inr l ↦
          let none : w - 1 - (w - 1) ≡ 0 = omega arith in
          let is : n ≡ 1 * h + (n - h) = omega arith in
          ap from_bool (above (omega arith)) ∙ sym (ap (λ m. bit_at m (w - 1)) is ∙ bit_at_cat_high 1 (w - 1) (n - h) (w - 1) (omega arith) (omega arith) ∙ ap (bit_at 1) none)
    ]
  where
    below : n ≤ 2 ^ (w - 1) - 1 → ltb (2 ^ (w - 1) - 1) n ≡ false
    below l = grind (arith, nat_tests)

    above : 2 ^ (w - 1) - 1 < n → ltb (2 ^ (w - 1) - 1) n ≡ true
    above l = grind (arith, nat_tests)

pub moved_left : (n amount w : ℕ) → (n * 2 ^ amount) % 2 ^ w ≡ word (λ k. cond (ltb k amount) 0 (bit_at n (k - amount))) w
moved_left n amount w =
    word_is ((n * 2 ^ amount) % 2 ^ w) w (λ k. cond (ltb k amount) 0 (bit_at n (k - amount))) (mod_below (n * 2 ^ amount) (2 ^ w) (pow_pos w))
    (λ k l. bit_at-mod (n * 2 ^ amount) w k l ∙ chosen k amount 0 (bit_at n (k - amount)) (bit_at (n * 2 ^ amount) k) (λ below. bit_at-shl_low n amount k below) (λ above. bit_at-shl_high n amount k above))

pub moved_out : (n amount w : ℕ) → w ≤ amount → 0 ≡ word (λ k. cond (ltb k amount) 0 (bit_at n (k - amount))) w
moved_out n amount w far =
    word_is 0 w (λ k. cond (ltb k amount) 0 (bit_at n (k - amount))) (pow_pos w)
    (λ k l. chosen k amount 0 (bit_at n (k - amount)) (bit_at 0 k) (λ below. bit_at-zero k) (λ above. absurd (omega arith)))

-- a wider word, with 0 or with 1 above
pub extended_low : (n w v : ℕ) → w ≤ v → n < 2 ^ w → n ≡ word (λ k. cond (ltb k w) (bit_at n k) 0) v
extended_low n w v upto within =
    let p = wider w v upto in
    word_is n v (λ k. cond (ltb k w) (bit_at n k) 0) (omega arith)
    (λ k l. chosen k w (bit_at n k) 0 (bit_at n k) (λ below. refl) (λ above. bit_at_above n w k within above))

pub extended_high : (n w v : ℕ) → w ≤ v → n < 2 ^ w → n + (2 ^ v - 2 ^ w) ≡ word (λ k. cond (ltb k w) (bit_at n k) 1) v
extended_high n w v upto within =
    let p = wider w v upto in
    let e : v ≡ v - w + w = omega arith in
    let power = ap (λ k. 2 ^ k) e ∙ pow-add 2 (v - w) w in
    let some = pow_pos (v - w) in
    let less : 2 ^ (v - w) ≡ (2 ^ (v - w) - 1) + 1 = omega arith in
    let parts = ap (λ k. k * 2 ^ w) less in
    let is : n + (2 ^ v - 2 ^ w) ≡ (2 ^ (v - w) - 1) * 2 ^ w + n = omega arith in
    word_is (n + (2 ^ v - 2 ^ w)) v (λ k. cond (ltb k w) (bit_at n k) 1) (omega arith)
    (λ k l. ap (λ m. bit_at m k) is ∙ chosen k w (bit_at n k) 1 (bit_at ((2 ^ (v - w) - 1) * 2 ^ w + n) k)
    (λ below. bit_at_cat_low (2 ^ (v - w) - 1) w n k below)
    (λ above. bit_at_cat_high (2 ^ (v - w) - 1) w n k within above ∙ bit_at_ones (v - w) (k - w) (omega arith)))

-- the word that a shift right leaves is extended to its width again
pub moved_right : (n amount w d : ℕ) → amount ≤ w → word (λ k. cond (ltb k (w - amount)) (bit_at (n / 2 ^ amount) k) d) w ≡ word (λ k. cond (ltb (k + amount) w) (bit_at n (k + amount)) d) w
moved_right n amount w d upto =
    word-same (λ k. cond (ltb k (w - amount)) (bit_at (n / 2 ^ amount) k) d) (λ k. cond (ltb (k + amount) w) (bit_at n (k + amount)) d) w
    (λ k l. sym (chosen k (w - amount) (bit_at (n / 2 ^ amount) k) d (cond (ltb (k + amount) w) (bit_at n (k + amount)) d)
    (λ below. cond-true (ltb (k + amount) w) (bit_at n (k + amount)) d (grind (arith, nat_tests)) ∙ sym (bit_at-shr n amount k))
    (λ above. cond-false (ltb (k + amount) w) (bit_at n (k + amount)) d (grind (arith, nat_tests)))))

-- a part of a word
pub part_of : (n lo w : ℕ) → n / 2 ^ lo % 2 ^ w ≡ word (λ k. bit_at n (lo + k)) w
part_of n lo w =
    word_is (n / 2 ^ lo % 2 ^ w) w (λ k. bit_at n (lo + k)) (mod_below (n / 2 ^ lo) (2 ^ w) (pow_pos w))
    (λ k l. let turned : k + lo ≡ lo + k = omega arith in bit_at-mod (n / 2 ^ lo) w k l ∙ bit_at-shr n lo k ∙ ap (bit_at n) turned)

-- one word above another
pub joined_sum : (a b w v : ℕ) → a < 2 ^ v → b < 2 ^ w → a * 2 ^ w + b ≡ word (λ k. cond (ltb k w) (bit_at b k) (bit_at a (k - w))) (v + w)
joined_sum a b w v p q =
    let fits = mul-add-lt a (2 ^ w) b (2 ^ v) p q in
    let e : v + w ≡ w + v = omega arith in
    let power = ap (λ k. 2 ^ k) e ∙ pow-add 2 w v in
    word_is (a * 2 ^ w + b) (v + w) (λ k. cond (ltb k w) (bit_at b k) (bit_at a (k - w))) (omega arith)
    (λ k l. chosen k w (bit_at b k) (bit_at a (k - w)) (bit_at (a * 2 ^ w + b) k)
    (λ below. bit_at_cat_low a w b k below)
    (λ above. bit_at_cat_high a w b k q above))

pub joined_words : (a b w v : ℕ) → w + v ≤ 128 → a < 2 ^ v → b < 2 ^ w → bit_or (a * 2 ^ w % 2 ^ 128) b ≡ word (λ k. cond (ltb k w) (bit_at b k) (bit_at a (k - w))) (v + w)
joined_words a b w v most p q = ap (λ m. bit_or m b) (shl_whole a v w 128 p (omega arith)) ∙ or_shifted a w b q ∙ joined_sum a b w v p q
