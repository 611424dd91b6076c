-- Parts of extensions and of concatenations; bits that absorb x.
use Rattle.std.proofs.Common.{ℕ, ◌+◌, ◌-◌, ◌<◌, ◌≤◌, ◌≡◌, refl, ap, ◌∙◌, Bool, cond, ltb, arith}
use Rattle.std.proofs.lemmas.Bool.{cond-true, cond-false}
use Rattle.std.proofs.lemmas.Bool.Decides.{nat_tests}
use Rattle.mh_bits.specs.declared.values.BinOp.TheVariants.{And, Or}
use Rattle.mh_bits.specs.Vector.{Bit, low, high, unknown, Vector, IsVector, bit, gathered}
use Rattle.mh_bits.specs.Operators.{binary_of, extended, selected, joined, fill, and_bit, or_bit}
use Rattle.mh_bits.proofs.Gathered.{bit-gathered, gathered-bit, gathered-same}

-- the whole of a vector
pub selected-whole : (a : Vector) → IsVector a → selected a (a.width - 1) 0 ≡ a
selected-whole a p =
    let some = p.some_bits in
    let e : a.width - 1 + 1 - 0 ≡ a.width = omega arith in
    ap (λ w. gathered w (λ k. bit a (0 + k))) e ∙ gathered-same a.width (λ k. bit a (0 + k)) (bit a) (λ k l. let z : 0 + k ≡ k = omega arith in ap (bit a) z) ∙ gathered-bit a p

-- a part of an extension within the vector
pub selected-extended : (a : Vector) (w : ℕ) (s : Bool) (hi lo : ℕ) → a.width ≤ w → hi < a.width → selected (extended a w s) hi lo ≡ selected a hi lo
selected-extended a w s hi lo upto within =
    gathered-same (hi + 1 - lo) (λ k. bit (extended a w s) (lo + k)) (λ k. bit a (lo + k))
    (λ k l. bit-gathered w (λ k. cond (ltb k a.width) (bit a k) (fill s a)) (lo + k) (omega arith) ∙ cond-true (ltb (lo + k) a.width) (bit a (lo + k)) (fill s a) (grind (arith, nat_tests)))

pub selected-extended_whole : (a : Vector) (w : ℕ) (s : Bool) → IsVector a → a.width ≤ w → selected (extended a w s) (a.width - 1) 0 ≡ a
selected-extended_whole a w s p upto = let some = p.some_bits in selected-extended a w s (a.width - 1) 0 upto (omega arith) ∙ selected-whole a p

-- an extension to its own width
pub extended-same : (a : Vector) (s : Bool) → IsVector a → extended a a.width s ≡ a
extended-same a s p =
    gathered-same a.width (λ k. cond (ltb k a.width) (bit a k) (fill s a)) (bit a) (λ k l. cond-true (ltb k a.width) (bit a k) (fill s a) (grind (arith, nat_tests))) ∙ gathered-bit a p

-- rows of the tables
low_first : (x : Bit) → and_bit low x ≡ low
low_first low = refl
low_first high = refl
low_first unknown = refl

low_second : (x : Bit) → and_bit x low ≡ low
low_second low = refl
low_second high = refl
low_second unknown = refl

high_first : (x : Bit) → or_bit high x ≡ high
high_first low = refl
high_first high = refl
high_first unknown = refl

high_second : (x : Bit) → or_bit x high ≡ high
high_second low = refl
high_second high = refl
high_second unknown = refl

module _ (a b : Vector) where
  bit-joined : (k : ℕ) → k < a.width + b.width → bit (joined a b) k ≡ cond (ltb k b.width) (bit b k) (bit a (k - b.width))
  bit-joined k l = bit-gathered (a.width + b.width) (λ k. cond (ltb k b.width) (bit b k) (bit a (k - b.width))) k l

  -- a part of a concatenation within the lower vector, and within the upper one
  pub selected-joined_low : (hi lo : ℕ) → hi < b.width → selected (joined a b) hi lo ≡ selected b hi lo
  selected-joined_low hi lo within =
      gathered-same (hi + 1 - lo) (λ k. bit (joined a b) (lo + k)) (λ k. bit b (lo + k))
      (λ k l. bit-joined (lo + k) (omega arith) ∙ cond-true (ltb (lo + k) b.width) (bit b (lo + k)) (bit a (lo + k - b.width)) (grind (arith, nat_tests)))

  pub selected-joined_high : (hi lo : ℕ) → b.width ≤ lo → lo ≤ hi → hi < a.width + b.width → selected (joined a b) hi lo ≡ selected a (hi - b.width) (lo - b.width)
  selected-joined_high hi lo from order within =
      let e : hi + 1 - lo ≡ hi - b.width + 1 - (lo - b.width) = omega arith in
      gathered-same (hi + 1 - lo) (λ k. bit (joined a b) (lo + k)) (λ k. bit a (lo - b.width + k))
      (λ k l. bit-joined (lo + k) (omega arith) ∙ cond-false (ltb (lo + k) b.width) (bit b (lo + k)) (bit a (lo + k - b.width)) (grind (arith, nat_tests)) ∙ (let f : lo + k - b.width ≡ lo - b.width + k = omega arith in ap (bit a) f))
      ∙ ap (λ w. gathered w (λ k. bit a (lo - b.width + k))) e

  pub selected-joined_second : IsVector b → selected (joined a b) (b.width - 1) 0 ≡ b
  selected-joined_second q = let some = q.some_bits in selected-joined_low (b.width - 1) 0 (omega arith) ∙ selected-whole b q

  pub selected-joined_first : IsVector a → selected (joined a b) (a.width + b.width - 1) b.width ≡ a
  selected-joined_first p =
      let some = p.some_bits in
      let e : a.width + b.width - 1 - b.width ≡ a.width - 1 = omega arith in
      let f : b.width - b.width ≡ 0 = omega arith in
      selected-joined_high (a.width + b.width - 1) b.width (omega arith) (omega arith) (omega arith) ∙ ap (λ hi. selected a hi (b.width - b.width)) e ∙ ap (selected a (a.width - 1)) f ∙ selected-whole a p

  -- 0 absorbs every bit in `&`, and 1 in `|`
  pub bit-and_first : (s : Bool) (k : ℕ) → k < a.width → bit a k ≡ low → bit (binary_of And a b s) k ≡ low
  bit-and_first s k l e = bit-gathered a.width (λ k. and_bit (bit a k) (bit b k)) k l ∙ ap (λ x. and_bit x (bit b k)) e ∙ low_first (bit b k)

  pub bit-and_second : (s : Bool) (k : ℕ) → k < a.width → bit b k ≡ low → bit (binary_of And a b s) k ≡ low
  bit-and_second s k l e = bit-gathered a.width (λ k. and_bit (bit a k) (bit b k)) k l ∙ ap (and_bit (bit a k)) e ∙ low_second (bit a k)

  pub bit-or_first : (s : Bool) (k : ℕ) → k < a.width → bit a k ≡ high → bit (binary_of Or a b s) k ≡ high
  bit-or_first s k l e = bit-gathered a.width (λ k. or_bit (bit a k) (bit b k)) k l ∙ ap (λ x. or_bit x (bit b k)) e ∙ high_first (bit b k)

  pub bit-or_second : (s : Bool) (k : ℕ) → k < a.width → bit b k ≡ high → bit (binary_of Or a b s) k ≡ high
  bit-or_second s k l e = bit-gathered a.width (λ k. or_bit (bit a k) (bit b k)) k l ∙ ap (or_bit (bit a k)) e ∙ high_second (bit a k)
