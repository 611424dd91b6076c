-- Vectors and their bits.
use Rattle.std.proofs.Common.{ℕ, zero, suc, ◌<◌, ◌≤◌, ◌≡◌, refl, sym, ap, ◌∙◌, subst, arith, bit_and, min}
use Rattle.std.specs.Int.{bit_at}
use Rattle.std.proofs.lemmas.Nat.{pow_pos, and_le_l}
use Rattle.std.proofs.lemmas.Nat.Bits.{bit_at-lt, bit_at-zero, bit_at_and, same_from_bits_below}
use Rattle.mh_bits.specs.Vector.{Bit, low, high, unknown, high_digit, unknown_digit, bit_from, Vector, vector_from, IsVector, bit, word, gathered}
use Rattle.mh_bits.proofs.WordBits.{word_below, bit_at-word, word_is, word-same}

-- digits of a bit
pub high_digit-lt : (x : Bit) → high_digit x < 2
high_digit-lt low = omega arith
high_digit-lt high = omega arith
high_digit-lt unknown = omega arith

pub unknown_digit-lt : (x : Bit) → unknown_digit x < 2
unknown_digit-lt low = omega arith
unknown_digit-lt high = omega arith
unknown_digit-lt unknown = omega arith

digits-apart : (x : Bit) → min (high_digit x) (unknown_digit x) ≡ 0
digits-apart low = refl
digits-apart high = refl
digits-apart unknown = refl

bit_from-digits : (x : Bit) → bit_from (unknown_digit x) (high_digit x) ≡ x
bit_from-digits low = refl
bit_from-digits high = refl
bit_from-digits unknown = refl

unknown_digit-from : (u n : ℕ) → u < 2 → unknown_digit (bit_from u n) ≡ u
unknown_digit-from zero zero h = refl
unknown_digit-from zero (suc n) h = refl
unknown_digit-from (suc u) n h = omega arith

high_digit-from : (u n : ℕ) → n < 2 → min n u ≡ 0 → high_digit (bit_from u n) ≡ n
high_digit-from zero zero h e = refl
high_digit-from zero (suc n) h e = omega arith
high_digit-from (suc u) n h e = omega arith

-- the digits of a vector's bits are those of its words
pub unknown_digit-bit : (v : Vector) (k : ℕ) → unknown_digit (bit v k) ≡ bit_at v.unk k
unknown_digit-bit v k = unknown_digit-from (bit_at v.unk k) (bit_at v.val k) (bit_at-lt v.unk k)

pub high_digit-bit : (v : Vector) → bit_and v.val v.unk ≡ 0 → (k : ℕ) → high_digit (bit v k) ≡ bit_at v.val k
high_digit-bit v apart k =
    high_digit-from (bit_at v.unk k) (bit_at v.val k) (bit_at-lt v.val k) (sym (bit_at_and v.val v.unk k) ∙ ap (λ n. bit_at n k) apart ∙ bit_at-zero k)

-- two words with the digits of given bits are the vector of those bits
pub gathered_is : (w val unk : ℕ) (f : ℕ → Bit) → val ≡ word (λ k. high_digit (f k)) w → unk ≡ word (λ k. unknown_digit (f k)) w → vector_from w val unk ≡ gathered w f
gathered_is w val unk f e g = cc

module _ (w : ℕ) (f : ℕ → Bit) where
  high_word : (k : ℕ) → k < w → bit_at (gathered w f).val k ≡ high_digit (f k)
  high_word k l = bit_at-word (λ k. high_digit (f k)) w k (λ i h. high_digit-lt (f i)) l

  unknown_word : (k : ℕ) → k < w → bit_at (gathered w f).unk k ≡ unknown_digit (f k)
  unknown_word k l = bit_at-word (λ k. unknown_digit (f k)) w k (λ i h. unknown_digit-lt (f i)) l

  pub bit-gathered : (k : ℕ) → k < w → bit (gathered w f) k ≡ f k
  bit-gathered k l =
      ap (λ u. bit_from u (bit_at (gathered w f).val k)) (unknown_word k l) ∙ ap (bit_from (unknown_digit (f k))) (high_word k l) ∙ bit_from-digits (f k)

  words-apart : bit_and (gathered w f).val (gathered w f).unk ≡ 0
  words-apart =
      let a = (gathered w f).val in
      let b = (gathered w f).unk in
      let within = word_below (λ k. high_digit (f k)) w (λ i h. high_digit-lt (f i)) in
      let less = and_le_l a b in
      let p = pow_pos w in
      same_from_bits_below w (bit_and a b) 0 (omega arith) p
      (λ k l. bit_at_and a b k ∙ ap (λ n. min n (bit_at b k)) (high_word k l) ∙ ap (min (high_digit (f k))) (unknown_word k l) ∙ digits-apart (f k) ∙ sym (bit_at-zero k))

  pub IsVector-gathered : 1 ≤ w → w ≤ 128 → IsVector (gathered w f)
  IsVector-gathered some most = record {
    some_bits = some;
    word_bits = most;
    val_within = word_below (λ k. high_digit (f k)) w (λ i h. high_digit-lt (f i));
    unk_within = word_below (λ k. unknown_digit (f k)) w (λ i h. unknown_digit-lt (f i));
    apart = words-apart;
  }

-- a vector is the one of its bits
pub gathered-bit : (v : Vector) → IsVector v → gathered v.width (bit v) ≡ v
gathered-bit v h =
    sym (gathered_is v.width v.val v.unk (bit v)
    (word_is v.val v.width (λ k. high_digit (bit v k)) h.val_within (λ k l. sym (high_digit-bit v h.apart k)))
    (word_is v.unk v.width (λ k. unknown_digit (bit v k)) h.unk_within (λ k l. sym (unknown_digit-bit v k))))

pub gathered-same : (w : ℕ) (f g : ℕ → Bit) → ((k : ℕ) → k < w → f k ≡ g k) → gathered w f ≡ gathered w g
gathered-same w f g h =
    let e = word-same (λ k. high_digit (f k)) (λ k. high_digit (g k)) w (λ k l. ap high_digit (h k l)) in
    let d = word-same (λ k. unknown_digit (f k)) (λ k. unknown_digit (g k)) w (λ k l. ap unknown_digit (h k l)) in
    gathered_is w (gathered w f).val (gathered w f).unk g e d

-- the law of bits: two vectors of one width with the same bits are equal
pub same_from_bits : (v u : Vector) → IsVector v → IsVector u → v.width ≡ u.width → ((k : ℕ) → k < v.width → bit v k ≡ bit u k) → v ≡ u
same_from_bits v u p q e h =
    sym (gathered-bit v p) ∙ gathered-same v.width (bit v) (bit u) h ∙ ap (λ w. gathered w (bit u)) e ∙ gathered-bit u q

-- a vector is the one of given bits where each of its bits is as given
pub gathered_from_bits : (v : Vector) (f : ℕ → Bit) → IsVector v → ((k : ℕ) → k < v.width → bit v k ≡ f k) → v ≡ gathered v.width f
gathered_from_bits v f p h = sym (gathered-bit v p) ∙ gathered-same v.width (bit v) f h

-- a vector of given bits is valid
pub valid_from : (v : Vector) (w : ℕ) (f : ℕ → Bit) → v ≡ gathered w f → 1 ≤ w → w ≤ 128 → IsVector v
valid_from v w f e some most = subst IsVector (sym e) (IsVector-gathered w f some most)
