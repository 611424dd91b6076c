-- Vectors whose words are chosen bit by bit.
use Rattle.std.proofs.Common.{ℕ, ◌+◌, ◌-◌, ◌≡◌, refl, sym, ap, ◌∙◌, Bool, true, false, cond, ltb, bit_and}
use Rattle.std.specs.Int.{bit_at, from_bool}
use Rattle.mh_bits.specs.Vector.{Bit, low, high_digit, unknown_digit, Vector, vector_from, bit, word, gathered}
use Rattle.mh_bits.specs.Operators.{fill, shifted_left, shifted_right, extended, selected, joined}
use Rattle.mh_bits.proofs.WordBits.{word-same}
use Rattle.mh_bits.proofs.Gathered.{gathered_is, high_digit-bit, unknown_digit-bit}

-- a digit of a choice is the choice of the digits
pub digit-cond : (digit : Bit → ℕ) (b : Bool) (x y : Bit) (m n : ℕ) → m ≡ digit x → n ≡ digit y → cond b m n ≡ digit (cond b x y)
digit-cond digit true x y m n p q = p
digit-cond digit false x y m n p q = q

-- Two words made by one choice, from the digits of x and of y, are the vector of the chosen bits.
pub chosen_words : (w val unk : ℕ) (c : ℕ → Bool) (x y : ℕ → Bit) (m n i j : ℕ → ℕ)
    → val ≡ word (λ k. cond (c k) (m k) (n k)) w → unk ≡ word (λ k. cond (c k) (i k) (j k)) w
    → ((k : ℕ) → m k ≡ high_digit (x k)) → ((k : ℕ) → n k ≡ high_digit (y k)) → ((k : ℕ) → i k ≡ unknown_digit (x k)) → ((k : ℕ) → j k ≡ unknown_digit (y k))
    → vector_from w val unk ≡ gathered w (λ k. cond (c k) (x k) (y k))
chosen_words w val unk c x y m n i j is_val is_unk p q r s =
    gathered_is w val unk (λ k. cond (c k) (x k) (y k))
    (is_val ∙ word-same (λ k. cond (c k) (m k) (n k)) (λ k. high_digit (cond (c k) (x k) (y k))) w (λ k l. digit-cond high_digit (c k) (x k) (y k) (m k) (n k) (p k) (q k)))
    (is_unk ∙ word-same (λ k. cond (c k) (i k) (j k)) (λ k. unknown_digit (cond (c k) (x k) (y k))) w (λ k l. digit-cond unknown_digit (c k) (x k) (y k) (i k) (j k) (r k) (s k)))

module _ (a : Vector) (apart : bit_and a.val a.unk ≡ 0) where
  -- the digits of a's bits, those of x bits, and 0
  ones : (from : ℕ → ℕ) (k : ℕ) → bit_at a.val (from k) ≡ high_digit (bit a (from k))
  ones from k = sym (high_digit-bit a apart (from k))

  xs : (from : ℕ → ℕ) (k : ℕ) → bit_at a.unk (from k) ≡ unknown_digit (bit a (from k))
  xs from k = sym (unknown_digit-bit a (from k))

  -- the digits of what fills vacated places
  fill_one : (s : Bool) → cond s (bit_at a.val (a.width - 1)) 0 ≡ high_digit (fill s a)
  fill_one s = digit-cond high_digit s (bit a (a.width - 1)) low (bit_at a.val (a.width - 1)) 0 (ones (λ k. k) (a.width - 1)) refl

  fill_x : (s : Bool) → cond s (bit_at a.unk (a.width - 1)) 0 ≡ unknown_digit (fill s a)
  fill_x s = digit-cond unknown_digit s (bit a (a.width - 1)) low (bit_at a.unk (a.width - 1)) 0 (xs (λ k. k) (a.width - 1)) refl

  pub left_words : (n val unk : ℕ)
      → val ≡ word (λ k. cond (ltb k n) 0 (bit_at a.val (k - n))) a.width → unk ≡ word (λ k. cond (ltb k n) 0 (bit_at a.unk (k - n))) a.width
      → vector_from a.width val unk ≡ shifted_left a n
  left_words n val unk e d =
      chosen_words a.width val unk (λ k. ltb k n) (λ k. low) (λ k. bit a (k - n)) (λ k. 0) (λ k. bit_at a.val (k - n)) (λ k. 0) (λ k. bit_at a.unk (k - n))
      e d (λ k. refl) (ones (λ k. k - n)) (λ k. refl) (xs (λ k. k - n))

  pub right_words : (s : Bool) (n val unk : ℕ) (one x : Bool)
      → from_bool one ≡ cond s (bit_at a.val (a.width - 1)) 0 → from_bool x ≡ cond s (bit_at a.unk (a.width - 1)) 0
      → val ≡ word (λ k. cond (ltb (k + n) a.width) (bit_at a.val (k + n)) (from_bool one)) a.width
      → unk ≡ word (λ k. cond (ltb (k + n) a.width) (bit_at a.unk (k + n)) (from_bool x)) a.width
      → vector_from a.width val unk ≡ shifted_right (fill s a) a n
  right_words s n val unk one x is_one is_x e d =
      chosen_words a.width val unk (λ k. ltb (k + n) a.width) (λ k. bit a (k + n)) (λ k. fill s a) (λ k. bit_at a.val (k + n)) (λ k. from_bool one) (λ k. bit_at a.unk (k + n)) (λ k. from_bool x)
      e d (ones (λ k. k + n)) (λ k. is_one ∙ fill_one s) (xs (λ k. k + n)) (λ k. is_x ∙ fill_x s)

  pub extended_words : (s : Bool) (w val unk : ℕ) (one x : Bool)
      → from_bool one ≡ cond s (bit_at a.val (a.width - 1)) 0 → from_bool x ≡ cond s (bit_at a.unk (a.width - 1)) 0
      → val ≡ word (λ k. cond (ltb k a.width) (bit_at a.val k) (from_bool one)) w
      → unk ≡ word (λ k. cond (ltb k a.width) (bit_at a.unk k) (from_bool x)) w
      → vector_from w val unk ≡ extended a w s
  extended_words s w val unk one x is_one is_x e d =
      chosen_words w val unk (λ k. ltb k a.width) (bit a) (λ k. fill s a) (bit_at a.val) (λ k. from_bool one) (bit_at a.unk) (λ k. from_bool x)
      e d (ones (λ k. k)) (λ k. is_one ∙ fill_one s) (xs (λ k. k)) (λ k. is_x ∙ fill_x s)

  pub selected_words : (hi lo w val unk : ℕ) → w ≡ hi + 1 - lo
      → val ≡ word (λ k. bit_at a.val (lo + k)) w → unk ≡ word (λ k. bit_at a.unk (lo + k)) w
      → vector_from w val unk ≡ selected a hi lo
  selected_words hi lo w val unk width e d =
      gathered_is w val unk (λ k. bit a (lo + k))
      (e ∙ word-same (λ k. bit_at a.val (lo + k)) (λ k. high_digit (bit a (lo + k))) w (λ k l. ones (λ k. lo + k) k))
      (d ∙ word-same (λ k. bit_at a.unk (lo + k)) (λ k. unknown_digit (bit a (lo + k))) w (λ k l. xs (λ k. lo + k) k))
      ∙ ap (λ v. gathered v (λ k. bit a (lo + k))) width

  pub joined_words : (b : Vector) → bit_and b.val b.unk ≡ 0 → (val unk : ℕ)
      → val ≡ word (λ k. cond (ltb k b.width) (bit_at b.val k) (bit_at a.val (k - b.width))) (a.width + b.width)
      → unk ≡ word (λ k. cond (ltb k b.width) (bit_at b.unk k) (bit_at a.unk (k - b.width))) (a.width + b.width)
      → vector_from (a.width + b.width) val unk ≡ joined a b
  joined_words b q val unk e d =
      chosen_words (a.width + b.width) val unk (λ k. ltb k b.width) (bit b) (λ k. bit a (k - b.width)) (bit_at b.val) (λ k. bit_at a.val (k - b.width)) (bit_at b.unk) (λ k. bit_at a.unk (k - b.width))
      e d (λ k. sym (high_digit-bit b q k)) (ones (λ k. k - b.width)) (λ k. sym (unknown_digit-bit b k)) (xs (λ k. k - b.width))
