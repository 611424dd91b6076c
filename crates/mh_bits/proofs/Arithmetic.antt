-- Sums, differences and products of words, cut to a width.
use Rattle.std.proofs.Common.{ℕ, zero, suc, pos, negsuc, ◌+◌, ◌-◌, ◌*◌, ◌%◌, ◌^◌, ◌<◌, ◌≤◌, ◌+ℤ◌, ◌-ℤ◌, ◌*ℤ◌, neg_ℤ, ◌≡◌, refl, sym, ap, ◌∙◌, Bool, arith}
use Rattle.std.proofs.Math.Nat.{mod-eq_of_lt}
use Rattle.mh_codes.specs.Codes.{code, number}
use Rattle.mh_codes.proofs.Codes.{code-add, code-sub, code-mul, code_cut}
use Rattle.mh_codes.proofs.Numbers.{code-number}
use Rattle.mh_codes.proofs.Powers.{wider}

module _ (w m n : ℕ) (most : w ≤ 128) (p : m < 2 ^ w) (q : n < 2 ^ w) (s : Bool) where
  -- the operands' words at a width
  codes : (f : ℕ → ℕ → ℕ) → f m n ≡ f (code w (number s w m)) (code w (number s w n))
  codes f = ap (λ k. f k n) (sym (code-number s w m p)) ∙ ap (f (code w (number s w m))) (sym (code-number s w n q))

  pub sum_word : (m + n) % 2 ^ 128 % 2 ^ w ≡ code w (number s w m +ℤ number s w n)
  sum_word = code_cut 128 w (pos (m + n)) most ∙ codes (λ i j. (i + j) % 2 ^ w) ∙ sym (code-add w (number s w m) (number s w n))

  pub product_word : (m * n) % 2 ^ 128 % 2 ^ w ≡ code w (number s w m *ℤ number s w n)
  product_word = code_cut 128 w (pos (m * n)) most ∙ codes (λ i j. (i * j) % 2 ^ w) ∙ sym (code-mul w (number s w m) (number s w n))

  pub difference_word : (m + (2 ^ 128 - n)) % 2 ^ 128 % 2 ^ w ≡ code w (number s w m -ℤ number s w n)
  difference_word =
      ap (λ k. k % 2 ^ w) (in_word 128 (whole m p) (whole n q)) ∙ code_cut 128 w (pos m -ℤ pos n) most ∙ sym (in_word w p q) ∙ codes (λ i j. (i + (2 ^ w - j)) % 2 ^ w) ∙ sym (code-sub w (number s w m) (number s w n))
    where
      whole : (k : ℕ) → k < 2 ^ w → k < 2 ^ 128
      whole k h = let l = wider w 128 most in omega arith

      in_word : (v : ℕ) → m < 2 ^ v → n < 2 ^ v → (m + (2 ^ v - n)) % 2 ^ v ≡ code v (pos m -ℤ pos n)
      in_word v a b = ap (λ i. (i + (2 ^ v - n)) % 2 ^ v) (sym (mod-eq_of_lt a)) ∙ ap (λ j. (m % 2 ^ v + (2 ^ v - j)) % 2 ^ v) (sym (mod-eq_of_lt b)) ∙ sym (code-sub v (pos m) (pos n))

-- a magnitude below 2 ^ 128 and its negation
pub negated_word : (w n : ℕ) → w ≤ 128 → n < 2 ^ 128 → (0 + (2 ^ 128 - n)) % 2 ^ 128 % 2 ^ w ≡ code w (neg_ℤ (pos n))
negated_word w zero most h = refl
negated_word w (suc n) most h =
    let whole : (0 + (2 ^ 128 - suc n)) % 2 ^ 128 ≡ 2 ^ 128 - 1 - n = mod-eq_of_lt (omega arith) ∙ omega arith in
    let cut : 2 ^ 128 - 1 - n ≡ code 128 (negsuc n) = ap (λ k. 2 ^ 128 - 1 - k) (sym (mod-eq_of_lt (omega arith))) in
    ap (λ k. k % 2 ^ w) (whole ∙ cut) ∙ code_cut 128 w (negsuc n) most
