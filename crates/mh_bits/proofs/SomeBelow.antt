-- A word is 0 where no digit is 1: tests of vectors.
use Rattle.std.proofs.Common.{ℕ, zero, suc, ◌+◌, ◌*◌, ◌^◌, ◌<◌, ◌≡◌, refl, sym, ap, ◌∙◌, Bool, true, false, cond, not, ◌&&◌, ◌||◌, eqb, bit_or, inl, inr, ◌↔◌, arith}
use Rattle.std.specs.Int.{from_bool}
use Rattle.std.proofs.lemmas.Bool.{cases_lt}
use Rattle.std.proofs.lemmas.Bool.Decides.{nat_tests}
use Rattle.std.proofs.lemmas.Nat.{pow_pos, le_or_l, le_or_r}
use Rattle.mh_bits.specs.Vector.{Bit, low, high, unknown, high_digit, Vector, IsVector, bit, word, some_below}
use Rattle.mh_bits.specs.Operators.{is_high, truth_of, equality, differs}
use Rattle.mh_bits.proofs.WordBits.{word-same}
use Rattle.mh_bits.proofs.Gathered.{gathered-bit}

pub word_none : (p : ℕ → Bool) (w : ℕ) → eqb (word (λ k. from_bool (p k)) w) 0 ≡ not (some_below p w)
unfolding word some_below
word_none p zero = refl
word_none p (suc w) = by (p w) (word_none p w)
  where
    by : (b : Bool) → eqb (word (λ k. from_bool (p k)) w) 0 ≡ not (some_below p w) → eqb (word (λ k. from_bool (p k)) w + from_bool b * 2 ^ w) 0 ≡ not (b || some_below p w)
    by true e = let p = pow_pos w in grind (arith, nat_tests)
    by false e = let s : word (λ k. from_bool (p k)) w + 0 * 2 ^ w ≡ word (λ k. from_bool (p k)) w = omega arith in ap (λ n. eqb n 0) s ∙ e

high_digit-is : (x : Bit) → high_digit x ≡ from_bool (is_high x)
high_digit-is low = refl
high_digit-is high = refl
high_digit-is unknown = refl

not-not : (b : Bool) → not (not b) ≡ b
not-not true = refl
not-not false = refl

-- some bit is 1 where the word of 1 bits isn't 0
pub truth_of-val : (a : Vector) → IsVector a → truth_of a ≡ not (eqb a.val 0)
truth_of-val a p =
    let ones = word-same (λ k. high_digit (bit a k)) (λ k. from_bool (is_high (bit a k))) a.width (λ k l. high_digit-is (bit a k)) in
    let is = ap (λ v. v.val) (gathered-bit a p) in
    sym (ap (λ n. not (eqb n 0)) (sym is ∙ ones) ∙ ap not (word_none (λ k. is_high (bit a k)) a.width) ∙ not-not (truth_of a))

-- what holds of some place
some_below-place : (p : ℕ → Bool) (w : ℕ) → some_below p w ≡ true → (k : ℕ) × (k < w) × (p k ≡ true)
unfolding some_below
some_below-place p zero e = absurd (cc)
some_below-place p (suc w) e = by (p w) refl e (some_below-place p w)
  where
    by : (b : Bool) → p w ≡ b → (b || some_below p w) ≡ true → (some_below p w ≡ true → (k : ℕ) × (k < w) × (p k ≡ true)) → (k : ℕ) × (k < suc w) × (p k ≡ true)
    by true h e below = (w, omega arith, h)
    by false h e below = let r = below e in (r.0, omega arith, r.2)

some_below-true : (p : ℕ → Bool) (w k : ℕ) → k < w → p k ≡ true → some_below p w ≡ true
unfolding some_below
some_below-true p zero k l e = absurd (omega arith)
some_below-true p (suc w) k l e = by (p w) refl (λ h. some_below-true p w k h e)
  where
    by : (b : Bool) → p w ≡ b → (k < w → some_below p w ≡ true) → (b || some_below p w) ≡ true
    by true h below = refl
    by false h below = elim (cases_lt k w) [
      | inl m ↦ below m
      | inr m ↦ let same : k ≡ w = omega arith in absurd (cc (ap p same, e, h))
    ]

is_high-true : (x : Bit) → is_high x ≡ true → x ≡ high
is_high-true low e = absurd (cc)
is_high-true high e = refl
is_high-true unknown e = absurd (cc)

pub truth_of-one : (a : Vector) → (truth_of a ≡ true) ↔ ((k : ℕ) × (k < a.width) × (bit a k ≡ high))
truth_of-one a = (
  λ e. let r = some_below-place (λ k. is_high (bit a k)) a.width e in (r.0, r.1, is_high-true (bit a r.0) r.2),
  λ r. some_below-true (λ k. is_high (bit a k)) a.width r.0 r.1 (ap is_high r.2),
)

-- both words of x bits are 0 where their union is
pub none_unknown : (m n : ℕ) → (eqb m 0 && eqb n 0) ≡ eqb (bit_or m n) 0
none_unknown zero zero = refl
none_unknown zero (suc n) = let h = le_or_r 0 (suc n) in grind (arith, nat_tests)
none_unknown (suc m) n = let h = le_or_l (suc m) n in grind (arith, nat_tests)

some_test : (n : ℕ) → (n ≡ 0 → ⊥) → eqb n 0 ≡ false
some_test zero h = absurd (h refl)
some_test (suc n) h = grind (arith, nat_tests)

-- `==`, from the word of the places where known bits differ and from the union of the x bits
module _ (a b : Vector) (n : ℕ) (is : n ≡ word (λ k. from_bool (differs (bit a k) (bit b k))) a.width) where
  any_differs : some_below (λ k. differs (bit a k) (bit b k)) a.width ≡ not (eqb n 0)
  any_differs = sym (ap (λ m. not (eqb m 0)) is ∙ ap not (word_none (λ k. differs (bit a k) (bit b k)) a.width) ∙ not-not (some_below (λ k. differs (bit a k) (bit b k)) a.width))

  pub equality-words : equality a b ≡ cond (not (eqb n 0)) low (cond (eqb (bit_or a.unk b.unk) 0) high unknown)
  equality-words = ap (λ t. cond t low (cond (eqb a.unk 0 && eqb b.unk 0) high unknown)) any_differs ∙ ap (λ t. cond (not (eqb n 0)) low (cond t high unknown)) (none_unknown a.unk b.unk)

  pub equality-apart : (n ≡ 0 → ⊥) → equality a b ≡ low
  equality-apart some = equality-words ∙ ap (λ t. cond (not t) low (cond (eqb (bit_or a.unk b.unk) 0) high unknown)) (some_test n some)

  pub equality-same : n ≡ 0 → bit_or a.unk b.unk ≡ 0 → equality a b ≡ high
  equality-same none known =
      equality-words ∙ ap (λ t. cond (not (eqb t 0)) low (cond (eqb (bit_or a.unk b.unk) 0) high unknown)) none ∙ ap (λ t. cond (eqb t 0) high unknown) known

  pub equality-hidden : n ≡ 0 → (bit_or a.unk b.unk ≡ 0 → ⊥) → equality a b ≡ unknown
  equality-hidden none some =
      equality-words ∙ ap (λ t. cond (not (eqb t 0)) low (cond (eqb (bit_or a.unk b.unk) 0) high unknown)) none ∙ ap (λ t. cond t high unknown) (some_test (bit_or a.unk b.unk) some)
