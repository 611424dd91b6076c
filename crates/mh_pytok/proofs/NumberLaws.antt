-- Numbers, digit by digit.
use Rattle.std.proofs.Common.{◌≡◌, ℕ, ◌+◌, ◌*◌, ◌^◌, ◌<◌, ◌≤◌, List, [], ◌∷◌, drop, length, get_or, refl, sym, ◌∙◌, ap, cond, true, false, Bool, ◌&&◌, Some, None, Option, arith, eqb, ltb, le-ltb, lt-ltb}
use Rattle.std.proofs.Math.Nat.{mul-le-mul_left}
use Rattle.std.proofs.lemmas.List.{drop_all, drop_more}
use Rattle.mh_pytok.specs.Numbers.{digits_value, digit_value}
use Rattle.mh_pytok.specs.Limited.{limited}

-- what the digits from i on stand for, by the first of them
pub digits-drop : (base n : ℕ) (last : Bool) (text : List ℕ) (i : ℕ) → i < length text →
    digits_value base n last (drop i text) ≡
    cond (last && eqb (get_or text i 0) 95) (digits_value base n false (drop (i + 1) text))
    (cond (ltb (digit_value (get_or text i 0)) base) (digits_value base (base * n + digit_value (get_or text i 0)) true (drop (i + 1) text)) None)
unfolding digits_value
digits-drop base n last text i h = ap (digits_value base n last) (drop_more text i 0 h)

pub digits-past : (base n : ℕ) (last : Bool) (text : List ℕ) (i : ℕ) → length text ≤ i → digits_value base n last (drop i text) ≡ cond last (Some n) None
unfolding digits_value
digits-past base n last text i h = ap (digits_value base n last) (drop_all i text h)

-- a number only grows by its digits
grows : (base n d : ℕ) → 0 < base → 2 ^ 127 ≤ n → 2 ^ 127 ≤ base * n + d
grows base n d h k = grind (arith, mul-le-mul_left n h)

beyond : (n : ℕ) (b : Bool) → ltb n (2 ^ 127) ≡ b → 2 ^ 127 ≤ n → limited (Some n) ≡ None
beyond n b is h = rw (le-ltb n (2 ^ 127) h) refl

chosen : (s t : Bool) (x y : Option ℕ) → limited x ≡ None → limited y ≡ None → limited (cond s x (cond t y None)) ≡ None
chosen true t x y hx hy = hx
chosen false true x y hx hy = hy
chosen false false x y hx hy = refl

-- what is beyond the limit stays there
pub digits-big : (base n : ℕ) (last : Bool) (text : List ℕ) → 0 < base → 2 ^ 127 ≤ n → limited (digits_value base n last text) ≡ None
unfolding digits_value
digits-big base n true [] h k = beyond n (ltb n (2 ^ 127)) refl k
digits-big base n false [] h k = refl
digits-big base n last (b ∷ bs) h k =
    chosen (last && eqb b 95) (ltb (digit_value b) base) _ _ (digits-big base n false bs h k) (digits-big base (base * n + digit_value b) true bs h (grows base n (digit_value b) h k))

module _ (base n : ℕ) (last : Bool) (text : List ℕ) (i d : ℕ) (h : i < length text) where
  -- a `_` that may stand at i
  pub digits-gap : true ≡ (last && eqb (get_or text i 0) 95) → digits_value base n last (drop i text) ≡ digits_value base n false (drop (i + 1) text)
  digits-gap is = digits-drop base n last text i h ∙ rw (← is) refl

  -- no digit of the base at i
  pub digits-none : false ≡ (last && eqb (get_or text i 0) 95) → d ≡ digit_value (get_or text i 0) → base ≤ d → digits_value base n last (drop i text) ≡ None
  digits-none is e k = digits-drop base n last text i h ∙ rw (← is, ← e, le-ltb d base k) refl

  -- a digit of the base at i
  pub digits-one : false ≡ (last && eqb (get_or text i 0) 95) → d ≡ digit_value (get_or text i 0) → d < base →
      digits_value base n last (drop i text) ≡ digits_value base (base * n + d) true (drop (i + 1) text)
  digits-one is e k = digits-drop base n last text i h ∙ rw (← is, ← e, lt-ltb d base k) refl

module _ (base n : ℕ) (last : Bool) (text : List ℕ) (i : ℕ) (h : length text ≤ i) where
  -- behind the last digit stands the value, if it is within the limit
  pub value_within : last ≡ true → n < 2 ^ 127 → Some n ≡ limited (digits_value base n last (drop i text))
  value_within is k =
      let e : digits_value base n last (drop i text) ≡ Some n = digits-past base n last text i h ∙ rw is refl in
      let f : limited (Some n) ≡ Some n = rw (lt-ltb n (2 ^ 127) k) refl in
      sym (ap limited e ∙ f)

  pub value_beyond : last ≡ true → 2 ^ 127 ≤ n → None ≡ limited (digits_value base n last (drop i text))
  value_beyond is k =
      let e : digits_value base n last (drop i text) ≡ Some n = digits-past base n last text i h ∙ rw is refl in
      sym (ap limited e ∙ beyond n (ltb n (2 ^ 127)) refl k)

  -- and none behind a `_`
  pub value_of_none : last ≡ false → None ≡ limited (digits_value base n last (drop i text))
  value_of_none is =
      let e : digits_value base n last (drop i text) ≡ None = digits-past base n last text i h ∙ rw is refl in
      sym (ap limited e)
