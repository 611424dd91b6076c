-- & | ^ of two's complement, on codes.
use Rattle.std.proofs.Common.{ℕ, ℤ, pos, negsuc, ◌+◌, ◌-◌, ◌*◌, ◌/◌, ◌%◌, ◌^◌, ◌<◌, ◌≤◌, ◌≡◌, sym, ap, ◌∙◌, bit_and, bit_or, bit_xor, arith}
use Rattle.std.proofs.lemmas.Nat.{pow_pos, and_mod, or_mod, xor_mod, and-not, and_comm, or_comm, xor_comm, mod_below, or_lt, and_le_l}
use Rattle.mh_codes.specs.Codes.{code}
use Rattle.mh_codes.specs.Integers.{integer_and, integer_or, integer_xor}
use Rattle.std.proofs.lemmas.Nat.{shr_split, and_shr, and_le_r}
use lib.Bits.{or_add_and, xor_add_and}
use lib.Arith.{digits_mod}

-- bits without those of s
and_apart : (w r s : ℕ) → r < 2 ^ w → s < 2 ^ w → bit_and r (2 ^ w - 1 - s) ≡ r - bit_and r s
and_apart w r s p q = let e = and-not w s r q p in let f = and_comm r (2 ^ w - 1 - s) in let g = and_comm r s in omega (arith, e, f, g)

-- bits that are in neither
neither : (w r s : ℕ) → r < 2 ^ w → s < 2 ^ w → bit_and (2 ^ w - 1 - r) (2 ^ w - 1 - s) ≡ 2 ^ w - 1 - bit_or r s
neither w r s p q =
    let e = and_apart w (2 ^ w - 1 - r) s (omega arith) q in
    let f = and_apart w s r q p in
    let g = and_comm (2 ^ w - 1 - r) s in
    let h = and_comm r s in
    let k = or_add_and r s in
    let l = and_le_r r s in
    omega (arith, e, f, g, h, k, l)

-- the same for `|`, of which one or both operands are inverted
or_apart : (w r s : ℕ) → r < 2 ^ w → s < 2 ^ w → bit_or r (2 ^ w - 1 - s) ≡ 2 ^ w - 1 - (s - bit_and r s)
or_apart w r s p q = let e = and_apart w r s p q in let k = or_add_and r (2 ^ w - 1 - s) in let l = and_le_r r s in let m = and_le_l r s in omega (arith, e, k, l, m)

or_neither : (w r s : ℕ) → r < 2 ^ w → s < 2 ^ w → bit_or (2 ^ w - 1 - r) (2 ^ w - 1 - s) ≡ 2 ^ w - 1 - bit_and r s
or_neither w r s p q = let e = neither w r s p q in let k = or_add_and (2 ^ w - 1 - r) (2 ^ w - 1 - s) in let m = or_add_and r s in let l = or_lt w r s p q in let n = and_le_l r s in omega (arith, e, k, l, m, n)

-- and for `^`
xor_apart : (w r s : ℕ) → r < 2 ^ w → s < 2 ^ w → bit_xor r (2 ^ w - 1 - s) ≡ 2 ^ w - 1 - bit_xor r s
xor_apart w r s p q = let e = and_apart w r s p q in let k = xor_add_and r (2 ^ w - 1 - s) in let m = xor_add_and r s in let l = and_le_r r s in let n = and_le_l r s in omega (arith, e, k, l, m, n)

xor_neither : (w r s : ℕ) → r < 2 ^ w → s < 2 ^ w → bit_xor (2 ^ w - 1 - r) (2 ^ w - 1 - s) ≡ bit_xor r s
xor_neither w r s p q = let e = neither w r s p q in let k = xor_add_and (2 ^ w - 1 - r) (2 ^ w - 1 - s) in let m = xor_add_and r s in let o = or_add_and r s in let l = or_lt w r s p q in let n = and_le_l r s in omega (arith, e, k, l, m, n, o)

-- the remainder of what is left
minus_mod : (w a b : ℕ) → (a - bit_and a b) % 2 ^ w ≡ a % 2 ^ w - bit_and (a % 2 ^ w) (b % 2 ^ w)
minus_mod w a b =
    let m = 2 ^ w in
    let p = pow_pos w in
    let c = bit_and a b in
    let sa = shr_split a w in
    let sc = shr_split c w in
    let ra = mod_below a m p in
    let high : c / m ≤ a / m = rw_high in
    let low : c % m ≤ a % m = rw_low in
    let q = a / m - c / m in
    let s : a / m ≡ c / m + q = omega arith in
    let t = ap (λ x. x * m) s in
    let is : a - c ≡ q * m + (a % m - c % m) = omega arith in
    ap (λ x. x % m) is ∙ digits_mod q (omega arith) ∙ ap (λ x. a % m - x) (and_mod a b w)
  where
    rw_high : bit_and a b / 2 ^ w ≤ a / 2 ^ w
    rw_high = omega (arith, and_shr a b w, and_le_l (a / 2 ^ w) (b / 2 ^ w))

    rw_low : bit_and a b % 2 ^ w ≤ a % 2 ^ w
    rw_low = omega (arith, and_mod a b w, and_le_l (a % 2 ^ w) (b % 2 ^ w))

module _ (w : ℕ) where
  low : (n : ℕ) → n % 2 ^ w < 2 ^ w
  low n = mod_below n (2 ^ w) (pow_pos w)

  -- the code of `&`, by the signs of the operands
  pub code-and : (a b : ℤ) → code w (integer_and a b) ≡ bit_and (code w a) (code w b)
  code-and (pos a) (pos b) = and_mod a b w
  code-and (pos a) (negsuc b) = minus_mod w a b ∙ sym (and_apart w (a % 2 ^ w) (b % 2 ^ w) (low a) (low b))
  code-and (negsuc a) (pos b) = ap (λ x. (b - x) % 2 ^ w) (and_comm a b) ∙ minus_mod w b a ∙ sym (and_apart w (b % 2 ^ w) (a % 2 ^ w) (low b) (low a)) ∙ and_comm (b % 2 ^ w) (2 ^ w - 1 - a % 2 ^ w)
  code-and (negsuc a) (negsuc b) = ap (λ x. 2 ^ w - 1 - x) (or_mod a b w) ∙ sym (neither w (a % 2 ^ w) (b % 2 ^ w) (low a) (low b))

  -- the code of `|`
  pub code-or : (a b : ℤ) → code w (integer_or a b) ≡ bit_or (code w a) (code w b)
  code-or (pos a) (pos b) = or_mod a b w
  code-or (pos a) (negsuc b) = ap (λ x. 2 ^ w - 1 - (b - x) % 2 ^ w) (and_comm a b) ∙ ap (λ x. 2 ^ w - 1 - x) (minus_mod w b a ∙ ap (λ x. b % 2 ^ w - x) (and_comm (b % 2 ^ w) (a % 2 ^ w))) ∙ sym (or_apart w (a % 2 ^ w) (b % 2 ^ w) (low a) (low b))
  code-or (negsuc a) (pos b) = ap (λ x. 2 ^ w - 1 - x) (minus_mod w a b ∙ ap (λ x. a % 2 ^ w - x) (and_comm (a % 2 ^ w) (b % 2 ^ w))) ∙ sym (or_apart w (b % 2 ^ w) (a % 2 ^ w) (low b) (low a)) ∙ or_comm (b % 2 ^ w) (2 ^ w - 1 - a % 2 ^ w)
  code-or (negsuc a) (negsuc b) = ap (λ x. 2 ^ w - 1 - x) (and_mod a b w) ∙ sym (or_neither w (a % 2 ^ w) (b % 2 ^ w) (low a) (low b))

  -- the code of `^`
  pub code-xor : (a b : ℤ) → code w (integer_xor a b) ≡ bit_xor (code w a) (code w b)
  code-xor (pos a) (pos b) = xor_mod a b w
  code-xor (pos a) (negsuc b) = ap (λ x. 2 ^ w - 1 - x) (xor_mod a b w) ∙ sym (xor_apart w (a % 2 ^ w) (b % 2 ^ w) (low a) (low b))
  code-xor (negsuc a) (pos b) = ap (λ x. 2 ^ w - 1 - x) (xor_mod a b w ∙ xor_comm (a % 2 ^ w) (b % 2 ^ w)) ∙ sym (xor_apart w (b % 2 ^ w) (a % 2 ^ w) (low b) (low a)) ∙ xor_comm (b % 2 ^ w) (2 ^ w - 1 - a % 2 ^ w)
  code-xor (negsuc a) (negsuc b) = xor_mod a b w ∙ sym (xor_neither w (a % 2 ^ w) (b % 2 ^ w) (low a) (low b))
