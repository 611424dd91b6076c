-- The codes of enums.
use Rattle.std.proofs.Common.{◌≡◌, ◌≢◌, ℕ, zero, suc, ◌+◌, ◌-◌, ◌<◌, ◌≤◌, ◌^◌, Bool, true, false, ◌||◌, ◌&&◌, max, pos, negsuc, refl, ap, sym, ◌∙◌, arith, ℤ}
use Rattle.std.specs.Prelude.{int_le, int_lt, nat_le, nat_lt, ◌==◌}
use Rattle.std.specs.Ordering.{int_eq}
use Rattle.std.proofs.lemmas.Bool.{ltb-true, ltb-false, le-leb}
use Rattle.std.proofs.lemmas.Bool.Decides.{nat_tests, Decides-int_eq}
use Rattle.mh_codes.specs.Widths.{bit_length}
use Rattle.mh_codes.proofs.WidthLaws.{bit_length_least}
use Rattle.mh_codes.proofs.Powers.{wider, twice}
use Rattle.mh_design.specs.Enums.{any_below, encoding_width}
use Rattle.mh_design.proofs.Below.{any_below_found, any_below_none}

-- as many items as a list can hold have binary codes of at most 127 bits
pub binary_narrow : (n : ℕ) → n < 2 ^ 64 → nat_le (max 1 (bit_length (n - 1))) 127 ≡ true
binary_narrow n h = let s = bit_length_least (n - 1) 64 (omega (arith, h)) in grind (arith, nat_tests)

differs_by : (x y : ℤ) (b : Bool) → int_eq x y ≡ b → x ≢ y → b ≡ false
differs_by x y false e d = refl
differs_by x y true e d = absurd (d ((Decides-int_eq x y).0 e))

differs : (x y : ℤ) → x ≢ y → int_eq x y ≡ false
differs x y d = differs_by x y (int_eq x y) refl d

other : (m k n : ℕ) → n ≤ m → k < n → pos m ≢ pos k
other m k n a b e = let q : m ≡ k = cc in omega arith

binary_by : (n m : ℕ) (b : Bool) → nat_lt m n ≡ b → any_below n (λ k. int_eq (pos m) (pos k)) ≡ b
binary_by n m true e = any_below_found n m (λ k. int_eq (pos m) (pos k)) (ltb-true m n e) ((Decides-int_eq (pos m) (pos m)).1 refl)
binary_by n m false e = any_below_none n (λ k. int_eq (pos m) (pos k)) (λ k l. differs (pos m) (pos k) (other m k n (ltb-false m n e) l))

above : (m : ℕ) (b : Bool) → b ≡ (nat_le 0 m && b)
above m b = ap (λ t. t && b) (sym (le-leb 0 m (omega arith)))

-- the binary codes of n items are the numbers below n
pub binary_codes : (n : ℕ) (z : ℤ) → any_below n (λ k. int_eq z (pos k)) ≡ (int_le (pos 0) z && int_lt z (pos n))
binary_codes n (pos m) = binary_by n m (nat_lt m n) refl ∙ above m (nat_lt m n)
binary_codes n (negsuc m) = any_below_none n (λ k. int_eq (negsuc m) (pos k)) (λ k l. refl)

-- a code of one bit is less than all codes
pub one_bit : (k n : ℕ) → k < n → 1 + 2 ^ k ≤ 2 ^ n
one_bit k n h = let t = twice k in let w = wider (suc k) n (omega (arith, h)) in let o = wider 0 k (omega arith) in omega arith
