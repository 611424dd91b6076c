-- What `in_i128` answers.
use Rattle.std.proofs.Common.{ℤ, pos, negsuc, ◌-◌, ◌^◌, ◌<◌, ◌≤◌, ◌≡◌, Bool, true, false, Some, None, arith}
use Rattle.std.proofs.lemmas.Bool.{cond_both, cond-true, cond-false}
use Rattle.std.proofs.lemmas.Bool.Decides.{nat_tests}
use Rattle.mh_codes.specs.Ranges.{is_inside}
use Rattle.mh_codes.specs.Widths.{magnitude_of}
use Rattle.std.specs.Int.{w128}
use Rattle.std.specs.Int.RustNames.{FitsSigned}
use Rattle.mh_num.specs.Results.{in_i128}

-- the test
abbrev pub is_i128 : ℤ → Bool
is_i128 z = is_inside (negsuc (2 ^ 127 - 1)) (pos (2 ^ 127 - 1)) z

is_i128-true : (z : ℤ) → magnitude_of z < 2 ^ 127 → is_i128 z ≡ true
is_i128-true (pos n) h = grind (arith, nat_tests)
is_i128-true (negsuc n) h = grind (arith, nat_tests)

is_i128-false : (z : ℤ) → 2 ^ 127 ≤ magnitude_of z → is_i128 z ≡ false
is_i128-false (pos n) h = grind (arith, nat_tests)
is_i128-false (negsuc n) h = grind (arith, nat_tests)

is_i128-outside : (z : ℤ) → is_i128 z ≡ false → 2 ^ 127 ≤ magnitude_of z
is_i128-outside (pos n) h = grind (arith, nat_tests)
is_i128-outside (negsuc n) h = grind (arith, nat_tests)

-- an answer is the integer itself
pub in_i128-some : (z r : ℤ) → Some r ≡ in_i128 z → r ≡ z
in_i128-some z r = cond_both (is_i128 z) (Some z) None (λ o. Some r ≡ o → r ≡ z) (λ _ e. cc) (λ _ e. absurd cc)

-- an integer of i128 is answered
pub in_i128-fits : (z : ℤ) → FitsSigned w128 z → in_i128 z ≡ Some z
in_i128-fits z f = cond-true (is_i128 z) (Some z) None (is_i128-true z (below z f))
  where
    below : (z : ℤ) → FitsSigned w128 z → magnitude_of z < 2 ^ 127
    below (pos n) f = f.sfits
    below (negsuc n) f = f.sfits

-- and no other is
pub in_i128-none : (z : ℤ) → 2 ^ 127 ≤ magnitude_of z → in_i128 z ≡ None
in_i128-none z h = cond-false (is_i128 z) (Some z) None (is_i128-false z h)

-- no answer: outside
pub in_i128-outside : (z : ℤ) → None ≡ in_i128 z → 2 ^ 127 ≤ magnitude_of z
in_i128-outside z = cond_both (is_i128 z) (Some z) None (λ o. None ≡ o → 2 ^ 127 ≤ magnitude_of z) (λ _ e. absurd cc) (λ t _. is_i128-outside z t)
