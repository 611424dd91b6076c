-- The code of a number at a greater width, as code extends it.
use Rattle.std.proofs.Common.{ℕ, pos, negsuc, ◌+◌, ◌-◌, ◌%◌, ◌^◌, ◌<◌, ◌≤◌, ◌≡◌, sym, ap, ◌∙◌, true, false, ltb, arith}
use Rattle.std.proofs.lemmas.Bool.Decides.{nat_tests}
use Rattle.std.proofs.lemmas.Bool.{cond-true, cond-false}
use Rattle.std.proofs.lemmas.Nat.{pow_pos, pow-add}
use Rattle.std.proofs.Math.Nat.{mod-eq_of_lt}
pub use Rattle.mh_codes.proofs.Powers.{wider}
use Rattle.mh_codes.specs.Codes.{code, number}

-- half of a power
half : (w : ℕ) → 1 ≤ w → 2 ^ w ≡ 2 ^ (w - 1) + 2 ^ (w - 1)
half w h = let e : w ≡ w - 1 + 1 = omega arith in let p = pow-add 2 (w - 1) 1 in let f = ap (λ k. 2 ^ k) e in omega arith

-- a signed code whose highest bit is 1 takes 1 in each new bit
pub high_extends : (w v n : ℕ) → 1 ≤ w → w ≤ v → n < 2 ^ w → 2 ^ (w - 1) - 1 < n → n + (2 ^ v - 2 ^ w) ≡ code v (number true w n)
high_extends w v n o l f g =
    let h = half w o in
    let p = wider w v l in
    let q = pow_pos (w - 1) in
    let e : (2 ^ w - 1 - n) % 2 ^ v ≡ 2 ^ w - 1 - n = mod-eq_of_lt (omega arith) in
    sym (ap (code v) (cond-false (ltb (n + n) (2 ^ w)) (pos n) (negsuc (2 ^ w - 1 - n)) (grind (arith, nat_tests))) ∙ omega arith)

-- and another takes 0
pub low_extends : (w v n : ℕ) → 1 ≤ w → w ≤ v → n < 2 ^ w → n ≤ 2 ^ (w - 1) - 1 → n ≡ code v (number true w n)
low_extends w v n o l f g =
    let h = half w o in
    let p = wider w v l in
    let q = pow_pos (w - 1) in
    sym (ap (code v) (cond-true (ltb (n + n) (2 ^ w)) (pos n) (negsuc (2 ^ w - 1 - n)) (grind (arith, nat_tests))) ∙ mod-eq_of_lt (omega arith))

-- as does an unsigned one
pub unsigned_extends : (w v n : ℕ) → w ≤ v → n < 2 ^ w → n ≡ code v (number false w n)
unsigned_extends w v n l f = let p = wider w v l in sym (mod-eq_of_lt (omega arith))
