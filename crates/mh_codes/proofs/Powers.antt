-- Powers of 2.
use Rattle.std.proofs.Common.{ℕ, suc, ◌+◌, ◌^◌, ◌<◌, ◌≤◌, ◌≡◌, ap, arith}
use Rattle.std.proofs.lemmas.Nat.{pow-add}
use Rattle.std.proofs.Math.Nat.{pow-le-pow_right}

-- the base is positive
pub two : 0 < 2
two = omega arith

-- more bits hold no fewer numbers
pub wider : (w v : ℕ) → w ≤ v → 2 ^ w ≤ 2 ^ v
wider w v h = pow-le-pow_right two h

-- and one more bit twice as many
pub twice : (v : ℕ) → 2 ^ suc v ≡ 2 ^ v + 2 ^ v
twice v = let p = pow-add 2 v 1 in let e : 2 ^ suc v ≡ 2 ^ (v + 1) = ap (λ x. 2 ^ x) (omega arith) in omega arith
