-- Each of several is at most as deep as the deepest.
use Rattle.std.proofs.Common.{ℕ, zero, suc, ◌<◌, ◌≤◌, List, [], ◌∷◌, map, length, get_or, arith}
use Rattle.mh_pytree.specs.Depth.{deepest}

pub deepest_at : {A : Type 0} (depth : A → ℕ) (xs : List A) (i : ℕ) (d : A) → i < length xs → depth (get_or xs i d) ≤ deepest (map depth xs)
deepest_at depth [] i d h = absurd (omega (arith, h))
deepest_at depth (x ∷ xs) zero d h = omega arith
deepest_at depth (x ∷ xs) (suc i) d h = let g : depth (get_or xs i d) ≤ deepest (map depth xs) = deepest_at depth xs i d (omega (arith, h)) in omega (arith, g)
