-- How deep arguments are, one by one.
use Rattle.std.proofs.Common.{ℕ, zero, suc, ◌<◌, ◌≤◌, List, [], ◌∷◌, map, length, get_or, arith}
use Rattle.mh_pytree.specs.declared.expression.Argument.{Argument}
use Rattle.mh_pytree.specs.Depth.{deepest, argument_depth}

pub deepest_at : (xs : List Argument) (i : ℕ) (d : Argument) → i < length xs → argument_depth (get_or xs i d) ≤ deepest (map argument_depth xs)
deepest_at [] i d h = absurd (omega (arith, h))
deepest_at (x ∷ xs) zero d h = omega arith
deepest_at (x ∷ xs) (suc i) d h = let g : argument_depth (get_or xs i d) ≤ deepest (map argument_depth xs) = deepest_at xs i d (omega (arith, h)) in omega (arith, g)
