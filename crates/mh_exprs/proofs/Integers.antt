-- Lists of integers that differ in length.
use Rattle.std.proofs.Common.{◌≡◌, ℕ, ◌<◌, ◌-◌, ℤ, false, List, [], ◌∷◌, length, length-drop, drop, refl, arith}
use Rattle.mh_exprs.specs.Leaves.{same_integers}

pub same_integers-short : (xs ys : List ℤ) → 0 < length xs → length ys < 1 → same_integers xs ys ≡ false
same_integers-short [] ys h e = absurd (omega arith)
same_integers-short (x ∷ xs) [] h e = refl
same_integers-short (x ∷ xs) (y ∷ ys) h e = absurd (omega arith)

pub same_integers-rest : (xs ys : List ℤ) (i : ℕ) → i < length xs → length ys < 1 → same_integers (drop i xs) ys ≡ false
same_integers-rest xs ys i h e = let l : length (drop i xs) ≡ length xs - i = length-drop i xs in same_integers-short (drop i xs) ys (omega arith) e

pub ruleset integers = (same_integers-rest)
