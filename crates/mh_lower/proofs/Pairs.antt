-- Two lists that are gone through together, where the second ends first.
use Rattle.std.proofs.Common.{◌≡◌, ℕ, ◌<◌, Bool, List, [], ◌∷◌, length, refl, arith}
use Rattle.mh_lower.specs.Generators.{locals_of}
use Rattle.mh_lower.specs.Paths.{on_both}

pub on_both-none : (ys : List Bool) → on_both ys [] ≡ []
on_both-none [] = refl
on_both-none (y ∷ ys) = refl

pub locals_of-none : (ts : List (List ℕ)) → locals_of ts [] ≡ []
locals_of-none [] = refl
locals_of-none (t ∷ ts) = refl

-- a list with no element
pub none_left : {A : Type 0} (xs : List A) → length xs < 1 → xs ≡ []
none_left [] h = refl
none_left (x ∷ xs) h = absurd (omega (arith, h))

pub ruleset pairs = (on_both-none, locals_of-none)
