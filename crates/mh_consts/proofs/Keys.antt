-- The names of a call's arguments.
use Rattle.std.proofs.Common.{◌≡◌, ℕ, zero, suc, List, [], ◌∷◌, map, Option, Some, None, refl, slice_get}
use Rattle.mh_pytree.specs.declared.expression.Argument.{Argument}
use Rattle.mh_consts.specs.Expression.{given_of, key_of, keys_of}
use Rattle.mh_consts.specs.Builtins.{key_at}

-- the name of an argument that may be there
abbrev pub name_of : Option Argument → Option (List ℕ)
name_of None = None
name_of (Some a) = key_of (given_of a)

pub key_at-get : (xs : List Argument) (i : ℕ) → key_at (keys_of (map given_of xs)) i ≡ name_of (slice_get xs i)
key_at-get [] i = refl
key_at-get (x ∷ xs) zero = refl
key_at-get (x ∷ xs) (suc i) = key_at-get xs i

pub ruleset keys = (key_at-get)
