-- The places of numbers, as the program holds them.
use Rattle.std.specs.Prelude.{◌≡◌, ℕ, List, nat_eq, position}
use Rattle.std.specs.BTreeMap.{BTreeMap, get}
use Rattle.std.specs.Ordering.{nat_cmp}

-- a number's place is that where it stands first
abbrev pub ArePlaces : BTreeMap ℕ ℕ → List ℕ → Type 0
ArePlaces places ns = (n : ℕ) → get nat_cmp places n ≡ position (λ m. nat_eq m n) ns
