-- What a list of entries holds under a name. These rules are this project's own.
use Rattle.std.specs.Prelude.{ℕ, List, [], ◌∷◌, ◌≡◌, ◌≢◌, ◌⊎◌, Option, None, Some, if◌then◌else◌}
use Rattle.std.specs.Str.{bytes_eq}
use Rattle.mh_host.specs.Shelf.{IsFront}
use Rattle.mh_host.specs.declared.entries.Entry.{Entry}

-- The bytes of the first entry of that name.
abbrev pub held_under : List Entry → List ℕ → Option (List ℕ)
held_under [] name = None
held_under (first ∷ rest) name = if bytes_eq first.name name then Some first.bytes else held_under rest name

-- The entries with one more, in the place of the first of its name, or at the end.
abbrev pub placed : List Entry → Entry → List Entry
placed [] entry = entry ∷ []
placed (first ∷ rest) entry = if bytes_eq first.name entry.name then entry ∷ rest else first ∷ placed rest entry

-- A name holds these bytes, and every other name holds what it held.
pub record Puts (old : List Entry) (name bytes : List ℕ) (new : List Entry) : Type 0 where
  pub held : held_under new name ≡ Some bytes
  pub others : (other : List ℕ) → other ≢ name → held_under new other ≡ held_under old other

-- Nothing changed, or a name holds a front of the bytes.
abbrev pub MayPutFront : List Entry → List ℕ → List ℕ → List Entry → Type 0
MayPutFront old name bytes new = (new ≡ old) ⊎ ((front : List ℕ) × IsFront front bytes × Puts old name front new)
