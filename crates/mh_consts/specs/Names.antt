-- Names and what they are bound to, by this project's own rule: a name keeps the place of its first
-- binding, and has the value of its latest.
use Rattle.std.specs.Prelude.{ℕ, List, [], ◌∷◌, Option, Some, None, bytes_eq, if◌then◌else◌}
use Rattle.std.specs.Map as map
use Rattle.indexmap.specs.IndexMap.{insert_entry}

-- what a binding leaves
abbrev pub bind : {A : Type 0} → List (List ℕ × A) → List ℕ → A → List (List ℕ × A)
bind es n x = insert_entry bytes_eq es n x

-- what a name is bound to
abbrev pub lookup : {A : Type 0} → List (List ℕ × A) → List ℕ → Option A
lookup es n = map.lookup (bytes_eq n) es

-- All bindings ever made, the latest first, and what a name is bound to by them: the first that has
-- the name.
abbrev pub latest : {A : Type 0} → List (List ℕ × A) → List ℕ → Option A
latest [] n = None
latest (e ∷ es) n = if bytes_eq n e.0 then Some e.1 else latest es n

-- what these bindings leave, made from the oldest on
abbrev pub bound : {A : Type 0} → List (List ℕ × A) → List (List ℕ × A)
bound [] = []
bound (e ∷ es) = bind (bound es) e.0 e.1
