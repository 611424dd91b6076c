-- Pieces of texts. These words are this project's own.
use Rattle.std.specs.Prelude.{ℕ, List, [], ◌∷◌, ◌++◌, slice_get}
use Rattle.std.specs.List.{flat_map}
use Rattle.std.specs.Option.{option_map_or}

-- A line with its end.
abbrev pub line : List ℕ → List ℕ
line text = text ++ 10 ∷ []

-- Pieces with a separator between them.
abbrev pub joined : List ℕ → List (List ℕ) → List ℕ
joined separator [] = []
joined separator (first ∷ rest) = first ++ flat_map (λ piece. separator ++ piece) rest

-- The name of a number; no number past the names is used.
abbrev pub name_in : List (List ℕ) → ℕ → List ℕ
name_in names number = option_map_or (λ name. name) (slice_get names number) []
