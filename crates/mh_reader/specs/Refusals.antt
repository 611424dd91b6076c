-- This project's own rule: where a text is refused.
use Rattle.std.specs.Prelude.{◌≡◌, Bool, true, List, [], ◌∷◌, ◌++◌, Err}
use Rattle.mh_reader.specs.Reader.{Reader}

-- the last token is an end
abbrev pub HasEnd : {T : Type 0} → (T → Bool) → List T → Type 0
HasEnd {T} is_end ts = (front : List T) × (at : T) × (is_end at ≡ true) × (ts ≡ front ++ at ∷ [])

-- the first token of r is one at which p refuses every text that begins as ts does up to it
abbrev pub StopsAt : {T A : Type 0} → Reader T A → List T → List T → Type 0
StopsAt {T} p ts r = (u : List T) × (t : T) × (q : List T) × (r ≡ t ∷ q) × (ts ≡ u ++ t ∷ q)
    × ((more : List T) → p (u ++ t ∷ more) ≡ Err (t ∷ more))

-- no sentence begins as ts does up to the first token of r
abbrev pub BeginsNone : {T A : Type 0} → (A → List T → Type 0) → List T → List T → Type 0
BeginsNone {T} {A} IsSentence ts r = (u : List T) × (t : T) × (q : List T) × (r ≡ t ∷ q) × (ts ≡ u ++ t ∷ q)
    × ((x : A) (more : List T) → IsSentence x (u ++ t ∷ more) → ⊥)
