-- The tokens of a source, and its refusal.
use Rattle.std.specs.Prelude.{ℕ, List, [], ◌≡◌, ◌++◌, ⊤, Result, Ok, Err}
use Rattle.mh_text.specs.declared.refusal.Refusal.{Refusal}
use Rattle.mh_text.specs.declared.refusal.Refusal.TheVariants as refusal
use Rattle.mh_text.specs.declared.code.Code.{Code}
use Rattle.mh_pytok.specs.Layout.{Place, Goes, Ends, Stops, next}
use Rattle.mh_pytok.specs.declared.token.Token.{Token}
use Rattle.mh_pytok.specs.declared.shape.Line.TheVariants.{Fresh}

-- From a place on, the source gives these tokens: those of the step there, and those from where it goes.
pub data Reads (src : List ℕ) : Place → List Token → Type 0 where
  ends : {p : Place} {ts : List Token} → next src p ≡ Ends ts → Reads src p ts
  goes : {p : Place} {ts : List Token} (front : List Token) (q : Place) (back : List Token) →
      next src p ≡ Goes front q → Reads src q back → ts ≡ front ++ back → Reads src p ts

-- From a place on, the source is refused by a rule, at a line: by the step there, or from where it goes.
pub data Refuses (src : List ℕ) : Place → Code → ℕ → Type 0 where
  here : {p : Place} {code : Code} {line : ℕ} → next src p ≡ Stops code line → Refuses src p code line
  later : {p : Place} {code : Code} {line : ℕ} (front : List Token) (q : Place) →
      next src p ≡ Goes front q → Refuses src q code line → Refuses src p code line

-- before the first byte
unfoldable pub start : Place
start = record { at = 0; indents = []; brackets = 0; line = Fresh }

-- the tokens of a whole source
abbrev pub HasTokens : List ℕ → List Token → Type 0
HasTokens src ts = Reads src start ts

-- the refusal of a whole source: the first from its beginning on
abbrev pub IsRefused : List ℕ → Code → ℕ → Type 0
IsRefused src code line = Refuses src start code line

-- What the reading of a source answers; nothing is said where memory runs out.
abbrev pub Answers : List ℕ → Result (List Token) Refusal → Type 0
Answers src (Ok ts) = HasTokens src ts
Answers src (Err (refusal.At code line names)) = IsRefused src code line × (names ≡ [])
Answers src (Err refusal.Memory) = ⊤
