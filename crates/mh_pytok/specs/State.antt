-- What the state of the reading is seen as. It serves private functions alone: no public contract rests on it.
use Rattle.std.specs.Prelude.{ℕ, Bool, List, ◌≡◌, ◌++◌, ◌<◌, ◌≤◌, ◌+◌, ◌*◌, length, reverse, [], Result, Ok, Err, if◌then◌else◌, ⊤}
use Rattle.mh_text.specs.declared.refusal.Refusal.{Refusal}
use Rattle.mh_text.specs.declared.refusal.Refusal.TheVariants as refusal
use Rattle.mh_pytok.specs.Layout.{Place, Next, Goes, Ends, Stops, line_at}
use Rattle.mh_pytok.specs.declared.token.Token.{Token}
use Rattle.mh_pytok.specs.declared.state.State.{State}
use Rattle.mh_pytok.specs.declared.shape.Piece.{Piece}
use Rattle.mh_pytok.specs.declared.shape.Piece.TheVariants.{Nothing, LineEnd, Gap, Word, Bad}
use Rattle.mh_pytok.specs.declared.shape.Line.{Line}
use Rattle.mh_pytok.specs.declared.shape.Line.TheVariants.{Fresh, Bare, Full}

-- the place that a state stands for
abbrev pub place_of : State → Place
place_of s = record { at = s.at; indents = reverse s.indents; brackets = s.brackets; line = s.line }

-- a place of a source: within it, with no more brackets and blocks open than bytes before it
pub record Inside (src : List ℕ) (p : Place) : Type 0 where
  pub at : p.at ≤ length src
  pub brackets : p.brackets ≤ p.at
  pub indents : length p.indents ≤ p.at

-- the number of a line is that of the line at a place
pub record IsLine (src : List ℕ) (at number : ℕ) : Type 0 where
  pub is : number ≡ line_at src at
  pub at_most : number ≤ 1 + at

-- a state of a source: at a place of it, at the line that it says
pub record IsState (src : List ℕ) (s : State) : Type 0 where
  pub place : Inside src (place_of s)
  pub line : IsLine src s.at s.number

-- What a step answers: whether the reading goes on, from where, and which tokens were added.
abbrev pub Gives : Next → List Token → Result Bool Refusal → List Token → Place → Type 0
Gives next before (Ok more) after place = (front : List Token) × (next ≡ (if more then Goes front place else Ends front)) × (after ≡ before ++ front)
Gives next before (Err (refusal.At code line names)) after place = (next ≡ Stops code line) × (names ≡ [])
Gives next before (Err refusal.Memory) after place = ⊤

-- how much is left to read
abbrev pub left_of : Line → ℕ → ℕ
left_of Fresh bytes = 2 * bytes + 1
left_of Bare bytes = 2 * bytes
left_of Full bytes = 2 * bytes

-- A piece lies within the bytes.
abbrev pub LiesWithin : Piece → List ℕ → Type 0
LiesWithin Nothing bytes = ⊤
LiesWithin LineEnd bytes = 0 < length bytes
LiesWithin (Gap n) bytes = (0 < n) × (n ≤ length bytes)
LiesWithin (Word kind n) bytes = (0 < n) × (n ≤ length bytes)
LiesWithin (Bad code) bytes = ⊤
