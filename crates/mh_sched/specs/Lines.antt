-- What a `print` writes (MyHDL sources are Python, whose `print` puts one space between its parts and ends the line): texts as they are,
-- and integers in decimal.
use Rattle.std.specs.Prelude.{ℕ, ◌≡◌, Bool, true, false, List, [], ◌∷◌, ◌++◌, Result, Ok, Err}
use Rattle.std.specs.List.{flat_map}
use Rattle.mh_text.specs.Decimal.{decimal_text}
use Rattle.mh_design.specs.Deltas.{Piece, TextPiece, NumberPiece}
use Rattle.mh_design.specs.Values.{Fault}

-- A printed line, as its parts.
abbrev pub Line : Type 0
Line = List Piece

abbrev pub space : ℕ
space = 32

abbrev pub line_feed : ℕ
line_feed = 10

abbrev pub piece_bytes : Piece → List ℕ
piece_bytes (TextPiece t) = t
piece_bytes (NumberPiece z) = decimal_text z

-- The parts with one space between.
abbrev pub spaced : Line → List ℕ
spaced [] = []
spaced (p ∷ []) = piece_bytes p
spaced (p ∷ q ∷ ps) = piece_bytes p ++ space ∷ spaced (q ∷ ps)

-- The bytes of a line, and of lines in a row.
abbrev pub line_bytes : Line → List ℕ
line_bytes ps = spaced ps ++ line_feed ∷ []

abbrev pub text_of : List Line → List ℕ
text_of ls = flat_map line_bytes ls

-- The parts of a line that come after others, each with a space before it, and those of a whole line.
abbrev pub spaced_on : Bool → Line → List ℕ
spaced_on b [] = []
spaced_on true (p ∷ ps) = piece_bytes p ++ spaced_on false ps
spaced_on false (p ∷ ps) = space ∷ (piece_bytes p ++ spaced_on false ps)

-- A line is added to some bytes, with or without its end, or its fault is kept.
abbrev pub put_parts : List ℕ → Bool → Result Line Fault → Result (List ℕ) Fault
put_parts bs first (Ok ps) = Ok (bs ++ spaced_on first ps)
put_parts bs first (Err f) = Err f

abbrev pub put_line : List ℕ → Result Line Fault → Result (List ℕ) Fault
put_line bs (Ok ps) = Ok (bs ++ line_bytes ps)
put_line bs (Err f) = Err f

-- A part is added to some bytes, or its fault is kept, and what stands before a part.
abbrev pub put_piece : List ℕ → Result Piece Fault → Result (List ℕ) Fault
put_piece bs (Ok p) = Ok (bs ++ piece_bytes p)
put_piece bs (Err f) = Err f

abbrev pub space_before : Bool → List ℕ
space_before true = []
space_before false = space ∷ []

-- Some bytes have been added.
pub record Grown (before after : List ℕ) : Type 0 where
  pub more : List ℕ
  pub is : after ≡ before ++ more
