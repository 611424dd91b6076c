-- The steps by which a source is read: at each place, by cases on what stands next, with the columns of
-- the open blocks as a list. As in the Python 3 reference (2.1, line structure), with indents of spaces alone
-- (this project's own rule).
use Rattle.std.specs.Prelude.{ℕ, suc, Bool, List, [], ◌∷◌, ◌++◌, ◌+◌, ◌-◌, ◌==◌, ◌||◌, nat_lt, take, drop, length, slice_index, count_by, replicate, if◌then◌else◌}
use Rattle.std.specs.List.{prefix_len}
use Rattle.mh_text.specs.declared.code.Code.{Code}
use Rattle.mh_text.specs.declared.code.Code.TheVariants.{L2TabIndent, L3BadDedent}
use Rattle.mh_pytok.specs.Pieces.{piece, is_line_end}
use Rattle.mh_pytok.specs.declared.token.Tok.{Tok}
use Rattle.mh_pytok.specs.declared.token.Tok.TheVariants.{Name, Number, Str, Keyword, Sign, Newline, Indent, Dedent, End}
use Rattle.mh_pytok.specs.declared.token.Token.{Token}
use Rattle.mh_pytok.specs.declared.shape.Piece.{Piece}
use Rattle.mh_pytok.specs.declared.shape.Piece.TheVariants.{Nothing, LineEnd, Gap, Word, Bad}
use Rattle.mh_pytok.specs.declared.shape.Line.{Line}
use Rattle.mh_pytok.specs.declared.shape.Line.TheVariants.{Fresh, Bare, Full}

-- a place in a source: how many bytes are read, the columns at which the open blocks begin, the innermost
-- first, how many brackets are open, and how far the line is read
pub record Place : Type 0 where
  pub at : ℕ
  pub indents : List ℕ
  pub brackets : ℕ
  pub line : Line

-- what a step does: it gives tokens and goes on at another place, gives the last tokens, or refuses the
-- source by a rule at a line
pub data Next : Type 0 where
  Goes : List Token → Place → Next
  Ends : List Token → Next
  Stops : Code → ℕ → Next

-- the number of the line that a place lies on, from 1: by the number of LF before it
abbrev pub line_at : List ℕ → ℕ → ℕ
line_at src at = 1 + count_by (λ b. b == 10) (take at src)

abbrev pub token : Tok → ℕ → ℕ → ℕ → Token
token kind start end line = record { kind = kind; span = record { start = start; end = end; line = line } }

-- spaces and tabs
abbrev pub is_space : ℕ → Bool
is_space b = b == 32

abbrev pub is_space_or_tab : ℕ → Bool
is_space_or_tab b = b == 32 || b == 9

-- the line ends here, or a comment begins, or the source ends
abbrev pub holds_nothing : List ℕ → Bool
holds_nothing bytes = length bytes == 0 || is_line_end bytes || slice_index bytes 0 == 35

-- the column of the innermost block; column 0 where no block is open
abbrev pub innermost : List ℕ → ℕ
innermost [] = 0
innermost (c ∷ cs) = c

-- how many blocks begin further right than a column
abbrev pub left_by : ℕ → List ℕ → ℕ
left_by column [] = 0
left_by column (c ∷ cs) = if nat_lt column c then suc (left_by column cs) else 0

-- A line begins at a column: further right than the innermost block it opens one; else it leaves the blocks
-- that begin further right, and has to begin where the innermost block that is left does.
unfoldable pub indented : List ℕ → Place → ℕ → Next
indented src p column =
    let mark = λ (kind : Tok). token kind (p.at + column) (p.at + column) (line_at src p.at) in
    let leaves = left_by column p.indents in
    if innermost (drop leaves p.indents) == column then
    Goes (replicate leaves (mark Dedent)) (record { at = p.at + column; indents = drop leaves p.indents; brackets = p.brackets; line = Full })
    else (if leaves == 0 then
    Goes (mark Indent ∷ []) (record { at = p.at + column; indents = column ∷ p.indents; brackets = p.brackets; line = Full })
    else Stops L3BadDedent (line_at src p.at))

-- At the beginning of a line: its leading space, which gives nothing on a line without tokens, and is
-- made of spaces alone on another.
unfoldable pub begun : List ℕ → Place → Next
begun src p =
    let rest = drop p.at src in
    let column = prefix_len is_space_or_tab rest in
    if holds_nothing (drop column rest) then
    Goes [] (record { at = p.at + column; indents = p.indents; brackets = p.brackets; line = Bare })
    else (if prefix_len is_space rest == column then indented src p column
    else Stops L2TabIndent (line_at src p.at))

-- how many brackets are open behind a token; a closing one with none open changes nothing
abbrev pub brackets_behind : Tok → ℕ → ℕ
brackets_behind Name open_now = open_now
brackets_behind Number open_now = open_now
brackets_behind Str open_now = open_now
brackets_behind (Keyword tag) open_now = open_now
brackets_behind (Sign tag) open_now = if tag == 29 || tag == 31 then suc open_now else (if tag == 30 || tag == 32 then open_now - 1 else open_now)
brackets_behind Newline open_now = open_now
brackets_behind Indent open_now = open_now
brackets_behind Dedent open_now = open_now
brackets_behind End open_now = open_now

-- the Newline of a line that holds tokens and ends outside brackets
abbrev pub newline : Line → ℕ → Token → List Token
newline Fresh brackets t = []
newline Bare brackets t = []
newline Full brackets t = if brackets == 0 then t ∷ [] else []

-- how far the next line is read when one ends: inside brackets a line goes on
abbrev pub line_behind : ℕ → Line
line_behind brackets = if brackets == 0 then Fresh else Full

-- Within a line, by what stands next.
unfoldable pub went_on : List ℕ → Place → Piece → Next
went_on src p Nothing =
    let mark = λ (kind : Tok). token kind p.at p.at (line_at src p.at) in
    Ends (newline p.line p.brackets (mark Newline) ++ replicate (length p.indents) (mark Dedent) ++ mark End ∷ [])
went_on src p LineEnd =
    Goes (newline p.line p.brackets (token Newline p.at (p.at + 1) (line_at src p.at)))
    (record { at = p.at + 1; indents = p.indents; brackets = p.brackets; line = line_behind p.brackets })
went_on src p (Gap n) = Goes [] (record { at = p.at + n; indents = p.indents; brackets = p.brackets; line = p.line })
went_on src p (Word kind n) =
    Goes (token kind p.at (p.at + n) (line_at src p.at) ∷ [])
    (record { at = p.at + n; indents = p.indents; brackets = brackets_behind kind p.brackets; line = p.line })
went_on src p (Bad code) = Stops code (line_at src p.at)

-- what the step at a place does
abbrev pub next_at : Line → List ℕ → Place → Next
next_at Fresh src p = begun src p
next_at Bare src p = went_on src p (piece (drop p.at src))
next_at Full src p = went_on src p (piece (drop p.at src))

unfoldable pub next : List ℕ → Place → Next
next src p = next_at p.line src p
