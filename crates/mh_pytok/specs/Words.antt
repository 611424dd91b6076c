-- The reserved words of Python 3 (the reference, 2.3.1) and the signs of the subset, each with its tag and
-- with how tightly it binds as an operator: 1 or, 2 and, 3 not, 4 comparisons, 5 |, 6 ^, 7 &, 8 shifts, 9 sums,
-- 10 products, 12 what follows a primary; 0 for what is no operator between two operands or behind one.
use Rattle.std.specs.Prelude.{ℕ, List, [], ◌∷◌, ◌==◌, if◌then◌else◌, Option, None, Some, take, codes}
use Rattle.mh_text.specs.Rows.{Entry, found}
use Rattle.mh_pytok.specs.declared.token.Tok.{Tok}
use Rattle.mh_pytok.specs.declared.token.Tok.TheVariants.{Keyword, Sign}

abbrev pub row : List ℕ → ℕ → ℕ → Entry
row spelling tag level = record { spelling = spelling; tag = tag; level = level }

unfoldable pub keywords : List Entry
keywords =
    row (codes "False") 1 0 ∷ row (codes "None") 2 0 ∷ row (codes "True") 3 0 ∷ row (codes "and") 4 2 ∷
    row (codes "as") 5 0 ∷ row (codes "assert") 6 0 ∷ row (codes "async") 7 0 ∷ row (codes "await") 8 0 ∷
    row (codes "break") 9 0 ∷ row (codes "class") 10 0 ∷ row (codes "continue") 11 0 ∷ row (codes "def") 12 0 ∷
    row (codes "del") 13 0 ∷ row (codes "elif") 14 0 ∷ row (codes "else") 15 0 ∷ row (codes "except") 16 0 ∷
    row (codes "finally") 17 0 ∷ row (codes "for") 18 0 ∷ row (codes "from") 19 0 ∷ row (codes "global") 20 0 ∷
    row (codes "if") 21 0 ∷ row (codes "import") 22 0 ∷ row (codes "in") 23 0 ∷ row (codes "is") 24 0 ∷
    row (codes "lambda") 25 0 ∷ row (codes "nonlocal") 26 0 ∷ row (codes "not") 27 3 ∷ row (codes "or") 28 1 ∷
    row (codes "pass") 29 0 ∷ row (codes "raise") 30 0 ∷ row (codes "return") 31 0 ∷ row (codes "try") 32 0 ∷
    row (codes "while") 33 0 ∷ row (codes "with") 34 0 ∷ row (codes "yield") 35 0 ∷ []

unfoldable pub signs : List Entry
signs =
    row (codes "+") 1 9 ∷ row (codes "-") 2 9 ∷ row (codes "*") 3 10 ∷ row (codes "//") 4 10 ∷ row (codes "%") 5 10 ∷
    row (codes "&") 6 7 ∷ row (codes "|") 7 5 ∷ row (codes "^") 8 6 ∷ row (codes "~") 9 0 ∷ row (codes "<<") 10 8 ∷
    row (codes ">>") 11 8 ∷ row (codes "==") 12 4 ∷ row (codes "!=") 13 4 ∷ row (codes "<") 14 4 ∷
    row (codes "<=") 15 4 ∷ row (codes ">") 16 4 ∷ row (codes ">=") 17 4 ∷ row (codes "=") 18 0 ∷
    row (codes "+=") 19 0 ∷ row (codes "-=") 20 0 ∷ row (codes "*=") 21 0 ∷ row (codes "//=") 22 0 ∷
    row (codes "%=") 23 0 ∷ row (codes "&=") 24 0 ∷ row (codes "|=") 25 0 ∷ row (codes "^=") 26 0 ∷
    row (codes "<<=") 27 0 ∷ row (codes ">>=") 28 0 ∷ row (codes "(") 29 12 ∷ row (codes ")") 30 0 ∷
    row (codes "[") 31 12 ∷ row (codes "]") 32 0 ∷ row (codes ",") 33 0 ∷ row (codes ":") 34 0 ∷
    row (codes ".") 35 12 ∷ row (codes ";") 36 0 ∷ row (codes "@") 37 0 ∷ []

-- the first of two answers that is there
abbrev pub or_else : {X : Type 0} → Option X → Option X → Option X
or_else None y = y
or_else (Some x) y = Some x

-- The longest sign at the front of the bytes. No sign has more than three.
unfoldable pub longest_sign : List ℕ → Option Entry
longest_sign bytes = or_else (found signs (take 3 bytes)) (or_else (found signs (take 2 bytes)) (found signs (take 1 bytes)))

abbrev pub word_by : Option Entry → Option Entry → Option Tok
word_by (Some row) _ = Some (Keyword row.tag)
word_by None (Some row) = Some (Sign row.tag)
word_by None None = None

-- the keyword or the sign that a text is, by its row
unfoldable pub word_of : List ℕ → Option Tok
word_of text = word_by (found keywords text) (found signs text)

-- the level of the row of this tag, 0 where no row has it
unfoldable pub level_with : List Entry → ℕ → ℕ
level_with [] tag = 0
level_with (x ∷ xs) tag = if x.tag == tag then x.level else level_with xs tag

-- how tightly a keyword or a sign binds, by its row
abbrev pub level_of : Tok → ℕ
level_of (Keyword tag) = level_with keywords tag
level_of (Sign tag) = level_with signs tag
level_of _ = 0
