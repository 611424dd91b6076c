-- How Python writes the signs and words of the grammar (Python Language Reference, sections 2.3.1, 2.5, 2.6, 6.5 to 6.11 and 7.2.1).
use Rattle.std.specs.Prelude.{◌≡◌, ℕ, List, [], ◌∷◌, Some, codes}
use Rattle.mh_pytok.specs.Words.{word_of}
use Rattle.mh_pytok.specs.declared.token.Tok.{Tok}
use Rattle.mh_pytree.specs.declared.expression.Operator.{Operator}
use Rattle.mh_pytree.specs.declared.expression.Operator.TheVariants.{Or, And, Equal, NotEqual, Less, LessEqual, Greater, GreaterEqual, BitOr, BitXor, BitAnd, ShiftLeft, ShiftRight, Add, Subtract, Multiply, Divide, Remainder}
use Rattle.mh_pytree.specs.declared.expression.Sign.{Sign}
use Rattle.mh_pytree.specs.declared.expression.Sign.TheVariants.{Minus, Plus, Invert}
use Rattle.mh_pyparse.specs.Signs.{false_word, none_word, true_word, assert_word, break_word, continue_word, def_word, elif_word, else_word, for_word, from_word, if_word}
use Rattle.mh_pyparse.specs.Signs.{import_word, in_word, not_word, pass_word, raise_word, return_word, while_word, yield_word}
use Rattle.mh_pyparse.specs.Signs.{star, equals, lparen, rparen, lbracket, rbracket, comma, colon, dot, semicolon, at_sign}

-- the row of this text is that of this token
abbrev pub IsSpelled : List ℕ → Tok → Type 0
IsSpelled text kind = word_of text ≡ Some kind

-- what stands between two operands
abbrev pub written : Operator → List ℕ
written Or = codes "or"
written And = codes "and"
written Equal = codes "=="
written NotEqual = codes "!="
written Less = codes "<"
written LessEqual = codes "<="
written Greater = codes ">"
written GreaterEqual = codes ">="
written BitOr = codes "|"
written BitXor = codes "^"
written BitAnd = codes "&"
written ShiftLeft = codes "<<"
written ShiftRight = codes ">>"
written Add = codes "+"
written Subtract = codes "-"
written Multiply = codes "*"
written Divide = codes "//"
written Remainder = codes "%"

-- what stands in front of an operand, `not` aside
abbrev pub written_before : Sign → List ℕ
written_before Minus = codes "-"
written_before Plus = codes "+"
written_before Invert = codes "~"

abbrev pub AreSpelled : List (List ℕ × Tok) → Type 0
AreSpelled [] = Unit {0}
AreSpelled ((text, kind) ∷ rows) = IsSpelled text kind × AreSpelled rows

-- the words of the grammar other than `and` and `or`
abbrev pub words : List (List ℕ × Tok)
words =
    (codes "False", false_word) ∷ (codes "None", none_word) ∷ (codes "True", true_word) ∷ (codes "assert", assert_word) ∷
    (codes "break", break_word) ∷ (codes "continue", continue_word) ∷ (codes "def", def_word) ∷ (codes "elif", elif_word) ∷
    (codes "else", else_word) ∷ (codes "for", for_word) ∷ (codes "from", from_word) ∷ (codes "if", if_word) ∷
    (codes "import", import_word) ∷ (codes "in", in_word) ∷ (codes "not", not_word) ∷ (codes "pass", pass_word) ∷
    (codes "raise", raise_word) ∷ (codes "return", return_word) ∷ (codes "while", while_word) ∷ (codes "yield", yield_word) ∷ []

-- the signs of the grammar that are no operators
abbrev pub marks : List (List ℕ × Tok)
marks =
    (codes "*", star) ∷ (codes "=", equals) ∷ (codes "(", lparen) ∷ (codes ")", rparen) ∷ (codes "[", lbracket) ∷ (codes "]", rbracket) ∷
    (codes ",", comma) ∷ (codes ":", colon) ∷ (codes ".", dot) ∷ (codes ";", semicolon) ∷ (codes "@", at_sign) ∷ []
