-- Which operator a sign or word is, and where it may stand: the tables of the grammar as the reading asks them.
use Rattle.std.specs.Prelude.{ℕ, Bool, true, false, ◌==◌, if◌then◌else◌, List, Option, Some, None}
use Rattle.mh_pytok.specs.declared.token.Tok.{Tok}
use Rattle.mh_pytok.specs.declared.token.Tok.TheVariants.{Name, Number, Str, Keyword, Sign}
use Rattle.mh_pytree.specs.declared.expression.Operator.{Operator}
use Rattle.mh_pytree.specs.declared.expression.Operator.TheVariants.{Or, And, Equal, NotEqual, Less, LessEqual, Greater, GreaterEqual, BitOr, BitXor, BitAnd, ShiftLeft, ShiftRight, Add, Subtract, Multiply, Divide, Remainder}
use Rattle.mh_pytree.specs.declared.expression.Sign.TheVariants.{Minus, Plus, Invert}
use Rattle.mh_pytree.specs.declared.expression.PyExpr.{PyExpr, out-PyExpr}
use Rattle.mh_pytree.specs.declared.expression.PyExpr.TheVariants as tree
use Rattle.mh_pytree.specs.declared.expression.PyExpr.TheOpen.{PyExpr-F}
use Rattle.mh_pytree.specs.declared.expression.Argument.{Argument}
use Rattle.mh_pyparse.specs.declared.infix.Infix.{Infix}
use Rattle.mh_pyparse.specs.declared.infix.Infix.TheVariants.{Binary, Attribute, Call, Index}
use Rattle.mh_pyparse.specs.declared.infix.Prefix.{Prefix}
use Rattle.mh_pyparse.specs.declared.infix.Prefix.TheVariants.{Not, Unary}
use Rattle.mh_pyparse.specs.Signs.{lparen, lbracket, dot, not_word, prefix_sign, spelled, op_level, left_level}

-- ---- what stands after its first operand

unfoldable pub infix_sign : ℕ → Option Infix
infix_sign n =
    if n == 1 then Some (Binary Add)
    else if n == 2 then Some (Binary Subtract)
    else if n == 3 then Some (Binary Multiply)
    else if n == 4 then Some (Binary Divide)
    else if n == 5 then Some (Binary Remainder)
    else if n == 6 then Some (Binary BitAnd)
    else if n == 7 then Some (Binary BitOr)
    else if n == 8 then Some (Binary BitXor)
    else if n == 10 then Some (Binary ShiftLeft)
    else if n == 11 then Some (Binary ShiftRight)
    else if n == 12 then Some (Binary Equal)
    else if n == 13 then Some (Binary NotEqual)
    else if n == 14 then Some (Binary Less)
    else if n == 15 then Some (Binary LessEqual)
    else if n == 16 then Some (Binary Greater)
    else if n == 17 then Some (Binary GreaterEqual)
    else if n == 29 then Some Call
    else if n == 31 then Some Index
    else if n == 35 then Some Attribute
    else None

unfoldable pub infix_word : ℕ → Option Infix
infix_word n = if n == 4 then Some (Binary And) else if n == 28 then Some (Binary Or) else None

abbrev pub infix_of : Tok → Option Infix
infix_of (Sign n) = infix_sign n
infix_of (Keyword n) = infix_word n
infix_of _ = None

abbrev pub infix_kind : Infix → Tok
infix_kind (Binary op) = spelled op
infix_kind Attribute = dot
infix_kind Call = lparen
infix_kind Index = lbracket

abbrev pub binds : Infix → ℕ
binds (Binary op) = op_level op
binds _ = 12

-- the least level of what stands in front
abbrev pub needs : Infix → ℕ
needs (Binary op) = left_level op
needs _ = 12

-- ---- what stands in front of its operand

unfoldable pub prefix_of : Tok → Option Prefix
prefix_of (Sign n) =
    if n == 1 then Some (Unary Plus)
    else if n == 2 then Some (Unary Minus)
    else if n == 9 then Some (Unary Invert)
    else None
prefix_of (Keyword n) = if n == 27 then Some Not else None
prefix_of _ = None

abbrev pub prefix_kind : Prefix → Tok
prefix_kind Not = not_word
prefix_kind (Unary sign) = prefix_sign sign

abbrev pub prefix_level : Prefix → ℕ
prefix_level Not = 3
prefix_level (Unary sign) = 11

abbrev pub prefixed : Prefix → PyExpr → PyExpr
prefixed Not a = tree.Not a
prefixed (Unary sign) a = tree.Unary sign a

-- ---- assignments that operate on their target

unfoldable pub augment_sign : ℕ → Option Operator
augment_sign n =
    if n == 19 then Some Add
    else if n == 20 then Some Subtract
    else if n == 21 then Some Multiply
    else if n == 22 then Some Divide
    else if n == 23 then Some Remainder
    else if n == 24 then Some BitAnd
    else if n == 25 then Some BitOr
    else if n == 26 then Some BitXor
    else if n == 27 then Some ShiftLeft
    else if n == 28 then Some ShiftRight
    else None

abbrev pub augment_of : Tok → Option Operator
augment_of (Sign n) = augment_sign n
augment_of _ = None

-- ---- trees

-- The level of a tree: that of its outermost operator. A tuple without brackets stands where no operator takes it.
abbrev pub level_at : PyExpr-F PyExpr Argument → ℕ
level_at (PyExpr-F.Tuple xs) = 0
level_at (PyExpr-F.Not a) = 3
level_at (PyExpr-F.Unary sign a) = 11
level_at (PyExpr-F.Binary op a b) = op_level op
level_at _ = 12

abbrev pub level : PyExpr → ℕ
level e = level_at (out-PyExpr e)

-- the name that a tree is, where it is one alone
abbrev pub name_at : PyExpr-F PyExpr Argument → Option (List ℕ)
name_at (PyExpr-F.Name text) = Some text
name_at _ = None

abbrev pub name_of : PyExpr → Option (List ℕ)
name_of e = name_at (out-PyExpr e)

-- whether an expression may begin with this token
unfoldable pub begins_sign : ℕ → Bool
begins_sign n = if n == 1 then true else if n == 2 then true else if n == 9 then true else if n == 29 then true else n == 31

unfoldable pub begins_word : ℕ → Bool
begins_word n = if n == 1 then true else if n == 2 then true else if n == 3 then true else n == 27

abbrev pub begins : Tok → Bool
begins Name = true
begins Number = true
begins Str = true
begins (Sign n) = begins_sign n
begins (Keyword n) = begins_word n
begins _ = false
