-- The signs and words of the Python subset by their tags, and how tightly its operators bind (Python Language Reference, section
-- 6.17, without chained comparisons).
use Rattle.std.specs.Prelude.{ℕ, suc, Bool, true, false, ◌==◌, if◌then◌else◌, Option, Some, None}
use Rattle.mh_pytok.specs.Words.{level_of}
use Rattle.mh_pytok.specs.declared.token.Tok.{Tok}
use Rattle.mh_pytok.specs.declared.token.Tok.TheVariants.{Name, Number, Str, Keyword, Sign, Newline, Indent, Dedent, End}
use Rattle.mh_pytree.specs.declared.expression.Operator.{Operator}
use Rattle.mh_pytree.specs.declared.expression.Operator.TheVariants.{Or, And, Equal, NotEqual, Less, LessEqual, Greater, GreaterEqual, BitOr, BitXor, BitAnd, ShiftLeft, ShiftRight, Add, Subtract, Multiply, Divide, Remainder}
use Rattle.mh_pytree.specs.declared.expression.Sign.{Sign as UnarySign}
use Rattle.mh_pytree.specs.declared.expression.Sign.TheVariants.{Minus, Plus, Invert}

-- ---- keywords

abbrev pub false_word : Tok
false_word = Keyword 1

abbrev pub none_word : Tok
none_word = Keyword 2

abbrev pub true_word : Tok
true_word = Keyword 3

abbrev pub assert_word : Tok
assert_word = Keyword 6

abbrev pub break_word : Tok
break_word = Keyword 9

abbrev pub continue_word : Tok
continue_word = Keyword 11

abbrev pub def_word : Tok
def_word = Keyword 12

abbrev pub elif_word : Tok
elif_word = Keyword 14

abbrev pub else_word : Tok
else_word = Keyword 15

abbrev pub for_word : Tok
for_word = Keyword 18

abbrev pub from_word : Tok
from_word = Keyword 19

abbrev pub if_word : Tok
if_word = Keyword 21

abbrev pub import_word : Tok
import_word = Keyword 22

abbrev pub in_word : Tok
in_word = Keyword 23

abbrev pub not_word : Tok
not_word = Keyword 27

abbrev pub pass_word : Tok
pass_word = Keyword 29

abbrev pub raise_word : Tok
raise_word = Keyword 30

abbrev pub return_word : Tok
return_word = Keyword 31

abbrev pub while_word : Tok
while_word = Keyword 33

abbrev pub yield_word : Tok
yield_word = Keyword 35

-- ---- signs

abbrev pub star : Tok
star = Sign 3

abbrev pub equals : Tok
equals = Sign 18

abbrev pub lparen : Tok
lparen = Sign 29

abbrev pub rparen : Tok
rparen = Sign 30

abbrev pub lbracket : Tok
lbracket = Sign 31

abbrev pub rbracket : Tok
rbracket = Sign 32

abbrev pub comma : Tok
comma = Sign 33

abbrev pub colon : Tok
colon = Sign 34

abbrev pub dot : Tok
dot = Sign 35

abbrev pub semicolon : Tok
semicolon = Sign 36

abbrev pub at_sign : Tok
at_sign = Sign 37

abbrev pub same_kind : Tok → Tok → Bool
same_kind Name Name = true
same_kind Number Number = true
same_kind Str Str = true
same_kind (Keyword a) (Keyword b) = a == b
same_kind (Sign a) (Sign b) = a == b
same_kind Newline Newline = true
same_kind Indent Indent = true
same_kind Dedent Dedent = true
same_kind End End = true
same_kind _ _ = false

-- ---- operators and how they are spelled

-- the sign in front of an operand
abbrev pub prefix_sign : UnarySign → Tok
prefix_sign Plus = Sign 1
prefix_sign Minus = Sign 2
prefix_sign Invert = Sign 9

-- the sign or word between two operands
abbrev pub spelled : Operator → Tok
spelled Or = Keyword 28
spelled And = Keyword 4
spelled Equal = Sign 12
spelled NotEqual = Sign 13
spelled Less = Sign 14
spelled LessEqual = Sign 15
spelled Greater = Sign 16
spelled GreaterEqual = Sign 17
spelled BitOr = Sign 7
spelled BitXor = Sign 8
spelled BitAnd = Sign 6
spelled ShiftLeft = Sign 10
spelled ShiftRight = Sign 11
spelled Add = Sign 1
spelled Subtract = Sign 2
spelled Multiply = Sign 3
spelled Divide = Sign 4
spelled Remainder = Sign 5

-- the sign of an assignment that operates on its target, where the operator has one
abbrev pub augmented : Operator → Option Tok
augmented Add = Some (Sign 19)
augmented Subtract = Some (Sign 20)
augmented Multiply = Some (Sign 21)
augmented Divide = Some (Sign 22)
augmented Remainder = Some (Sign 23)
augmented BitAnd = Some (Sign 24)
augmented BitOr = Some (Sign 25)
augmented BitXor = Some (Sign 26)
augmented ShiftLeft = Some (Sign 27)
augmented ShiftRight = Some (Sign 28)
augmented _ = None

-- ---- levels: 1 or, 2 and, 3 not, 4 comparison, 5 |, 6 ^, 7 &, 8 shift, 9 sum, 10 term, 11 sign in front, 12 primary

-- how tightly an operator binds: the level in the row of its sign or word
abbrev pub op_level : Operator → ℕ
op_level op = level_of (spelled op)

-- The least level of an operator's left operand: that of the operator, since operators group to the left, but a comparison does
-- not chain.
abbrev pub left_level : Operator → ℕ
left_level op = if op_level op == op_level Less then suc (op_level op) else op_level op
