-- Which operators the tokens behind a tree would add to it.
use Rattle.std.proofs.Common.{◌≡◌, ℕ, suc, ◌+◌, ◌<◌, ◌≤◌, List, map, Option, Some, arith, rules}
use Rattle.mh_pytree.specs.declared.expression.Operator.{Operator}
use Rattle.mh_pytree.specs.declared.expression.Operator.TheVariants.{Or, And, Equal, NotEqual, Less, LessEqual, Greater, GreaterEqual, BitOr, BitXor, BitAnd, ShiftLeft, ShiftRight, Add, Subtract, Multiply, Divide, Remainder}
use Rattle.mh_pytree.specs.declared.expression.Sign.{Sign as UnarySign}
use Rattle.mh_pytree.specs.declared.expression.PyExpr.{PyExpr, out-PyExpr, the_lemmas}
use Rattle.mh_pytree.specs.declared.expression.PyExpr.TheVariants as tree
use Rattle.mh_pytree.specs.declared.expression.PyExpr.TheOpen.{PyExpr-F}
use Rattle.mh_pytree.specs.declared.expression.PyExpr.TheFolds.{fold_out-PyExpr}
use Rattle.mh_pytree.specs.declared.expression.Argument.{Argument}
use Rattle.mh_pytree.specs.Depth.{expr_depth, argument_depth, expr_step, argument_step, deepest}
use Rattle.mh_pytree.proofs.Depths.{depth-not, depth-unary, depth-argument}
use Rattle.mh_pytok.specs.Words.{keywords, signs, level_with}
use Rattle.mh_pyparse.specs.declared.infix.Infix.{Infix}
use Rattle.mh_pyparse.specs.declared.infix.Infix.TheVariants.{Binary, Attribute, Call, Index}
use Rattle.mh_pyparse.specs.declared.infix.Prefix.{Prefix}
use Rattle.mh_pyparse.specs.declared.infix.Prefix.TheVariants.{Not, Unary}
use Rattle.mh_pyparse.specs.Signs.{op_level}
use Rattle.mh_pyparse.specs.Grammar.{argument}
use Rattle.mh_pyparse.specs.Operators.{binds, needs, prefix_level, prefixed, level, level_at, name_of}
use Rattle.mh_pyparse.proofs.Tables.{level-not, level-unary}

-- ---- depths

abbrev pub depths : List PyExpr → ℕ
depths xs = deepest (map expr_depth xs)

abbrev pub argument_depths : List Argument → ℕ
argument_depths xs = deepest (map argument_depth xs)

step-some : (x : PyExpr-F ℕ ℕ) → 1 ≤ expr_step x
step-some (PyExpr-F.Name text) = omega arith
step-some (PyExpr-F.Number n) = omega arith
step-some (PyExpr-F.Str text) = omega arith
step-some PyExpr-F.True = omega arith
step-some PyExpr-F.False = omega arith
step-some PyExpr-F.None = omega arith
step-some (PyExpr-F.Group a) = omega arith
step-some (PyExpr-F.Bracketed xs) = omega arith
step-some (PyExpr-F.Tuple xs) = omega arith
step-some (PyExpr-F.List xs) = omega arith
step-some (PyExpr-F.Comprehension a text b) = omega arith
step-some (PyExpr-F.Not a) = omega arith
step-some (PyExpr-F.Unary sign a) = omega arith
step-some (PyExpr-F.Binary op a b) = omega arith
step-some (PyExpr-F.Attribute a text) = omega arith
step-some (PyExpr-F.Call f xs) = omega arith
step-some (PyExpr-F.Index a b) = omega arith
step-some (PyExpr-F.Slice a b e) = omega arith
step-some (PyExpr-F.Whole a) = omega arith

pub depth-some : (t : PyExpr) → 1 ≤ expr_depth t
unfolding expr_depth
depth-some t = rw (fold_out-PyExpr ℕ ℕ expr_step argument_step t) (step-some _)

pub depth-given : (name : Option (List ℕ)) (a : PyExpr) → argument_depth (argument name a) ≡ expr_depth a
depth-given name a = search (rules, the_lemmas, depth-argument)

pub depth-prefixed : (p : Prefix) (a : PyExpr) → expr_depth (prefixed p a) ≡ suc (expr_depth a)
depth-prefixed Not a = depth-not a
depth-prefixed (Unary sign) a = depth-unary sign a

pub name_of-name : (text : List ℕ) → name_of (tree.Name text) ≡ Some text
name_of-name text = search (rules, the_lemmas)

-- ---- levels

-- the least level of an operator that the last part of a tree would take, and that the whole then doesn't
abbrev pub takes_at : PyExpr-F PyExpr Argument → ℕ
takes_at (PyExpr-F.Not a) = 3
takes_at (PyExpr-F.Unary sign a) = 11
takes_at (PyExpr-F.Binary op a b) = op_level op + 1
takes_at _ = 13

abbrev pub takes : PyExpr → ℕ
takes t = takes_at (out-PyExpr t)

pub level-prefixed : (p : Prefix) (a : PyExpr) → level (prefixed p a) ≡ prefix_level p
level-prefixed Not a = level-not a
level-prefixed (Unary sign) a = level-unary sign a

takes-not : (a : PyExpr) → takes (tree.Not a) ≡ 3
takes-not a = search (rules, the_lemmas)

takes-unary : (sign : UnarySign) (a : PyExpr) → takes (tree.Unary sign a) ≡ 11
takes-unary sign a = search (rules, the_lemmas)

pub takes-prefixed : (p : Prefix) (a : PyExpr) → takes (prefixed p a) ≡ prefix_level p
takes-prefixed Not a = takes-not a
takes-prefixed (Unary sign) a = takes-unary sign a

pub takes-binary : (op : Operator) (a b : PyExpr) → takes (tree.Binary op a b) ≡ op_level op + 1
takes-binary op a b = search (rules, the_lemmas)

takes-some : (x : PyExpr-F PyExpr Argument) → level_at x ≤ takes_at x
takes-some (PyExpr-F.Name text) = omega arith
takes-some (PyExpr-F.Number n) = omega arith
takes-some (PyExpr-F.Str text) = omega arith
takes-some PyExpr-F.True = omega arith
takes-some PyExpr-F.False = omega arith
takes-some PyExpr-F.None = omega arith
takes-some (PyExpr-F.Group a) = omega arith
takes-some (PyExpr-F.Bracketed xs) = omega arith
takes-some (PyExpr-F.Tuple xs) = omega arith
takes-some (PyExpr-F.List xs) = omega arith
takes-some (PyExpr-F.Comprehension a text b) = omega arith
takes-some (PyExpr-F.Not a) = omega arith
takes-some (PyExpr-F.Unary sign a) = omega arith
takes-some (PyExpr-F.Binary op a b) = omega arith
takes-some (PyExpr-F.Attribute a text) = omega arith
takes-some (PyExpr-F.Call f xs) = omega arith
takes-some (PyExpr-F.Index a b) = omega arith
takes-some (PyExpr-F.Slice a b e) = omega arith
takes-some (PyExpr-F.Whole a) = omega arith

pub level-takes : (t : PyExpr) → level t ≤ takes t
level-takes t = takes-some (out-PyExpr t)

-- ---- operators

pub op-most : (op : Operator) → op_level op ≤ 10
unfolding level_with keywords signs
op-most Or = omega arith
op-most And = omega arith
op-most Equal = omega arith
op-most NotEqual = omega arith
op-most Less = omega arith
op-most LessEqual = omega arith
op-most Greater = omega arith
op-most GreaterEqual = omega arith
op-most BitOr = omega arith
op-most BitXor = omega arith
op-most BitAnd = omega arith
op-most ShiftLeft = omega arith
op-most ShiftRight = omega arith
op-most Add = omega arith
op-most Subtract = omega arith
op-most Multiply = omega arith
op-most Divide = omega arith
op-most Remainder = omega arith

pub binds-needs : (i : Infix) → binds i ≤ needs i
unfolding level_with keywords signs
binds-needs (Binary Or) = omega arith
binds-needs (Binary And) = omega arith
binds-needs (Binary Equal) = omega arith
binds-needs (Binary NotEqual) = omega arith
binds-needs (Binary Less) = omega arith
binds-needs (Binary LessEqual) = omega arith
binds-needs (Binary Greater) = omega arith
binds-needs (Binary GreaterEqual) = omega arith
binds-needs (Binary BitOr) = omega arith
binds-needs (Binary BitXor) = omega arith
binds-needs (Binary BitAnd) = omega arith
binds-needs (Binary ShiftLeft) = omega arith
binds-needs (Binary ShiftRight) = omega arith
binds-needs (Binary Add) = omega arith
binds-needs (Binary Subtract) = omega arith
binds-needs (Binary Multiply) = omega arith
binds-needs (Binary Divide) = omega arith
binds-needs (Binary Remainder) = omega arith
binds-needs Attribute = omega arith
binds-needs Call = omega arith
binds-needs Index = omega arith

binds-some : (i : Infix) → binds i < 13
unfolding level_with keywords signs
binds-some (Binary Or) = omega arith
binds-some (Binary And) = omega arith
binds-some (Binary Equal) = omega arith
binds-some (Binary NotEqual) = omega arith
binds-some (Binary Less) = omega arith
binds-some (Binary LessEqual) = omega arith
binds-some (Binary Greater) = omega arith
binds-some (Binary GreaterEqual) = omega arith
binds-some (Binary BitOr) = omega arith
binds-some (Binary BitXor) = omega arith
binds-some (Binary BitAnd) = omega arith
binds-some (Binary ShiftLeft) = omega arith
binds-some (Binary ShiftRight) = omega arith
binds-some (Binary Add) = omega arith
binds-some (Binary Subtract) = omega arith
binds-some (Binary Multiply) = omega arith
binds-some (Binary Divide) = omega arith
binds-some (Binary Remainder) = omega arith
binds-some Attribute = omega arith
binds-some Call = omega arith
binds-some Index = omega arith

needs-some : (i : Infix) → 1 ≤ needs i
unfolding level_with keywords signs
needs-some (Binary Or) = omega arith
needs-some (Binary And) = omega arith
needs-some (Binary Equal) = omega arith
needs-some (Binary NotEqual) = omega arith
needs-some (Binary Less) = omega arith
needs-some (Binary LessEqual) = omega arith
needs-some (Binary Greater) = omega arith
needs-some (Binary GreaterEqual) = omega arith
needs-some (Binary BitOr) = omega arith
needs-some (Binary BitXor) = omega arith
needs-some (Binary BitAnd) = omega arith
needs-some (Binary ShiftLeft) = omega arith
needs-some (Binary ShiftRight) = omega arith
needs-some (Binary Add) = omega arith
needs-some (Binary Subtract) = omega arith
needs-some (Binary Multiply) = omega arith
needs-some (Binary Divide) = omega arith
needs-some (Binary Remainder) = omega arith
needs-some Attribute = omega arith
needs-some Call = omega arith
needs-some Index = omega arith

-- none that needs what stands in front to be as loose as `not`, or as a sign, binds so tightly
not_free : (i : Infix) → needs i ≤ 3 → binds i < 3
unfolding level_with keywords signs
not_free (Binary Or) h = omega arith
not_free (Binary And) h = omega arith
not_free (Binary Equal) h = omega arith
not_free (Binary NotEqual) h = omega arith
not_free (Binary Less) h = omega arith
not_free (Binary LessEqual) h = omega arith
not_free (Binary Greater) h = omega arith
not_free (Binary GreaterEqual) h = omega arith
not_free (Binary BitOr) h = omega arith
not_free (Binary BitXor) h = omega arith
not_free (Binary BitAnd) h = omega arith
not_free (Binary ShiftLeft) h = omega arith
not_free (Binary ShiftRight) h = omega arith
not_free (Binary Add) h = omega arith
not_free (Binary Subtract) h = omega arith
not_free (Binary Multiply) h = omega arith
not_free (Binary Divide) h = omega arith
not_free (Binary Remainder) h = omega arith
not_free Attribute h = omega arith
not_free Call h = omega arith
not_free Index h = omega arith

sign_free : (i : Infix) → needs i ≤ 11 → binds i < 11
unfolding level_with keywords signs
sign_free (Binary Or) h = omega arith
sign_free (Binary And) h = omega arith
sign_free (Binary Equal) h = omega arith
sign_free (Binary NotEqual) h = omega arith
sign_free (Binary Less) h = omega arith
sign_free (Binary LessEqual) h = omega arith
sign_free (Binary Greater) h = omega arith
sign_free (Binary GreaterEqual) h = omega arith
sign_free (Binary BitOr) h = omega arith
sign_free (Binary BitXor) h = omega arith
sign_free (Binary BitAnd) h = omega arith
sign_free (Binary ShiftLeft) h = omega arith
sign_free (Binary ShiftRight) h = omega arith
sign_free (Binary Add) h = omega arith
sign_free (Binary Subtract) h = omega arith
sign_free (Binary Multiply) h = omega arith
sign_free (Binary Divide) h = omega arith
sign_free (Binary Remainder) h = omega arith
sign_free Attribute h = omega arith
sign_free Call h = omega arith
sign_free Index h = omega arith

left_free : (x : PyExpr-F PyExpr Argument) (i : Infix) → needs i ≤ level_at x → binds i < takes_at x
left_free (PyExpr-F.Name text) i h = binds-some i
left_free (PyExpr-F.Number n) i h = binds-some i
left_free (PyExpr-F.Str text) i h = binds-some i
left_free PyExpr-F.True i h = binds-some i
left_free PyExpr-F.False i h = binds-some i
left_free PyExpr-F.None i h = binds-some i
left_free (PyExpr-F.Group a) i h = binds-some i
left_free (PyExpr-F.Bracketed xs) i h = binds-some i
left_free (PyExpr-F.Tuple xs) i h = absurd (omega (arith, needs-some i))
left_free (PyExpr-F.List xs) i h = binds-some i
left_free (PyExpr-F.Comprehension a text b) i h = binds-some i
left_free (PyExpr-F.Not a) i h = not_free i h
left_free (PyExpr-F.Unary sign a) i h = sign_free i h
left_free (PyExpr-F.Binary op a b) i h = omega (arith, binds-needs i)
left_free (PyExpr-F.Attribute a text) i h = binds-some i
left_free (PyExpr-F.Call f xs) i h = binds-some i
left_free (PyExpr-F.Index a b) i h = binds-some i
left_free (PyExpr-F.Slice a b e) i h = binds-some i
left_free (PyExpr-F.Whole a) i h = binds-some i

-- an operator that may have the tree as its left operand is not taken by the tree's last part
pub takes-more : (t : PyExpr) (i : Infix) → needs i ≤ level t → binds i < takes t
takes-more t i h = left_free (out-PyExpr t) i h
