-- How expressions are read. With each tree goes how deep it is.
use Rattle.std.specs.Prelude.{ℕ, zero, suc, pos, max, ◌+◌, ◌==◌, Bool, true, false, ◌&&◌, nat_le, nat_lt, if◌then◌else◌, List, [], ◌∷◌, ◌++◌, Option, Some, None}
use Rattle.mh_reader.specs.Reader.{Reader, ◌>>=◌, ◌>>◌, pure, refuse, look, take, eat, expect, want, many}
use Rattle.mh_pytok.specs.Lexeme.{Lexeme}
use Rattle.mh_pytok.specs.Numbers.{number_value}
use Rattle.mh_pytok.specs.Strings.{string_value}
use Rattle.mh_pytok.specs.declared.token.Tok.{Tok}
use Rattle.mh_pytok.specs.declared.token.Tok.TheVariants.{Name, Number, Str, Keyword}
use Rattle.mh_pytree.specs.declared.expression.PyExpr.{PyExpr}
use Rattle.mh_pytree.specs.declared.expression.PyExpr.TheVariants as tree
use Rattle.mh_pytree.specs.declared.expression.Argument.{Argument}
use Rattle.mh_pyparse.specs.declared.infix.Infix.{Infix}
use Rattle.mh_pyparse.specs.declared.infix.Infix.TheVariants.{Binary, Attribute, Call, Index}
use Rattle.mh_pyparse.specs.declared.infix.Prefix.{Prefix}
use Rattle.mh_pyparse.specs.Signs.{same_kind, for_word, in_word, equals, lparen, rparen, lbracket, rbracket, comma, colon, op_level}
use Rattle.mh_pyparse.specs.Grammar.{argument}
use Rattle.mh_pyparse.specs.Operators.{infix_of, binds, needs, prefix_of, prefix_level, prefixed, level, name_of, begins}

abbrev pub Read : Type 0 → Type 0
Read A = Reader Lexeme A

-- a tree and how deep it is
abbrev pub Deep : Type 0
Deep = PyExpr × ℕ

-- trees and how deep the deepest is
abbrev pub Row : Type 0
Row = List PyExpr × ℕ

abbrev pub Arguments : Type 0
Arguments = List Argument × ℕ

-- ---- what a token says

unfoldable pub is : Tok → Lexeme → Bool
is kind t = same_kind t.kind kind

-- the text of a token of this kind
unfoldable pub text_if : Tok → Lexeme → Option (List ℕ)
text_if kind t = if is kind t then Some t.text else None

unfoldable pub word_leaf : ℕ → Option PyExpr
word_leaf n = if n == 1 then Some tree.False else if n == 2 then Some tree.None else if n == 3 then Some tree.True else None

abbrev pub leaf_by : Tok → List ℕ → Option PyExpr
leaf_by Name text = Some (tree.Name text)
leaf_by Number text = Some (tree.Number (pos (number_value text)))
leaf_by Str text = Some (tree.Str (string_value text))
leaf_by (Keyword n) text = word_leaf n
leaf_by _ text = None

-- the expression that the token is by itself
unfoldable pub leaf_of : Lexeme → Option PyExpr
leaf_of t = leaf_by t.kind t.text

abbrev pub infix_at : Option Lexeme → Option Infix
infix_at None = None
infix_at (Some t) = infix_of t.kind

abbrev pub prefix_at : Option Lexeme → Option Prefix
prefix_at None = None
prefix_at (Some t) = prefix_of t.kind

abbrev pub begins_at : Option Lexeme → Bool
begins_at None = false
begins_at (Some t) = begins t.kind

-- ---- the parts of expressions

unfoldable pub leaf : Read Deep
leaf = do
  a ← want leaf_of
  pure (a, 1)

unfoldable pub admits : ℕ → PyExpr → Infix → Bool
admits least left i = nat_le least (binds i) && nat_le (needs i) (level left)

-- what follows an item of a list: a comma and more, or the closing sign
unfoldable pub closing : {A : Type 0} → Tok → A → Read (A × Bool)
closing close found = do
  goes_on ← eat (is comma)
  if goes_on then pure (found, true) else (do
    expect (is close)
    pure (found, false))

-- `sub` reads an expression of the level at least, one level below.
module _ (sub : ℕ → Read Deep) where
  unfoldable pub items_turn : Tok → Row → Read (Row × Bool)
  items_turn close found = do
    is_closed ← eat (is close)
    if is_closed then pure (found, false) else (do
      x ← sub 1
      closing close (found.0 ++ x.0 ∷ [], max found.1 x.1))

  -- expressions up to the closing sign, after those that were found
  unfoldable pub items : Tok → Row → Read Row
  items close found = many (items_turn close) found

  -- after `(`, an expression, and a comma
  unfoldable pub bracketed : Deep → Read Deep
  bracketed a = do
    xs ← items rparen (a.0 ∷ [], a.1)
    pure (tree.Bracketed xs.0, xs.1 + 1)

  -- after `(`
  unfoldable pub round : Read Deep
  round = do
    is_closed ← eat (is rparen)
    if is_closed then pure (tree.Bracketed [], 1) else (do
      a ← sub 1
      is_tuple ← eat (is comma)
      if is_tuple then bracketed a else (do
        expect (is rparen)
        pure (tree.Group a.0, a.1 + 1)))

  -- after `[`, an expression, and `for`
  unfoldable pub comprehension : Deep → Read Deep
  comprehension a = do
    name ← want (text_if Name)
    expect (is in_word)
    b ← sub 1
    expect (is rbracket)
    pure (tree.Comprehension a.0 name b.0, max a.1 b.1 + 1)

  -- after `[` and an expression
  unfoldable pub list : Deep → Read Deep
  list a = do
    goes_on ← eat (is comma)
    if goes_on then (do
      xs ← items rbracket (a.0 ∷ [], a.1)
      pure (tree.List xs.0, xs.1 + 1)) else (do
        expect (is rbracket)
        pure (tree.List (a.0 ∷ []), a.1 + 1))

  -- after `[`
  unfoldable pub square : Read Deep
  square = do
    is_closed ← eat (is rbracket)
    if is_closed then pure (tree.List [], 1) else (do
      a ← sub 1
      is_comprehension ← eat (is for_word)
      if is_comprehension then comprehension a else list a)

  unfoldable pub operand : Prefix → Read Deep
  operand p = do
    a ← sub (prefix_level p)
    pure (prefixed p a.0, a.1 + 1)

  abbrev pub prefix_by : ℕ → ℕ → Option Prefix → Read Deep
  prefix_by d least None = leaf
  prefix_by d least (Some p) = if nat_lt 0 d && nat_le least (prefix_level p) then (do take; operand p) else refuse

  -- what begins an expression
  unfoldable pub prefix : ℕ → ℕ → Read Deep
  prefix d least = do
    is_round ← eat (is lparen)
    if is_round then round else (do
      is_square ← eat (is lbracket)
      if is_square then square else (do
        p ← look prefix_at
        prefix_by d least p))

  -- `= e` after a name
  abbrev pub argument_by : Deep → Option (List ℕ) → Read (Argument × ℕ)
  argument_by x None = pure (argument None x.0, x.1)
  argument_by x (Some name) = do
    is_named ← eat (is equals)
    if is_named then (do
      a ← sub 1
      pure (argument (Some name) a.0, a.1)) else pure (argument None x.0, x.1)

  unfoldable pub arguments_turn : Arguments → Read (Arguments × Bool)
  arguments_turn found = do
    is_closed ← eat (is rparen)
    if is_closed then pure (found, false) else (do
      x ← sub 1
      a ← argument_by x (name_of x.0)
      closing rparen (found.0 ++ a.0 ∷ [], max found.1 a.1))

  -- after `[`, an expression, and `:`
  unfoldable pub sliced : Deep → Deep → Read Deep
  sliced left b = do
    is_closed ← eat (is rbracket)
    if is_closed then pure (tree.Slice left.0 b.0 None, max left.1 b.1 + 1) else (do
      c ← sub 1
      expect (is rbracket)
      pure (tree.Slice left.0 b.0 (Some c.0), max left.1 (max b.1 c.1) + 1))

  -- after `[`
  unfoldable pub indexed : Deep → Read Deep
  indexed left = do
    is_whole ← eat (is colon)
    if is_whole then (do
      expect (is rbracket)
      pure (tree.Whole left.0, left.1 + 1)) else (do
        b ← sub 1
        is_slice ← eat (is colon)
        if is_slice then sliced left b else (do
          expect (is rbracket)
          pure (tree.Index left.0 b.0, max left.1 b.1 + 1)))

  -- after the operator
  unfoldable pub apply : Deep → Infix → Read Deep
  apply left (Binary op) = do
    b ← sub (op_level op + 1)
    pure (tree.Binary op left.0 b.0, max left.1 b.1 + 1)
  apply left Attribute = do
    name ← want (text_if Name)
    pure (tree.Attribute left.0 name, left.1 + 1)
  apply left Call = do
    xs ← many arguments_turn ([], 0)
    pure (tree.Call left.0 xs.0, max left.1 xs.1 + 1)
  apply left Index = indexed left

  -- the operator and what follows it
  unfoldable pub applied : Deep → Infix → Read (Deep × Bool)
  applied left i = do
    take
    x ← apply left i
    pure (x, true)

  abbrev pub goes_on_by : ℕ → ℕ → Deep → Option Infix → Read (Deep × Bool)
  goes_on_by d least left None = pure (left, false)
  goes_on_by d least left (Some i) =
      if admits least left.0 i then (
      if nat_lt d left.1 then refuse else applied left i)
      else pure (left, false)

  -- An operator, where the level admits it. What stands in front of it gets one level deeper, so an operator that makes it too deep
  -- doesn't fit.
  unfoldable pub operate_turn : ℕ → ℕ → Deep → Read (Deep × Bool)
  operate_turn d least left = do
    i ← look infix_at
    goes_on_by d least left i

  unfoldable pub operate : ℕ → ℕ → Deep → Read Deep
  operate d least left = many (operate_turn d least) left

  unfoldable pub whole : ℕ → ℕ → Read Deep
  whole d least = prefix d least >>= operate d least

  -- after an expression and a comma: expressions as long as one begins
  unfoldable pub tuple_turn : Row → Read (Row × Bool)
  tuple_turn found = do
    goes_on ← look begins_at
    if goes_on then (do
      x ← sub 1
      is_more ← eat (is comma)
      pure ((found.0 ++ x.0 ∷ [], max found.1 x.1), is_more)) else pure (found, false)

  -- after an expression: a tuple where a comma stands next, unless it makes the tree too deep
  unfoldable pub tuple : ℕ → Deep → Read Deep
  tuple d a = if nat_lt d a.1 then pure a else (do
    is_tuple ← eat (is comma)
    if is_tuple then (do
      xs ← many tuple_turn (a.0 ∷ [], a.1)
      pure (tree.Tuple xs.0, xs.1 + 1)) else pure a)

-- an expression of the level at least, no deeper than the first number
unfoldable pub expr : ℕ → ℕ → Read Deep
expr zero least = refuse
expr (suc d) least = whole (expr d) d least

-- an expression, or a tuple without brackets, no deeper than the number
unfoldable pub exprs : ℕ → Read Deep
exprs zero = refuse
exprs (suc d) = expr (suc d) 1 >>= tuple (expr d) d
