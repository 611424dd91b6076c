-- How statements are read. With what is read goes how deep it is.
use Rattle.std.specs.Prelude.{ℕ, zero, suc, max, ◌+◌, Bool, true, false, not, ◌&&◌, nat_eq, nat_le, nat_lt, if◌then◌else◌, List, [], ◌∷◌, ◌++◌, Option, Some, None, codes}
use Rattle.std.specs.Cmp.Lexicographic.{pointwise}
use Rattle.mh_reader.specs.Reader.{◌>>=◌, ◌>>◌, pure, refuse, look, take, eat, expect, want, many, whole}
use Rattle.mh_pytok.specs.Lexeme.{Lexeme}
use Rattle.mh_pytok.specs.Strings.{string_value}
use Rattle.mh_pytok.specs.declared.token.Tok.TheVariants.{Name, Str, Newline, Indent, Dedent, End}
use Rattle.mh_pytree.specs.declared.expression.Operator.{Operator}
use Rattle.mh_pytree.specs.declared.statement.PyStmt.{PyStmt}
use Rattle.mh_pytree.specs.declared.statement.PyStmt.TheVariants as tree
use Rattle.mh_pytree.specs.declared.statement.Param.{Param}
use Rattle.mh_pytree.specs.declared.statement.Branch.{Branch}
use Rattle.mh_pyparse.specs.Signs.{assert_word, break_word, continue_word, def_word, elif_word, else_word, for_word, from_word, if_word, import_word, in_word, pass_word, raise_word, return_word, while_word, yield_word, star, equals, lparen, rparen, comma, colon, semicolon, at_sign}
use Rattle.mh_pyparse.specs.Operators.{augment_of, level}
use Rattle.mh_pyparse.specs.Statements.{param, branch, definition}
use Rattle.mh_pyparse.specs.Reading.{Read, Deep, Row, is, text_if, begins_at, closing, expr, exprs}

-- a statement and how deep it is
abbrev pub Step : Type 0
Step = PyStmt × ℕ

-- statements and how deep the deepest is
abbrev pub Body : Type 0
Body = List PyStmt × ℕ

abbrev pub Names : Type 0
Names = List (List ℕ)

abbrev pub Branches : Type 0
Branches = List Branch × ℕ

abbrev pub Params : Type 0
Params = List Param × ℕ

abbrev pub line_at : Option Lexeme → ℕ
line_at None = 0
line_at (Some t) = t.line

abbrev pub augment_at : Option Lexeme → Option Operator
augment_at None = None
augment_at (Some t) = augment_of t.kind

abbrev pub ends_at : Option Lexeme → Bool
ends_at None = false
ends_at (Some t) = is End t

-- the name `myhdl`
unfoldable pub is_module : Lexeme → Bool
is_module t = is Name t && pointwise nat_eq t.text (codes "myhdl")

-- ---- imports

unfoldable pub names_turn : Names → Read (Names × Bool)
names_turn found = do
  name ← want (text_if Name)
  goes_on ← eat (is comma)
  pure (found ++ name ∷ [], goes_on)

-- in brackets, where the last comma may have no name after it
unfoldable pub bracketed_names_turn : Names → Read (Names × Bool)
bracketed_names_turn found = do
  name ← want (text_if Name)
  goes_on ← eat (is comma)
  if goes_on then (do
    is_closed ← eat (is rparen)
    pure (found ++ name ∷ [], not is_closed)) else (do
      expect (is rparen)
      pure (found ++ name ∷ [], false))

unfoldable pub imported_names : ℕ → Read Step
imported_names line = do
  is_bracketed ← eat (is lparen)
  if is_bracketed then (do
    names ← many bracketed_names_turn []
    pure (tree.Import line names, 1)) else (do
      names ← many names_turn []
      pure (tree.Import line names, 1))

-- after `from`
unfoldable pub imported : ℕ → Read Step
imported line = do
  expect is_module
  expect (is import_word)
  is_all ← eat (is star)
  if is_all then pure (tree.ImportAll line, 1) else imported_names line

-- ---- small statements: `d` bounds what stands inside

module _ (d : ℕ) where
  -- the sign and what follows it
  unfoldable pub augmented : ℕ → Deep → Operator → Read Step
  augmented line a op = do
    take
    b ← expr d 1
    pure (tree.Augment line op a.0 b.0, max a.1 b.1 + 1)

  abbrev pub augment_by : ℕ → Deep → Option Operator → Read Step
  augment_by line a None = pure (tree.Value line a.0, a.1 + 1)
  augment_by line a (Some op) = augmented line a op

  -- after an expression that `=` doesn't follow
  unfoldable pub valued : ℕ → Deep → Read Step
  valued line a = if nat_le 12 (level a.0) then (do
    op ← look augment_at
    augment_by line a op) else pure (tree.Value line a.0, a.1 + 1)

  unfoldable pub expressed : ℕ → Read Step
  expressed line = do
    a ← exprs d
    is_assigned ← eat (is equals)
    if is_assigned then (do
      b ← exprs d
      pure (tree.Assign line a.0 b.0, max a.1 b.1 + 1)) else valued line a

  unfoldable pub returned : ℕ → Read Step
  returned line = do
    has_value ← look begins_at
    if has_value then (do
      a ← exprs d
      pure (tree.Return line (Some a.0), a.1 + 1)) else pure (tree.Return line None, 1)

  unfoldable pub yielded : ℕ → Read Step
  yielded line = do
    a ← exprs d
    pure (tree.Yield line a.0, a.1 + 1)

  unfoldable pub raised : ℕ → Read Step
  raised line = do
    a ← expr d 1
    pure (tree.Raise line a.0, a.1 + 1)

  unfoldable pub asserted : ℕ → Read Step
  asserted line = do
    a ← expr d 1
    says ← eat (is comma)
    if says then (do
      text ← want (text_if Str)
      pure (tree.Assert line a.0 (Some (string_value text)), a.1 + 1)) else pure (tree.Assert line a.0 None, a.1 + 1)

  -- statements that hold an expression
  unfoldable pub holding : ℕ → Read Step
  holding line = do
    is_yield ← eat (is yield_word)
    if is_yield then yielded line else (do
      is_raise ← eat (is raise_word)
      if is_raise then raised line else (do
        is_assert ← eat (is assert_word)
        if is_assert then asserted line else expressed line))

  -- of the other ones, those of one word
  unfoldable pub small_by : ℕ → Read Step
  small_by line = do
    is_pass ← eat (is pass_word)
    if is_pass then pure (tree.Pass line, 1) else (do
      is_break ← eat (is break_word)
      if is_break then pure (tree.Break line, 1) else (do
        is_continue ← eat (is continue_word)
        if is_continue then pure (tree.Continue line, 1) else (do
          is_return ← eat (is return_word)
          if is_return then returned line else (do
            is_from ← eat (is from_word)
            if is_from then imported line else (
                if nat_lt 0 d then holding line else refuse)))))

  unfoldable pub small : Read Step
  small = do
    line ← look line_at
    small_by line

  unfoldable pub line_turn : Body → Read (Body × Bool)
  line_turn body = do
    x ← small
    goes_on ← eat (is semicolon)
    if goes_on then (do
      is_ended ← eat (is Newline)
      pure ((body.0 ++ x.0 ∷ [], max body.1 x.1), not is_ended)) else (do
        expect (is Newline)
        pure ((body.0 ++ x.0 ∷ [], max body.1 x.1), false))

-- a line of small statements, no deeper than the number
unfoldable pub simple : ℕ → Read Body
simple zero = refuse
simple (suc d) = many (line_turn d) ([], 0)

-- ---- statements that hold others: `sub` reads statements one level below, d is how deep these may be

module _ (sub : Read Body) where
  unfoldable pub block_turn : Body → Read (Body × Bool)
  block_turn body = do
    x ← sub
    is_closed ← eat (is Dedent)
    pure ((body.0 ++ x.0, max body.1 x.1), not is_closed)

  unfoldable pub suite : ℕ → Read Body
  suite d = do
    is_block ← eat (is Newline)
    if is_block then (do
      expect (is Indent)
      many block_turn ([], 0)) else simple d

  unfoldable pub branch_turn : ℕ → Branches → Read (Branches × Bool)
  branch_turn d found = do
    test ← expr d 1
    expect (is colon)
    body ← suite d
    goes_on ← eat (is elif_word)
    pure ((found.0 ++ branch test.0 body.0 ∷ [], max found.1 (max test.1 body.1)), goes_on)

  -- after `else`
  unfoldable pub otherwise : ℕ → ℕ → Branches → Read Step
  otherwise d line found = do
    expect (is colon)
    body ← suite d
    pure (tree.If line found.0 (Some body.0), max found.1 body.1 + 1)

  -- after `if`
  unfoldable pub conditional : ℕ → ℕ → Read Step
  conditional d line = do
    found ← many (branch_turn d) ([], 0)
    has_other ← eat (is else_word)
    if has_other then otherwise d line found else pure (tree.If line found.0 None, found.1 + 1)

  -- after `for`
  unfoldable pub for_each : ℕ → ℕ → Read Step
  for_each d line = do
    name ← want (text_if Name)
    expect (is in_word)
    over ← expr d 1
    expect (is colon)
    body ← suite d
    pure (tree.For line name over.0 body.0, max over.1 body.1 + 1)

  -- after `while`
  unfoldable pub as_long : ℕ → ℕ → Read Step
  as_long d line = do
    test ← expr d 1
    expect (is colon)
    body ← suite d
    pure (tree.While line test.0 body.0, max test.1 body.1 + 1)

  unfoldable pub param_turn : ℕ → Params → Read (Params × Bool)
  param_turn d found = do
    is_closed ← eat (is rparen)
    if is_closed then pure (found, false) else (do
      name ← want (text_if Name)
      has_value ← eat (is equals)
      if has_value then (do
        a ← expr d 1
        closing rparen (found.0 ++ param name (Some a.0) ∷ [], max found.1 a.1)) else
          closing rparen (found.0 ++ param name None ∷ [], found.1))

  -- after the marks and `def`, which stands on the line
  unfoldable pub defined : ℕ → Row → ℕ → Read Step
  defined d marks line = do
    name ← want (text_if Name)
    expect (is lparen)
    params ← many (param_turn d) ([], 0)
    expect (is colon)
    body ← suite d
    pure (tree.Def (definition marks.0 name params.0 body.0 line), max marks.1 (max params.1 body.1) + 1)

  unfoldable pub mark_turn : ℕ → Row → Read (Row × Bool)
  mark_turn d found = do
    a ← expr d 12
    expect (is Newline)
    goes_on ← eat (is at_sign)
    pure ((found.0 ++ a.0 ∷ [], max found.1 a.1), goes_on)

  -- after `@`
  unfoldable pub marked : ℕ → Read Step
  marked d = do
    marks ← many (mark_turn d) ([], 0)
    line ← look line_at
    expect (is def_word)
    defined d marks line

  abbrev pub alone : Read Step → Read Body
  alone p = do
    x ← p
    pure (x.0 ∷ [], x.1)

  unfoldable pub compound : ℕ → ℕ → Read Body
  compound d line = do
    is_if ← eat (is if_word)
    if is_if then alone (conditional d line) else (do
      is_for ← eat (is for_word)
      if is_for then alone (for_each d line) else (do
        is_while ← eat (is while_word)
        if is_while then alone (as_long d line) else (do
          is_def ← eat (is def_word)
          if is_def then alone (defined d ([], 0) line) else (do
            is_marked ← eat (is at_sign)
            if is_marked then alone (marked d) else simple (suc d)))))

  -- what holds another needs two levels
  unfoldable pub stmt_by : ℕ → Read Body
  stmt_by d = if nat_lt 0 d then (do
    line ← look line_at
    compound d line) else simple (suc d)

-- a line of small statements, or one statement that holds others, no deeper than the number
unfoldable pub stmt : ℕ → Read Body
stmt zero = refuse
stmt (suc d) = stmt_by (stmt d) d

-- ---- whole texts

unfoldable pub text_turn : ℕ → Body → Read (Body × Bool)
text_turn d body = do
  is_ended ← look ends_at
  if is_ended then pure (body, false) else (do
    x ← stmt d
    pure ((body.0 ++ x.0, max body.1 x.1), true))

unfoldable pub stmts : ℕ → Read Body
stmts d = many (text_turn d) ([], 0)

-- a whole text
unfoldable pub text : ℕ → Read Body
text d = whole (is End) (stmts d)
