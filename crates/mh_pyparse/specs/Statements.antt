-- The grammar of statements and of whole texts: one case for each production (Python Language Reference, sections 7 and 8, in this
-- project's subset). A row of small statements on one line is as many statements of the tree. Each statement has the line of its
-- first token, but a definition that of the word `def`.
use Rattle.std.specs.Prelude.{◌≡◌, ℕ, List, [], ◌∷◌, ◌++◌, Option, Some, None, codes}
use Rattle.mh_pytok.specs.Lexeme.{Lexeme}
use Rattle.mh_pytok.specs.Strings.{string_value}
use Rattle.mh_pytok.specs.declared.token.Tok.{Tok}
use Rattle.mh_pytok.specs.declared.token.Tok.TheVariants.{Name, Str, Newline, Indent, Dedent, End}
use Rattle.mh_pytree.specs.declared.expression.Operator.{Operator}
use Rattle.mh_pytree.specs.declared.expression.PyExpr.{PyExpr}
use Rattle.mh_pytree.specs.declared.statement.PyStmt.{PyStmt}
use Rattle.mh_pytree.specs.declared.statement.PyStmt.TheVariants as tree
use Rattle.mh_pytree.specs.declared.statement.Param.{Param}
use Rattle.mh_pytree.specs.declared.statement.Branch.{Branch, roll-Branch}
use Rattle.mh_pytree.specs.declared.statement.FuncDef.{FuncDef, roll-FuncDef}
use Rattle.mh_pyparse.specs.Signs.{assert_word, break_word, continue_word, def_word, elif_word, else_word, for_word, from_word, if_word, import_word, in_word, pass_word, raise_word, return_word, while_word, yield_word, star, equals, lparen, rparen, comma, colon, semicolon, at_sign, augmented}
use Rattle.mh_pyparse.specs.Grammar.{Spot, tok, IsExpr, AreExprs}

-- the line of the first token
abbrev pub first_line : List Lexeme → ℕ
first_line [] = 0
first_line (t ∷ ts) = t.line

abbrev pub param : List ℕ → Option PyExpr → Param
param name value = record { name = name; value = value }

abbrev pub branch : PyExpr → List PyStmt → Branch
branch test body = roll-Branch (record { test = test; body = body })

abbrev pub definition : List PyExpr → List ℕ → List Param → List PyStmt → ℕ → FuncDef
definition marks name params body line = roll-FuncDef (record { marks = marks; name = name; params = params; body = body; line = line })

-- one or more names with commas between
pub data AreNames : List (List ℕ) → List Lexeme → Type 0 where
  one_name : {names : List (List ℕ)} {u : List Lexeme} (at : Spot) → names ≡ at.text ∷ [] → u ≡ tok Name at ∷ [] → AreNames names u
  more_names : {names : List (List ℕ)} {u : List Lexeme} (at between : Spot) (others : List (List ℕ)) (v : List Lexeme) → AreNames others v →
      names ≡ at.text ∷ others → u ≡ tok Name at ∷ tok comma between ∷ v → AreNames names u

-- one statement without its end
pub data IsSmall : PyStmt → List Lexeme → Type 0 where
  value : {t : PyStmt} {u : List Lexeme} (a : PyExpr) → AreExprs a u → t ≡ tree.Value (first_line u) a → IsSmall t u
  assign : {t : PyStmt} {u : List Lexeme} (at : Spot) (a b : PyExpr) (v w : List Lexeme) → AreExprs a v → AreExprs b w →
      t ≡ tree.Assign (first_line v) a b → u ≡ v ++ tok equals at ∷ w → IsSmall t u
  augment : {t : PyStmt} {u : List Lexeme} (op : Operator) (sign : Tok) (at : Spot) (a b : PyExpr) (v w : List Lexeme) → augmented op ≡ Some sign →
      IsExpr 12 a v → IsExpr 1 b w →
      t ≡ tree.Augment (first_line v) op a b → u ≡ v ++ tok sign at ∷ w → IsSmall t u
  pass : {t : PyStmt} {u : List Lexeme} (at : Spot) → t ≡ tree.Pass at.line → u ≡ tok pass_word at ∷ [] → IsSmall t u
  break : {t : PyStmt} {u : List Lexeme} (at : Spot) → t ≡ tree.Break at.line → u ≡ tok break_word at ∷ [] → IsSmall t u
  continue : {t : PyStmt} {u : List Lexeme} (at : Spot) → t ≡ tree.Continue at.line → u ≡ tok continue_word at ∷ [] → IsSmall t u
  return : {t : PyStmt} {u : List Lexeme} (at : Spot) → t ≡ tree.Return at.line None → u ≡ tok return_word at ∷ [] → IsSmall t u
  return_value : {t : PyStmt} {u : List Lexeme} (at : Spot) (a : PyExpr) (v : List Lexeme) → AreExprs a v →
      t ≡ tree.Return at.line (Some a) → u ≡ tok return_word at ∷ v → IsSmall t u
  yield : {t : PyStmt} {u : List Lexeme} (at : Spot) (a : PyExpr) (v : List Lexeme) → AreExprs a v →
      t ≡ tree.Yield at.line a → u ≡ tok yield_word at ∷ v → IsSmall t u
  raise : {t : PyStmt} {u : List Lexeme} (at : Spot) (a : PyExpr) (v : List Lexeme) → IsExpr 1 a v →
      t ≡ tree.Raise at.line a → u ≡ tok raise_word at ∷ v → IsSmall t u
  assert : {t : PyStmt} {u : List Lexeme} (at : Spot) (a : PyExpr) (v : List Lexeme) → IsExpr 1 a v →
      t ≡ tree.Assert at.line a None → u ≡ tok assert_word at ∷ v → IsSmall t u
  assert_saying : {t : PyStmt} {u : List Lexeme} (at between text : Spot) (a : PyExpr) (v : List Lexeme) → IsExpr 1 a v →
      t ≡ tree.Assert at.line a (Some (string_value text.text)) →
      u ≡ tok assert_word at ∷ (v ++ tok comma between ∷ tok Str text ∷ []) → IsSmall t u
  -- `from myhdl import` with `*`, with names, or with names in brackets and maybe a comma after them
  import_all : {t : PyStmt} {u : List Lexeme} (at of at_import to : Spot) → of.text ≡ codes "myhdl" →
      t ≡ tree.ImportAll at.line → u ≡ tok from_word at ∷ tok Name of ∷ tok import_word at_import ∷ tok star to ∷ [] → IsSmall t u
  import : {t : PyStmt} {u : List Lexeme} (at of at_import : Spot) (names : List (List ℕ)) (v : List Lexeme) → of.text ≡ codes "myhdl" → AreNames names v →
      t ≡ tree.Import at.line names → u ≡ tok from_word at ∷ tok Name of ∷ tok import_word at_import ∷ v → IsSmall t u
  import_in_brackets : {t : PyStmt} {u : List Lexeme} (at of at_import from to : Spot) (names : List (List ℕ)) (v : List Lexeme) → of.text ≡ codes "myhdl" → AreNames names v →
      t ≡ tree.Import at.line names →
      u ≡ tok from_word at ∷ tok Name of ∷ tok import_word at_import ∷ tok lparen from ∷ (v ++ tok rparen to ∷ []) → IsSmall t u
  import_with_comma : {t : PyStmt} {u : List Lexeme} (at of at_import from last to : Spot) (names : List (List ℕ)) (v : List Lexeme) → of.text ≡ codes "myhdl" → AreNames names v →
      t ≡ tree.Import at.line names →
      u ≡ tok from_word at ∷ tok Name of ∷ tok import_word at_import ∷ tok lparen from ∷ (v ++ tok comma last ∷ tok rparen to ∷ []) → IsSmall t u

-- a line of small statements: one or more with `;` between, maybe a `;`, and the line's end
pub data IsSimple : List PyStmt → List Lexeme → Type 0 where
  ended : {body : List PyStmt} {u : List Lexeme} (to : Spot) (x : PyStmt) (v : List Lexeme) → IsSmall x v →
      body ≡ x ∷ [] → u ≡ v ++ tok Newline to ∷ [] → IsSimple body u
  ended_twice : {body : List PyStmt} {u : List Lexeme} (at to : Spot) (x : PyStmt) (v : List Lexeme) → IsSmall x v →
      body ≡ x ∷ [] → u ≡ v ++ tok semicolon at ∷ tok Newline to ∷ [] → IsSimple body u
  then : {body : List PyStmt} {u : List Lexeme} (at : Spot) (x : PyStmt) (others : List PyStmt) (v w : List Lexeme) → IsSmall x v → IsSimple others w →
      body ≡ x ∷ others → u ≡ v ++ tok semicolon at ∷ w → IsSimple body u

pub data IsParam : Param → List Lexeme → Type 0 where
  bare : {x : Param} {u : List Lexeme} (at : Spot) → x ≡ param at.text None → u ≡ tok Name at ∷ [] → IsParam x u
  valued : {x : Param} {u : List Lexeme} (at between : Spot) (a : PyExpr) (v : List Lexeme) → IsExpr 1 a v →
      x ≡ param at.text (Some a) → u ≡ tok Name at ∷ tok equals between ∷ v → IsParam x u

-- parameters with commas between, and maybe one more at the end
pub data AreParams : List Param → List Lexeme → Type 0 where
  no_param : {xs : List Param} {u : List Lexeme} → xs ≡ [] → u ≡ [] → AreParams xs u
  last_param : {xs : List Param} {u : List Lexeme} (x : Param) → IsParam x u → xs ≡ x ∷ [] → AreParams xs u
  more_params : {xs : List Param} {u : List Lexeme} (at : Spot) (x : Param) (others : List Param) (v w : List Lexeme) → IsParam x v → AreParams others w →
      xs ≡ x ∷ others → u ≡ v ++ tok comma at ∷ w → AreParams xs u

-- the lines in front of a definition: `@` and a primary each
pub data AreMarks : List PyExpr → List Lexeme → Type 0 where
  no_mark : {marks : List PyExpr} {u : List Lexeme} → marks ≡ [] → u ≡ [] → AreMarks marks u
  mark : {marks : List PyExpr} {u : List Lexeme} (at to : Spot) (a : PyExpr) (others : List PyExpr) (v w : List Lexeme) → IsExpr 12 a v → AreMarks others w →
      marks ≡ a ∷ others → u ≡ tok at_sign at ∷ (v ++ tok Newline to ∷ w) → AreMarks marks u

mutual
  -- a statement that holds others
  pub data IsCompound : PyStmt → List Lexeme → Type 0 where
    def : {t : PyStmt} {u : List Lexeme} (at at_name from to at_colon : Spot) (marks : List PyExpr) (params : List Param) (body : List PyStmt) (v w x : List Lexeme) →
        AreMarks marks v → AreParams params w → IsSuite body x →
        t ≡ tree.Def (definition marks at_name.text params body at.line) →
        u ≡ v ++ tok def_word at ∷ tok Name at_name ∷ tok lparen from ∷ (w ++ tok rparen to ∷ tok colon at_colon ∷ x) → IsCompound t u
    branches : {t : PyStmt} {u : List Lexeme} (at : Spot) (all : List Branch) (v : List Lexeme) → AreBranches all v →
        t ≡ tree.If at.line all None → u ≡ tok if_word at ∷ v → IsCompound t u
    branches_else : {t : PyStmt} {u : List Lexeme} (at at_else at_colon : Spot) (all : List Branch) (body : List PyStmt) (v w : List Lexeme) →
        AreBranches all v → IsSuite body w →
        t ≡ tree.If at.line all (Some body) → u ≡ tok if_word at ∷ (v ++ tok else_word at_else ∷ tok colon at_colon ∷ w) → IsCompound t u
    for : {t : PyStmt} {u : List Lexeme} (at at_name at_in at_colon : Spot) (over : PyExpr) (body : List PyStmt) (v w : List Lexeme) →
        IsExpr 1 over v → IsSuite body w →
        t ≡ tree.For at.line at_name.text over body →
        u ≡ tok for_word at ∷ tok Name at_name ∷ tok in_word at_in ∷ (v ++ tok colon at_colon ∷ w) → IsCompound t u
    while : {t : PyStmt} {u : List Lexeme} (at at_colon : Spot) (test : PyExpr) (body : List PyStmt) (v w : List Lexeme) →
        IsExpr 1 test v → IsSuite body w →
        t ≡ tree.While at.line test body → u ≡ tok while_word at ∷ (v ++ tok colon at_colon ∷ w) → IsCompound t u

  -- a test, a colon and a suite each, with `elif` between
  pub data AreBranches : List Branch → List Lexeme → Type 0 where
    last_branch : {all : List Branch} {u : List Lexeme} (at : Spot) (test : PyExpr) (body : List PyStmt) (v w : List Lexeme) →
        IsExpr 1 test v → IsSuite body w →
        all ≡ branch test body ∷ [] → u ≡ v ++ tok colon at ∷ w → AreBranches all u
    elif : {all : List Branch} {u : List Lexeme} (at at_elif : Spot) (test : PyExpr) (body : List PyStmt) (others : List Branch) (v w x : List Lexeme) →
        IsExpr 1 test v → IsSuite body w → AreBranches others x →
        all ≡ branch test body ∷ others → u ≡ v ++ tok colon at ∷ (w ++ tok elif_word at_elif ∷ x) → AreBranches all u

  -- what a statement holds: a line of small statements, or statements set in
  pub data IsSuite : List PyStmt → List Lexeme → Type 0 where
    line : {body : List PyStmt} {u : List Lexeme} → IsSimple body u → IsSuite body u
    block : {body : List PyStmt} {u : List Lexeme} (at from to : Spot) (v : List Lexeme) → AreStmts body v →
        u ≡ tok Newline at ∷ tok Indent from ∷ (v ++ tok Dedent to ∷ []) → IsSuite body u

  -- a line of small statements, or one that holds others
  pub data IsStmt : List PyStmt → List Lexeme → Type 0 where
    simple : {body : List PyStmt} {u : List Lexeme} → IsSimple body u → IsStmt body u
    compound : {body : List PyStmt} {u : List Lexeme} (t : PyStmt) → IsCompound t u → body ≡ t ∷ [] → IsStmt body u

  -- one or more
  pub data AreStmts : List PyStmt → List Lexeme → Type 0 where
    one : {body : List PyStmt} {u : List Lexeme} → IsStmt body u → AreStmts body u
    more : {body : List PyStmt} {u : List Lexeme} (first others : List PyStmt) (v w : List Lexeme) → IsStmt first v → AreStmts others w →
        body ≡ first ++ others → u ≡ v ++ w → AreStmts body u

-- a whole text: any number of statements, and the end
pub data IsText : List PyStmt → List Lexeme → Type 0 where
  nothing : {body : List PyStmt} {u : List Lexeme} (to : Spot) → body ≡ [] → u ≡ tok End to ∷ [] → IsText body u
  full : {body : List PyStmt} {u : List Lexeme} (to : Spot) (v : List Lexeme) → AreStmts body v → u ≡ v ++ tok End to ∷ [] → IsText body u
