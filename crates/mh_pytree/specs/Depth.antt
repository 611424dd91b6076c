-- How deep a tree is, by this project's own rule: a name or a literal is 1; an operator, an
-- attribute, a call, an index or a slice, a list, a pair of round brackets, and a tuple without
-- brackets are one more than the deepest that they hold; a statement is one more than the deepest of
-- its expressions and of the statements in its bodies. A tuple in brackets is its brackets. An
-- argument and a parameter are no level of their own, and an `elif` adds none. What holds nothing
-- is 1.
use Rattle.std.specs.Prelude.{ℕ, suc, max, List, [], ◌∷◌, map, Option, Some, None}
use Rattle.mh_pytree.specs.declared.expression.PyExpr.{PyExpr}
use Rattle.mh_pytree.specs.declared.expression.PyExpr.TheOpen.{PyExpr-F, Argument-F}
use Rattle.mh_pytree.specs.declared.expression.PyExpr.TheFolds.{fold-PyExpr, fold-Argument}
use Rattle.mh_pytree.specs.declared.expression.Argument.{Argument}
use Rattle.mh_pytree.specs.declared.statement.Param.{Param}
use Rattle.mh_pytree.specs.declared.statement.PyStmt.{PyStmt}
use Rattle.mh_pytree.specs.declared.statement.Branch.{Branch}
use Rattle.mh_pytree.specs.declared.statement.FuncDef.{FuncDef}
use Rattle.mh_pytree.specs.declared.statement.PyStmt.TheOpen.{PyStmt-F, Branch-F, FuncDef-F}
use Rattle.mh_pytree.specs.declared.statement.PyStmt.TheFolds.{fold-PyStmt, fold-Branch, fold-FuncDef}

-- the greatest of these depths, 0 where there is none
abbrev pub deepest : List ℕ → ℕ
deepest [] = 0
deepest (n ∷ ns) = max n (deepest ns)

abbrev pub if_any : Option ℕ → ℕ
if_any None = 0
if_any (Some n) = n

abbrev pub expr_step : PyExpr-F ℕ ℕ → ℕ
expr_step (PyExpr-F.Name name) = 1
expr_step (PyExpr-F.Number n) = 1
expr_step (PyExpr-F.Str bytes) = 1
expr_step PyExpr-F.True = 1
expr_step PyExpr-F.False = 1
expr_step PyExpr-F.None = 1
expr_step (PyExpr-F.Group a) = suc a
expr_step (PyExpr-F.Bracketed xs) = suc (deepest xs)
expr_step (PyExpr-F.Tuple xs) = suc (deepest xs)
expr_step (PyExpr-F.List xs) = suc (deepest xs)
expr_step (PyExpr-F.Comprehension a name b) = suc (max a b)
expr_step (PyExpr-F.Not a) = suc a
expr_step (PyExpr-F.Unary s a) = suc a
expr_step (PyExpr-F.Binary op a b) = suc (max a b)
expr_step (PyExpr-F.Attribute a name) = suc a
expr_step (PyExpr-F.Call f xs) = suc (max f (deepest xs))
expr_step (PyExpr-F.Index a b) = suc (max a b)
expr_step (PyExpr-F.Slice a b c) = suc (max a (max b (if_any c)))
expr_step (PyExpr-F.Whole a) = suc a

abbrev pub argument_step : Argument-F ℕ ℕ → ℕ
argument_step a = a.value

unfoldable pub expr_depth : PyExpr → ℕ
expr_depth = fold-PyExpr ℕ ℕ expr_step argument_step

unfoldable pub argument_depth : Argument → ℕ
argument_depth = fold-Argument ℕ ℕ expr_step argument_step

abbrev pub expr_depth_if_any : Option PyExpr → ℕ
expr_depth_if_any None = 0
expr_depth_if_any (Some e) = expr_depth e

abbrev pub param_depth : Param → ℕ
param_depth p = expr_depth_if_any p.value

abbrev pub deepest_if_any : Option (List ℕ) → ℕ
deepest_if_any None = 0
deepest_if_any (Some ns) = deepest ns

abbrev pub stmt_step : PyStmt-F ℕ ℕ ℕ → ℕ
stmt_step (PyStmt-F.Value line a) = suc (expr_depth a)
stmt_step (PyStmt-F.Assign line a b) = suc (max (expr_depth a) (expr_depth b))
stmt_step (PyStmt-F.Augment line op a b) = suc (max (expr_depth a) (expr_depth b))
stmt_step (PyStmt-F.Pass line) = 1
stmt_step (PyStmt-F.Break line) = 1
stmt_step (PyStmt-F.Continue line) = 1
stmt_step (PyStmt-F.Return line a) = suc (expr_depth_if_any a)
stmt_step (PyStmt-F.Yield line a) = suc (expr_depth a)
stmt_step (PyStmt-F.Raise line a) = suc (expr_depth a)
stmt_step (PyStmt-F.Assert line a message) = suc (expr_depth a)
stmt_step (PyStmt-F.ImportAll line) = 1
stmt_step (PyStmt-F.Import line names) = 1
stmt_step (PyStmt-F.Def f) = suc f
stmt_step (PyStmt-F.If line branches other) = suc (max (deepest branches) (deepest_if_any other))
stmt_step (PyStmt-F.For line name a body) = suc (max (expr_depth a) (deepest body))
stmt_step (PyStmt-F.While line a body) = suc (max (expr_depth a) (deepest body))

abbrev pub branch_step : Branch-F ℕ ℕ ℕ → ℕ
branch_step b = max (expr_depth b.test) (deepest b.body)

abbrev pub def_step : FuncDef-F ℕ ℕ ℕ → ℕ
def_step f = max (deepest (map expr_depth f.marks)) (max (deepest (map param_depth f.params)) (deepest f.body))

unfoldable pub stmt_depth : PyStmt → ℕ
stmt_depth = fold-PyStmt ℕ ℕ ℕ stmt_step branch_step def_step

-- what a branch and a definition hold at the deepest: they are no level by themselves
unfoldable pub branch_depth : Branch → ℕ
branch_depth = fold-Branch ℕ ℕ ℕ stmt_step branch_step def_step

unfoldable pub def_depth : FuncDef → ℕ
def_depth = fold-FuncDef ℕ ℕ ℕ stmt_step branch_step def_step

-- the depth of a source
abbrev pub text_depth : List PyStmt → ℕ
text_depth stmts = deepest (map stmt_depth stmts)
