-- Whether each name that stands in a tree is a name of Python: those of expressions, attributes,
-- keyword arguments, parameters, functions, imports and loops.
use Rattle.std.specs.Prelude.{ℕ, List, [], ◌∷◌, map, Option, Some, None, Bool, true, ◌&&◌}
use Rattle.mh_text.specs.Characters.{is_identifier}
use Rattle.mh_pytree.specs.declared.expression.PyExpr.{PyExpr}
use Rattle.mh_pytree.specs.declared.expression.PyExpr.TheOpen.{PyExpr-F, Argument-F}
use Rattle.mh_pytree.specs.declared.expression.PyExpr.TheFolds.{fold-PyExpr, fold-Argument}
use Rattle.mh_pytree.specs.declared.expression.Argument.{Argument}
use Rattle.mh_pytree.specs.declared.statement.Param.{Param}
use Rattle.mh_pytree.specs.declared.statement.PyStmt.{PyStmt}
use Rattle.mh_pytree.specs.declared.statement.Branch.{Branch}
use Rattle.mh_pytree.specs.declared.statement.FuncDef.{FuncDef}
use Rattle.mh_pytree.specs.declared.statement.PyStmt.TheOpen.{PyStmt-F, Branch-F, FuncDef-F}
use Rattle.mh_pytree.specs.declared.statement.PyStmt.TheFolds.{fold-PyStmt, fold-Branch, fold-FuncDef}

-- all of these hold
abbrev pub all_of : List Bool → Bool
all_of [] = true
all_of (b ∷ bs) = b && all_of bs

abbrev pub holds_if_any : Option Bool → Bool
holds_if_any None = true
holds_if_any (Some b) = b

abbrev pub is_identifier_if_any : Option (List ℕ) → Bool
is_identifier_if_any None = true
is_identifier_if_any (Some name) = is_identifier name

abbrev pub expr_step : PyExpr-F Bool Bool → Bool
expr_step (PyExpr-F.Name name) = is_identifier name
expr_step (PyExpr-F.Number n) = true
expr_step (PyExpr-F.Str bytes) = true
expr_step PyExpr-F.True = true
expr_step PyExpr-F.False = true
expr_step PyExpr-F.None = true
expr_step (PyExpr-F.Group a) = a
expr_step (PyExpr-F.Bracketed xs) = all_of xs
expr_step (PyExpr-F.Tuple xs) = all_of xs
expr_step (PyExpr-F.List xs) = all_of xs
expr_step (PyExpr-F.Comprehension a name b) = a && (is_identifier name && b)
expr_step (PyExpr-F.Not a) = a
expr_step (PyExpr-F.Unary s a) = a
expr_step (PyExpr-F.Binary op a b) = a && b
expr_step (PyExpr-F.Attribute a name) = a && is_identifier name
expr_step (PyExpr-F.Call f xs) = f && all_of xs
expr_step (PyExpr-F.Index a b) = a && b
expr_step (PyExpr-F.Slice a b c) = a && (b && holds_if_any c)
expr_step (PyExpr-F.Whole a) = a

abbrev pub argument_step : Argument-F Bool Bool → Bool
argument_step a = is_identifier_if_any a.name && a.value

unfoldable pub expr_names : PyExpr → Bool
expr_names = fold-PyExpr Bool Bool expr_step argument_step

unfoldable pub argument_names : Argument → Bool
argument_names = fold-Argument Bool Bool expr_step argument_step

abbrev pub expr_names_if_any : Option PyExpr → Bool
expr_names_if_any None = true
expr_names_if_any (Some e) = expr_names e

abbrev pub param_names : Param → Bool
param_names p = is_identifier p.name && expr_names_if_any p.value

abbrev pub all_if_any : Option (List Bool) → Bool
all_if_any None = true
all_if_any (Some bs) = all_of bs

abbrev pub stmt_step : PyStmt-F Bool Bool Bool → Bool
stmt_step (PyStmt-F.Value line a) = expr_names a
stmt_step (PyStmt-F.Assign line a b) = expr_names a && expr_names b
stmt_step (PyStmt-F.Augment line op a b) = expr_names a && expr_names b
stmt_step (PyStmt-F.Pass line) = true
stmt_step (PyStmt-F.Break line) = true
stmt_step (PyStmt-F.Continue line) = true
stmt_step (PyStmt-F.Return line a) = expr_names_if_any a
stmt_step (PyStmt-F.Yield line a) = expr_names a
stmt_step (PyStmt-F.Raise line a) = expr_names a
stmt_step (PyStmt-F.Assert line a message) = expr_names a
stmt_step (PyStmt-F.ImportAll line) = true
stmt_step (PyStmt-F.Import line names) = all_of (map is_identifier names)
stmt_step (PyStmt-F.Def f) = f
stmt_step (PyStmt-F.If line branches other) = all_of branches && all_if_any other
stmt_step (PyStmt-F.For line name a body) = is_identifier name && (expr_names a && all_of body)
stmt_step (PyStmt-F.While line a body) = expr_names a && all_of body

abbrev pub branch_step : Branch-F Bool Bool Bool → Bool
branch_step b = expr_names b.test && all_of b.body

abbrev pub def_step : FuncDef-F Bool Bool Bool → Bool
def_step f = all_of (map expr_names f.marks) && (is_identifier f.name && (all_of (map param_names f.params) && all_of f.body))

unfoldable pub stmt_names : PyStmt → Bool
stmt_names = fold-PyStmt Bool Bool Bool stmt_step branch_step def_step

unfoldable pub branch_names : Branch → Bool
branch_names = fold-Branch Bool Bool Bool stmt_step branch_step def_step

unfoldable pub def_names : FuncDef → Bool
def_names = fold-FuncDef Bool Bool Bool stmt_step branch_step def_step

-- each name in a source is a name of Python
abbrev pub are_names : List PyStmt → Bool
are_names stmts = all_of (map stmt_names stmts)
