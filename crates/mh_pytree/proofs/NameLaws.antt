-- Whether the names in each form of tree are names of Python, as an equation.
use Rattle.std.proofs.Common.{◌≡◌, ℕ, ℤ, List, map, Option, Some, None, Bool, true, ◌&&◌, rules}
use Rattle.mh_pytree.specs.declared.expression.Operator.{Operator}
use Rattle.mh_pytree.specs.declared.expression.Sign.{Sign}
use Rattle.mh_pytree.specs.declared.expression.PyExpr.{PyExpr}
use Rattle.mh_pytree.specs.declared.expression.PyExpr.{the_lemmas as expr_lemmas}
use Rattle.mh_pytree.specs.declared.expression.PyExpr.TheVariants as e
use Rattle.mh_pytree.specs.declared.expression.Argument.{Argument, out-Argument}
use Rattle.mh_pytree.specs.declared.statement.PyStmt.{PyStmt}
use Rattle.mh_pytree.specs.declared.statement.PyStmt.{the_lemmas as stmt_lemmas}
use Rattle.mh_pytree.specs.declared.statement.PyStmt.TheVariants as s
use Rattle.mh_pytree.specs.declared.statement.Branch.{Branch, out-Branch}
use Rattle.mh_pytree.specs.declared.statement.FuncDef.{FuncDef, out-FuncDef}
use Rattle.mh_text.specs.Characters.{is_identifier}
use Rattle.mh_pytree.specs.Names.{all_of, is_identifier_if_any, expr_names, argument_names, expr_names_if_any, param_names, stmt_names, branch_names, def_names}

abbrev pub stmts_names_if_any : Option (List PyStmt) → Bool
stmts_names_if_any None = true
stmts_names_if_any (Some xs) = all_of (map stmt_names xs)

pub names-name : (n : List ℕ) → expr_names (e.Name n) ≡ is_identifier n
unfolding expr_names argument_names
names-name n = search (rules, expr_lemmas)

pub names-number : (n : ℤ) → expr_names (e.Number n) ≡ true
unfolding expr_names argument_names
names-number n = search (rules, expr_lemmas)

pub names-str : (n : List ℕ) → expr_names (e.Str n) ≡ true
unfolding expr_names argument_names
names-str n = search (rules, expr_lemmas)

pub names-true : expr_names e.True ≡ true
unfolding expr_names argument_names
names-true = search (rules, expr_lemmas)

pub names-false : expr_names e.False ≡ true
unfolding expr_names argument_names
names-false = search (rules, expr_lemmas)

pub names-none : expr_names e.None ≡ true
unfolding expr_names argument_names
names-none = search (rules, expr_lemmas)

pub names-group : (a : PyExpr) → expr_names (e.Group a) ≡ expr_names a
unfolding expr_names argument_names
names-group a = search (rules, expr_lemmas)

pub names-bracketed : (xs : List PyExpr) → expr_names (e.Bracketed xs) ≡ all_of (map expr_names xs)
unfolding expr_names argument_names
names-bracketed xs = search (rules, expr_lemmas)

pub names-tuple : (xs : List PyExpr) → expr_names (e.Tuple xs) ≡ all_of (map expr_names xs)
unfolding expr_names argument_names
names-tuple xs = search (rules, expr_lemmas)

pub names-list : (xs : List PyExpr) → expr_names (e.List xs) ≡ all_of (map expr_names xs)
unfolding expr_names argument_names
names-list xs = search (rules, expr_lemmas)

pub names-comprehension : (a : PyExpr) (n : List ℕ) (b : PyExpr) → expr_names (e.Comprehension a n b) ≡ (expr_names a && (is_identifier n && expr_names b))
unfolding expr_names argument_names
names-comprehension a n b = search (rules, expr_lemmas)

pub names-not : (a : PyExpr) → expr_names (e.Not a) ≡ expr_names a
unfolding expr_names argument_names
names-not a = search (rules, expr_lemmas)

pub names-unary : (s : Sign) (a : PyExpr) → expr_names (e.Unary s a) ≡ expr_names a
unfolding expr_names argument_names
names-unary s a = search (rules, expr_lemmas)

pub names-binary : (op : Operator) (a : PyExpr) (b : PyExpr) → expr_names (e.Binary op a b) ≡ (expr_names a && expr_names b)
unfolding expr_names argument_names
names-binary op a b = search (rules, expr_lemmas)

pub names-attribute : (a : PyExpr) (n : List ℕ) → expr_names (e.Attribute a n) ≡ (expr_names a && is_identifier n)
unfolding expr_names argument_names
names-attribute a n = search (rules, expr_lemmas)

pub names-call : (f : PyExpr) (xs : List Argument) → expr_names (e.Call f xs) ≡ (expr_names f && all_of (map argument_names xs))
unfolding expr_names argument_names
names-call f xs = search (rules, expr_lemmas)

pub names-index : (a : PyExpr) (b : PyExpr) → expr_names (e.Index a b) ≡ (expr_names a && expr_names b)
unfolding expr_names argument_names
names-index a b = search (rules, expr_lemmas)

pub names-slice : (a : PyExpr) (b : PyExpr) (c : Option PyExpr) → expr_names (e.Slice a b c) ≡ (expr_names a && (expr_names b && expr_names_if_any c))
unfolding expr_names argument_names
names-slice a b c = search (rules, expr_lemmas)

pub names-whole : (a : PyExpr) → expr_names (e.Whole a) ≡ expr_names a
unfolding expr_names argument_names
names-whole a = search (rules, expr_lemmas)

pub names-argument : (a : Argument) → argument_names a ≡ (is_identifier_if_any (out-Argument a).name && expr_names (out-Argument a).value)
unfolding expr_names argument_names
names-argument a = search (rules, expr_lemmas)

pub names-value : (line : ℕ) (a : PyExpr) → stmt_names (s.Value line a) ≡ expr_names a
unfolding stmt_names branch_names def_names
names-value line a = search (rules, stmt_lemmas)

pub names-assign : (line : ℕ) (a : PyExpr) (b : PyExpr) → stmt_names (s.Assign line a b) ≡ (expr_names a && expr_names b)
unfolding stmt_names branch_names def_names
names-assign line a b = search (rules, stmt_lemmas)

pub names-augment : (line : ℕ) (op : Operator) (a : PyExpr) (b : PyExpr) → stmt_names (s.Augment line op a b) ≡ (expr_names a && expr_names b)
unfolding stmt_names branch_names def_names
names-augment line op a b = search (rules, stmt_lemmas)

pub names-pass : (line : ℕ) → stmt_names (s.Pass line) ≡ true
unfolding stmt_names branch_names def_names
names-pass line = search (rules, stmt_lemmas)

pub names-break : (line : ℕ) → stmt_names (s.Break line) ≡ true
unfolding stmt_names branch_names def_names
names-break line = search (rules, stmt_lemmas)

pub names-continue : (line : ℕ) → stmt_names (s.Continue line) ≡ true
unfolding stmt_names branch_names def_names
names-continue line = search (rules, stmt_lemmas)

pub names-return : (line : ℕ) (a : Option PyExpr) → stmt_names (s.Return line a) ≡ expr_names_if_any a
unfolding stmt_names branch_names def_names
names-return line a = search (rules, stmt_lemmas)

pub names-yield : (line : ℕ) (a : PyExpr) → stmt_names (s.Yield line a) ≡ expr_names a
unfolding stmt_names branch_names def_names
names-yield line a = search (rules, stmt_lemmas)

pub names-raise : (line : ℕ) (a : PyExpr) → stmt_names (s.Raise line a) ≡ expr_names a
unfolding stmt_names branch_names def_names
names-raise line a = search (rules, stmt_lemmas)

pub names-assert : (line : ℕ) (a : PyExpr) (m : Option (List ℕ)) → stmt_names (s.Assert line a m) ≡ expr_names a
unfolding stmt_names branch_names def_names
names-assert line a m = search (rules, stmt_lemmas)

pub names-importall : (line : ℕ) → stmt_names (s.ImportAll line) ≡ true
unfolding stmt_names branch_names def_names
names-importall line = search (rules, stmt_lemmas)

pub names-import : (line : ℕ) (ns : List (List ℕ)) → stmt_names (s.Import line ns) ≡ all_of (map is_identifier ns)
unfolding stmt_names branch_names def_names
names-import line ns = search (rules, stmt_lemmas)

pub names-def : (f : FuncDef) → stmt_names (s.Def f) ≡ def_names f
unfolding stmt_names branch_names def_names
names-def f = search (rules, stmt_lemmas)

pub names-if : (line : ℕ) (bs : List Branch) (other : Option (List PyStmt)) → stmt_names (s.If line bs other) ≡ (all_of (map branch_names bs) && stmts_names_if_any other)
unfolding stmt_names branch_names def_names
names-if line bs other = search (rules, stmt_lemmas)

pub names-for : (line : ℕ) (n : List ℕ) (a : PyExpr) (body : List PyStmt) → stmt_names (s.For line n a body) ≡ (is_identifier n && (expr_names a && all_of (map stmt_names body)))
unfolding stmt_names branch_names def_names
names-for line n a body = search (rules, stmt_lemmas)

pub names-while : (line : ℕ) (a : PyExpr) (body : List PyStmt) → stmt_names (s.While line a body) ≡ (expr_names a && all_of (map stmt_names body))
unfolding stmt_names branch_names def_names
names-while line a body = search (rules, stmt_lemmas)

pub names-branch : (b : Branch) → branch_names b ≡ (expr_names (out-Branch b).test && all_of (map stmt_names (out-Branch b).body))
unfolding stmt_names branch_names def_names
names-branch b = search (rules, stmt_lemmas)

pub names-def_of : (f : FuncDef) → def_names f ≡ (all_of (map expr_names (out-FuncDef f).marks) && (is_identifier (out-FuncDef f).name && (all_of (map param_names (out-FuncDef f).params) && all_of (map stmt_names (out-FuncDef f).body))))
unfolding stmt_names branch_names def_names
names-def_of f = search (rules, stmt_lemmas)

-- the names in an expression, by its form
pub ruleset expr_name_laws = (names-name, names-number, names-str, names-true, names-false, names-none, names-group, names-bracketed, names-tuple, names-list, names-comprehension, names-not, names-unary, names-binary, names-attribute, names-call, names-index, names-slice, names-whole, names-argument)

-- the names in a statement, by its form
pub ruleset stmt_name_laws = (names-value, names-assign, names-augment, names-pass, names-break, names-continue, names-return, names-yield, names-raise, names-assert, names-importall, names-import, names-def, names-if, names-for, names-while, names-branch, names-def_of)
