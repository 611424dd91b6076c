-- The depth of each form of tree, as an equation.
use Rattle.std.proofs.Common.{◌≡◌, ℕ, ℤ, suc, max, List, map, Option, Some, None, rules}
use Rattle.mh_pytree.specs.declared.expression.Operator.{Operator}
use Rattle.mh_pytree.specs.declared.expression.Sign.{Sign}
use Rattle.mh_pytree.specs.declared.expression.PyExpr.{PyExpr}
use Rattle.mh_pytree.specs.declared.expression.PyExpr.{the_lemmas as expr_lemmas}
use Rattle.mh_pytree.specs.declared.expression.PyExpr.TheVariants as e
use Rattle.mh_pytree.specs.declared.expression.Argument.{Argument, out-Argument}
use Rattle.mh_pytree.specs.declared.statement.PyStmt.{PyStmt}
use Rattle.mh_pytree.specs.declared.statement.PyStmt.{the_lemmas as stmt_lemmas}
use Rattle.mh_pytree.specs.declared.statement.PyStmt.TheVariants as s
use Rattle.mh_pytree.specs.declared.statement.Branch.{Branch, out-Branch}
use Rattle.mh_pytree.specs.declared.statement.FuncDef.{FuncDef, out-FuncDef}
use Rattle.mh_pytree.specs.Depth.{deepest, expr_depth, argument_depth, expr_depth_if_any, param_depth, stmt_depth, branch_depth, def_depth}

abbrev pub stmts_depth_if_any : Option (List PyStmt) → ℕ
stmts_depth_if_any None = 0
stmts_depth_if_any (Some xs) = deepest (map stmt_depth xs)

pub depth-name : (n : List ℕ) → expr_depth (e.Name n) ≡ 1
unfolding expr_depth argument_depth
depth-name n = search (rules, expr_lemmas)

pub depth-number : (n : ℤ) → expr_depth (e.Number n) ≡ 1
unfolding expr_depth argument_depth
depth-number n = search (rules, expr_lemmas)

pub depth-str : (n : List ℕ) → expr_depth (e.Str n) ≡ 1
unfolding expr_depth argument_depth
depth-str n = search (rules, expr_lemmas)

pub depth-true : expr_depth e.True ≡ 1
unfolding expr_depth argument_depth
depth-true = search (rules, expr_lemmas)

pub depth-false : expr_depth e.False ≡ 1
unfolding expr_depth argument_depth
depth-false = search (rules, expr_lemmas)

pub depth-none : expr_depth e.None ≡ 1
unfolding expr_depth argument_depth
depth-none = search (rules, expr_lemmas)

pub depth-group : (a : PyExpr) → expr_depth (e.Group a) ≡ suc (expr_depth a)
unfolding expr_depth argument_depth
depth-group a = search (rules, expr_lemmas)

pub depth-bracketed : (xs : List PyExpr) → expr_depth (e.Bracketed xs) ≡ suc (deepest (map expr_depth xs))
unfolding expr_depth argument_depth
depth-bracketed xs = search (rules, expr_lemmas)

pub depth-tuple : (xs : List PyExpr) → expr_depth (e.Tuple xs) ≡ suc (deepest (map expr_depth xs))
unfolding expr_depth argument_depth
depth-tuple xs = search (rules, expr_lemmas)

pub depth-list : (xs : List PyExpr) → expr_depth (e.List xs) ≡ suc (deepest (map expr_depth xs))
unfolding expr_depth argument_depth
depth-list xs = search (rules, expr_lemmas)

pub depth-comprehension : (a : PyExpr) (n : List ℕ) (b : PyExpr) → expr_depth (e.Comprehension a n b) ≡ suc (max (expr_depth a) (expr_depth b))
unfolding expr_depth argument_depth
depth-comprehension a n b = search (rules, expr_lemmas)

pub depth-not : (a : PyExpr) → expr_depth (e.Not a) ≡ suc (expr_depth a)
unfolding expr_depth argument_depth
depth-not a = search (rules, expr_lemmas)

pub depth-unary : (s : Sign) (a : PyExpr) → expr_depth (e.Unary s a) ≡ suc (expr_depth a)
unfolding expr_depth argument_depth
depth-unary s a = search (rules, expr_lemmas)

pub depth-binary : (op : Operator) (a : PyExpr) (b : PyExpr) → expr_depth (e.Binary op a b) ≡ suc (max (expr_depth a) (expr_depth b))
unfolding expr_depth argument_depth
depth-binary op a b = search (rules, expr_lemmas)

pub depth-attribute : (a : PyExpr) (n : List ℕ) → expr_depth (e.Attribute a n) ≡ suc (expr_depth a)
unfolding expr_depth argument_depth
depth-attribute a n = search (rules, expr_lemmas)

pub depth-call : (f : PyExpr) (xs : List Argument) → expr_depth (e.Call f xs) ≡ suc (max (expr_depth f) (deepest (map argument_depth xs)))
unfolding expr_depth argument_depth
depth-call f xs = search (rules, expr_lemmas)

pub depth-index : (a : PyExpr) (b : PyExpr) → expr_depth (e.Index a b) ≡ suc (max (expr_depth a) (expr_depth b))
unfolding expr_depth argument_depth
depth-index a b = search (rules, expr_lemmas)

pub depth-slice : (a : PyExpr) (b : PyExpr) (c : Option PyExpr) → expr_depth (e.Slice a b c) ≡ suc (max (expr_depth a) (max (expr_depth b) (expr_depth_if_any c)))
unfolding expr_depth argument_depth
depth-slice a b c = search (rules, expr_lemmas)

pub depth-whole : (a : PyExpr) → expr_depth (e.Whole a) ≡ suc (expr_depth a)
unfolding expr_depth argument_depth
depth-whole a = search (rules, expr_lemmas)

pub depth-argument : (a : Argument) → argument_depth a ≡ expr_depth (out-Argument a).value
unfolding expr_depth argument_depth
depth-argument a = search (rules, expr_lemmas)

pub depth-value : (line : ℕ) (a : PyExpr) → stmt_depth (s.Value line a) ≡ suc (expr_depth a)
unfolding stmt_depth branch_depth def_depth
depth-value line a = search (rules, stmt_lemmas)

pub depth-assign : (line : ℕ) (a : PyExpr) (b : PyExpr) → stmt_depth (s.Assign line a b) ≡ suc (max (expr_depth a) (expr_depth b))
unfolding stmt_depth branch_depth def_depth
depth-assign line a b = search (rules, stmt_lemmas)

pub depth-augment : (line : ℕ) (op : Operator) (a : PyExpr) (b : PyExpr) → stmt_depth (s.Augment line op a b) ≡ suc (max (expr_depth a) (expr_depth b))
unfolding stmt_depth branch_depth def_depth
depth-augment line op a b = search (rules, stmt_lemmas)

pub depth-pass : (line : ℕ) → stmt_depth (s.Pass line) ≡ 1
unfolding stmt_depth branch_depth def_depth
depth-pass line = search (rules, stmt_lemmas)

pub depth-break : (line : ℕ) → stmt_depth (s.Break line) ≡ 1
unfolding stmt_depth branch_depth def_depth
depth-break line = search (rules, stmt_lemmas)

pub depth-continue : (line : ℕ) → stmt_depth (s.Continue line) ≡ 1
unfolding stmt_depth branch_depth def_depth
depth-continue line = search (rules, stmt_lemmas)

pub depth-return : (line : ℕ) (a : Option PyExpr) → stmt_depth (s.Return line a) ≡ suc (expr_depth_if_any a)
unfolding stmt_depth branch_depth def_depth
depth-return line a = search (rules, stmt_lemmas)

pub depth-yield : (line : ℕ) (a : PyExpr) → stmt_depth (s.Yield line a) ≡ suc (expr_depth a)
unfolding stmt_depth branch_depth def_depth
depth-yield line a = search (rules, stmt_lemmas)

pub depth-raise : (line : ℕ) (a : PyExpr) → stmt_depth (s.Raise line a) ≡ suc (expr_depth a)
unfolding stmt_depth branch_depth def_depth
depth-raise line a = search (rules, stmt_lemmas)

pub depth-assert : (line : ℕ) (a : PyExpr) (m : Option (List ℕ)) → stmt_depth (s.Assert line a m) ≡ suc (expr_depth a)
unfolding stmt_depth branch_depth def_depth
depth-assert line a m = search (rules, stmt_lemmas)

pub depth-importall : (line : ℕ) → stmt_depth (s.ImportAll line) ≡ 1
unfolding stmt_depth branch_depth def_depth
depth-importall line = search (rules, stmt_lemmas)

pub depth-import : (line : ℕ) (ns : List (List ℕ)) → stmt_depth (s.Import line ns) ≡ 1
unfolding stmt_depth branch_depth def_depth
depth-import line ns = search (rules, stmt_lemmas)

pub depth-def : (f : FuncDef) → stmt_depth (s.Def f) ≡ suc (def_depth f)
unfolding stmt_depth branch_depth def_depth
depth-def f = search (rules, stmt_lemmas)

pub depth-if : (line : ℕ) (bs : List Branch) (other : Option (List PyStmt)) → stmt_depth (s.If line bs other) ≡ suc (max (deepest (map branch_depth bs)) (stmts_depth_if_any other))
unfolding stmt_depth branch_depth def_depth
depth-if line bs other = search (rules, stmt_lemmas)

pub depth-for : (line : ℕ) (n : List ℕ) (a : PyExpr) (body : List PyStmt) → stmt_depth (s.For line n a body) ≡ suc (max (expr_depth a) (deepest (map stmt_depth body)))
unfolding stmt_depth branch_depth def_depth
depth-for line n a body = search (rules, stmt_lemmas)

pub depth-while : (line : ℕ) (a : PyExpr) (body : List PyStmt) → stmt_depth (s.While line a body) ≡ suc (max (expr_depth a) (deepest (map stmt_depth body)))
unfolding stmt_depth branch_depth def_depth
depth-while line a body = search (rules, stmt_lemmas)

pub depth-branch : (b : Branch) → branch_depth b ≡ max (expr_depth (out-Branch b).test) (deepest (map stmt_depth (out-Branch b).body))
unfolding stmt_depth branch_depth def_depth
depth-branch b = search (rules, stmt_lemmas)

pub depth-def_of : (f : FuncDef) → def_depth f ≡ max (deepest (map expr_depth (out-FuncDef f).marks)) (max (deepest (map param_depth (out-FuncDef f).params)) (deepest (map stmt_depth (out-FuncDef f).body)))
unfolding stmt_depth branch_depth def_depth
depth-def_of f = search (rules, stmt_lemmas)

-- the depth of an expression, by its form
pub ruleset expr_depths = (depth-name, depth-number, depth-str, depth-true, depth-false, depth-none, depth-group, depth-bracketed, depth-tuple, depth-list, depth-comprehension, depth-not, depth-unary, depth-binary, depth-attribute, depth-call, depth-index, depth-slice, depth-whole, depth-argument)

-- the depth of a statement, by its form
pub ruleset stmt_depths = (depth-value, depth-assign, depth-augment, depth-pass, depth-break, depth-continue, depth-return, depth-yield, depth-raise, depth-assert, depth-importall, depth-import, depth-def, depth-if, depth-for, depth-while, depth-branch, depth-def_of)
