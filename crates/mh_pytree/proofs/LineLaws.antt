-- The line of each form of statement, as an equation.
use Rattle.std.proofs.Common.{◌≡◌, ℕ, List, Option, rules}
use Rattle.mh_pytree.specs.declared.expression.Operator.{Operator}
use Rattle.mh_pytree.specs.declared.expression.PyExpr.{PyExpr}
use Rattle.mh_pytree.specs.declared.statement.PyStmt.{PyStmt}
use Rattle.mh_pytree.specs.declared.statement.PyStmt.{the_lemmas as stmt_lemmas}
use Rattle.mh_pytree.specs.declared.statement.PyStmt.TheVariants as s
use Rattle.mh_pytree.specs.declared.statement.Branch.{Branch}
use Rattle.mh_pytree.specs.declared.statement.FuncDef.{FuncDef, out-FuncDef}
use Rattle.mh_pytree.specs.Lines.{line_of}

pub line-value : (line : ℕ) (a : PyExpr) → line_of (s.Value line a) ≡ line
unfolding line_of
line-value line a = search (rules, stmt_lemmas)

pub line-assign : (line : ℕ) (a : PyExpr) (b : PyExpr) → line_of (s.Assign line a b) ≡ line
unfolding line_of
line-assign line a b = search (rules, stmt_lemmas)

pub line-augment : (line : ℕ) (op : Operator) (a : PyExpr) (b : PyExpr) → line_of (s.Augment line op a b) ≡ line
unfolding line_of
line-augment line op a b = search (rules, stmt_lemmas)

pub line-pass : (line : ℕ) → line_of (s.Pass line) ≡ line
unfolding line_of
line-pass line = search (rules, stmt_lemmas)

pub line-break : (line : ℕ) → line_of (s.Break line) ≡ line
unfolding line_of
line-break line = search (rules, stmt_lemmas)

pub line-continue : (line : ℕ) → line_of (s.Continue line) ≡ line
unfolding line_of
line-continue line = search (rules, stmt_lemmas)

pub line-return : (line : ℕ) (a : Option PyExpr) → line_of (s.Return line a) ≡ line
unfolding line_of
line-return line a = search (rules, stmt_lemmas)

pub line-yield : (line : ℕ) (a : PyExpr) → line_of (s.Yield line a) ≡ line
unfolding line_of
line-yield line a = search (rules, stmt_lemmas)

pub line-raise : (line : ℕ) (a : PyExpr) → line_of (s.Raise line a) ≡ line
unfolding line_of
line-raise line a = search (rules, stmt_lemmas)

pub line-assert : (line : ℕ) (a : PyExpr) (m : Option (List ℕ)) → line_of (s.Assert line a m) ≡ line
unfolding line_of
line-assert line a m = search (rules, stmt_lemmas)

pub line-importall : (line : ℕ) → line_of (s.ImportAll line) ≡ line
unfolding line_of
line-importall line = search (rules, stmt_lemmas)

pub line-import : (line : ℕ) (ns : List (List ℕ)) → line_of (s.Import line ns) ≡ line
unfolding line_of
line-import line ns = search (rules, stmt_lemmas)

pub line-def : (f : FuncDef) → line_of (s.Def f) ≡ (out-FuncDef f).line
unfolding line_of
line-def f = search (rules, stmt_lemmas)

pub line-if : (line : ℕ) (bs : List Branch) (other : Option (List PyStmt)) → line_of (s.If line bs other) ≡ line
unfolding line_of
line-if line bs other = search (rules, stmt_lemmas)

pub line-for : (line : ℕ) (n : List ℕ) (a : PyExpr) (body : List PyStmt) → line_of (s.For line n a body) ≡ line
unfolding line_of
line-for line n a body = search (rules, stmt_lemmas)

pub line-while : (line : ℕ) (a : PyExpr) (body : List PyStmt) → line_of (s.While line a body) ≡ line
unfolding line_of
line-while line a body = search (rules, stmt_lemmas)

-- the line of a statement, by its form
pub ruleset lines = (line-value, line-assign, line-augment, line-pass, line-break, line-continue, line-return, line-yield, line-raise, line-assert, line-importall, line-import, line-def, line-if, line-for, line-while)
