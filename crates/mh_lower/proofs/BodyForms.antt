-- What the plain form of a statement is, by its variant.
use Rattle.std.proofs.Common.{◌≡◌, ℕ, List, map, Option, rules}
use Rattle.std.specs.Option.{option_map}
use Rattle.mh_pytree.specs.declared.expression.Operator.{Operator}
use Rattle.mh_pytree.specs.declared.expression.PyExpr.{PyExpr}
use Rattle.mh_pytree.specs.declared.statement.PyStmt.{PyStmt, the_lemmas}
use Rattle.mh_pytree.specs.declared.statement.PyStmt.TheVariants as s
use Rattle.mh_pytree.specs.declared.statement.Branch.{Branch, out-Branch}
use Rattle.mh_pytree.specs.declared.statement.FuncDef.{FuncDef, out-FuncDef}
use Rattle.mh_consts.specs.Expression.{ex_of}
use Rattle.mh_design.proofs.Shapes.{statements}
use Rattle.mh_lower.specs.Body as b
use Rattle.mh_lower.specs.Body.{line_of, choice_of, lines, choices, lines_if_any}

pub line-value : (l : ℕ) (e : PyExpr) → line_of (s.Value l e) ≡ b.Value l (ex_of e)
unfolding line_of choice_of
line-value l e = search (rules, the_lemmas)

pub line-assign : (l : ℕ) (t e : PyExpr) → line_of (s.Assign l t e) ≡ b.Assign l (ex_of t) (ex_of e)
unfolding line_of choice_of
line-assign l t e = search (rules, the_lemmas)

pub line-augment : (l : ℕ) (op : Operator) (t e : PyExpr) → line_of (s.Augment l op t e) ≡ b.Augment l op (ex_of t) (ex_of e)
unfolding line_of choice_of
line-augment l op t e = search (rules, the_lemmas)

pub line-pass : (l : ℕ) → line_of (s.Pass l) ≡ b.Pass
unfolding line_of choice_of
line-pass l = search (rules, the_lemmas)

pub line-break : (l : ℕ) → line_of (s.Break l) ≡ b.Break l
unfolding line_of choice_of
line-break l = search (rules, the_lemmas)

pub line-continue : (l : ℕ) → line_of (s.Continue l) ≡ b.Continue l
unfolding line_of choice_of
line-continue l = search (rules, the_lemmas)

pub line-return : (l : ℕ) (e : Option PyExpr) → line_of (s.Return l e) ≡ b.Forbidden l
unfolding line_of choice_of
line-return l e = search (rules, the_lemmas)

pub line-yield : (l : ℕ) (e : PyExpr) → line_of (s.Yield l e) ≡ b.Yield l (ex_of e)
unfolding line_of choice_of
line-yield l e = search (rules, the_lemmas)

pub line-raise : (l : ℕ) (e : PyExpr) → line_of (s.Raise l e) ≡ b.Raise l (ex_of e)
unfolding line_of choice_of
line-raise l e = search (rules, the_lemmas)

pub line-assert : (l : ℕ) (e : PyExpr) (m : Option (List ℕ)) → line_of (s.Assert l e m) ≡ b.Assert l (ex_of e)
unfolding line_of choice_of
line-assert l e m = search (rules, the_lemmas)

pub line-import_all : (l : ℕ) → line_of (s.ImportAll l) ≡ b.Forbidden l
unfolding line_of choice_of
line-import_all l = search (rules, the_lemmas)

pub line-import : (l : ℕ) (ts : List (List ℕ)) → line_of (s.Import l ts) ≡ b.Forbidden l
unfolding line_of choice_of
line-import l ts = search (rules, the_lemmas)

pub line-def : (f : FuncDef) → line_of (s.Def f) ≡ b.Forbidden (out-FuncDef f).line
unfolding line_of choice_of
line-def f = search (rules, the_lemmas)

pub line-if : (l : ℕ) (bs : List Branch) (o : Option (List PyStmt)) → line_of (s.If l bs o) ≡ b.If l (choices (map choice_of bs)) (lines_if_any (option_map (map line_of) o))
unfolding line_of choice_of
line-if l bs o = search (rules, the_lemmas)

pub line-for : (l : ℕ) (t : List ℕ) (e : PyExpr) (ss : List PyStmt) → line_of (s.For l t e ss) ≡ b.For l t (ex_of e) (lines (map line_of ss))
unfolding line_of choice_of
line-for l t e ss = search (rules, the_lemmas)

pub line-while : (l : ℕ) (e : PyExpr) (ss : List PyStmt) → line_of (s.While l e ss) ≡ b.While l (ex_of e) (lines (map line_of ss))
unfolding line_of choice_of
line-while l e ss = search (rules, the_lemmas)

pub choice-branch : (c : Branch) → choice_of c ≡ b.Where (ex_of (out-Branch c).test) (lines (map line_of (out-Branch c).body))
unfolding line_of choice_of
choice-branch c = search (rules, the_lemmas)

pub ruleset forms = (line-value, line-assign, line-augment, line-pass, line-break, line-continue, line-return, line-yield, line-raise, line-assert, line-import_all, line-import, line-def, line-if, line-for, line-while, choice-branch)

pub ruleset bodies = (forms, statements)
