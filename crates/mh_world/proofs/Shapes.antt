-- What the plain form of a statement is, by its variant.
use Rattle.std.proofs.Common.{◌≡◌, ℕ, List, map, Option, rules}
use Rattle.std.specs.Option.{option_map}
use Rattle.mh_pytree.specs.declared.expression.Operator.{Operator}
use Rattle.mh_pytree.specs.declared.expression.PyExpr.{PyExpr}
use Rattle.mh_pytree.specs.declared.statement.PyStmt.{PyStmt, the_lemmas}
use Rattle.mh_pytree.specs.declared.statement.PyStmt.TheVariants as s
use Rattle.mh_pytree.specs.declared.statement.Branch.{Branch, out-Branch}
use Rattle.mh_pytree.specs.declared.statement.FuncDef.{FuncDef, out-FuncDef}
use Rattle.mh_consts.specs.Expression.{ex_of}
use Rattle.mh_world.specs.Statements as b
use Rattle.mh_world.specs.Statements.{st_of, choice_of, fn_of, target_of, returned_of, parameter_of, block, choices, block_if_any}

pub st-value : (l : ℕ) (e : PyExpr) → st_of (s.Value l e) ≡ b.Value l (ex_of e)
unfolding st_of choice_of fn_of
st-value l e = search (rules, the_lemmas)

pub st-assign : (l : ℕ) (t e : PyExpr) → st_of (s.Assign l t e) ≡ b.Assign l (target_of t) (ex_of t) (ex_of e)
unfolding st_of choice_of fn_of
st-assign l t e = search (rules, the_lemmas)

pub st-augment : (l : ℕ) (op : Operator) (t e : PyExpr) → st_of (s.Augment l op t e) ≡ b.Augment l op (target_of t) (ex_of t) (ex_of e)
unfolding st_of choice_of fn_of
st-augment l op t e = search (rules, the_lemmas)

pub st-pass : (l : ℕ) → st_of (s.Pass l) ≡ b.Pass l
unfolding st_of choice_of fn_of
st-pass l = search (rules, the_lemmas)

pub st-break : (l : ℕ) → st_of (s.Break l) ≡ b.Break l
unfolding st_of choice_of fn_of
st-break l = search (rules, the_lemmas)

pub st-continue : (l : ℕ) → st_of (s.Continue l) ≡ b.Continue l
unfolding st_of choice_of fn_of
st-continue l = search (rules, the_lemmas)

pub st-return : (l : ℕ) (e : Option PyExpr) → st_of (s.Return l e) ≡ b.Return l (returned_of e)
unfolding st_of choice_of fn_of
st-return l e = search (rules, the_lemmas)

pub st-yield : (l : ℕ) (e : PyExpr) → st_of (s.Yield l e) ≡ b.Yield l (ex_of e)
unfolding st_of choice_of fn_of
st-yield l e = search (rules, the_lemmas)

pub st-raise : (l : ℕ) (e : PyExpr) → st_of (s.Raise l e) ≡ b.Raise l (ex_of e)
unfolding st_of choice_of fn_of
st-raise l e = search (rules, the_lemmas)

pub st-assert : (l : ℕ) (e : PyExpr) (m : Option (List ℕ)) → st_of (s.Assert l e m) ≡ b.Assert l (ex_of e)
unfolding st_of choice_of fn_of
st-assert l e m = search (rules, the_lemmas)

pub st-import_all : (l : ℕ) → st_of (s.ImportAll l) ≡ b.ImportAll l
unfolding st_of choice_of fn_of
st-import_all l = search (rules, the_lemmas)

pub st-import : (l : ℕ) (ts : List (List ℕ)) → st_of (s.Import l ts) ≡ b.Import l ts
unfolding st_of choice_of fn_of
st-import l ts = search (rules, the_lemmas)

pub st-def : (f : FuncDef) → st_of (s.Def f) ≡ b.Define (fn_of f)
unfolding st_of choice_of fn_of
st-def f = search (rules, the_lemmas)

pub st-if : (l : ℕ) (bs : List Branch) (o : Option (List PyStmt)) → st_of (s.If l bs o) ≡ b.If l (choices (map choice_of bs)) (block_if_any (option_map (map st_of) o))
unfolding st_of choice_of fn_of
st-if l bs o = search (rules, the_lemmas)

pub st-for : (l : ℕ) (t : List ℕ) (e : PyExpr) (ss : List PyStmt) → st_of (s.For l t e ss) ≡ b.For l t (ex_of e) (block (map st_of ss))
unfolding st_of choice_of fn_of
st-for l t e ss = search (rules, the_lemmas)

pub st-while : (l : ℕ) (e : PyExpr) (ss : List PyStmt) → st_of (s.While l e ss) ≡ b.While l (ex_of e) (block (map st_of ss))
unfolding st_of choice_of fn_of
st-while l e ss = search (rules, the_lemmas)

pub choice-branch : (c : Branch) → choice_of c ≡ b.Where (ex_of (out-Branch c).test) (block (map st_of (out-Branch c).body))
unfolding st_of choice_of fn_of
choice-branch c = search (rules, the_lemmas)

pub fn-def : (f : FuncDef) → fn_of f ≡ b.Func (out-FuncDef f).line (out-FuncDef f).name (map ex_of (out-FuncDef f).marks) (map parameter_of (out-FuncDef f).params) (block (map st_of (out-FuncDef f).body))
unfolding st_of choice_of fn_of
fn-def f = search (rules, the_lemmas)

pub ruleset forms = (st-value, st-assign, st-augment, st-pass, st-break, st-continue, st-return, st-yield, st-raise, st-assert, st-import_all, st-import, st-def, st-if, st-for, st-while, choice-branch, fn-def)
