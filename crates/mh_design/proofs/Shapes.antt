-- What the plain form of a tree is, by its variant.
use Rattle.std.proofs.Common.{◌≡◌, ℕ, ℤ, Bool, List, map, rules}
use Rattle.mh_num.specs.declared.bounds.Bounds.{Bounds}
use Rattle.mh_design.specs.declared.design.Wait.{Wait}
use Rattle.mh_design.specs.declared.expression.UnaryOp.{UnaryOp}
use Rattle.mh_design.specs.declared.expression.BinaryOp.{BinaryOp}
use Rattle.mh_design.specs.declared.expression.GExpr.{GExpr, the_lemmas}
use Rattle.mh_design.specs.declared.expression.GExpr.TheVariants as e
use Rattle.mh_design.specs.declared.statement.PrintPart.{PrintPart}
use Rattle.mh_design.specs.declared.statement.Target.{Target}
use Rattle.mh_design.specs.declared.statement.Branch.{Branch, out-Branch}
use Rattle.mh_design.specs.declared.statement.GStmt.{GStmt, the_lemmas as statement_lemmas}
use Rattle.mh_design.specs.declared.statement.GStmt.TheVariants as s
use Rattle.mh_design.specs.Tree.{Expression, Statement, Arm, expression_of, statement_of, arm_of, left_of, printed_of, row, one, two, three, block, arms}
use Rattle.mh_design.specs.Tree as tree

pub expression-integer : (z : ℤ) → expression_of (e.Integer z) ≡ tree.Integer z
unfolding expression_of
expression-integer z = search (rules, the_lemmas)

pub expression-truth : (b : Bool) → expression_of (e.Truth b) ≡ tree.Truth b
unfolding expression_of
expression-truth b = search (rules, the_lemmas)

pub expression-item : (n i : ℕ) → expression_of (e.Item n i) ≡ tree.Item n i
unfolding expression_of
expression-item n i = search (rules, the_lemmas)

pub expression-fixed : (z : ℤ) (b : Bounds) → expression_of (e.Fixed z b) ≡ tree.Fixed z b
unfolding expression_of
expression-fixed z b = search (rules, the_lemmas)

pub expression-signal : (n : ℕ) → expression_of (e.Signal n) ≡ tree.Signal n
unfolding expression_of
expression-signal n = search (rules, the_lemmas)

pub expression-local : (n : ℕ) → expression_of (e.Local n) ≡ tree.Local n
unfolding expression_of
expression-local n = search (rules, the_lemmas)

pub expression-element : (m : ℕ) (i : GExpr) → expression_of (e.Element m i) ≡ tree.Operation (tree.ElementOf m) (one (expression_of i))
unfolding expression_of
expression-element m i = search (rules, the_lemmas)

pub expression-table_element : (t : ℕ) (i : GExpr) → expression_of (e.TableElement t i) ≡ tree.Operation (tree.TableElementOf t) (one (expression_of i))
unfolding expression_of
expression-table_element t i = search (rules, the_lemmas)

pub expression-bit : (a i : GExpr) → expression_of (e.Bit a i) ≡ tree.Operation tree.BitOf (two (expression_of a) (expression_of i))
unfolding expression_of
expression-bit a i = search (rules, the_lemmas)

pub expression-slice : (a i j : GExpr) → expression_of (e.Slice a i j) ≡ tree.Operation tree.SliceOf (three (expression_of a) (expression_of i) (expression_of j))
unfolding expression_of
expression-slice a i j = search (rules, the_lemmas)

pub expression-unary : (o : UnaryOp) (a : GExpr) → expression_of (e.Unary o a) ≡ tree.Operation (tree.Unary o) (one (expression_of a))
unfolding expression_of
expression-unary o a = search (rules, the_lemmas)

pub expression-binary : (o : BinaryOp) (a b : GExpr) → expression_of (e.Binary o a b) ≡ tree.Operation (tree.Binary o) (two (expression_of a) (expression_of b))
unfolding expression_of
expression-binary o a b = search (rules, the_lemmas)

pub expression-and : (a b : GExpr) → expression_of (e.And a b) ≡ tree.Operation tree.And (two (expression_of a) (expression_of b))
unfolding expression_of
expression-and a b = search (rules, the_lemmas)

pub expression-or : (a b : GExpr) → expression_of (e.Or a b) ≡ tree.Operation tree.Or (two (expression_of a) (expression_of b))
unfolding expression_of
expression-or a b = search (rules, the_lemmas)

pub expression-concat : (xs : List GExpr) → expression_of (e.Concat xs) ≡ tree.Operation tree.Concat (row (map expression_of xs))
unfolding expression_of
expression-concat xs = search (rules, the_lemmas)

pub expression-signed : (a : GExpr) → expression_of (e.Signed a) ≡ tree.Operation tree.Signed (one (expression_of a))
unfolding expression_of
expression-signed a = search (rules, the_lemmas)

pub expression-int : (a : GExpr) → expression_of (e.Int a) ≡ tree.Operation tree.ToInt (one (expression_of a))
unfolding expression_of
expression-int a = search (rules, the_lemmas)

pub expression-bool : (a : GExpr) → expression_of (e.Bool a) ≡ tree.Operation tree.ToBool (one (expression_of a))
unfolding expression_of
expression-bool a = search (rules, the_lemmas)

pub expression-now : expression_of e.Now ≡ tree.Now
unfolding expression_of
expression-now = search (rules, the_lemmas)

pub statement-set : (l : ℕ) (t : Target) (a : GExpr) → statement_of (s.Set l t a) ≡ tree.Set l (left_of t) (expression_of a)
unfolding statement_of
statement-set l t a = search (rules, statement_lemmas)

pub statement-if : (l : ℕ) (bs : List Branch) (ss : List GStmt) → statement_of (s.If l bs ss) ≡ tree.If l (arms (map arm_of bs)) (block (map statement_of ss))
unfolding statement_of arm_of
statement-if l bs ss = search (rules, statement_lemmas)

pub statement-while : (l : ℕ) (a : GExpr) (ss : List GStmt) → statement_of (s.While l a ss) ≡ tree.While l (expression_of a) (block (map statement_of ss))
unfolding statement_of
statement-while l a ss = search (rules, statement_lemmas)

pub statement-for : (l v : ℕ) (d : Bool) (a b : GExpr) (z : ℤ) (ss : List GStmt) → statement_of (s.For l v d a b z ss) ≡ tree.For l v d (expression_of a) (expression_of b) z (block (map statement_of ss))
unfolding statement_of
statement-for l v d a b z ss = search (rules, statement_lemmas)

pub statement-break : (l : ℕ) → statement_of (s.Break l) ≡ tree.Break l
unfolding statement_of
statement-break l = search (rules, statement_lemmas)

pub statement-continue : (l : ℕ) → statement_of (s.Continue l) ≡ tree.Continue l
unfolding statement_of
statement-continue l = search (rules, statement_lemmas)

pub statement-yield : (l : ℕ) (ws : List Wait) → statement_of (s.Yield l ws) ≡ tree.Yield l ws
unfolding statement_of
statement-yield l ws = search (rules, statement_lemmas)

pub statement-print : (l : ℕ) (ps : List PrintPart) → statement_of (s.Print l ps) ≡ tree.Print l (map printed_of ps)
unfolding statement_of
statement-print l ps = search (rules, statement_lemmas)

pub statement-assert : (l : ℕ) (a : GExpr) → statement_of (s.Assert l a) ≡ tree.Assert l (expression_of a)
unfolding statement_of
statement-assert l a = search (rules, statement_lemmas)

pub statement-stop : (l : ℕ) → statement_of (s.Stop l) ≡ tree.Stop l
unfolding statement_of
statement-stop l = search (rules, statement_lemmas)

pub arm-branch : (b : Branch) → arm_of b ≡ tree.ArmOf (expression_of (out-Branch b).test) (block (map statement_of (out-Branch b).body))
unfolding arm_of statement_of
arm-branch b = search (rules, statement_lemmas)

pub ruleset shapes = (expression-integer, expression-truth, expression-item, expression-fixed, expression-signal, expression-local, expression-element, expression-table_element, expression-bit, expression-slice, expression-unary, expression-binary, expression-and, expression-or, expression-concat, expression-signed, expression-int, expression-bool, expression-now)

pub ruleset statements = (statement-set, statement-if, statement-while, statement-for, statement-break, statement-continue, statement-yield, statement-print, statement-assert, statement-stop, arm-branch)
