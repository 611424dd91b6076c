-- Expressions and lines are no deeper than the source that they are read of.
use Rattle.std.proofs.Common.{◌≡◌, ℕ, suc, ◌≤◌, max, List, [], ◌∷◌, map, Option, Some, None, refl, ap, sym, subst, arith}
use Rattle.mh_pytree.specs.declared.expression.Operator.{Operator}
use Rattle.mh_pytree.specs.declared.expression.Operator.TheVariants as op
use Rattle.mh_pytree.specs.declared.expression.PyExpr.{PyExpr, map-PyExpr, roll-PyExpr}
use Rattle.mh_pytree.specs.declared.expression.Argument.{Argument, map-Argument, roll-Argument}
use Rattle.mh_pytree.specs.declared.expression.PyExpr.TheOpen.{PyExpr-F}
use Rattle.mh_pytree.specs.declared.expression.PyExpr.TheFolds.{ind-PyExpr, fold-roll-PyExpr, fold-roll-Argument}
use Rattle.mh_pytree.specs.declared.statement.PyStmt.{PyStmt, map-PyStmt, roll-PyStmt}
use Rattle.mh_pytree.specs.declared.statement.Branch.{Branch, map-Branch, roll-Branch}
use Rattle.mh_pytree.specs.declared.statement.FuncDef.{FuncDef, out-FuncDef}
use Rattle.mh_pytree.specs.declared.statement.PyStmt.TheOpen.{PyStmt-F, Branch-F}
use Rattle.mh_pytree.specs.declared.statement.PyStmt.TheFolds.{ind-PyStmt, fold-roll-PyStmt, fold-roll-Branch, fold-FuncDef}
use Rattle.mh_pytree.specs.Depth.{deepest, expr_depth, argument_depth, stmt_depth, branch_depth, def_depth}
use Rattle.mh_pytree.specs.Depth as depth
use Rattle.mh_pytree.proofs.Depths.{depth-def_of}
use Rattle.mh_consts.specs.Expression as x
use Rattle.mh_consts.specs.Expression.{Ex, Exs, Keys, Given, exs, join, maker, slice_from, binary, attribute_in, called_as, keys_of, parts_of, expr_step, argument_step, ex_of, given_of}
use Rattle.mh_lower.specs.Body.{Line, Choice, lines, choices, line_of, choice_of, line_step, choice_step, def_step}
use Rattle.mh_lower_laws.proofs.Depths.{ex_depth, exs_depth}
use Rattle.mh_lower_laws.proofs.BodyDepths.{line_depth, lines_depth, choice_depth, choices_depth}

-- ---- expressions

join_depth : (xs ys : Exs) → exs_depth (join xs ys) ≤ max (exs_depth xs) (exs_depth ys)
join_depth x.NoMore ys = omega arith
join_depth (x.More e xs) ys = let i = join_depth xs ys in omega (arith, i)

binary_depth : (o : Operator) (a b : Ex) → ex_depth (binary o a b) ≤ suc (max (ex_depth a) (ex_depth b))
binary_depth op.Or a b = omega arith
binary_depth op.And a b = omega arith
binary_depth o a b = omega arith

from_depth : (m : Option (List ℕ)) (a b : Ex) → ex_depth (slice_from m a b) ≤ suc (max (ex_depth a) (ex_depth b))
from_depth None a b = omega arith
from_depth (Some t) a b = omega arith

head_attribute : (h : x.Head) (xs : Exs) (a : List ℕ × Exs) → attribute_in (x.Op h xs) ≡ Some a → exs_depth a.1 ≤ exs_depth xs
head_attribute (x.Attribute name) xs a q = let same : (name, xs) ≡ a = cc in let e : exs_depth xs ≡ exs_depth a.1 = ap (λ (b : List ℕ × Exs). exs_depth b.1) same in omega (arith, e)
head_attribute h xs a q = absurd (cc)

attribute_depth : (f : Ex) (a : List ℕ × Exs) → attribute_in f ≡ Some a → exs_depth a.1 ≤ ex_depth f
attribute_depth (x.Op h xs) a q = let i = head_attribute h xs a q in omega (arith, i)
attribute_depth f a q = absurd (cc)

called_depth : (o : Option (List ℕ × Exs)) (f : Ex) (keys : Keys) (args : Exs) → ((a : List ℕ × Exs) → o ≡ Some a → exs_depth a.1 ≤ ex_depth f) → ex_depth (called_as o f keys args) ≤ suc (max (ex_depth f) (exs_depth args))
called_depth (Some a) f keys args h = let i = h a refl in let j = join_depth a.1 args in omega (arith, i, j)
called_depth None f keys args h = omega arith

module _ {A B : Type 0} (f : A → PyExpr) (g : B → Argument) (parts : (a : A) → ex_depth (ex_of (f a)) ≤ expr_depth (f a)) (arguments : (b : B) → ex_depth (given_of (g b)).1 ≤ argument_depth (g b)) where
  all_depth : (as_ : List A) → exs_depth (exs (map ex_of (map f as_))) ≤ deepest (map expr_depth (map f as_))
  all_depth [] = omega arith
  all_depth (a ∷ rest) = let i = all_depth rest in let j = parts a in omega (arith, i, j)

  parts_depth : (bs : List B) → exs_depth (parts_of (map given_of (map g bs))) ≤ deepest (map argument_depth (map g bs))
  parts_depth [] = omega arith
  parts_depth (b ∷ rest) = let i = parts_depth rest in let j = arguments b in omega (arith, i, j)

  layer_depth : (y : PyExpr-F A B) → ex_depth (expr_step (map-PyExpr PyExpr Argument Ex Given ex_of given_of (map-PyExpr A B PyExpr Argument f g y))) ≤ depth.expr_step (map-PyExpr PyExpr Argument ℕ ℕ expr_depth argument_depth (map-PyExpr A B PyExpr Argument f g y))
  layer_depth (PyExpr-F.Name t) = omega arith
  layer_depth (PyExpr-F.Number n) = omega arith
  layer_depth (PyExpr-F.Str bytes) = omega arith
  layer_depth PyExpr-F.True = omega arith
  layer_depth PyExpr-F.False = omega arith
  layer_depth PyExpr-F.None = omega arith
  layer_depth (PyExpr-F.Group a) = let i = parts a in omega (arith, i)
  layer_depth (PyExpr-F.Bracketed xs) = let i = all_depth xs in omega (arith, i)
  layer_depth (PyExpr-F.Tuple xs) = let i = all_depth xs in omega (arith, i)
  layer_depth (PyExpr-F.List xs) = let i = all_depth xs in omega (arith, i)
  layer_depth (PyExpr-F.Comprehension item t over) = let i = parts item in let j = parts over in omega (arith, i, j)
  layer_depth (PyExpr-F.Not a) = let i = parts a in omega (arith, i)
  layer_depth (PyExpr-F.Unary s a) = let i = parts a in omega (arith, i)
  layer_depth (PyExpr-F.Binary o a b) = let i = parts a in let j = parts b in let m = binary_depth o (ex_of (f a)) (ex_of (f b)) in omega (arith, i, j, m)
  layer_depth (PyExpr-F.Attribute a t) = let i = parts a in omega (arith, i)
  layer_depth (PyExpr-F.Call a bs) =
      let i = parts a in
      let j = parts_depth bs in
      let m = called_depth (attribute_in (ex_of (f a))) (ex_of (f a)) (keys_of (map given_of (map g bs))) (parts_of (map given_of (map g bs))) (attribute_depth (ex_of (f a))) in
      omega (arith, i, j, m)
  layer_depth (PyExpr-F.Index a b) = let i = parts a in let j = parts b in omega (arith, i, j)
  layer_depth (PyExpr-F.Slice a b None) = let i = parts a in let j = parts b in let m = from_depth (maker (ex_of (f a))) (ex_of (f a)) (ex_of (f b)) in omega (arith, i, j, m)
  layer_depth (PyExpr-F.Slice a b (Some c)) = let i = parts a in let j = parts b in let m = parts c in omega (arith, i, j, m)
  layer_depth (PyExpr-F.Whole a) = let i = parts a in omega (arith, i)

abbrev Within : PyExpr → Type 0
Within a = ex_depth (ex_of a) ≤ expr_depth a

abbrev ArgumentWithin : Argument → Type 0
ArgumentWithin b = ex_depth (given_of b).1 ≤ argument_depth b

pub source_depth : (a : PyExpr) → Within a
unfolding ex_of given_of expr_depth argument_depth
source_depth = ind-PyExpr Within ArgumentWithin
    (λ x y is.
    let e = fold-roll-PyExpr Ex Given expr_step argument_step x in
    let m = fold-roll-PyExpr ℕ ℕ depth.expr_step depth.argument_step x in
    let l = subst (λ z. ex_depth (expr_step (map-PyExpr PyExpr Argument Ex Given ex_of given_of z)) ≤ depth.expr_step (map-PyExpr PyExpr Argument ℕ ℕ expr_depth argument_depth z)) is (layer_depth (λ e. e.0) (λ e. e.0) (λ e. e.1) (λ e. e.1) y) in
    subst (λ n. ex_depth (ex_of (roll-PyExpr x)) ≤ n) (sym m) (subst (λ a. ex_depth a ≤ depth.expr_step (map-PyExpr PyExpr Argument ℕ ℕ expr_depth argument_depth x)) (sym e) l))
    (λ x y is.
    let e = fold-roll-Argument Ex Given expr_step argument_step x in
    let m = fold-roll-Argument ℕ ℕ depth.expr_step depth.argument_step x in
    let l = subst (λ z. ex_depth (argument_step (map-Argument PyExpr Argument Ex Given ex_of given_of z)).1 ≤ depth.argument_step (map-Argument PyExpr Argument ℕ ℕ expr_depth argument_depth z)) is y.value.1 in
    subst (λ n. ex_depth (given_of (roll-Argument x)).1 ≤ n) (sym m) (subst (λ (a : Given). ex_depth a.1 ≤ depth.argument_step (map-Argument PyExpr Argument ℕ ℕ expr_depth argument_depth x)) (sym e) l))

-- ---- statements

module _ {A B C : Type 0} (f : A → PyStmt) (g : B → Branch) (h : C → FuncDef) (k : FuncDef → ℕ) (stmts : (a : A) → line_depth (line_of (f a)) ≤ suc (stmt_depth (f a))) (branches : (b : B) → choice_depth (choice_of (g b)) ≤ suc (branch_depth (g b))) where
  lines_within : (as_ : List A) → lines_depth (lines (map line_of (map f as_))) ≤ suc (deepest (map stmt_depth (map f as_)))
  lines_within [] = omega arith
  lines_within (a ∷ rest) = let i = lines_within rest in let j = stmts a in omega (arith, i, j)

  choices_within : (bs : List B) → choices_depth (choices (map choice_of (map g bs))) ≤ suc (deepest (map branch_depth (map g bs)))
  choices_within [] = omega arith
  choices_within (b ∷ rest) = let i = choices_within rest in let j = branches b in omega (arith, i, j)

  stmt_within : (y : PyStmt-F A B C) → line_depth (line_step (map-PyStmt PyStmt Branch FuncDef Line Choice ℕ line_of choice_of k (map-PyStmt A B C PyStmt Branch FuncDef f g h y)))
      ≤ suc (depth.stmt_step (map-PyStmt PyStmt Branch FuncDef ℕ ℕ ℕ stmt_depth branch_depth def_depth (map-PyStmt A B C PyStmt Branch FuncDef f g h y)))
  stmt_within (PyStmt-F.Value l e) = let i = source_depth e in omega (arith, i)
  stmt_within (PyStmt-F.Assign l t e) = let i = source_depth t in let j = source_depth e in omega (arith, i, j)
  stmt_within (PyStmt-F.Augment l o t e) = let i = source_depth t in let j = source_depth e in omega (arith, i, j)
  stmt_within (PyStmt-F.Pass l) = omega arith
  stmt_within (PyStmt-F.Break l) = omega arith
  stmt_within (PyStmt-F.Continue l) = omega arith
  stmt_within (PyStmt-F.Return l e) = omega arith
  stmt_within (PyStmt-F.Yield l e) = omega arith
  stmt_within (PyStmt-F.Raise l e) = omega arith
  stmt_within (PyStmt-F.Assert l e message) = let i = source_depth e in omega (arith, i)
  stmt_within (PyStmt-F.ImportAll l) = omega arith
  stmt_within (PyStmt-F.Import l names) = omega arith
  stmt_within (PyStmt-F.Def l) = omega arith
  stmt_within (PyStmt-F.If l bs None) = let i = choices_within bs in omega (arith, i)
  stmt_within (PyStmt-F.If l bs (Some other)) = let i = choices_within bs in let j = lines_within other in omega (arith, i, j)
  stmt_within (PyStmt-F.For l t e b) = let i = source_depth e in let j = lines_within b in omega (arith, i, j)
  stmt_within (PyStmt-F.While l e b) = let i = source_depth e in let j = lines_within b in omega (arith, i, j)

  branch_within : (y : Branch-F A B C) → choice_depth (choice_step (map-Branch PyStmt Branch FuncDef Line Choice ℕ line_of choice_of k (map-Branch A B C PyStmt Branch FuncDef f g h y)))
      ≤ suc (depth.branch_step (map-Branch PyStmt Branch FuncDef ℕ ℕ ℕ stmt_depth branch_depth def_depth (map-Branch A B C PyStmt Branch FuncDef f g h y)))
  branch_within y = let i = source_depth y.test in let j = lines_within y.body in omega (arith, i, j)

abbrev LineWithin : PyStmt → Type 0
LineWithin x = line_depth (line_of x) ≤ suc (stmt_depth x)

abbrev ChoiceWithin : Branch → Type 0
ChoiceWithin b = choice_depth (choice_of b) ≤ suc (branch_depth b)

abbrev Any : FuncDef → Type 0
Any f = Unit {0}

pub source_line_depth : (x : PyStmt) → LineWithin x
unfolding line_of choice_of stmt_depth branch_depth def_depth
source_line_depth = ind-PyStmt LineWithin ChoiceWithin Any
    (λ x y is.
    let e = fold-roll-PyStmt Line Choice ℕ line_step choice_step def_step x in
    let m = fold-roll-PyStmt ℕ ℕ ℕ depth.stmt_step depth.branch_step depth.def_step x in
    let l = subst (λ z. line_depth (line_step (map-PyStmt PyStmt Branch FuncDef Line Choice ℕ line_of choice_of (fold-FuncDef Line Choice ℕ line_step choice_step def_step) z)) ≤ suc (depth.stmt_step (map-PyStmt PyStmt Branch FuncDef ℕ ℕ ℕ stmt_depth branch_depth def_depth z))) is
    (stmt_within (λ e. e.0) (λ e. e.0) (λ e. e.0) (fold-FuncDef Line Choice ℕ line_step choice_step def_step) (λ e. e.1) (λ e. e.1) y) in
    subst (λ n. line_depth (line_of (roll-PyStmt x)) ≤ suc n) (sym m) (subst (λ a. line_depth a ≤ suc (depth.stmt_step (map-PyStmt PyStmt Branch FuncDef ℕ ℕ ℕ stmt_depth branch_depth def_depth x))) (sym e) l))
    (λ x y is.
    let e = fold-roll-Branch Line Choice ℕ line_step choice_step def_step x in
    let m = fold-roll-Branch ℕ ℕ ℕ depth.stmt_step depth.branch_step depth.def_step x in
    let l = subst (λ z. choice_depth (choice_step (map-Branch PyStmt Branch FuncDef Line Choice ℕ line_of choice_of (fold-FuncDef Line Choice ℕ line_step choice_step def_step) z)) ≤ suc (depth.branch_step (map-Branch PyStmt Branch FuncDef ℕ ℕ ℕ stmt_depth branch_depth def_depth z))) is
    (branch_within (λ e. e.0) (λ e. e.0) (λ e. e.0) (fold-FuncDef Line Choice ℕ line_step choice_step def_step) (λ e. e.1) (λ e. e.1) y) in
    subst (λ n. choice_depth (choice_of (roll-Branch x)) ≤ suc n) (sym m) (subst (λ a. choice_depth a ≤ suc (depth.branch_step (map-Branch PyStmt Branch FuncDef ℕ ℕ ℕ stmt_depth branch_depth def_depth x))) (sym e) l))
    (λ x y is. tt)

all_source_depth : (xs : List PyStmt) → lines_depth (lines (map line_of xs)) ≤ suc (deepest (map stmt_depth xs))
all_source_depth [] = omega arith
all_source_depth (x ∷ xs) = let i = source_line_depth x in let j = all_source_depth xs in omega (arith, i, j)

-- the lines of a definition
pub body_depth : (f : FuncDef) (n : ℕ) → def_depth f ≤ n → lines_depth (lines (map line_of (out-FuncDef f).body)) ≤ suc n
body_depth f n h = let e = depth-def_of f in let i = all_source_depth (out-FuncDef f).body in omega (arith, e, i, h)
