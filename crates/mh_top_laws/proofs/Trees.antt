-- The tree whose plain form this is.
use Rattle.std.proofs.Common.{◌≡◌, List, [], ◌∷◌, map, refl, ap, ap₂, ◌∙◌, subst}
use Rattle.mh_design.specs.declared.expression.GExpr.{GExpr, map-GExpr, roll-GExpr}
use Rattle.mh_design.specs.declared.expression.GExpr.TheOpen.{GExpr-F}
use Rattle.mh_design.specs.declared.expression.GExpr.TheFolds.{ind-GExpr, fold-roll-GExpr}
use Rattle.mh_design.specs.declared.statement.Place.{Place}
use Rattle.mh_design.specs.declared.statement.Place.TheVariants as place
use Rattle.mh_design.specs.declared.statement.Target.{Target}
use Rattle.mh_design.specs.declared.statement.Target.TheVariants as target
use Rattle.mh_design.specs.declared.statement.PrintPart.{PrintPart}
use Rattle.mh_design.specs.declared.statement.PrintPart.TheVariants as print
use Rattle.mh_design.specs.declared.statement.GStmt.{GStmt, map-GStmt, roll-GStmt}
use Rattle.mh_design.specs.declared.statement.Branch.{Branch, map-Branch, roll-Branch}
use Rattle.mh_design.specs.declared.statement.GStmt.TheOpen.{GStmt-F, Branch-F}
use Rattle.mh_design.specs.declared.statement.GStmt.TheFolds.{ind-GStmt, fold-roll-GStmt, fold-roll-Branch}
use Rattle.mh_design.specs.Tree as tree
use Rattle.mh_design.specs.Tree.{Operator, Expression, Expressions, LeftBase, LeftSide, Printed, Statement, Block, Arm, Arms, row, block, arms, expression_step, expression_of, base_of, left_of, printed_of, statement_step, arm_step, statement_of, arm_of}

-- ---- expressions

abbrev pub nothing : GExpr
nothing = roll-GExpr GExpr-F.Now

abbrev pub first : List GExpr → GExpr
first [] = nothing
first (x ∷ xs) = x

abbrev pub rest : List GExpr → List GExpr
rest [] = []
rest (x ∷ xs) = xs

-- an operator at its parts
abbrev pub made : Operator → List GExpr → GExpr
made (tree.ElementOf m) xs = roll-GExpr (GExpr-F.Element m (first xs))
made (tree.TableElementOf t) xs = roll-GExpr (GExpr-F.TableElement t (first xs))
made tree.BitOf xs = roll-GExpr (GExpr-F.Bit (first xs) (first (rest xs)))
made tree.SliceOf xs = roll-GExpr (GExpr-F.Slice (first xs) (first (rest xs)) (first (rest (rest xs))))
made (tree.Unary o) xs = roll-GExpr (GExpr-F.Unary o (first xs))
made (tree.Binary o) xs = roll-GExpr (GExpr-F.Binary o (first xs) (first (rest xs)))
made tree.And xs = roll-GExpr (GExpr-F.And (first xs) (first (rest xs)))
made tree.Or xs = roll-GExpr (GExpr-F.Or (first xs) (first (rest xs)))
made tree.Concat xs = roll-GExpr (GExpr-F.Concat xs)
made tree.Signed xs = roll-GExpr (GExpr-F.Signed (first xs))
made tree.ToInt xs = roll-GExpr (GExpr-F.Int (first xs))
made tree.ToBool xs = roll-GExpr (GExpr-F.Bool (first xs))

abbrev mutual
  pub expression_from : Expression → GExpr
  expression_from (tree.Integer z) = roll-GExpr (GExpr-F.Integer z)
  expression_from (tree.Truth b) = roll-GExpr (GExpr-F.Truth b)
  expression_from (tree.Item e i) = roll-GExpr (GExpr-F.Item e i)
  expression_from (tree.Fixed z b) = roll-GExpr (GExpr-F.Fixed z b)
  expression_from (tree.Signal s) = roll-GExpr (GExpr-F.Signal s)
  expression_from (tree.Local v) = roll-GExpr (GExpr-F.Local v)
  expression_from tree.Now = roll-GExpr GExpr-F.Now
  expression_from (tree.Operation o xs) = made o (expressions_from xs)

  pub expressions_from : Expressions → List GExpr
  expressions_from tree.NoMore = []
  expressions_from (tree.More x xs) = expression_from x ∷ expressions_from xs

module _ {A : Type 0} (f : A → GExpr) (same : (a : A) → expression_from (expression_of (f a)) ≡ f a) where
  all_same : (xs : List A) → expressions_from (row (map expression_of (map f xs))) ≡ map f xs
  all_same [] = refl
  all_same (x ∷ xs) = ap₂ (λ y ys. y ∷ ys) (same x) (all_same xs)

  one_same : (g : GExpr → GExpr-F GExpr) (a : A) → roll-GExpr (g (expression_from (expression_of (f a)))) ≡ roll-GExpr (g (f a))
  one_same g a = ap (λ x. roll-GExpr (g x)) (same a)

  two_same : (g : GExpr → GExpr → GExpr-F GExpr) (a b : A) → roll-GExpr (g (expression_from (expression_of (f a))) (expression_from (expression_of (f b)))) ≡ roll-GExpr (g (f a) (f b))
  two_same g a b = ap₂ (λ x y. roll-GExpr (g x y)) (same a) (same b)

  layer : (y : GExpr-F A) → expression_from (expression_step (map-GExpr GExpr Expression expression_of (map-GExpr A GExpr f y))) ≡ roll-GExpr (map-GExpr A GExpr f y)
  layer (GExpr-F.Integer z) = refl
  layer (GExpr-F.Truth b) = refl
  layer (GExpr-F.Item e i) = refl
  layer (GExpr-F.Fixed z b) = refl
  layer (GExpr-F.Signal s) = refl
  layer (GExpr-F.Local v) = refl
  layer (GExpr-F.Element m i) = one_same (λ x. GExpr-F.Element m x) i
  layer (GExpr-F.TableElement t i) = one_same (λ x. GExpr-F.TableElement t x) i
  layer (GExpr-F.Bit a i) = two_same (λ x y. GExpr-F.Bit x y) a i
  layer (GExpr-F.Slice a i j) =
      two_same (λ x y. GExpr-F.Slice x y (expression_from (expression_of (f j)))) a i ∙ ap (λ z. roll-GExpr (GExpr-F.Slice (f a) (f i) z)) (same j)
  layer (GExpr-F.Unary o a) = one_same (λ x. GExpr-F.Unary o x) a
  layer (GExpr-F.Binary o a b) = two_same (λ x y. GExpr-F.Binary o x y) a b
  layer (GExpr-F.And a b) = two_same (λ x y. GExpr-F.And x y) a b
  layer (GExpr-F.Or a b) = two_same (λ x y. GExpr-F.Or x y) a b
  layer (GExpr-F.Concat xs) = ap (λ ys. roll-GExpr (GExpr-F.Concat ys)) (all_same xs)
  layer (GExpr-F.Signed a) = one_same (λ x. GExpr-F.Signed x) a
  layer (GExpr-F.Int a) = one_same (λ x. GExpr-F.Int x) a
  layer (GExpr-F.Bool a) = one_same (λ x. GExpr-F.Bool x) a
  layer GExpr-F.Now = refl

abbrev IsBack : GExpr → Type 0
IsBack e = expression_from (expression_of e) ≡ e

pub expression_back : (e : GExpr) → IsBack e
unfolding expression_of
expression_back = ind-GExpr IsBack
    (λ x y is. ap expression_from (fold-roll-GExpr Expression expression_step x)
    ∙ subst (λ z. expression_from (expression_step (map-GExpr GExpr Expression expression_of z)) ≡ roll-GExpr z) is (layer (λ e. e.0) (λ e. e.1) y))

-- ---- statements

abbrev pub base_from : LeftBase → Place
base_from (tree.LeftSignal s) = place.Signal s
base_from (tree.LeftElement m i) = place.Element m (expression_from i)
base_from (tree.LeftLocal v) = place.Local v

abbrev pub left_from : LeftSide → Target
left_from (tree.Whole b) = target.Whole (base_from b)
left_from (tree.LeftBit b i) = target.Bit (base_from b) (expression_from i)
left_from (tree.LeftSlice b i j) = target.Slice (base_from b) (expression_from i) (expression_from j)
left_from (tree.Bind v k) = target.Bind v k

abbrev pub printed_from : Printed → PrintPart
printed_from (tree.Words t) = print.Text t
printed_from (tree.Number e) = print.Number (expression_from e)

base_back : (p : Place) → base_from (base_of p) ≡ p
base_back (place.Signal s) = refl
base_back (place.Element m i) = ap (place.Element m) (expression_back i)
base_back (place.Local v) = refl

left_back : (t : Target) → left_from (left_of t) ≡ t
left_back (target.Whole p) = ap target.Whole (base_back p)
left_back (target.Bit p i) = ap₂ target.Bit (base_back p) (expression_back i)
left_back (target.Slice p i j) = ap₂ (λ x y. target.Slice x y (expression_from (expression_of j))) (base_back p) (expression_back i) ∙ ap (target.Slice p i) (expression_back j)
left_back (target.Bind v k) = refl

printed_back : (p : PrintPart) → printed_from (printed_of p) ≡ p
printed_back (print.Text t) = refl
printed_back (print.Number e) = ap print.Number (expression_back e)

all_printed_back : (ps : List PrintPart) → map printed_from (map printed_of ps) ≡ ps
all_printed_back [] = refl
all_printed_back (p ∷ ps) = ap₂ (λ x xs. x ∷ xs) (printed_back p) (all_printed_back ps)

abbrev mutual
  pub statement_from : Statement → GStmt
  statement_from (tree.Set l t e) = roll-GStmt (GStmt-F.Set l (left_from t) (expression_from e))
  statement_from (tree.If l bs other) = roll-GStmt (GStmt-F.If l (arms_from bs) (block_from other))
  statement_from (tree.While l e b) = roll-GStmt (GStmt-F.While l (expression_from e) (block_from b))
  statement_from (tree.For l v d a z s b) = roll-GStmt (GStmt-F.For l v d (expression_from a) (expression_from z) s (block_from b))
  statement_from (tree.Break l) = roll-GStmt (GStmt-F.Break l)
  statement_from (tree.Continue l) = roll-GStmt (GStmt-F.Continue l)
  statement_from (tree.Yield l ws) = roll-GStmt (GStmt-F.Yield l ws)
  statement_from (tree.Print l ps) = roll-GStmt (GStmt-F.Print l (map printed_from ps))
  statement_from (tree.Assert l e) = roll-GStmt (GStmt-F.Assert l (expression_from e))
  statement_from (tree.Stop l) = roll-GStmt (GStmt-F.Stop l)

  pub block_from : Block → List GStmt
  block_from tree.End = []
  block_from (tree.Then s b) = statement_from s ∷ block_from b

  pub arm_from : Arm → Branch
  arm_from (tree.ArmOf e b) = roll-Branch (record { test = expression_from e; body = block_from b })

  pub arms_from : Arms → List Branch
  arms_from tree.NoArm = []
  arms_from (tree.MoreArms a rs) = arm_from a ∷ arms_from rs

module _ {A B : Type 0} (f : A → GStmt) (g : B → Branch) (same : (a : A) → statement_from (statement_of (f a)) ≡ f a) (arm_same : (b : B) → arm_from (arm_of (g b)) ≡ g b) where
  block_same : (xs : List A) → block_from (block (map statement_of (map f xs))) ≡ map f xs
  block_same [] = refl
  block_same (x ∷ xs) = ap₂ (λ y ys. y ∷ ys) (same x) (block_same xs)

  arms_same : (bs : List B) → arms_from (arms (map arm_of (map g bs))) ≡ map g bs
  arms_same [] = refl
  arms_same (b ∷ bs) = ap₂ (λ y ys. y ∷ ys) (arm_same b) (arms_same bs)

  statement_layer : (y : GStmt-F A B) → statement_from (statement_step (map-GStmt GStmt Branch Statement Arm statement_of arm_of (map-GStmt A B GStmt Branch f g y))) ≡ roll-GStmt (map-GStmt A B GStmt Branch f g y)
  statement_layer (GStmt-F.Set l t e) = ap₂ (λ x y. roll-GStmt (GStmt-F.Set l x y)) (left_back t) (expression_back e)
  statement_layer (GStmt-F.If l bs other) = ap₂ (λ x y. roll-GStmt (GStmt-F.If l x y)) (arms_same bs) (block_same other)
  statement_layer (GStmt-F.While l e b) = ap₂ (λ x y. roll-GStmt (GStmt-F.While l x y)) (expression_back e) (block_same b)
  statement_layer (GStmt-F.For l v d a z s b) =
      ap₂ (λ x y. roll-GStmt (GStmt-F.For l v d x y s (block_from (block (map statement_of (map f b)))))) (expression_back a) (expression_back z)
      ∙ ap (λ y. roll-GStmt (GStmt-F.For l v d a z s y)) (block_same b)
  statement_layer (GStmt-F.Break l) = refl
  statement_layer (GStmt-F.Continue l) = refl
  statement_layer (GStmt-F.Yield l ws) = refl
  statement_layer (GStmt-F.Print l ps) = ap (λ x. roll-GStmt (GStmt-F.Print l x)) (all_printed_back ps)
  statement_layer (GStmt-F.Assert l e) = ap (λ x. roll-GStmt (GStmt-F.Assert l x)) (expression_back e)
  statement_layer (GStmt-F.Stop l) = refl

  arm_layer : (y : Branch-F A B) → arm_from (arm_step (map-Branch GStmt Branch Statement Arm statement_of arm_of (map-Branch A B GStmt Branch f g y))) ≡ roll-Branch (map-Branch A B GStmt Branch f g y)
  arm_layer y = ap₂ (λ x z. roll-Branch (record { test = x; body = z })) (expression_back y.test) (block_same y.body)

abbrev IsStatementBack : GStmt → Type 0
IsStatementBack s = statement_from (statement_of s) ≡ s

abbrev IsArmBack : Branch → Type 0
IsArmBack b = arm_from (arm_of b) ≡ b

pub statement_back : (s : GStmt) → IsStatementBack s
unfolding statement_of arm_of
statement_back = ind-GStmt IsStatementBack IsArmBack
    (λ x y is. ap statement_from (fold-roll-GStmt Statement Arm statement_step arm_step x)
    ∙ subst (λ z. statement_from (statement_step (map-GStmt GStmt Branch Statement Arm statement_of arm_of z)) ≡ roll-GStmt z) is (statement_layer (λ e. e.0) (λ e. e.0) (λ e. e.1) (λ e. e.1) y))
    (λ x y is. ap arm_from (fold-roll-Branch Statement Arm statement_step arm_step x)
    ∙ subst (λ z. arm_from (arm_step (map-Branch GStmt Branch Statement Arm statement_of arm_of z)) ≡ roll-Branch z) is (arm_layer (λ e. e.0) (λ e. e.0) (λ e. e.1) (λ e. e.1) y))

pub block_back : (ss : List GStmt) → block_from (block (map statement_of ss)) ≡ ss
block_back [] = refl
block_back (s ∷ ss) = ap₂ (λ x xs. x ∷ xs) (statement_back s) (block_back ss)
