-- The trees of generators as plain data, over which every definition goes by cases. They have the variants of `GExpr` and
-- `GStmt`, with one form for all that works on the values of parts. These are this project's own.
use Rattle.std.specs.Prelude.{ℕ, ℤ, Bool, List, [], ◌∷◌, map}
use Rattle.mh_num.specs.declared.bounds.Bounds.{Bounds}
use Rattle.mh_design.specs.declared.design.Wait.{Wait}
use Rattle.mh_design.specs.declared.expression.UnaryOp.{UnaryOp}
use Rattle.mh_design.specs.declared.expression.BinaryOp.{BinaryOp}
use Rattle.mh_design.specs.declared.expression.GExpr.{GExpr}
use Rattle.mh_design.specs.declared.expression.GExpr.TheOpen.{GExpr-F}
use Rattle.mh_design.specs.declared.expression.GExpr.TheFolds.{fold-GExpr}
use Rattle.mh_design.specs.declared.statement.Binding.{Binding}
use Rattle.mh_design.specs.declared.statement.Place.{Place}
use Rattle.mh_design.specs.declared.statement.Place.TheVariants as place
use Rattle.mh_design.specs.declared.statement.Target.{Target}
use Rattle.mh_design.specs.declared.statement.Target.TheVariants as target
use Rattle.mh_design.specs.declared.statement.PrintPart.{PrintPart}
use Rattle.mh_design.specs.declared.statement.PrintPart.TheVariants as print
use Rattle.mh_design.specs.declared.statement.GStmt.{GStmt}
use Rattle.mh_design.specs.declared.statement.GStmt.TheOpen.{GStmt-F, Branch-F}
use Rattle.mh_design.specs.declared.statement.GStmt.TheFolds.{fold-GStmt, fold-Branch}
use Rattle.mh_design.specs.declared.statement.Branch.{Branch}

-- What works on the values of its parts, which stand in order of text.
pub data Operator : Type 0 where
  ElementOf : (mem : ℕ) → Operator  -- an index
  TableElementOf : (table : ℕ) → Operator  -- an index
  BitOf : Operator  -- a base and an index
  SliceOf : Operator  -- a base, the upper end and the lower end
  Unary : UnaryOp → Operator
  Binary : BinaryOp → Operator
  And : Operator
  Or : Operator
  Concat : Operator
  Signed : Operator
  ToInt : Operator
  ToBool : Operator

mutual
  pub data Expression : Type 0 where
    Integer : (value : ℤ) → Expression
    Truth : (value : Bool) → Expression
    Item : (enum item : ℕ) → Expression
    Fixed : (value : ℤ) (bounds : Bounds) → Expression
    Signal : (signal : ℕ) → Expression
    Local : (local : ℕ) → Expression
    Now : Expression
    Operation : (operator : Operator) (parts : Expressions) → Expression

  pub data Expressions : Type 0 where
    NoMore : Expressions
    More : Expression → Expressions → Expressions

-- what is assigned, or a part of which is
pub data LeftBase : Type 0 where
  LeftSignal : (signal : ℕ) → LeftBase
  LeftElement : (mem : ℕ) (index : Expression) → LeftBase
  LeftLocal : (local : ℕ) → LeftBase

pub data LeftSide : Type 0 where
  Whole : LeftBase → LeftSide
  LeftBit : LeftBase → (index : Expression) → LeftSide
  LeftSlice : LeftBase → (upper lower : Expression) → LeftSide
  Bind : (local : ℕ) → Binding → LeftSide

pub data Printed : Type 0 where
  Words : (text : List ℕ) → Printed
  Number : Expression → Printed

mutual
  pub data Statement : Type 0 where
    Set : (line : ℕ) (left : LeftSide) (value : Expression) → Statement
    If : (line : ℕ) (arms : Arms) (other : Block) → Statement
    While : (line : ℕ) (test : Expression) (body : Block) → Statement
    For : (line variable : ℕ) (down : Bool) (from to : Expression) (step : ℤ) (body : Block) → Statement
    Break : (line : ℕ) → Statement
    Continue : (line : ℕ) → Statement
    Yield : (line : ℕ) (waits : List Wait) → Statement
    Print : (line : ℕ) (parts : List Printed) → Statement
    Assert : (line : ℕ) (test : Expression) → Statement
    Stop : (line : ℕ) → Statement

  pub data Block : Type 0 where
    End : Block
    Then : Statement → Block → Block

  -- a condition and what is executed where it holds
  pub data Arm : Type 0 where
    ArmOf : (test : Expression) (body : Block) → Arm

  pub data Arms : Type 0 where
    NoArm : Arms
    MoreArms : Arm → Arms → Arms

abbrev pub row : List Expression → Expressions
row [] = NoMore
row (x ∷ xs) = More x (row xs)

abbrev pub one : Expression → Expressions
one a = More a NoMore

abbrev pub two : Expression → Expression → Expressions
two a b = More a (one b)

abbrev pub three : Expression → Expression → Expression → Expressions
three a b c = More a (two b c)

abbrev pub block : List Statement → Block
block [] = End
block (x ∷ xs) = Then x (block xs)

abbrev pub arms : List Arm → Arms
arms [] = NoArm
arms (x ∷ xs) = MoreArms x (arms xs)

-- The plain form of an expression.

abbrev pub expression_step : GExpr-F Expression → Expression
expression_step (GExpr-F.Integer z) = Integer z
expression_step (GExpr-F.Truth b) = Truth b
expression_step (GExpr-F.Item e i) = Item e i
expression_step (GExpr-F.Fixed z b) = Fixed z b
expression_step (GExpr-F.Signal s) = Signal s
expression_step (GExpr-F.Local v) = Local v
expression_step (GExpr-F.Element m i) = Operation (ElementOf m) (one i)
expression_step (GExpr-F.TableElement t i) = Operation (TableElementOf t) (one i)
expression_step (GExpr-F.Bit a i) = Operation BitOf (two a i)
expression_step (GExpr-F.Slice a i j) = Operation SliceOf (three a i j)
expression_step (GExpr-F.Unary o a) = Operation (Unary o) (one a)
expression_step (GExpr-F.Binary o a b) = Operation (Binary o) (two a b)
expression_step (GExpr-F.And a b) = Operation And (two a b)
expression_step (GExpr-F.Or a b) = Operation Or (two a b)
expression_step (GExpr-F.Concat xs) = Operation Concat (row xs)
expression_step (GExpr-F.Signed a) = Operation Signed (one a)
expression_step (GExpr-F.Int a) = Operation ToInt (one a)
expression_step (GExpr-F.Bool a) = Operation ToBool (one a)
expression_step GExpr-F.Now = Now

unfoldable pub expression_of : GExpr → Expression
expression_of = fold-GExpr Expression expression_step

-- The plain form of a statement.

abbrev pub base_of : Place → LeftBase
base_of (place.Signal s) = LeftSignal s
base_of (place.Element m i) = LeftElement m (expression_of i)
base_of (place.Local v) = LeftLocal v

abbrev pub left_of : Target → LeftSide
left_of (target.Whole p) = Whole (base_of p)
left_of (target.Bit p i) = LeftBit (base_of p) (expression_of i)
left_of (target.Slice p i j) = LeftSlice (base_of p) (expression_of i) (expression_of j)
left_of (target.Bind v b) = Bind v b

abbrev pub printed_of : PrintPart → Printed
printed_of (print.Text t) = Words t
printed_of (print.Number e) = Number (expression_of e)

abbrev pub statement_step : GStmt-F Statement Arm → Statement
statement_step (GStmt-F.Set l t e) = Set l (left_of t) (expression_of e)
statement_step (GStmt-F.If l bs other) = If l (arms bs) (block other)
statement_step (GStmt-F.While l e b) = While l (expression_of e) (block b)
statement_step (GStmt-F.For l v d a z s b) = For l v d (expression_of a) (expression_of z) s (block b)
statement_step (GStmt-F.Break l) = Break l
statement_step (GStmt-F.Continue l) = Continue l
statement_step (GStmt-F.Yield l ws) = Yield l ws
statement_step (GStmt-F.Print l ps) = Print l (map printed_of ps)
statement_step (GStmt-F.Assert l e) = Assert l (expression_of e)
statement_step (GStmt-F.Stop l) = Stop l

abbrev pub arm_step : Branch-F Statement Arm → Arm
arm_step b = ArmOf (expression_of b.test) (block b.body)

unfoldable pub statement_of : GStmt → Statement
statement_of = fold-GStmt Statement Arm statement_step arm_step

unfoldable pub arm_of : Branch → Arm
arm_of = fold-Branch Statement Arm statement_step arm_step
