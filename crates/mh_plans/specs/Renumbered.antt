-- A design numbers its own signals, memories and tables. What was read of a generator names those of the
-- whole elaboration; here it gets the numbers of the design.
use Rattle.std.specs.Prelude.{ℕ, Bool, List, [], ◌∷◌, map, Option, Some, None, nat_eq, position}
use Rattle.std.specs.Option.{option_map, option_map_or}
use Rattle.mh_design.specs.declared.design.Wait.{Wait}
use Rattle.mh_design.specs.declared.design.Wait.TheVariants as wait
use Rattle.mh_design.specs.declared.design.GenKind.{GenKind}
use Rattle.mh_design.specs.declared.design.GenKind.TheVariants as generator
use Rattle.mh_design.specs.Tree.{Expression, Expressions, Operator, Integer, Truth, Item, Fixed, Signal, Local, Now, Operation, NoMore, More, ElementOf, TableElementOf, LeftBase, LeftSignal, LeftElement, LeftLocal, LeftSide, Whole, LeftBit, LeftSlice, Bind, Printed, Words, Number, Statement, Set, If, While, For, Break, Continue, Yield, Print, Assert, Stop, Block, End, Then, Arm, ArmOf, Arms, NoArm, MoreArms}

-- the signals, memories and tables of a design, in its order, by their numbers in the elaboration
pub record Chosen : Type 0 where
  pub signals : List ℕ
  pub mems : List ℕ
  pub tables : List ℕ

-- the place of a number among those that were chosen
abbrev pub number_in : List ℕ → ℕ → ℕ
number_in ns n = option_map_or (λ i. i) (position (λ m. nat_eq m n) ns) 0

abbrev pub operator_in : Chosen → Operator → Operator
operator_in k (ElementOf m) = ElementOf (number_in k.mems m)
operator_in k (TableElementOf t) = TableElementOf (number_in k.tables t)
operator_in k o = o

abbrev mutual
  pub expression_in : Chosen → Expression → Expression
  expression_in k (Signal n) = Signal (number_in k.signals n)
  expression_in k (Operation o xs) = Operation (operator_in k o) (expressions_in k xs)
  expression_in k (Integer z) = Integer z
  expression_in k (Truth b) = Truth b
  expression_in k (Item e i) = Item e i
  expression_in k (Fixed z b) = Fixed z b
  expression_in k (Local v) = Local v
  expression_in k Now = Now

  pub expressions_in : Chosen → Expressions → Expressions
  expressions_in k NoMore = NoMore
  expressions_in k (More x xs) = More (expression_in k x) (expressions_in k xs)

abbrev pub base_in : Chosen → LeftBase → LeftBase
base_in k (LeftSignal n) = LeftSignal (number_in k.signals n)
base_in k (LeftElement m i) = LeftElement (number_in k.mems m) (expression_in k i)
base_in k (LeftLocal v) = LeftLocal v

abbrev pub left_in : Chosen → LeftSide → LeftSide
left_in k (Whole b) = Whole (base_in k b)
left_in k (LeftBit b i) = LeftBit (base_in k b) (expression_in k i)
left_in k (LeftSlice b i j) = LeftSlice (base_in k b) (expression_in k i) (expression_in k j)
left_in k (Bind v n) = Bind v n

abbrev pub printed_in : Chosen → Printed → Printed
printed_in k (Words t) = Words t
printed_in k (Number e) = Number (expression_in k e)

abbrev pub wait_in : Chosen → Wait → Wait
wait_in k (wait.Change n) = wait.Change (number_in k.signals n)
wait_in k (wait.Edge n up) = wait.Edge (number_in k.signals n) up
wait_in k (wait.Delay n) = wait.Delay n

abbrev mutual
  pub statement_in : Chosen → Statement → Statement
  statement_in k (Set l t e) = Set l (left_in k t) (expression_in k e)
  statement_in k (If l rs other) = If l (arms_in k rs) (block_in k other)
  statement_in k (While l e b) = While l (expression_in k e) (block_in k b)
  statement_in k (For l v down a z step b) = For l v down (expression_in k a) (expression_in k z) step (block_in k b)
  statement_in k (Break l) = Break l
  statement_in k (Continue l) = Continue l
  statement_in k (Yield l ws) = Yield l (map (wait_in k) ws)
  statement_in k (Print l ps) = Print l (map (printed_in k) ps)
  statement_in k (Assert l e) = Assert l (expression_in k e)
  statement_in k (Stop l) = Stop l

  pub block_in : Chosen → Block → Block
  block_in k End = End
  block_in k (Then s b) = Then (statement_in k s) (block_in k b)

  pub arm_in : Chosen → Arm → Arm
  arm_in k (ArmOf e b) = ArmOf (expression_in k e) (block_in k b)

  pub arms_in : Chosen → Arms → Arms
  arms_in k NoArm = NoArm
  arms_in k (MoreArms r rs) = MoreArms (arm_in k r) (arms_in k rs)

abbrev pub kind_in : Chosen → GenKind → GenKind
kind_in k generator.Comb = generator.Comb
kind_in k (generator.Always ws) = generator.Always (map (wait_in k) ws)
kind_in k (generator.Seq w r) = generator.Seq (wait_in k w) (option_map (number_in k.signals) r)
kind_in k generator.Instance = generator.Instance
