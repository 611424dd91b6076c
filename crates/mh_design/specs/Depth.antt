-- How deep a body is. A statement, an operator, an index, a call and a leaf are each one level deeper than what holds them; an
-- `elif` is no deeper than its `if`. This is this project's own.
use Rattle.std.specs.Prelude.{ℕ, Bool, true, ◌-◌, ◌&&◌, nat_lt, List}
use Rattle.std.specs.List.{list_all}
use Rattle.mh_design.specs.Tree.{Expression, Expressions, Integer, Truth, Item, Fixed, Signal, Local, Now, Operation, NoMore, More, LeftBase, LeftSignal, LeftElement, LeftLocal, LeftSide, Whole, LeftBit, LeftSlice, Bind, Printed, Words, Number, Statement, Set, If, While, For, Break, Continue, Yield, Print, Assert, Stop, Block, End, Then, Arm, ArmOf, Arms, NoArm, MoreArms}

-- The expression has at most n levels.
abbrev mutual
  pub is_within : Expression → ℕ → Bool
  is_within (Operation o xs) n = nat_lt 0 n && are_within xs (n - 1)
  is_within e n = nat_lt 0 n

  pub are_within : Expressions → ℕ → Bool
  are_within NoMore n = true
  are_within (More x xs) n = is_within x n && are_within xs n

abbrev pub base_is_within : LeftBase → ℕ → Bool
base_is_within (LeftSignal s) n = true
base_is_within (LeftElement m i) n = is_within i n
base_is_within (LeftLocal v) n = true

abbrev pub left_is_within : LeftSide → ℕ → Bool
left_is_within (Whole b) n = base_is_within b n
left_is_within (LeftBit b i) n = base_is_within b n && is_within i n
left_is_within (LeftSlice b i j) n = base_is_within b n && (is_within i n && is_within j n)
left_is_within (Bind v k) n = true

abbrev pub printed_is_within : ℕ → Printed → Bool
printed_is_within n (Words t) = true
printed_is_within n (Number e) = is_within e n

-- The statements of the block have at most n levels.
abbrev mutual
  pub statement_is_within : Statement → ℕ → Bool
  statement_is_within (Set l t e) n = nat_lt 0 n && (left_is_within t (n - 1) && is_within e (n - 1))
  statement_is_within (If l rs other) n = nat_lt 0 n && (arms_are_within rs (n - 1) && block_is_within other (n - 1))
  statement_is_within (While l e b) n = nat_lt 0 n && (is_within e (n - 1) && block_is_within b (n - 1))
  statement_is_within (For l v d a z s b) n = nat_lt 0 n && ((is_within a (n - 1) && is_within z (n - 1)) && block_is_within b (n - 1))
  statement_is_within (Print l ps) n = nat_lt 0 n && list_all (printed_is_within (n - 1)) ps
  statement_is_within (Assert l e) n = nat_lt 0 n && is_within e (n - 1)
  statement_is_within s n = nat_lt 0 n

  pub block_is_within : Block → ℕ → Bool
  block_is_within End n = true
  block_is_within (Then s b) n = statement_is_within s n && block_is_within b n

  pub arm_is_within : Arm → ℕ → Bool
  arm_is_within (ArmOf e b) n = is_within e n && block_is_within b n

  pub arms_are_within : Arms → ℕ → Bool
  arms_are_within NoArm n = true
  arms_are_within (MoreArms a rs) n = arm_is_within a n && arms_are_within rs n
