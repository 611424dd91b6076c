-- The longest list of waits of a `yield`, statement by statement. It serves proofs: it is `longest` of `mh_design` over a tree.
use Rattle.std.specs.Prelude.{ℕ, max, length}
use Rattle.mh_design.specs.Tree.{Statement, Set, If, While, For, Break, Continue, Yield, Print, Assert, Stop, Block, End, Then, Arm, ArmOf, Arms, NoArm, MoreArms}

abbrev mutual
  pub yield_room : Statement → ℕ
  yield_room (Set l t e) = 0
  yield_room (If l rs other) = max (arms_room rs) (block_room other)
  yield_room (While l e b) = block_room b
  yield_room (For l v down a z s b) = block_room b
  yield_room (Break l) = 0
  yield_room (Continue l) = 0
  yield_room (Yield l ws) = length ws
  yield_room (Print l ps) = 0
  yield_room (Assert l e) = 0
  yield_room (Stop l) = 0

  pub block_room : Block → ℕ
  block_room End = 0
  block_room (Then s b) = max (yield_room s) (block_room b)

  pub arm_room : Arm → ℕ
  arm_room (ArmOf e b) = block_room b

  pub arms_room : Arms → ℕ
  arms_room NoArm = 0
  arms_room (MoreArms r rs) = max (arm_room r) (arms_room rs)
