-- The expressions and statements of a generator, numbered: each has its place in these lists, and stands before its parts, in
-- order of text. This is this project's own.
use Rattle.std.specs.Prelude.{List, [], ◌∷◌, ◌++◌, map}
use Rattle.std.specs.List.{flat_map}
use Rattle.mh_design.specs.declared.design.Generator.{Generator}
use Rattle.mh_design.specs.Tree.{Expression, Expressions, Operation, NoMore, More, LeftBase, LeftSignal, LeftElement, LeftLocal, LeftSide, Whole, LeftBit, LeftSlice, Bind, Printed, Words, Number, Statement, Set, If, While, For, Break, Continue, Yield, Print, Assert, Stop, Block, End, Then, Arm, ArmOf, Arms, NoArm, MoreArms, block, statement_of}

-- The plain form of a generator's body.
abbrev pub body_of : Generator → Block
body_of g = block (map statement_of g.body)

-- An expression and all its parts.
abbrev mutual
  pub expressions : Expression → List Expression
  expressions (Operation o xs) = Operation o xs ∷ all_expressions xs
  expressions e = e ∷ []

  pub all_expressions : Expressions → List Expression
  all_expressions NoMore = []
  all_expressions (More x xs) = expressions x ++ all_expressions xs

-- The indices on the left of an assignment, in order of text.
abbrev pub base_indices : LeftBase → List Expression
base_indices (LeftSignal s) = []
base_indices (LeftElement m i) = i ∷ []
base_indices (LeftLocal v) = []

abbrev pub left_indices : LeftSide → List Expression
left_indices (Whole b) = base_indices b
left_indices (LeftBit b i) = base_indices b ++ i ∷ []
left_indices (LeftSlice b i j) = base_indices b ++ i ∷ j ∷ []
left_indices (Bind v k) = []

abbrev pub printed_numbers : Printed → List Expression
printed_numbers (Words t) = []
printed_numbers (Number e) = e ∷ []

abbrev pub arm_test : Arm → Expression
arm_test (ArmOf e b) = e

abbrev pub arm_tests : Arms → List Expression
arm_tests NoArm = []
arm_tests (MoreArms r rs) = arm_test r ∷ arm_tests rs

-- The expressions of a statement itself, without those of the statements that it holds.
abbrev pub own_expressions : Statement → List Expression
own_expressions (Set l t e) = left_indices t ++ e ∷ []
own_expressions (If l rs other) = arm_tests rs
own_expressions (While l e b) = e ∷ []
own_expressions (For l v d a z s b) = a ∷ z ∷ []
own_expressions (Break l) = []
own_expressions (Continue l) = []
own_expressions (Yield l ws) = []
own_expressions (Print l ps) = flat_map printed_numbers ps
own_expressions (Assert l e) = e ∷ []
own_expressions (Stop l) = []

-- All expressions of statements.
abbrev mutual
  pub statement_expressions : Statement → List Expression
  statement_expressions (If l rs other) = arms_expressions rs ++ block_expressions other
  statement_expressions (While l e b) = expressions e ++ block_expressions b
  statement_expressions (For l v d a z s b) = (expressions a ++ expressions z) ++ block_expressions b
  statement_expressions s = flat_map expressions (own_expressions s)

  pub block_expressions : Block → List Expression
  block_expressions End = []
  block_expressions (Then s b) = statement_expressions s ++ block_expressions b

  pub arm_expressions : Arm → List Expression
  arm_expressions (ArmOf e b) = expressions e ++ block_expressions b

  pub arms_expressions : Arms → List Expression
  arms_expressions NoArm = []
  arms_expressions (MoreArms a rs) = arm_expressions a ++ arms_expressions rs

-- A statement and all that it holds.
abbrev mutual
  pub statements : Statement → List Statement
  statements (If l rs other) = If l rs other ∷ (arms_statements rs ++ block_statements other)
  statements (While l e b) = While l e b ∷ block_statements b
  statements (For l v d a z s b) = For l v d a z s b ∷ block_statements b
  statements s = s ∷ []

  pub block_statements : Block → List Statement
  block_statements End = []
  block_statements (Then s b) = statements s ++ block_statements b

  pub arm_statements : Arm → List Statement
  arm_statements (ArmOf e b) = block_statements b

  pub arms_statements : Arms → List Statement
  arms_statements NoArm = []
  arms_statements (MoreArms a rs) = arm_statements a ++ arms_statements rs

-- The expressions of a generator: the number of one is its place in this list.
abbrev pub generator_expressions : Generator → List Expression
generator_expressions g = block_expressions (body_of g)

-- The statements of a generator.
abbrev pub generator_statements : Generator → List Statement
generator_statements g = block_statements (body_of g)
