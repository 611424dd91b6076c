-- The code of a body: an instruction for each statement, in order of text.
use Rattle.std.specs.Prelude.{ℕ, suc, max, ◌+◌, ◌<◌, ◌^◌, List, [], ◌∷◌, ◌++◌, ◌≡◌, length}
use Rattle.mh_flat.specs.declared.code.Position.{Position}
use Rattle.mh_flat.specs.declared.code.Operation.{Operation}
use Rattle.mh_flat.specs.declared.code.Operation.TheVariants.{Assign, Branch, Repeat, Iterate, Suspend, Report, Assert, Finish, Jump}
use Rattle.mh_flat.specs.declared.code.Instruction.{Instruction}
use Rattle.mh_flat.specs.declared.code.Code.{Code}
use Rattle.mh_flow.specs.Flow.{Statement, Block, SetStatement, IfStatement, WhileStatement, CountStatement, WaitStatement, SayStatement, CheckStatement, StopStatement, BreakStatement, ContinueStatement, End, Then, size, block_size, block_items}
use Rattle.mh_flat.specs.declared.code.State.{State}
use Rattle.mh_flat.specs.Stands.{begun, first, HasBlock, end, StandsFor}

-- How deep the counted loops of a statement or a block are nested.
abbrev mutual
  pub nesting : {E P : Type 0} → Statement E P → ℕ
  nesting (SetStatement p e) = 0
  nesting (IfStatement e a b) = max (block_nesting a) (block_nesting b)
  nesting (WhileStatement e b) = block_nesting b
  nesting (CountStatement p x y z b) = suc (block_nesting b)
  nesting (WaitStatement w) = 0
  nesting (SayStatement w) = 0
  nesting (CheckStatement e) = 0
  nesting StopStatement = 0
  nesting BreakStatement = 0
  nesting ContinueStatement = 0

  pub block_nesting : {E P : Type 0} → Block E P → ℕ
  block_nesting End = 0
  block_nesting (Then t b) = max (nesting t) (block_nesting b)

-- One instruction.
abbrev pub instruction : {L E P V S F : Type 0} → Operation L E P V S F → Position → Instruction L E P V S F
instruction operation after = record { operation = operation; after = after }

-- The instructions of a statement or a block whose first has place k, where the positions are given that
-- follow it, a break in it and a continue in it, and the number d of counted loops around it.
abbrev mutual
  pub instructions_of : {L E P V S F : Type 0} → Statement E P → ℕ → (after leave again : Position) → ℕ → List (Instruction L E P V S F)
  instructions_of (SetStatement p e) k after leave again d = instruction (Assign p e) after ∷ []
  instructions_of (IfStatement e a b) k after leave again d =
      instruction (Branch e (first (k + 1) a after) (first (k + 1 + block_size a) b after)) after ∷
      (block_instructions a (k + 1) after leave again d ++ block_instructions b (k + 1 + block_size a) after leave again d)
  instructions_of (WhileStatement e b) k after leave again d =
      instruction (Repeat e (first (k + 1) b (begun k))) after ∷ block_instructions b (k + 1) (begun k) after (begun k) d
  instructions_of (CountStatement p x y z b) k after leave again d =
      instruction (Iterate p x y z d (first (k + 1) b (begun k))) after ∷ block_instructions b (k + 1) (begun k) after (begun k) (suc d)
  instructions_of (WaitStatement w) k after leave again d = instruction (Suspend w) after ∷ []
  instructions_of (SayStatement w) k after leave again d = instruction (Report w) after ∷ []
  instructions_of (CheckStatement e) k after leave again d = instruction (Assert e) after ∷ []
  instructions_of StopStatement k after leave again d = instruction Finish after ∷ []
  instructions_of BreakStatement k after leave again d = instruction Jump leave ∷ []
  instructions_of ContinueStatement k after leave again d = instruction Jump again ∷ []

  pub block_instructions : {L E P V S F : Type 0} → Block E P → ℕ → (after leave again : Position) → ℕ → List (Instruction L E P V S F)
  block_instructions End k after leave again d = []
  block_instructions (Then t b) k after leave again d =
      instructions_of t k (first (k + size t) b after) leave again d ++ block_instructions b (k + size t) after leave again d

-- The code is that of the body: as many instructions as statements, which are those of the body from place 0
-- on, and a depth that is the nesting of its counted loops.
pub record IsCodeOf {L E P V S F : Type 0} (b : Block E P) (c : Code L E P V S F) : Type 0 where
  pub small : length c.instructions.items < 2 ^ 32
  pub long : length c.instructions.items ≡ block_size b
  pub deep : c.depth ≡ block_nesting b
  pub has : HasBlock c.instructions.items c.depth b 0 (end c.instructions.items c.depth) (end c.instructions.items c.depth) (end c.instructions.items c.depth) 0

-- The state stands for the whole body, has exactly the room for its counters, and has counted nothing.
pub record Starts {L E P V S F : Type 0} (c : Code L E P V S F) (st : State) : Type 0 where
  pub left : (b : Block E P) → IsCodeOf b c → StandsFor c (block_items 0 b []) st
  pub room : (b : Block E P) → IsCodeOf b c → length st.counters.items ≡ block_nesting b
  pub count : st.count ≡ 0
