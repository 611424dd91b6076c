-- How far each statement of a body reaches, in order of text: what `flatten` measures before it makes the
-- code, once for the whole body.
use Rattle.std.specs.Prelude.{ℕ, ◌+◌, ◌≡◌, List, [], ◌∷◌, ◌++◌, Some, slice_get}
use Rattle.mh_flat.specs.declared.code.Extent.{Extent}
use Rattle.mh_flow.specs.Flow.{Statement, Block, SetStatement, IfStatement, WhileStatement, CountStatement, WaitStatement, SayStatement, CheckStatement, StopStatement, BreakStatement, ContinueStatement, End, Then, size, block_size}

-- The second list stands in the first from place k on.
abbrev pub HasAt : {A : Type 0} → List A → ℕ → List A → Type 0
HasAt xs k [] = Unit {0}
HasAt xs k (y ∷ ys) = (slice_get xs k ≡ Some y) × HasAt xs (k + 1) ys

abbrev pub extent : ℕ → ℕ → Extent
extent front whole = record { front = front; whole = whole }

-- How many statements a statement is without its else part.
abbrev pub front : {E P : Type 0} → Statement E P → ℕ
front (IfStatement e a b) = 1 + block_size a
front (WhileStatement e b) = 1 + block_size b
front (CountStatement p x y z b) = 1 + block_size b
front t = 1

-- What is kept of the size of the first statement of an else part, where the block that follows it is given:
-- 0 where it is the only statement, since nothing follows it there.
abbrev pub whole_in_else : {E P : Type 0} → Statement E P → Block E P → ℕ
whole_in_else t End = 0
whole_in_else t (Then u b) = size t

abbrev mutual
  -- The extents of the statements that a statement holds.
  pub inner_extents : {E P : Type 0} → Statement E P → List Extent
  inner_extents (SetStatement p e) = []
  inner_extents (IfStatement e a b) = block_extents a ++ else_extents b
  inner_extents (WhileStatement e b) = block_extents b
  inner_extents (CountStatement p x y z b) = block_extents b
  inner_extents (WaitStatement w) = []
  inner_extents (SayStatement w) = []
  inner_extents (CheckStatement e) = []
  inner_extents StopStatement = []
  inner_extents BreakStatement = []
  inner_extents ContinueStatement = []

  -- The extents of a block's statements.
  pub block_extents : {E P : Type 0} → Block E P → List Extent
  block_extents End = []
  block_extents (Then t b) = extent (front t) (size t) ∷ (inner_extents t ++ block_extents b)

  -- Those of an else part, in which a statement that stands alone has 0 in place of its size.
  pub else_extents : {E P : Type 0} → Block E P → List Extent
  else_extents End = []
  else_extents (Then t b) = extent (front t) (whole_in_else t b) ∷ (inner_extents t ++ block_extents b)

-- A statement's extents, where what is kept of its own size is given.
abbrev pub extents_of : {E P : Type 0} → Statement E P → ℕ → List Extent
extents_of t whole = extent (front t) whole ∷ inner_extents t
