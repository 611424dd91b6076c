-- How the statements of a body are made.
use Rattle.std.specs.Prelude.{ℕ, ℤ, ◌+◌, ◌≡◌, List, [], ◌∷◌, Option, None, Some}
use Rattle.mh_flat.specs.declared.step.Step.{Step}
use Rattle.mh_flow.specs.Flow.{IfStatement, block_size}
use Rattle.mh_flat.specs.Body.{block_of}
use Rattle.mh_design.specs.declared.design.Design.{Design}
use Rattle.mh_design.specs.declared.design.Generator.{Generator}
use Rattle.mh_design.specs.Numbering.{body_of}
use Rattle.mh_design.specs.Tree.{Expression, LeftSide, Arms}
use Rattle.mh_design.specs.Values.{Store, Fault}
use Rattle.mh_design.specs.Bodies.{Flowing, followed_by, only, block_flowing, arms_flowing, arms_extent, is_active, resets, driven}
use Rattle.mh_gen.specs.declared.steps.Reached.{Reached}
use Rattle.mh_gen.specs.declared.steps.Made.{Made}

abbrev pub Steps : Type 0
Steps = List (Step (Unit {0}) Expression LeftSide ℤ Store Fault)

-- Statements of flow were added to a body: so many statements of the source, with those that they hold.
pub record Puts (before after : Steps) (at r : Reached) (flow : Flowing) (more : ℕ) : Type 0 where
  pub steps : block_of after ≡ followed_by (block_of before) flow
  pub number : r.number ≡ at.number + more
  pub count : r.count ≡ at.count + block_size flow

-- Branches in a row, each tested where those before it don't hold, and what follows where none does.
abbrev pub chain_of : List Made → Flowing → Flowing
chain_of [] other = other
chain_of (m ∷ ms) other = only (IfStatement m.test (block_of m.body.items) (chain_of ms other))

-- How many statements of flow these branches are.
abbrev pub chain_count : List Made → ℕ
chain_count [] = 0
chain_count (m ∷ ms) = 1 + block_size (block_of m.body.items) + chain_count ms

-- The branches of an `if` were made.
pub record Makes (made : List Made) (at r : Reached) (rs : Arms) : Type 0 where
  pub chain : (other : Flowing) → chain_of made other ≡ arms_flowing at.number rs other
  pub number : r.number ≡ at.number + arms_extent rs
  pub count : r.count ≡ at.count + chain_count made

-- What an `@always_seq` does after its wait, where the first statement of its function has this number.
abbrev pub reset_or_from : Design → Generator → Option ℕ → ℕ → Flowing
reset_or_from d g None k = block_flowing k (body_of g)
reset_or_from d g (Some r) k = only (IfStatement (is_active d r) (resets d (driven d g)) (block_flowing k (body_of g)))
