-- Parts, statements and branches in turn, with the numbers of a design.
use Rattle.std.proofs.Common.{◌≡◌, List, [], ◌∷◌, map, refl, ap}
use Rattle.std.proofs.lemmas.List.{append-nil, append_assoc, map-append}
use Rattle.mh_design.specs.Tree.{Expression, Statement, Arm, More, Then, MoreArms, row, block, arms}
use Rattle.mh_plans.specs.Renumbered.{Chosen, expression_in, expressions_in, statement_in, block_in, arm_in, arms_in}

pub expressions_in-row : (k : Chosen) (xs : List Expression) → expressions_in k (row xs) ≡ row (map (expression_in k) xs)
expressions_in-row k [] = refl
expressions_in-row k (x ∷ xs) = ap (More (expression_in k x)) (expressions_in-row k xs)

pub block_in-block : (k : Chosen) (xs : List Statement) → block_in k (block xs) ≡ block (map (statement_in k) xs)
block_in-block k [] = refl
block_in-block k (x ∷ xs) = ap (Then (statement_in k x)) (block_in-block k xs)

pub arms_in-arms : (k : Chosen) (xs : List Arm) → arms_in k (arms xs) ≡ arms (map (arm_in k) xs)
arms_in-arms k [] = refl
arms_in-arms k (x ∷ xs) = ap (MoreArms (arm_in k x)) (arms_in-arms k xs)

pub ruleset row_laws = (expressions_in-row, block_in-block, arms_in-arms, append-nil, append_assoc, map-append)
