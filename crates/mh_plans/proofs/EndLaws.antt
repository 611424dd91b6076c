-- Parts, statements and branches, once all of them have the numbers of a design.
use Rattle.std.proofs.Common.{◌≡◌, ◌∙◌, List, [], ◌++◌, map, sym, ap}
use Rattle.std.proofs.lemmas.List.{append-nil}
use Rattle.mh_design.specs.Tree.{Expression, Statement, Arm, row, block, arms}
use Rattle.mh_plans.specs.Renumbered.{Chosen, expression_in, expressions_in, statement_in, block_in, arm_in, arms_in}
use Rattle.mh_plans.proofs.RowLaws.{expressions_in-row, block_in-block, arms_in-arms}

pub row_ends : (k : Chosen) (xs ys rest : List Expression) → map (expression_in k) xs ≡ ys ++ rest → rest ≡ [] → row ys ≡ expressions_in k (row xs)
row_ends k xs ys rest e h = sym (expressions_in-row k xs ∙ ap row (e ∙ (ap (λ zs. ys ++ zs) h ∙ append-nil ys)))

pub block_ends : (k : Chosen) (xs ys rest : List Statement) → map (statement_in k) xs ≡ ys ++ rest → rest ≡ [] → block ys ≡ block_in k (block xs)
block_ends k xs ys rest e h = sym (block_in-block k xs ∙ ap block (e ∙ (ap (λ zs. ys ++ zs) h ∙ append-nil ys)))

pub arms_end : (k : Chosen) (xs ys rest : List Arm) → map (arm_in k) xs ≡ ys ++ rest → rest ≡ [] → arms ys ≡ arms_in k (arms xs)
arms_end k xs ys rest e h = sym (arms_in-arms k xs ∙ ap arms (e ∙ (ap (λ zs. ys ++ zs) h ∙ append-nil ys)))
