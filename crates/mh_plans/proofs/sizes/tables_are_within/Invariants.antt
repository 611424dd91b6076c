use Rattle.std.proofs.Common.{◌≡◌, ◌+◌, drop, length}
use Rattle.std.specs.Prelude.{sum_by}
use Rattle.mh_plans.proofs.sizes.tables_are_within.Given as goal

abbrev pub invariant-loop-t : goal.invariant-loop-t
invariant-loop-t l = l.left + sum_by (λ t. length t.values) l.tables ≡ l.most + sum_by (λ t. length t.values) (drop l.t-index l.tables)
