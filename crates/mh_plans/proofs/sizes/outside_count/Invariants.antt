use Rattle.std.proofs.Common.{◌≡◌, ◌≤◌, not}
use Rattle.std.specs.BTreeSet.{contains}
use Rattle.std.specs.Ordering.{nat_cmp}
use Rattle.mh_design.specs.WellFormed.{count_below}
use Rattle.mh_plans.proofs.sizes.outside_count.Given as goal

abbrev pub invariant-loop-i : goal.invariant-loop-i
invariant-loop-i l = record { counted : l.outside ≡ count_below l.i (λ n. not (contains nat_cmp l.cells n)); few : l.outside ≤ l.i }
