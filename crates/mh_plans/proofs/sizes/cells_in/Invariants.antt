use Rattle.std.proofs.Common.{◌≡◌, ℕ, ◌||◌, drop}
use Rattle.std.specs.BTreeSet.{contains}
use Rattle.std.specs.Ordering.{nat_cmp}
use Rattle.mh_design.specs.WellFormed.{is_in}
use Rattle.mh_plans.proofs.sizes.cells_in.Given as goal

abbrev pub invariant-loop-m : goal.invariant-loop-m
invariant-loop-m l = (n : ℕ) → is_in l.mems n ≡ (contains nat_cmp l.cells n || is_in (drop l.m-index l.mems) n)
