use Rattle.std.proofs.Common.{◌≡◌, ℕ, ◌||◌, drop}
use Rattle.std.specs.BTreeSet.{contains}
use Rattle.std.specs.Ordering.{nat_cmp}
use Rattle.mh_plans.specs.Order.{is_in}
use Rattle.mh_plans.proofs.marks.add_all.Given as goal

abbrev pub invariant-loop-n : goal.invariant-loop-n
invariant-loop-n l = (n : ℕ) → (contains nat_cmp l.fn.set n || is_in l.ns n) ≡ (contains nat_cmp l.set n || is_in (drop l.n-index l.ns) n)
