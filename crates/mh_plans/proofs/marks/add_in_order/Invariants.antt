use Rattle.std.proofs.Common.{◌≡◌}
use Rattle.std.specs.Prelude.{filter}
use Rattle.std.specs.BTreeSet.{contains}
use Rattle.std.specs.Ordering.{nat_cmp}
use Rattle.mh_plans.specs.Plans.{below, each_once}
use Rattle.mh_plans.proofs.marks.add_in_order.Given as goal

abbrev pub invariant-loop-i : goal.invariant-loop-i
invariant-loop-i l = l.numbers ≡ each_once l.fn.numbers (filter (contains nat_cmp l.set) (below l.i))
