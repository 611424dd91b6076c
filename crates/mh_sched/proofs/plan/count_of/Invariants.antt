use Rattle.std.specs.Ordering.{nat_cmp}
use Rattle.std.specs.BTreeSet.{contains}
use Rattle.mh_sched.proofs.Counting.{Counted}
use Rattle.mh_sched.proofs.plan.count_of.Given as goal

abbrev pub invariant-loop-n : goal.invariant-loop-n
invariant-loop-n l = Counted (contains nat_cmp l.found) l.count l.n-counter l.many
