use Rattle.std.proofs.Common.{arith}
use Rattle.mh_sched.proofs.Counting.{counted_none, counted_more, counted_all}
use Rattle.mh_sched.proofs.plan.count_of.Goals as goal

pub loop-n-init : goal.loop-n-init
loop-n-init c = counted_none _ _

pub loop-n-preserved : goal.loop-n-preserved
loop-n-preserved c =
    counted_more _ _ c.loop-n.invariant (omega arith) c.contains-is_in.ensures c.counted-many.ensures.more c.counted-many.ensures.same

pub returns-clause-count : goal.returns-clause-count
returns-clause-count c = counted_all c.loop-n.invariant (omega arith)
