use Rattle.std.proofs.Common.{refl, sym, ◌∙◌, arith}
use Rattle.mh_sched.proofs.Earliest.{ends_none}
use Rattle.mh_sched.proofs.Looking.{next_more, next_end}
use Rattle.mh_sched.proofs.Stepping.{kept_at}
use Rattle.mh_sched.proofs.run.Run.next_time.Goals as goal

pub loop-k-init : goal.loop-k-init
loop-k-init c time s xs counts w = refl

pub loop-k-preserved : goal.loop-k-preserved
loop-k-preserved c time s xs counts w =
    c.loop-k.invariant time s xs counts w ∙ next_more w c.loop-k.k c.loop-k-test.true c.index.result.now (kept_at c.loop-k.k c.requires c.loop-k-test.true c.index.result.now c.index.ensures) c.time.result c.since.result c.signals.result.now c.waits.result.now c.loop-k.best c.earliest_end-best.result c.time.ensures c.since.ensures c.signals.ensures c.waits.ensures c.earliest_end-best.ensures

pub returns : goal.returns
returns c time s xs counts w =
    let a = w.processes in
    let b = w.count in
    sym (next_end time s c.loop-k.k xs c.loop-k.best (omega (arith, a, b))) ∙ sym (c.loop-k.invariant time s xs counts w) ∙ ends_none _
