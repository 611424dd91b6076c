use Rattle.std.proofs.Common.{sym, ◌∙◌, arith}
use Rattle.mh_sched.proofs.Looking.{any_found, any_passed, any_end}
use Rattle.mh_sched.proofs.run.Run.any_is_woken.Goals as goal

pub returns-then-is_woken : goal.returns-then-is_woken
returns-then-is_woken c time s xs counts w =
    sym (c.loop-k.invariant time s xs counts w ∙ any_found w c.loop-k.k c.loop-k-test.true c.is_woken.result c.is_woken.ensures c.if-is_woken.true)

pub loop-k-preserved : goal.loop-k-preserved
loop-k-preserved c time s xs counts w =
    c.loop-k.invariant time s xs counts w ∙ any_passed w c.loop-k.k c.loop-k-test.true c.is_woken.result c.is_woken.ensures c.if-is_woken.false

pub returns : goal.returns
returns c time s xs counts w =
    let a = w.processes in
    let b = w.count in
    sym (c.loop-k.invariant time s xs counts w ∙ any_end s time c.loop-k.k xs (omega (arith, a, b)))
