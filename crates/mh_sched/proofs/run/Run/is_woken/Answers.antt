use Rattle.mh_sched.proofs.Looking.{woken_else}
use Rattle.mh_sched.proofs.Stepping.{kept_at}
use Rattle.mh_sched.proofs.run.Run.is_woken.Goals as goal

pub returns-else-woken : goal.returns-else-woken
returns-else-woken c time s xs counts x w ex =
    woken_else w c.args.k c.requires.there c.index.result.now x (kept_at c.args.k c.requires.run c.requires.there c.index.result.now c.index.ensures) ex c.woken.result c.some_is_over.result c.time.result c.since.result c.signals-signals.result.now c.waits.result.now c.signals-signals.ensures c.woken.ensures c.if-woken.false c.time.ensures c.since.ensures c.waits.ensures c.some_is_over.ensures
