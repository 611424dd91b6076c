use Rattle.std.proofs.Common.{◌∙◌}
use Rattle.mh_sched.proofs.Earliest.{ends_least}
use Rattle.mh_sched.proofs.due.earliest_end.Goals as goal

pub returns : goal.returns
returns c =
    c.with_waits.ensures ∙ ends_least c.args.after c.args.since c.args.waits.now c.args.best
