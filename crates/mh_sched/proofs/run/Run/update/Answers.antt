use Rattle.mh_sched.proofs.Stepping.{updated_run}
use Rattle.mh_sched.proofs.run.Run.update.Goals as goal

pub returns : goal.returns
returns c time s xs w = updated_run c.update.new.self c.update.ensures.taken w
