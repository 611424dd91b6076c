use Rattle.mh_sched.proofs.Stepping.{timed_run}
use Rattle.mh_sched.proofs.run.Run.move_to.Goals as goal

pub returns : goal.returns
returns c before s xs w = timed_run c.args.time c.set_time.new.self c.set_time.ensures w
