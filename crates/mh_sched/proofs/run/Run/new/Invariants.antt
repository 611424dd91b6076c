use Rattle.mh_sched.proofs.Preparing.{Prepared}
use Rattle.mh_sched.proofs.run.Run.new.Given as goal

abbrev pub invariant-loop-number : goal.invariant-loop-number
invariant-loop-number l = Prepared l.d l.plans.items l.processes.items l.number
