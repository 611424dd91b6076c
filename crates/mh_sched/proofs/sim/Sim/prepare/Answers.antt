use Rattle.std.proofs.Common.{refl}
use Rattle.mh_sched.specs.Runs.{first_moment}
use Rattle.mh_sched.proofs.Staying.{some_where}
use Rattle.mh_sched.proofs.sim.Sim.prepare.Goals as goal

pub returns-clause-stands : goal.returns-clause-stands
returns-clause-stands c = (record { run = c.in_ok-new.ensures.run; deltas = refl }, refl)

pub returns-clause-between : goal.returns-clause-between
returns-clause-between c =
    record { moment = first_moment c.args.d.now; at = (record { run = c.in_ok-new.ensures.run; deltas = refl }, refl) }

pub returns-clause-somewhere : goal.returns-clause-somewhere
returns-clause-somewhere c = some_where (returns-clause-between c)
