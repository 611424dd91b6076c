use Rattle.std.proofs.Common.{subst}
use Rattle.mh_sched.specs.At.{of_sim, HasMoved}
use Rattle.mh_sched.specs.Standing.{moved}
use Rattle.mh_sched.proofs.sim.Sim.move_within.Goals as goal

pub returns-in-None-clause-moved : goal.returns-in-None-clause-moved
returns-in-None-clause-moved c m w =
    subst (λ o. HasMoved (moved c.args.limit o m) c.move_to.new.self (of_sim c.args.self.now)) c.in-None.ensures (c.move_to.ensures m w)

pub returns-in-Some-clause-moved : goal.returns-in-Some-clause-moved
returns-in-Some-clause-moved c m w =
    subst (λ o. HasMoved (moved c.args.limit o m) c.move_to-in-Some.new.self (of_sim c.args.self.now)) c.in-Some.ensures (c.move_to-in-Some.ensures m w)
