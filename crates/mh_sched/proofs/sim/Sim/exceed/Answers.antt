use Rattle.std.proofs.Common.{refl, ap, ◌∙◌}
use Rattle.mh_sched.specs.Faults.{too_many_deltas}
use Rattle.mh_sched.proofs.Calling.{exceeded}
use Rattle.mh_sched.proofs.sim.Sim.exceed.Goals as goal

pub returns : goal.returns
returns c m w due le =
    exceeded c.args.self.now _ m c.plain_fault-fault.result w (c.plain_fault-fault.ensures ∙ ap too_many_deltas (c.time.ensures ∙ w.0.run.time_is)) due le refl refl
