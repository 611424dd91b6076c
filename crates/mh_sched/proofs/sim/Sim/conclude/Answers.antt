use Rattle.std.proofs.Common.{refl}
use Rattle.mh_sched.proofs.Concluding.{leaves_finished, concludes_finished, concludes_says, concludes_stops, concludes_fails}
use Rattle.mh_sched.proofs.sim.Sim.conclude.Goals as goal

pub returns-in-Finished : goal.returns-in-Finished
returns-in-Finished c m r xs s w =
    let u = c.update.ensures m.state.time s xs (leaves_finished w c.args.self.now c.in-Finished.is) in
    concludes_finished w _ c.in-Finished.is u.0 u.1 refl refl

pub returns-in-Says : goal.returns-in-Says
returns-in-Says c m r xs s w = concludes_says w _ c.in-Says.g c.in-Says.k c.in-Says.is refl refl refl

pub returns-in-Stops : goal.returns-in-Stops
returns-in-Stops c m r xs s w = concludes_stops w _ c.in-Stops.is refl refl

pub returns-in-Fails : goal.returns-in-Fails
returns-in-Fails c m r xs s w = concludes_fails w _ c.in-Fails.fault c.in-Fails.is refl refl
