use Rattle.std.proofs.Common.{◌<◌, refl, subst, arith}
use Rattle.mh_sched.specs.At.{HasConcluded}
use Rattle.mh_sched.specs.Runs.{delta_limit}
use Rattle.mh_sched.proofs.Calling.{resting_between, passed_concludes}
use Rattle.mh_sched.proofs.Concluding.{begins}
use Rattle.mh_sched.proofs.sim.Sim.begin_due.Goals as goal

pub pass-passed-requires-clause-run : goal.pass-passed-requires-clause-run
pass-passed-requires-clause-run c = resting_between c.args.self.now c.requires.0 c.requires.1

pub returns-then-self-ge-DELTA_LIMIT : goal.returns-then-self-ge-DELTA_LIMIT
returns-then-self-ge-DELTA_LIMIT c m w due =
    let e = w.0.deltas in
    c.exceed.ensures m w due (omega (arith, e))

pub returns : goal.returns
returns c m w due =
    let p = c.pass-passed.ensures m.state.time m.state.signals m.state.processes w.0.run in
    let e = w.0.deltas in
    let below : m.deltas < delta_limit = omega (arith, e) in
    begins p due below (subst (λ v. HasConcluded m p.reply p.rest p.signals c.conclude.result c.conclude.new.self v) p.design (c.conclude.ensures m p.reply p.rest p.signals (passed_concludes p _ refl e below w.0.run.sized.values)))
