use Rattle.std.proofs.Common.{◌++◌, take, refl, subst, arith}
use Rattle.mh_sched.specs.At.{HasConcluded}
use Rattle.mh_sched.proofs.Calling.{inside_below, halfway_inside, resumed_concludes}
use Rattle.mh_sched.proofs.Concluding.{goes_on_with}
use Rattle.mh_sched.proofs.sim.Sim.go_on.Goals as goal

pub go_on-passed-requires-clause-there : goal.go_on-passed-requires-clause-there
go_on-passed-requires-clause-there c = inside_below c.args.self.now c.requires.0 c.args.g c.requires.1 c.requires.2

pub go_on-passed-requires-clause-run : goal.go_on-passed-requires-clause-run
go_on-passed-requires-clause-run c = halfway_inside c.args.self.now c.requires.0 c.args.g c.requires.1 c.requires.2

pub conclude-requires : goal.conclude-requires
conclude-requires c =
    let e = c.requires.2.0.deltas in
    let h = c.requires.2.4 in
    omega (arith, e, h)

pub returns : goal.returns
returns c m n w =
    let p = c.go_on-passed.ensures m.state.time m.state.signals m.state.processes n w.0.run in
    let h = w.2 in
    let l = w.0.run.processes in
    let e = w.0.deltas in
    goes_on_with p (omega (arith, h)) (omega (arith, h, l)) (subst (λ v. HasConcluded m p.reply (take c.args.g m.state.processes ++ p.rest) p.signals c.conclude.result c.conclude.new.self v) p.design (c.conclude.ensures m p.reply (take c.args.g m.state.processes ++ p.rest) p.signals (resumed_concludes p _ refl e w.4 w.0.run.sized.values)))
