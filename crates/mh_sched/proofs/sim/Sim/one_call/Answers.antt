use Rattle.mh_sched.specs.At.{of_sim}
use Rattle.mh_sched.proofs.Calling.{is_between, is_inside, delta_between, delta_inside, delta_stopped, delta_failed}
use Rattle.mh_sched.proofs.sim.Sim.one_call.Goals as goal

pub begin-requires : goal.begin-requires
begin-requires c = is_between c.args.self.now c.requires c.in-Between.is

pub go_on-requires : goal.go_on-requires
go_on-requires c = is_inside c.args.self.now c.in-Inside.g c.requires c.in-Inside.is

pub returns-in-Between : goal.returns-in-Between
returns-in-Between c st w =
    delta_between c.args.self.now (of_sim c.args.self.now) _ _ st w c.in-Between.is c.begin.ensures

pub returns-in-Inside : goal.returns-in-Inside
returns-in-Inside c st w =
    delta_inside c.args.self.now (of_sim c.args.self.now) _ _ c.in-Inside.g st w c.in-Inside.is c.go_on.ensures

pub returns-in-Stopped : goal.returns-in-Stopped
returns-in-Stopped c st w = delta_stopped c.args.self.now st w c.in-Stopped.is

pub returns-in-Failed : goal.returns-in-Failed
returns-in-Failed c st w = delta_failed c.args.self.now c.in-Failed.fault st w c.in-Failed.is
