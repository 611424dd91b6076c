use Rattle.mh_sched.specs.At.{of_sim}
use Rattle.mh_sched.proofs.Calling.{can_inside, said_inside, said_again}
use Rattle.mh_sched.proofs.Staying.{can_somewhere, said_somewhere, said_design}
use Rattle.mh_sched.proofs.sim.Sim.say.Goals as goal

pub say_line-requires : goal.say_line-requires
say_line-requires c = can_inside c.args.self.now c.args.g c.requires c.in-None.ensures

pub returns-in-Some-clause-said : goal.returns-in-Some-clause-said
returns-in-Some-clause-said c st w x =
    said_again c.args.self.now c.args.g c.args.k _ c.in-Some.fault st w x c.in-Some.ensures

pub returns-in-None-clause-said : goal.returns-in-None-clause-said
returns-in-None-clause-said c st w x =
    said_inside c.args.self.now _ (of_sim c.args.self.now) c.args.g c.args.k _ _ _ st w x c.in-None.ensures c.say_line.ensures

pub returns-in-Some-clause-somewhere : goal.returns-in-Some-clause-somewhere
returns-in-Some-clause-somewhere c = can_somewhere c.requires

pub returns-in-None-clause-somewhere : goal.returns-in-None-clause-somewhere
returns-in-None-clause-somewhere c =
    let i = can_inside c.args.self.now c.args.g c.requires c.in-None.ensures in
    said_somewhere (of_sim c.args.self.now) c.args.g c.args.k _ _ _ _ c.args.self.now _ i.2 (c.say_line.ensures i.0 i.1 i.2)

pub returns-in-None-clause-design : goal.returns-in-None-clause-design
returns-in-None-clause-design c =
    let i = can_inside c.args.self.now c.args.g c.requires c.in-None.ensures in
    said_design c.args.g c.args.k _ _ _ _ c.args.self.now _ (c.say_line.ensures i.0 i.1 i.2)
