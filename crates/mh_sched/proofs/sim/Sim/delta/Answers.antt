use Rattle.mh_sched.specs.At.{of_sim}
use Rattle.mh_sched.proofs.Staying.{call_stands, call_somewhere, call_design}
use Rattle.mh_sched.proofs.sim.Sim.delta.Goals as goal

pub returns-clause-stands : goal.returns-clause-stands
returns-clause-stands c = call_stands c.args.self.now c.requires (of_sim c.args.self.now) _ _ c.one_call.ensures

pub returns-clause-somewhere : goal.returns-clause-somewhere
returns-clause-somewhere c = call_somewhere c.args.self.now c.requires (of_sim c.args.self.now) _ _ c.one_call.ensures

pub returns-clause-design : goal.returns-clause-design
returns-clause-design c = call_design c.args.self.now c.requires (of_sim c.args.self.now) _ _ c.one_call.ensures
