use Rattle.mh_sched.proofs.sim.Sim.failure.Goals as goal

pub returns-in-Between : goal.returns-in-Between
returns-in-Between c f e = let p = c.in-Between.is in cc

pub returns-in-Inside : goal.returns-in-Inside
returns-in-Inside c f e = let p = c.in-Inside.is in cc

pub returns-in-Stopped : goal.returns-in-Stopped
returns-in-Stopped c f e = let p = c.in-Stopped.is in cc
