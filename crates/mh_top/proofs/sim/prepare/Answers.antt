use Rattle.std.proofs.Common.{map}
use Rattle.std.proofs.lemmas.Result.{IfOk-weaker}
use Rattle.mh_plans.specs.Planned.{plan_of}
use Rattle.mh_top.proofs.SimLaws.{refusing_of, simulated_of}
use Rattle.mh_top.proofs.sim.prepare.Goals as goal

pub returns-in-Ok : goal.returns-in-Ok
returns-in-Ok c =
    IfOk-weaker c.simulate.result _ _ (simulated_of c.args.source.now (map plan_of c.in-Ok.found.tops) c.in-Ok.found.requests c.in-Ok.ensures.found) c.simulate.ensures

pub returns-in-Err : goal.returns-in-Err
returns-in-Err c = IfOk-weaker c.refuse.result _ _ (refusing_of c.args.source.now c.in-Err.refusal c.in-Err.ensures.refused) c.refuse.ensures
