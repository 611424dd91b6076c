use Rattle.std.proofs.lemmas.Result.{IfOk-weaker}
use Rattle.mh_top.proofs.SimLaws.{inout_planned}
use Rattle.mh_top.proofs.sim.simulate_design.Goals as goal

pub returns-in-Err : goal.returns-in-Err
returns-in-Err c = IfOk-weaker c.refuse.result _ _ (inout_planned c.args.d.now c.args.n c.in-Err.refusal c.requires c.in-Err.ensures) c.refuse.ensures
