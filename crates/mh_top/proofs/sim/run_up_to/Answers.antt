use Rattle.std.proofs.Common.{Ok}
use Rattle.std.proofs.lemmas.Result.{IfOk-weaker}
use Rattle.mh_sched.specs.At.{of_sim}
use Rattle.mh_sched.specs.Standing.{first_standing}
use Rattle.mh_top.proofs.SimLaws.{failing_done, ran_from}
use Rattle.mh_top.proofs.sim.run_up_to.Goals as goal

pub run_until-requires : goal.run_until-requires
run_until-requires c = c.in_ok-sim.ensures.somewhere

pub returns-in-Ok : goal.returns-in-Ok
returns-in-Ok c =
    let ran = c.in-Ok.ensures.ran (first_standing c.args.d.now) c.in_ok-sim.ensures.stands in (
      c.in-Ok.field-0,
      ran_from c.args.d.now (of_sim c.in_ok-sim.sim) c.args.n (Ok c.in-Ok.field-0) c.new-text.result.items c.run_until.new.out.items c.run_until.new.self c.in_ok-sim.ensures.design c.new-text.ensures.items ran,
      c.in_ok-of_printing-in-Ok.ensures,
    )

pub returns : goal.returns
returns c =
    IfOk-weaker c.fail.result _ _
    (failing_done c.args.d.now (of_sim c.in_ok-sim.sim) c.args.n c.in-Err.fault c.new-text.result.items c.run_until.new.out.items c.run_until.new.self c.in_ok-sim.ensures.design c.new-text.ensures.items (c.in-Err.ensures.ran (first_standing c.args.d.now) c.in_ok-sim.ensures.stands))
    c.fail.ensures
