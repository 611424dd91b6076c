use Rattle.std.proofs.Common.{refl}
use Rattle.mh_sched.specs.At.{of_sim}
use Rattle.mh_sched.proofs.Finishing.{runs_none, runs_somewhere, runs_on, runs_less, runs_out, runs_failed}
use Rattle.std.proofs.lemmas.Result.{err_from_is_err_and}
use Rattle.mh_sched.proofs.Staying.{run_somewhere, run_stands, fails_stands, fails_somewhere, fails_design}
use Rattle.mh_sched.proofs.sim.Sim.run_until.Goals as goal

pub loop-answer-init : goal.loop-answer-init
loop-answer-init c st w = runs_none st c.args.out.now.items c.args.self.now w refl

pub go_round-requires : goal.go_round-requires
go_round-requires c = runs_somewhere (c.loop-answer.invariant c.requires.standing c.requires.at)

pub loop-answer-preserved : goal.loop-answer-preserved
loop-answer-preserved c st w =
    runs_on (c.loop-answer.invariant st w) _ _ c.in_ok-answer.answer c.in_ok-answer.ensures c.in-None.is

pub loop-answer-smaller : goal.loop-answer-smaller
loop-answer-smaller c =
    runs_less (c.loop-answer.invariant c.requires.standing c.requires.at) _ _ c.in_ok-answer.answer c.in_ok-answer.ensures c.in-None.is

pub returns-in-Some-clause-ran : goal.returns-in-Some-clause-ran
returns-in-Some-clause-ran c st w =
    runs_out (c.loop-answer.invariant st w) _ _ c.in_ok-answer.answer c.in-Some.end c.in_ok-answer.ensures c.in-Some.is

pub returns-in_err-answer-clause-ran : goal.returns-in_err-answer-clause-ran
returns-in_err-answer-clause-ran c st w =
    let p = err_from_is_err_and c.from_residual.result c.from_residual.ensures.1 in
    rw (p.1, p.2) (runs_failed (c.loop-answer.invariant st w) _ _ _ c.in_err-answer.ensures)

pub returns-in-Some-clause-stands : goal.returns-in-Some-clause-stands
returns-in-Some-clause-stands c =
    run_stands (runs_out (c.loop-answer.invariant c.requires.standing c.requires.at) _ _ c.in_ok-answer.answer c.in-Some.end c.in_ok-answer.ensures c.in-Some.is)

pub returns-in-Some-clause-somewhere : goal.returns-in-Some-clause-somewhere
returns-in-Some-clause-somewhere c =
    run_somewhere (runs_out (c.loop-answer.invariant c.requires.standing c.requires.at) _ _ c.in_ok-answer.answer c.in-Some.end c.in_ok-answer.ensures c.in-Some.is)

pub returns-in_err-answer-clause-stands : goal.returns-in_err-answer-clause-stands
returns-in_err-answer-clause-stands c =
    let p = err_from_is_err_and c.from_residual.result c.from_residual.ensures.1 in
    rw (p.1, p.2) (fails_stands (of_sim c.args.self.now) c.args.t c.requires.standing _ _ _ _ (runs_failed (c.loop-answer.invariant c.requires.standing c.requires.at) _ _ _ c.in_err-answer.ensures))

pub returns-in_err-answer-clause-somewhere : goal.returns-in_err-answer-clause-somewhere
returns-in_err-answer-clause-somewhere c =
    fails_somewhere (of_sim c.args.self.now) c.args.t c.requires.standing _ _ _ _ (runs_failed (c.loop-answer.invariant c.requires.standing c.requires.at) _ _ _ c.in_err-answer.ensures)

pub returns-in_err-answer-clause-design : goal.returns-in_err-answer-clause-design
returns-in_err-answer-clause-design c =
    fails_design (of_sim c.args.self.now) c.args.t c.requires.standing _ _ _ _ (runs_failed (c.loop-answer.invariant c.requires.standing c.requires.at) _ _ _ c.in_err-answer.ensures)

pub returns-in-Some-clause-design : goal.returns-in-Some-clause-design
returns-in-Some-clause-design c =
    (runs_out (c.loop-answer.invariant c.requires.standing c.requires.at) _ _ c.in_ok-answer.answer c.in-Some.end c.in_ok-answer.ensures c.in-Some.is).design
