use Rattle.std.proofs.Common.{subst}
use Rattle.mh_sched.specs.At.{of_sim, HasStepped}
use Rattle.mh_sched.proofs.Finishing.{whole_is_ran, whole_is_quiet, whole_is_stopped, whole_says, round_ran, stepped_round, round_failed}
use Rattle.std.proofs.lemmas.Result.{err_from_is_err_and}
use Rattle.mh_sched.proofs.sim.Sim.go_round.Goals as goal

pub step-end-requires : goal.step-end-requires
step-end-requires c =
    let rest = whole_is_quiet c.in_ok-answer.answer (c.in_ok-answer.ensures 0 c.requires.standing c.requires.at) c.in-Quiet.is in
    (rest.moment, rest.gone.at)

pub returns-in-Ran : goal.returns-in-Ran
returns-in-Ran c st w =
    round_ran c.args.self.now _ w (whole_is_ran c.in_ok-answer.answer (c.in_ok-answer.ensures c.args.t st w) c.in-Ran.is)

pub returns-in-Says : goal.returns-in-Says
returns-in-Says c st w =
    absurd (whole_says (of_sim c.args.self.now) c.args.t st _ _ _ c.in_ok-answer.answer (c.in_ok-answer.ensures c.args.t st w) _ _ c.in-Says.is)

pub returns-in-Stopped : goal.returns-in-Stopped
returns-in-Stopped c st w =
    whole_is_stopped c.in_ok-answer.answer (c.in_ok-answer.ensures c.args.t st w) c.in-Stopped.is

pub returns-in-Quiet : goal.returns-in-Quiet
returns-in-Quiet c st w =
    let rest = whole_is_quiet c.in_ok-answer.answer (c.in_ok-answer.ensures c.args.t st w) c.in-Quiet.is in
    stepped_round c.args.self.now _ w rest (c.call_laws.ensures.times (of_sim c.args.self.now) c.args.t rest.moment rest.rests) _ c.step-end.result (subst (λ v. HasStepped c.args.t rest.moment c.step-end.result c.step-end.new.self v) rest.gone.design (c.step-end.ensures rest.moment rest.gone.at))

pub returns-in_err-answer : goal.returns-in_err-answer
returns-in_err-answer c st w =
    let p = err_from_is_err_and c.from_residual.result c.from_residual.ensures.1 in
    rw (p.1, p.2) (round_failed (of_sim c.args.self.now) c.args.t st _ _ c.args.self.now _ _ (c.in_err-answer.ensures c.args.t st w))
