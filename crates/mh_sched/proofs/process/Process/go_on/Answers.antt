use Rattle.std.proofs.Common.{sym, subst}
use Rattle.mh_flat.specs.Fits.{FitsItems}
use Rattle.mh_flat.specs.Stands.{StandsFor, Resumes}
use Rattle.mh_design.specs.Assignments.{meaning}
use Rattle.mh_design.specs.Deltas.{Left, turn_limit}
use Rattle.mh_sched.proofs.Going.{gone_of, resumable}
use Rattle.mh_sched.proofs.process.Process.go_on.Goals as goal

pub resume-answer-requires : goal.resume-answer-requires
resume-answer-requires c =
    let r = resumable c.swap_locals.new.self c.swap_locals.new.store c.requires c.swap_locals.ensures.own c.swap_locals.ensures.store in
    (r.left, subst (λ v. StandsFor v r.left c.swap_locals.new.self.state) (sym c.code.ensures) r.stands, r.fits)

pub returns : goal.returns
returns c d g x n st runs =
    let resumed = subst (λ v. (xs : Left) → StandsFor v xs c.swap_locals.new.self.state → FitsItems meaning xs c.swap_locals.new.store → Resumes meaning turn_limit v xs c.swap_locals.new.self.state c.swap_locals.new.store c.resume-answer.result c.resume-answer.new.state c.resume-answer.new.store) c.code.ensures c.resume-answer.ensures in
    gone_of c.args.self.now c.args.store.now c.swap_locals.new.self c.swap_locals.new.store c.resume-answer.new.state c.resume-answer.new.store c.swap_locals-2.new.self c.swap_locals-2.new.store c.body_laws.ensures.alike st runs c.swap_locals.ensures.own c.swap_locals.ensures.store resumed c.swap_locals-2.ensures.own c.swap_locals-2.ensures.store
