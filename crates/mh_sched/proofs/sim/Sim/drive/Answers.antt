use Rattle.std.proofs.Common.{refl, ap, sym, ◌∙◌, subst}
use Rattle.std.proofs.lemmas.Int.{to_z-of_z}
use Rattle.std.specs.Int.{w128}
use Rattle.mh_design.specs.Assignments.{next_set}
use Rattle.mh_sched.proofs.Calling.{signal_there}
use Rattle.mh_sched.proofs.Concluding.{drive_done, drive_fails}
use Rattle.mh_sched.specs.At.{IsBetween, of_sim}
use Rattle.mh_sched.proofs.Staying.{some_where, given_between, given_design}
use Rattle.mh_sched.proofs.sim.Sim.drive.Goals as goal

pub drive-requires : goal.drive-requires
drive-requires c =
    signal_there c.args.self.now c.requires.stands.moment c.args.s c.requires.stands.at c.requires.there

pub returns-in-Ok-clause-ok : goal.returns-in-Ok-clause-ok
returns-in-Ok-clause-ok c m w =
    drive_done c.args.self.now _ m c.args.s c.args.v w (ap (next_set c.args.self.now.run.store.signals c.args.s) (sym (to_z-of_z w128 c.args.v c.ranges.v)) ∙ c.in-Ok.ensures.ok) c.in-Ok.ensures.rest refl refl

pub returns-in-Err-clause-err : goal.returns-in-Err-clause-err
returns-in-Err-clause-err c m w =
    drive_fails c.args.self.now m c.args.s c.args.v c.in-Err.outside w (ap (next_set c.args.self.now.run.store.signals c.args.s) (sym (to_z-of_z w128 c.args.v c.ranges.v)) ∙ c.in-Err.ensures.err.0)

pub returns-in-Ok-clause-between : goal.returns-in-Ok-clause-between
returns-in-Ok-clause-between c =
    given_between c.requires.stands.moment _ (of_sim c.args.self.now) _ (drive_done c.args.self.now _ c.requires.stands.moment c.args.s c.args.v c.requires.stands.at (ap (next_set c.args.self.now.run.store.signals c.args.s) (sym (to_z-of_z w128 c.args.v c.ranges.v)) ∙ c.in-Ok.ensures.ok) c.in-Ok.ensures.rest refl refl)

pub returns-in-Ok-clause-design : goal.returns-in-Ok-clause-design
returns-in-Ok-clause-design c =
    given_design _ (of_sim c.args.self.now) _ (drive_done c.args.self.now _ c.requires.stands.moment c.args.s c.args.v c.requires.stands.at (ap (next_set c.args.self.now.run.store.signals c.args.s) (sym (to_z-of_z w128 c.args.v c.ranges.v)) ∙ c.in-Ok.ensures.ok) c.in-Ok.ensures.rest refl refl)

pub returns-in-Ok-clause-somewhere : goal.returns-in-Ok-clause-somewhere
returns-in-Ok-clause-somewhere c = some_where (returns-in-Ok-clause-between c)

pub returns-in-Err-clause-between : goal.returns-in-Err-clause-between
returns-in-Err-clause-between c =
    subst (λ v. IsBetween (record c.args.self.now { run = v })) (sym c.in-Err.ensures.err.1) c.requires.stands

pub returns-in-Err-clause-somewhere : goal.returns-in-Err-clause-somewhere
returns-in-Err-clause-somewhere c = some_where (returns-in-Err-clause-between c)
