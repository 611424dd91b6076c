use Rattle.std.proofs.Common.{ap, ◌∙◌}
use Rattle.std.specs.Prelude.{Some}
use Rattle.mh_sched.specs.At.{of_sim, step_end}
use Rattle.mh_sched.specs.Kept.{no_counts}
use Rattle.mh_sched.proofs.Calling.{some_between, stepped}
use Rattle.mh_sched.proofs.sim.Sim.step.Goals as goal

pub next_time-event-requires : goal.next_time-event-requires
next_time-event-requires c = some_between c.args.self.now c.requires.0 c.requires.1

pub returns-in-None : goal.returns-in-None
returns-in-None c m w =
    stepped c.args.limit m c.next_time-event.result _ _ (of_sim c.args.self.now) (c.next_time-event.ensures m.state.time m.state.signals m.state.processes no_counts w.0.run) (ap Some c.quiet_end.ensures ∙ ap (step_end c.next_time-event.result) c.in-None.ensures.answer) (c.in-None.ensures.moved m w)

pub returns-in-Some : goal.returns-in-Some
returns-in-Some c m w =
    stepped c.args.limit m c.next_time-event.result _ _ (of_sim c.args.self.now) (c.next_time-event.ensures m.state.time m.state.signals m.state.processes no_counts w.0.run) (ap (step_end c.next_time-event.result) c.in-Some.ensures.answer) (c.in-Some.ensures.moved m w)
