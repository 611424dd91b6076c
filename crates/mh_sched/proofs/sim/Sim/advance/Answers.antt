use Rattle.std.proofs.Common.{ap, ◌∙◌, subst}
use Rattle.mh_sched.specs.At.{of_sim, HasMoved}
use Rattle.mh_sched.specs.Kept.{no_counts}
use Rattle.mh_sched.specs.Standing.{moved, reached_event}
use Rattle.mh_sched.proofs.Calling.{some_between}
use Rattle.mh_sched.proofs.Staying.{moved_between, some_where}
use Rattle.mh_sched.proofs.sim.Sim.advance.Goals as goal

pub next_time-event-requires : goal.next_time-event-requires
next_time-event-requires c = some_between c.args.self.now c.requires.moment c.requires.at

pub returns-clause-answer : goal.returns-clause-answer
returns-clause-answer c m w =
    c.move_within.ensures.answer ∙ ap (reached_event c.args.limit) (c.next_time-event.ensures m.state.time m.state.signals m.state.processes no_counts w.0.run)

pub returns-clause-moved : goal.returns-clause-moved
returns-clause-moved c m w =
    subst (λ o. HasMoved (moved c.args.limit (reached_event c.args.limit o) m) c.move_within.new.self (of_sim c.args.self.now)) (c.next_time-event.ensures m.state.time m.state.signals m.state.processes no_counts w.0.run) (c.move_within.ensures.moved m w)

pub returns-clause-between : goal.returns-clause-between
returns-clause-between c = moved_between (c.move_within.ensures.moved c.requires.moment c.requires.at)

pub returns-clause-design : goal.returns-clause-design
returns-clause-design c = (c.move_within.ensures.moved c.requires.moment c.requires.at).design

pub returns-clause-somewhere : goal.returns-clause-somewhere
returns-clause-somewhere c = some_where (returns-clause-between c)
