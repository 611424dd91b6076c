use Rattle.std.proofs.Common.{sym, ◌∙◌}
use Rattle.mh_sched.specs.Kept.{no_counts}
use Rattle.mh_sched.proofs.Calling.{some_between, delta_quiet}
use Rattle.mh_sched.proofs.sim.Sim.begin.Goals as goal

pub is_due-is_due-requires : goal.is_due-is_due-requires
is_due-is_due-requires c = some_between c.args.self.now c.requires.0 c.requires.1

pub returns-then-is_due : goal.returns-then-is_due
returns-then-is_due c m w =
    c.begin_due.ensures m w (sym (c.is_due-is_due.ensures m.state.time m.state.signals m.state.processes no_counts w.0.run) ∙ c.if-is_due.true)

pub returns : goal.returns
returns c m w =
    delta_quiet c.args.self.now m w (sym (c.is_due-is_due.ensures m.state.time m.state.signals m.state.processes no_counts w.0.run) ∙ c.if-is_due.false)
