use Rattle.std.proofs.Common.{refl, sym, ◌∙◌}
use Rattle.mh_sched.proofs.Concluding.{stays_at, moves_to}
use Rattle.mh_sched.proofs.sim.Sim.move_to.Goals as goal

pub returns-then-before-time : goal.returns-then-before-time
returns-then-before-time c m w =
    stays_at c.args.self.now m c.args.time w (sym c.time-before.ensures ∙ c.if-before-time.true)

pub returns : goal.returns
returns c m w =
    let r = c.move_to.ensures m.state.time m.state.signals m.state.processes w.0.run in
    moves_to c.args.self.now _ m c.args.time w (λ e. c.if-before-time.false (c.time-before.ensures ∙ e)) r.0 r.1 refl refl
