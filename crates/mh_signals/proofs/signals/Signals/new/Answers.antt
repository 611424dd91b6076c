use Rattle.std.proofs.Common.{List, ◌≡◌, ap, ◌∙◌, map, subst}
use Rattle.std.specs.Prelude.{IfOk}
use Rattle.mh_design.specs.Values.{Signals, Waiter, limits_of}
use Rattle.mh_design.specs.Deltas.{first_waiter}
use Rattle.mh_signals.specs.Woken.{woken_with}
use Rattle.mh_signals.proofs.Woken.{waiters-first}
use Rattle.mh_signals.proofs.signals.Signals.new.Goals as goal

pub returns : goal.returns
returns c =
    let given : List Waiter → Signals = λ ws. record { limits = map (λ x. limits_of c.args.d.now x.kind) c.args.d.now.signals; values = map (λ x. x.init) c.args.d.now.signals; pending = map (λ x. x.init) c.args.d.now.signals; waiters = ws } in
    let all : map woken_with c.as_slice.result.now ≡ map (first_waiter c.args.d.now) c.args.d.now.generators = ap (map woken_with) (c.as_slice.ensures.value ∙ c.in_ok-rooms.ensures) ∙ waiters-first c.args.d.now c.args.d.now.generators in
    subst (λ ws. IfOk c.with_rooms.result (λ s. s ≡ given ws)) all c.with_rooms.ensures
