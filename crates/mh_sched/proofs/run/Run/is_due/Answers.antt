use Rattle.std.proofs.Common.{◌≡◌, false, ◌||◌, sym, ap, ◌∙◌}
use Rattle.mh_design.specs.Deltas.{is_pending, any_woken}
use Rattle.mh_sched.proofs.run.Run.is_due.Goals as goal

pub returns-else-is_pending : goal.returns-else-is_pending
returns-else-is_pending c time s xs counts w =
    let e : is_pending s ≡ false = sym (ap is_pending (c.signals.ensures ∙ w.signals)) ∙ sym c.is_pending.ensures ∙ c.if-is_pending.false in
    c.any_is_woken.ensures time s xs counts w ∙ sym (ap (λ b. b || any_woken s time 0 xs) e)
