use Rattle.std.proofs.Common.{◌∙◌, ◌||◌, ◌+◌, drop, ap, sym}
use Rattle.std.specs.Ordering.{nat_cmp}
use Rattle.std.specs.BTreeSet.{contains}
use Rattle.mh_design.specs.Inout.{is_among}
use Rattle.mh_design.proofs.SetLaws.{added}
use Rattle.mh_design.proofs.combs.set_of.Goals as goal

pub loop-signal-preserved : goal.loop-signal-preserved
loop-signal-preserved c s =
    c.loop-signal.invariant s
    ∙ (added c.args.signals.now c.loop-signal.signal-index s (contains nat_cmp c.loop-signal.found s) c.loop-signal-test.true
    ∙ sym (ap (λ b. b || is_among (drop (c.loop-signal.signal-index + 1) c.args.signals.now) s) (c.in_ok-insert.ensures.updates.0 s)))
