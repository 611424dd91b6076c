use Rattle.std.proofs.Common.{◌∙◌, ◌||◌, ◌+◌, ◌==◌, drop, ap, sym}
use Rattle.std.specs.List.{list_any}
use Rattle.std.specs.Ordering.{nat_cmp}
use Rattle.std.specs.BTreeSet.{contains}
use Rattle.mh_design.proofs.SetLaws.{added}
use Rattle.mh_gen.proofs.generators.set_of.Goals as goal

pub loop-signal-preserved : goal.loop-signal-preserved
loop-signal-preserved c n =
    c.loop-signal.invariant n
    ∙ (added c.args.signals.now c.loop-signal.signal-index n (contains nat_cmp c.loop-signal.found n) c.loop-signal-test.true
    ∙ sym (ap (λ b. b || list_any (λ m. m == n) (drop (c.loop-signal.signal-index + 1) c.args.signals.now)) (c.in_ok-insert.ensures.updates.0 n)))
