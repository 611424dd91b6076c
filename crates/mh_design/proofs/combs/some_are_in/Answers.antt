use Rattle.std.proofs.Common.{◌∙◌, sym}
use Rattle.std.specs.Ordering.{nat_cmp}
use Rattle.std.specs.BTreeSet.{contains}
use Rattle.mh_design.proofs.SetLaws.{any_here, any_later}
use Rattle.mh_design.proofs.combs.some_are_in.Goals as goal

pub returns-then-contains : goal.returns-then-contains
returns-then-contains c =
    any_here (contains nat_cmp c.args.found.now) c.args.signals.now c.loop-signal.signal-index c.loop-signal-test.true (sym c.contains.ensures ∙ c.if-contains.true)
    ∙ sym c.loop-signal.invariant

pub loop-signal-preserved : goal.loop-signal-preserved
loop-signal-preserved c =
    c.loop-signal.invariant
    ∙ any_later (contains nat_cmp c.args.found.now) c.args.signals.now c.loop-signal.signal-index c.loop-signal-test.true (sym c.contains.ensures ∙ c.if-contains.false)
