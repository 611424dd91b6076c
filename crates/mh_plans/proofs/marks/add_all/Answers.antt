use Rattle.std.proofs.Common.{◌∙◌, ◌||◌, ◌+◌, drop, ap, sym}
use Rattle.std.specs.Ordering.{nat_cmp}
use Rattle.std.specs.BTreeSet.{contains}
use Rattle.mh_plans.specs.Order.{is_in}
use Rattle.mh_plans.proofs.NumberLaws.{added}
use Rattle.mh_plans.proofs.marks.add_all.Goals as goal

pub loop-n-preserved : goal.loop-n-preserved
loop-n-preserved c s =
    c.loop-n.invariant s
    ∙ (added c.args.ns.now c.loop-n.n-index s (contains nat_cmp c.loop-n.set s) c.loop-n-test.true
    ∙ sym (ap (λ b. b || is_in (drop (c.loop-n.n-index + 1) c.args.ns.now) s) (c.in_ok-insert.ensures.updates.0 s)))
