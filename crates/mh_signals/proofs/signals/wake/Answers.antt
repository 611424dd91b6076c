use Rattle.std.proofs.Common.{ap, sym, ◌∙◌, length, slice_set, arith}
use Rattle.std.proofs.lemmas.List.Edits.{map_over_more}
use Rattle.mh_design.specs.Deltas as spec
use Rattle.mh_signals.proofs.signals.wake.Goals as goal

pub loop-waiter-preserved : goal.loop-waiter-preserved
loop-waiter-preserved c =
    let l = ap length c.deref_mut-waiter-items.ensures.value in
    ap (slice_set c.loop-waiter.waiter-items c.loop-waiter.waiter-index) (c.look.ensures ∙ ap (spec.woken_by c.args.old.now c.args.new.now) (sym c.waiter-item.is))
    ∙ map_over_more (spec.woken_by c.args.old.now c.args.new.now) c.args.waiters.now.items c.loop-waiter.waiter-items c.loop-waiter.waiter-index c.waiter-item.result (omega (arith, l, c.loop-waiter-test.true)) c.loop-waiter.invariant c.waiter-item.is
