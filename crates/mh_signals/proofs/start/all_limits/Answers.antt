use Rattle.std.proofs.Common.{ap, ◌∙◌, length, map, slice_index_or, arith}
use Rattle.mh_signals.specs.Seen.{limits_seen}
use Rattle.mh_signals.proofs.Woken.{has_codes, limits-more}
use Rattle.mh_signals.proofs.start.all_limits.Goals as goal

pub limits_of-requires : goal.limits_of-requires
limits_of-requires c =
    let l = ap length c.as_slice-x-items.ensures in
    has_codes c.args.d.now c.loop-x.x-index c.x-item.result c.requires (omega (arith, l, c.loop-x-test.true)) (c.x-item.is ∙ ap (λ xs. slice_index_or xs c.loop-x.x-index c.x-item.result) c.as_slice-x-items.ensures)

pub loop-x-preserved : goal.loop-x-preserved
loop-x-preserved c =
    let l = ap length c.as_slice-x-items.ensures in
    ap (map limits_seen) c.in_ok-push.ensures.items
    ∙ limits-more c.args.d.now c.loop-x.all.items c.loop-x.x-index c.limits_of.result c.x-item.result c.loop-x.invariant c.limits_of.ensures (omega (arith, l, c.loop-x-test.true)) (c.x-item.is ∙ ap (λ xs. slice_index_or xs c.loop-x.x-index c.x-item.result) c.as_slice-x-items.ensures)
