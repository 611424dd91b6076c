use Rattle.std.proofs.Common.{◌≡◌, ◌+◌, ◌-◌, ◌<◌, ◌≤◌, length, false, arith}
use Rattle.std.specs.Prelude.{slice_index_or}
use Rattle.mh_design.specs.WellFormed.{is_in}
use Rattle.mh_design.proofs.Marks.{marked, counted_next}
use Rattle.mh_design.proofs.sizes.count_block.Goals as goal

pub loop-signal-preserved : goal.loop-signal-preserved
loop-signal-preserved c =
    let place = c.loop-signal.signal - c.args.first in
    let size : length c.mark_all.new.marks ≡ 4096 = c.mark_all.ensures.length in
    let ordered : c.args.first ≤ c.loop-signal.signal = omega arith in
    let below : c.loop-signal.signal - c.args.first < 4096 = omega arith in
    let mark : slice_index_or c.mark_all.new.marks (c.loop-signal.signal - c.args.first) false ≡ is_in c.args.mems.now c.loop-signal.signal =
    marked c.args.mems.now c.mark_all.new.marks c.args.first c.loop-signal.signal ordered below (c.mark_all.ensures.marks (c.loop-signal.signal - c.args.first) (omega arith)) in
    record {
      counted = counted_next c.args.mems.now _ c.loop-signal.signal c.loop-signal.count c.counted-count.result c.loop-signal.invariant.counted c.counted-count.ensures.value mark;
      few = let m = c.counted-count.ensures.at_most in let f = c.loop-signal.invariant.few in omega (arith, m, f);
    }
