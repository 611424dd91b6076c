use Rattle.std.proofs.Common.{◌+◌, ◌*◌, drop}
use Rattle.mh_flow.specs.Flow.{size, block_size}
use Rattle.mh_flat.specs.Body.{statement_of, block_of}
use Rattle.mh_flat.proofs.Measures.{BlockLeft, ChainLeft}
use Rattle.mh_flat.proofs.emit.+measure.Given as goal

abbrev pub invariant-measure_block-loop-step : goal.invariant-measure_block-loop-step
invariant-measure_block-loop-step g l =
    BlockLeft l.fn.extents.items (block_of l.block) l.extents.items (block_of (drop l.step-index l.block))

abbrev pub invariant-measure_step-loop-then_part : goal.invariant-measure_step-loop-then_part
invariant-measure_step-loop-then_part g l =
    ChainLeft l.fn.extents.items (statement_of l.step) l.extents.items (statement_of l.current)

abbrev pub decreases-measure_step-loop-then_part : goal.decreases-measure_step-loop-then_part
decreases-measure_step-loop-then_part g l = size (statement_of l.current)

abbrev pub decreases-measure_block : goal.decreases-measure_block
decreases-measure_block g l = 2 * block_size (block_of l.block.now) + 1

abbrev pub decreases-measure_step : goal.decreases-measure_step
decreases-measure_step g l = 2 * size (statement_of l.step.now)
