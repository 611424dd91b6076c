use Rattle.std.proofs.Common.{◌+◌, ◌*◌, vec_len}
use Rattle.std.specs.Prelude.{reverse}
use Rattle.mh_flow.specs.Flow.{size, block_size}
use Rattle.mh_flat.specs.Body.{statement_of, block_of}
use Rattle.mh_flat.specs.Parts.{statement_of_parts}
use Rattle.mh_flat.proofs.Emission.{BlockEmitted, ChainEmitted}
use Rattle.mh_flat.proofs.emit.+emit.Given as goal

abbrev pub invariant-emit_block-loop-step : goal.invariant-emit_block-loop-step
invariant-emit_block-loop-step g l =
    BlockEmitted l.extents l.fn.instructions.items l.fn.body.items l.exits.after l.exits.leave l.exits.again l.depth l.instructions.items (reverse l.rest.items) l.most

abbrev pub decreases-emit_block-loop-step : goal.decreases-emit_block-loop-step
decreases-emit_block-loop-step g l = vec_len l.rest

abbrev pub invariant-emit_step-loop-test : goal.invariant-emit_step-loop-test
invariant-emit_step-loop-test g l =
    ChainEmitted l.extents l.fn.instructions.items (statement_of l.fn.step) l.exits.after l.exits.leave l.exits.again l.depth l.instructions.items (statement_of l.current) l.most

abbrev pub decreases-emit_step-loop-test : goal.decreases-emit_step-loop-test
decreases-emit_step-loop-test g l = size (statement_of l.current)

abbrev pub decreases-emit_block : goal.decreases-emit_block
decreases-emit_block g l = 3 * block_size (block_of l.body.items) + 2

abbrev pub decreases-emit_step : goal.decreases-emit_step
decreases-emit_step g l = 3 * size (statement_of l.step) + 1

abbrev pub decreases-emit_other : goal.decreases-emit_other
decreases-emit_other g l = 3 * size (statement_of_parts l.parts)
