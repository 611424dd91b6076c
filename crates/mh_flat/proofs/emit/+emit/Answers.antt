use Rattle.std.proofs.Common.{◌≡◌, ◌++◌, arith, ap, sym, ◌∙◌, ◌+◌, subst, length, slice_index_or}
use Rattle.std.specs.Prelude.{reverse, ◌==◌}
use Rattle.mh_flat.specs.declared.code.Extent.{Extent}
use Rattle.mh_flow.specs.Flow.{IfStatement, Then, End, size, block_size}
use Rattle.mh_flat.specs.Body.{statement_of, block_of}
use Rattle.mh_flat.specs.Stands.{first, begun}
use Rattle.mh_flat.specs.Flat.{block_instructions}
use Rattle.mh_flat.specs.Extents.{HasAt, extent, front, extents_of, block_extents}
use Rattle.mh_flat.specs.Parts.{statement_of_parts}
use Rattle.mh_flat.proofs.Bodies.{nestings_sizes}
use Rattle.mh_flat.proofs.Measures.{after_one, has_front, else_block}
use Rattle.mh_flat.proofs.Emission.{BlockEmitted, block_emitted_head, block_emitted_step, reverse_last, next_is, emit_count, entry_within, entry_is, ChainEmitted, has_yes, has_no, long_yes, chain_on, chain_done}
use Rattle.mh_flat.proofs.emit.+emit.Goals as goal

pub emit_block-bounds-extents-place : goal.emit_block-bounds-extents-place
emit_block-bounds-extents-place g t c =
    let last = reverse_last c.loop-step.rest.items c.pop.new.self.items c.in-Some.step c.in-Some.ensures.items in
    let has = block_emitted_head c.args.extents.now c.args.instructions.now.items c.args.body.items c.args.exits.after c.args.exits.leave c.args.exits.again c.args.depth c.loop-step.instructions.items c.in-Some.step (reverse c.loop-step.rest.items) (reverse c.pop.new.self.items) c.loop-step.most last c.loop-step.invariant in
    let k : c.len-place.result ≡ length c.loop-step.instructions.items = c.len-place.ensures ∙ c.loop-step.instructions.ok.0 in
    omega (arith, k, entry_within c.args.extents.now (length c.loop-step.instructions.items) _ _ has)

pub emit_block-overflow_add-at : goal.emit_block-overflow_add-at
emit_block-overflow_add-at g t c =
    let last = reverse_last c.loop-step.rest.items c.pop.new.self.items c.in-Some.step c.in-Some.ensures.items in
    let has = block_emitted_head c.args.extents.now c.args.instructions.now.items c.args.body.items c.args.exits.after c.args.exits.leave c.args.exits.again c.args.depth c.loop-step.instructions.items c.in-Some.step (reverse c.loop-step.rest.items) (reverse c.pop.new.self.items) c.loop-step.most last c.loop-step.invariant in
    let k : c.len-place.result ≡ length c.loop-step.instructions.items = c.len-place.ensures ∙ c.loop-step.instructions.ok.0 in
    let whole : (slice_index_or c.args.extents.now c.len-place.result (extent 0 0)).whole ≡ size (statement_of c.in-Some.step) = ap (λ n. (slice_index_or c.args.extents.now n (extent 0 0)).whole) k ∙ ap (λ (x : Extent). x.whole) (entry_is c.args.extents.now (length c.loop-step.instructions.items) (extent (front (statement_of c.in-Some.step)) (size (statement_of c.in-Some.step))) (extent 0 0) _ has) in
    omega (arith, k, whole, ap (λ x. block_size (block_of x)) last, c.loop-step.invariant.long, c.requires.small)

pub emit_block-emit_step-requires : goal.emit_block-emit_step-requires
emit_block-emit_step-requires g t c κs within =
    let last = reverse_last c.loop-step.rest.items c.pop.new.self.items c.in-Some.step c.in-Some.ensures.items in
    let has = block_emitted_head c.args.extents.now c.args.instructions.now.items c.args.body.items c.args.exits.after c.args.exits.leave c.args.exits.again c.args.depth c.loop-step.instructions.items c.in-Some.step (reverse c.loop-step.rest.items) (reverse c.pop.new.self.items) c.loop-step.most last c.loop-step.invariant in
    let more = ap (λ x. block_size (block_of x)) last in
    (omega (arith, c.decreases, more, c.loop-step.invariant.long, c.loop-step.invariant.more), (within.0, (within.1.0, (within.1.1.0, (within.1.1.1.0, (within.1.1.1.1.0, (within.1.1.1.1.1, (omega (arith, more, c.loop-step.invariant.long, c.requires.small), (omega (arith, c.loop-step.invariant.more, c.requires.deep), (size (statement_of c.in-Some.step), has_front c.args.extents.now (length c.loop-step.instructions.items) (extents_of (statement_of c.in-Some.step) (size (statement_of c.in-Some.step))) _ has))))))))))

pub emit_block-loop-step-preserved : goal.emit_block-loop-step-preserved
emit_block-loop-step-preserved g t c =
    let last = reverse_last c.loop-step.rest.items c.pop.new.self.items c.in-Some.step c.in-Some.ensures.items in
    let has = block_emitted_head c.args.extents.now c.args.instructions.now.items c.args.body.items c.args.exits.after c.args.exits.leave c.args.exits.again c.args.depth c.loop-step.instructions.items c.in-Some.step (reverse c.loop-step.rest.items) (reverse c.pop.new.self.items) c.loop-step.most last c.loop-step.invariant in
    let k : c.len-place.result ≡ length c.loop-step.instructions.items = c.len-place.ensures ∙ c.loop-step.instructions.ok.0 in
    let whole : (slice_index_or c.args.extents.now c.len-place.result (extent 0 0)).whole ≡ size (statement_of c.in-Some.step) = ap (λ n. (slice_index_or c.args.extents.now n (extent 0 0)).whole) k ∙ ap (λ (x : Extent). x.whole) (entry_is c.args.extents.now (length c.loop-step.instructions.items) (extent (front (statement_of c.in-Some.step)) (size (statement_of c.in-Some.step))) (extent 0 0) _ has) in
    let place : c.len-place.result + (slice_index_or c.args.extents.now c.len-place.result (extent 0 0)).whole ≡ length c.loop-step.instructions.items + size (statement_of c.in-Some.step) = omega (arith, k, whole) in
    let empty : c.is_empty.result ≡ (length c.pop.new.self.items == 0) = c.is_empty.ensures ∙ ap (λ n. n == 0) c.pop.new.self.ok.0 in
    let next = next_is c.pop.new.self.items (c.len-place.result + (slice_index_or c.args.extents.now c.len-place.result (extent 0 0)).whole) c.args.exits.after c.next_position-after.result c.is_empty.result empty c.next_position-after.ensures ∙ ap (λ k. first k (block_of (reverse c.pop.new.self.items)) c.args.exits.after) place in
    subst (λ m. BlockEmitted c.args.extents.now c.args.instructions.now.items c.args.body.items c.args.exits.after c.args.exits.leave c.args.exits.again c.args.depth c.emit_step.new.instructions.items (reverse c.pop.new.self.items) m) (sym c.max-most.ensures) (block_emitted_step c.args.extents.now c.args.instructions.now.items c.args.body.items c.args.exits.after c.args.exits.leave c.args.exits.again c.args.depth c.loop-step.instructions.items c.emit_step.new.instructions.items c.in-Some.step (reverse c.loop-step.rest.items) (reverse c.pop.new.self.items) c.loop-step.most c.in_ok-inner.inner c.next_position-after.result last c.loop-step.invariant next c.in_ok-inner.ensures.items c.in_ok-inner.ensures.depth)

pub emit_other-overflow_add-result : goal.emit_other-overflow_add-result
emit_other-overflow_add-result g t c =
    omega (arith, ap (λ p. size (statement_of_parts p)) c.in-Count.is, c.in_ok-inner-in-Count.ensures.depth, nestings_sizes (block_of c.in-Count.body.items), c.requires.small)

pub emit_other-returns-in_ok-inner-in-Count-clause-items : goal.emit_other-returns-in_ok-inner-in-Count-clause-items
emit_other-returns-in_ok-inner-in-Count-clause-items g t c =
    emit_count c.args.instructions.now.items c.push_instruction-in-Count.new.instructions.items c.len-place.result c.args.depth (c.len-place.ensures ∙ c.args.instructions.now.ok.0) c.args.exits.after c.args.exits.leave c.args.exits.again c.emit_block-in-Count.new.instructions.items (statement_of_parts c.args.parts) c.in-Count.target c.in-Count.from c.in-Count.to c.in-Count.step (block_of c.in-Count.body.items) c.start_of-first-in-Count.result (ap statement_of_parts c.in-Count.is) (c.start_of-first-in-Count.ensures ∙ ap (λ x. first (c.len-place.result + 1) (block_of x) (begun c.len-place.result)) c.deref-in-Count.ensures.value) c.in_ok-push_instruction-in-Count.ensures c.in_ok-inner-in-Count.ensures.items

pub emit_step-bounds-extents-place : goal.emit_step-bounds-extents-place
emit_step-bounds-extents-place g t c =
    let k : c.len-place.result ≡ length c.loop-test.instructions.items = c.len-place.ensures ∙ c.loop-test.instructions.ok.0 in
    omega (arith, k, entry_within c.args.extents.now (length c.loop-test.instructions.items) _ _ c.loop-test.invariant.has)

pub emit_step-overflow_add-place-in-If : goal.emit_step-overflow_add-place-in-If
emit_step-overflow_add-place-in-If g t c =
    let k : c.len-place.result ≡ length c.loop-test.instructions.items = c.len-place.ensures ∙ c.loop-test.instructions.ok.0 in
    let branch : statement_of c.loop-test.current ≡ IfStatement c.in-If.test (block_of c.in-If.then_part.items) (block_of c.in-If.else_part.items) = sym c.in-If.ensures in
    let part : (slice_index_or c.args.extents.now c.len-place.result (extent 0 0)).front ≡ 1 + block_size (block_of c.in-If.then_part.items) = ap (λ n. (slice_index_or c.args.extents.now n (extent 0 0)).front) k ∙ ap (λ (x : Extent). x.front) (entry_is c.args.extents.now (length c.loop-test.instructions.items) _ (extent 0 0) _ c.loop-test.invariant.has) ∙ ap front branch in
    omega (arith, k, part, ap size branch, c.loop-test.invariant.long, c.requires.small)

pub emit_step-emit_block-requires : goal.emit_step-emit_block-requires
emit_step-emit_block-requires g t c κs within =
    let branch : statement_of c.loop-test.current ≡ IfStatement c.in-If.test (block_of c.in-If.then_part.items) (block_of c.in-If.else_part.items) = sym c.in-If.ensures in
    let l1 : length c.push_instruction.new.instructions.items ≡ length c.loop-test.instructions.items + 1 = after_one _ _ _ c.in_ok-push_instruction-in-If.ensures in
    (omega (arith, c.decreases, ap size branch, c.loop-test.invariant.long, c.loop-test.invariant.more), (within.0, (within.1.0, (within.1.1.0, (within.1.1.1.0, (within.1.1.1.1.0, (within.1.1.1.1.1, (omega (arith, l1, ap size branch, c.loop-test.invariant.long, c.requires.small), (omega (arith, l1, c.loop-test.invariant.more, c.requires.deep), has_yes c.args.extents.now c.args.instructions.now.items (statement_of c.args.step) c.args.exits.after c.args.exits.leave c.args.exits.again c.args.depth c.loop-test.instructions.items c.push_instruction.new.instructions.items (statement_of c.loop-test.current) c.in-If.test _ (block_of c.in-If.else_part.items) c.loop-test.most c.loop-test.invariant branch l1)))))))))

pub emit_step-emit_block-requires-in-None : goal.emit_step-emit_block-requires-in-None
emit_step-emit_block-requires-in-None g t c κs within =
    let branch : statement_of c.loop-test.current ≡ IfStatement c.in-If.test (block_of c.in-If.then_part.items) (block_of c.in-If.else_part.items) = sym c.in-If.ensures in
    let l1 : length c.push_instruction.new.instructions.items ≡ length c.loop-test.instructions.items + 1 = after_one _ _ _ c.in_ok-push_instruction-in-If.ensures in
    let l2 = long_yes c.args.extents.now c.args.instructions.now.items (statement_of c.args.step) c.args.exits.after c.args.exits.leave c.args.exits.again c.args.depth c.loop-test.instructions.items c.push_instruction.new.instructions.items c.emit_block.new.instructions.items (block_of c.in-If.then_part.items) l1 c.in_ok-then_depth-in-If.ensures.items in
    let rest = ap block_of c.in-None.ensures.0 in
    let has = has_no c.args.extents.now c.args.instructions.now.items (statement_of c.args.step) c.args.exits.after c.args.exits.leave c.args.exits.again c.args.depth c.loop-test.instructions.items c.emit_block.new.instructions.items (statement_of c.loop-test.current) c.in-If.test (block_of c.in-If.then_part.items) (block_of c.in-If.else_part.items) c.loop-test.most c.loop-test.invariant branch l2 in
    (omega (arith, c.decreases, ap block_size rest, ap size branch, c.loop-test.invariant.long, c.loop-test.invariant.more), (within.0, (within.1.0, (within.1.1.0, (within.1.1.1.0, (within.1.1.1.1.0, (within.1.1.1.1.1, (omega (arith, l2, ap block_size rest, ap size branch, c.loop-test.invariant.long, c.requires.small), (omega (arith, l2, c.loop-test.invariant.more, c.requires.deep), subst (λ x. HasAt c.args.extents.now (length c.emit_block.new.instructions.items) x) (else_block c.in-If.else_part.items c.in-None.ensures.1 ∙ ap block_extents (sym rest)) has)))))))))

pub emit_step-returns-in-None-clause-items : goal.emit_step-returns-in-None-clause-items
emit_step-returns-in-None-clause-items g t c =
    let k : c.len-place.result ≡ length c.loop-test.instructions.items = c.len-place.ensures ∙ c.loop-test.instructions.ok.0 in
    let branch : statement_of c.loop-test.current ≡ IfStatement c.in-If.test (block_of c.in-If.then_part.items) (block_of c.in-If.else_part.items) = sym c.in-If.ensures in
    let part : (slice_index_or c.args.extents.now c.len-place.result (extent 0 0)).front ≡ 1 + block_size (block_of c.in-If.then_part.items) = ap (λ n. (slice_index_or c.args.extents.now n (extent 0 0)).front) k ∙ ap (λ (x : Extent). x.front) (entry_is c.args.extents.now (length c.loop-test.instructions.items) _ (extent 0 0) _ c.loop-test.invariant.has) ∙ ap front branch in
    let one : c.start_of-then_start.result ≡ first (length c.loop-test.instructions.items + 1) (block_of c.in-If.then_part.items) c.args.exits.after = c.start_of-then_start.ensures ∙ ap (λ x. first (c.len-place.result + 1) (block_of x) c.args.exits.after) c.deref.ensures.value ∙ ap (λ n. first (n + 1) (block_of c.in-If.then_part.items) c.args.exits.after) k in
    let place : c.len-place.result + (slice_index_or c.args.extents.now c.len-place.result (extent 0 0)).front ≡ length c.loop-test.instructions.items + 1 + block_size (block_of c.in-If.then_part.items) = omega (arith, k, part) in
    let two : c.start_of-else_start.result ≡ first (length c.loop-test.instructions.items + 1 + block_size (block_of c.in-If.then_part.items)) (block_of c.in-If.else_part.items) c.args.exits.after = c.start_of-else_start.ensures ∙ ap (λ x. first (c.len-place.result + (slice_index_or c.args.extents.now c.len-place.result (extent 0 0)).front) (block_of x) c.args.exits.after) c.deref-in-If.ensures.value ∙ ap (λ n. first n (block_of c.in-If.else_part.items) c.args.exits.after) place in
    chain_done c.args.extents.now c.args.instructions.now.items (statement_of c.args.step) c.args.exits.after c.args.exits.leave c.args.exits.again c.args.depth c.loop-test.instructions.items c.push_instruction.new.instructions.items c.emit_block.new.instructions.items c.emit_block-in-None.new.instructions.items (statement_of c.loop-test.current) c.in-If.test (block_of c.in-If.then_part.items) (block_of c.in-If.else_part.items) c.start_of-then_start.result c.start_of-else_start.result c.loop-test.most c.loop-test.invariant branch one two c.in_ok-push_instruction-in-If.ensures c.in_ok-then_depth-in-If.ensures.items (c.in_ok-else_depth-in-None.ensures.items ∙ ap (λ x. c.emit_block.new.instructions.items ++ block_instructions (block_of x) (length c.emit_block.new.instructions.items) c.args.exits.after c.args.exits.leave c.args.exits.again c.args.depth) c.in-None.ensures.0)

pub emit_step-loop-test-preserved : goal.emit_step-loop-test-preserved
emit_step-loop-test-preserved g t c =
    let k : c.len-place.result ≡ length c.loop-test.instructions.items = c.len-place.ensures ∙ c.loop-test.instructions.ok.0 in
    let branch : statement_of c.loop-test.current ≡ IfStatement c.in-If.test (block_of c.in-If.then_part.items) (block_of c.in-If.else_part.items) = sym c.in-If.ensures in
    let part : (slice_index_or c.args.extents.now c.len-place.result (extent 0 0)).front ≡ 1 + block_size (block_of c.in-If.then_part.items) = ap (λ n. (slice_index_or c.args.extents.now n (extent 0 0)).front) k ∙ ap (λ (x : Extent). x.front) (entry_is c.args.extents.now (length c.loop-test.instructions.items) _ (extent 0 0) _ c.loop-test.invariant.has) ∙ ap front branch in
    let one : c.start_of-then_start.result ≡ first (length c.loop-test.instructions.items + 1) (block_of c.in-If.then_part.items) c.args.exits.after = c.start_of-then_start.ensures ∙ ap (λ x. first (c.len-place.result + 1) (block_of x) c.args.exits.after) c.deref.ensures.value ∙ ap (λ n. first (n + 1) (block_of c.in-If.then_part.items) c.args.exits.after) k in
    let place : c.len-place.result + (slice_index_or c.args.extents.now c.len-place.result (extent 0 0)).front ≡ length c.loop-test.instructions.items + 1 + block_size (block_of c.in-If.then_part.items) = omega (arith, k, part) in
    let two : c.start_of-else_start.result ≡ first (length c.loop-test.instructions.items + 1 + block_size (block_of c.in-If.then_part.items)) (block_of c.in-If.else_part.items) c.args.exits.after = c.start_of-else_start.ensures ∙ ap (λ x. first (c.len-place.result + (slice_index_or c.args.extents.now c.len-place.result (extent 0 0)).front) (block_of x) c.args.exits.after) c.deref-in-If.ensures.value ∙ ap (λ n. first n (block_of c.in-If.else_part.items) c.args.exits.after) place in
    let only : block_of c.in-If.else_part.items ≡ Then (statement_of c.in-Some.only) End = ap block_of c.in-Some.ensures in
    subst (λ m. ChainEmitted c.args.extents.now c.args.instructions.now.items (statement_of c.args.step) c.args.exits.after c.args.exits.leave c.args.exits.again c.args.depth c.emit_block.new.instructions.items (statement_of c.in-Some.only) m) (sym c.max-most.ensures) (chain_on c.args.extents.now c.args.instructions.now.items (statement_of c.args.step) c.args.exits.after c.args.exits.leave c.args.exits.again c.args.depth c.loop-test.instructions.items c.push_instruction.new.instructions.items c.emit_block.new.instructions.items (statement_of c.loop-test.current) (statement_of c.in-Some.only) c.in-If.test (block_of c.in-If.then_part.items) c.start_of-then_start.result c.start_of-else_start.result c.loop-test.most c.in_ok-then_depth-in-If.then_depth c.loop-test.invariant (branch ∙ ap (IfStatement c.in-If.test (block_of c.in-If.then_part.items)) only) one (two ∙ ap (λ b. first (length c.loop-test.instructions.items + 1 + block_size (block_of c.in-If.then_part.items)) b c.args.exits.after) only) c.in_ok-push_instruction-in-If.ensures c.in_ok-then_depth-in-If.ensures.items c.in_ok-then_depth-in-If.ensures.depth)
