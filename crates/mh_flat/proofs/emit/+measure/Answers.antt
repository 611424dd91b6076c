use Rattle.std.proofs.Common.{◌≡◌, arith, ap, ◌∙◌, ◌++◌, length, sym}
use Rattle.mh_flow.specs.Flow.{block_size}
use Rattle.mh_flat.specs.Body.{statement_of, block_of, statement_if, statement_while, statement_count}
use Rattle.mh_flat.specs.Extents.{block_extents, extents_of}
use Rattle.mh_flat.proofs.Bodies.{size_if, size_while, size_count}
use Rattle.mh_flat.proofs.Measures.{after_one, block_next, with_front, front_long, chain_end, chain_next, chain_else, else_block, drop_item, only_item}
use Rattle.mh_flat.proofs.emit.+measure.Goals as goal

pub measure_block-measure_step-requires : goal.measure_block-measure_step-requires
measure_block-measure_step-requires g t c κs within =
    let e = drop_item c.args.block.now c.loop-step.step-index c.step-item.result c.loop-step-test.true c.step-item.is in
    (omega (arith, c.decreases, ap block_size e, c.loop-step.invariant.long, c.loop-step.invariant.more), (within.0, (within.1.0, (within.1.1.0, (within.1.1.1.0, (within.1.1.1.1.0, (within.1.1.1.1.1, omega (arith, ap block_size e, c.loop-step.invariant.long, c.requires.small))))))))

pub measure_block-loop-step-preserved : goal.measure_block-loop-step-preserved
measure_block-loop-step-preserved g t c =
    let e = drop_item c.args.block.now c.loop-step.step-index c.step-item.result c.loop-step-test.true c.step-item.is in
    let at : c.len-at.result ≡ length c.loop-step.extents.items = c.len-at.ensures ∙ c.loop-step.extents.ok.0 in
    block_next c.args.extents.now.items c.loop-step.extents.items c.measure_step.new.extents.items c.set_whole.new.extents.items (block_of c.args.block.now) _ _ (statement_of c.step-item.result) e c.loop-step.invariant c.in_ok-measure_step.ensures (rw (sym at) c.set_whole.ensures)

pub measure_step-measure_block-requires : goal.measure_step-measure_block-requires
measure_step-measure_block-requires g t c κs within =
    (omega (arith, c.decreases, c.loop-then_part.invariant.smaller, size_if _ _ _ _ c.in-If.is, ap (λ x. block_size (block_of x)) c.deref.ensures.value), (within.0, (within.1.0, (within.1.1.0, (within.1.1.1.0, (within.1.1.1.1.0, (within.1.1.1.1.1, omega (arith, after_one _ _ _ c.in_ok-reserve.ensures, c.loop-then_part.invariant.long, size_if _ _ _ _ c.in-If.is, ap (λ x. block_size (block_of x)) c.deref.ensures.value, c.requires.small))))))))

pub measure_step-measure_block-requires-then-len-ne1 : goal.measure_step-measure_block-requires-then-len-ne1
measure_step-measure_block-requires-then-len-ne1 g t c κs within =
    let at : c.len-at.result ≡ length c.loop-then_part.extents.items = c.len-at.ensures ∙ c.loop-then_part.extents.ok.0 in
    let then = with_front c.loop-then_part.extents.items c.reserve.new.extents.items c.measure_block.new.extents.items c.set_front.new.extents.items (block_of c.in-If.then_part.items) c.in_ok-reserve.ensures (c.in_ok-measure_block-in-If.ensures ∙ ap (λ x. c.reserve.new.extents.items ++ block_extents (block_of x)) c.deref.ensures.value) (rw (sym at) c.set_front.ensures) in
    (omega (arith, c.decreases, c.loop-then_part.invariant.smaller, size_if _ _ _ _ c.in-If.is, ap (λ x. block_size (block_of x)) c.deref-then-len-ne1.ensures.value), (within.0, (within.1.0, (within.1.1.0, (within.1.1.1.0, (within.1.1.1.1.0, (within.1.1.1.1.1, omega (arith, front_long _ _ _ then, c.loop-then_part.invariant.long, size_if _ _ _ _ c.in-If.is, ap (λ x. block_size (block_of x)) c.deref-then-len-ne1.ensures.value, c.requires.small))))))))

pub measure_step-returns-then-len-ne1 : goal.measure_step-returns-then-len-ne1
measure_step-returns-then-len-ne1 g t c =
    let at : c.len-at.result ≡ length c.loop-then_part.extents.items = c.len-at.ensures ∙ c.loop-then_part.extents.ok.0 in
    let then = with_front c.loop-then_part.extents.items c.reserve.new.extents.items c.measure_block.new.extents.items c.set_front.new.extents.items (block_of c.in-If.then_part.items) c.in_ok-reserve.ensures (c.in_ok-measure_block-in-If.ensures ∙ ap (λ x. c.reserve.new.extents.items ++ block_extents (block_of x)) c.deref.ensures.value) (rw (sym at) c.set_front.ensures) in
    let several : length c.in-If.else_part.items ≡ 1 → ⊥ = λ e. c.if-len-ne1.true (c.len.ensures ∙ c.in-If.else_part.ok.0 ∙ e) in
    chain_end c.args.extents.now.items c.loop-then_part.extents.items _ (statement_of c.args.step.now) (statement_of c.loop-then_part.current.now) c.loop-then_part.invariant (chain_else c.loop-then_part.extents.items c.set_front.new.extents.items _ (statement_of c.loop-then_part.current.now) c.in-If.field-0 (block_of c.in-If.then_part.items) (block_of c.in-If.else_part.items) (ap statement_of c.in-If.is ∙ statement_if _ _ _) then (else_block c.in-If.else_part.items several) (c.in_ok-measure_block-in-If-2.ensures ∙ ap (λ x. c.set_front.new.extents.items ++ block_extents (block_of x)) c.deref-then-len-ne1.ensures.value))

pub measure_step-loop-then_part-smaller : goal.measure_step-loop-then_part-smaller
measure_step-loop-then_part-smaller g t c =
    let only = only_item c.in-If.else_part.items c.index-current.result.now (sym c.in-If.else_part.ok.0 ∙ sym c.len.ensures ∙ c.if-len-ne1.false) c.index-current.ensures in
    omega (arith, size_if _ _ _ _ c.in-If.is, ap block_size only)

pub measure_step-loop-then_part-preserved : goal.measure_step-loop-then_part-preserved
measure_step-loop-then_part-preserved g t c =
    let at : c.len-at.result ≡ length c.loop-then_part.extents.items = c.len-at.ensures ∙ c.loop-then_part.extents.ok.0 in
    let then = with_front c.loop-then_part.extents.items c.reserve.new.extents.items c.measure_block.new.extents.items c.set_front.new.extents.items (block_of c.in-If.then_part.items) c.in_ok-reserve.ensures (c.in_ok-measure_block-in-If.ensures ∙ ap (λ x. c.reserve.new.extents.items ++ block_extents (block_of x)) c.deref.ensures.value) (rw (sym at) c.set_front.ensures) in
    let only = only_item c.in-If.else_part.items c.index-current.result.now (sym c.in-If.else_part.ok.0 ∙ sym c.len.ensures ∙ c.if-len-ne1.false) c.index-current.ensures in
    chain_next c.args.extents.now.items c.loop-then_part.extents.items c.set_front.new.extents.items (statement_of c.args.step.now) (statement_of c.loop-then_part.current.now) (statement_of c.index-current.result.now) c.in-If.field-0 (block_of c.in-If.then_part.items) (block_of c.in-If.else_part.items) c.loop-then_part.invariant (ap statement_of c.in-If.is ∙ statement_if _ _ _) only then

pub measure_step-measure_block-requires-in-While : goal.measure_step-measure_block-requires-in-While
measure_step-measure_block-requires-in-While g t c κs within =
    (omega (arith, c.decreases, c.loop-then_part.invariant.smaller, size_while _ _ _ c.in-While.is, ap (λ x. block_size (block_of x)) c.deref-in-While.ensures.value), (within.0, (within.1.0, (within.1.1.0, (within.1.1.1.0, (within.1.1.1.1.0, (within.1.1.1.1.1, omega (arith, after_one _ _ _ c.in_ok-reserve.ensures, c.loop-then_part.invariant.long, size_while _ _ _ c.in-While.is, ap (λ x. block_size (block_of x)) c.deref-in-While.ensures.value, c.requires.small))))))))

pub measure_step-returns-in-While : goal.measure_step-returns-in-While
measure_step-returns-in-While g t c =
    let at : c.len-at.result ≡ length c.loop-then_part.extents.items = c.len-at.ensures ∙ c.loop-then_part.extents.ok.0 in
    let all = with_front c.loop-then_part.extents.items c.reserve.new.extents.items c.measure_block-in-While.new.extents.items c.set_front-in-While.new.extents.items (block_of c.in-While.body.items) c.in_ok-reserve.ensures (c.in_ok-measure_block-in-While.ensures ∙ ap (λ x. c.reserve.new.extents.items ++ block_extents (block_of x)) c.deref-in-While.ensures.value) (rw (sym at) c.set_front-in-While.ensures) in
    chain_end c.args.extents.now.items c.loop-then_part.extents.items _ (statement_of c.args.step.now) (statement_of c.loop-then_part.current.now) c.loop-then_part.invariant (all ∙ ap (λ s. c.loop-then_part.extents.items ++ extents_of s 0) (sym (ap statement_of c.in-While.is ∙ statement_while _ _)))

pub measure_step-measure_block-requires-in-Count : goal.measure_step-measure_block-requires-in-Count
measure_step-measure_block-requires-in-Count g t c κs within =
    (omega (arith, c.decreases, c.loop-then_part.invariant.smaller, size_count _ _ _ _ _ _ c.in-Count.is, ap (λ x. block_size (block_of x)) c.deref-in-Count.ensures.value), (within.0, (within.1.0, (within.1.1.0, (within.1.1.1.0, (within.1.1.1.1.0, (within.1.1.1.1.1, omega (arith, after_one _ _ _ c.in_ok-reserve.ensures, c.loop-then_part.invariant.long, size_count _ _ _ _ _ _ c.in-Count.is, ap (λ x. block_size (block_of x)) c.deref-in-Count.ensures.value, c.requires.small))))))))

pub measure_step-returns-in-Count : goal.measure_step-returns-in-Count
measure_step-returns-in-Count g t c =
    let at : c.len-at.result ≡ length c.loop-then_part.extents.items = c.len-at.ensures ∙ c.loop-then_part.extents.ok.0 in
    let all = with_front c.loop-then_part.extents.items c.reserve.new.extents.items c.measure_block-in-Count.new.extents.items c.set_front-in-Count.new.extents.items (block_of c.in-Count.body.items) c.in_ok-reserve.ensures (c.in_ok-measure_block-in-Count.ensures ∙ ap (λ x. c.reserve.new.extents.items ++ block_extents (block_of x)) c.deref-in-Count.ensures.value) (rw (sym at) c.set_front-in-Count.ensures) in
    chain_end c.args.extents.now.items c.loop-then_part.extents.items _ (statement_of c.args.step.now) (statement_of c.loop-then_part.current.now) c.loop-then_part.invariant (all ∙ ap (λ s. c.loop-then_part.extents.items ++ extents_of s 0) (sym (ap statement_of c.in-Count.is ∙ statement_count _ _ _ _ _)))
