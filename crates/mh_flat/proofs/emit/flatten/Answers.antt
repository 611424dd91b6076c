use Rattle.std.proofs.Common.{◌≡◌, ◌++◌, length, ap, sym, ◌∙◌, subst}
use Rattle.mh_flow.specs.Flow.{block_size}
use Rattle.mh_flat.specs.Body.{block_of}
use Rattle.mh_flat.specs.Extents.{HasAt, block_extents}
use Rattle.mh_flat.proofs.Measures.{has_all, length_extents}
use Rattle.mh_flat.proofs.Emission.{is_code}
use Rattle.mh_flat.proofs.emit.flatten.Goals as goal

pub emit_block-requires-clause-has : goal.emit_block-requires-clause-has
emit_block-requires-clause-has g c =
    let table : c.deref-2.result.now ≡ block_extents (block_of c.args.body.items) = c.deref-2.ensures.value ∙ c.in_ok-measure_block.ensures ∙ ap (λ x. x ++ block_extents (block_of c.deref.result.now)) c.new-extents.ensures.items ∙ ap (λ x. block_extents (block_of x)) c.deref.ensures.value in
    subst (λ n. HasAt c.deref-2.result.now n (block_extents (block_of c.args.body.items))) (sym (ap length c.new-instructions.ensures.items)) (subst (λ x. HasAt c.deref-2.result.now 0 x) table (has_all c.deref-2.result.now))

pub returns : goal.returns
returns g c =
    let table : c.measure_block.new.extents.items ≡ block_extents (block_of c.args.body.items) = c.in_ok-measure_block.ensures ∙ ap (λ x. x ++ block_extents (block_of c.deref.result.now)) c.new-extents.ensures.items ∙ ap (λ x. block_extents (block_of x)) c.deref.ensures.value in
    let long : c.len.result ≡ block_size (block_of c.args.body.items) = c.len.ensures ∙ c.measure_block.new.extents.ok.0 ∙ ap length table ∙ length_extents (block_of c.args.body.items) in
    is_code (block_of c.args.body.items) _ c.new-instructions.result.items c.len.result c.new-instructions.ensures.items c.in_ok-depth.ensures.items long c.requires c.in_ok-depth.ensures.depth
