use Rattle.std.proofs.Common.{ap, sym, ◌∙◌, Ok, Err, rules, arith}
use Rattle.std.specs.Option.{option_map_or}
use Rattle.std.proofs.lemmas.Int.{to_z-of_z}
use Rattle.std.specs.Int.{w128}
use Rattle.std.specs.Int.RustNames.{FitsSigned}
use Rattle.mh_design.specs.Values.{as_bits, NumberTooWide}
use Rattle.mh_gen.proofs.Operands.{left-next, left-stops, left-ends}
use Rattle.mh_gen.proofs.eval.+values.Goals as goal

pub joined-returns-in-Some : goal.joined-returns-in-Some
joined-returns-in-Some t c =
    let f : FitsSigned w128 c.in-Some.z = search rules in
    ap Ok (c.bits.ensures ∙ ap (as_bits c.loop-part.width) (to_z-of_z w128 c.in-Some.z f))
    ∙ ap (λ o. option_map_or (λ z. Ok (as_bits c.loop-part.width z)) o (Err NumberTooWide)) (sym c.in-Some.is)
    ∙ left-ends c.args.s.now c.args.parts.now c.loop-part.part-index c.loop-part.number c.loop-part.width (omega arith)
    ∙ c.loop-part.invariant.same

pub joined-returns-in-None : goal.joined-returns-in-None
joined-returns-in-None t c =
    ap Err c.too_wide.ensures
    ∙ ap (λ o. option_map_or (λ z. Ok (as_bits c.loop-part.width z)) o (Err NumberTooWide)) (sym c.in-None.is)
    ∙ left-ends c.args.s.now c.args.parts.now c.loop-part.part-index c.loop-part.number c.loop-part.width (omega arith)
    ∙ c.loop-part.invariant.same

pub joined-loop-part-preserved : goal.joined-loop-part-preserved
joined-loop-part-preserved t c =
    record { same = left-next c.args.s.now c.args.parts.now c.loop-part.part-index c.part-item.result c.loop-part.number c.one_more-number.result c.loop-part.width c.wider-width.result c.width.result c.in-Ok.a (omega arith) c.part-item.is c.in-Ok.ensures c.one_more-number.ensures.exact c.width.ensures.exact c.wider-width.ensures ∙ c.loop-part.invariant.same; natural = c.one_more-number.ensures.natural; narrow = omega arith }

pub joined-returns-in-Err : goal.joined-returns-in-Err
joined-returns-in-Err t c =
    left-stops c.args.s.now c.args.parts.now c.loop-part.part-index c.part-item.result c.loop-part.number c.loop-part.width _ (omega arith) c.part-item.is c.in-Err.ensures ∙ c.loop-part.invariant.same
