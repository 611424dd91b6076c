use Rattle.std.proofs.Common.{ℤ, pos, List, map, length, slice_set, Ok, Err, ◌≡◌, ◌<◌, refl, ap, sym, ◌∙◌, arith, rules, slice_index_or}
use Rattle.std.proofs.lemmas.Int.{to_z-of_z}
use Rattle.std.proofs.lemmas.List.{get_or_default}
use Rattle.std.specs.Int.{w128, cast_signed, cast_unsigned}
use Rattle.std.specs.Int.RustNames.{FitsSigned}
use Rattle.mh_design.specs.Values.{Signals}
use Rattle.mh_design.specs.Assignments.{part_taken, part_set}
use Rattle.mh_signals.specs.Seen.{limits_seen}
use Rattle.mh_signals.proofs.Values.{part_set-is}
use Rattle.mh_signals.proofs.signals.Signals.set_part.Goals as goal

pub returns-in-Ok-clause-ok : goal.returns-in-Ok-clause-ok
returns-in-Ok-clause-ok c =
    let e = ap (λ t. length t.values) c.self.view_is in
    let there : c.args.s < length c.self.inside.limits.items = omega (arith, e, c.self.invariant.0, c.requires.there) in
    let pending : c.index-2.result.now ≡ slice_index_or c.self.inside.pending.items c.args.s (pos 0) = c.index-2.ensures ∙ get_or_default c.self.inside.pending.items c.args.s c.index-2.result.now (pos 0) (omega (arith, e, c.self.invariant.1, c.requires.there)) in
    let given : List ℤ → Signals = λ ps. record { limits = map limits_seen c.self.inside.limits.items; values = c.self.inside.values.items; pending = ps; waiters = c.self.inside.waiters.items } in
    let fits : FitsSigned w128 c.in-Ok.next = search rules in
    let before : FitsSigned w128 c.index-2.result.now = search rules in
    ap (λ t. part_set t c.args.s c.args.i c.args.j c.args.v) (sym c.self.view_is)
    ∙ part_set-is c.self.inside.limits.items c.self.inside.values.items c.self.inside.pending.items c.self.inside.waiters.items c.args.s c.index.result.now there c.index.ensures c.args.i c.args.j c.args.v c.index-2.result.now (Ok c.in-Ok.next) pending (c.in-Ok.ensures ∙ ap (λ x. part_taken (limits_seen c.index.result.now) c.args.i c.args.j x (cast_signed w128 (cast_unsigned w128 c.args.v))) (to_z-of_z w128 c.index-2.result.now before) ∙ ap (part_taken (limits_seen c.index.result.now) c.args.i c.args.j c.index-2.result.now) (to_z-of_z w128 c.args.v c.ranges.v))
    ∙ ap (λ ps. Ok (given ps)) (ap (slice_set c.self.inside.pending.items c.args.s) (sym (to_z-of_z w128 c.in-Ok.next fits)) ∙ sym c.put.ensures)

pub returns-in-Err-clause-err : goal.returns-in-Err-clause-err
returns-in-Err-clause-err c =
    let e = ap (λ t. length t.values) c.self.view_is in
    let there : c.args.s < length c.self.inside.limits.items = omega (arith, e, c.self.invariant.0, c.requires.there) in
    let pending : c.index-2.result.now ≡ slice_index_or c.self.inside.pending.items c.args.s (pos 0) = c.index-2.ensures ∙ get_or_default c.self.inside.pending.items c.args.s c.index-2.result.now (pos 0) (omega (arith, e, c.self.invariant.1, c.requires.there)) in
    let before : FitsSigned w128 c.index-2.result.now = search rules in
    (ap (λ t. part_set t c.args.s c.args.i c.args.j c.args.v) (sym c.self.view_is) ∙ part_set-is c.self.inside.limits.items c.self.inside.values.items c.self.inside.pending.items c.self.inside.waiters.items c.args.s c.index.result.now there c.index.ensures c.args.i c.args.j c.args.v c.index-2.result.now (Err c.in-Err.outside) pending (c.in-Err.ensures ∙ ap (λ x. part_taken (limits_seen c.index.result.now) c.args.i c.args.j x (cast_signed w128 (cast_unsigned w128 c.args.v))) (to_z-of_z w128 c.index-2.result.now before) ∙ ap (part_taken (limits_seen c.index.result.now) c.args.i c.args.j c.index-2.result.now) (to_z-of_z w128 c.args.v c.ranges.v)), refl)
