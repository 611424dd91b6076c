use Rattle.std.proofs.Common.{ℤ, List, map, length, slice_set, Ok, Err, refl, ap, sym, ◌∙◌, arith, rules, ◌<◌}
use Rattle.std.proofs.lemmas.Int.{to_z-of_z}
use Rattle.std.specs.Int.{w128}
use Rattle.std.specs.Int.RustNames.{FitsSigned}
use Rattle.mh_design.specs.Values.{Signals}
use Rattle.mh_design.specs.Assignments.{taken}
use Rattle.mh_signals.specs.Holding.{held}
use Rattle.mh_signals.specs.Seen.{limits_seen}
use Rattle.mh_signals.proofs.Holdings.{held-is}
use Rattle.mh_signals.proofs.signals.Signals.hold.Goals as goal

pub returns-in-Ok-clause-ok : goal.returns-in-Ok-clause-ok
returns-in-Ok-clause-ok c =
    let there : c.args.s < length c.self.inside.limits.items = let v = ap (λ t. length t.values) c.self.view_is in omega (arith, v, c.self.invariant.0, c.requires) in
    let given : List ℤ → List ℤ → Signals = λ vs ps. record { limits = map limits_seen c.self.inside.limits.items; values = vs; pending = ps; waiters = c.self.inside.waiters.items } in
    let fits : FitsSigned w128 c.in-Ok.first = search rules in
    ap (λ t. held t c.args.s c.args.v) (sym c.self.view_is)
    ∙ held-is c.self.inside.limits.items c.self.inside.values.items c.self.inside.pending.items c.self.inside.waiters.items c.args.s c.index.result.now there c.index.ensures c.args.v (Ok c.in-Ok.first) (c.in-Ok.ensures ∙ ap (taken (limits_seen c.index.result.now)) (to_z-of_z w128 c.args.v c.ranges.v))
    ∙ ap (λ vs. Ok (given vs (slice_set c.self.inside.pending.items c.args.s c.in-Ok.first))) (ap (slice_set c.self.inside.values.items c.args.s) (sym (to_z-of_z w128 c.in-Ok.first fits)) ∙ sym c.put.ensures)
    ∙ ap (λ ps. Ok (given c.put.new.values.items ps)) (ap (slice_set c.self.inside.pending.items c.args.s) (sym (to_z-of_z w128 c.in-Ok.first fits)) ∙ sym c.put-in-Ok.ensures)

pub returns-in-Err-clause-err : goal.returns-in-Err-clause-err
returns-in-Err-clause-err c =
    let there : c.args.s < length c.self.inside.limits.items = let v = ap (λ t. length t.values) c.self.view_is in omega (arith, v, c.self.invariant.0, c.requires) in
    (ap (λ t. held t c.args.s c.args.v) (sym c.self.view_is) ∙ held-is c.self.inside.limits.items c.self.inside.values.items c.self.inside.pending.items c.self.inside.waiters.items c.args.s c.index.result.now there c.index.ensures c.args.v (Err c.in-Err.outside) (c.in-Err.ensures ∙ ap (taken (limits_seen c.index.result.now)) (to_z-of_z w128 c.args.v c.ranges.v)), refl)
