use Rattle.std.proofs.Common.{◌∙◌, ap, rules}
use Rattle.std.proofs.lemmas.Int.{to_z-of_z}
use Rattle.mh_num.specs.Results.{amount_of}
use Rattle.std.specs.Int.{w128}
use Rattle.std.specs.Int.RustNames.{FitsSigned}
use Rattle.mh_num.proofs.Shifts.{left_shift-none, left_shift-some}
use Rattle.mh_num.proofs.arithmetic.shl.Goals as goal

pub returns-in_err-part : goal.returns-in_err-part
returns-in_err-part c =
    let p : FitsSigned w128 c.power.result = search rules in
    c.from_residual-in_err-part.ensures ∙ left_shift-none c.args.a c.args.b c.power.result c.in_ok-amount.amount c.ranges.a p (c.in_ok-amount.ensures ∙ ap amount_of (to_z-of_z w128 c.args.b c.ranges.b)) c.power.ensures c.in_err-part.ensures

pub returns : goal.returns
returns c =
    let p : FitsSigned w128 c.power.result = search rules in
    let q : FitsSigned w128 c.power-2.result = search rules in
    let r : FitsSigned w128 c.in_ok-part.part = search rules in
    c.mul-2.ensures ∙ left_shift-some c.args.a c.args.b c.power.result c.in_ok-amount.amount c.ranges.a p (c.in_ok-amount.ensures ∙ ap amount_of (to_z-of_z w128 c.args.b c.ranges.b)) c.power.ensures c.in_ok-part.part c.power-2.result r q c.in_ok-part.ensures c.power-2.ensures
