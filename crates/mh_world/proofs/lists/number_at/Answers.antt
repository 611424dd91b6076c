use Rattle.std.proofs.Common.{◌≡◌, ◌/◌, ◌+◌, ◌+ℤ◌, ◌*ℤ◌, pos, Some, refl, ap, ◌∙◌, arith, rules}
use Rattle.std.proofs.lemmas.Int.{to_z-of_z, to_z_pos}
use Rattle.std.specs.Int.{w128}
use Rattle.std.specs.Int.RustNames.{FitsSigned}
use Rattle.mh_num.specs.Results.{in_i128}
use Rattle.mh_world.proofs.Turns.{even_is, half-outside, half_is, half_none, odd_is, stays-outside, sum_is, sum_none, sum_same}
use Rattle.mh_world.proofs.lists.number_at.Goals as goal

pub returns-in_err-half : goal.returns-in_err-half
returns-in_err-half c =
    c.from_residual.ensures
    ∙ half-outside c.args.from c.args.step (c.args.place / 2) c.args.place c.ranges.from (omega arith)
    (half_none c.args.step _ _ (c.args.place / 2) (to_z_pos w128 (c.args.place / 2) (omega arith)) (to_z-of_z w128 c.args.step c.ranges.step) c.in_err-half.ensures)

pub returns-in_err-middle : goal.returns-in_err-middle
returns-in_err-middle c =
    let fits : FitsSigned w128 c.in_ok-half.half = search rules in
    let half : c.in_ok-half.half ≡ pos (c.args.place / 2) *ℤ c.args.step =
    half_is c.args.step c.in_ok-half.half _ _ (c.args.place / 2) (to_z_pos w128 (c.args.place / 2) (omega arith)) (to_z-of_z w128 c.args.step c.ranges.step) c.in_ok-half.ensures in
    c.from_residual-in_err-middle.ensures
    ∙ stays-outside c.args.from c.args.step (c.args.place / 2) c.args.place c.ranges.from (omega arith)
    (sum_none c.args.from (pos (c.args.place / 2) *ℤ c.args.step) _ _ (to_z-of_z w128 c.args.from c.ranges.from) (to_z-of_z w128 c.in_ok-half.half fits ∙ half) c.in_err-middle.ensures)

pub returns-in_err-even : goal.returns-in_err-even
returns-in_err-even c =
    let fits : FitsSigned w128 c.in_ok-half.half = search rules in
    let fits_too : FitsSigned w128 c.in_ok-middle.middle = search rules in
    let half : c.in_ok-half.half ≡ pos (c.args.place / 2) *ℤ c.args.step =
    half_is c.args.step c.in_ok-half.half _ _ (c.args.place / 2) (to_z_pos w128 (c.args.place / 2) (omega arith)) (to_z-of_z w128 c.args.step c.ranges.step) c.in_ok-half.ensures in
    let middle : c.in_ok-middle.middle ≡ c.args.from +ℤ pos (c.args.place / 2) *ℤ c.args.step =
    sum_is c.args.from (pos (c.args.place / 2) *ℤ c.args.step) c.in_ok-middle.middle _ _ (to_z-of_z w128 c.args.from c.ranges.from) (to_z-of_z w128 c.in_ok-half.half fits ∙ half) c.in_ok-middle.ensures in
    c.from_residual-in_err-even.ensures
    ∙ stays-outside c.args.from c.args.step (c.args.place / 2 + c.args.place / 2) c.args.place c.ranges.from (omega arith)
    (sum_none (c.args.from +ℤ pos (c.args.place / 2) *ℤ c.args.step) (pos (c.args.place / 2) *ℤ c.args.step) _ _ (to_z-of_z w128 c.in_ok-middle.middle fits_too ∙ middle) (to_z-of_z w128 c.in_ok-half.half fits ∙ half) c.in_err-even.ensures
    ∙ ap in_i128 (even_is c.args.from c.args.step (c.args.place / 2 + c.args.place / 2) (c.args.place / 2) refl))

pub returns-then-place-eq0 : goal.returns-then-place-eq0
returns-then-place-eq0 c =
    let fits : FitsSigned w128 c.in_ok-half.half = search rules in
    let fits_too : FitsSigned w128 c.in_ok-middle.middle = search rules in
    let fits_even : FitsSigned w128 c.in_ok-even.even = search rules in
    let half : c.in_ok-half.half ≡ pos (c.args.place / 2) *ℤ c.args.step =
    half_is c.args.step c.in_ok-half.half _ _ (c.args.place / 2) (to_z_pos w128 (c.args.place / 2) (omega arith)) (to_z-of_z w128 c.args.step c.ranges.step) c.in_ok-half.ensures in
    let middle : c.in_ok-middle.middle ≡ c.args.from +ℤ pos (c.args.place / 2) *ℤ c.args.step =
    sum_is c.args.from (pos (c.args.place / 2) *ℤ c.args.step) c.in_ok-middle.middle _ _ (to_z-of_z w128 c.args.from c.ranges.from) (to_z-of_z w128 c.in_ok-half.half fits ∙ half) c.in_ok-middle.ensures in
    ap Some (to_z-of_z w128 c.in_ok-even.even fits_even)
    ∙ (c.in_ok-even.ensures
    ∙ ap in_i128 (sum_same (c.args.from +ℤ pos (c.args.place / 2) *ℤ c.args.step) (pos (c.args.place / 2) *ℤ c.args.step) _ _ (to_z-of_z w128 c.in_ok-middle.middle fits_too ∙ middle) (to_z-of_z w128 c.in_ok-half.half fits ∙ half)
    ∙ even_is c.args.from c.args.step c.args.place (c.args.place / 2) (omega arith)))

pub returns-else-place-eq0 : goal.returns-else-place-eq0
returns-else-place-eq0 c =
    let fits : FitsSigned w128 c.in_ok-half.half = search rules in
    let fits_too : FitsSigned w128 c.in_ok-middle.middle = search rules in
    let fits_even : FitsSigned w128 c.in_ok-even.even = search rules in
    let half : c.in_ok-half.half ≡ pos (c.args.place / 2) *ℤ c.args.step =
    half_is c.args.step c.in_ok-half.half _ _ (c.args.place / 2) (to_z_pos w128 (c.args.place / 2) (omega arith)) (to_z-of_z w128 c.args.step c.ranges.step) c.in_ok-half.ensures in
    let middle : c.in_ok-middle.middle ≡ c.args.from +ℤ pos (c.args.place / 2) *ℤ c.args.step =
    sum_is c.args.from (pos (c.args.place / 2) *ℤ c.args.step) c.in_ok-middle.middle _ _ (to_z-of_z w128 c.args.from c.ranges.from) (to_z-of_z w128 c.in_ok-half.half fits ∙ half) c.in_ok-middle.ensures in
    let even : c.in_ok-even.even ≡ (c.args.from +ℤ pos (c.args.place / 2) *ℤ c.args.step) +ℤ pos (c.args.place / 2) *ℤ c.args.step =
    sum_is (c.args.from +ℤ pos (c.args.place / 2) *ℤ c.args.step) (pos (c.args.place / 2) *ℤ c.args.step) c.in_ok-even.even _ _ (to_z-of_z w128 c.in_ok-middle.middle fits_too ∙ middle) (to_z-of_z w128 c.in_ok-half.half fits ∙ half) c.in_ok-even.ensures in
    c.add-else-place-eq0.ensures
    ∙ ap in_i128 (sum_same ((c.args.from +ℤ pos (c.args.place / 2) *ℤ c.args.step) +ℤ pos (c.args.place / 2) *ℤ c.args.step) c.args.step _ _ (to_z-of_z w128 c.in_ok-even.even fits_even ∙ even) (to_z-of_z w128 c.args.step c.ranges.step)
    ∙ odd_is c.args.from c.args.step c.args.place (c.args.place / 2) (omega arith))
