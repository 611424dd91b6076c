use Rattle.std.proofs.Common.{ℕ, ℤ, pos, ◌*◌, ◌^◌, ◌+ℤ◌, ◌-ℤ◌, ◌*ℤ◌, ◌≡◌, ap, sym, subst, ◌∙◌, rules}
use Rattle.std.proofs.lemmas.Int.{to_z-of_z}
use Rattle.std.specs.Int.{w128, cast_signed, cast_unsigned}
use Rattle.std.specs.Int.RustNames.{FitsSigned}
use Rattle.mh_codes.specs.Integers.{slice_of}
use Rattle.mh_codes.proofs.Slices.{slice_below}
use Rattle.mh_design.specs.Assignments.{replaced}
use Rattle.mh_signals.proofs.Parts.{cleared_fits, moved_fits, value_fits, replaced_fits}
use Rattle.mh_signals.proofs.part.replaced.Goals as goal

abbrev word : ℤ → ℤ
word z = cast_signed w128 (cast_unsigned w128 z)

module _ (c : goal.After-slice) where
  abbrev before : ℕ
  before = slice_of c.args.i c.args.j c.args.z

  abbrev step : ℕ
  step = 2 ^ c.args.j

  slice_is : word c.slice.result ≡ pos before
  slice_is =
      let f : FitsSigned w128 c.slice.result = search rules in
      to_z-of_z w128 c.slice.result f ∙ c.slice.ensures ∙ ap (λ x. pos (slice_of c.args.i c.args.j x)) (to_z-of_z w128 c.args.z c.ranges.z)

  step_is : word c.power-step.result ≡ pos step
  step_is =
      let f : FitsSigned w128 c.power-step.result = search rules in
      to_z-of_z w128 c.power-step.result f ∙ c.power-step.ensures

  moved_is : word c.slice.result *ℤ word c.power-step.result ≡ pos before *ℤ pos step
  moved_is = ap (λ x. x *ℤ word c.power-step.result) slice_is ∙ ap (λ x. pos before *ℤ x) step_is

  moved : FitsSigned w128 (pos before *ℤ pos step)
  moved = moved_fits c.args.i c.args.j c.requires.some c.requires.places before (slice_below c.args.i c.args.j c.args.z)

  value_is : word c.args.v *ℤ word c.power-step.result ≡ c.args.v *ℤ pos step
  value_is =
      ap (λ x. x *ℤ word c.power-step.result) (to_z-of_z w128 c.args.v c.ranges.v) ∙ ap (λ x. c.args.v *ℤ x) step_is

  value : FitsSigned w128 (c.args.v *ℤ pos step)
  value = value_fits c.args.i c.args.j c.requires.some c.requires.places c.args.v c.requires.least c.requires.greatest

  cleared_is : word c.args.z -ℤ word (word c.slice.result *ℤ word c.power-step.result) ≡ c.args.z -ℤ pos (before * step)
  cleared_is =
      ap (λ x. x -ℤ word (word c.slice.result *ℤ word c.power-step.result)) (to_z-of_z w128 c.args.z c.ranges.z)
      ∙ ap (λ x. c.args.z -ℤ x) (ap word moved_is ∙ to_z-of_z w128 (pos before *ℤ pos step) moved)

  cleared : FitsSigned w128 (c.args.z -ℤ pos (before * step))
  cleared = cleared_fits c.args.i c.args.j c.requires.some c.requires.places c.args.z c.ranges.z

  sum_is : word (word c.args.z -ℤ word (word c.slice.result *ℤ word c.power-step.result)) +ℤ word (word c.args.v *ℤ word c.power-step.result) ≡ replaced c.args.i c.args.j c.args.z c.args.v
  sum_is =
      ap (λ x. x +ℤ word (word c.args.v *ℤ word c.power-step.result)) (ap word cleared_is ∙ to_z-of_z w128 (c.args.z -ℤ pos (before * step)) cleared)
      ∙ ap (λ x. (c.args.z -ℤ pos (before * step)) +ℤ x) (ap word value_is ∙ to_z-of_z w128 (c.args.v *ℤ pos step) value)

  all : FitsSigned w128 (replaced c.args.i c.args.j c.args.z c.args.v)
  all =
      replaced_fits c.args.i c.args.j c.requires.some c.requires.places c.args.z c.args.v c.ranges.z c.requires.least c.requires.greatest

pub overflow_mul-before : goal.overflow_mul-before
overflow_mul-before c = subst (FitsSigned w128) (sym (moved_is c)) (moved c)

pub overflow_mul-part : goal.overflow_mul-part
overflow_mul-part c = subst (FitsSigned w128) (sym (value_is c)) (value c)

pub overflow_sub-result : goal.overflow_sub-result
overflow_sub-result c = subst (FitsSigned w128) (sym (cleared_is c)) (cleared c)

pub overflow_add-result : goal.overflow_add-result
overflow_add-result c = subst (FitsSigned w128) (sym (sum_is c)) (all c)

pub returns : goal.returns
returns c = ap word (sum_is c) ∙ to_z-of_z w128 (replaced c.args.i c.args.j c.args.z c.args.v) (all c)
