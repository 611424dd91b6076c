use Rattle.std.proofs.Common.{◌+ℤ◌, ◌-ℤ◌, ◌≡◌, ap, sym, ◌∙◌, subst, arith, rules}
use Rattle.std.proofs.lemmas.Int.{to_z-of_z}
use Rattle.std.specs.Int.{w128, cast_signed, cast_unsigned}
use Rattle.std.specs.Int.RustNames.{FitsSigned}
use Rattle.mh_codes.specs.Integers.{floor_mod}
use Rattle.mh_codes.specs.Ranges.{wrap_of}
use Rattle.mh_codes.proofs.Wrapping.{wrap_of_low, wrap_of_high}
use Rattle.mh_num.proofs.Ends.{word_wrap, fits_between, top_fits}
use Rattle.mh_num.proofs.bounds.Bounds.wrap.Goals as goal

module _ (c : goal.After-offset) where
  low_fits : FitsSigned w128 c.args.self.now.lo
  low_fits = search rules

  -- the sum is the wrapped number
  sum_is : cast_signed w128 (cast_unsigned w128 c.args.self.now.lo) +ℤ cast_signed w128 c.offset.result ≡ wrap_of c.args.self.now.lo c.args.self.now.top c.args.v
  sum_is =
      let b = c.offset.ensures.below in
      let m = c.size.ensures.at_most in
      word_wrap c.args.self.now.lo c.args.self.now.top c.args.v c.offset.result low_fits c.ranges.v (omega (arith, b, m)) (c.offset.ensures.value ∙ ap (floor_mod (cast_signed w128 (cast_unsigned w128 c.args.v) -ℤ cast_signed w128 (cast_unsigned w128 c.args.self.now.lo))) c.size.ensures.size)

  -- and so an i128
  sum_fits : FitsSigned w128 (wrap_of c.args.self.now.lo c.args.self.now.top c.args.v)
  sum_fits =
      let t = top_fits c.args.self.now.lo c.args.self.now.top c.args.self.now.in_127_bits in
      let o = c.args.self.now.ordered in
      fits_between c.args.self.now.lo c.args.self.now.top (wrap_of c.args.self.now.lo c.args.self.now.top c.args.v) low_fits t (wrap_of_low c.args.self.now.lo c.args.self.now.top o c.args.v) (wrap_of_high c.args.self.now.lo c.args.self.now.top o c.args.v)

pub overflow_add-result : goal.overflow_add-result
overflow_add-result c = subst (FitsSigned w128) (sym (sum_is c)) (sum_fits c)

pub returns : goal.returns
returns c = ap (λ z. cast_signed w128 (cast_unsigned w128 z)) (sum_is c) ∙ to_z-of_z w128 (wrap_of c.args.self.now.lo c.args.self.now.top c.args.v) (sum_fits c)
