use Rattle.std.proofs.Common.{pos, negsuc, ◌^◌, ◌-◌, ◌≤ℤ◌, ◌<ℤ◌, arith}
use Rattle.std.proofs.lemmas.Int.{ints}
use Rattle.mh_num.proofs.Ends.{narrow_unsigned, narrow_signed, narrow_low, narrow_top}
use Rattle.mh_num.proofs.bounds.is_in_127_bits.Goals as goal

pub returns-then-lo-ge0 : goal.returns-then-lo-ge0
returns-then-lo-ge0 c =
    let s : pos 0 ≤ℤ c.args.lo = grind (arith, ints) in
    let w = narrow_unsigned c.args.lo c.args.top c.requires s c.ranges.top in
    (λ _. w, λ _. c.if-lo-ge0.true)

pub returns-then-lo-ge-LEAST_OF_127_BITS : goal.returns-then-lo-ge-LEAST_OF_127_BITS
returns-then-lo-ge-LEAST_OF_127_BITS c =
    let s : c.args.lo <ℤ pos 0 = grind (arith, ints) in
    let l : negsuc (2 ^ 126 - 1) ≤ℤ c.args.lo = grind (arith, ints) in
    (λ t. let h : c.args.top ≤ℤ pos (2 ^ 126 - 1) = grind (arith, ints, t) in narrow_signed c.args.lo c.args.top c.requires l h, λ w. let h = narrow_top c.args.lo c.args.top s w in grind (arith, ints, h))

pub returns-else-lo-ge-LEAST_OF_127_BITS : goal.returns-else-lo-ge-LEAST_OF_127_BITS
returns-else-lo-ge-LEAST_OF_127_BITS c =
    let s : c.args.lo <ℤ pos 0 = grind (arith, ints) in
    (λ t. absurd (grind (arith, ints, t)), λ w. let h = narrow_low c.args.lo c.args.top s w in absurd (grind (arith, ints, h)))
