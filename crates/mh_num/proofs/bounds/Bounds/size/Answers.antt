use Rattle.std.proofs.Common.{◌≤◌, ◌+◌, ◌^◌, arith, rules}
use Rattle.std.specs.Int.{w128}
use Rattle.std.specs.Int.RustNames.{FitsSigned}
use Rattle.mh_num.proofs.Ends.{word_size, size_at_most}
use Rattle.mh_num.proofs.bounds.Bounds.size.Goals as goal

at_most : (c : goal.After-abs_diff) → c.abs_diff.result + 1 ≤ 2 ^ 127
at_most c =
    let f : FitsSigned w128 c.args.self.now.lo = search rules in
    let g : FitsSigned w128 c.args.self.now.top = search rules in
    let e = word_size c.args.self.now.lo c.args.self.now.top c.abs_diff.result f g c.abs_diff.ensures in
    let m = size_at_most c.args.self.now.lo c.args.self.now.top c.args.self.now.ordered g c.args.self.now.in_127_bits in
    omega (arith, e, m)

pub overflow_add-result : goal.overflow_add-result
overflow_add-result c = let m = at_most c in omega (arith, m)

pub returns-clause-at_most : goal.returns-clause-at_most
returns-clause-at_most c = at_most c
