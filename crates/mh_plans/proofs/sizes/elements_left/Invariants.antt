use Rattle.std.proofs.Common.{◌≡◌, ◌+◌, drop, length}
use Rattle.std.specs.Prelude.{sum_by}
use Rattle.mh_plans.proofs.sizes.elements_left.Given as goal

abbrev pub invariant-loop-m : goal.invariant-loop-m
invariant-loop-m l = l.left + sum_by (λ m. length m.cells) l.mems ≡ 65536 + sum_by (λ m. length m.cells) (drop l.m-index l.mems)
