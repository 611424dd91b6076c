use Rattle.std.proofs.Common.{◌≡◌, false, pos}
use Rattle.std.specs.Ordering.{int_eq}
use Rattle.mh_design.specs.Enums.{any_below, item_code}
use Rattle.mh_design.proofs.enums.is_listed_code.Given as goal

abbrev pub invariant-loop-place : goal.invariant-loop-place
invariant-loop-place l =
    any_below l.place (λ k. int_eq l.z (pos (item_code l.encoding l.count k))) ≡ false
