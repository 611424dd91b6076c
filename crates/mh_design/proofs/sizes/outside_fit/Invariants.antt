use Rattle.std.proofs.Common.{◌≡◌, ◌≤◌, ◌-◌, not}
use Rattle.mh_design.specs.WellFormed.{count_below, is_in}
use Rattle.mh_design.proofs.sizes.outside_fit.Given as goal

abbrev pub invariant-loop-first : goal.invariant-loop-first
invariant-loop-first l =
    record { counted : l.count ≡ count_below l.first (λ s. not (is_in l.d.mems s)); few : l.count ≤ l.first; within : l.first ≤ l.signals }

abbrev pub decreases-loop-first : goal.decreases-loop-first
decreases-loop-first l = l.signals - l.first
