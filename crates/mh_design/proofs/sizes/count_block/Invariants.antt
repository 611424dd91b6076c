use Rattle.std.proofs.Common.{◌≡◌, ◌≤◌, not}
use Rattle.mh_design.specs.WellFormed.{count_below, is_in}
use Rattle.mh_design.proofs.sizes.count_block.Given as goal

abbrev pub invariant-loop-signal : goal.invariant-loop-signal
invariant-loop-signal l =
    record { counted : l.count ≡ count_below l.signal (λ s. not (is_in l.mems s)); few : l.count ≤ l.signal }
