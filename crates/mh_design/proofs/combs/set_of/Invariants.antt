use Rattle.std.proofs.Common.{◌≡◌, ℕ, ◌||◌, drop}
use Rattle.std.specs.Ordering.{nat_cmp}
use Rattle.std.specs.BTreeSet.{contains}
use Rattle.mh_design.specs.Inout.{is_among}
use Rattle.mh_design.proofs.combs.set_of.Given as goal

abbrev pub invariant-loop-signal : goal.invariant-loop-signal
invariant-loop-signal l =
    (s : ℕ) → is_among l.signals s ≡ (contains nat_cmp l.found s || is_among (drop l.signal-index l.signals) s)
