use Rattle.std.proofs.Common.{◌≡◌, drop}
use Rattle.std.specs.Ordering.{nat_cmp}
use Rattle.std.specs.BTreeSet.{contains}
use Rattle.std.specs.List.{list_any}
use Rattle.mh_design.proofs.combs.some_are_in.Given as goal

abbrev pub invariant-loop-signal : goal.invariant-loop-signal
invariant-loop-signal l =
    list_any (contains nat_cmp l.found) l.signals ≡ list_any (contains nat_cmp l.found) (drop l.signal-index l.signals)
