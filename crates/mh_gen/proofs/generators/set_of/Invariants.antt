use Rattle.std.proofs.Common.{◌≡◌, ℕ, ◌||◌, ◌==◌, drop}
use Rattle.std.specs.List.{list_any}
use Rattle.std.specs.Ordering.{nat_cmp}
use Rattle.std.specs.BTreeSet.{contains}
use Rattle.mh_gen.proofs.generators.set_of.Given as goal

abbrev pub invariant-loop-signal : goal.invariant-loop-signal
invariant-loop-signal l =
    (n : ℕ) → list_any (λ m. m == n) l.signals ≡ (contains nat_cmp l.found n || list_any (λ m. m == n) (drop l.signal-index l.signals))
