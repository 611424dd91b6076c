-- The first values of signals.
use Rattle.std.proofs.Common.{ℕ, ℤ, ◌≡◌, ◌<◌, List, map, length, slice_index_or, Result, ap, sym, ◌∙◌}
use Rattle.std.proofs.lemmas.List.{get_or-map}
use Rattle.mh_num.specs.declared.bounds.OutOfBounds.{OutOfBounds}
use Rattle.mh_design.specs.Values.{Signals, Unlimited, Waiter}
use Rattle.mh_design.specs.Assignments.{taken}
use Rattle.mh_signals.specs.declared.limits.Limits.{Limits}
use Rattle.mh_signals.specs.Holding.{first_is, held}
use Rattle.mh_signals.specs.Seen.{limits_seen}

module _ (limits : List Limits) (values pending : List ℤ) (waiters : List Waiter) (n : ℕ) (l : Limits) (there : n < length limits) (is : l ≡ slice_index_or limits n l) where
  abbrev pub these : Signals
  these = record { limits = map limits_seen limits; values = values; pending = pending; waiters = waiters }

  -- what a first value of a signal with these limits becomes is what becomes of the signals
  pub held-is : (v : ℤ) (r : Result ℤ OutOfBounds) → r ≡ taken (limits_seen l) v → held these n v ≡ first_is these n r
  held-is v r e =
      ap (first_is these n) (ap (λ k. taken k v) (get_or-map limits_seen limits n l Unlimited there ∙ ap limits_seen (sym is)) ∙ sym e)
