-- The first value of a signal, which stands from before the start: this project's own rule.
use Rattle.std.specs.Prelude.{ℕ, ℤ, slice_set, Result, Ok, Err}
use Rattle.mh_num.specs.declared.bounds.OutOfBounds.{OutOfBounds}
use Rattle.mh_design.specs.Values.{Signals}
use Rattle.mh_design.specs.Assignments.{limits_at, taken}

-- The signal has this value, and none that differs is pending.
abbrev pub first_is : Signals → ℕ → Result ℤ OutOfBounds → Result Signals OutOfBounds
first_is s n (Ok z) = Ok (record s { values = slice_set s.values n z; pending = slice_set s.pending n z })
first_is s n (Err e) = Err e

-- The first value of a signal.
abbrev pub held : Signals → ℕ → ℤ → Result Signals OutOfBounds
held s n v = first_is s n (taken (limits_at s n) v)
