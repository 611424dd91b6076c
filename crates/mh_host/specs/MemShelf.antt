-- What a shelf in memory tells, its counts, and which of its calls fail.
use Rattle.std.specs.Prelude.{ℕ, List, [], ◌∷◌, ◌+◌, ◌-◌, ◌^◌, ◌==◌, ◌≡◌, min, Option, None, Some, if◌then◌else◌}
use Rattle.mh_host.specs.Shelf.{Seen, Counts}
use Rattle.mh_host.specs.Entries.{held_under}
use Rattle.mh_host.specs.declared.mem.Fault.{Fault}
use Rattle.mh_host.specs.declared.mem.MemShelf.{MemShelf}

-- All that it holds, and both outputs.
abbrev pub told_by : MemShelf → Seen
told_by shelf = record { holds = held_under shelf.files.items; printed = shelf.printed.items; complained = shelf.complained.items }

-- How often each call failed.
abbrev pub counted_by : MemShelf → Counts
counted_by shelf = record { fetch = shelf.fetch_faults; store = shelf.store_faults; print = shelf.print_faults; complain = shelf.complain_faults }

-- The calls that are to fail, in the order in which they were given.
abbrev pub failing : MemShelf → List Fault
failing shelf = shelf.to_fail.items

-- How many calls of `fetch`, `store`, `print` and `complain` it has answered, up to 2 ^ 64 - 1.
abbrev pub calls_made : MemShelf → ℕ
calls_made shelf = shelf.calls

-- The first fault on a list that is meant for a call.
abbrev pub fault_at : List Fault → ℕ → Option Fault
fault_at [] call = None
fault_at (first ∷ rest) call = if first.call == call then Some first else fault_at rest call

-- The fault that the next call answers, None where it is not to fail.
abbrev pub due : MemShelf → Option Fault
due shelf = fault_at (failing shelf) (calls_made shelf)

-- A call was made: it is counted, and the calls that are to fail stay the same.
pub record Called (before after : MemShelf) : Type 0 where
  pub counted : calls_made after ≡ min (calls_made before + 1) (2 ^ 64 - 1)
  pub failing : failing after ≡ failing before
