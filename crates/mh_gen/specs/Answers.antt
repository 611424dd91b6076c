-- How assignments answer.
use Rattle.std.specs.Prelude.{ℕ, ℤ, ◌≡◌, ◌<◌, ◌≤◌, length, Result, Ok, Err, MatchResult}
use Rattle.mh_num.specs.declared.bounds.OutOfBounds.{OutOfBounds}
use Rattle.mh_design.specs.declared.statement.Binding.{Binding}
use Rattle.mh_design.specs.declared.statement.Binding.TheVariants as binding
use Rattle.mh_design.specs.Values.{Limits, Held, Store, Fault, Range}
use Rattle.mh_design.specs.Assignments.{Spot, SignalSpot, LocalSpot, set_local}

-- A local with these limits that has taken a value, or the fault.
abbrev pub held_result : Limits → Result ℤ OutOfBounds → Result Held Fault
held_result l (Ok z) = Ok (record { value = z; limits = l })
held_result l (Err e) = Err (Range e.value e.low e.high)

-- The store with another local, or the fault.
abbrev pub local_result : Store → ℕ → Result Held Fault → Result Store Fault
local_result s n (Ok h) = Ok (set_local s n h)
local_result s n (Err f) = Err f

-- An assignment has left the store that is wanted, or it has the fault and has changed nothing.
abbrev pub Assigns : Result (Unit {0}) Fault → Store → Store → Result Store Fault → Type 0
Assigns r before after wanted = MatchResult r (λ _. wanted ≡ Ok after) (λ f. (wanted ≡ Err f) × (after ≡ before))

-- The spot names something.
abbrev pub IsThere : Store → Spot → Type 0
IsThere s (SignalSpot n) = n < length s.signals.values
IsThere s (LocalSpot n) = n < length s.locals

-- The low bits that a binding takes are at most 127.
abbrev pub IsNarrow : Binding → Type 0
IsNarrow binding.Plain = Unit {0}
IsNarrow (binding.Bounded b) = Unit {0}
IsNarrow (binding.LowBits k wraps) = k ≤ 127
