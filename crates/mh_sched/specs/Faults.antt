-- The faults of a run, by their codes: this project's own rule. A number that the fault's message doesn't show is 0.
use Rattle.std.specs.Prelude.{ℕ, pos}
use Rattle.mh_text.specs.declared.code.Code.TheVariants as code
use Rattle.mh_design.specs.Values.{Fault, Range, Index, Divide, NumberTooWide, Shift}
use Rattle.mh_design.specs.Deltas.{RunFault, Faults, AssertFails, TooManyTurns}
use Rattle.mh_sched.specs.declared.fault.SimFault.{SimFault}
use Rattle.mh_sched.specs.declared.fault.SimFault.TheVariants.{At}

-- What goes wrong in an expression or an assignment, at a time and in a line.
abbrev pub fault_of : ℕ → ℕ → Fault → SimFault
fault_of time line (Range v low high) = At code.X1Range time line v low high
fault_of time line (Index v low high) = At code.X2Index time line v low high
fault_of time line (Divide v) = At code.X4Divide time line v (pos 0) (pos 0)
fault_of time line NumberTooWide = At code.X5NumberTooWide time line (pos 0) (pos 0) (pos 0)
fault_of time line (Shift v) = At code.X6Shift time line v (pos 0) (pos 0)

-- What ends a run.
abbrev pub run_fault : ℕ → ℕ → RunFault → SimFault
run_fault time line (Faults f) = fault_of time line f
run_fault time line AssertFails = At code.X3Assert time line (pos 0) (pos 0) (pos 0)
run_fault time line TooManyTurns = At code.X8TurnLimit time 0 (pos 0) (pos 0) (pos 0)

-- Too many deltas at one time.
abbrev pub too_many_deltas : ℕ → SimFault
too_many_deltas time = At code.X7DeltaLimit time 0 (pos 0) (pos 0) (pos 0)
