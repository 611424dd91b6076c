-- Why a line isn't printed.
use Rattle.std.specs.Prelude.{ℕ, ◌≡◌, Result, Err}
use Rattle.mh_design.specs.Values.{Fault as Meant}
use Rattle.mh_sched.specs.declared.fault.SimFault.{SimFault}
use Rattle.mh_sched.specs.declared.fault.SimFault.TheVariants.{Memory as Wants}
use Rattle.mh_sched.specs.declared.line.Unsaid.{Unsaid}
use Rattle.mh_sched.specs.declared.line.Unsaid.TheVariants.{Fault, Memory}
use Rattle.mh_sched.specs.Faults.{fault_of}

-- A fault is that of the definition. Want of memory may come at any place.
abbrev pub IsUnsaid : {A : Type 0} → Unsaid → Result A Meant → Type 0
IsUnsaid (Fault f) r = r ≡ Err f
IsUnsaid Memory r = Unit {0}

-- It is want of memory.
abbrev pub IsWant : Unsaid → Type 0
IsWant (Fault f) = ⊥
IsWant Memory = Unit {0}

-- The fault of a print at a time and in a line.
abbrev pub fault_unsaid : ℕ → ℕ → Unsaid → SimFault
fault_unsaid time line (Fault f) = fault_of time line f
fault_unsaid time line Memory = Wants
