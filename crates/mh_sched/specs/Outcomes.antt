-- That runs have outcomes, as records: what laws over all runs promise.
use Rattle.std.specs.Prelude.{ℕ, ◌≡◌, List, length, Result}
use Rattle.mh_design.specs.declared.design.Design.{Design}
use Rattle.mh_design.specs.declared.design.Generator.{Generator}
use Rattle.mh_design.specs.Values.{Signals, Store}
use Rattle.mh_design.specs.Deltas.{State, Process, Left, Ending, Evaluation, Outcome, Evaluations, DeltaStep}
use Rattle.mh_sched.specs.declared.fault.SimFault.{SimFault}
use Rattle.mh_sched.specs.declared.answer.End.{End}
use Rattle.mh_sched.specs.Lines.{Line}
use Rattle.mh_sched.specs.Runs.{Moment, Close, Settles, Runs, Row}

-- A state has a process for each generator.
abbrev pub IsWhole : Design → State → Type 0
IsWhole d st = length st.processes ≡ length d.generators

-- There is an evaluation of what is left of a generator.
pub record HasEnding (d : Design) (g : Generator) (xs : Left) (s : Store) (n : ℕ) : Type 0 where
  pub ending : Ending
  pub lines : List Line
  pub left : Left
  pub store : Store
  pub count : ℕ
  pub evaluation : Evaluation d g xs s n ending lines left store count

-- There are evaluations of these generators.
pub record HasEvaluations (d : Design) (time k : ℕ) (gs : List Generator) (ps : List Process) (s : Signals) : Type 0 where
  pub outcome : Outcome
  pub lines : List Line
  pub processes : List Process
  pub signals : Signals
  pub evaluations : Evaluations d time k gs ps s outcome lines processes signals

-- There is a delta.
pub record HasDelta (d : Design) (st : State) : Type 0 where
  pub outcome : Outcome
  pub lines : List Line
  pub after : State
  pub step : DeltaStep d st outcome lines after

-- The deltas of a time end.
pub record HasClose (d : Design) (m : Moment) : Type 0 where
  pub close : Close
  pub lines : List Line
  pub after : Moment
  pub settles : Settles d m close lines after

-- A run up to a time ends.
pub record HasRun (d : Design) (limit : ℕ) (m : Moment) : Type 0 where
  pub answer : Result End SimFault
  pub lines : List Line
  pub rows : List Row
  pub after : Moment
  pub runs : Runs d limit m answer lines rows after
