-- Where a simulator stands: this project's own rule.
use Rattle.std.specs.Prelude.{ℕ, ℤ, ◌≡◌, ◌<◌, ◌+◌, ◌-◌, ◌*◌, false, List, [], ◌++◌, length, Option, None, Some, Result, Ok, Err}
use Rattle.mh_design.specs.declared.design.Design.{Design}
use Rattle.mh_sched.specs.declared.sim.Phase.{Phase}
use Rattle.mh_sched.specs.declared.sim.Phase.TheVariants as phase
use Rattle.mh_sched.specs.declared.sim.Sim.{Sim}
use Rattle.mh_sched.specs.Kept.{IsRun, no_counts, count_at, design_of, HasCount, Leaves, passed_of}
use Rattle.mh_sched.specs.Runs.{Moment, Close, AtRest, Stops, Fails, delta_limit, next_time}
use Rattle.mh_sched.specs.Standing.{Standing, Between, Inside, Over, time_of, DeltaCall, line_at_print, ending_answer, answer_of, left_by, RunsFrom, quiet_end, advance_answer, advanced}
use Rattle.mh_sched.specs.Lines.{Line, line_bytes, text_of}
use Rattle.mh_sched.specs.declared.fault.SimFault.{SimFault}
use Rattle.mh_sched.specs.declared.fault.SimFault.TheVariants as simfault
use Rattle.mh_sched.specs.declared.answer.Delta.{Delta}
use Rattle.mh_sched.specs.declared.answer.Delta.TheVariants as delta
use Rattle.mh_sched.specs.declared.answer.End.TheVariants as «end»
use Rattle.mh_sched.specs.declared.answer.End.{End}
use Rattle.mh_design.specs.Deltas.{Ending, Process, is_due}
use Rattle.mh_design.specs.Values.{Signals}
use Rattle.mh_num.specs.declared.bounds.OutOfBounds.{OutOfBounds}
use Rattle.mh_sched.specs.Calls.{Reply}
use Rattle.mh_sched.specs.declared.run.Passed.{Passed}

-- The design of a simulator.
abbrev pub of_sim : Sim → Design
of_sim sim = design_of sim.run

-- How the run has ended.
abbrev pub IsOver : Close → Phase → Type 0
IsOver AtRest p = ⊥
IsOver Stops p = p ≡ phase.Stopped
IsOver (Fails f) p = p ≡ phase.Failed f

-- What a simulator keeps is a moment.
pub record IsMoment (sim : Sim) (m : Moment) (counts : ℕ → ℕ) : Type 0 where
  pub run : IsRun sim.run m.state.time m.state.signals m.state.processes counts
  pub deltas : sim.deltas ≡ m.deltas

abbrev pub IsAt : Sim → Standing → Type 0
IsAt sim (Between m) = IsMoment sim m no_counts × (sim.phase ≡ phase.Between)
IsAt sim (Inside m g n) = IsMoment sim m (count_at g n) × (sim.phase ≡ phase.Inside g) × (g < length (of_sim sim).generators) × HasCount sim.run g n × (m.deltas < delta_limit)
IsAt sim (Over c vs) = IsOver c sim.phase × (sim.run.store.signals.values ≡ vs) × (length vs ≡ length (of_sim sim).signals)

-- A simulator stands somewhere.
pub record IsSomewhere (sim : Sim) : Type 0 where
  pub standing : Standing
  pub at : IsAt sim standing

-- It stands between two deltas.
pub record IsBetween (sim : Sim) : Type 0 where
  pub moment : Moment
  pub at : IsAt sim (Between moment)

-- It stands after the end of its run, by a stop or by this fault.
pub record HasStopped (sim : Sim) : Type 0 where
  pub values : List ℤ
  pub at : IsAt sim (Over Stops values)

pub record HasFailed (f : SimFault) (sim : Sim) : Type 0 where
  pub values : List ℤ
  pub at : IsAt sim (Over (Fails f) values)

-- What a call of a delta has done.
pub record DeltaDone (d : Design) (st : Standing) (a : Result Delta SimFault) (new : Sim) : Type 0 where
  pub after : Standing
  pub call : DeltaCall d st a after
  pub at : IsAt new after
  pub design : of_sim new ≡ d

-- The generator with this number has printed, or a fault has ended the run.
abbrev pub SaysAt : ℕ → Standing → Type 0
SaysAt g (Between m) = ⊥
SaysAt g (Inside m h n) = h ≡ g
SaysAt g (Over AtRest vs) = ⊥
SaysAt g (Over Stops vs) = ⊥
SaysAt g (Over (Fails f) vs) = Unit {0}

pub record CanSay (sim : Sim) (g : ℕ) : Type 0 where
  pub standing : Standing
  pub at : IsAt sim standing
  pub says : SaysAt g standing

-- Where a simulator stands after a call of a delta, for the next call: after a full delta, and where none was due, between two deltas;
-- after a print, so that its line may be asked for; and else after the end of the run.
abbrev pub StandsAfter : Result Delta SimFault → Sim → Type 0
StandsAfter (Ok delta.Ran) new = IsBetween new
StandsAfter (Ok delta.Quiet) new = IsBetween new
StandsAfter (Ok (delta.Says g k)) new = CanSay new g
StandsAfter (Ok delta.Stopped) new = HasStopped new
StandsAfter (Err f) new = HasFailed f new

-- What a print has answered, added and left.
pub data Printed (d : Design) (g k : ℕ) : Standing → Result (Unit {0}) SimFault → List ℕ → Standing → Type 0 where
  says : {m : Moment} {n : ℕ} {line : Line} → line_at_print d m g k ≡ Ok line → Printed d g k (Inside m g n) (Ok tt) (line_bytes line) (Inside m g n)
  fails : {m : Moment} {n : ℕ} {e : Ending} {f : SimFault} → line_at_print d m g k ≡ Err e → ending_answer m.state.time e ≡ Err f →
      Printed d g k (Inside m g n) (Err f) [] (Over (Fails f) m.state.signals.values)
  failed : {f : SimFault} {vs : List ℤ} → Printed d g k (Over (Fails f) vs) (Err f) [] (Over (Fails f) vs)

pub record HasPrinted (d : Design) (g k : ℕ) (st : Standing) (a : Result (Unit {0}) SimFault) (before after : List ℕ) (new : Sim) : Type 0 where
  pub bytes : List ℕ
  pub standing : Standing
  pub printed : Printed d g k st a bytes standing
  pub text : after ≡ before ++ bytes
  pub at : IsAt new standing
  pub design : of_sim new ≡ d

-- Want of memory changes nothing.
abbrev pub HasSaid : Design → ℕ → ℕ → Standing → Result (Unit {0}) SimFault → List ℕ → List ℕ → Sim → Sim → Type 0
HasSaid d g k st (Ok u) before after old new = HasPrinted d g k st (Ok u) before after new
HasSaid d g k st (Err simfault.Memory) before after old new = (after ≡ before) × (new ≡ old)
HasSaid d g k st (Err (simfault.At c t l v low high)) before after old new =
    HasPrinted d g k st (Err (simfault.At c t l v low high)) before after new

-- What runs up to a limit from where a simulator stands now runs from where it stood, after these lines.
abbrev pub LeadsTo : Design → ℕ → Standing → List Line → Standing → Type 0
LeadsTo d limit st lines now =
    (r : Result End SimFault) (ls : List Line) (n : Standing) → RunsFrom d limit now r ls n → RunsFrom d limit st r (lines ++ ls) n

-- The run has gone on up to where it stands now, at the same time, with these lines.
pub record HasGone (d : Design) (limit : ℕ) (st : Standing) (before after : List ℕ) (now : Standing) (new : Sim) : Type 0 where
  pub lines : List Line
  pub leads : LeadsTo d limit st lines now
  pub text : after ≡ before ++ text_of lines
  pub at : IsAt new now
  pub design : of_sim new ≡ d

-- What a run up to a time has done: the lines that it has printed, and where it stands.
pub record HasRun (d : Design) (limit : ℕ) (st : Standing) (a : Result End SimFault) (before after : List ℕ) (new : Sim) : Type 0 where
  pub lines : List Line
  pub standing : Standing
  pub runs : RunsFrom d limit st a lines standing
  pub text : after ≡ before ++ text_of lines
  pub at : IsAt new standing
  pub design : of_sim new ≡ d

-- It stands somewhere, with this design.
pub record IsOf (d : Design) (sim : Sim) : Type 0 where
  pub standing : Standing
  pub at : IsAt sim standing
  pub design : of_sim sim ≡ d

-- It ends so, unless memory is wanting.
abbrev pub RunsUntil : Design → ℕ → Standing → Result End SimFault → List ℕ → List ℕ → Sim → Type 0
RunsUntil d limit st (Ok e) before after new = HasRun d limit st (Ok e) before after new
RunsUntil d limit st (Err simfault.Memory) before after new = IsOf d new
RunsUntil d limit st (Err (simfault.At c t l v low high)) before after new =
    HasRun d limit st (Err (simfault.At c t l v low high)) before after new

-- Where a simulator stands after a run up to a time, for the next call: between two deltas, or after the end of the run.
abbrev pub StandsAtEnd : Result End SimFault → Sim → Type 0
StandsAtEnd (Ok «end».Reached) new = IsBetween new
StandsAtEnd (Ok «end».Quiet) new = IsBetween new
StandsAtEnd (Ok «end».Stopped) new = HasStopped new
StandsAtEnd (Err simfault.Memory) new = IsSomewhere new
StandsAtEnd (Err (simfault.At c t l v low high)) new = HasFailed (simfault.At c t l v low high) new

-- How many deltas were done at the time that stands, and that the run hasn't ended.
abbrev pub deltas_of : Standing → ℕ
deltas_of (Between m) = m.deltas
deltas_of (Inside m g n) = m.deltas
deltas_of (Over c vs) = 0

abbrev pub IsOpen : Standing → Type 0
IsOpen (Between m) = Unit {0}
IsOpen (Inside m g n) = Unit {0}
IsOpen (Over c vs) = ⊥

-- A delta has been done to its end; or nothing was due.
pub record WholeDelta (d : Design) (limit : ℕ) (st : Standing) (before after : List ℕ) (new : Sim) : Type 0 where
  pub moment : Moment
  pub gone : HasGone d limit st before after (Between moment) new
  pub live : IsOpen st
  pub time : moment.state.time ≡ time_of st
  pub deltas : moment.deltas ≡ deltas_of st + 1
  pub below : deltas_of st < delta_limit

pub record NoDelta (d : Design) (limit : ℕ) (st : Standing) (before after : List ℕ) (new : Sim) : Type 0 where
  pub moment : Moment
  pub gone : HasGone d limit st before after (Between moment) new
  pub rests : is_due d moment.state ≡ false
  pub live : IsOpen st
  pub time : moment.state.time ≡ time_of st
  pub deltas : moment.deltas ≡ deltas_of st

abbrev pub DeltaWhole : Design → ℕ → Standing → Result Delta SimFault → List ℕ → List ℕ → Sim → Type 0
DeltaWhole d limit st (Ok delta.Ran) before after new = WholeDelta d limit st before after new
DeltaWhole d limit st (Ok delta.Quiet) before after new = NoDelta d limit st before after new
DeltaWhole d limit st (Ok (delta.Says g k)) before after new = ⊥
DeltaWhole d limit st (Ok delta.Stopped) before after new = HasRun d limit st (Ok «end».Stopped) before after new
DeltaWhole d limit st (Err simfault.Memory) before after new = IsOf d new
DeltaWhole d limit st (Err (simfault.At c t l v low high)) before after new =
    HasRun d limit st (Err (simfault.At c t l v low high)) before after new

-- A value has been given to a signal.
pub record IsGiven (r : Result Standing OutOfBounds) (d : Design) (new : Sim) : Type 0 where
  pub standing : Standing
  pub is : r ≡ Ok standing
  pub at : IsAt new standing
  pub design : of_sim new ≡ d

-- What is known where a call of a delta has come to something, and what it has done.
pub record Concludes (old : Sim) (p : Passed) (m : Moment) (r : Reply) (xs : List Process) (s : Signals) : Type 0 where
  pub leaves : Leaves old.run m.state.time m.state.signals r xs s
  pub answer : p ≡ passed_of m.state.time r
  pub deltas : old.deltas ≡ m.deltas
  pub below : m.deltas < delta_limit
  pub values : length m.state.signals.values ≡ length (of_sim old).signals

pub record HasConcluded (m : Moment) (r : Reply) (xs : List Process) (s : Signals) (a : Result Delta SimFault) (new : Sim) (d : Design) : Type 0 where
  pub answer : a ≡ answer_of m.state.time r
  pub at : IsAt new (left_by m r xs s)
  pub design : of_sim new ≡ d

-- The time has gone on.
pub record HasMoved (m : Moment) (new : Sim) (d : Design) : Type 0 where
  pub at : IsAt new (Between m)
  pub design : of_sim new ≡ d

-- The time has gone on, or the run up to the limit has ended.
abbrev pub step_end : Option ℕ → Option ℕ → Option End
step_end next None = Some (quiet_end next)
step_end next (Some u) = None

pub record HasStepped (limit : ℕ) (m : Moment) (a : Option End) (new : Sim) (d : Design) : Type 0 where
  pub answer : a ≡ step_end (next_time m.state) (advance_answer limit m)
  pub moved : HasMoved (advanced limit m) new d

-- The phase after a fault of a print; want of memory leaves it.
abbrev pub IsEndedBy : SimFault → Phase → Phase → Type 0
IsEndedBy simfault.Memory old new = new ≡ old
IsEndedBy (simfault.At c t l v low high) old new = new ≡ phase.Failed (simfault.At c t l v low high)

-- What is left to do up to a limit, as a number: times, and deltas of a time.
abbrev pub left_until : ℕ → Sim → ℕ
left_until limit sim = (limit + 1 - sim.run.store.time) * 10001 + (10000 - sim.deltas)

-- A round of a run up to a limit has gone on, with less left to do; or it has ended the run.
pub record HasGoneOn (d : Design) (limit : ℕ) (st : Standing) (before after : List ℕ) (old new : Sim) : Type 0 where
  pub now : Standing
  pub gone : HasGone d limit st before after now new
  pub less : left_until limit new < left_until limit old

abbrev pub GoesRound : Design → ℕ → Standing → Result (Option End) SimFault → List ℕ → List ℕ → Sim → Sim → Type 0
GoesRound d limit st (Ok None) before after old new = HasGoneOn d limit st before after old new
GoesRound d limit st (Ok (Some e)) before after old new = HasRun d limit st (Ok e) before after new
GoesRound d limit st (Err f) before after old new = RunsUntil d limit st (Err f) before after new
