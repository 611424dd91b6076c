-- Where a simulator stands, and what its calls do: this project's own rule.
use Rattle.std.specs.Prelude.{ℕ, ℤ, ◌≡◌, ◌≤◌, ◌<◌, nat_le, true, false, List, [], ◌∷◌, ◌++◌, slice_get, Option, None, Some, Result, Ok, Err, if◌then◌else◌}
use Rattle.mh_num.specs.declared.bounds.OutOfBounds.{OutOfBounds}
use Rattle.mh_design.specs.declared.design.Design.{Design}
use Rattle.mh_design.specs.declared.design.Generator.{Generator}
use Rattle.mh_design.specs.Assignments.{next_set}
use Rattle.mh_design.specs.Values.{Signals}
use Rattle.mh_design.specs.Deltas.{Process, Ending, AtWait, AtEnd, AtStop, InFault, Done, BrokenOff, is_due, store_of, updated}
use Rattle.mh_sched.specs.declared.fault.SimFault.{SimFault}
use Rattle.mh_sched.specs.declared.answer.Delta.{Delta}
use Rattle.mh_sched.specs.declared.answer.Delta.TheVariants as delta
use Rattle.mh_sched.specs.declared.answer.End.{End}
use Rattle.mh_sched.specs.declared.answer.End.TheVariants as «end»
use Rattle.mh_sched.specs.Faults.{run_fault, too_many_deltas}
use Rattle.mh_signals.specs.Holding.{held}
use Rattle.mh_sched.specs.Lines.{Line}
use Rattle.mh_sched.specs.Calls.{Reply, Finished, Prints, Breaks, printed, Passes, GoesOn, Rest}
use Rattle.mh_sched.specs.Runs.{Moment, first_moment, Close, AtRest, Stops, Fails, close_of, after_delta, delta_limit, next_time, at_time, Settles, Runs, Row, row_of}

-- Between two deltas; in a delta whose generator with this number has printed, after so many statements of its evaluation; or after the
-- end of the run by a stop or a fault, with the values of the last full delta.
pub data Standing : Type 0 where
  Between : (moment : Moment) → Standing
  Inside : (moment : Moment) → (generator count : ℕ) → Standing
  Over : (close : Close) → (values : List ℤ) → Standing

abbrev pub first_standing : Design → Standing
first_standing d = Between (first_moment d)

-- The current values.
abbrev pub values_of : Standing → List ℤ
values_of (Between m) = m.state.signals.values
values_of (Inside m g n) = m.state.signals.values
values_of (Over c vs) = vs

abbrev pub time_of : Standing → ℕ
time_of (Between m) = m.state.time
time_of (Inside m g n) = m.state.time
time_of (Over c vs) = 0

-- The moment with other processes and signals.
abbrev pub with_state : Moment → List Process → Signals → Moment
with_state m ps s = record { state = record { signals = s; processes = ps; time = m.state.time }; deltas = m.deltas }

-- An input has its first value, or its next one.
abbrev pub given : Moment → Result Signals OutOfBounds → Result Standing OutOfBounds
given m (Ok s) = Ok (Between (with_state m m.state.processes s))
given m (Err e) = Err e

abbrev pub hold_of : Moment → ℕ → ℤ → Result Standing OutOfBounds
hold_of m n v = given m (held m.state.signals n v)

abbrev pub drive_of : Moment → ℕ → ℤ → Result Standing OutOfBounds
drive_of m n v = given m (next_set m.state.signals n v)

-- What a call of a delta answers, and where it leaves the simulator. A delta that is broken off leaves the values as they were.
abbrev pub ending_answer : ℕ → Ending → Result Delta SimFault
ending_answer time (AtWait k) = Ok delta.Ran
ending_answer time AtEnd = Ok delta.Ran
ending_answer time AtStop = Ok delta.Stopped
ending_answer time (InFault line f) = Err (run_fault time line f)

abbrev pub answer_of : ℕ → Reply → Result Delta SimFault
answer_of time Finished = Ok delta.Ran
answer_of time (Prints g j n line) = Ok (delta.Says g j)
answer_of time (Breaks g e) = ending_answer time e

abbrev pub full_delta : Moment → List Process → Signals → Moment
full_delta m ps s = after_delta m (record { signals = updated s; processes = ps; time = m.state.time })

abbrev pub left_by : Moment → Reply → List Process → Signals → Standing
left_by m Finished ps s = Between (full_delta m ps s)
left_by m (Prints g j n line) ps s = Inside (with_state m ps s) g n
left_by m (Breaks g e) ps s = Over (close_of m.state.time e) m.state.signals.values

module _ (d : Design) where
  -- One call of a delta.
  pub data DeltaCall : Standing → Result Delta SimFault → Standing → Type 0 where
    quiet : {m : Moment} → is_due d m.state ≡ false → DeltaCall (Between m) (Ok delta.Quiet) (Between m)
    exceeds : {m : Moment} → is_due d m.state ≡ true → delta_limit ≤ m.deltas →
        DeltaCall (Between m) (Err (too_many_deltas m.state.time)) (Over (Fails (too_many_deltas m.state.time)) m.state.signals.values)
    begins : {m : Moment} {r : Reply} {qs : List Process} {t : Signals} → is_due d m.state ≡ true → m.deltas < delta_limit →
        Passes d m.state.time 0 d.generators m.state.processes m.state.signals r qs t → DeltaCall (Between m) (answer_of m.state.time r) (left_by m r qs t)
    goes_on : {m : Moment} {g n : ℕ} {r : Reply} {qs : List Process} {t : Signals} →
        GoesOn d m.state.time g n 0 d.generators m.state.processes m.state.signals r qs t →
        DeltaCall (Inside m g n) (answer_of m.state.time r) (left_by m r qs t)
    stopped : {vs : List ℤ} → DeltaCall (Over Stops vs) (Ok delta.Stopped) (Over Stops vs)
    failed : {f : SimFault} {vs : List ℤ} → DeltaCall (Over (Fails f) vs) (Err f) (Over (Fails f) vs)

  -- The line of a print, or the fault of its parts.
  abbrev pub line_by : Moment → Option Generator → Option Process → ℕ → Result Line Ending
  line_by m (Some g) (Some p) j = printed g j (store_of d m.state.time m.state.signals p)
  line_by m g p j = Ok []

  abbrev pub line_at_print : Moment → ℕ → ℕ → Result Line Ending
  line_at_print m g j = line_by m (slice_get d.generators g) (slice_get m.state.processes g) j

-- The time goes on to the earliest later event up to a limit, and else to the limit.
abbrev pub reached_event : ℕ → Option ℕ → Option ℕ
reached_event limit None = None
reached_event limit (Some u) = if nat_le u limit then Some u else None

abbrev pub moved : ℕ → Option ℕ → Moment → Moment
moved limit None m = at_time limit m
moved limit (Some u) m = at_time u m

abbrev pub advance_answer : ℕ → Moment → Option ℕ
advance_answer limit m = reached_event limit (next_time m.state)

abbrev pub advanced : ℕ → Moment → Moment
advanced limit m = moved limit (advance_answer limit m) m

-- Where a run up to a time leaves the simulator.
abbrev pub left_after : Result End SimFault → Moment → Standing
left_after (Ok «end».Reached) n = Between n
left_after (Ok «end».Quiet) n = Between n
left_after (Ok «end».Stopped) n = Over Stops n.state.signals.values
left_after (Err f) n = Over (Fails f) n.state.signals.values

abbrev pub end_of : Close → Result End SimFault
end_of AtRest = Ok «end».Reached
end_of Stops = Ok «end».Stopped
end_of (Fails f) = Err f

module _ (d : Design) (limit : ℕ) where
  -- What follows the deltas of a time: the answer, the lines and the rows of later times, and the moment after.
  pub data Follows : Close → Moment → Result End SimFault → List Line → List Row → Moment → Type 0 where
    quiet : {n : Moment} → next_time n.state ≡ None → Follows AtRest n (Ok «end».Quiet) [] [] (at_time limit n)
    reached : {n : Moment} {u : ℕ} → next_time n.state ≡ Some u → limit < u → Follows AtRest n (Ok «end».Reached) [] [] (at_time limit n)
    later : {n after : Moment} {u : ℕ} {r : Result End SimFault} {ls : List Line} {rows : List Row} → next_time n.state ≡ Some u → u ≤ limit →
        Runs d limit (at_time u n) r ls rows after → Follows AtRest n r ls rows after
    stops : {n : Moment} → Follows Stops n (Ok «end».Stopped) [] [] n
    fails : {n : Moment} {f : SimFault} → Follows (Fails f) n (Err f) [] [] n

  -- A run up to a time, from wherever the simulator stands: an open delta is done first.
  pub data RunCall : Standing → Result End SimFault → List Line → List Row → Standing → Type 0 where
    between : {m n : Moment} {r : Result End SimFault} {ls : List Line} {rows : List Row} → Runs d limit m r ls rows n → RunCall (Between m) r ls rows (left_after r n)
    goes_on : {m n after : Moment} {g k : ℕ} {own more ls : List Line} {qs : List Process} {t : Signals} {c : Close} {r : Result End SimFault} {rows : List Row} → Rest d m.state.time g k 0 d.generators m.state.processes m.state.signals Done own qs t → Settles d (full_delta m qs t) c more n → Follows c n r ls rows after → RunCall (Inside m g k) r (own ++ (more ++ ls)) (row_of m.state n.state ++ rows) (left_after r after)
    breaks : {m : Moment} {g k i : ℕ} {e : Ending} {own : List Line} {qs : List Process} {t : Signals} →
        Rest d m.state.time g k 0 d.generators m.state.processes m.state.signals (BrokenOff i e) own qs t →
        RunCall (Inside m g k) (end_of (close_of m.state.time e)) own [] (Over (close_of m.state.time e) m.state.signals.values)
    stopped : {vs : List ℤ} → RunCall (Over Stops vs) (Ok «end».Stopped) [] [] (Over Stops vs)
    failed : {f : SimFault} {vs : List ℤ} → RunCall (Over (Fails f) vs) (Err f) [] [] (Over (Fails f) vs)

-- The same without the rows: the answer, the lines, and where it leaves the simulator.
pub record RunsFrom (d : Design) (limit : ℕ) (st : Standing) (r : Result End SimFault) (ls : List Line) (after : Standing) : Type 0 where
  pub rows : List Row
  pub call : RunCall d limit st r ls rows after

-- What the answer of a call of a delta means for a run up to a time: what runs from where it leaves the simulator runs from where it
-- stood, after the line of the print; a stop or a fault ends the run; and so does a fault in a print.
abbrev pub with_line : Design → ℕ → Standing → Standing → ℕ → Result Line Ending → Type 0
with_line d limit before after g (Ok line) =
    (r : Result End SimFault) (ls : List Line) (n : Standing) → RunsFrom d limit after r ls n → RunsFrom d limit before r (line ∷ ls) n
with_line d limit before after g (Err e) = (f : SimFault) → ending_answer (time_of before) e ≡ Err f → RunsFrom d limit before (Err f) [] (Over (Fails f) (values_of before))

abbrev pub line_after : Design → Standing → ℕ → ℕ → Result Line Ending
line_after d (Inside m h n) g j = line_at_print d m g j
line_after d (Between m) g j = Ok []
line_after d (Over c vs) g j = Ok []

abbrev pub MeansFor : Design → ℕ → Standing → Result Delta SimFault → Standing → Type 0
MeansFor d limit before (Ok delta.Ran) after =
    (r : Result End SimFault) (ls : List Line) (n : Standing) → RunsFrom d limit after r ls n → RunsFrom d limit before r ls n
MeansFor d limit before (Ok delta.Quiet) after = after ≡ before
MeansFor d limit before (Ok (delta.Says g j)) after = with_line d limit before after g (line_after d after g j)
MeansFor d limit before (Ok delta.Stopped) after = RunsFrom d limit before (Ok «end».Stopped) [] after
MeansFor d limit before (Err f) after = RunsFrom d limit before (Err f) [] after

-- Where nothing is due, a step of time goes on with the run, and where no event is left up to the limit the run has ended.
abbrev pub quiet_end : Option ℕ → End
quiet_end None = «end».Quiet
quiet_end (Some u) = «end».Reached

abbrev pub MeansTime : Design → ℕ → Moment → Option ℕ → Type 0
MeansTime d limit m None = RunsFrom d limit (Between m) (Ok (quiet_end (next_time m.state))) [] (Between (at_time limit m))
MeansTime d limit m (Some u) =
    (r : Result End SimFault) (ls : List Line) (n : Standing) → RunsFrom d limit (Between (at_time u m)) r ls n → RunsFrom d limit (Between m) r ls n
