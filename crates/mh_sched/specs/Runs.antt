-- The run of a design (MyHDL 0.11 manual, "Introduction to MyHDL": simulation time; the limits, the order of printed lines, and what a
-- stop drops are this project's own rules). Deltas are done until nothing is pending and nobody is woken. Then the time goes to the
-- earliest end of a delay. A stop and a fault end the run at once.
use Rattle.std.specs.Prelude.{ℕ, ℤ, ◌≡◌, ◌≤◌, ◌<◌, ◌+◌, true, false, nat_lt, nat_le, ◌==◌, List, [], ◌∷◌, ◌++◌, Option, None, Some, Result, Ok, Err, if◌then◌else◌}
use Rattle.std.specs.List.{filter, flat_map}
use Rattle.mh_design.specs.declared.design.Design.{Design}
use Rattle.mh_design.specs.declared.design.Wait.{Wait}
use Rattle.mh_design.specs.declared.design.Wait.TheVariants as wait
use Rattle.mh_design.specs.Values.{Signals}
use Rattle.mh_design.specs.Deltas.{State, Process, Ending, AtWait, AtEnd, AtStop, InFault, Done, BrokenOff, DeltaStep, differ, is_due, first_state, waiter_at}
use Rattle.mh_sched.specs.declared.fault.SimFault.{SimFault}
use Rattle.mh_sched.specs.declared.answer.End.{End}
use Rattle.mh_sched.specs.declared.answer.End.TheVariants as «end»
use Rattle.mh_sched.specs.Faults.{run_fault, too_many_deltas}
use Rattle.mh_sched.specs.Lines.{Line}

-- How many deltas may be done at one time.
abbrev pub delta_limit : ℕ
delta_limit = 10000

-- Where a run stands between two deltas: its state, and how many deltas were done at this time.
pub record Moment : Type 0 where
  pub state : State
  pub deltas : ℕ

abbrev pub first_moment : Design → Moment
first_moment d = record { state = first_state d; deltas = 0 }

-- How the deltas of a time end: nothing is due any more, or at a stop or a fault, which end the run.
pub data Close : Type 0 where
  AtRest : Close
  Stops : Close
  Fails : (fault : SimFault) → Close

-- How an evaluation ends the run. One that waits or ends doesn't.
abbrev pub close_of : ℕ → Ending → Close
close_of time (AtWait k) = AtRest
close_of time AtEnd = AtRest
close_of time AtStop = Stops
close_of time (InFault line f) = Fails (run_fault time line f)

-- After a delta that was done.
abbrev pub after_delta : Moment → State → Moment
after_delta m st = record { state = st; deltas = m.deltas + 1 }

module _ (d : Design) where
  -- The deltas of a time: the moment before, how they end, the lines that are printed, and the moment after the last full delta.
  pub data Settles : Moment → Close → List Line → Moment → Type 0 where
    rests : {m : Moment} → is_due d m.state ≡ false → Settles m AtRest [] m
    ran : {m n : Moment} {st : State} {c : Close} {own more : List Line} → is_due d m.state ≡ true → m.deltas < delta_limit → DeltaStep d m.state Done own st →
        Settles (after_delta m st) c more n → Settles m c (own ++ more) n
    ends : {m : Moment} {st : State} {own : List Line} {k : ℕ} {e : Ending} → is_due d m.state ≡ true → m.deltas < delta_limit →
        DeltaStep d m.state (BrokenOff k e) own st → Settles m (close_of m.state.time e) own m
    exceeds : {m : Moment} → is_due d m.state ≡ true → delta_limit ≤ m.deltas → Settles m (Fails (too_many_deltas m.state.time)) [] m

-- The ends of the delays that a generator waits for.
abbrev pub delay_end : ℕ → Wait → List ℕ
delay_end since (wait.Change n) = []
delay_end since (wait.Edge n up) = []
delay_end since (wait.Delay k) = (since + k) ∷ []

abbrev pub process_ends : Signals → ℕ → Process → List ℕ
process_ends s g p = flat_map (delay_end p.since) (waiter_at s g).waits

abbrev pub all_ends : Signals → ℕ → List Process → List ℕ
all_ends s g [] = []
all_ends s g (p ∷ ps) = process_ends s g p ++ all_ends s (g + 1) ps

-- The least of some numbers.
abbrev pub lesser : ℕ → Option ℕ → Option ℕ
lesser x None = Some x
lesser x (Some y) = if nat_le x y then Some x else Some y

abbrev pub least : List ℕ → Option ℕ
least [] = None
least (x ∷ xs) = lesser x (least xs)

-- The earliest later time that has an event, which is the end of a delay.
abbrev pub later_ends : State → List ℕ
later_ends st = filter (nat_lt st.time) (all_ends st.signals 0 st.processes)

abbrev pub next_time : State → Option ℕ
next_time st = least (later_ends st)

-- The time goes on. At a new time no delta was done.
abbrev pub at_time : ℕ → Moment → Moment
at_time u m = if m.state.time == u then m else record { state = record m.state { time = u }; deltas = 0 }

-- What a trace has for a time: the values after its last full delta, if one differs from those before.
pub record Row : Type 0 where
  pub time : ℕ
  pub values : List ℤ

abbrev pub row_of : State → State → List Row
row_of before after =
    if differ before.signals.values after.signals.values then record { time = after.time; values = after.signals.values } ∷ [] else []

module _ (d : Design) (limit : ℕ) where
  -- A run of all times up to and including a limit: the moment before, the answer, the lines that are printed, the rows of the trace,
  -- and the moment after. Where no event is left it is quiet.
  pub data Runs : Moment → Result End SimFault → List Line → List Row → Moment → Type 0 where
    quiet : {m n : Moment} {own : List Line} → Settles d m AtRest own n → next_time n.state ≡ None → Runs m (Ok «end».Quiet) own (row_of m.state n.state) (at_time limit n)
    reached : {m n : Moment} {own : List Line} {u : ℕ} → Settles d m AtRest own n → next_time n.state ≡ Some u → limit < u → Runs m (Ok «end».Reached) own (row_of m.state n.state) (at_time limit n)
    goes_on : {m n after : Moment} {own more : List Line} {rows : List Row} {u : ℕ} {r : Result End SimFault} → Settles d m AtRest own n →
        next_time n.state ≡ Some u → u ≤ limit → Runs (at_time u n) r more rows after → Runs m r (own ++ more) (row_of m.state n.state ++ rows) after
    stopped : {m n : Moment} {own : List Line} → Settles d m Stops own n → Runs m (Ok «end».Stopped) own (row_of m.state n.state) n
    failed : {m n : Moment} {own : List Line} {f : SimFault} → Settles d m (Fails f) own n → Runs m (Err f) own (row_of m.state n.state) n
