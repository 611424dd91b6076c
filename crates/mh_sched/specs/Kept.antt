-- Which state of the definition what is kept of a run stands for: this project's own rule. These are relations, since a state of the code
-- stands for more than one list of what is left.
use Rattle.std.specs.Prelude.{ℕ, ◌≡◌, ◌<◌, ◌≤◌, true, false, ◌==◌, ◌⊎◌, List, [], ◌++◌, length, take, drop, slice_get, slice_set, Some, Result, Ok, Err, if◌then◌else◌}
use Rattle.mh_flow.specs.declared.resumed.Resumed.{Resumed}
use Rattle.mh_flow.specs.declared.resumed.Resumed.TheVariants as resumed
use Rattle.mh_flat.specs.Fits.{FitsItems}
use Rattle.mh_flat.specs.Stands.{StandsFor}
use Rattle.mh_design.specs.declared.design.Design.{Design}
use Rattle.mh_design.specs.declared.design.Generator.{Generator}
use Rattle.mh_design.specs.Assignments.{meaning, IsEven}
use Rattle.mh_design.specs.Bodies.{function_lines, waits_room, waited}
use Rattle.mh_design.specs.Numbering.{generator_statements}
use Rattle.mh_design.specs.Uses.{waits}
use Rattle.mh_design.specs.Values.{Signals, Store, Fault}
use Rattle.mh_design.specs.Deltas.{State, Left, Process, Flows, Ending, is_woken, ending_of, goes_on, store_of, waiter_at, waiting, waits_after}
use Rattle.mh_design.specs.WellFormed.{is_well_formed}
use Rattle.mh_gen.specs.Running.{RunsIn}
use Rattle.mh_sched.specs.declared.plan.Plan.{Plan}
use Rattle.mh_sched.specs.declared.process.Process.{Process as Kept}
use Rattle.mh_sched.specs.declared.process.Turn.{Turn}
use Rattle.mh_sched.specs.declared.process.Turn.TheVariants as turn
use Rattle.mh_sched.specs.declared.run.Run.{Run}
use Rattle.mh_sched.specs.declared.run.Passed.{Passed}
use Rattle.mh_sched.specs.declared.run.Passed.TheVariants as passed
use Rattle.mh_sched.specs.Notes.{seen_statements, places_before}
use Rattle.mh_sched.specs.Calls.{Reply, Finished, Prints, Breaks, evaluated, interrupted, printed, Passes, Resumes}
use Rattle.mh_sched.specs.Lines.{Line, line_bytes}
use Rattle.mh_sched.specs.Standing.{ending_answer}
use Rattle.mh_sched.specs.declared.fault.SimFault.{SimFault}
use Rattle.mh_sched.specs.declared.fault.SimFault.TheVariants as simfault
use Rattle.mh_sched.specs.Runs.{Close, AtRest, Stops, Fails, close_of}

-- A plan is that of a generator.
pub record IsPlan (d : Design) (g : Generator) (p : Plan) : Type 0 where
  pub generator : p.generator.now ≡ g
  pub statements : seen_statements p.statements.items ≡ generator_statements g
  pub waits_are : p.waits ≡ waits d g
  pub before : p.before ≡ places_before d g g.kind
  pub lines : p.lines.items ≡ function_lines g

-- What is kept of a generator is its state in the definition, where so many statements of its evaluation are done. Where nothing is left
-- that number doesn't matter.
pub record IsStanding (d : Design) (g : Generator) (p : Plan) (q : Kept) (x : Process) (n : ℕ) : Type 0 where
  pub left : StandsFor p.code.code x.left q.state
  pub fits : (s : Store) → RunsIn d g s → FitsItems meaning x.left s
  pub locals : q.locals ≡ x.locals
  pub number : length x.locals ≡ length g.locals
  pub since : q.since ≡ x.since
  pub counted : (x.left ≡ []) ⊎ (q.state.count ≡ n)

-- The store in which a generator goes on.
abbrev pub own_store : Store → Process → Store
own_store s x = record s { locals = x.locals }

-- It can go on.
pub record CanGoOn (p : Plan) (q : Kept) (s : Store) : Type 0 where
  pub design : Design
  pub generator : Generator
  pub state : Process
  pub count : ℕ
  pub stands : IsStanding design generator p q state count
  pub runs : RunsIn design generator (own_store s state)

-- A plan of some generator, for whose waits there is this room.
pub record HasRoom (p : Plan) (room : ℕ) : Type 0 where
  pub design : Design
  pub generator : Generator
  pub is_plan : IsPlan design generator p
  pub fits : (n : ℕ) → length (waited design generator n) ≤ room

-- It has gone on, with this answer: what is left, the store, and the number of statements then. The locals that the store had before are
-- there again.
pub record GoneOn (d : Design) (g : Generator) (x : Process) (n : ℕ) (p : Plan) (before : Store) (a : Resumed Fault) (q : Kept) (after : Store) : Type 0 where
  pub left : Left
  pub store : Store
  pub count : ℕ
  pub flows : Flows x.left (own_store before x) n a left store count
  pub stands : IsStanding d g p q (interrupted x left store) count
  pub exact : (j : ℕ) → a ≡ resumed.Says j → q.state.count ≡ count
  pub after_is : after ≡ record store { locals = before.locals }

-- A generator that goes on after so many statements of its evaluation comes to a wait or its end; or it says a number, with this number of
-- statements then; or it ends the run. What stands of it then, and of the signals.
pub record Rested (d : Design) (time n k : ℕ) (g : Generator) (x : Process) (s : Signals) (y : Process) (t : Signals) : Type 0 where
  pub left : Left
  pub store : Store
  pub count : ℕ
  pub answer : Resumed Fault
  pub ending : Ending
  pub flows : Flows x.left (store_of d time s x) n answer left store count
  pub ends : ending_of d g left answer ≡ Some ending
  pub on : goes_on ending ≡ true
  pub state : y ≡ evaluated time left store
  pub signals : t ≡ waiting store.signals k (waits_after d g ending)

pub record Said (d : Design) (time n k : ℕ) (g : Generator) (x : Process) (s : Signals) (j m : ℕ) (y : Process) (t : Signals) : Type 0 where
  pub left : Left
  pub store : Store
  pub flows : Flows x.left (store_of d time s x) n (resumed.Says j) left store m
  pub state : y ≡ interrupted x left store
  pub signals : t ≡ store.signals

pub record Broke (d : Design) (time n k : ℕ) (g : Generator) (x : Process) (s : Signals) (c : Close) (y : Process) (t : Signals) : Type 0 where
  pub left : Left
  pub store : Store
  pub count : ℕ
  pub answer : Resumed Fault
  pub ending : Ending
  pub flows : Flows x.left (store_of d time s x) n answer left store count
  pub ends : ending_of d g left answer ≡ Some ending
  pub close : close_of time ending ≡ c
  pub state : y ≡ interrupted x left store
  pub signals : t ≡ store.signals

abbrev pub TurnsTo : Design → (time n k : ℕ) → Generator → Process → Signals → Turn → ℕ → Process → Signals → Type 0
TurnsTo d time n k g x s turn.Rests m y t = Rested d time n k g x s y t × (m ≡ 0)
TurnsTo d time n k g x s (turn.Says j) m y t = Said d time n k g x s j m y t
TurnsTo d time n k g x s turn.Stops m y t = Broke d time n k g x s Stops y t
TurnsTo d time n k g x s (turn.Fails f) m y t = Broke d time n k g x s (Fails f) y t

-- The signals are those of the design, with room for all that its generators wait for.
pub record IsSized (d : Design) (s : Signals) : Type 0 where
  pub values : length s.values ≡ length d.signals
  pub even : IsEven s
  pub waiters : length s.waiters ≡ length d.generators
  pub rooms : (k : ℕ) (g : Generator) → slice_get d.generators k ≡ Some g → (waiter_at s k).room ≡ waits_room d g g.kind

-- Where it says a number, the code has the count of the definition.
abbrev pub IsExact : Turn → Kept → ℕ → Type 0
IsExact turn.Rests q m = Unit {0}
IsExact (turn.Says j) q m = q.state.count ≡ m
IsExact turn.Stops q m = Unit {0}
IsExact (turn.Fails f) q m = Unit {0}

-- A generator has taken a turn: what stands of it then.
pub record Turned (d : Design) (time n k : ℕ) (g : Generator) (x : Process) (p : Plan) (before : Store) (t : Turn) (q : Kept) (after : Store) : Type 0 where
  pub state : Process
  pub count : ℕ
  pub turns : TurnsTo d time n k g x before.signals t count state after.signals
  pub stands : IsStanding d g p q state count
  pub exact : IsExact t q count
  pub sized : IsSized d before.signals → IsSized d after.signals
  pub after_is : after ≡ record before { signals = after.signals }

-- How many statements of its evaluation each generator has done: none, or one some.
abbrev pub no_counts : ℕ → ℕ
no_counts k = 0

abbrev pub count_at : ℕ → ℕ → ℕ → ℕ
count_at g n k = if k == g then n else 0

-- Each generator stands so.
abbrev pub AllStand : Design → List Plan → List Kept → List Process → (ℕ → ℕ) → Type 0
AllStand d ps qs xs counts =
    (k : ℕ) (g : Generator) (p : Plan) (q : Kept) (x : Process) → slice_get d.generators k ≡ Some g → slice_get ps k ≡ Some p → slice_get qs k ≡ Some q →
    slice_get xs k ≡ Some x → IsPlan d g p × IsStanding d g p q x (counts k)

-- What is kept of a run is the state of these signals and generators at this time.
pub record IsRun (r : Run) (time : ℕ) (s : Signals) (xs : List Process) (counts : ℕ → ℕ) : Type 0 where
  pub formed : is_well_formed r.store.design ≡ true
  pub signals : r.store.signals ≡ s
  pub time_is : r.store.time ≡ time
  pub sized : IsSized r.store.design s
  pub count : r.count ≡ length r.store.design.generators
  pub plans : length r.plans.items ≡ length r.store.design.generators
  pub kept : length r.processes.items ≡ length r.store.design.generators
  pub processes : length xs ≡ length r.store.design.generators
  pub all : AllStand r.store.design r.plans.items r.processes.items xs counts

pub record IsSomeRun (r : Run) : Type 0 where
  pub time : ℕ
  pub signals : Signals
  pub states : List Process
  pub counts : ℕ → ℕ
  pub run : IsRun r time signals states counts

-- No generator of the run is in the midst of an evaluation, or that with this number may be.
pub record IsResting (r : Run) : Type 0 where
  pub time : ℕ
  pub signals : Signals
  pub states : List Process
  pub run : IsRun r time signals states no_counts

pub record IsHalfway (r : Run) (k : ℕ) : Type 0 where
  pub time : ℕ
  pub signals : Signals
  pub states : List Process
  pub count : ℕ
  pub run : IsRun r time signals states (count_at k count)

abbrev pub design_of : Run → Design
design_of r = r.store.design

-- The generator with this number has taken a turn in a run.
pub record RunTurned (d : Design) (time n k : ℕ) (g : Generator) (x : Process) (s : Signals) (xs : List Process) (t : Turn) (after : Run) : Type 0 where
  pub state : Process
  pub count : ℕ
  pub signals : Signals
  pub turns : TurnsTo d time n k g x s t count state signals
  pub run : IsRun after time signals (slice_set xs k state) (count_at k count)
  pub exact : (q : Kept) → slice_get after.processes.items k ≡ Some q → IsExact t q count
  pub design : design_of after ≡ d

-- A visit: one that is woken takes a turn, and else nothing happens.
pub record HasVisited (d : Design) (time k : ℕ) (g : Generator) (x : Process) (s : Signals) (xs : List Process) (t : Turn) (before after : Run) : Type 0 where
  pub woken : is_woken s time x k ≡ true → RunTurned d time 0 k g x s xs t after
  pub asleep : is_woken s time x k ≡ false → (t ≡ turn.Rests) × (after ≡ before)

-- The state of the definition.
abbrev pub state_of : ℕ → Signals → List Process → State
state_of time s xs = record { signals = s; processes = xs; time = time }

-- What a call of a delta comes to, as the code answers it.
abbrev pub broken : Close → Passed
broken AtRest = passed.Finished
broken Stops = passed.Stops
broken (Fails f) = passed.Fails f

abbrev pub passed_of : ℕ → Reply → Passed
passed_of time Finished = passed.Finished
passed_of time (Prints g j n line) = passed.Says g j
passed_of time (Breaks g e) = broken (close_of time e)

-- The code has this count.
abbrev pub HasCount : Run → ℕ → ℕ → Type 0
HasCount r g n = (q : Kept) → slice_get r.processes.items g ≡ Some q → q.state.count ≡ n

-- Where it leaves a run: after a break only the values count.
abbrev pub Leaves : Run → ℕ → Signals → Reply → List Process → Signals → Type 0
Leaves r time s Finished ys t = IsRun r time t ys no_counts
Leaves r time s (Prints g j n line) ys t = IsRun r time t ys (count_at g n) × (g < length (design_of r).generators) × HasCount r g n
Leaves r time s (Breaks g e) ys t = (r.store.signals.values ≡ s.values) × (goes_on e ≡ false)

-- The generators from this number on have been gone through, up to the first that prints or breaks off; or the generator with this number
-- has gone on, and then those after it.
pub record HasPassed (d : Design) (time k : ℕ) (xs : List Process) (s : Signals) (a : Passed) (after : Run) : Type 0 where
  pub reply : Reply
  pub rest : List Process
  pub signals : Signals
  pub passes : Passes d time k (drop k d.generators) (drop k xs) s reply rest signals
  pub answer : a ≡ passed_of time reply
  pub leaves : Leaves after time s reply (take k xs ++ rest) signals
  pub design : design_of after ≡ d

pub record HasResumed (d : Design) (time n k : ℕ) (xs : List Process) (s : Signals) (a : Passed) (after : Run) : Type 0 where
  pub reply : Reply
  pub rest : List Process
  pub signals : Signals
  pub resumes : Resumes d time n k (drop k d.generators) (drop k xs) s reply rest signals
  pub answer : a ≡ passed_of time reply
  pub leaves : Leaves after time s reply (take k xs ++ rest) signals
  pub design : design_of after ≡ d

-- What the statement with this number of this generator prints.
abbrev pub AllSaid : Run → ℕ → ℕ → (Result Line Ending → Type 0) → Type 0
AllSaid r g k P =
    (time : ℕ) (s : Signals) (xs : List Process) (counts : ℕ → ℕ) (of : Generator) (x : Process) → IsRun r time s xs counts →
    slice_get (design_of r).generators g ≡ Some of → slice_get xs g ≡ Some x → P (printed of k (store_of (design_of r) time s x))

-- The line is added to some bytes, or its fault is kept.
abbrev pub said_on : List ℕ → Result Line Ending → Result (List ℕ) Ending
said_on bs (Ok line) = Ok (bs ++ line_bytes line)
said_on bs (Err e) = Err e

-- The print has this fault.
pub record SaidFault (time : ℕ) (f : SimFault) (r : Result Line Ending) : Type 0 where
  pub ending : Ending
  pub is : r ≡ Err ending
  pub answer : ending_answer time ending ≡ Err f

abbrev pub IsSaidFault : ℕ → SimFault → Result Line Ending → Type 0
IsSaidFault time simfault.Memory r = Unit {0}
IsSaidFault time (simfault.At c t l v low high) r = SaidFault time (simfault.At c t l v low high) r
