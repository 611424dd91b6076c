-- The delta step (MyHDL 0.11 manual, "Introduction to MyHDL" and "Reference": a delta cycle; the order of generators, and what a stop
-- and a fault drop, are this project's own rules). All woken generators evaluate from the same values, in order of elaboration. Then all
-- pending values are taken, and the generators that wait for what changed are woken. An equal value wakes nobody.
use Rattle.std.specs.Prelude.{ℕ, ℤ, pos, ◌≡◌, ◌+◌, Bool, true, false, not, ◌&&◌, ◌||◌, ◌==◌, List, [], ◌∷◌, ◌++◌, map, slice_index_or, slice_set, Option, None, Some, Result, Ok, Err}
use Rattle.std.specs.List.{list_any}
use Rattle.std.specs.Ordering.{int_eq}
use Rattle.mh_flow.specs.declared.resumed.Resumed.{Resumed}
use Rattle.mh_flow.specs.declared.resumed.Resumed.TheVariants as resumed
use Rattle.mh_flow.specs.Flow.{Item, Pending, BegunWhile, BegunCount, block_items, Evaluates}
use Rattle.mh_design.specs.declared.design.Design.{Design}
use Rattle.mh_design.specs.declared.design.Generator.{Generator}
use Rattle.mh_design.specs.declared.design.Local.{Local as Variable}
use Rattle.mh_design.specs.declared.design.Wait.{Wait}
use Rattle.mh_design.specs.declared.design.Wait.TheVariants as wait
use Rattle.mh_design.specs.Assignments.{meaning}
use Rattle.mh_design.specs.Bodies.{generator_flow, generator_lines, waited, waits_room, prints_at, line_at}
use Rattle.mh_design.specs.Constants.{number_of_truth}
use Rattle.mh_design.specs.Tree.{Expression, LeftSide, Printed, Words, Number}
use Rattle.mh_design.specs.Values.{Held, Waiter, Signals, Store, Fault, limits_of, value_of, with_value}

-- A wait has happened between the old values and the new: a change of the signal, or a change of it to 1 or to 0. The passing of time
-- is no change.
abbrev pub has_changed : List ℤ → List ℤ → ℕ → Bool
has_changed old new n = not (int_eq (slice_index_or old n (pos 0)) (slice_index_or new n (pos 0)))

abbrev pub has_happened : List ℤ → List ℤ → Wait → Bool
has_happened old new (wait.Change n) = has_changed old new n
has_happened old new (wait.Edge n up) = has_changed old new n && int_eq (slice_index_or new n (pos 0)) (number_of_truth up)
has_happened old new (wait.Delay k) = false

-- A waiter is woken where one of its waits has happened, and stays so until it waits anew.
abbrev pub woken_by : List ℤ → List ℤ → Waiter → Waiter
woken_by old new w = record w { woken = w.woken || list_any (has_happened old new) w.waits }

-- All pending values are taken.
abbrev pub updated : Signals → Signals
updated s = record s { values = s.pending; waiters = map (woken_by s.values s.pending) s.waiters }

-- Two lists of values differ at some place.
abbrev pub differ : List ℤ → List ℤ → Bool
differ [] ys = false
differ (x ∷ xs) [] = false
differ (x ∷ xs) (y ∷ ys) = not (int_eq x y) || differ xs ys

-- Some pending value is another than the current one.
abbrev pub is_pending : Signals → Bool
is_pending s = differ s.values s.pending

-- A generator waits from now on for these.
abbrev pub waits_anew : List Wait → Waiter → Waiter
waits_anew ws w = record w { waits = ws; woken = false }

abbrev pub nobody : Waiter
nobody = record { room = 0; waits = []; woken = false }

abbrev pub waiter_at : Signals → ℕ → Waiter
waiter_at s g = slice_index_or s.waiters g nobody

abbrev pub waiting : Signals → ℕ → List Wait → Signals
waiting s g ws = record s { waiters = slice_set s.waiters g (waits_anew ws (waiter_at s g)) }

-- As a run starts, the signals have their initial values, nothing is pending, and every generator is woken.
abbrev pub first_waiter : Design → Generator → Waiter
first_waiter d g = record { room = waits_room d g g.kind; waits = []; woken = true }

abbrev pub first_signals : Design → Signals
first_signals d = record {
  limits = map (λ x. limits_of d x.kind) d.signals;
  values = map (λ x. x.init) d.signals;
  pending = map (λ x. x.init) d.signals;
  waiters = map (first_waiter d) d.generators;
}

-- What is left of a generator, the values of its locals, and the time at which its wait began.
abbrev pub Left : Type 0
Left = List (Item Expression LeftSide)

pub record Process : Type 0 where
  pub left : Left
  pub locals : List Held
  pub since : ℕ

-- Where a run stands.
pub record State : Type 0 where
  pub signals : Signals
  pub processes : List Process
  pub time : ℕ

-- At the start the whole body is left, and no local was assigned.
abbrev pub first_local : Design → Variable → Held
first_local d v = record { value = pos 0; limits = limits_of d v.kind }

abbrev pub first_process : Design → Generator → Process
first_process d g = record {
  left = block_items 0 (generator_flow d g) [];
  locals = map (first_local d) g.locals;
  since = 0;
}

abbrev pub first_state : Design → State
first_state d = record { signals = first_signals d; processes = map (first_process d) d.generators; time = 0 }

-- A delay is over where the time is that of its wait and the delay.
abbrev pub is_over : ℕ → ℕ → Wait → Bool
is_over time since (wait.Change n) = false
is_over time since (wait.Edge n up) = false
is_over time since (wait.Delay k) = since + k == time

-- The generator with this number is woken: by a change, by the time, or by the start.
abbrev pub is_woken : Signals → ℕ → Process → ℕ → Bool
is_woken s time p g = (waiter_at s g).woken || list_any (is_over time p.since) (waiter_at s g).waits

-- A printed line: texts, and numbers in decimal.
pub data Piece : Type 0 where
  TextPiece : (text : List ℕ) → Piece
  NumberPiece : (value : ℤ) → Piece

abbrev pub piece_of : Store → Printed → Result Piece Fault
piece_of s (Words t) = Ok (TextPiece t)
piece_of s (Number e) = with_value (value_of e s) (λ z. Ok (NumberPiece z))

abbrev pub pieces_of : Store → List Printed → Result (List Piece) Fault
pieces_of s [] = Ok []
pieces_of s (p ∷ ps) = with_value (piece_of s p) (λ x. with_value (pieces_of s ps) (λ xs. Ok (x ∷ xs)))

-- What ends a run: a fault of an expression or an assignment, an assertion whose value is 0, or a statement after so many without a wait.
pub data RunFault : Type 0 where
  Faults : Fault → RunFault
  AssertFails : RunFault
  TooManyTurns : RunFault

-- How an evaluation ends: at a wait with its number, at the end of the body, at a stop, or in a line with a fault.
pub data Ending : Type 0 where
  AtWait : (number : ℕ) → Ending
  AtEnd : Ending
  AtStop : Ending
  InFault : (line : ℕ) → RunFault → Ending

-- The statements that may be executed without a wait.
abbrev pub turn_limit : ℕ
turn_limit = 1000000

abbrev pub Flows : Left → Store → ℕ → Resumed Fault → Left → Store → ℕ → Type 0
Flows = Evaluates meaning turn_limit

-- The line of the statement at a place of a generator's body.
abbrev pub line_of_place : Design → Generator → ℕ → ℕ
line_of_place d g k = slice_index_or (generator_lines d g) k g.line

-- The first place of what is left.
abbrev pub place_of : Left → ℕ
place_of [] = 0
place_of (Pending at x ∷ rest) = at
place_of (BegunWhile at e b ∷ rest) = at
place_of (BegunCount at p n z d b ∷ rest) = at

-- An answer of the flow that ends an evaluation, and how.
abbrev pub ending_of : Design → Generator → Left → Resumed Fault → Option Ending
ending_of d g xs (resumed.Waits k) = Some (AtWait k)
ending_of d g xs (resumed.Says k) = None
ending_of d g xs resumed.Stopped = Some AtStop
ending_of d g xs resumed.Ended = Some AtEnd
ending_of d g xs (resumed.CheckFailed at) = Some (InFault (line_of_place d g at) AssertFails)
ending_of d g xs (resumed.Fault at f) = Some (InFault (line_of_place d g at) (Faults f))
ending_of d g xs resumed.TurnLimit = Some (InFault (line_of_place d g (place_of xs)) TooManyTurns)

module _ (d : Design) (g : Generator) where
  -- The evaluation of a generator from its resumption to its next wait, with the lines that it prints on the way. A print whose
  -- parts have a fault ends it.
  pub data Evaluation : Left → Store → ℕ → Ending → List (List Piece) → Left → Store → ℕ → Type 0 where
    ends : {xs ys : Left} {s t : Store} {n m : ℕ} {r : Resumed Fault} {e : Ending} → Flows xs s n r ys t m → ending_of d g ys r ≡ Some e → Evaluation xs s n e [] ys t m
    prints : {xs ys zs : Left} {s t u : Store} {n m p k : ℕ} {e : Ending} {line : List Piece} {more : List (List Piece)} → Flows xs s n (resumed.Says k) ys t m →
        pieces_of t (prints_at g k) ≡ Ok line → Evaluation ys t m e more zs u p → Evaluation xs s n e (line ∷ more) zs u p
    fails : {xs ys : Left} {s t : Store} {n m k : ℕ} {f : Fault} → Flows xs s n (resumed.Says k) ys t m → pieces_of t (prints_at g k) ≡ Err f →
        Evaluation xs s n (InFault (line_at g k) (Faults f)) [] ys t m

-- What a generator waits for after its evaluation.
abbrev pub waits_after : Design → Generator → Ending → List Wait
waits_after d g (AtWait k) = waited d g k
waits_after d g e = []

-- A generator goes on to the next one, or the delta is broken off.
abbrev pub goes_on : Ending → Bool
goes_on (AtWait k) = true
goes_on AtEnd = true
goes_on AtStop = false
goes_on (InFault l f) = false

-- How the evaluations of a delta end: all are done, or that of the generator with this number has broken it off.
pub data Outcome : Type 0 where
  Done : Outcome
  BrokenOff : (generator : ℕ) → Ending → Outcome

module _ (d : Design) (time : ℕ) where
  abbrev pub store_of : Signals → Process → Store
  store_of s p = record { design = d; signals = s; locals = p.locals; time = time }

  -- The generators from number k on with their processes, the signals before, how it ends, the lines that are printed, and the processes
  -- and the signals after. One that isn't woken stays as it is. Evaluations change pending values alone, so all see the same values.
  pub data Evaluations : ℕ → List Generator → List Process → Signals → Outcome → List (List Piece) → List Process → Signals → Type 0 where
    none : {k : ℕ} {s : Signals} → Evaluations k [] [] s Done [] [] s
    rests : {k : ℕ} {g : Generator} {gs : List Generator} {p : Process} {ps qs : List Process} {s t : Signals} {o : Outcome} {lines : List (List Piece)} →
        is_woken s time p k ≡ false → Evaluations (k + 1) gs ps s o lines qs t → Evaluations k (g ∷ gs) (p ∷ ps) s o lines (p ∷ qs) t
    evaluates : {k : ℕ} {g : Generator} {gs : List Generator} {p : Process} {ps qs : List Process} {s t : Signals} {o : Outcome} {own lines : List
        (List Piece)} {e : Ending} {left : Left} {u : Store} {n : ℕ} → is_woken s time p k ≡ true → Evaluation d g p.left (store_of s p) 0 e own left u n →
        goes_on e ≡ true → Evaluations (k + 1) gs ps (waiting u.signals k (waits_after d g e)) o lines qs t →
        Evaluations k (g ∷ gs) (p ∷ ps) s o (own ++ lines) (record { left = left; locals = u.locals; since = time } ∷ qs) t
    breaks_off : {k : ℕ} {g : Generator} {gs : List Generator} {p : Process} {ps : List Process} {s : Signals} {own : List
        (List Piece)} {e : Ending} {left : Left} {u : Store} {n : ℕ} → is_woken s time p k ≡ true → Evaluation d g p.left (store_of s p) 0 e own left u n →
        goes_on e ≡ false → Evaluations k (g ∷ gs) (p ∷ ps) s (BrokenOff k e) own (p ∷ ps) s

-- The state after the evaluations.
abbrev pub after_of : State → Outcome → List Process → Signals → State
after_of st Done ps s = record { signals = updated s; processes = ps; time = st.time }
after_of st (BrokenOff k e) ps s = st

-- One delta step: the evaluations, and then the update. One that is broken off leaves the values as they were.
pub record DeltaStep (d : Design) (before : State) (outcome : Outcome) (lines : List (List Piece)) (after : State) : Type 0 where
  pub processes : List Process
  pub signals : Signals
  pub evaluations : Evaluations d before.time 0 d.generators before.processes before.signals outcome lines processes signals
  pub after_is : after ≡ after_of before outcome processes signals

abbrev pub any_woken : Signals → ℕ → ℕ → List Process → Bool
any_woken s time k [] = false
any_woken s time k (p ∷ ps) = is_woken s time p k || any_woken s time (k + 1) ps

-- Something is left to do at this time: a pending value that differs, or a generator that is woken.
abbrev pub is_due : Design → State → Bool
is_due d st = is_pending st.signals || any_woken st.signals st.time 0 st.processes
