-- An evaluation of a generator ends, and so do the evaluations of a delta.
use Rattle.std.proofs.Common.{◌≡◌, ℕ, zero, suc, ◌+◌, ◌-◌, ◌<◌, ◌≤◌, Bool, true, false, List, [], ◌∷◌, ◌++◌, refl, ap, ◌∙◌, arith, length}
use Rattle.std.specs.Prelude.{Result, Ok, Err}
use Rattle.mh_flow.specs.declared.resumed.Resumed.{Resumed}
use Rattle.mh_flow.specs.declared.resumed.Resumed.TheVariants as resumed
use Rattle.mh_flow.specs.Flow.{HasEvaluation, Reaches, here, onward}
use Rattle.mh_design.specs.declared.design.Design.{Design}
use Rattle.mh_design.specs.declared.design.Generator.{Generator}
use Rattle.mh_design.specs.Assignments.{meaning}
use Rattle.mh_design.specs.Bodies.{prints_at}
use Rattle.mh_design.specs.Values.{Signals, Store, Fault}
use Rattle.mh_design.specs.Deltas.{Left, Process, State, Piece, pieces_of, Flows, ends, prints, fails, waits_after, goes_on, Outcome, Done, BrokenOff, Evaluations, none, rests, evaluates, breaks_off, store_of, is_woken, waiting, after_of, DeltaStep, turn_limit}
use Rattle.mh_sched.specs.Outcomes.{IsWhole, HasEnding, HasEvaluations, HasDelta}

-- The flow of a generator has an answer.
abbrev pub FlowsAlways : Type 0
FlowsAlways = (xs : Left) (s : Store) (n : ℕ) → HasEvaluation meaning turn_limit xs s n

-- Statements are counted.
grows : {xs : Left} {s : Store} {n : ℕ} {ys : Left} {t : Store} {m : ℕ} → Reaches meaning turn_limit xs s n ys t m → n ≤ m
grows here = omega arith
grows (onward r e le) = let h = grows r in omega (arith, h)

says_counts : {xs ys : Left} {s t : Store} {n m k : ℕ} → Flows xs s n (resumed.Says k) ys t m → (n < m) × (m ≤ turn_limit)
says_counts f =
    let h = grows f.reached in
    (omega (arith, h, f.answered.1, f.answered.2), omega (arith, f.answered.1, f.answered.2))

module _ (flows : FlowsAlways) (d : Design) where
  by_line : (g : Generator) {xs ys : Left} {s t : Store} {n m k : ℕ} → Flows xs s n (resumed.Says k) ys t m → (r : Result (List Piece) Fault) → pieces_of t (prints_at g k) ≡ r → HasEnding d g ys t m → HasEnding d g xs s n
  by_line g f (Ok line) e h =
      record { ending = h.ending; lines = line ∷ h.lines; left = h.left; store = h.store; count = h.count; evaluation = prints f e h.evaluation }
  by_line g f (Err fault) e h =
      record { ending = _; lines = []; left = _; store = _; count = _; evaluation = fails f e }

  by_answer : (g : Generator) {xs ys : Left} {s t : Store} {n m : ℕ} (r : Resumed Fault) → Flows xs s n r ys t m → ((ys : Left) (t : Store) (m : ℕ) → n < m → m ≤ turn_limit → HasEnding d g ys t m) → HasEnding d g xs s n
  by_answer g {ys = ys} {t = t} {m = m} (resumed.Says k) f later =
      let h = says_counts f in by_line g f (pieces_of t (prints_at g k)) refl (later ys t m h.0 h.1)
  by_answer g (resumed.Waits k) f later =
      record { ending = _; lines = []; left = _; store = _; count = _; evaluation = ends f refl }
  by_answer g resumed.Stopped f later =
      record { ending = _; lines = []; left = _; store = _; count = _; evaluation = ends f refl }
  by_answer g resumed.Ended f later =
      record { ending = _; lines = []; left = _; store = _; count = _; evaluation = ends f refl }
  by_answer g (resumed.CheckFailed at) f later =
      record { ending = _; lines = []; left = _; store = _; count = _; evaluation = ends f refl }
  by_answer g (resumed.Fault at c) f later =
      record { ending = _; lines = []; left = _; store = _; count = _; evaluation = ends f refl }
  by_answer g resumed.TurnLimit f later =
      record { ending = _; lines = []; left = _; store = _; count = _; evaluation = ends f refl }

  up_to : (g : Generator) (j : ℕ) (xs : Left) (s : Store) (n : ℕ) → turn_limit - n ≤ j → HasEnding d g xs s n
  up_to g zero xs s n le =
      let h = flows xs s n in by_answer g h.answer h.evaluation (λ ys t m lt more. absurd (omega (arith, le, lt, more)))
  up_to g (suc j) xs s n le =
      let h = flows xs s n in by_answer g h.answer h.evaluation (λ ys t m lt more. up_to g j ys t m (omega (arith, le, lt, more)))

  -- An evaluation ends.
  pub evaluation_ends : (g : Generator) (xs : Left) (s : Store) (n : ℕ) → HasEnding d g xs s n
  evaluation_ends g xs s n = up_to g (turn_limit - n) xs s n (omega arith)

  by_goes_on : (time k : ℕ) (g : Generator) (gs : List Generator) (p : Process) (ps : List Process) (s : Signals) → is_woken s time p k ≡ true → (h : HasEnding d g p.left (store_of d time s p) 0) (b : Bool) → goes_on h.ending ≡ b → ((t : Signals) → HasEvaluations d time (k + 1) gs ps t) → HasEvaluations d time k (g ∷ gs) (p ∷ ps) s
  by_goes_on time k g gs p ps s w h true e later =
      let rest = later (waiting h.store.signals k (waits_after d g h.ending)) in
      record { outcome = rest.outcome; lines = h.lines ++ rest.lines; processes = record { left = h.left; locals = h.store.locals; since = time } ∷ rest.processes; signals = rest.signals; evaluations = evaluates w h.evaluation e rest.evaluations }
  by_goes_on time k g gs p ps s w h false e later =
      record { outcome = BrokenOff k h.ending; lines = h.lines; processes = p ∷ ps; signals = s; evaluations = breaks_off w h.evaluation e }

  by_woken : (time k : ℕ) (g : Generator) (gs : List Generator) (p : Process) (ps : List Process) (s : Signals) (b : Bool) → is_woken s time p k ≡ b → ((t : Signals) → HasEvaluations d time (k + 1) gs ps t) → HasEvaluations d time k (g ∷ gs) (p ∷ ps) s
  by_woken time k g gs p ps s false w later =
      let rest = later s in
      record { outcome = rest.outcome; lines = rest.lines; processes = p ∷ rest.processes; signals = rest.signals; evaluations = rests w rest.evaluations }
  by_woken time k g gs p ps s true w later =
      let h = evaluation_ends g p.left (store_of d time s p) 0 in by_goes_on time k g gs p ps s w h (goes_on h.ending) refl later

  -- The evaluations of a delta end.
  pub evaluations_end : (time k : ℕ) (gs : List Generator) (ps : List Process) (s : Signals) → length ps ≡ length gs → HasEvaluations d time k gs ps s
  evaluations_end time k [] [] s e =
      record { outcome = Done; lines = []; processes = []; signals = s; evaluations = none }
  evaluations_end time k [] (p ∷ ps) s e = absurd (omega (arith, e))
  evaluations_end time k (g ∷ gs) [] s e = absurd (omega (arith, e))
  evaluations_end time k (g ∷ gs) (p ∷ ps) s e =
      by_woken time k g gs p ps s (is_woken s time p k) refl (λ t. evaluations_end time (k + 1) gs ps t (omega (arith, e)))

  -- From each state there is a delta.
  pub delta_ends : (st : State) → IsWhole d st → HasDelta d st
  delta_ends st w =
      let h = evaluations_end st.time 0 d.generators st.processes st.signals w in
      record { outcome = h.outcome; lines = h.lines; after = after_of st h.outcome h.processes h.signals; step = record { processes = h.processes; signals = h.signals; evaluations = h.evaluations; after_is = refl } }

module _ (d : Design) where
  pub evaluations_keep : {time k : ℕ} {gs : List Generator} {ps qs : List Process} {s t : Signals} {o : Outcome} {ls : List (List Piece)} → Evaluations d time k gs ps s o ls qs t → length qs ≡ length ps
  evaluations_keep none = refl
  evaluations_keep (rests w a) = let h = evaluations_keep a in omega (arith, h)
  evaluations_keep (evaluates w v g a) = let h = evaluations_keep a in omega (arith, h)
  evaluations_keep (breaks_off w v g) = refl

  -- A delta that is done keeps the time, and that there is a process for each generator.
  pub delta_keeps : {st after : State} {ls : List (List Piece)} → DeltaStep d st Done ls after → IsWhole d st → IsWhole d after × (after.time ≡ st.time)
  delta_keeps {st = st} {after = after} h w =
      let e : after ≡ after_of st Done h.processes h.signals = h.after_is in
      let l : length h.processes ≡ length st.processes = evaluations_keep h.evaluations in
      (ap (λ x. length x.processes) e ∙ l ∙ w, ap (λ x. x.time) e)
