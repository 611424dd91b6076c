-- The deltas of a time end, and so does a run up to a time.
use Rattle.std.proofs.Common.{◌≡◌, ℕ, zero, suc, ◌-◌, ◌<◌, ◌≤◌, Bool, true, false, List, [], refl, ◌∙◌, arith}
use Rattle.std.specs.Prelude.{Option, None, Some, nat_lt, ◌==◌, if◌then◌else◌}
use Rattle.std.proofs.lemmas.Bool.{ltb-true, ltb-false, eqb-true}
use Rattle.mh_design.specs.declared.design.Design.{Design}
use Rattle.mh_design.specs.Deltas.{State, Outcome, Done, BrokenOff, DeltaStep, is_due}
use Rattle.mh_sched.specs.Lines.{Line}
use Rattle.mh_sched.specs.Runs.{Moment, Close, AtRest, Stops, Fails, after_delta, delta_limit, Settles, rests, ran, ends, exceeds, quiet, reached, goes_on, stopped, failed, at_time, next_time}
use Rattle.mh_sched.specs.Outcomes.{IsWhole, HasClose, HasRun}
use Rattle.mh_sched.proofs.Events.{next_is_later}
use Rattle.mh_sched.proofs.Ending.{FlowsAlways, delta_ends, delta_keeps}

module _ (d : Design) where
  -- The deltas of a time keep the time, and that there is a process for each generator.
  pub settles_keep : {m : Moment} {c : Close} {ls : List Line} {n : Moment} → Settles d m c ls n → IsWhole d m.state → IsWhole d n.state × (n.state.time ≡ m.state.time)
  settles_keep (rests w) h = (h, refl)
  settles_keep (ran w lt s a) h =
      let k = delta_keeps d s h in
      let r = settles_keep a k.0 in
      (r.0, r.1 ∙ k.1)
  settles_keep (ends w lt s) h = (h, refl)
  settles_keep (exceeds w le) h = (h, refl)

module _ (flows : FlowsAlways) (d : Design) where
  by_outcome : {m : Moment} {ls : List Line} {st : State} (o : Outcome) → is_due d m.state ≡ true → m.deltas < delta_limit → DeltaStep d m.state o ls st → IsWhole d m.state → (IsWhole d st → HasClose d (after_delta m st)) → HasClose d m
  by_outcome Done w lt s h later =
      let rest = later (delta_keeps d s h).0 in
      record { close = rest.close; lines = _; after = rest.after; settles = ran w lt s rest.settles }
  by_outcome (BrokenOff k e) w lt s h later =
      record { close = _; lines = _; after = _; settles = ends w lt s }

  by_room : (m : Moment) (b : Bool) → nat_lt m.deltas delta_limit ≡ b → is_due d m.state ≡ true → IsWhole d m.state → (m.deltas < delta_limit → (st : State) → IsWhole d st → HasClose d (after_delta m st)) → HasClose d m
  by_room m true e w h later =
      let lt = ltb-true m.deltas delta_limit e in
      let k = delta_ends flows d m.state h in
      by_outcome k.outcome w lt k.step h (later lt k.after)
  by_room m false e w h later =
      record { close = _; lines = []; after = m; settles = exceeds w (ltb-false m.deltas delta_limit e) }

  by_due : (m : Moment) (b : Bool) → is_due d m.state ≡ b → IsWhole d m.state → (m.deltas < delta_limit → (st : State) → IsWhole d st → HasClose d (after_delta m st)) → HasClose d m
  by_due m false w h later =
      record { close = AtRest; lines = []; after = m; settles = rests w }
  by_due m true w h later = by_room m (nat_lt m.deltas delta_limit) refl w h later

  settles_in : (j : ℕ) (m : Moment) → IsWhole d m.state → delta_limit - m.deltas ≤ j → HasClose d m
  settles_in zero m h le = by_due m (is_due d m.state) refl h (λ lt st w. absurd (omega (arith, le, lt)))
  settles_in (suc j) m h le =
      by_due m (is_due d m.state) refl h (λ lt st w. settles_in j (after_delta m st) w (omega (arith, le, lt)))

  -- The deltas of a time end.
  pub settles : (m : Moment) → IsWhole d m.state → HasClose d m
  settles m h = settles_in (delta_limit - m.deltas) m h (omega arith)

-- The time goes on to what it is given.
time_at : (u : ℕ) (m : Moment) → (at_time u m).state.time ≡ u
time_at u m = by_same (m.state.time == u) refl where
  by_same : (b : Bool) → (m.state.time == u) ≡ b → (if b then m else record { state = record m.state { time = u }; deltas = 0 }).state.time ≡ u
  by_same true e = eqb-true m.state.time u e
  by_same false e = refl

whole_at : (d : Design) (u : ℕ) (m : Moment) → IsWhole d m.state → IsWhole d (at_time u m).state
whole_at d u m h = by_same (m.state.time == u) where
  by_same : (b : Bool) → IsWhole d (if b then m else record { state = record m.state { time = u }; deltas = 0 }).state
  by_same true = h
  by_same false = h

module _ (flows : FlowsAlways) (d : Design) (limit : ℕ) where
  abbrev Later : Moment → Type 0
  Later m = (n : Moment) → IsWhole d n.state → m.state.time < n.state.time → n.state.time ≤ limit → HasRun d limit n

  by_limit : {m n : Moment} {ls : List Line} (u : ℕ) → Settles d m AtRest ls n → next_time n.state ≡ Some u → IsWhole d m.state → Later m → (b : Bool) → nat_lt limit u ≡ b → HasRun d limit m
  by_limit u s x h later true e =
      record { answer = _; lines = _; rows = _; after = _; runs = reached s x (ltb-true limit u e) }
  by_limit {m = m} {n = n} u s x h later false e =
      let k = settles_keep d s h in
      let le = ltb-false limit u e in
      let lt = next_is_later n.state u x in
      let t = time_at u n in
      let rest = later (at_time u n) (whole_at d u n k.0) (omega (arith, k.1, lt, t)) (omega (arith, le, t)) in
      record { answer = rest.answer; lines = _; rows = _; after = rest.after; runs = goes_on s x le rest.runs }

  by_next : {m n : Moment} {ls : List Line} → Settles d m AtRest ls n → (o : Option ℕ) → next_time n.state ≡ o → IsWhole d m.state → Later m → HasRun d limit m
  by_next s None x h later = record { answer = _; lines = _; rows = _; after = _; runs = quiet s x }
  by_next s (Some u) x h later = by_limit u s x h later (nat_lt limit u) refl

  by_close : {m n : Moment} {ls : List Line} (c : Close) → Settles d m c ls n → IsWhole d m.state → Later m → HasRun d limit m
  by_close {n = n} AtRest s h later = by_next s (next_time n.state) refl h later
  by_close Stops s h later = record { answer = _; lines = _; rows = _; after = _; runs = stopped s }
  by_close (Fails f) s h later = record { answer = _; lines = _; rows = _; after = _; runs = failed s }

  runs_in : (j : ℕ) (m : Moment) → IsWhole d m.state → limit - m.state.time ≤ j → HasRun d limit m
  runs_in zero m h le =
      let k = settles flows d m h in
      by_close k.close k.settles h (λ n w lt more. absurd (omega (arith, le, lt, more)))
  runs_in (suc j) m h le =
      let k = settles flows d m h in
      by_close k.close k.settles h (λ n w lt more. runs_in j n w (omega (arith, le, lt, more)))

  -- A run up to a time ends.
  pub runs : (m : Moment) → IsWhole d m.state → HasRun d limit m
  runs m h = runs_in (limit - m.state.time) m h (omega arith)
