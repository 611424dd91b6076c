-- One generator after the other is visited.
use Rattle.std.proofs.Common.{◌≡◌, ℕ, ◌+◌, ◌<◌, ◌≤◌, List, length, sym, ap, ◌∙◌, subst, arith}
use Rattle.std.specs.Prelude.{Some, slice_get, slice_set}
use Rattle.mh_design.specs.declared.design.Design.{Design}
use Rattle.mh_design.specs.declared.design.Generator.{Generator}
use Rattle.mh_design.specs.Values.{Signals}
use Rattle.mh_design.specs.Deltas.{Process}
use Rattle.mh_sched.specs.declared.fault.SimFault.{SimFault}
use Rattle.mh_sched.specs.declared.process.Turn.{Turn}
use Rattle.mh_sched.specs.declared.process.Turn.TheVariants as turn
use Rattle.mh_sched.specs.declared.run.Passed.{Passed}
use Rattle.mh_sched.specs.declared.run.Passed.TheVariants as passed
use Rattle.mh_sched.specs.declared.run.Run.{Run}
use Rattle.mh_sched.specs.Kept.{RunTurned, HasVisited, IsRun, IsSomeRun, IsResting, IsHalfway, no_counts, count_at, design_of, HasPassed, HasResumed}
use Rattle.mh_sched.proofs.Arriving.{Reached, step_rests, step_says, step_stops, step_fails, rests_then, says_then, stops_then, fails_then}
use Rattle.mh_sched.proofs.Stepping.{here, here_none}

pub some_resting : {r : Run} → IsResting r → IsSomeRun r
some_resting w =
    record { time = w.time; signals = w.signals; states = w.states; counts = no_counts; run = w.run }

pub some_halfway : {r : Run} {k : ℕ} → IsHalfway r k → IsSomeRun r
some_halfway {r} {k} w =
    record { time = w.time; signals = w.signals; states = w.states; counts = count_at k w.count; run = w.run }

-- What a visit does of each run.
abbrev pub Visits : Run → ℕ → Turn → Run → Type 0
Visits r k t after =
    (time : ℕ) (s : Signals) (xs : List Process) (g : Generator) (x : Process) → IsRun r time s xs no_counts → slice_get (design_of r).generators k ≡ Some g → slice_get xs k ≡ Some x → HasVisited (design_of r) time k g x s xs t r after

pub some_reached : {d : Design} {time from : ℕ} {xs : List Process} {s : Signals} {k : ℕ} {r : Run} → Reached d time from xs s k r → IsSomeRun r
some_reached {time = time} w =
    record { time = time; signals = w.signals; states = w.states; counts = no_counts; run = w.run }

pub reached_count : {r0 r : Run} {time from : ℕ} {xs : List Process} {s : Signals} {k : ℕ} → IsRun r0 time s xs no_counts → Reached (design_of r0) time from xs s k r → r.count ≡ r0.count
reached_count w v = v.run.count ∙ ap (λ d. length d.generators) v.design ∙ sym w.count

module _ {d : Design} {time from : ℕ} {xs : List Process} {s : Signals} {k : ℕ} {r : Run} (w : Reached d time from xs s k r) (h : k < r.count) (after : Run) where
  record Visited (t : Turn) : Type 0 where
    pub generator : Generator
    pub state : Process
    pub generator_at : slice_get d.generators k ≡ Some generator
    pub state_at : slice_get w.states k ≡ Some state
    pub visit : HasVisited d time k generator state w.signals w.states t r after

  visited : (t : Turn) → Visits r k t after → Visited t
  visited t f =
      let o = here k w.run h in
      record {
        generator = o.generator;
        state = o.state;
        generator_at = subst (λ v. slice_get v.generators k ≡ Some o.generator) w.design o.generator_at;
        state_at = o.state_at;
        visit = subst (λ v. HasVisited v time k o.generator o.state w.signals w.states t r after) w.design (f time w.signals w.states o.generator o.state w.run o.generator_at o.state_at);
      }

  pub rests_on : Visits r k turn.Rests after → Reached d time from xs s (k + 1) after
  rests_on f = let v = visited turn.Rests f in step_rests w v.generator_at v.state_at v.visit

  pub says_on : (j : ℕ) → length xs ≡ length d.generators → Visits r k (turn.Says j) after → HasPassed d time from xs s (passed.Says k j) after
  says_on j l f = let v = visited (turn.Says j) f in step_says w v.generator_at v.state_at j l v.visit

  pub stops_on : length xs ≡ length d.generators → Visits r k turn.Stops after → HasPassed d time from xs s passed.Stops after
  stops_on l f = let v = visited turn.Stops f in step_stops w v.generator_at v.state_at l v.visit

  pub fails_on : (y : SimFault) → length xs ≡ length d.generators → Visits r k (turn.Fails y) after → HasPassed d time from xs s (passed.Fails y) after
  fails_on y l f = let v = visited (turn.Fails y) f in step_fails w v.generator_at v.state_at y l v.visit

-- What a turn does of each run, and what passes on from there.
abbrev pub Turns : Run → ℕ → Turn → Run → Type 0
Turns r k t after =
    (time : ℕ) (s : Signals) (xs : List Process) (n : ℕ) (g : Generator) (x : Process) → IsRun r time s xs (count_at k n) → slice_get (design_of r).generators k ≡ Some g → slice_get xs k ≡ Some x → RunTurned (design_of r) time n k g x s xs t after

abbrev pub PassesOn : Run → ℕ → Passed → Run → Type 0
PassesOn r k a after =
    (time : ℕ) (s : Signals) (xs : List Process) → IsRun r time s xs no_counts → HasPassed (design_of r) time k xs s a after

module _ {r : Run} {time : ℕ} (n : ℕ) {k : ℕ} {xs : List Process} {s : Signals} (w : IsRun r time s xs (count_at k n)) (h : k < r.count) (middle : Run) where
  record Taken (t : Turn) : Type 0 where
    pub generator : Generator
    pub state : Process
    pub generator_at : slice_get (design_of r).generators k ≡ Some generator
    pub state_at : slice_get xs k ≡ Some state
    pub turned : RunTurned (design_of r) time n k generator state s xs t middle

  taken : (t : Turn) → Turns r k t middle → Taken t
  taken t f =
      let o = here k w h in
      record {
        generator = o.generator;
        state = o.state;
        generator_at = o.generator_at;
        state_at = o.state_at;
        turned = f time s xs n o.generator o.state w o.generator_at o.state_at;
      }

  pub resting_after : Turns r k turn.Rests middle → IsResting middle
  resting_after f =
      let t = (taken turn.Rests f).turned in
      record { time = time; signals = t.signals; states = slice_set xs k t.state; run = here_none k t.count t.turns.1 t.run }

  pub below_after : Turns r k turn.Rests middle → k + 1 ≤ middle.count
  below_after f =
      let t = (taken turn.Rests f).turned in
      let e : middle.count ≡ r.count = t.run.count ∙ ap (λ d. length d.generators) t.design ∙ sym w.count in
      omega (arith, e, h)

  pub rests_go : {a : Passed} {after : Run} → Turns r k turn.Rests middle → PassesOn middle (k + 1) a after → HasResumed (design_of r) time n k xs s a after
  rests_go {a} {after} f p =
      let v = taken turn.Rests f in
      let t = v.turned in
      rests_then (design_of r) time n k xs s v.generator v.state v.generator_at v.state_at middle after t (subst (λ d. HasPassed d time (k + 1) (slice_set xs k t.state) t.signals a after) t.design (p time t.signals (slice_set xs k t.state) (here_none k t.count t.turns.1 t.run)))

  pub says_go : (j : ℕ) → Turns r k (turn.Says j) middle → HasResumed (design_of r) time n k xs s (passed.Says k j) middle
  says_go j f =
      let v = taken (turn.Says j) f in
      says_then (design_of r) time n k xs s v.generator v.state v.generator_at v.state_at middle middle j v.turned

  pub stops_go : Turns r k turn.Stops middle → HasResumed (design_of r) time n k xs s passed.Stops middle
  stops_go f =
      let v = taken turn.Stops f in
      stops_then (design_of r) time n k xs s v.generator v.state v.generator_at v.state_at middle middle v.turned

  pub fails_go : (y : SimFault) → Turns r k (turn.Fails y) middle → HasResumed (design_of r) time n k xs s (passed.Fails y) middle
  fails_go y f =
      let v = taken (turn.Fails y) f in
      fails_then (design_of r) time n k xs s v.generator v.state v.generator_at v.state_at middle middle y v.turned
