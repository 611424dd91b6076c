-- A run up to a time, by whole deltas and steps of time.
use Rattle.std.proofs.Common.{◌≡◌, ℕ, ◌+◌, ◌-◌, ◌*◌, ◌<◌, ◌≤◌, Bool, true, false, ◌==◌, List, refl, sym, ap, ◌∙◌, subst, arith}
use Rattle.std.specs.Prelude.{Result, Ok, Err, Option, None, Some, nat_le, if◌then◌else◌}
use Rattle.std.proofs.lemmas.Bool.{leb-true, eqb-true}
use Rattle.mh_design.specs.declared.design.Design.{Design}
use Rattle.mh_sched.specs.declared.answer.Delta.{Delta}
use Rattle.mh_sched.specs.declared.answer.Delta.TheVariants as delta
use Rattle.mh_sched.specs.declared.answer.End.{End}
use Rattle.mh_sched.specs.declared.answer.End.TheVariants as «end»
use Rattle.mh_sched.specs.declared.fault.SimFault.{SimFault}
use Rattle.mh_sched.specs.declared.fault.SimFault.TheVariants as simfault
use Rattle.mh_sched.specs.declared.sim.Sim.{Sim}
use Rattle.mh_sched.specs.Runs.{Moment, next_time, at_time}
use Rattle.mh_sched.specs.Standing.{Standing, Between, Inside, Over, time_of, MeansTime, quiet_end, reached_event, moved, advance_answer}
use Rattle.mh_sched.specs.At.{of_sim, IsAt, IsSomewhere, HasGone, HasRun, RunsUntil, deltas_of, IsOpen, WholeDelta, NoDelta, DeltaWhole, HasMoved, HasStepped, step_end, left_until, HasGoneOn, GoesRound}
use Rattle.mh_sched.proofs.Events.{next_is_later}
use Rattle.mh_sched.proofs.Until.{gone_none, gone_on_to, gone_and, gone_to_end, run_on}

-- Where the loop of a run stands.
pub record Runs (d : Design) (limit : ℕ) (st : Standing) (before after : List ℕ) (sim : Sim) : Type 0 where
  pub now : Standing
  pub gone : HasGone d limit st before after now sim

pub runs_none : {d : Design} {limit : ℕ} (st : Standing) (bs : List ℕ) (sim : Sim) → IsAt sim st → of_sim sim ≡ d → Runs d limit st bs bs sim
runs_none st bs sim w e = record { now = st; gone = gone_none st bs sim w e }

time_at : (sim : Sim) (st : Standing) → IsAt sim st → IsOpen st → sim.run.store.time ≡ time_of st
time_at sim (Between m) w o = w.0.run.time_is
time_at sim (Inside m g n) w o = w.0.run.time_is
time_at sim (Over c vs) w o = absurd o

deltas_at : (sim : Sim) (st : Standing) → IsAt sim st → IsOpen st → sim.deltas ≡ deltas_of st
deltas_at sim (Between m) w o = w.0.deltas
deltas_at sim (Inside m g n) w o = w.0.deltas
deltas_at sim (Over c vs) w o = absurd o

delta_less : (limit time n k : ℕ) → k ≡ n + 1 → n < 10000 → (limit + 1 - time) * 10001 + (10000 - k) < (limit + 1 - time) * 10001 + (10000 - n)
delta_less limit time n k e h = omega (arith, e, h)

time_less : (limit time u n : ℕ) → time < u → u ≤ limit → (limit + 1 - u) * 10001 + (10000 - 0) < (limit + 1 - time) * 10001 + (10000 - n)
time_less limit time u n a b = omega (arith, a, b)

pub whole_less : {d : Design} {limit : ℕ} {now : Standing} {before after : List ℕ} (old new : Sim) → IsAt old now → WholeDelta d limit now before after new → left_until limit new < left_until limit old
whole_less {d} {limit} {now} old new at w =
    let t : new.run.store.time ≡ old.run.store.time = w.gone.at.0.run.time_is ∙ w.time ∙ sym (time_at old now at w.live) in
    let n : new.deltas ≡ old.deltas + 1 = w.gone.at.0.deltas ∙ w.deltas ∙ ap (λ k. k + 1) (sym (deltas_at old now at w.live)) in
    let b : old.deltas < 10000 = subst (λ k. k < 10000) (sym (deltas_at old now at w.live)) w.below in
    subst (λ v. (limit + 1 - v) * 10001 + (10000 - new.deltas) < left_until limit old) (sym t) (delta_less limit old.run.store.time old.deltas new.deltas n b)

-- A step of time.
record Later (limit : ℕ) (m : Moment) (u : ℕ) : Type 0 where
  pub next : next_time m.state ≡ Some u
  pub within : u ≤ limit

later_of : (limit : ℕ) (m : Moment) (u : ℕ) (o : Option ℕ) → next_time m.state ≡ o → reached_event limit o ≡ Some u → Later limit m u
later_of limit m u None e h = absurd cc
later_of limit m u (Some v) e h = by_test (nat_le v limit) refl where
  by_test : (b : Bool) → nat_le v limit ≡ b → Later limit m u
  by_test true x =
      let s : (if true then Some v else None) ≡ Some u = subst (λ b. (if b then Some v else None) ≡ Some u) x h in
      let i : v ≡ u = cc in
      record { next = e ∙ ap Some i; within = subst (λ k. k ≤ limit) i (leb-true v limit x) }
  by_test false x =
      let s : (if false then Some v else None) ≡ Some u = subst (λ b. (if b then Some v else None) ≡ Some u) x h in
      absurd cc

time_moved : (u : ℕ) (m : Moment) → m.state.time < u → (at_time u m).state.time ≡ u
time_moved u m h = by_test (m.state.time == u) refl where
  by_test : (b : Bool) → (m.state.time == u) ≡ b → (if b then m else record { state = record m.state { time = u }; deltas = 0 }).state.time ≡ u
  by_test true e = eqb-true m.state.time u e
  by_test false e = refl

none_moved : (u : ℕ) (m : Moment) → m.state.time < u → (at_time u m).deltas ≡ 0
none_moved u m h = by_test (m.state.time == u) refl where
  by_test : (b : Bool) → (m.state.time == u) ≡ b → (if b then m else record { state = record m.state { time = u }; deltas = 0 }).deltas ≡ 0
  by_test true e = let i = eqb-true m.state.time u e in absurd (omega (arith, h, i))
  by_test false e = refl

-- A round of a run up to a limit.
module _ {d : Design} {limit : ℕ} {st : Standing} {before after : List ℕ} {new : Sim} (a : Delta) (w : DeltaWhole d limit st (Ok a) before after new) where
  pub whole_is_ran : a ≡ delta.Ran → WholeDelta d limit st before after new
  whole_is_ran e = subst (λ v. DeltaWhole d limit st (Ok v) before after new) e w

  pub whole_is_quiet : a ≡ delta.Quiet → NoDelta d limit st before after new
  whole_is_quiet e = subst (λ v. DeltaWhole d limit st (Ok v) before after new) e w

  pub whole_is_stopped : a ≡ delta.Stopped → HasRun d limit st (Ok «end».Stopped) before after new
  whole_is_stopped e = subst (λ v. DeltaWhole d limit st (Ok v) before after new) e w

pub whole_says : (d : Design) (limit : ℕ) (st : Standing) (before after : List ℕ) (new : Sim) (a : Delta) → DeltaWhole d limit st (Ok a) before after new → (g k : ℕ) → a ≡ delta.Says g k → ⊥
whole_says d limit st before after new a w g k e = subst (λ v. DeltaWhole d limit st (Ok v) before after new) e w

pub round_ran : {d : Design} {limit : ℕ} {st : Standing} {before after : List ℕ} (old new : Sim) → IsAt old st → WholeDelta d limit st before after new → GoesRound d limit st (Ok None) before after old new
round_ran old new at w = record { now = Between w.moment; gone = w.gone; less = whole_less old new at w }

pub round_failed : (d : Design) (limit : ℕ) (st : Standing) (before after : List ℕ) (old new : Sim) (f : SimFault) → DeltaWhole d limit st (Err f) before after new → GoesRound d limit st (Err f) before after old new
round_failed d limit st before after old new (simfault.At c t l v low high) x = x
round_failed d limit st before after old new simfault.Memory x = x

module _ {d : Design} {limit : ℕ} {st : Standing} {before after : List ℕ} (old middle : Sim) (at : IsAt old st) (rest : NoDelta d limit st before after middle) (times : MeansTime d limit rest.moment (advance_answer limit rest.moment)) (new : Sim) where
  step_less : (u : ℕ) → advance_answer limit rest.moment ≡ Some u → HasMoved (at_time u rest.moment) new d → left_until limit new < left_until limit old
  step_less u i v =
      let l = later_of limit rest.moment u (next_time rest.moment.state) refl i in
      let h = next_is_later rest.moment.state u l.next in
      let t : new.run.store.time ≡ u = v.at.0.run.time_is ∙ time_moved u rest.moment h in
      let n : new.deltas ≡ 0 = v.at.0.deltas ∙ none_moved u rest.moment h in
      let b : old.run.store.time ≡ rest.moment.state.time = time_at old st at rest.live ∙ sym rest.time in
      subst (λ x. (limit + 1 - x) * 10001 + (10000 - new.deltas) < left_until limit old) (sym t) (subst (λ x. (limit + 1 - u) * 10001 + (10000 - x) < left_until limit old) (sym n) (subst (λ x. (limit + 1 - u) * 10001 + (10000 - 0) < (limit + 1 - x) * 10001 + (10000 - old.deltas)) (sym b) (time_less limit rest.moment.state.time u old.deltas h l.within)))

  -- it goes on at a later time
  steps_on : (o : Option ℕ) → advance_answer limit rest.moment ≡ o → MeansTime d limit rest.moment o → step_end (next_time rest.moment.state) o ≡ None → HasMoved (moved limit o rest.moment) new d → HasGoneOn d limit st before after old new
  steps_on None i m e v = absurd cc
  steps_on (Some u) i m e v =
      record { now = Between (at_time u rest.moment); gone = gone_on_to rest.gone (Between (at_time u rest.moment)) new m v.at v.design; less = step_less u i v }

  -- it has ended
  steps_end : (o : Option ℕ) (x : End) → MeansTime d limit rest.moment o → step_end (next_time rest.moment.state) o ≡ Some x → HasMoved (moved limit o rest.moment) new d → HasRun d limit st (Ok x) before after new
  steps_end None x m e v =
      let i : quiet_end (next_time rest.moment.state) ≡ x = cc in
      subst (λ y. HasRun d limit st (Ok y) before after new) i (gone_to_end rest.gone (Ok (quiet_end (next_time rest.moment.state))) (Between (at_time limit rest.moment)) new m v.at v.design)
  steps_end (Some u) x m e v = absurd cc

  pub stepped_round : (a : Option End) → HasStepped limit rest.moment a new d → GoesRound d limit st (Ok a) before after old new
  stepped_round None s = steps_on (advance_answer limit rest.moment) refl times (sym s.answer) s.moved
  stepped_round (Some x) s = steps_end (advance_answer limit rest.moment) x times (sym s.answer) s.moved

-- Round after round.
pub runs_somewhere : {d : Design} {limit : ℕ} {st : Standing} {before mid : List ℕ} {old : Sim} → Runs d limit st before mid old → IsSomewhere old
runs_somewhere w = record { standing = w.now; at = w.gone.at }

module _ {d : Design} {limit : ℕ} {st : Standing} {before mid : List ℕ} {old : Sim} (w : Runs d limit st before mid old) (after : List ℕ) (new : Sim) where
  gone_round : (r : Result (Option End) SimFault) → ((now : Standing) → IsAt old now → GoesRound (of_sim old) limit now r mid after old new) → GoesRound d limit w.now r mid after old new
  gone_round r f = subst (λ v. GoesRound v limit w.now r mid after old new) w.gone.design (f w.now w.gone.at)

  round_of : (a o : Option End) → ((now : Standing) → IsAt old now → GoesRound (of_sim old) limit now (Ok a) mid after old new) → a ≡ o → GoesRound d limit w.now (Ok o) mid after old new
  round_of a o f e = subst (λ v. GoesRound d limit w.now (Ok v) mid after old new) e (gone_round (Ok a) f)

  pub runs_on : (a : Option End) → ((now : Standing) → IsAt old now → GoesRound (of_sim old) limit now (Ok a) mid after old new) → a ≡ None → Runs d limit st before after new
  runs_on a f e = let x = round_of a None f e in record { now = x.now; gone = gone_and w.gone x.gone }

  pub runs_less : (a : Option End) → ((now : Standing) → IsAt old now → GoesRound (of_sim old) limit now (Ok a) mid after old new) → a ≡ None → left_until limit new < left_until limit old
  runs_less a f e = (round_of a None f e).less

  pub runs_out : (a : Option End) (x : End) → ((now : Standing) → IsAt old now → GoesRound (of_sim old) limit now (Ok a) mid after old new) → a ≡ Some x → HasRun d limit st (Ok x) before after new
  runs_out a x f e = run_on w.gone (Ok x) after new (round_of a (Some x) f e)

  failed_by : (f : SimFault) → RunsUntil d limit w.now (Err f) mid after new → RunsUntil d limit st (Err f) before after new
  failed_by (simfault.At c t l v low high) x = run_on w.gone (Err (simfault.At c t l v low high)) after new x
  failed_by simfault.Memory x = x

  pub runs_failed : (f : SimFault) → ((now : Standing) → IsAt old now → GoesRound (of_sim old) limit now (Err f) mid after old new) → RunsUntil d limit st (Err f) before after new
  runs_failed f g = failed_by f (gone_round (Err f) g)
