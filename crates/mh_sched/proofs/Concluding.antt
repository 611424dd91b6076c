-- What a call of a delta comes to, and where it leaves a simulator.
use Rattle.std.proofs.Common.{◌≡◌, ℕ, zero, suc, ◌+◌, ◌<◌, ◌≤◌, true, false, ◌==◌, List, [], ◌∷◌, ◌++◌, length, take, drop, refl, sym, ap, ◌∙◌, subst, arith}
use Rattle.std.specs.Prelude.{ℤ, Result, Ok, Err, slice_set, if◌then◌else◌}
use Rattle.std.proofs.lemmas.Bool.{eq-eqb, ne_eqb}
use Rattle.std.proofs.lemmas.List.{length-set}
use Rattle.mh_num.specs.declared.bounds.OutOfBounds.{OutOfBounds}
use Rattle.mh_design.specs.declared.design.Design.{Design}
use Rattle.mh_design.specs.declared.design.Generator.{Generator}
use Rattle.mh_design.specs.Assignments.{taken, limits_at, pending_is, next_set}
use Rattle.mh_design.specs.Values.{Signals}
use Rattle.mh_design.specs.Deltas.{Process, Ending, AtWait, AtEnd, AtStop, InFault, is_due, updated}
use Rattle.mh_signals.specs.Holding.{first_is, held}
use Rattle.mh_sched.specs.declared.answer.Delta.TheVariants as delta
use Rattle.mh_sched.specs.declared.fault.SimFault.{SimFault}
use Rattle.mh_sched.specs.declared.run.Passed.{Passed}
use Rattle.mh_sched.specs.declared.run.Passed.TheVariants as passed
use Rattle.mh_sched.specs.declared.run.Run.{Run}
use Rattle.mh_sched.specs.declared.sim.Phase.TheVariants as phase
use Rattle.mh_sched.specs.declared.sim.Sim.{Sim}
use Rattle.mh_sched.specs.Calls.{Reply, Finished, Prints, Breaks, Passes, Resumes, GoesOn}
use Rattle.mh_sched.specs.Calls as calls
use Rattle.mh_sched.specs.Lines.{Line}
use Rattle.mh_sched.specs.Runs.{Moment, Close, Stops, Fails, close_of, delta_limit, at_time}
use Rattle.mh_sched.specs.Standing.{Standing, Between, Inside, Over, DeltaCall, ending_answer, answer_of, left_by, full_delta, values_of, given, hold_of, drive_of, with_state}
use Rattle.mh_sched.specs.Standing as standing
use Rattle.mh_sched.specs.Kept.{IsSized, IsRun, no_counts, count_at, design_of, HasCount, passed_of, Leaves, HasPassed, HasResumed}
use Rattle.mh_sched.specs.At.{of_sim, IsOver, IsAt, DeltaDone, IsGiven, Concludes, HasConcluded, HasMoved}

-- It prints.
pub record IsPrint (g j : ℕ) (r : Reply) : Type 0 where
  pub number : ℕ
  pub line : Result Line Ending
  pub is : r ≡ Prints g j number line

-- It breaks off.
pub record IsBreak (time : ℕ) (c : Close) (r : Reply) : Type 0 where
  pub generator : ℕ
  pub ending : Ending
  pub is : r ≡ Breaks generator ending
  pub close : close_of time ending ≡ c

-- The reply of the definition, by the answer of the code.
module _ (run : Run) (time : ℕ) (before : Signals) (xs : List Process) (s : Signals) where
  pub is_finished : (r : Reply) → Leaves run time before r xs s → passed.Finished ≡ passed_of time r → r ≡ Finished
  is_finished Finished l e = refl
  is_finished (Prints g j n line) l e = absurd cc
  is_finished (Breaks g (AtWait k)) l e = let z = l.1 in absurd cc
  is_finished (Breaks g AtEnd) l e = let z = l.1 in absurd cc
  is_finished (Breaks g AtStop) l e = absurd cc
  is_finished (Breaks g (InFault line f)) l e = absurd cc

  pub is_print : (g j : ℕ) (r : Reply) → Leaves run time before r xs s → passed.Says g j ≡ passed_of time r → IsPrint g j r
  is_print g j Finished l e = absurd cc
  is_print g j (Prints h k n line) l e =
      let a : h ≡ g = cc in
      let b : k ≡ j = cc in
      record { number = n; line = line; is = ap (λ v. Prints v k n line) a ∙ ap (λ v. Prints g v n line) b }
  is_print g j (Breaks h (AtWait k)) l e = let z = l.1 in absurd cc
  is_print g j (Breaks h AtEnd) l e = let z = l.1 in absurd cc
  is_print g j (Breaks h AtStop) l e = absurd cc
  is_print g j (Breaks h (InFault line f)) l e = absurd cc

  pub is_stop : (r : Reply) → Leaves run time before r xs s → passed.Stops ≡ passed_of time r → IsBreak time Stops r
  is_stop Finished l e = absurd cc
  is_stop (Prints h k n line) l e = absurd cc
  is_stop (Breaks h (AtWait k)) l e = let z = l.1 in absurd cc
  is_stop (Breaks h AtEnd) l e = let z = l.1 in absurd cc
  is_stop (Breaks h AtStop) l e = record { generator = h; ending = AtStop; is = refl; close = refl }
  is_stop (Breaks h (InFault line f)) l e = absurd cc

  pub is_fault : (f : SimFault) (r : Reply) → Leaves run time before r xs s → passed.Fails f ≡ passed_of time r → IsBreak time (Fails f) r
  is_fault f Finished l e = absurd cc
  is_fault f (Prints h k n line) l e = absurd cc
  is_fault f (Breaks h (AtWait k)) l e = let z = l.1 in absurd cc
  is_fault f (Breaks h AtEnd) l e = let z = l.1 in absurd cc
  is_fault f (Breaks h AtStop) l e = absurd cc
  is_fault f (Breaks h (InFault line x)) l e =
      record { generator = h; ending = InFault line x; is = refl; close = cc }

stop_answer : (time : ℕ) (e : Ending) → close_of time e ≡ Stops → ending_answer time e ≡ Ok delta.Stopped
stop_answer time (AtWait k) h = absurd cc
stop_answer time AtEnd h = absurd cc
stop_answer time AtStop h = refl
stop_answer time (InFault l f) h = absurd cc

pub fault_answer : (time : ℕ) (e : Ending) (f : SimFault) → close_of time e ≡ Fails f → ending_answer time e ≡ Err f
fault_answer time (AtWait k) f h = absurd cc
fault_answer time AtEnd f h = absurd cc
fault_answer time AtStop f h = absurd cc
fault_answer time (InFault l x) f h = cc

module _ {old : Sim} {p : Passed} {m : Moment} {r : Reply} {xs : List Process} {s : Signals} (w : Concludes old p m r xs s) (new : Sim) where
  pub concludes_finished : p ≡ passed.Finished → IsRun new.run m.state.time (updated s) xs no_counts → of_sim new ≡ of_sim old → new.deltas ≡ old.deltas + 1 → new.phase ≡ phase.Between → HasConcluded m r xs s (Ok delta.Ran) new (of_sim old)
  concludes_finished e run de co ph =
      let i = is_finished old.run m.state.time m.state.signals xs s r w.leaves (sym e ∙ w.answer) in
      subst (λ v. HasConcluded m v xs s (Ok delta.Ran) new (of_sim old)) (sym i) (record { answer = refl; at = (record { run = run; deltas = co ∙ ap (λ n. n + 1) w.deltas }, ph); design = de })

  pub leaves_finished : p ≡ passed.Finished → IsRun old.run m.state.time s xs no_counts
  leaves_finished e =
      let i = is_finished old.run m.state.time m.state.signals xs s r w.leaves (sym e ∙ w.answer) in
      subst (λ v. Leaves old.run m.state.time m.state.signals v xs s) i w.leaves

  pub concludes_says : (g j : ℕ) → p ≡ passed.Says g j → new.run ≡ old.run → new.deltas ≡ old.deltas → new.phase ≡ phase.Inside g → HasConcluded m r xs s (Ok (delta.Says g j)) new (of_sim old)
  concludes_says g j e ru co ph =
      let i = is_print old.run m.state.time m.state.signals xs s g j r w.leaves (sym e ∙ w.answer) in
      let l = subst (λ v. Leaves old.run m.state.time m.state.signals v xs s) i.is w.leaves in
      subst (λ v. HasConcluded m v xs s (Ok (delta.Says g j)) new (of_sim old)) (sym i.is) (record {
        answer = refl;
        at = (
          record {
            run = subst (λ v. IsRun v m.state.time s xs (count_at g i.number)) (sym ru) l.0;
            deltas = co ∙ w.deltas;
          },
          ph,
          subst (λ v. g < length v.store.design.generators) (sym ru) l.1,
          subst (λ v. HasCount v g i.number) (sym ru) l.2,
          w.below,
        );
        design = ap design_of ru;
      })

  over : {c : Close} → IsBreak m.state.time c r → new.run ≡ old.run → IsOver c new.phase → IsAt new (left_by m r xs s)
  over {c} i ru ph =
      let l = subst (λ v. Leaves old.run m.state.time m.state.signals v xs s) i.is w.leaves in
      subst (λ v. IsAt new (left_by m v xs s)) (sym i.is) (subst (λ v. IsOver v new.phase) (sym i.close) ph, ap (λ v. v.store.signals.values) ru ∙ l.0, w.values ∙ ap (λ v. length v.store.design.signals) (sym ru))

  pub concludes_stops : p ≡ passed.Stops → new.run ≡ old.run → new.phase ≡ phase.Stopped → HasConcluded m r xs s (Ok delta.Stopped) new (of_sim old)
  concludes_stops e ru ph =
      let i = is_stop old.run m.state.time m.state.signals xs s r w.leaves (sym e ∙ w.answer) in
      record {
        answer = sym (ap (answer_of m.state.time) i.is ∙ stop_answer m.state.time i.ending i.close);
        at = over i ru ph;
        design = ap design_of ru;
      }

  pub concludes_fails : (f : SimFault) → p ≡ passed.Fails f → new.run ≡ old.run → new.phase ≡ phase.Failed f → HasConcluded m r xs s (Err f) new (of_sim old)
  concludes_fails f e ru ph =
      let i = is_fault old.run m.state.time m.state.signals xs s f r w.leaves (sym e ∙ w.answer) in
      record {
        answer = sym (ap (answer_of m.state.time) i.is ∙ fault_answer m.state.time i.ending f i.close);
        at = over i ru ph;
        design = ap design_of ru;
      }

-- A delta that begins, and one that is gone on with.
pub begins : {d : Design} {m : Moment} {a : Passed} {run : Run} {r : Result _ SimFault} {new : Sim} → (p : HasPassed d m.state.time 0 m.state.processes m.state.signals a run) → is_due d m.state ≡ true → m.deltas < delta_limit → HasConcluded m p.reply p.rest p.signals r new d → DeltaDone d (Between m) r new
begins {d} {m} {a} {run} {r} {new} p due below c = record {
  after = left_by m p.reply p.rest p.signals;
  call = subst (λ v. DeltaCall d (Between m) v (left_by m p.reply p.rest p.signals)) (sym c.answer) (standing.begins due below p.passes);
  at = c.at;
  design = c.design;
}

goes_on_from : {d : Design} {time n i : ℕ} (j k : ℕ) {gs : List Generator} {xs rest : List Process} {s t : Signals} {r : Reply} → k + j ≡ i → j ≤ length gs → j ≤ length xs → Resumes d time n i (drop j gs) (drop j xs) s r rest t → GoesOn d time i n k gs xs s r (take j xs ++ rest) t
goes_on_from {d} {time} {n} {i} zero k {gs} {xs} {rest} {s} {t} {r} e hg hx p =
    let z : i ≡ k = omega (arith, e) in
    subst (λ v. GoesOn d time i n v gs xs s r rest t) z (calls.here p)
goes_on_from (suc j) k {gs = []} e hg hx p = absurd (omega (arith, hg))
goes_on_from (suc j) k {gs = g ∷ gs} {xs = []} e hg hx p = absurd (omega (arith, hx))
goes_on_from (suc j) k {gs = g ∷ gs} {xs = x ∷ xs} e hg hx p =
    calls.skip (goes_on_from j (k + 1) (omega (arith, e)) (omega (arith, hg)) (omega (arith, hx)) p)

pub goes_on_with : {d : Design} {m : Moment} {g n : ℕ} {a : Passed} {run : Run} {r : Result _ SimFault} {new : Sim} → (p : HasResumed d m.state.time n g m.state.processes m.state.signals a run) → g ≤ length d.generators → g ≤ length m.state.processes → HasConcluded m p.reply (take g m.state.processes ++ p.rest) p.signals r new d → DeltaDone d (Inside m g n) r new
goes_on_with {d} {m} {g} {n} {a} {run} {r} {new} p hg hx c = record {
  after = left_by m p.reply (take g m.state.processes ++ p.rest) p.signals;
  call = subst (λ v. DeltaCall d (Inside m g n) v (left_by m p.reply (take g m.state.processes ++ p.rest) p.signals)) (sym c.answer) (standing.goes_on (goes_on_from {i = g} g 0 (omega arith) hg hx p.resumes));
  at = c.at;
  design = c.design;
}

-- The current values, wherever it stands.
pub values_at : (sim : Sim) (st : Standing) → IsAt sim st → sim.run.store.signals.values ≡ values_of st
values_at sim (Between m) w = ap (λ s. s.values) w.0.run.signals
values_at sim (Inside m g n) w = ap (λ s. s.values) w.0.run.signals
values_at sim (Over c vs) w = w.1

-- A value is given to a signal.
held_sized : {d : Design} (s t : Signals) (n : ℕ) (r : Result ℤ OutOfBounds) → first_is s n r ≡ Ok t → IsSized d s → IsSized d t
held_sized {d} s t n (Ok z) e w =
    let i : record s { values = slice_set s.values n z; pending = slice_set s.pending n z } ≡ t = cc in
    subst (IsSized d) i (record {
      values = length-set s.values n z ∙ w.values;
      even = (w.even.0 ∙ sym (length-set s.values n z), length-set s.pending n z ∙ w.even.1 ∙ sym (length-set s.values n z));
      waiters = w.waiters;
      rooms = w.rooms;
    })
held_sized s t n (Err x) e w = absurd cc

next_sized : {d : Design} (s t : Signals) (n : ℕ) (r : Result ℤ OutOfBounds) → pending_is s n r ≡ Ok t → IsSized d s → IsSized d t
next_sized {d} s t n (Ok z) e w =
    let i : record s { pending = slice_set s.pending n z } ≡ t = cc in
    subst (IsSized d) i (record {
      values = w.values;
      even = (w.even.0, length-set s.pending n z ∙ w.even.1);
      waiters = w.waiters;
      rooms = w.rooms;
    })
next_sized s t n (Err x) e w = absurd cc

with_signals_run : {r : Run} {time : ℕ} {s : Signals} {xs : List Process} {counts : ℕ → ℕ} (t : Signals) → IsSized r.store.design t → IsRun r time s xs counts → IsRun (record r { store = record r.store { signals = t } }) time t xs counts
with_signals_run t z w = record {
  formed = w.formed;
  signals = refl;
  time_is = w.time_is;
  sized = z;
  count = w.count;
  plans = w.plans;
  kept = w.kept;
  processes = w.processes;
  all = w.all;
}

given_at : (old new : Sim) (m : Moment) (t : Signals) → IsAt old (Between m) → IsSized (of_sim old) t → new.run ≡ record old.run { store = record old.run.store { signals = t } } → new.deltas ≡ old.deltas → new.phase ≡ old.phase → IsAt new (Between (with_state m m.state.processes t))
given_at old new m t w z ru co ph =
    (record { run = subst (λ v. IsRun v m.state.time t m.state.processes no_counts) (sym ru) (with_signals_run t z w.0.run); deltas = co ∙ w.0.deltas }, ph ∙ w.1)

pub hold_done : (old new : Sim) (m : Moment) (n : ℕ) (v : ℤ) → IsAt old (Between m) → held old.run.store.signals n v ≡ Ok new.run.store.signals → new.run ≡ record old.run { store = record old.run.store { signals = new.run.store.signals } } → new.deltas ≡ old.deltas → new.phase ≡ old.phase → IsGiven (hold_of m n v) (of_sim old) new
hold_done old new m n v w e ru co ph =
    let s = old.run.store.signals in
    let t = new.run.store.signals in
    let z = held_sized s t n (taken (limits_at s n) v) e (subst (IsSized (of_sim old)) (sym w.0.run.signals) w.0.run.sized) in
    record {
      standing = Between (with_state m m.state.processes t);
      is = ap (λ x. given m (held x n v)) (sym w.0.run.signals) ∙ ap (given m) e;
      at = given_at old new m t w z ru co ph;
      design = ap design_of ru;
    }

pub drive_done : (old new : Sim) (m : Moment) (n : ℕ) (v : ℤ) → IsAt old (Between m) → next_set old.run.store.signals n v ≡ Ok new.run.store.signals → new.run ≡ record old.run { store = record old.run.store { signals = new.run.store.signals } } → new.deltas ≡ old.deltas → new.phase ≡ old.phase → IsGiven (drive_of m n v) (of_sim old) new
drive_done old new m n v w e ru co ph =
    let s = old.run.store.signals in
    let t = new.run.store.signals in
    let z = next_sized s t n (taken (limits_at s n) v) e (subst (IsSized (of_sim old)) (sym w.0.run.signals) w.0.run.sized) in
    record {
      standing = Between (with_state m m.state.processes t);
      is = ap (λ x. given m (next_set x n v)) (sym w.0.run.signals) ∙ ap (given m) e;
      at = given_at old new m t w z ru co ph;
      design = ap design_of ru;
    }

pub hold_fails : (old : Sim) (m : Moment) (n : ℕ) (v : ℤ) (x : OutOfBounds) → IsAt old (Between m) → held old.run.store.signals n v ≡ Err x → hold_of m n v ≡ Err x
hold_fails old m n v x w e = ap (λ s. given m (held s n v)) (sym w.0.run.signals) ∙ ap (given m) e

pub drive_fails : (old : Sim) (m : Moment) (n : ℕ) (v : ℤ) (x : OutOfBounds) → IsAt old (Between m) → next_set old.run.store.signals n v ≡ Err x → drive_of m n v ≡ Err x
drive_fails old m n v x w e = ap (λ s. given m (next_set s n v)) (sym w.0.run.signals) ∙ ap (given m) e

-- The time goes on.
pub stays_at : (old : Sim) (m : Moment) (u : ℕ) → IsAt old (Between m) → old.run.store.time ≡ u → HasMoved (at_time u m) old (of_sim old)
stays_at old m u w e =
    let i : (m.state.time == u) ≡ true = eq-eqb m.state.time u (sym w.0.run.time_is ∙ e) in
    record {
      at = subst (λ b. IsAt old (Between (if b then m else record { state = record m.state { time = u }; deltas = 0 }))) (sym i) w;
      design = refl;
    }

pub moves_to : (old new : Sim) (m : Moment) (u : ℕ) → IsAt old (Between m) → (old.run.store.time ≡ u → ⊥) → IsRun new.run u m.state.signals m.state.processes no_counts → of_sim new ≡ of_sim old → new.deltas ≡ 0 → new.phase ≡ old.phase → HasMoved (at_time u m) new (of_sim old)
moves_to old new m u w ne run de co ph =
    let i : (m.state.time == u) ≡ false = ne_eqb m.state.time u (λ e. ne (w.0.run.time_is ∙ e)) in
    record {
      at = subst (λ b. IsAt new (Between (if b then m else record { state = record m.state { time = u }; deltas = 0 }))) (sym i) (record { run = run; deltas = co }, ph ∙ w.1);
      design = de;
    }
