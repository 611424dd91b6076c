-- What the calls of a simulator need and do, by where it stands.
use Rattle.std.proofs.Common.{◌≡◌, ℕ, ◌<◌, ◌≤◌, true, false, List, [], ◌++◌, length, take, refl, sym, ap, ◌∙◌, subst, arith}
use Rattle.std.specs.Prelude.{ℤ, Result, Ok, Err, Option, Some, slice_get}
use Rattle.std.proofs.lemmas.List.{append-nil}
use Rattle.mh_design.specs.declared.design.Design.{Design}
use Rattle.mh_design.specs.Deltas.{Ending, is_due}
use Rattle.mh_sched.specs.declared.answer.Delta.{Delta}
use Rattle.mh_sched.specs.declared.answer.Delta.TheVariants as delta
use Rattle.mh_sched.specs.declared.answer.End.{End}
use Rattle.mh_sched.specs.declared.fault.SimFault.{SimFault}
use Rattle.mh_sched.specs.declared.fault.SimFault.TheVariants as simfault
use Rattle.mh_sched.specs.declared.run.Passed.{Passed}
use Rattle.mh_sched.specs.declared.run.Run.{Run}
use Rattle.mh_sched.specs.declared.sim.Phase.TheVariants as phase
use Rattle.mh_sched.specs.declared.sim.Sim.{Sim}
use Rattle.mh_sched.specs.Faults.{too_many_deltas}
use Rattle.mh_sched.specs.Lines.{Line, line_bytes}
use Rattle.mh_sched.specs.Runs.{Moment, AtRest, Stops, Fails, delta_limit, next_time}
use Rattle.mh_sched.specs.Standing.{Standing, Between, Inside, Over, DeltaCall, ending_answer, line_by, line_at_print, moved, reached_event, advance_answer, advanced}
use Rattle.mh_sched.specs.Standing as standing
use Rattle.mh_sched.specs.Kept.{IsSomeRun, IsResting, IsHalfway, no_counts, count_at, design_of, HasPassed, HasResumed, AllSaid, said_on, IsSaidFault}
use Rattle.mh_sched.specs.At.{of_sim, IsAt, IsSomewhere, DeltaDone, SaysAt, CanSay, says, fails, failed, HasSaid, Concludes, IsEndedBy, HasMoved, HasStepped, step_end}
use Rattle.mh_sched.proofs.Slices.{get_below}

pub some_between : (sim : Sim) (m : Moment) → IsAt sim (Between m) → IsSomeRun sim.run
some_between sim m w =
    record { time = m.state.time; signals = m.state.signals; states = m.state.processes; counts = no_counts; run = w.0.run }

pub some_inside : (sim : Sim) (m : Moment) (g n : ℕ) → IsAt sim (Inside m g n) → IsSomeRun sim.run
some_inside sim m g n w =
    record { time = m.state.time; signals = m.state.signals; states = m.state.processes; counts = count_at g n; run = w.0.run }

pub inside_below : (sim : Sim) (m : Moment) (g n : ℕ) → IsAt sim (Inside m g n) → g < sim.run.count
inside_below sim m g n w =
    let c = w.0.run.count in
    let h = w.2 in
    omega (arith, c, h)

pub resting_between : (sim : Sim) (m : Moment) → IsAt sim (Between m) → IsResting sim.run
resting_between sim m w =
    record { time = m.state.time; signals = m.state.signals; states = m.state.processes; run = w.0.run }

pub halfway_inside : (sim : Sim) (m : Moment) (g n : ℕ) → IsAt sim (Inside m g n) → IsHalfway sim.run g
halfway_inside sim m g n w =
    record { time = m.state.time; signals = m.state.signals; states = m.state.processes; count = n; run = w.0.run }

-- There is a value for each signal of the design.
pub signal_there : (sim : Sim) (m : Moment) (s : ℕ) → IsAt sim (Between m) → s < length (of_sim sim).signals → s < length sim.run.store.signals.values
signal_there sim m s w h =
    let e = ap (λ v. length v.values) w.0.run.signals in
    let l = w.0.run.sized.values in
    omega (arith, e, l, h)

-- Where it stands, by its phase.
pub is_between : (sim : Sim) → IsSomewhere sim → sim.phase ≡ phase.Between → (m : Moment) × IsAt sim (Between m)
is_between sim s e = by_standing s.standing s.at where
  by_standing : (st : Standing) → IsAt sim st → (m : Moment) × IsAt sim (Between m)
  by_standing (Between m) w = (m, w)
  by_standing (Inside m g n) w = let p = w.1 in absurd cc
  by_standing (Over AtRest vs) w = absurd w.0
  by_standing (Over Stops vs) w = let p = w.0 in absurd cc
  by_standing (Over (Fails f) vs) w = let p = w.0 in absurd cc

pub is_inside : (sim : Sim) (g : ℕ) → IsSomewhere sim → sim.phase ≡ phase.Inside g → (m : Moment) × (n : ℕ) × IsAt sim (Inside m g n)
is_inside sim g s e = by_standing s.standing s.at where
  by_standing : (st : Standing) → IsAt sim st → (m : Moment) × (n : ℕ) × IsAt sim (Inside m g n)
  by_standing (Between m) w = let p = w.1 in absurd cc
  by_standing (Inside m h n) w =
      let p = w.1 in
      let i : h ≡ g = cc in
      (m, n, subst (λ v. IsAt sim (Inside m v n)) i w)
  by_standing (Over AtRest vs) w = absurd w.0
  by_standing (Over Stops vs) w = let p = w.0 in absurd cc
  by_standing (Over (Fails f) vs) w = let p = w.0 in absurd cc

-- A delta, by the phase.
module _ (sim : Sim) (d : Design) (a : Result Delta SimFault) (new : Sim) where
  pub delta_between : (st : Standing) → IsAt sim st → sim.phase ≡ phase.Between → ((m : Moment) → IsAt sim (Between m) → DeltaDone d (Between m) a new) → DeltaDone d st a new
  delta_between (Between m) w e f = f m w
  delta_between (Inside m g n) w e f = let p = w.1 in absurd cc
  delta_between (Over AtRest vs) w e f = absurd w.0
  delta_between (Over Stops vs) w e f = let p = w.0 in absurd cc
  delta_between (Over (Fails x) vs) w e f = let p = w.0 in absurd cc

  pub delta_inside : (g : ℕ) (st : Standing) → IsAt sim st → sim.phase ≡ phase.Inside g → ((m : Moment) (n : ℕ) → IsAt sim (Inside m g n) → DeltaDone d (Inside m g n) a new) → DeltaDone d st a new
  delta_inside g (Between m) w e f = let p = w.1 in absurd cc
  delta_inside g (Inside m h n) w e f =
      let p = w.1 in
      let i : g ≡ h = cc in
      subst (λ v. DeltaDone d (Inside m v n) a new) i (f m n (subst (λ v. IsAt sim (Inside m v n)) (sym i) w))
  delta_inside g (Over AtRest vs) w e f = absurd w.0
  delta_inside g (Over Stops vs) w e f = let p = w.0 in absurd cc
  delta_inside g (Over (Fails x) vs) w e f = let p = w.0 in absurd cc

pub delta_stopped : (sim : Sim) (st : Standing) → IsAt sim st → sim.phase ≡ phase.Stopped → DeltaDone (of_sim sim) st (Ok delta.Stopped) sim
delta_stopped sim (Between m) w e = let p = w.1 in absurd cc
delta_stopped sim (Inside m g n) w e = let p = w.1 in absurd cc
delta_stopped sim (Over AtRest vs) w e = absurd w.0
delta_stopped sim (Over Stops vs) w e =
    record { after = Over Stops vs; call = standing.stopped; at = w; design = refl }
delta_stopped sim (Over (Fails f) vs) w e = let p = w.0 in absurd cc

pub delta_failed : (sim : Sim) (f : SimFault) (st : Standing) → IsAt sim st → sim.phase ≡ phase.Failed f → DeltaDone (of_sim sim) st (Err f) sim
delta_failed sim f (Between m) w e = let p = w.1 in absurd cc
delta_failed sim f (Inside m g n) w e = let p = w.1 in absurd cc
delta_failed sim f (Over AtRest vs) w e = absurd w.0
delta_failed sim f (Over Stops vs) w e = let p = w.0 in absurd cc
delta_failed sim f (Over (Fails x) vs) w e =
    let p = w.0 in
    let i : x ≡ f = cc in
    record {
      after = Over (Fails x) vs;
      call = subst (λ v. DeltaCall (of_sim sim) (Over (Fails x) vs) (Err v) (Over (Fails x) vs)) i standing.failed;
      at = w;
      design = refl;
    }

pub delta_quiet : (sim : Sim) (m : Moment) → IsAt sim (Between m) → is_due (of_sim sim) m.state ≡ false → DeltaDone (of_sim sim) (Between m) (Ok delta.Quiet) sim
delta_quiet sim m w e = record { after = Between m; call = standing.quiet e; at = w; design = refl }

-- Too many deltas.
pub exceeded : (old new : Sim) (m : Moment) (f : SimFault) → IsAt old (Between m) → f ≡ too_many_deltas m.state.time → is_due (of_sim old) m.state ≡ true → delta_limit ≤ m.deltas → new.run ≡ old.run → new.phase ≡ phase.Failed f → DeltaDone (of_sim old) (Between m) (Err f) new
exceeded old new m f w e due le ru ph = record {
  after = Over (Fails (too_many_deltas m.state.time)) m.state.signals.values;
  call = subst (λ v. DeltaCall (of_sim old) (Between m) (Err v) (Over (Fails (too_many_deltas m.state.time)) m.state.signals.values)) (sym e) (standing.exceeds due le);
  at = (ph ∙ ap phase.Failed e, ap (λ v. v.store.signals.values) ru ∙ ap (λ s. s.values) w.0.run.signals, w.0.run.sized.values ∙ ap (λ v. length v.store.design.signals) (sym ru));
  design = ap design_of ru;
}

-- What a call has come to that begins a delta, or goes on with one.
pub passed_concludes : {d : Design} {m : Moment} {a : Passed} {run : Run} (p : HasPassed d m.state.time 0 m.state.processes m.state.signals a run) (sim : Sim) → sim.run ≡ run → sim.deltas ≡ m.deltas → m.deltas < delta_limit → length m.state.signals.values ≡ length d.signals → Concludes sim a m p.reply p.rest p.signals
passed_concludes {d} {m} {a} {run} p sim e n below values =
    subst (λ v. Concludes (record sim { run = v }) a m p.reply p.rest p.signals) (sym e) (record {
      leaves = p.leaves;
      answer = p.answer;
      deltas = n;
      below = below;
      values = values ∙ ap (λ v. length v.signals) (sym p.design);
    })

pub resumed_concludes : {d : Design} {m : Moment} {g n : ℕ} {a : Passed} {run : Run} (p : HasResumed d m.state.time n g m.state.processes m.state.signals a run) (sim : Sim) → sim.run ≡ run → sim.deltas ≡ m.deltas → m.deltas < delta_limit → length m.state.signals.values ≡ length d.signals → Concludes sim a m p.reply (take g m.state.processes ++ p.rest) p.signals
resumed_concludes {d} {m} {g} {n} {a} {run} p sim e k below values =
    subst (λ v. Concludes (record sim { run = v }) a m p.reply (take g m.state.processes ++ p.rest) p.signals) (sym e) (record {
      leaves = p.leaves;
      answer = p.answer;
      deltas = k;
      below = below;
      values = values ∙ ap (λ v. length v.signals) (sym p.design);
    })

-- Prints.
pub same_sim : (old new : Sim) → new.run ≡ old.run → new.deltas ≡ old.deltas → new.phase ≡ old.phase → new ≡ old
same_sim old new ru co ph =
    ap (λ v. record { run = v; deltas = new.deltas; phase = new.phase }) ru ∙ ap (λ v. record { run = old.run; deltas = v; phase = new.phase }) co ∙ ap (λ v. record { run = old.run; deltas = old.deltas; phase = v }) ph

all_said : (sim : Sim) (m : Moment) (g n k : ℕ) (P : Result Line Ending → Type 0) → IsAt sim (Inside m g n) → AllSaid sim.run g k P → P (line_at_print (of_sim sim) m g k)
all_said sim m g n k P w f =
    let h = w.2 in
    let l = w.0.run.processes in
    let a = get_below (of_sim sim).generators g h in
    let b = get_below m.state.processes g (omega (arith, h, l)) in
    subst P (sym (ap (λ o. line_by (of_sim sim) m o (slice_get m.state.processes g) k) a.1 ∙ ap (λ o. line_by (of_sim sim) m (Some a.0) o k) b.1)) (f m.state.time m.state.signals m.state.processes (count_at g n) a.0 b.0 w.0.run a.1 b.1)

record SaidOn (bs cs : List ℕ) (r : Result Line Ending) : Type 0 where
  pub line : Line
  pub is : r ≡ Ok line
  pub bytes : cs ≡ bs ++ line_bytes line

line_on : (bs cs : List ℕ) (r : Result Line Ending) → said_on bs r ≡ Ok cs → SaidOn bs cs r
line_on bs cs (Ok line) e =
    let i : bs ++ line_bytes line ≡ cs = cc in
    record { line = line; is = refl; bytes = sym i }
line_on bs cs (Err x) e = absurd cc

pub said_ok : (old new : Sim) (m : Moment) (g n k : ℕ) (u : Unit {0}) (bs cs : List ℕ) → IsAt old (Inside m g n) → AllSaid old.run g k (λ r. said_on bs r ≡ Ok cs) → new ≡ old → HasSaid (of_sim old) g k (Inside m g n) (Ok u) bs cs old new
said_ok old new m g n k u bs cs w f e =
    let l = line_on bs cs (line_at_print (of_sim old) m g k) (all_said old m g n k (λ r. said_on bs r ≡ Ok cs) w f) in
    record {
      bytes = line_bytes l.line;
      standing = Inside m g n;
      printed = says l.is;
      text = l.bytes;
      at = subst (λ v. IsAt v (Inside m g n)) (sym e) w;
      design = ap of_sim e;
    }

pub said_err : (old new : Sim) (m : Moment) (g n k : ℕ) (bs cs : List ℕ) (f : SimFault) → IsAt old (Inside m g n) → AllSaid old.run g k (IsSaidFault old.run.store.time f) → cs ≡ bs → new.run ≡ old.run → new.deltas ≡ old.deltas → IsEndedBy f old.phase new.phase → HasSaid (of_sim old) g k (Inside m g n) (Err f) bs cs old new
said_err old new m g n k bs cs simfault.Memory w s e ru co ph = (e, same_sim old new ru co ph)
said_err old new m g n k bs cs (simfault.At c t l v low high) w s e ru co ph =
    let x = all_said old m g n k (IsSaidFault old.run.store.time (simfault.At c t l v low high)) w s in
    record {
      bytes = [];
      standing = Over (Fails (simfault.At c t l v low high)) m.state.signals.values;
      printed = fails x.is (subst (λ u. ending_answer u x.ending ≡ Err (simfault.At c t l v low high)) w.0.run.time_is x.answer);
      text = e ∙ sym (append-nil bs);
      at = (ph, ap (λ u. u.store.signals.values) ru ∙ ap (λ u. u.values) w.0.run.signals, w.0.run.sized.values ∙ ap (λ u. length u.store.design.signals) (sym ru));
      design = ap design_of ru;
    }

-- A generator has printed, where no fault has ended the run.
pub can_inside : (sim : Sim) (g : ℕ) → CanSay sim g → ((f : SimFault) → sim.phase ≡ phase.Failed f → ⊥) → (m : Moment) × (n : ℕ) × IsAt sim (Inside m g n)
can_inside sim g s ne = by_standing s.standing s.at s.says where
  by_standing : (st : Standing) → IsAt sim st → SaysAt g st → (m : Moment) × (n : ℕ) × IsAt sim (Inside m g n)
  by_standing (Between m) w x = absurd x
  by_standing (Inside m h n) w x = (m, n, subst (λ v. IsAt sim (Inside m v n)) x w)
  by_standing (Over AtRest vs) w x = absurd x
  by_standing (Over Stops vs) w x = absurd x
  by_standing (Over (Fails f) vs) w x = absurd (ne f w.0)

pub said_inside : (sim new : Sim) (d : Design) (g k : ℕ) (a : Result (Unit {0}) SimFault) (bs cs : List ℕ) (st : Standing) → IsAt sim st → SaysAt g st → ((f : SimFault) → sim.phase ≡ phase.Failed f → ⊥) → ((m : Moment) (n : ℕ) → IsAt sim (Inside m g n) → HasSaid d g k (Inside m g n) a bs cs sim new) → HasSaid d g k st a bs cs sim new
said_inside sim new d g k a bs cs (Between m) w x ne f = absurd x
said_inside sim new d g k a bs cs (Inside m h n) w x ne f =
    subst (λ v. HasSaid d g k (Inside m v n) a bs cs sim new) (sym x) (f m n (subst (λ v. IsAt sim (Inside m v n)) x w))
said_inside sim new d g k a bs cs (Over AtRest vs) w x ne f = absurd x
said_inside sim new d g k a bs cs (Over Stops vs) w x ne f = absurd x
said_inside sim new d g k a bs cs (Over (Fails y) vs) w x ne f = absurd (ne y w.0)

again : (sim : Sim) (g k : ℕ) (bs : List ℕ) (f : SimFault) (vs : List ℤ) → IsAt sim (Over (Fails f) vs) → HasSaid (of_sim sim) g k (Over (Fails f) vs) (Err f) bs bs sim sim
again sim g k bs simfault.Memory vs w = (refl, refl)
again sim g k bs (simfault.At c t l v low high) vs w = record {
  bytes = [];
  standing = Over (Fails (simfault.At c t l v low high)) vs;
  printed = failed;
  text = sym (append-nil bs);
  at = w;
  design = refl;
}

pub said_again : (sim : Sim) (g k : ℕ) (bs : List ℕ) (f : SimFault) (st : Standing) → IsAt sim st → SaysAt g st → sim.phase ≡ phase.Failed f → HasSaid (of_sim sim) g k st (Err f) bs bs sim sim
said_again sim g k bs f (Between m) w x e = absurd x
said_again sim g k bs f (Inside m h n) w x e = let p = w.1 in absurd cc
said_again sim g k bs f (Over AtRest vs) w x e = absurd x
said_again sim g k bs f (Over Stops vs) w x e = absurd x
said_again sim g k bs f (Over (Fails y) vs) w x e =
    let p = w.0 in
    let i : y ≡ f = cc in
    subst (λ v. HasSaid (of_sim sim) g k (Over (Fails y) vs) (Err v) bs bs sim sim) i (again sim g k bs y vs w)

-- A step of time.
pub stepped : (limit : ℕ) (m : Moment) (o : Option ℕ) (a : Option End) (new : Sim) (d : Design) → o ≡ next_time m.state → a ≡ step_end o (reached_event limit o) → HasMoved (moved limit (reached_event limit o) m) new d → HasStepped limit m a new d
stepped limit m o a new d e is w = record {
  answer = is ∙ ap (λ v. step_end v (reached_event limit v)) e;
  moved = subst (λ v. HasMoved (moved limit (reached_event limit v) m) new d) e w;
}
