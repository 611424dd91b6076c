-- Where a simulator stands after a call, for the next one.
use Rattle.std.proofs.Common.{◌≡◌, ℕ, false, List, refl, sym, ap, subst, ◌+◌, ◌∷◌}
use Rattle.std.specs.Prelude.{ℤ, Result, Ok, Err}
use Rattle.mh_design.specs.declared.design.Design.{Design}
use Rattle.mh_design.specs.declared.design.Generator.{Generator}
use Rattle.mh_design.specs.Values.{Signals}
use Rattle.mh_design.specs.Deltas.{Process, Ending, AtWait, AtEnd, AtStop, InFault, goes_on}
use Rattle.mh_num.specs.declared.bounds.OutOfBounds.{OutOfBounds}
use Rattle.mh_sched.specs.declared.answer.Delta.{Delta}
use Rattle.mh_sched.specs.declared.answer.End.{End}
use Rattle.mh_sched.specs.declared.answer.End.TheVariants as «end»
use Rattle.mh_sched.specs.declared.fault.SimFault.{SimFault}
use Rattle.mh_sched.specs.declared.fault.SimFault.TheVariants as simfault
use Rattle.mh_sched.specs.declared.sim.Sim.{Sim}
use Rattle.mh_sched.specs.Calls.{Reply, Finished, Prints, Breaks, Passes, Resumes, GoesOn}
use Rattle.mh_sched.specs.Calls as call
use Rattle.mh_sched.specs.Lines.{Line}
use Rattle.mh_sched.specs.Runs.{Moment, Close, AtRest, Stops, Fails, close_of, Row}
use Rattle.mh_sched.specs.Standing.{Standing, Between, Inside, Over, DeltaCall, RunCall, answer_of, end_of, given, left_after, left_by, with_state}
use Rattle.mh_sched.specs.Standing as standing
use Rattle.mh_sched.specs.At.{of_sim, IsAt, IsSomewhere, IsBetween, DeltaDone, CanSay, StandsAfter, StandsAtEnd, HasSaid, HasRun, RunsUntil, IsGiven, HasMoved}
use Rattle.mh_sched.proofs.Evaluating.{true_false}

pub between_at : {sim : Sim} {m : Moment} → IsAt sim (Between m) → IsBetween sim
between_at {m = m} w = record { moment = m; at = w }

pub some_where : {sim : Sim} → IsBetween sim → IsSomewhere sim
some_where b = record { standing = Between b.moment; at = b.at }

-- A delta is broken off by an evaluation that doesn't go on.
module _ (d : Design) where
  mutual
    passes_break : (time k : ℕ) (gs : List Generator) (ps : List Process) (s : Signals) {i : ℕ} {e : Ending} {qs : List Process} {t : Signals} → Passes d time k gs ps s (Breaks i e) qs t → goes_on e ≡ false
    passes_break time k _ _ s (call.rests {gs = gs} {ps = ps} w a) = passes_break time (k + 1) gs ps s a
    passes_break time k _ _ s (call.begins {g = g} {gs = gs} {p = p} {ps = ps} w a) = resumes_break time 0 k (g ∷ gs) (p ∷ ps) s a

    resumes_break : (time n k : ℕ) (gs : List Generator) (ps : List Process) (s : Signals) {i : ℕ} {e : Ending} {qs : List Process} {t : Signals} → Resumes d time n k gs ps s (Breaks i e) qs t → goes_on e ≡ false
    resumes_break time n k _ _ s (call.ends {gs = gs} {ps = ps} f h g a) = passes_break time (k + 1) gs ps _ a
    resumes_break time n k _ _ s (call.breaks f h g) = g

  goes_break : (time j n k : ℕ) (gs : List Generator) (ps : List Process) (s : Signals) {i : ℕ} {e : Ending} {qs : List Process} {t : Signals} → GoesOn d time j n k gs ps s (Breaks i e) qs t → goes_on e ≡ false
  goes_break time j n k gs ps s (call.here a) = resumes_break time n k gs ps s a
  goes_break time j n k _ _ s (call.skip {gs = gs} {ps = ps} a) = goes_break time j n (k + 1) gs ps s a

  -- after a call that begins a delta, or goes on with one
  module _ (m : Moment) (qs : List Process) (t : Signals) (new : Sim) where
    replied : (r : Reply) → ((i : ℕ) (e : Ending) → r ≡ Breaks i e → goes_on e ≡ false) → IsAt new (left_by m r qs t) → StandsAfter (answer_of m.state.time r) new
    replied Finished b w = between_at w
    replied (Prints g j n line) b w = record { standing = Inside (with_state m qs t) g n; at = w; says = refl }
    replied (Breaks g (AtWait k)) b w = absurd (true_false (b g (AtWait k) refl))
    replied (Breaks g AtEnd) b w = absurd (true_false (b g AtEnd refl))
    replied (Breaks g AtStop) b w = record { values = m.state.signals.values; at = w }
    replied (Breaks g (InFault l f)) b w = record { values = m.state.signals.values; at = w }

  stands_after : {st after : Standing} {a : Result Delta SimFault} (new : Sim) → DeltaCall d st a after → IsAt new after → StandsAfter a new
  stands_after new (standing.quiet e) w = between_at w
  stands_after new (standing.exceeds {m = m} e le) w = record { values = m.state.signals.values; at = w }
  stands_after new (standing.begins {m = m} {r = r} {qs = qs} {t = t} e lt p) w =
      replied m qs t new r (λ i x h. passes_break m.state.time 0 d.generators m.state.processes m.state.signals (subst (λ v. Passes d m.state.time 0 d.generators m.state.processes m.state.signals v qs t) h p)) w
  stands_after new (standing.goes_on {m = m} {g = g} {n = n} {r = r} {qs = qs} {t = t} p) w =
      replied m qs t new r (λ i x h. goes_break m.state.time g n 0 d.generators m.state.processes m.state.signals (subst (λ v. GoesOn d m.state.time g n 0 d.generators m.state.processes m.state.signals v qs t) h p)) w
  stands_after new (standing.stopped {vs = vs}) w = record { values = vs; at = w }
  stands_after new (standing.failed {vs = vs}) w = record { values = vs; at = w }

module _ (old : Sim) (s : IsSomewhere old) (d : Design) (a : Result Delta SimFault) (new : Sim) (f : (st : Standing) → IsAt old st → DeltaDone d st a new) where
  pub call_stands : StandsAfter a new
  call_stands = let x = f s.standing s.at in stands_after d new x.call x.at

  pub call_somewhere : IsSomewhere new
  call_somewhere = let x = f s.standing s.at in record { standing = x.after; at = x.at }

  pub call_design : of_sim new ≡ d
  call_design = (f s.standing s.at).design

-- A value was given to a signal.
given_at : (m : Moment) (r : Result Signals OutOfBounds) {st : Standing} (new : Sim) → given m r ≡ Ok st → IsAt new st → IsBetween new
given_at m (Ok s) {st} new e w =
    let i : st ≡ Between (with_state m m.state.processes s) = cc in
    between_at (subst (λ v. IsAt new v) i w)
given_at m (Err x) new e w = absurd cc

pub given_between : (m : Moment) (r : Result Signals OutOfBounds) (d : Design) (new : Sim) → IsGiven (given m r) d new → IsBetween new
given_between m r d new g = given_at m r new g.is g.at

pub given_design : (r : Result Standing OutOfBounds) (d : Design) (new : Sim) → IsGiven r d new → of_sim new ≡ d
given_design r d new g = g.design

-- After a print.
pub can_somewhere : {sim : Sim} {g : ℕ} → CanSay sim g → IsSomewhere sim
can_somewhere s = record { standing = s.standing; at = s.at }

pub said_somewhere : (d : Design) (g k : ℕ) (st : Standing) (a : Result (Unit {0}) SimFault) (before after : List ℕ) (old new : Sim) → IsAt old st → HasSaid d g k st a before after old new → IsSomewhere new
said_somewhere d g k st (Ok u) before after old new at h = record { standing = h.standing; at = h.at }
said_somewhere d g k st (Err simfault.Memory) before after old new at h = record { standing = st; at = subst (λ v. IsAt v st) (sym h.1) at }
said_somewhere d g k st (Err (simfault.At c t l v low high)) before after old new at h = record { standing = h.standing; at = h.at }

pub said_design : (g k : ℕ) (st : Standing) (a : Result (Unit {0}) SimFault) (before after : List ℕ) (old new : Sim) → HasSaid (of_sim old) g k st a before after old new → of_sim new ≡ of_sim old
said_design g k st (Ok u) before after old new h = h.design
said_design g k st (Err simfault.Memory) before after old new h = ap of_sim h.1
said_design g k st (Err (simfault.At c t l v low high)) before after old new h = h.design

pub moved_between : {m : Moment} {new : Sim} {d : Design} → HasMoved m new d → IsBetween new
moved_between h = between_at h.at

-- After a run up to a time.
fault_stands : (f : SimFault) (vs : List ℤ) (new : Sim) → IsAt new (Over (Fails f) vs) → StandsAtEnd (Err f) new
fault_stands simfault.Memory vs new w = record { standing = Over (Fails simfault.Memory) vs; at = w }
fault_stands (simfault.At c t l v low high) vs new w = record { values = vs; at = w }

left_stands : (r : Result End SimFault) (n : Moment) (new : Sim) → IsAt new (left_after r n) → StandsAtEnd r new
left_stands (Ok «end».Reached) n new w = between_at w
left_stands (Ok «end».Quiet) n new w = between_at w
left_stands (Ok «end».Stopped) n new w = record { values = n.state.signals.values; at = w }
left_stands (Err f) n new w = fault_stands f n.state.signals.values new w

over_stands : (c : Close) (vs : List ℤ) (new : Sim) → IsAt new (Over c vs) → StandsAtEnd (end_of c) new
over_stands AtRest vs new w = absurd w.0
over_stands Stops vs new w = record { values = vs; at = w }
over_stands (Fails f) vs new w = fault_stands f vs new w

stands_at_end : {d : Design} {limit : ℕ} {st after : Standing} {r : Result End SimFault} {ls : List Line} {rows : List Row} (new : Sim) → RunCall d limit st r ls rows after → IsAt new after → StandsAtEnd r new
stands_at_end new (standing.between {n = n} {r = r} x) w = left_stands r n new w
stands_at_end new (standing.goes_on {after = after} {r = r} x s f) w = left_stands r after new w
stands_at_end new (standing.breaks {m = m} {e = e} x) w = over_stands (close_of m.state.time e) m.state.signals.values new w
stands_at_end new (standing.stopped {vs = vs}) w = record { values = vs; at = w }
stands_at_end new (standing.failed {f = f} {vs = vs}) w = fault_stands f vs new w

pub run_stands : {d : Design} {limit : ℕ} {st : Standing} {a : Result End SimFault} {before after : List ℕ} {new : Sim} → HasRun d limit st a before after new → StandsAtEnd a new
run_stands {new = new} h = stands_at_end new h.runs.call h.at

pub run_somewhere : {d : Design} {limit : ℕ} {st : Standing} {a : Result End SimFault} {before after : List ℕ} {new : Sim} → HasRun d limit st a before after new → IsSomewhere new
run_somewhere h = record { standing = h.standing; at = h.at }

module _ (d : Design) (limit : ℕ) (st : Standing) (before after : List ℕ) (new : Sim) where
  pub fails_somewhere : (f : SimFault) → RunsUntil d limit st (Err f) before after new → IsSomewhere new
  fails_somewhere simfault.Memory h = record { standing = h.standing; at = h.at }
  fails_somewhere (simfault.At c t l v low high) h = record { standing = h.standing; at = h.at }

  pub fails_stands : (f : SimFault) → RunsUntil d limit st (Err f) before after new → StandsAtEnd (Err f) new
  fails_stands simfault.Memory h = record { standing = h.standing; at = h.at }
  fails_stands (simfault.At c t l v low high) h = run_stands h

  pub fails_design : (f : SimFault) → RunsUntil d limit st (Err f) before after new → of_sim new ≡ d
  fails_design simfault.Memory h = h.design
  fails_design (simfault.At c t l v low high) h = h.design
