-- A run up to a time, done by calls of deltas, prints and steps of time.
use Rattle.std.proofs.Common.{◌≡◌, ℕ, zero, suc, ◌+◌, ◌<◌, ◌≤◌, Bool, true, false, List, [], ◌∷◌, ◌++◌, refl, sym, ap, ◌∙◌, subst, arith}
use Rattle.std.specs.Prelude.{ℤ, slice_get, nat_le, if◌then◌else◌, Option, None, Some, Result, Ok, Err}
use Rattle.std.proofs.lemmas.Bool.{leb-true, leb-false}
use Rattle.std.proofs.lemmas.List.{append_assoc, append-nil}
use Rattle.mh_design.specs.declared.design.Design.{Design}
use Rattle.mh_design.specs.Deltas.{State, Process, Ending, AtWait, AtEnd, AtStop, InFault, Outcome, Done, BrokenOff, DeltaStep, is_due}
use Rattle.mh_design.specs.Values.{Signals}
use Rattle.mh_sched.specs.declared.fault.SimFault.{SimFault}
use Rattle.mh_sched.specs.declared.answer.Delta.{Delta}
use Rattle.mh_sched.specs.declared.answer.Delta.TheVariants as answer
use Rattle.mh_sched.specs.declared.answer.End.{End}
use Rattle.mh_sched.specs.declared.answer.End.TheVariants as «end»
use Rattle.mh_sched.specs.Faults.{run_fault}
use Rattle.mh_sched.specs.Lines.{Line}
use Rattle.mh_sched.specs.Runs.{Moment, Close, AtRest, Stops, Fails, close_of, after_delta, delta_limit, Settles, Runs, Row, row_of, at_time, next_time}
use Rattle.mh_sched.specs.Runs as run
use Rattle.mh_sched.specs.Standing.{Standing, Between, Inside, Over, full_delta, left_after, end_of, Follows, RunCall, RunsFrom, DeltaCall}
use Rattle.mh_sched.specs.Standing as stand
use Rattle.mh_sched.specs.Standing.{line_by, line_at_print, with_state, values_of, answer_of, left_by, MeansFor, MeansTime, quiet_end, reached_event, advance_answer, with_line, ending_answer}
use Rattle.mh_design.specs.Deltas as delta
use Rattle.mh_design.specs.Deltas.{Evaluations, goes_on}
use Rattle.mh_design.specs.declared.design.Generator.{Generator}
use Rattle.mh_sched.specs.Calls.{Reply, Finished, Prints, Breaks, printed, Passes, Resumes, GoesOn, Rest, Remains}
use Rattle.mh_sched.specs.Calls as call
use Rattle.mh_sched.proofs.Calls as calls
use Rattle.mh_sched.proofs.Evaluating.{true_false}
use Rattle.mh_sched.proofs.Frames.{flows_framed}

ok_is : {A B : Type 0} (x : A) (y : B) → Ok x ≡ Err y → ⊥
ok_is x y e = cc

module _ (d : Design) (limit : ℕ) where
  -- The deltas of a time, and what follows.
  pub follows : {m n after : Moment} {c : Close} {own ls : List Line} {r : Result End SimFault} {rows : List Row} → Settles d m c own n → Follows d limit c n r ls rows after → Runs d limit m r (own ++ ls) (row_of m.state n.state ++ rows) after
  follows {m = m} {own = own} s (stand.quiet {n = n} x) =
      subst (λ l. Runs d limit m (Ok «end».Quiet) l (row_of m.state n.state ++ []) (at_time limit n)) (sym (append-nil own)) (subst (λ l. Runs d limit m (Ok «end».Quiet) own l (at_time limit n)) (sym (append-nil (row_of m.state n.state))) (run.quiet s x))
  follows {m = m} {own = own} s (stand.reached {n = n} x lt) =
      subst (λ l. Runs d limit m (Ok «end».Reached) l (row_of m.state n.state ++ []) (at_time limit n)) (sym (append-nil own)) (subst (λ l. Runs d limit m (Ok «end».Reached) own l (at_time limit n)) (sym (append-nil (row_of m.state n.state))) (run.reached s x lt))
  follows s (stand.later x le a) = run.goes_on s x le a
  follows {m = m} {own = own} s (stand.stops {n = n}) =
      subst (λ l. Runs d limit m (Ok «end».Stopped) l (row_of m.state n.state ++ []) n) (sym (append-nil own)) (subst (λ l. Runs d limit m (Ok «end».Stopped) own l n) (sym (append-nil (row_of m.state n.state))) (run.stopped s))
  follows {m = m} {own = own} s (stand.fails {n = n} {f = f}) =
      subst (λ l. Runs d limit m (Err f) l (row_of m.state n.state ++ []) n) (sym (append-nil own)) (subst (λ l. Runs d limit m (Err f) own l n) (sym (append-nil (row_of m.state n.state))) (run.failed s))

  record Split (m : Moment) (r : Result End SimFault) (lines : List Line) (after : Moment) : Type 0 where
    close : Close
    own : List Line
    middle : Moment
    settles : Settles d m close own middle
    lines' : List Line
    rows' : List Row
    follow : Follows d limit close middle r lines' rows' after
    same : lines ≡ own ++ lines'

  split : {m after : Moment} {r : Result End SimFault} {ls : List Line} {rows : List Row} → Runs d limit m r ls rows after → Split m r ls after
  split (run.quiet {own = own} s x) = record { close = _; own = own; middle = _; settles = s; lines' = []; rows' = []; follow = stand.quiet x; same = sym (append-nil own) }
  split (run.reached {own = own} s x lt) = record { close = _; own = own; middle = _; settles = s; lines' = []; rows' = []; follow = stand.reached x lt; same = sym (append-nil own) }
  split (run.goes_on {own = own} s x le a) = record { close = _; own = own; middle = _; settles = s; lines' = _; rows' = _; follow = stand.later x le a; same = refl }
  split (run.stopped {own = own} s) = record { close = _; own = own; middle = _; settles = s; lines' = []; rows' = []; follow = stand.stops; same = sym (append-nil own) }
  split (run.failed {own = own} s) = record { close = _; own = own; middle = _; settles = s; lines' = []; rows' = []; follow = stand.fails; same = sym (append-nil own) }

  -- A delta that is done, and a run from there.
  after_step : {m : Moment} {st : State} {own ls : List Line} {r : Result End SimFault} {rows : List Row} {n : Moment} → is_due d m.state ≡ true → m.deltas < delta_limit → DeltaStep d m.state Done own st → Runs d limit (after_delta m st) r ls rows n → RunsFrom d limit (Between m) r (own ++ ls) (left_after r n)
  after_step {m = m} {own = own} {r = r} {n = n} w lt s a =
      let h = split a in
      let one = follows (run.ran w lt s h.settles) h.follow in
      let e = append_assoc own h.own h.lines' ∙ ap (λ l. own ++ l) (sym h.same) in
      record { rows = _; call = subst (λ l. RunCall d limit (Between m) r l (row_of m.state h.middle.state ++ h.rows') (left_after r n)) e (stand.between one) }

  done_run : {m : Moment} {st : State} {own ls : List Line} {r : Result End SimFault} {rows : List Row} {n : Standing} → is_due d m.state ≡ true → m.deltas < delta_limit → DeltaStep d m.state Done own st → RunCall d limit (Between (after_delta m st)) r ls rows n → RunsFrom d limit (Between m) r (own ++ ls) n
  done_run w lt s (stand.between x) = after_step w lt s x

  -- A delta that is broken off ends the run.
  breaks_off : (time k : ℕ) {gs : List Generator} {ps qs : List Process} {s t : Signals} {i : ℕ} {e : Ending} {ls : List Line} → Evaluations d time k gs ps s (BrokenOff i e) ls qs t → goes_on e ≡ false
  breaks_off time k (delta.rests w a) = breaks_off time (k + 1) a
  breaks_off time k (delta.evaluates w v g a) = breaks_off time (k + 1) a
  breaks_off time k (delta.breaks_off w v g) = g

  remains_broken : (time n k : ℕ) {gs : List Generator} {ps qs : List Process} {s t : Signals} {i : ℕ} {e : Ending} {ls : List Line} → Remains d time n k gs ps s (BrokenOff i e) ls qs t → goes_on e ≡ false
  remains_broken time n k (call.remains v g a) = breaks_off time (k + 1) a
  remains_broken time n k (call.breaks_off v g) = g

  rest_broken : (time j n k : ℕ) {gs : List Generator} {ps qs : List Process} {s t : Signals} {i : ℕ} {e : Ending} {ls : List Line} → Rest d time j n k gs ps s (BrokenOff i e) ls qs t → goes_on e ≡ false
  rest_broken time j n k (call.here a) = remains_broken time n k a
  rest_broken time j n k (call.skip a) = rest_broken time j n (k + 1) a

  broken_run : {m : Moment} {i : ℕ} {own : List Line} {qs : List Process} {t : Signals} (e : Ending) → is_due d m.state ≡ true → m.deltas < delta_limit → Evaluations d m.state.time 0 d.generators m.state.processes m.state.signals (BrokenOff i e) own qs t → RunsFrom d limit (Between m) (end_of (close_of m.state.time e)) own (Over (close_of m.state.time e) m.state.signals.values)
  broken_run {m = m} (AtWait k) w lt a = absurd (true_false (breaks_off m.state.time 0 a))
  broken_run {m = m} AtEnd w lt a = absurd (true_false (breaks_off m.state.time 0 a))
  broken_run AtStop w lt a =
      record { rows = _; call = stand.between (run.stopped (run.ends w lt (record { processes = _; signals = _; evaluations = a; after_is = refl }))) }
  broken_run (InFault l f) w lt a =
      record { rows = _; call = stand.between (run.failed (run.ends w lt (record { processes = _; signals = _; evaluations = a; after_is = refl }))) }

  abbrev Opened : ℕ → ℕ → List Process → Signals → Moment
  Opened time n ps s = record { state = record { signals = s; processes = ps; time = time }; deltas = n }

  -- The line of a print is that of the generator with its number.
  mutual
    place : (time k x n : ℕ) (all : List Process) (gs : List Generator) (ps : List Process) (s : Signals) {i j m : ℕ} {a : Result Line Ending} {qs : List Process} {t : Signals} → i ≡ k + x → Passes d time k gs ps s (Prints i j m a) qs t → line_by d (Opened time n all t) (slice_get gs x) (slice_get qs x) j ≡ a
    place time k zero n all _ _ s e (call.rests {gs = gs} {ps = ps} w a) = absurd (let h = calls.passes_from d time (k + 1) gs ps s a in omega (arith, h, e))
    place time k (suc x) n all _ _ s e (call.rests {gs = gs} {ps = ps} w a) = place time (k + 1) x n all gs ps s (omega (arith, e)) a
    place time k x n all _ _ s e (call.begins {g = g} {gs = gs} {p = p} {ps = ps} w a) = place_on time 0 k x n all (g ∷ gs) (p ∷ ps) s e a

    place_on : (time c k x n : ℕ) (all : List Process) (gs : List Generator) (ps : List Process) (s : Signals) {i j m : ℕ} {a : Result Line Ending} {qs : List Process} {t : Signals} → i ≡ k + x → Resumes d time c k gs ps s (Prints i j m a) qs t → line_by d (Opened time n all t) (slice_get gs x) (slice_get qs x) j ≡ a
    place_on time c k zero n all _ _ s e (call.prints {j = j} {g = g} {p = p} {left = left} {u = u} f) =
        ap (printed g j) (calls.same_store d time s p left u (flows_framed f))
    place_on time c k (suc x) n all _ _ s e (call.prints f) = absurd (omega (arith, e))
    place_on time c k zero n all _ _ s e (call.ends {gs = gs} {ps = ps} f h g a) = absurd (let y = calls.passes_from d time (k + 1) gs ps _ a in omega (arith, y, e))
    place_on time c k (suc x) n all _ _ s e (call.ends {gs = gs} {ps = ps} f h g a) = place time (k + 1) x n all gs ps _ (omega (arith, e)) a

  goes_place : {b c : ℕ} (time k x n : ℕ) (all : List Process) (gs : List Generator) (ps : List Process) (s : Signals) {i j m : ℕ} {a : Result Line Ending} {qs : List Process} {t : Signals} → i ≡ k + x → GoesOn d time b c k gs ps s (Prints i j m a) qs t → line_by d (Opened time n all t) (slice_get gs x) (slice_get qs x) j ≡ a
  goes_place {c = c} time k x n all gs ps s e (call.here a) = place_on time c k x n all gs ps s e a
  goes_place time k zero n all _ _ s e (call.skip {gs = gs} {ps = ps} a) = absurd (let h = calls.goes_from d time (k + 1) gs ps s a in omega (arith, h, e))
  goes_place time k (suc x) n all _ _ s e (call.skip {gs = gs} {ps = ps} a) = goes_place time (k + 1) x n all gs ps s (omega (arith, e)) a

  -- A fault of a print ends the run.
  faulty_run : (before : Standing) (time : ℕ) (vs : List ℤ) (e : Ending) (f : SimFault) → RunsFrom d limit before (end_of (close_of time e)) [] (Over (close_of time e) vs) → ending_answer time e ≡ Err f → RunsFrom d limit before (Err f) [] (Over (Fails f) vs)
  faulty_run before time vs (AtWait k) f h q = absurd (ok_is answer.Ran f q)
  faulty_run before time vs AtEnd f h q = absurd (ok_is answer.Ran f q)
  faulty_run before time vs AtStop f h q = absurd (ok_is answer.Stopped f q)
  faulty_run before time vs (InFault l c) f h q =
      let e : run_fault time l c ≡ f = cc in
      subst (λ x. RunsFrom d limit before (Err x) [] (Over (Fails x) vs)) e h

  -- Evaluations keep the values.
  mutual
    passes_values : (time k : ℕ) (gs : List Generator) (ps : List Process) (s : Signals) {r : Reply} {qs : List Process} {t : Signals} → Passes d time k gs ps s r qs t → t.values ≡ s.values
    passes_values time k _ _ s call.all = refl
    passes_values time k _ _ s (call.rests {gs = gs} {ps = ps} w a) = passes_values time (k + 1) gs ps s a
    passes_values time k _ _ s (call.begins {g = g} {gs = gs} {p = p} {ps = ps} w a) = resumes_values time 0 k (g ∷ gs) (p ∷ ps) s a

    resumes_values : (time c k : ℕ) (gs : List Generator) (ps : List Process) (s : Signals) {r : Reply} {qs : List Process} {t : Signals} → Resumes d time c k gs ps s r qs t → t.values ≡ s.values
    resumes_values time c k _ _ s (call.prints f) = (flows_framed f).values
    resumes_values time c k _ _ s (call.ends {gs = gs} {ps = ps} f h g a) = passes_values time (k + 1) gs ps _ a ∙ (flows_framed f).values
    resumes_values time c k _ _ s (call.breaks f h g) = refl

  goes_values : {b c : ℕ} (time k : ℕ) (gs : List Generator) (ps : List Process) (s : Signals) {r : Reply} {qs : List Process} {t : Signals} → GoesOn d time b c k gs ps s r qs t → t.values ≡ s.values
  goes_values {c = c} time k gs ps s (call.here a) = resumes_values time c k gs ps s a
  goes_values time k _ _ s (call.skip {gs = gs} {ps = ps} a) = goes_values time (k + 1) gs ps s a

  with_values : {before : Standing} {r : Result End SimFault} {ls : List Line} (c : Close) (vs ws : List ℤ) → ws ≡ vs → RunsFrom d limit before r ls (Over c vs) → RunsFrom d limit before r ls (Over c ws)
  with_values {before = before} {r = r} {ls = ls} c vs ws e h = subst (λ v. RunsFrom d limit before r ls (Over c v)) (sym e) h

  -- From between two deltas.
  module _ (m : Moment) (due : is_due d m.state ≡ true) (room : m.deltas < delta_limit) where
    print_between : {qs : List Process} {t : Signals} {i j c : ℕ} {a : Result Line Ending} {line : Line} {r : Result End SimFault} {ls : List Line} {rows : List Row} {n : Standing} → Passes d m.state.time 0 d.generators m.state.processes m.state.signals (Prints i j c a) qs t → a ≡ Ok line → RunCall d limit (Inside (with_state m qs t) i c) r ls rows n → RunsFrom d limit (Between m) r (line ∷ ls) n
    print_between p e (stand.goes_on {own = own} {qs = rs} {t = w} x s f) =
        after_step due room (record { processes = rs; signals = w; evaluations = calls.printed_done d m.state.time 0 d.generators m.state.processes m.state.signals p e x; after_is = refl }) (follows s f)
    print_between p e (stand.breaks {e = b} x) =
        let h = calls.printed_broken d m.state.time 0 d.generators m.state.processes m.state.signals p e x in
        with_values (close_of m.state.time b) m.state.signals.values _ (passes_values m.state.time 0 d.generators m.state.processes m.state.signals p) (broken_run b due room h.evaluations)

    line_between : {qs : List Process} {t : Signals} {i j c : ℕ} {a : Result Line Ending} → Passes d m.state.time 0 d.generators m.state.processes m.state.signals (Prints i j c a) qs t → (b : Result Line Ending) → a ≡ b → with_line d limit (Between m) (Inside (with_state m qs t) i c) i b
    line_between p (Ok line) e = λ r ls n h. print_between p e h.call
    line_between p (Err b) e = λ f q.
        let h = calls.faulty d m.state.time 0 d.generators m.state.processes m.state.signals p e in
        faulty_run (Between m) m.state.time m.state.signals.values b f (broken_run b due room h.evaluations) q

    from_between : {qs : List Process} {t : Signals} (r : Reply) → Passes d m.state.time 0 d.generators m.state.processes m.state.signals r qs t → MeansFor d limit (Between m) (answer_of m.state.time r) (left_by m r qs t)
    from_between {qs = qs} {t = t} Finished a = λ r ls n h. done_run due room (record { processes = qs; signals = t; evaluations = calls.finished d m.state.time 0 d.generators m.state.processes m.state.signals a; after_is = refl }) h.call
    from_between (Breaks i (AtWait k)) a = absurd (true_false (breaks_off m.state.time 0 (calls.broken d m.state.time 0 d.generators m.state.processes m.state.signals a)))
    from_between (Breaks i AtEnd) a = absurd (true_false (breaks_off m.state.time 0 (calls.broken d m.state.time 0 d.generators m.state.processes m.state.signals a)))
    from_between (Breaks i AtStop) a = broken_run AtStop due room (calls.broken d m.state.time 0 d.generators m.state.processes m.state.signals a)
    from_between (Breaks i (InFault l f)) a = broken_run (InFault l f) due room (calls.broken d m.state.time 0 d.generators m.state.processes m.state.signals a)
    from_between {qs = qs} {t = t} (Prints i j c line) a =
        let e = place m.state.time 0 i m.deltas qs d.generators m.state.processes m.state.signals (omega arith) a in
        subst (λ l. with_line d limit (Between m) (Inside (with_state m qs t) i c) i l) (sym e) (line_between a line refl)

  -- From within a delta.
  module _ (m : Moment) (g k : ℕ) where
    broken_inside : {i : ℕ} {own : List Line} {qs : List Process} {t : Signals} (e : Ending) → Rest d m.state.time g k 0 d.generators m.state.processes m.state.signals (BrokenOff i e) own qs t → RunsFrom d limit (Inside m g k) (end_of (close_of m.state.time e)) own (Over (close_of m.state.time e) m.state.signals.values)
    broken_inside e x = record { rows = []; call = stand.breaks x }

    done_inside : {qs : List Process} {t : Signals} {r : Result End SimFault} {ls : List Line} {rows : List Row} {n : Standing} → Rest d m.state.time g k 0 d.generators m.state.processes m.state.signals Done [] qs t → RunCall d limit (Between (full_delta m qs t)) r ls rows n → RunsFrom d limit (Inside m g k) r ls n
    done_inside {r = r} x (stand.between {n = n} y) =
        let h = split y in
        record { rows = _; call = subst (λ l. RunCall d limit (Inside m g k) r l (row_of m.state h.middle.state ++ h.rows') (left_after r n)) (sym h.same) (stand.goes_on x h.settles h.follow) }

    print_inside : {qs : List Process} {t : Signals} {i j c : ℕ} {a : Result Line Ending} {line : Line} {r : Result End SimFault} {ls : List Line} {rows : List Row} {n : Standing} → GoesOn d m.state.time g k 0 d.generators m.state.processes m.state.signals (Prints i j c a) qs t → a ≡ Ok line → RunCall d limit (Inside (with_state m qs t) i c) r ls rows n → RunsFrom d limit (Inside m g k) r (line ∷ ls) n
    print_inside p e (stand.goes_on x s f) =
        record { rows = _; call = stand.goes_on (calls.goes_done d m.state.time 0 d.generators m.state.processes m.state.signals p e x) s f }
    print_inside p e (stand.breaks {e = b} x) =
        let h = calls.goes_on_broken d m.state.time 0 d.generators m.state.processes m.state.signals p e x in
        with_values (close_of m.state.time b) m.state.signals.values _ (goes_values m.state.time 0 d.generators m.state.processes m.state.signals p) (broken_inside b h.rest)

    line_inside : {qs : List Process} {t : Signals} {i j c : ℕ} {a : Result Line Ending} → GoesOn d m.state.time g k 0 d.generators m.state.processes m.state.signals (Prints i j c a) qs t → (b : Result Line Ending) → a ≡ b → with_line d limit (Inside m g k) (Inside (with_state m qs t) i c) i b
    line_inside p (Ok line) e = λ r ls n h. print_inside p e h.call
    line_inside p (Err b) e = λ f q.
        let h = calls.goes_faulty d m.state.time 0 d.generators m.state.processes m.state.signals p e in
        faulty_run (Inside m g k) m.state.time m.state.signals.values b f (broken_inside b h.rest) q

    from_inside : {qs : List Process} {t : Signals} (r : Reply) → GoesOn d m.state.time g k 0 d.generators m.state.processes m.state.signals r qs t → MeansFor d limit (Inside m g k) (answer_of m.state.time r) (left_by m r qs t)
    from_inside Finished a = λ r ls n h. done_inside (calls.goes_finished d m.state.time 0 d.generators m.state.processes m.state.signals a) h.call
    from_inside (Breaks i (AtWait c)) a = absurd (true_false (rest_broken m.state.time g k 0 (calls.goes_broken d m.state.time 0 d.generators m.state.processes m.state.signals a)))
    from_inside (Breaks i AtEnd) a = absurd (true_false (rest_broken m.state.time g k 0 (calls.goes_broken d m.state.time 0 d.generators m.state.processes m.state.signals a)))
    from_inside (Breaks i AtStop) a = broken_inside AtStop (calls.goes_broken d m.state.time 0 d.generators m.state.processes m.state.signals a)
    from_inside (Breaks i (InFault l f)) a = broken_inside (InFault l f) (calls.goes_broken d m.state.time 0 d.generators m.state.processes m.state.signals a)
    from_inside {qs = qs} {t = t} (Prints i j c line) a =
        let e = goes_place m.state.time 0 i m.deltas qs d.generators m.state.processes m.state.signals (omega arith) a in
        subst (λ l. with_line d limit (Inside m g k) (Inside (with_state m qs t) i c) i l) (sym e) (line_inside a line refl)

  -- What the answer of a call of a delta means.
  pub means : {before after : Standing} {a : Result Delta SimFault} → DeltaCall d before a after → MeansFor d limit before a after
  means (stand.quiet w) = refl
  means (stand.exceeds w le) = record { rows = _; call = stand.between (run.failed (run.exceeds w le)) }
  means (stand.begins {m = m} {r = r} w lt p) = from_between m w lt r p
  means (stand.goes_on {m = m} {g = g} {n = n} {r = r} p) = from_inside m g n r p
  means stand.stopped = record { rows = []; call = stand.stopped }
  means stand.failed = record { rows = []; call = stand.failed }

  -- A step of time where nothing is due.
  step_on : (m : Moment) (u : ℕ) {r : Result End SimFault} {ls : List Line} {rows : List Row} {n : Standing} → is_due d m.state ≡ false → next_time m.state ≡ Some u → u ≤ limit → RunCall d limit (Between (at_time u m)) r ls rows n → RunsFrom d limit (Between m) r ls n
  step_on m u w x le (stand.between y) = record { rows = _; call = stand.between (run.goes_on (run.rests w) x le y) }

  by_limit : (m : Moment) (u : ℕ) → is_due d m.state ≡ false → next_time m.state ≡ Some u → (b : Bool) → nat_le u limit ≡ b → MeansTime d limit m (if b then Some u else None)
  by_limit m u w x true e = λ r ls n h. step_on m u w x (leb-true u limit e) h.call
  by_limit m u w x false e =
      let lt = leb-false u limit e in
      subst (λ o. RunsFrom d limit (Between m) (Ok (quiet_end o)) [] (Between (at_time limit m))) (sym x) (record { rows = _; call = stand.between (run.reached (run.rests w) x lt) })

  by_next : (m : Moment) → is_due d m.state ≡ false → (o : Option ℕ) → next_time m.state ≡ o → MeansTime d limit m (reached_event limit o)
  by_next m w None x =
      subst (λ o. RunsFrom d limit (Between m) (Ok (quiet_end o)) [] (Between (at_time limit m))) (sym x) (record { rows = _; call = stand.between (run.quiet (run.rests w) x) })
  by_next m w (Some u) x = by_limit m u w x (nat_le u limit) refl

  pub means_time : (m : Moment) → is_due d m.state ≡ false → MeansTime d limit m (advance_answer limit m)
  means_time m w = by_next m w (next_time m.state) refl
