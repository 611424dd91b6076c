-- Calls that go on with one another do one delta, and the lines of their prints are its lines.
use Rattle.std.proofs.Common.{◌≡◌, ℕ, ◌+◌, ◌≤◌, true, List, [], ◌∷◌, refl, sym, ap, ◌∙◌, subst, arith}
use Rattle.std.specs.Prelude.{Result, Ok, Err}
use Rattle.mh_flow.specs.declared.resumed.Resumed.TheVariants as resumed
use Rattle.mh_design.specs.declared.design.Design.{Design}
use Rattle.mh_design.specs.declared.design.Generator.{Generator}
use Rattle.mh_design.specs.Bodies.{prints_at, line_at}
use Rattle.mh_design.specs.Values.{Signals, Store, Fault}
use Rattle.mh_design.specs.Deltas.{Left, Process, Piece, pieces_of, Ending, InFault, Faults, Flows, Evaluation, store_of, goes_on, is_woken, Outcome, Done, BrokenOff, Evaluations}
use Rattle.mh_design.specs.Deltas as delta
use Rattle.mh_sched.specs.Lines.{Line}
use Rattle.mh_sched.specs.Calls.{Reply, Finished, Prints, Breaks, line_or, printed, interrupted, evaluated, Passes, all, rests, begins, Resumes, prints, ends, breaks, GoesOn, Remains, remains, breaks_off, Rest, Broken, RestBroken, RemainsBroken}
use Rattle.mh_sched.specs.Calls as call
use Rattle.mh_sched.proofs.Frames.{IsFramed, flows_framed}

line_is : (l : ℕ) (r : Result Line Fault) (line : Line) → line_or l r ≡ Ok line → r ≡ Ok line
line_is l (Ok ps) line e = let s : ps ≡ line = cc in ap Ok s
line_is l (Err f) line e = absurd cc

-- A fault of a part ends the evaluation.
fault_is : (l : ℕ) (r : Result Line Fault) (e : Ending) → line_or l r ≡ Err e → (f : Fault) × (r ≡ Err f) × (InFault l (Faults f) ≡ e)
fault_is l (Ok ps) e h = absurd cc
fault_is l (Err f) e h = (f, refl, cc)

pub same_store : (d : Design) (time : ℕ) (s : Signals) (p : Process) (left : Left) (u : Store) → IsFramed (store_of d time s p) u → store_of d time u.signals (interrupted p left u) ≡ u
same_store d time s p left u f =
    let a : d ≡ u.design = sym f.design in
    let b : time ≡ u.time = sym f.time in
    ap (λ x. record { design = x; signals = u.signals; locals = u.locals; time = time }) a ∙ ap (λ x. record { design = u.design; signals = u.signals; locals = u.locals; time = x }) b

module _ (d : Design) (time : ℕ) where
  begun : {k : ℕ} {gs : List Generator} {ps qs : List Process} {s t : Signals} {o : Outcome} {ls : List Line} (g : Generator) (p : Process) → is_woken s time p k ≡ true → Remains d time 0 k (g ∷ gs) (p ∷ ps) s o ls qs t → Evaluations d time k (g ∷ gs) (p ∷ ps) s o ls qs t
  begun g p w (remains v h a) = delta.evaluates w v h a
  begun g p w (breaks_off v h) = delta.breaks_off w v h

  -- Once all evaluations are done, so is the delta.
  mutual
    pub finished : (k : ℕ) (gs : List Generator) (ps : List Process) (s : Signals) {qs : List Process} {t : Signals} → Passes d time k gs ps s Finished qs t → Evaluations d time k gs ps s Done [] qs t
    finished k _ _ s all = delta.none
    finished k _ _ s (rests {gs = gs} {ps = ps} w a) = delta.rests w (finished (k + 1) gs ps s a)
    finished k _ _ s (begins {g = g} {gs = gs} {p = p} {ps = ps} w a) = begun g p w (finished_on 0 k (g ∷ gs) (p ∷ ps) s a)

    pub finished_on : (n k : ℕ) (gs : List Generator) (ps : List Process) (s : Signals) {qs : List Process} {t : Signals} → Resumes d time n k gs ps s Finished qs t → Remains d time n k gs ps s Done [] qs t
    finished_on n k _ _ s (ends {gs = gs} {ps = ps} f h g a) = remains (delta.ends f h) g (finished (k + 1) gs ps _ a)

  -- An evaluation that breaks off breaks the delta off.
  mutual
    pub broken : (k : ℕ) (gs : List Generator) (ps : List Process) (s : Signals) {i : ℕ} {e : Ending} {qs : List Process} {t : Signals} → Passes d time k gs ps s (Breaks i e) qs t → Evaluations d time k gs ps s (BrokenOff i e) [] qs t
    broken k _ _ s (rests {gs = gs} {ps = ps} w a) = delta.rests w (broken (k + 1) gs ps s a)
    broken k _ _ s (begins {g = g} {gs = gs} {p = p} {ps = ps} w a) = begun g p w (broken_on 0 k (g ∷ gs) (p ∷ ps) s a)

    pub broken_on : (n k : ℕ) (gs : List Generator) (ps : List Process) (s : Signals) {i : ℕ} {e : Ending} {qs : List Process} {t : Signals} → Resumes d time n k gs ps s (Breaks i e) qs t → Remains d time n k gs ps s (BrokenOff i e) [] qs t
    broken_on n k _ _ s (ends {gs = gs} {ps = ps} f h g a) = remains (delta.ends f h) g (broken (k + 1) gs ps _ a)
    broken_on n k _ _ s (breaks f h g) = breaks_off (delta.ends f h) g

  -- The generator that prints isn't before the first.
  mutual
    pub passes_from : (k : ℕ) (gs : List Generator) (ps : List Process) (s : Signals) {i j m : ℕ} {a : Result Line Ending} {qs : List Process} {t : Signals} → Passes d time k gs ps s (Prints i j m a) qs t → k ≤ i
    passes_from k _ _ s (rests {gs = gs} {ps = ps} w a) = let h = passes_from (k + 1) gs ps s a in omega (arith, h)
    passes_from k _ _ s (begins {g = g} {gs = gs} {p = p} {ps = ps} w a) = resumes_from 0 k (g ∷ gs) (p ∷ ps) s a

    pub resumes_from : (n k : ℕ) (gs : List Generator) (ps : List Process) (s : Signals) {i j m : ℕ} {a : Result Line Ending} {qs : List Process} {t : Signals} → Resumes d time n k gs ps s (Prints i j m a) qs t → k ≤ i
    resumes_from n k _ _ s (prints f) = omega arith
    resumes_from n k _ _ s (ends {gs = gs} {ps = ps} f h g a) = let h = passes_from (k + 1) gs ps _ a in omega (arith, h)

  rest_to : {i n : ℕ} (k : ℕ) (gs : List Generator) (ps : List Process) (s : Signals) {o : Outcome} {ls : List Line} {qs : List Process} {t : Signals} → Rest d time i n k gs ps s o ls qs t → k ≤ i
  rest_to k gs ps s (call.here a) = omega arith
  rest_to k _ _ s (call.skip {gs = gs} {ps = ps} a) = let h = rest_to (k + 1) gs ps s a in omega (arith, h)

  rest_here : {i n k : ℕ} {gs : List Generator} {ps : List Process} {s : Signals} {o : Outcome} {ls : List Line} {qs : List Process} {t : Signals} → Rest d time i n k gs ps s o ls qs t → i ≡ k → Remains d time n k gs ps s o ls qs t
  rest_here (call.here x) e = x
  rest_here (call.skip {gs = gs} {ps = ps} {s = s} a) e = absurd (let h = rest_to _ gs ps s a in omega (arith, h, e))

  -- After a print the evaluation goes on from the store that it has left.
  on_done : (n k j m : ℕ) (g : Generator) (gs : List Generator) (p : Process) (ps : List Process) (s : Signals) (left : Left) (u : Store) (line : Line) {ls : List Line} {qs : List Process} {t : Signals} → Flows p.left (store_of d time s p) n (resumed.Says j) left u m → pieces_of u (prints_at g j) ≡ Ok line → Remains d time m k (g ∷ gs) (interrupted p left u ∷ ps) u.signals Done ls qs t → Remains d time n k (g ∷ gs) (p ∷ ps) s Done (line ∷ ls) qs t
  on_done n k j m g gs p ps s left u line f e (remains {m = q} {left = left'} {u = u'} {e = e'} {own = own} v h a) =
      let v' = subst (λ x. Evaluation d g left x m e' own left' u' q) (same_store d time s p left u (flows_framed f)) v in
      remains (delta.prints f e v') h a

  on_broken : (n k j m : ℕ) (g : Generator) (gs : List Generator) (p : Process) (ps : List Process) (s : Signals) (left : Left) (u : Store) (line : Line) {i : ℕ} {b : Ending} {ls : List Line} {qs : List Process} {t : Signals} → Flows p.left (store_of d time s p) n (resumed.Says j) left u m → pieces_of u (prints_at g j) ≡ Ok line → Remains d time m k (g ∷ gs) (interrupted p left u ∷ ps) u.signals (BrokenOff i b) ls qs t → RemainsBroken d time n k (g ∷ gs) (p ∷ ps) s i b (line ∷ ls)
  on_broken n k j m g gs p ps s left u line f e (remains {m = q} {left = left'} {u = u'} {e = e'} {own = own} v h a) =
      let v' = subst (λ x. Evaluation d g left x m e' own left' u' q) (same_store d time s p left u (flows_framed f)) v in
      record { processes = _; signals = _; remains = remains (delta.prints f e v') h a }
  on_broken n k j m g gs p ps s left u line f e (breaks_off {m = q} {left = left'} {u = u'} {e = e'} {own = own} v h) =
      let v' = subst (λ x. Evaluation d g left x m e' own left' u' q) (same_store d time s p left u (flows_framed f)) v in
      record { processes = _; signals = _; remains = breaks_off (delta.prints f e v') h }

  -- A call that prints, and what is left of the delta then.
  mutual
    pub printed_done : (k : ℕ) (gs : List Generator) (ps : List Process) (s : Signals) {i j m : ℕ} {r : Result Line Ending} {line : Line} {qs rs : List Process} {t w : Signals} {ls : List Line} → Passes d time k gs ps s (Prints i j m r) qs t → r ≡ Ok line → Rest d time i m k gs qs t Done ls rs w → Evaluations d time k gs ps s Done (line ∷ ls) rs w
    printed_done k _ _ s (rests {gs = gs} {ps = ps} w a) e (call.here x) = absurd (let h = passes_from (k + 1) gs ps s a in omega (arith, h))
    printed_done k _ _ s (rests {gs = gs} {ps = ps} w a) e (call.skip x) = delta.rests w (printed_done (k + 1) gs ps s a e x)
    printed_done k _ _ s (begins {g = g} {gs = gs} {p = p} {ps = ps} w a) e x = begun g p w (resumed_done 0 k (g ∷ gs) (p ∷ ps) s a e x)

    pub resumed_done : (n k : ℕ) (gs : List Generator) (ps : List Process) (s : Signals) {i j m : ℕ} {r : Result Line Ending} {line : Line} {qs rs : List Process} {t w : Signals} {ls : List Line} → Resumes d time n k gs ps s (Prints i j m r) qs t → r ≡ Ok line → Rest d time i m k gs qs t Done ls rs w → Remains d time n k gs ps s Done (line ∷ ls) rs w
    resumed_done n k _ _ s {line = line} (prints {m = m} {j = j} {g = g} {gs = gs} {p = p} {ps = ps} {left = left} {u = u} f) e x =
        on_done n k j m g gs p ps s left u line f (line_is (line_at g j) (pieces_of u (prints_at g j)) line e) (rest_here x refl)
    resumed_done n k _ _ s (ends {gs = gs} {ps = ps} f h g a) e (call.here x) = absurd (let h = passes_from (k + 1) gs ps _ a in omega (arith, h))
    resumed_done n k _ _ s (ends {gs = gs} {ps = ps} f h g a) e (call.skip x) =
        remains (delta.ends f h) g (printed_done (k + 1) gs ps _ a e x)

  -- The same where the delta is broken off after the print.
  begun_broken : {k : ℕ} {gs : List Generator} {ps : List Process} {s : Signals} {i : ℕ} {e : Ending} {ls : List Line} (g : Generator) (p : Process) → is_woken s time p k ≡ true → RemainsBroken d time 0 k (g ∷ gs) (p ∷ ps) s i e ls → Broken d time k (g ∷ gs) (p ∷ ps) s i e ls
  begun_broken g p w r = record { processes = _; signals = _; evaluations = begun g p w r.remains }

  mutual
    pub printed_broken : (k : ℕ) (gs : List Generator) (ps : List Process) (s : Signals) {i j m : ℕ} {r : Result Line Ending} {line : Line} {qs rs : List Process} {t w : Signals} {h : ℕ} {b : Ending} {ls : List Line} → Passes d time k gs ps s (Prints i j m r) qs t → r ≡ Ok line → Rest d time i m k gs qs t (BrokenOff h b) ls rs w → Broken d time k gs ps s h b (line ∷ ls)
    printed_broken k _ _ s (rests {gs = gs} {ps = ps} w a) e (call.here x) = absurd (let h = passes_from (k + 1) gs ps s a in omega (arith, h))
    printed_broken k _ _ s (rests {gs = gs} {ps = ps} w a) e (call.skip x) =
        let y = printed_broken (k + 1) gs ps s a e x in
        record { processes = _; signals = _; evaluations = delta.rests w y.evaluations }
    printed_broken k _ _ s (begins {g = g} {gs = gs} {p = p} {ps = ps} w a) e x =
        begun_broken g p w (resumed_broken 0 k (g ∷ gs) (p ∷ ps) s a e x)

    pub resumed_broken : (n k : ℕ) (gs : List Generator) (ps : List Process) (s : Signals) {i j m : ℕ} {r : Result Line Ending} {line : Line} {qs rs : List Process} {t w : Signals} {h : ℕ} {b : Ending} {ls : List Line} → Resumes d time n k gs ps s (Prints i j m r) qs t → r ≡ Ok line → Rest d time i m k gs qs t (BrokenOff h b) ls rs w → RemainsBroken d time n k gs ps s h b (line ∷ ls)
    resumed_broken n k _ _ s {line = line} (prints {m = m} {j = j} {g = g} {gs = gs} {p = p} {ps = ps} {left = left} {u = u} f) e x =
        on_broken n k j m g gs p ps s left u line f (line_is (line_at g j) (pieces_of u (prints_at g j)) line e) (rest_here x refl)
    resumed_broken n k _ _ s (ends {gs = gs} {ps = ps} f h g a) e (call.here x) = absurd (let h = passes_from (k + 1) gs ps _ a in omega (arith, h))
    resumed_broken n k _ _ s (ends {gs = gs} {ps = ps} f h g a) e (call.skip x) =
        let y = printed_broken (k + 1) gs ps _ a e x in
        record { processes = _; signals = _; remains = remains (delta.ends f h) g y.evaluations }

  -- A print whose parts have a fault breaks the delta off.
  mutual
    pub faulty : (k : ℕ) (gs : List Generator) (ps : List Process) (s : Signals) {i j m : ℕ} {r : Result Line Ending} {b : Ending} {qs : List Process} {t : Signals} → Passes d time k gs ps s (Prints i j m r) qs t → r ≡ Err b → Broken d time k gs ps s i b []
    faulty k _ _ s (rests {gs = gs} {ps = ps} w a) e =
        let y = faulty (k + 1) gs ps s a e in
        record { processes = _; signals = _; evaluations = delta.rests w y.evaluations }
    faulty k _ _ s (begins {g = g} {gs = gs} {p = p} {ps = ps} w a) e = begun_broken g p w (faulty_on 0 k (g ∷ gs) (p ∷ ps) s a e)

    pub faulty_on : (n k : ℕ) (gs : List Generator) (ps : List Process) (s : Signals) {i j m : ℕ} {r : Result Line Ending} {b : Ending} {qs : List Process} {t : Signals} → Resumes d time n k gs ps s (Prints i j m r) qs t → r ≡ Err b → RemainsBroken d time n k gs ps s i b []
    faulty_on n k _ _ s {b = b} (prints {j = j} {g = g} {gs = gs} {p = p} {ps = ps} {u = u} f) e =
        let h = fault_is (line_at g j) (pieces_of u (prints_at g j)) b e in
        subst (λ x. RemainsBroken d time n k (g ∷ gs) (p ∷ ps) s k x []) h.2 (record { processes = _; signals = _; remains = breaks_off (delta.fails f h.1) refl })
    faulty_on n k _ _ s (ends {gs = gs} {ps = ps} f h g a) e =
        let y = faulty (k + 1) gs ps _ a e in
        record { processes = _; signals = _; remains = remains (delta.ends f h) g y.evaluations }

  -- The same for calls that go on.
  pub goes_from : {i n : ℕ} (k : ℕ) (gs : List Generator) (ps : List Process) (s : Signals) {i' j m : ℕ} {a : Result Line Ending} {qs : List Process} {t : Signals} → GoesOn d time i n k gs ps s (Prints i' j m a) qs t → k ≤ i'
  goes_from {n = n} k gs ps s (call.here a) = resumes_from n k gs ps s a
  goes_from k _ _ s (call.skip {gs = gs} {ps = ps} a) = let h = goes_from (k + 1) gs ps s a in omega (arith, h)

  pub goes_finished : {i n : ℕ} (k : ℕ) (gs : List Generator) (ps : List Process) (s : Signals) {qs : List Process} {t : Signals} → GoesOn d time i n k gs ps s Finished qs t → Rest d time i n k gs ps s Done [] qs t
  goes_finished {n = n} k gs ps s (call.here a) = call.here (finished_on n k gs ps s a)
  goes_finished k _ _ s (call.skip {gs = gs} {ps = ps} a) = call.skip (goes_finished (k + 1) gs ps s a)

  pub goes_broken : {i n : ℕ} (k : ℕ) (gs : List Generator) (ps : List Process) (s : Signals) {h : ℕ} {e : Ending} {qs : List Process} {t : Signals} → GoesOn d time i n k gs ps s (Breaks h e) qs t → Rest d time i n k gs ps s (BrokenOff h e) [] qs t
  goes_broken {n = n} k gs ps s (call.here a) = call.here (broken_on n k gs ps s a)
  goes_broken k _ _ s (call.skip {gs = gs} {ps = ps} a) = call.skip (goes_broken (k + 1) gs ps s a)

  pub goes_done : {i n : ℕ} (k : ℕ) (gs : List Generator) (ps : List Process) (s : Signals) {i' j m : ℕ} {r : Result Line Ending} {line : Line} {qs rs : List Process} {t w : Signals} {ls : List Line} → GoesOn d time i n k gs ps s (Prints i' j m r) qs t → r ≡ Ok line → Rest d time i' m k gs qs t Done ls rs w → Rest d time i n k gs ps s Done (line ∷ ls) rs w
  goes_done {n = n} k gs ps s (call.here a) e x = call.here (resumed_done n k gs ps s a e x)
  goes_done k _ _ s (call.skip {gs = gs} {ps = ps} a) e (call.here x) = absurd (let h = goes_from (k + 1) gs ps s a in omega (arith, h))
  goes_done k _ _ s (call.skip {gs = gs} {ps = ps} a) e (call.skip x) = call.skip (goes_done (k + 1) gs ps s a e x)

  pub goes_on_broken : {i n : ℕ} (k : ℕ) (gs : List Generator) (ps : List Process) (s : Signals) {i' j m : ℕ} {r : Result Line Ending} {line : Line} {qs rs : List Process} {t w : Signals} {h : ℕ} {b : Ending} {ls : List Line} → GoesOn d time i n k gs ps s (Prints i' j m r) qs t → r ≡ Ok line → Rest d time i' m k gs qs t (BrokenOff h b) ls rs w → RestBroken d time i n k gs ps s h b (line ∷ ls)
  goes_on_broken {n = n} k gs ps s (call.here a) e x =
      let y = resumed_broken n k gs ps s a e x in
      record { processes = _; signals = _; rest = call.here y.remains }
  goes_on_broken k _ _ s (call.skip {gs = gs} {ps = ps} a) e (call.here x) = absurd (let h = goes_from (k + 1) gs ps s a in omega (arith, h))
  goes_on_broken k _ _ s (call.skip {gs = gs} {ps = ps} a) e (call.skip x) =
      let y = goes_on_broken (k + 1) gs ps s a e x in
      record { processes = _; signals = _; rest = call.skip y.rest }

  pub goes_faulty : {i n : ℕ} (k : ℕ) (gs : List Generator) (ps : List Process) (s : Signals) {i' j m : ℕ} {r : Result Line Ending} {b : Ending} {qs : List Process} {t : Signals} → GoesOn d time i n k gs ps s (Prints i' j m r) qs t → r ≡ Err b → RestBroken d time i n k gs ps s i' b []
  goes_faulty {n = n} k gs ps s (call.here a) e =
      let y = faulty_on n k gs ps s a e in
      record { processes = _; signals = _; rest = call.here y.remains }
  goes_faulty k _ _ s (call.skip {gs = gs} {ps = ps} a) e =
      let y = goes_faulty (k + 1) gs ps s a e in
      record { processes = _; signals = _; rest = call.skip y.rest }
