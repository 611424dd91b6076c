-- An evaluation of a generator has one outcome, and so have the evaluations of a delta.
use Rattle.std.proofs.Common.{◌≡◌, ℕ, ◌+◌, true, false, List, refl, sym, ap, ◌∙◌, subst}
use Rattle.std.specs.Prelude.{None, Some, Result, Ok, Err}
use Rattle.mh_flow.specs.declared.resumed.Resumed.{Resumed}
use Rattle.mh_flow.specs.declared.resumed.Resumed.TheVariants as resumed
use Rattle.mh_flow.specs.Flow.{IsNoMemory}
use Rattle.mh_design.specs.declared.design.Design.{Design}
use Rattle.mh_design.specs.declared.design.Generator.{Generator}
use Rattle.mh_design.specs.Assignments.{meaning}
use Rattle.mh_design.specs.Bodies.{prints_at, line_at}
use Rattle.mh_design.specs.Values.{Signals, Store, Fault}
use Rattle.mh_design.specs.Deltas.{Left, Process, State, Piece, pieces_of, Ending, Flows, ending_of, Evaluation, ends, prints, fails, waits_after, goes_on, Outcome, Evaluations, none, rests, evaluates, breaks_off, waiting, after_of, DeltaStep}

-- The flow of a generator has one answer.
abbrev pub FlowsOnce : Type 0
FlowsOnce = (xs : Left) (s : Store) (n : ℕ) (r r' : Resumed Fault) (ys ys' : Left) (t t' : Store) (m m' : ℕ) → IsNoMemory meaning r → IsNoMemory meaning r' → Flows xs s n r ys t m → Flows xs s n r' ys' t' m' → (r ≡ r') × (ys ≡ ys') × (t ≡ t') × (m ≡ m')

no_memory : (r : Resumed Fault) → IsNoMemory meaning r
no_memory (resumed.Waits k) = tt
no_memory (resumed.Says k) = tt
no_memory resumed.Stopped = tt
no_memory resumed.Ended = tt
no_memory (resumed.CheckFailed at) = tt
no_memory (resumed.Fault at f) = refl
no_memory resumed.TurnLimit = tt

pub none_some : {A : Type 0} (x : A) → None ≡ Some x → ⊥
none_some x e = cc

ok_err : {A B : Type 0} (r : Result A B) (x : A) (y : B) → r ≡ Ok x → r ≡ Err y → ⊥
ok_err r x y a b = let w : Ok x ≡ Err y = sym a ∙ b in cc

pub true_false : true ≡ false → ⊥
true_false e = cc

module _ (once : FlowsOnce) (d : Design) where
  pub data Result' : Type 0 where
    Gives : Ending → List (List Piece) → Left → Store → ℕ → Result'

  same_flow : {xs ys ys' : Left} {s t t' : Store} {n m m' : ℕ} {r r' : Resumed Fault} → Flows xs s n r ys t m → Flows xs s n r' ys' t' m' → (r ≡ r') × (ys ≡ ys') × (t ≡ t') × (m ≡ m')
  same_flow {r = r} {r' = r'} a b = once _ _ _ r r' _ _ _ _ _ _ (no_memory r) (no_memory r') a b

  -- An evaluation has one outcome.
  pub evaluation_once : (g : Generator) {xs ys ys' : Left} {s t t' : Store} {n m m' : ℕ} {e e' : Ending} {ls ls' : List (List Piece)} → Evaluation d g xs s n e ls ys t m → Evaluation d g xs s n e' ls' ys' t' m' → Gives e ls ys t m ≡ Gives e' ls' ys' t' m'
  evaluation_once g (ends {ys = ys} {t = t} {m = m} {r = r} {e = e} f h) (ends {ys = ys'} {t = t'} {m = m'} {r = r'} {e = e'} f' h') =
      let o = same_flow f f' in
      let w : Some e ≡ Some e' = sym h ∙ ap (λ x. ending_of d g x r) o.1 ∙ ap (ending_of d g ys') o.0 ∙ h' in
      let er : r ≡ r' = o.0 in
      let ey : ys ≡ ys' = o.1 in
      let et : t ≡ t' = o.2 in
      let em : m ≡ m' = o.3 in
      cc
  evaluation_once g (ends {ys = ys} {e = e} f h) (prints f' p' v') =
      let o = same_flow f f' in
      absurd (none_some e (sym (ap (ending_of d g ys) o.0) ∙ h))
  evaluation_once g (ends {ys = ys} {e = e} f h) (fails f' p') =
      let o = same_flow f f' in
      absurd (none_some e (sym (ap (ending_of d g ys) o.0) ∙ h))
  evaluation_once g (prints f p v) (ends {ys = ys} {e = e} f' h') =
      let o = same_flow f' f in
      absurd (none_some e (sym (ap (ending_of d g ys) o.0) ∙ h'))
  evaluation_once g (prints {ys = ys} {t = t} {m = m} {k = k} {e = e} {line = l} {more = ms} f p v) (prints {ys = ys'} {zs = zs'} {t = t'} {u = u'} {m = m'} {p = q'} {k = k'} {e = e'} {line = l'} {more = ms'} f' p' v') =
      let o = same_flow f f' in
      let er : resumed.Says k ≡ resumed.Says k' = o.0 in
      let ek : k ≡ k' = cc in
      let w : Ok l ≡ Ok l' = sym p ∙ ap (λ x. pieces_of x (prints_at g k)) o.2 ∙ ap (λ x. pieces_of t' (prints_at g x)) ek ∙ p' in
      let v1 = subst (λ x. Evaluation d g x t' m' e' ms' zs' u' q') (sym o.1) v' in
      let v2 = subst (λ x. Evaluation d g ys x m' e' ms' zs' u' q') (sym o.2) v1 in
      let v3 = subst (λ x. Evaluation d g ys t x e' ms' zs' u' q') (sym o.3) v2 in
      let rest = evaluation_once g v v3 in
      cc
  evaluation_once g (prints {t = t} {k = k} {line = l} f p v) (fails {t = t'} {k = k'} {f = c'} f' p') =
      let o = same_flow f f' in
      let er : resumed.Says k ≡ resumed.Says k' = o.0 in
      let ek : k ≡ k' = cc in
      absurd (ok_err (pieces_of t (prints_at g k)) l c' p (ap (λ x. pieces_of x (prints_at g k)) o.2 ∙ ap (λ x. pieces_of t' (prints_at g x)) ek ∙ p'))
  evaluation_once g (fails f p) (ends {ys = ys} {e = e} f' h') =
      let o = same_flow f' f in
      absurd (none_some e (sym (ap (ending_of d g ys) o.0) ∙ h'))
  evaluation_once g (fails {t = t'} {k = k'} {f = c'} f' p') (prints {t = t} {k = k} {line = l} f p v) =
      let o = same_flow f f' in
      let er : resumed.Says k ≡ resumed.Says k' = o.0 in
      let ek : k ≡ k' = cc in
      absurd (ok_err (pieces_of t (prints_at g k)) l c' p (ap (λ x. pieces_of x (prints_at g k)) o.2 ∙ ap (λ x. pieces_of t' (prints_at g x)) ek ∙ p'))
  evaluation_once g (fails {ys = ys} {t = t} {m = m} {k = k} {f = c} f p) (fails {ys = ys'} {t = t'} {m = m'} {k = k'} {f = c'} f' p') =
      let o = same_flow f f' in
      let er : resumed.Says k ≡ resumed.Says k' = o.0 in
      let ek : k ≡ k' = cc in
      let w : Err c ≡ Err c' = sym p ∙ ap (λ x. pieces_of x (prints_at g k)) o.2 ∙ ap (λ x. pieces_of t' (prints_at g x)) ek ∙ p' in
      let ey : ys ≡ ys' = o.1 in
      let et : t ≡ t' = o.2 in
      let em : m ≡ m' = o.3 in
      let el : line_at g k ≡ line_at g k' = ap (line_at g) ek in
      cc

  pub data Results : Type 0 where
    Leaves : Outcome → List (List Piece) → List Process → Signals → Results

  -- So have the evaluations of a delta.
  pub evaluations_once : (time k : ℕ) (gs : List Generator) (ps : List Process) (s : Signals) {o o' : Outcome} {ls ls' : List (List Piece)} {qs qs' : List Process} {t t' : Signals} → Evaluations d time k gs ps s o ls qs t → Evaluations d time k gs ps s o' ls' qs' t' → Leaves o ls qs t ≡ Leaves o' ls' qs' t'
  evaluations_once time k gs ps s none none = refl
  evaluations_once time k _ _ s (rests {gs = gs} {ps = ps} w a) (rests w' a') =
      let rest = evaluations_once time (k + 1) gs ps s a a' in
      cc
  evaluations_once time k _ _ s (rests w a) (evaluates w' v' g' a') = absurd (true_false (sym w' ∙ w))
  evaluations_once time k _ _ s (rests w a) (breaks_off w' v' g') = absurd (true_false (sym w' ∙ w))
  evaluations_once time k _ _ s (evaluates w v g a) (rests w' a') = absurd (true_false (sym w ∙ w'))
  evaluations_once time k _ _ s (breaks_off w v g) (rests w' a') = absurd (true_false (sym w ∙ w'))
  evaluations_once time k _ _ s (evaluates {g = h} {gs = gs} {ps = ps} {e = e} {left = left} {u = u} w v g a) (evaluates {qs = qs'} {t = t'} {o = o'} {lines = ls'} {e = e'} {left = left'} {u = u'} w' v' g' a') =
      let same = evaluation_once h v v' in
      let ee : e ≡ e' = cc in
      let eu : u ≡ u' = cc in
      let el : left ≡ left' = cc in
      let es : waiting u.signals k (waits_after d h e) ≡ waiting u'.signals k (waits_after d h e') = ap (λ x. waiting x.signals k (waits_after d h e)) eu ∙ ap (λ x. waiting u'.signals k (waits_after d h x)) ee in
      let b = subst (λ x. Evaluations d time (k + 1) gs ps x o' ls' qs' t') (sym es) a' in
      let rest = evaluations_once time (k + 1) gs ps (waiting u.signals k (waits_after d h e)) a b in
      let ep : u.locals ≡ u'.locals = ap (λ x. x.locals) eu in
      cc
  evaluations_once time k _ _ s (evaluates {g = h} {e = e} w v g a) (breaks_off {e = e'} w' v' g') =
      let same = evaluation_once h v v' in
      let ee : e ≡ e' = cc in
      absurd (true_false (sym g ∙ ap goes_on ee ∙ g'))
  evaluations_once time k _ _ s (breaks_off {g = h} {e = e} w v g) (evaluates {e = e'} w' v' g' a') =
      let same = evaluation_once h v v' in
      let ee : e ≡ e' = cc in
      absurd (true_false (sym g' ∙ sym (ap goes_on ee) ∙ g))
  evaluations_once time k _ _ s (breaks_off {g = h} {own = own} {e = e} w v g) (breaks_off {own = own'} {e = e'} w' v' g') =
      let same = evaluation_once h v v' in
      let ee : e ≡ e' = cc in
      let el : own ≡ own' = cc in
      cc

  pub data Step' : Type 0 where
    Steps : Outcome → List (List Piece) → State → Step'

  -- A delta is a function of the state.
  pub delta_once : (before : State) {o o' : Outcome} {ls ls' : List (List Piece)} {after after' : State} → DeltaStep d before o ls after → DeltaStep d before o' ls' after' → Steps o ls after ≡ Steps o' ls' after'
  delta_once before {o = o} {o' = o'} {after = after} {after' = after'} a b =
      let same = evaluations_once before.time 0 d.generators before.processes before.signals a.evaluations b.evaluations in
      let eo : o ≡ o' = cc in
      let ep : a.processes ≡ b.processes = cc in
      let es : a.signals ≡ b.signals = cc in
      let ea : after ≡ after' = a.after_is ∙ ap (λ x. after_of before x a.processes a.signals) eo ∙ ap (λ x. after_of before o' x a.signals) ep ∙ ap (after_of before o' b.processes) es ∙ sym b.after_is in
      cc
