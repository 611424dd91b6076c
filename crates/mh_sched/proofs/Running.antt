-- The deltas of a time have one outcome, and so has a run up to a time.
use Rattle.std.proofs.Common.{◌≡◌, ℕ, List, refl, sym, ap, ◌∙◌, subst, arith}
use Rattle.std.specs.Prelude.{None, Some, Result}
use Rattle.mh_design.specs.declared.design.Design.{Design}
use Rattle.mh_design.specs.Deltas.{Done, BrokenOff}
use Rattle.mh_sched.specs.declared.fault.SimFault.{SimFault}
use Rattle.mh_sched.specs.declared.answer.End.{End}
use Rattle.mh_sched.specs.Lines.{Line}
use Rattle.mh_sched.specs.Runs.{Moment, Close, AtRest, Stops, Fails, close_of, after_delta, Settles, rests, ran, ends, exceeds, Runs, quiet, reached, goes_on, stopped, failed, Row, row_of, at_time, next_time}
use Rattle.mh_sched.proofs.Evaluating.{FlowsOnce, none_some, true_false, delta_once}

module _ (once : FlowsOnce) (d : Design) where
  pub data Closed : Type 0 where
    Closes : Close → List Line → Moment → Closed

  -- The deltas of a time have one outcome.
  pub settles_once : (m : Moment) {c c' : Close} {ls ls' : List Line} {n n' : Moment} → Settles d m c ls n → Settles d m c' ls' n' → Closes c ls n ≡ Closes c' ls' n'
  settles_once m (rests w) (rests w') = refl
  settles_once m (rests w) (ran w' lt' s' a') = absurd (true_false (sym w' ∙ w))
  settles_once m (rests w) (ends w' lt' s') = absurd (true_false (sym w' ∙ w))
  settles_once m (rests w) (exceeds w' le') = absurd (true_false (sym w' ∙ w))
  settles_once m (ran w lt s a) (rests w') = absurd (true_false (sym w ∙ w'))
  settles_once m (ends w lt s) (rests w') = absurd (true_false (sym w ∙ w'))
  settles_once m (exceeds w le) (rests w') = absurd (true_false (sym w ∙ w'))
  settles_once m (ran w lt s a) (exceeds w' le') = absurd (omega (arith, lt, le'))
  settles_once m (ends w lt s) (exceeds w' le') = absurd (omega (arith, lt, le'))
  settles_once m (exceeds w le) (ran w' lt' s' a') = absurd (omega (arith, lt', le))
  settles_once m (exceeds w le) (ends w' lt' s') = absurd (omega (arith, lt', le))
  settles_once m (exceeds w le) (exceeds w' le') = refl
  settles_once m (ran {st = st} {own = own} w lt s a) (ran {n = n'} {st = st'} {c = c'} {own = own'} {more = more'} w' lt' s' a') =
      let same = delta_once once d m.state s s' in
      let el : own ≡ own' = cc in
      let es : st ≡ st' = cc in
      let b = subst (λ x. Settles d (after_delta m x) c' more' n') (sym es) a' in
      let rest = settles_once (after_delta m st) a b in
      cc
  settles_once m (ran w lt s a) (ends {k = k'} {e = e'} w' lt' s') =
      let same = delta_once once d m.state s s' in
      let eo : Done ≡ BrokenOff k' e' = cc in
      absurd cc
  settles_once m (ends {k = k} {e = e} w lt s) (ran w' lt' s' a') =
      let same = delta_once once d m.state s s' in
      let eo : BrokenOff k e ≡ Done = cc in
      absurd cc
  settles_once m (ends {own = own} {k = k} {e = e} w lt s) (ends {own = own'} {k = k'} {e = e'} w' lt' s') =
      let same = delta_once once d m.state s s' in
      let el : own ≡ own' = cc in
      let ee : BrokenOff k e ≡ BrokenOff k' e' = cc in
      let ef : e ≡ e' = cc in
      let ec : close_of m.state.time e ≡ close_of m.state.time e' = ap (close_of m.state.time) ef in
      cc

module _ (once : FlowsOnce) (d : Design) (limit : ℕ) where
  pub data Ran : Type 0 where
    Gives : Result End SimFault → List Line → List Row → Moment → Ran

  same_state : {n n' : Moment} {u u' : ℕ} → n ≡ n' → next_time n.state ≡ Some u → next_time n'.state ≡ Some u' → u ≡ u'
  same_state {u = u} {u' = u'} e x y =
      let w : Some u ≡ Some u' = sym x ∙ ap (λ i. next_time i.state) e ∙ y in
      cc

  no_state : {n n' : Moment} {u' : ℕ} → n ≡ n' → next_time n.state ≡ None → next_time n'.state ≡ Some u' → ⊥
  no_state {u' = u'} e x y = none_some u' (sym x ∙ ap (λ i. next_time i.state) e ∙ y)

  -- A run up to a time has one outcome.
  pub runs_once : (m : Moment) {r r' : Result End SimFault} {ls ls' : List Line} {rows rows' : List Row} {after after' : Moment} → Runs d limit m r ls rows after → Runs d limit m r' ls' rows' after' → Gives r ls rows after ≡ Gives r' ls' rows' after'
  runs_once m (quiet {n = n} {own = own} s x) (quiet {n = n'} {own = own'} s' x') =
      let same = settles_once once d m s s' in
      let en : n ≡ n' = cc in
      let eo : own ≡ own' = cc in
      let er : row_of m.state n.state ≡ row_of m.state n'.state = ap (λ i. row_of m.state i.state) en in
      let et : at_time limit n ≡ at_time limit n' = ap (at_time limit) en in
      cc
  runs_once m (quiet {n = n} {own = own} s x) (reached {n = n'} {own = own'} {u = u'} s' x' lt') =
      let same = settles_once once d m s s' in
      let en : n ≡ n' = cc in
      absurd (no_state en x x')
  runs_once m (quiet {n = n} {own = own} s x) (goes_on {n = n'} {after = after'} {own = own'} {more = more'} {rows = rows'} {u = u'} {r = r'} s' x' le' a') =
      let same = settles_once once d m s s' in
      let en : n ≡ n' = cc in
      absurd (no_state en x x')
  runs_once m (quiet {n = n} {own = own} s x) (stopped {n = n'} {own = own'} s') =
      let same = settles_once once d m s s' in
      let e : AtRest ≡ Stops = cc in
      absurd cc
  runs_once m (quiet {n = n} {own = own} s x) (failed {n = n'} {own = own'} {f = f'} s') =
      let same = settles_once once d m s s' in
      let e : AtRest ≡ Fails f' = cc in
      absurd cc
  runs_once m (reached {n = n} {own = own} {u = u} s x lt) (quiet {n = n'} {own = own'} s' x') =
      let same = settles_once once d m s s' in
      let en : n ≡ n' = cc in
      absurd (no_state (sym en) x' x)
  runs_once m (reached {n = n} {own = own} {u = u} s x lt) (reached {n = n'} {own = own'} {u = u'} s' x' lt') =
      let same = settles_once once d m s s' in
      let en : n ≡ n' = cc in
      let eo : own ≡ own' = cc in
      let er : row_of m.state n.state ≡ row_of m.state n'.state = ap (λ i. row_of m.state i.state) en in
      let et : at_time limit n ≡ at_time limit n' = ap (at_time limit) en in
      cc
  runs_once m (reached {n = n} {own = own} {u = u} s x lt) (goes_on {n = n'} {after = after'} {own = own'} {more = more'} {rows = rows'} {u = u'} {r = r'} s' x' le' a') =
      let same = settles_once once d m s s' in
      let en : n ≡ n' = cc in
      absurd (omega (arith, same_state en x x', lt, le'))
  runs_once m (reached {n = n} {own = own} {u = u} s x lt) (stopped {n = n'} {own = own'} s') =
      let same = settles_once once d m s s' in
      let e : AtRest ≡ Stops = cc in
      absurd cc
  runs_once m (reached {n = n} {own = own} {u = u} s x lt) (failed {n = n'} {own = own'} {f = f'} s') =
      let same = settles_once once d m s s' in
      let e : AtRest ≡ Fails f' = cc in
      absurd cc
  runs_once m (goes_on {n = n} {after = after} {own = own} {more = more} {rows = rows} {u = u} {r = r} s x le a) (quiet {n = n'} {own = own'} s' x') =
      let same = settles_once once d m s s' in
      let en : n ≡ n' = cc in
      absurd (no_state (sym en) x' x)
  runs_once m (goes_on {n = n} {after = after} {own = own} {more = more} {rows = rows} {u = u} {r = r} s x le a) (reached {n = n'} {own = own'} {u = u'} s' x' lt') =
      let same = settles_once once d m s s' in
      let en : n ≡ n' = cc in
      absurd (omega (arith, same_state en x x', le, lt'))
  runs_once m (goes_on {n = n} {after = after} {own = own} {more = more} {rows = rows} {u = u} {r = r} s x le a) (goes_on {n = n'} {after = after'} {own = own'} {more = more'} {rows = rows'} {u = u'} {r = r'} s' x' le' a') =
      let same = settles_once once d m s s' in
      let en : n ≡ n' = cc in
      let eo : own ≡ own' = cc in
      let er : row_of m.state n.state ≡ row_of m.state n'.state = ap (λ i. row_of m.state i.state) en in
      let eu : u ≡ u' = same_state en x x' in
      let em : at_time u n ≡ at_time u' n' = ap (λ i. at_time i n) eu ∙ ap (at_time u') en in
      let b = subst (λ i. Runs d limit i r' more' rows' after') (sym em) a' in
      let rest = runs_once (at_time u n) a b in
      cc
  runs_once m (goes_on {n = n} {after = after} {own = own} {more = more} {rows = rows} {u = u} {r = r} s x le a) (stopped {n = n'} {own = own'} s') =
      let same = settles_once once d m s s' in
      let e : AtRest ≡ Stops = cc in
      absurd cc
  runs_once m (goes_on {n = n} {after = after} {own = own} {more = more} {rows = rows} {u = u} {r = r} s x le a) (failed {n = n'} {own = own'} {f = f'} s') =
      let same = settles_once once d m s s' in
      let e : AtRest ≡ Fails f' = cc in
      absurd cc
  runs_once m (stopped {n = n} {own = own} s) (quiet {n = n'} {own = own'} s' x') =
      let same = settles_once once d m s s' in
      let e : Stops ≡ AtRest = cc in
      absurd cc
  runs_once m (stopped {n = n} {own = own} s) (reached {n = n'} {own = own'} {u = u'} s' x' lt') =
      let same = settles_once once d m s s' in
      let e : Stops ≡ AtRest = cc in
      absurd cc
  runs_once m (stopped {n = n} {own = own} s) (goes_on {n = n'} {after = after'} {own = own'} {more = more'} {rows = rows'} {u = u'} {r = r'} s' x' le' a') =
      let same = settles_once once d m s s' in
      let e : Stops ≡ AtRest = cc in
      absurd cc
  runs_once m (stopped {n = n} {own = own} s) (stopped {n = n'} {own = own'} s') =
      let same = settles_once once d m s s' in
      let en : n ≡ n' = cc in
      let eo : own ≡ own' = cc in
      let er : row_of m.state n.state ≡ row_of m.state n'.state = ap (λ i. row_of m.state i.state) en in
      cc
  runs_once m (stopped {n = n} {own = own} s) (failed {n = n'} {own = own'} {f = f'} s') =
      let same = settles_once once d m s s' in
      let e : Stops ≡ Fails f' = cc in
      absurd cc
  runs_once m (failed {n = n} {own = own} {f = f} s) (quiet {n = n'} {own = own'} s' x') =
      let same = settles_once once d m s s' in
      let e : Fails f ≡ AtRest = cc in
      absurd cc
  runs_once m (failed {n = n} {own = own} {f = f} s) (reached {n = n'} {own = own'} {u = u'} s' x' lt') =
      let same = settles_once once d m s s' in
      let e : Fails f ≡ AtRest = cc in
      absurd cc
  runs_once m (failed {n = n} {own = own} {f = f} s) (goes_on {n = n'} {after = after'} {own = own'} {more = more'} {rows = rows'} {u = u'} {r = r'} s' x' le' a') =
      let same = settles_once once d m s s' in
      let e : Fails f ≡ AtRest = cc in
      absurd cc
  runs_once m (failed {n = n} {own = own} {f = f} s) (stopped {n = n'} {own = own'} s') =
      let same = settles_once once d m s s' in
      let e : Fails f ≡ Stops = cc in
      absurd cc
  runs_once m (failed {n = n} {own = own} {f = f} s) (failed {n = n'} {own = own'} {f = f'} s') =
      let same = settles_once once d m s s' in
      let en : n ≡ n' = cc in
      let eo : own ≡ own' = cc in
      let er : row_of m.state n.state ≡ row_of m.state n'.state = ap (λ i. row_of m.state i.state) en in
      let ef : Fails f ≡ Fails f' = cc in
      let eg : f ≡ f' = cc in
      cc
