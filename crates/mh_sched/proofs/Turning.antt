-- A turn of a generator, by what its code has answered.
use Rattle.std.proofs.Common.{◌≡◌, ℕ, zero, suc, true, List, [], ◌∷◌, length, get_or, ◌⊎◌, inl, refl, sym, ap, ◌∙◌, subst}
use Rattle.std.specs.Prelude.{Some, slice_set}
use Rattle.std.proofs.lemmas.List.{length-set}
use Rattle.mh_design.specs.declared.design.Wait.{Wait}
use Rattle.mh_flow.specs.declared.resumed.Resumed.{Resumed}
use Rattle.mh_flow.specs.declared.resumed.Resumed.TheVariants as resumed
use Rattle.mh_design.specs.declared.design.Design.{Design}
use Rattle.mh_design.specs.declared.design.Generator.{Generator}
use Rattle.mh_design.specs.Values.{Waiter, Signals, Store, Fault}
use Rattle.mh_design.specs.Bodies.{waited}
use Rattle.mh_design.specs.Deltas.{Process, Flows, Ending, AtWait, AtEnd, ending_of, goes_on, store_of, nobody, waiter_at, waits_anew, waiting, waits_after}
use Rattle.mh_gen.specs.Running.{RunsIn}
use Rattle.mh_sched.specs.declared.fault.SimFault.{SimFault}
use Rattle.mh_sched.specs.declared.plan.Plan.{Plan}
use Rattle.mh_sched.specs.declared.process.Process.{Process as Kept}
use Rattle.mh_sched.specs.declared.process.Turn.TheVariants as turn
use Rattle.mh_sched.specs.Calls.{evaluated, interrupted}
use Rattle.mh_sched.specs.Kept.{own_store, GoneOn, IsSized, Turned}
use Rattle.mh_sched.specs.Runs.{Stops, Fails, close_of}
use Rattle.mh_sched.proofs.Frames.{IsFramed, flows_framed}
use Rattle.mh_sched.proofs.Going.{even_on, waits_zero, ended_left}

own_is : (d : Design) (s : Store) (x : Process) → s.design ≡ d → own_store s x ≡ store_of d s.time s.signals x
own_is d s x e = ap (λ v. record { design = v; signals = s.signals; locals = x.locals; time = s.time }) e

-- The store with its own locals again has changed in its signals alone.
store_is : (before u : Store) (s : Signals) → u.design ≡ before.design → u.time ≡ before.time → record { design = u.design; signals = s; locals = before.locals; time = u.time } ≡ record before { signals = s }
store_is before u s a b =
    ap (λ v. record { design = v; signals = s; locals = before.locals; time = u.time }) a ∙ ap (λ v. record { design = before.design; signals = s; locals = before.locals; time = v }) b

-- The sizes stay, also where a generator waits anew.
sized_on : {d : Design} {s t : Store} → IsFramed s t → IsSized d s.signals → IsSized d t.signals
sized_on {d} {s} {t} f w = record {
  values = ap length f.values ∙ w.values;
  even = even_on f w.even;
  waiters = ap length f.waiters ∙ w.waiters;
  rooms = λ k g e. ap (λ ws. (get_or ws k nobody).room) f.waiters ∙ w.rooms k g e;
}

room_set : (ws : List Waiter) (k j : ℕ) (v : Waiter) → v.room ≡ (get_or ws k nobody).room → (get_or (slice_set ws k v) j nobody).room ≡ (get_or ws j nobody).room
room_set [] k j v e = refl
room_set (w ∷ ws) zero zero v e = e
room_set (w ∷ ws) zero (suc j) v e = refl
room_set (w ∷ ws) (suc k) zero v e = refl
room_set (w ∷ ws) (suc k) (suc j) v e = room_set ws k j v e

sized_waiting : (d : Design) (s : Signals) (k : ℕ) (ws : List Wait) → IsSized d s → IsSized d (waiting s k ws)
sized_waiting d s k ws w = record {
  values = w.values;
  even = w.even;
  waiters = length-set s.waiters k _ ∙ w.waiters;
  rooms = λ j g e. room_set s.waiters k j (waits_anew ws (waiter_at s k)) refl ∙ w.rooms j g e;
}

module _ {d : Design} {g : Generator} {x : Process} {n : ℕ} {p : Plan} {before : Store} {a : Resumed Fault} {q : Kept} {after : Store} (gone : GoneOn d g x n p before a q after) (runs : RunsIn d g (own_store before x)) where
  frame : IsFramed (own_store before x) gone.store
  frame = flows_framed gone.flows

  flows_are : Flows x.left (store_of d before.time before.signals x) n a gone.left gone.store gone.count
  flows_are =
      subst (λ s. Flows x.left s n a gone.left gone.store gone.count) (own_is d before x runs.design) gone.flows

  after_time : after.time ≡ before.time
  after_time = ap (λ s. s.time) gone.after_is ∙ frame.time

  after_signals : after.signals ≡ gone.store.signals
  after_signals = ap (λ s. s.signals) gone.after_is

  pub gone_waiters : after.signals.waiters ≡ before.signals.waiters
  gone_waiters = ap (λ s. s.waiters) after_signals ∙ frame.waiters

  same_but : (s : Signals) → record after { signals = s } ≡ record before { signals = s }
  same_but s = ap {A = Store} (λ v. record v { signals = s }) gone.after_is ∙ store_is before gone.store s frame.design frame.time

  unmoved : after ≡ record before { signals = after.signals }
  unmoved = same_but after.signals

  sized : IsSized d before.signals → IsSized d after.signals
  sized w = subst (IsSized d) (sym after_signals) (sized_on frame w)

  pub rests : (e : Ending) (k : ℕ) → ending_of d g gone.left a ≡ Some e → goes_on e ≡ true → (gone.left ≡ []) ⊎ (q.state.count ≡ 0) → Turned d before.time n k g x p before turn.Rests (record q { since = after.time }) (record after { signals = waiting after.signals k (waits_after d g e) })
  rests e k ends on none = record {
    state = evaluated before.time gone.left gone.store;
    count = 0;
    turns = (
      record {
        left = gone.left;
        store = gone.store;
        count = gone.count;
        answer = a;
        ending = e;
        flows = flows_are;
        ends = ends;
        on = on;
        state = refl;
        signals = ap (λ s. waiting s k (waits_after d g e)) after_signals;
      },
      refl,
    );
    stands = record {
      left = gone.stands.left;
      fits = gone.stands.fits;
      locals = gone.stands.locals;
      number = gone.stands.number;
      since = after_time;
      counted = none;
    };
    exact = tt;
    sized = λ w. sized_waiting d after.signals k (waits_after d g e) (sized w);
    after_is = same_but (waiting after.signals k (waits_after d g e));
  }

  pub says : (j k : ℕ) → a ≡ resumed.Says j → Turned d before.time n k g x p before (turn.Says j) q after
  says j k e = record {
    state = interrupted x gone.left gone.store;
    count = gone.count;
    turns = record {
      left = gone.left;
      store = gone.store;
      flows = subst (λ b. Flows x.left (store_of d before.time before.signals x) n b gone.left gone.store gone.count) e flows_are;
      state = refl;
      signals = after_signals;
    };
    stands = gone.stands;
    exact = gone.exact j e;
    sized = sized;
    after_is = unmoved;
  }

  pub stops : (e : Ending) (k : ℕ) → ending_of d g gone.left a ≡ Some e → close_of before.time e ≡ Stops → Turned d before.time n k g x p before turn.Stops q after
  stops e k ends close = record {
    state = interrupted x gone.left gone.store;
    count = gone.count;
    turns = record {
      left = gone.left;
      store = gone.store;
      count = gone.count;
      answer = a;
      ending = e;
      flows = flows_are;
      ends = ends;
      close = close;
      state = refl;
      signals = after_signals;
    };
    stands = gone.stands;
    exact = tt;
    sized = sized;
    after_is = unmoved;
  }

  pub fails : (e : Ending) (k : ℕ) (f : SimFault) → ending_of d g gone.left a ≡ Some e → close_of before.time e ≡ Fails f → Turned d before.time n k g x p before (turn.Fails f) q after
  fails e k f ends close = record {
    state = interrupted x gone.left gone.store;
    count = gone.count;
    turns = record {
      left = gone.left;
      store = gone.store;
      count = gone.count;
      answer = a;
      ending = e;
      flows = flows_are;
      ends = ends;
      close = close;
      state = refl;
      signals = after_signals;
    };
    stands = gone.stands;
    exact = tt;
    sized = sized;
    after_is = unmoved;
  }

  -- a wait and the end, as the code does them
  pub turned_wait : (j k : ℕ) (ws : List Wait) (q' : Kept) (after' : Store) → a ≡ resumed.Waits j → ws ≡ waited d g j → q' ≡ record q { since = after.time } → after' ≡ record after { signals = waiting after.signals k ws } → Turned d before.time n k g x p before turn.Rests q' after'
  turned_wait j k ws q' after' e w eq ea =
      let zero = waits_zero (subst (λ b. Flows x.left (own_store before x) n b gone.left gone.store gone.count) e gone.flows) in
      let none = subst (λ m. (gone.left ≡ []) ⊎ (q.state.count ≡ m)) zero gone.stands.counted in
      let t = rests (AtWait j) k (ap (ending_of d g gone.left) e) refl none in
      subst (λ v. Turned d before.time n k g x p before turn.Rests v after') (sym eq) (subst (λ v. Turned d before.time n k g x p before turn.Rests (record q { since = after.time }) v) (sym (ea ∙ ap (λ v. record after { signals = waiting after.signals k v }) w)) t)

  pub turned_end : (k : ℕ) (ws : List Wait) (q' : Kept) (after' : Store) → a ≡ resumed.Ended → ws ≡ [] → q' ≡ record q { since = after.time } → after' ≡ record after { signals = waiting after.signals k ws } → Turned d before.time n k g x p before turn.Rests q' after'
  turned_end k ws q' after' e w eq ea =
      let none = inl (ended_left (subst (λ b. Flows x.left (own_store before x) n b gone.left gone.store gone.count) e gone.flows)) in
      let t = rests AtEnd k (ap (ending_of d g gone.left) e) refl none in
      subst (λ v. Turned d before.time n k g x p before turn.Rests v after') (sym eq) (subst (λ v. Turned d before.time n k g x p before turn.Rests (record q { since = after.time }) v) (sym (ea ∙ ap (λ v. record after { signals = waiting after.signals k v }) w)) t)

  pub time_after : after.time ≡ before.time
  time_after = after_time
