-- What is left of a generator, and its count of statements, as it goes on.
use Rattle.std.proofs.Common.{◌≡◌, ℕ, Bool, true, false, cond, [], ◌∷◌, length, ◌⊎◌, inl, inr, refl, sym, ap, ◌∙◌, subst}
use Rattle.std.specs.Prelude.{Result, Ok, Err}
use Rattle.mh_flow.specs.declared.resumed.Resumed.{Resumed}
use Rattle.mh_flow.specs.declared.resumed.Resumed.TheVariants as resumed
use Rattle.mh_flow.specs.Flow as flow
use Rattle.mh_design.specs.declared.design.Design.{Design}
use Rattle.mh_design.specs.declared.design.Generator.{Generator}
use Rattle.mh_design.specs.Tree.{Expression, LeftSide}
use Rattle.mh_design.specs.Values.{Store, Fault, value_of}
use Rattle.mh_design.specs.Assignments.{meaning, assigned, IsEven}
use Rattle.mh_design.specs.Deltas.{Left, Process, Flows, turn_limit}
use Rattle.mh_flat.specs.declared.code.State.{State}
use Rattle.mh_flat.specs.Fits.{FitsItems}
use Rattle.mh_flat.specs.Stands.{StandsFor, Resumes}
use Rattle.mh_sched.specs.declared.plan.Plan.{Plan}
use Rattle.mh_sched.specs.declared.process.Process.{Process as Kept}
use Rattle.mh_sched.specs.Calls.{interrupted}
use Rattle.mh_sched.specs.Kept.{IsStanding, own_store, CanGoOn, GoneOn}
use Rattle.mh_gen.specs.Laws.{Alike}
use Rattle.mh_gen.specs.Running.{RunsIn}
use Rattle.mh_sched.proofs.Frames.{IsFramed, flows_framed}

-- Where nothing is left, nothing is done.
reach_nil : {s : Store} {n : ℕ} {ys : Left} {t : Store} {m : ℕ} → flow.Reaches meaning turn_limit [] s n ys t m → (ys ≡ []) × (t ≡ s) × (m ≡ n)
reach_nil flow.here = (refl, refl, refl)
reach_nil (flow.onward {ys = ys} {zs = zs} {t = t} {u = u} {k = k} r e le) =
    let i = reach_nil r in
    let w : flow.rewriting meaning [] t ≡ flow.Proceeds k zs u = subst (λ xs. flow.rewriting meaning xs t ≡ flow.Proceeds k zs u) i.0 e in
    absurd cc

answer_nil : (a : Resumed Fault) (s : Store) (n : ℕ) (ys : Left) (t : Store) (m : ℕ) → flow.Answers meaning turn_limit a [] s n ys t m → (a ≡ resumed.Ended) × (ys ≡ []) × (t ≡ s) × (m ≡ n)
answer_nil (resumed.Waits k) s n ys t m h = let e = h.0 in absurd cc
answer_nil (resumed.Says k) s n ys t m h = let e = h.0 in absurd cc
answer_nil resumed.Stopped s n ys t m h = let e = h.0 in absurd cc
answer_nil resumed.Ended s n ys t m h = (refl, h.1.0, h.1.1, h.1.2)
answer_nil (resumed.CheckFailed at) s n ys t m h = let e = h.0 in absurd cc
answer_nil (resumed.Fault at f) s n ys t m h = let e = h.1 in absurd cc
answer_nil resumed.TurnLimit s n ys t m h = let e = h.0 in absurd cc

flows_nil : {s : Store} {n : ℕ} {a : Resumed Fault} {ys : Left} {t : Store} {m : ℕ} → Flows [] s n a ys t m → (a ≡ resumed.Ended) × (ys ≡ []) × (t ≡ s)
flows_nil {s} {n} {a} {ys} {t} {m} f =
    let r = reach_nil f.reached in
    let h = subst (λ xs. flow.Answers meaning turn_limit a xs f.store f.count ys t m) r.0 f.answered in
    let w = answer_nil a f.store f.count ys t m h in
    (w.0, w.1, w.2 ∙ r.1)

ended_nil : (s : Store) (n : ℕ) → Flows [] s n resumed.Ended [] s n
ended_nil s n =
    record { head = []; store = s; count = n; reached = flow.here; answered = (refl, (refl, refl, refl)) }

-- The evaluation with the count of the definition in the place of that of the code.
pub record Counted (xs : Left) (s : Store) (n : ℕ) (a : Resumed Fault) (ys : Left) (t : Store) (c : ℕ) : Type 0 where
  pub count : ℕ
  pub flows : Flows xs s n a ys t count
  pub counted : (ys ≡ []) ⊎ (c ≡ count)
  pub exact : (j : ℕ) → a ≡ resumed.Says j → c ≡ count

by_nil : {s : Store} {n k : ℕ} {a : Resumed Fault} {ys : Left} {t : Store} {m : ℕ} → Flows [] s k a ys t m → Counted [] s n a ys t m
by_nil {s} {n} {k} {a} {ys} {t} {m} f =
    let w = flows_nil f in
    record {
      count = n;
      flows = subst (λ u. Flows [] s n a ys u n) (sym w.2) (subst (λ zs. Flows [] s n a zs s n) (sym w.1) (subst (λ b. Flows [] s n b [] s n) (sym w.0) (ended_nil s n)));
      counted = inl w.1;
      exact = λ j h. let e = w.0 in absurd cc;
    }

pub recounted : {xs : Left} {s : Store} {n k : ℕ} {a : Resumed Fault} {ys : Left} {t : Store} {m : ℕ} → (xs ≡ []) ⊎ (k ≡ n) → Flows xs s k a ys t m → Counted xs s n a ys t m
recounted {xs} {s} {n} {k} {a} {ys} {t} {m} (inl e) f =
    subst (λ zs. Counted zs s n a ys t m) (sym e) (by_nil (subst (λ zs. Flows zs s k a ys t m) e f))
recounted {xs} {s} {n} {k} {a} {ys} {t} {m} (inr e) f =
    record { count = m; flows = subst (λ c. Flows xs s c a ys t m) e f; counted = inr refl; exact = λ j h. refl }

-- After a wait nothing is counted, and after the end nothing is left.
pub waits_zero : {xs : Left} {s : Store} {n j : ℕ} {ys : Left} {t : Store} {m : ℕ} → Flows xs s n (resumed.Waits j) ys t m → m ≡ 0
waits_zero f = f.answered.1

abbrev Outcome : Type 0
Outcome = flow.Outcome Expression LeftSide Store Fault

abbrev IsNoEnd : Outcome → Type 0
IsNoEnd (flow.Proceeds k xs t) = Unit {0}
IsNoEnd (flow.Halts k r xs t) = Unit {0}
IsNoEnd (flow.Fails k f) = Unit {0}
IsNoEnd flow.Ends = ⊥

no_end_value : {A : Type 0} (k : ℕ) (r : Result A Fault) (f : A → Outcome) → ((x : A) → IsNoEnd (f x)) → IsNoEnd (flow.with_value k r f)
no_end_value k (Ok x) f h = h x
no_end_value k (Err e) f h = tt

no_end_choice : (b : Bool) (x y : Outcome) → IsNoEnd x → IsNoEnd y → IsNoEnd (cond b x y)
no_end_choice true x y a b = a
no_end_choice false x y a b = b

no_end_statement : (k : ℕ) (x : flow.Statement Expression LeftSide) (rest : Left) (s : Store) → IsNoEnd (flow.statement_outcome meaning k x rest s)
no_end_statement k (flow.SetStatement p e) rest s =
    no_end_value k (value_of e s) _ (λ v. no_end_value k (assigned p v s) _ (λ t. tt))
no_end_statement k (flow.IfStatement e a b) rest s = no_end_value k (value_of e s) _ (λ v. tt)
no_end_statement k (flow.WhileStatement e b) rest s = no_end_value k (value_of e s) _ (λ v. tt)
no_end_statement k (flow.CountStatement p x y z b) rest s =
    no_end_value k (value_of x s) _ (λ v. no_end_value k (value_of y s) _ (λ w. no_end_value k (value_of z s) _ (λ u. tt)))
no_end_statement k (flow.WaitStatement w) rest s = tt
no_end_statement k (flow.SayStatement w) rest s = tt
no_end_statement k (flow.CheckStatement e) rest s =
    no_end_value k (value_of e s) _ (λ v. no_end_choice (meaning.is_true v) _ _ tt tt)
no_end_statement k flow.StopStatement rest s = tt
no_end_statement k flow.BreakStatement rest s = tt
no_end_statement k flow.ContinueStatement rest s = tt

only_nil_ends : (xs : Left) (s : Store) → flow.rewriting meaning xs s ≡ flow.Ends → xs ≡ []
only_nil_ends [] s e = refl
only_nil_ends (flow.Pending k x ∷ rest) s e = absurd (subst IsNoEnd e (no_end_statement k x rest s))
only_nil_ends (flow.BegunWhile k c b ∷ rest) s e =
    absurd (subst IsNoEnd e (no_end_value k (value_of c s) _ (λ v. tt)))
only_nil_ends (flow.BegunCount k p n z d b ∷ rest) s e =
    absurd (subst IsNoEnd e (no_end_choice (flow.is_before n z d) _ _ tt tt))

pub ended_left : {xs : Left} {s : Store} {n : ℕ} {ys : Left} {t : Store} {m : ℕ} → Flows xs s n resumed.Ended ys t m → ys ≡ []
ended_left f = f.answered.1.0 ∙ only_nil_ends f.head f.store f.answered.0

-- The stores in which a generator runs are alike, and stay such.
pub runs_alike : {d : Design} {g : Generator} {s t : Store} → RunsIn d g s → RunsIn d g t → Alike s t
runs_alike a b =
    record { design = b.design ∙ sym a.design; values = b.values ∙ sym a.values; locals = b.locals ∙ sym a.locals; even = λ e. b.even }

pub even_on : {s t : Store} → IsFramed s t → IsEven s.signals → IsEven t.signals
even_on {s} {t} f e = (ap length f.limits ∙ e.0 ∙ sym (ap length f.values), f.pending ∙ e.1 ∙ sym (ap length f.values))

pub runs_on : {d : Design} {g : Generator} {s t : Store} → IsFramed s t → RunsIn d g s → RunsIn d g t
runs_on f r =
    record { design = f.design ∙ r.design; values = ap length f.values ∙ r.values; locals = f.locals ∙ r.locals; even = even_on f r.even }

-- A generator has gone on: its code has resumed with its locals in the store, which are then given back.
pub gone_of : {d : Design} {g : Generator} {x : Process} {n : ℕ} {p : Plan} {a : Resumed Fault} (q : Kept) (before : Store) (self1 : Kept) (store1 : Store) (state2 : State) (store2 : Store) (self3 : Kept) (store3 : Store) → ((xs : Left) (s t : Store) → Alike s t → FitsItems meaning xs s → FitsItems meaning xs t) → IsStanding d g p q x n → RunsIn d g (own_store before x) → self1 ≡ record q { locals = before.locals } → store1 ≡ record before { locals = q.locals } → ((xs : Left) → StandsFor p.code.code xs self1.state → FitsItems meaning xs store1 → Resumes meaning turn_limit p.code.code xs self1.state store1 a state2 store2) → self3 ≡ record self1 { state = state2; locals = store2.locals } → store3 ≡ record store2 { locals = self1.locals } → GoneOn d g x n p before a self3 store3
gone_of {d} {g} {x} {n} {p} {a} q before self1 store1 state2 store2 self3 store3 alike st runs e1 e2 resumed e3 e4 =
    let state_is : self1.state ≡ q.state = ap (λ v. v.state) e1 in
    let store_is : store1 ≡ own_store before x = e2 ∙ ap (λ v. record before { locals = v }) st.locals in
    let r0 = resumed x.left (subst (λ v. StandsFor p.code.code x.left v) (sym state_is) st.left) (subst (λ v. FitsItems meaning x.left v) (sym store_is) (st.fits (own_store before x) runs)) in
    let r = subst (λ v. Resumes meaning turn_limit p.code.code x.left q.state v a state2 store2) store_is (subst (λ v. Resumes meaning turn_limit p.code.code x.left v store1 a state2 store2) state_is r0) in
    let c = recounted st.counted r.evaluated in
    let f = flows_framed c.flows in
    let after_runs = runs_on f runs in
    let stands : IsStanding d g p (record self1 { state = state2; locals = store2.locals }) (interrupted x r.rest store2) c.count = record {
      left = r.left;
      fits = λ s w. alike r.rest store2 s (runs_alike after_runs w) r.fits;
      locals = refl;
      number = after_runs.locals;
      since = ap (λ v. v.since) e1 ∙ st.since;
      counted = c.counted;
    } in
    record {
      left = r.rest;
      store = store2;
      count = c.count;
      flows = c.flows;
      stands = subst (λ v. IsStanding d g p v (interrupted x r.rest store2) c.count) (sym e3) stands;
      exact = λ j h. ap (λ v. v.state.count) e3 ∙ c.exact j h;
      after_is = e4 ∙ ap (λ v. record store2 { locals = v.locals }) e1;
    }

-- Its code may resume.
pub record Resumable (p : Plan) (state : State) (s : Store) : Type 0 where
  pub left : Left
  pub stands : StandsFor p.code.code left state
  pub fits : FitsItems meaning left s

pub resumable : {p : Plan} {q : Kept} {before : Store} (self1 : Kept) (store1 : Store) → CanGoOn p q before → self1 ≡ record q { locals = before.locals } → store1 ≡ record before { locals = q.locals } → Resumable p self1.state store1
resumable {p} {q} {before} self1 store1 w e1 e2 =
    let state_is : self1.state ≡ q.state = ap (λ v. v.state) e1 in
    let store_is : store1 ≡ own_store before w.state = e2 ∙ ap (λ v. record before { locals = v }) w.stands.locals in
    record {
      left = w.state.left;
      stands = subst (λ v. StandsFor p.code.code w.state.left v) (sym state_is) w.stands.left;
      fits = subst (λ v. FitsItems meaning w.state.left v) (sym store_is) (w.stands.fits (own_store before w.state) w.runs);
    }
