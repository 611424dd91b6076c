-- What is kept of a run after a turn of one generator.
use Rattle.std.proofs.Common.{◌≡◌, ℕ, zero, suc, map, get_or, ◌<◌, ◌≤◌, Bool, true, false, ◌==◌, List, [], ◌∷◌, length, refl, sym, ap, ◌∙◌, subst, arith}
use Rattle.std.specs.Prelude.{ℤ, Some, slice_get, slice_set, if◌then◌else◌}
use Rattle.std.proofs.lemmas.Bool.{eqb-true, eqb-false, eq-eqb}
use Rattle.std.proofs.lemmas.List.{length-set, length-map}
use Rattle.mh_design.specs.declared.design.Design.{Design}
use Rattle.mh_design.specs.declared.design.Generator.{Generator}
use Rattle.mh_design.specs.Values.{Signals, Store, Waiter}
use Rattle.mh_design.specs.Bodies.{waited, waits_room}
use Rattle.mh_design.specs.Deltas.{Process, waiter_at, nobody, woken_by, updated}
use Rattle.mh_design.specs.WellFormed.{is_well_formed}
use Rattle.mh_gen.specs.Running.{RunsIn}
use Rattle.mh_sched.specs.declared.plan.Plan.{Plan}
use Rattle.mh_sched.specs.declared.process.Process.{Process as Kept}
use Rattle.mh_sched.specs.declared.process.Turn.{Turn}
use Rattle.mh_sched.specs.declared.run.Run.{Run}
use Rattle.mh_sched.specs.Kept.{IsPlan, IsStanding, own_store, CanGoOn, HasRoom, IsSized, no_counts, count_at, AllStand, IsRun, IsSomeRun, TurnsTo, IsExact, Turned, RunTurned, design_of}
use Rattle.mh_sched.proofs.Slices.{get_below, get_read, same_some, get_set, get_set_other}

-- What stands of one generator, by the lists in which it stands.
pub record Here (d : Design) (r : Run) (xs : List Process) (counts : ℕ → ℕ) (k : ℕ) : Type 0 where
  pub generator : Generator
  pub plan : Plan
  pub kept : Kept
  pub state : Process
  pub generator_at : slice_get d.generators k ≡ Some generator
  pub plan_at : slice_get r.plans.items k ≡ Some plan
  pub kept_at : slice_get r.processes.items k ≡ Some kept
  pub state_at : slice_get xs k ≡ Some state
  pub is_plan : IsPlan d generator plan
  pub stands : IsStanding d generator plan kept state (counts k)

pub here : {r : Run} {time : ℕ} {s : Signals} {xs : List Process} {counts : ℕ → ℕ} (k : ℕ) → IsRun r time s xs counts → k < r.count → Here r.store.design r xs counts k
here {r} {time} {s} {xs} {counts} k w h =
    let c = w.count in
    let a = get_below r.store.design.generators k (omega (arith, h, c)) in
    let pl = w.plans in
    let b = get_below r.plans.items k (omega (arith, h, c, pl)) in
    let ke = w.kept in
    let e = get_below r.processes.items k (omega (arith, h, c, ke)) in
    let st = w.processes in
    let f = get_below xs k (omega (arith, h, c, st)) in
    let g = w.all k a.0 b.0 e.0 f.0 a.1 b.1 e.1 f.1 in
    record {
      generator = a.0;
      plan = b.0;
      kept = e.0;
      state = f.0;
      generator_at = a.1;
      plan_at = b.1;
      kept_at = e.1;
      state_at = f.1;
      is_plan = g.0;
      stands = g.1;
    }

-- A generator of a run runs in the store with its locals.
pub runs_in : {r : Run} {time : ℕ} {s : Signals} {xs : List Process} {counts : ℕ → ℕ} → IsRun r time s xs counts → (g : Generator) (p : Plan) (q : Kept) (x : Process) (n : ℕ) → IsStanding r.store.design g p q x n → RunsIn r.store.design g (own_store r.store x)
runs_in {r} {time} {s} {xs} w g p q x n st =
    let z = w.sized in
    record {
      design = refl;
      values = ap (λ t. length t.values) w.signals ∙ z.values;
      locals = st.number;
      even = (ap (λ t. length t.limits) w.signals ∙ z.even.0 ∙ sym (ap (λ t. length t.values) w.signals), ap (λ t. length t.pending) w.signals ∙ z.even.1 ∙ sym (ap (λ t. length t.values) w.signals));
    }

pub can_go_on : {r : Run} (k : ℕ) → IsSomeRun r → k < r.count → (p : Plan) (q : Kept) → slice_get r.plans.items k ≡ Some p → slice_get r.processes.items k ≡ Some q → CanGoOn p q r.store
can_go_on {r} k w h p q ep eq =
    let o = here k w.run h in
    let a = w.run.all k o.generator p q o.state o.generator_at ep eq o.state_at in
    record {
      design = r.store.design;
      generator = o.generator;
      state = o.state;
      count = w.counts k;
      stands = a.1;
      runs = runs_in w.run o.generator p q o.state (w.counts k) a.1;
    }

count_here : (k n : ℕ) → count_at k n k ≡ n
count_here k n = ap (λ b. if b then n else 0) (eq-eqb k k refl)

count_other : (k n j : ℕ) → (j == k) ≡ false → count_at k n j ≡ 0
count_other k n j e = ap (λ b. if b then n else 0) e

all_set : (d : Design) (ps : List Plan) (qs : List Kept) (xs : List Process) (k n m : ℕ) (g : Generator) (p : Plan) (q : Kept) (y : Process) → k < length qs → k < length xs → slice_get d.generators k ≡ Some g → slice_get ps k ≡ Some p → IsPlan d g p → IsStanding d g p q y m → AllStand d ps qs xs (count_at k n) → AllStand d ps (slice_set qs k q) (slice_set xs k y) (count_at k m)
all_set d ps qs xs k n m g p q y hq hx eg ep ip st all j h v u z eh ev eu ez = by_test (j == k) refl where
  by_test : (b : Bool) → (j == k) ≡ b → IsPlan d h v × IsStanding d h v u z (count_at k m j)
  by_test true e =
      let i = eqb-true j k e in
      let g_is = same_some (slice_get d.generators k) g h eg (subst (λ l. slice_get d.generators l ≡ Some h) i eh) in
      let p_is = same_some (slice_get ps k) p v ep (subst (λ l. slice_get ps l ≡ Some v) i ev) in
      let q_is = same_some (slice_get (slice_set qs k q) k) q u (get_set qs k q hq) (subst (λ l. slice_get (slice_set qs k q) l ≡ Some u) i eu) in
      let x_is = same_some (slice_get (slice_set xs k y) k) y z (get_set xs k y hx) (subst (λ l. slice_get (slice_set xs k y) l ≡ Some z) i ez) in
      let c_is : m ≡ count_at k m j = sym (count_here k m) ∙ ap (count_at k m) (sym i) in
      let a = subst (λ w. IsPlan d w v) g_is (subst (λ w. IsPlan d g w) p_is ip) in
      let b = subst (λ w. IsStanding d w v u z (count_at k m j)) g_is (subst (λ w. IsStanding d g w u z (count_at k m j)) p_is (subst (λ w. IsStanding d g p w z (count_at k m j)) q_is (subst (λ w. IsStanding d g p q w (count_at k m j)) x_is (subst (λ w. IsStanding d g p q y w) c_is st)))) in
      (a, b)
  by_test false e =
      let ne = eqb-false j k e in
      let w = all j h v u z eh ev (sym (get_set_other qs k j q ne) ∙ eu) (sym (get_set_other xs k j y ne) ∙ ez) in
      (w.0, subst (λ c. IsStanding d h v u z c) (count_other k n j e ∙ sym (count_other k m j e)) w.1)

-- The state of a run after a turn of the generator with number k.
pub run_turned : (r : Run) (items : List Kept) (q : Kept) (after : Store) (new : Run) {time : ℕ} {s : Signals} {xs : List Process} {n k : ℕ} {g : Generator} {x : Process} {p : Plan} {t : Turn} → IsRun r time s xs (count_at k n) → k < r.count → slice_get r.store.design.generators k ≡ Some g → slice_get r.plans.items k ≡ Some p → IsPlan r.store.design g p → Turned r.store.design r.store.time n k g x p r.store t q after → new.store ≡ after → new.plans.items ≡ r.plans.items → new.processes.items ≡ slice_set r.processes.items k q → new.count ≡ r.count → RunTurned (design_of r) time n k g x s xs t new
run_turned r items q after new {time} {s} {xs} {n} {k} {g} {x} {p} {t} w h eg ep ip turned es epl epr ec =
    let d = r.store.design in
    let design : new.store.design ≡ d = ap (λ v. v.design) (es ∙ turned.after_is) in
    let signals : new.store.signals ≡ after.signals = ap (λ v. v.signals) es in
    let c = w.count in
    let ke = w.kept in
    let st = w.processes in
    let hq : k < length r.processes.items = omega (arith, h, c, ke) in
    let hx : k < length xs = omega (arith, h, c, st) in
    let sz = turned.sized (subst (λ v. IsSized d v) (sym w.signals) w.sized) in
    let all = all_set d r.plans.items r.processes.items xs k n turned.count g p q turned.state hq hx eg ep ip turned.stands w.all in
    record {
      state = turned.state;
      count = turned.count;
      signals = after.signals;
      turns = subst (λ v. TurnsTo d v n k g x s t turned.count turned.state after.signals) w.time_is (subst (λ v. TurnsTo d r.store.time n k g x v t turned.count turned.state after.signals) w.signals turned.turns);
      run = record {
        formed = subst (λ v. is_well_formed v ≡ true) (sym design) w.formed;
        signals = signals;
        time_is = ap (λ v. v.time) (es ∙ turned.after_is) ∙ w.time_is;
        sized = subst (λ v. IsSized v after.signals) (sym design) sz;
        count = ec ∙ c ∙ ap (λ v. length v.generators) (sym design);
        plans = ap length epl ∙ w.plans ∙ ap (λ v. length v.generators) (sym design);
        kept = ap length epr ∙ length-set r.processes.items k q ∙ w.kept ∙ ap (λ v. length v.generators) (sym design);
        processes = length-set xs k turned.state ∙ w.processes ∙ ap (λ v. length v.generators) (sym design);
        all = subst (λ v. AllStand v new.plans.items new.processes.items (slice_set xs k turned.state) (count_at k turned.count)) (sym design) (subst (λ v. AllStand d v new.processes.items (slice_set xs k turned.state) (count_at k turned.count)) (sym epl) (subst (λ v. AllStand d r.plans.items v (slice_set xs k turned.state) (count_at k turned.count)) (sym epr) all));
      };
      exact = λ v ev. subst (λ z. IsExact t z turned.count) (same_some (slice_get (slice_set r.processes.items k q) k) q v (get_set r.processes.items k q hq) (subst (λ z. slice_get z k ≡ Some v) epr ev)) turned.exact;
      design = design;
    }

-- The same counts.
pub recount : {r : Run} {time : ℕ} {s : Signals} {xs : List Process} {one two : ℕ → ℕ} → ((k : ℕ) → one k ≡ two k) → IsRun r time s xs one → IsRun r time s xs two
recount {r} {time} {s} {xs} {one} {two} same w = record {
  formed = w.formed;
  signals = w.signals;
  time_is = w.time_is;
  sized = w.sized;
  count = w.count;
  plans = w.plans;
  kept = w.kept;
  processes = w.processes;
  all = λ k g p q x eg ep eq ex. let a = w.all k g p q x eg ep eq ex in (a.0, subst (λ n. IsStanding r.store.design g p q x n) (same k) a.1);
}

none_at : (k j : ℕ) → no_counts j ≡ count_at k 0 j
none_at k j = by_test (j == k) where
  by_test : (b : Bool) → ◌≡◌ {A = ℕ} 0 (if b then 0 else 0)
  by_test true = refl
  by_test false = refl

pub none_here : {r : Run} {time : ℕ} {s : Signals} {xs : List Process} (k : ℕ) → IsRun r time s xs no_counts → IsRun r time s xs (count_at k 0)
none_here k w = recount (none_at k) w

pub here_none : {r : Run} {time : ℕ} {s : Signals} {xs : List Process} (k m : ℕ) → m ≡ 0 → IsRun r time s xs (count_at k m) → IsRun r time s xs no_counts
here_none {r} {time} {s} {xs} k m e w =
    recount (λ j. sym (none_at k j)) (subst (λ n. IsRun r time s xs (count_at k n)) e w)

-- What a turn needs, and what it has done.
pub waiter_there : {r : Run} (k : ℕ) → IsSomeRun r → k < r.count → k < length r.store.signals.waiters
waiter_there {r} k w h =
    let a = ap (λ s. length s.waiters) w.run.signals in
    let b = w.run.sized.waiters in
    let c = w.run.count in
    omega (arith, a, b, c, h)

pub has_room : {r : Run} (k : ℕ) → IsSomeRun r → k < r.count → ((d : Design) (g : Generator) (n : ℕ) → length (waited d g n) ≤ waits_room d g g.kind) → (p : Plan) → slice_get r.plans.items k ≡ Some p → HasRoom p (waiter_at r.store.signals k).room
has_room {r} k w h rooms p ep =
    let o = here k w.run h in
    let a = w.run.all k o.generator p o.kept o.state o.generator_at ep o.kept_at o.state_at in
    let e : (waiter_at r.store.signals k).room ≡ waits_room r.store.design o.generator o.generator.kind = ap (λ s. (waiter_at s k).room) w.run.signals ∙ w.run.sized.rooms k o.generator o.generator_at in
    record {
      design = r.store.design;
      generator = o.generator;
      is_plan = a.0;
      fits = λ n. let l = rooms r.store.design o.generator n in omega (arith, e, l);
    }

pub turned_of : {r : Run} (k : ℕ) (p : Plan) (q new_kept : Kept) (after : Store) (new : Run) (t : Turn) → slice_get r.plans.items k ≡ Some p → slice_get r.processes.items k ≡ Some q → k < r.count → ((d : Design) (g : Generator) (x : Process) (n : ℕ) → IsPlan d g p → IsStanding d g p q x n → RunsIn d g (own_store r.store x) → Turned d r.store.time n k g x p r.store t new_kept after) → new.store ≡ after → new.plans.items ≡ r.plans.items → new.processes.items ≡ slice_set r.processes.items k new_kept → new.count ≡ r.count → (time : ℕ) (s : Signals) (xs : List Process) (n : ℕ) (g : Generator) (x : Process) → IsRun r time s xs (count_at k n) → slice_get (design_of r).generators k ≡ Some g → slice_get xs k ≡ Some x → RunTurned (design_of r) time n k g x s xs t new
turned_of {r} k p q new_kept after new t ep eq h f es epl epr ec time s xs n g x w eg ex =
    let a = w.all k g p q x eg ep eq ex in
    let st = subst (λ c. IsStanding r.store.design g p q x c) (count_here k n) a.1 in
    run_turned r r.processes.items new_kept after new w h eg ep a.0 (f r.store.design g x n a.0 st (runs_in w g p q x n st)) es epl epr ec

pub plan_at : {r : Run} (k : ℕ) → IsSomeRun r → k < r.count → (p : Plan) → p ≡ get_or r.plans.items k p → slice_get r.plans.items k ≡ Some p
plan_at {r} k w h p e =
    let a = w.run.plans in
    let b = w.run.count in
    get_read r.plans.items k p (omega (arith, a, b, h)) e

pub kept_at : {r : Run} (k : ℕ) → IsSomeRun r → k < r.count → (q : Kept) → q ≡ get_or r.processes.items k q → slice_get r.processes.items k ≡ Some q
kept_at {r} k w h q e =
    let a = w.run.kept in
    let b = w.run.count in
    get_read r.processes.items k q (omega (arith, a, b, h)) e

-- What is kept of a run at another time, and after a delta.
pub timed_run : {r : Run} {before : ℕ} {s : Signals} {xs : List Process} {counts : ℕ → ℕ} (t : ℕ) (store : Store) → store ≡ record r.store { time = t } → IsRun r before s xs counts → IsRun (record r { store = store }) t s xs counts × (design_of (record r { store = store }) ≡ design_of r)
timed_run {r} {before} {s} {xs} {counts} t store e w =
    subst (λ v. IsRun (record r { store = v }) t s xs counts × (design_of (record r { store = v }) ≡ design_of r)) (sym e) (
      record {
        formed = w.formed;
        signals = w.signals;
        time_is = refl;
        sized = w.sized;
        count = w.count;
        plans = w.plans;
        kept = w.kept;
        processes = w.processes;
        all = w.all;
      },
      refl,
    )

room_map : (old new : List ℤ) (ws : List Waiter) (k : ℕ) → (get_or (map (woken_by old new) ws) k nobody).room ≡ (get_or ws k nobody).room
room_map old new [] k = refl
room_map old new (w ∷ ws) zero = refl
room_map old new (w ∷ ws) (suc k) = room_map old new ws k

sized_updated : (d : Design) (s : Signals) → IsSized d s → IsSized d (updated s)
sized_updated d s w = record {
  values = w.even.1 ∙ w.values;
  even = (w.even.0 ∙ sym w.even.1, refl);
  waiters = length-map s.waiters (woken_by s.values s.pending) ∙ w.waiters;
  rooms = λ k g e. room_map s.values s.pending s.waiters k ∙ w.rooms k g e;
}

pub updated_run : {r : Run} {time : ℕ} {s : Signals} {xs : List Process} {counts : ℕ → ℕ} (store : Store) → store ≡ record r.store { signals = updated r.store.signals } → IsRun r time s xs counts → IsRun (record r { store = store }) time (updated s) xs counts × (design_of (record r { store = store }) ≡ design_of r)
updated_run {r} {time} {s} {xs} {counts} store e w =
    subst (λ v. IsRun (record r { store = v }) time (updated s) xs counts × (design_of (record r { store = v }) ≡ design_of r)) (sym e) (
      record {
        formed = w.formed;
        signals = ap updated w.signals;
        time_is = w.time_is;
        sized = sized_updated r.store.design s w.sized;
        count = w.count;
        plans = w.plans;
        kept = w.kept;
        processes = w.processes;
        all = w.all;
      },
      refl,
    )
