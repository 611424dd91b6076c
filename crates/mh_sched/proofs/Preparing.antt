-- A run before its start.
use Rattle.std.proofs.Common.{◌≡◌, ℕ, zero, suc, ◌+◌, ◌<◌, Bool, true, false, ◌==◌, List, [], ◌∷◌, ◌++◌, map, length, refl, sym, ap, ◌∙◌, subst, arith}
use Rattle.std.specs.Prelude.{Some, slice_get}
use Rattle.std.specs.Option.{option_map}
use Rattle.std.proofs.lemmas.List.{length-map, length_push}
use Rattle.std.proofs.lemmas.Bool.{eqb-true, eqb-false}
use Rattle.std.proofs.lemmas.Option.{get_or_from_slice_get}
use Rattle.mh_design.specs.declared.design.Design.{Design}
use Rattle.mh_design.specs.declared.design.Generator.{Generator}
use Rattle.mh_design.specs.Deltas.{first_signals, first_process, first_waiter, nobody}
use Rattle.mh_design.specs.WellFormed.{is_well_formed}
use Rattle.mh_sched.specs.declared.plan.Plan.{Plan}
use Rattle.mh_sched.specs.declared.process.Process.{Process as Kept}
use Rattle.mh_sched.specs.declared.run.Run.{Run}
use Rattle.mh_sched.specs.Kept.{IsPlan, IsStanding, IsSized, no_counts, AllStand, IsRun}
use Rattle.mh_sched.proofs.Slices.{some_below, same_some, get_map}

-- The generators below number n are prepared.
pub record Prepared (d : Design) (ps : List Plan) (qs : List Kept) (n : ℕ) : Type 0 where
  pub plans : length ps ≡ n
  pub kept : length qs ≡ n
  pub all : (k : ℕ) (g : Generator) (p : Plan) (q : Kept) → slice_get d.generators k ≡ Some g → slice_get ps k ≡ Some p → slice_get qs k ≡ Some q → IsPlan d g p × IsStanding d g p q (first_process d g) 0

pub none_prepared : (d : Design) → Prepared d [] [] 0
none_prepared d = record { plans = refl; kept = refl; all = λ k g p q eg ep eq. absurd cc }

pub none_at_start : (d : Design) (ps : List Plan) (qs : List Kept) → ps ≡ [] → qs ≡ [] → Prepared d ps qs 0
none_at_start d ps qs a b =
    subst (λ v. Prepared d v qs 0) (sym a) (subst (λ v. Prepared d [] v 0) (sym b) (none_prepared d))

get_push : {X : Type 0} (xs : List X) (y : X) → slice_get (xs ++ y ∷ []) (length xs) ≡ Some y
get_push [] y = refl
get_push (x ∷ xs) y = get_push xs y

get_front : {X : Type 0} (xs : List X) (y : X) (k : ℕ) → k < length xs → slice_get (xs ++ y ∷ []) k ≡ slice_get xs k
get_front [] y k h = absurd (omega (arith, h))
get_front (x ∷ xs) y zero h = refl
get_front (x ∷ xs) y (suc k) h = get_front xs y k (omega (arith, h))

less : (k n m : ℕ) → (k ≡ n → ⊥) → m ≡ n → k < m + 1 → k < m
less k n m ne e h = by_test (k == m) refl where
  by_test : (b : Bool) → (k == m) ≡ b → k < m
  by_test true i = absurd (ne (eqb-true k m i ∙ e))
  by_test false i = let z = eqb-false k m i in omega (arith, h, z)

pub more_prepared : {d : Design} {ps : List Plan} {qs : List Kept} {n : ℕ} (p : Plan) (q : Kept) → Prepared d ps qs n → ((g : Generator) → slice_get d.generators n ≡ Some g → IsPlan d g p × IsStanding d g p q (first_process d g) 0) → Prepared d (ps ++ p ∷ []) (qs ++ q ∷ []) (n + 1)
more_prepared {d} {ps} {qs} {n} p q w f = record {
  plans = length_push ps p ∙ ap (λ k. k + 1) w.plans;
  kept = length_push qs q ∙ ap (λ k. k + 1) w.kept;
  all = λ k g u v eg eu ev. by_place k g u v eg eu ev (k == n) refl;
} where
  by_place : (k : ℕ) (g : Generator) (u : Plan) (v : Kept) → slice_get d.generators k ≡ Some g → slice_get (ps ++ p ∷ []) k ≡ Some u → slice_get (qs ++ q ∷ []) k ≡ Some v → (b : Bool) → (k == n) ≡ b → IsPlan d g u × IsStanding d g u v (first_process d g) 0
  by_place k g u v eg eu ev true e =
      let i = eqb-true k n e in
      let a = f g (subst (λ l. slice_get d.generators l ≡ Some g) i eg) in
      let pu = same_some (slice_get (ps ++ p ∷ []) (length ps)) p u (get_push ps p) (subst (λ l. slice_get (ps ++ p ∷ []) l ≡ Some u) (i ∙ sym w.plans) eu) in
      let qv = same_some (slice_get (qs ++ q ∷ []) (length qs)) q v (get_push qs q) (subst (λ l. slice_get (qs ++ q ∷ []) l ≡ Some v) (i ∙ sym w.kept) ev) in
      (subst (λ x. IsPlan d g x) pu a.0, subst (λ x. IsStanding d g x v (first_process d g) 0) pu (subst (λ y. IsStanding d g p y (first_process d g) 0) qv a.1))
  by_place k g u v eg eu ev false e =
      let below = some_below (ps ++ p ∷ []) k u eu in
      let l = length_push ps p in
      let ne = eqb-false k n e in
      let pl = w.plans in
      let ke = w.kept in
      let h : k < length ps = less k n (length ps) ne pl (omega (arith, below, l)) in
      w.all k g u v eg (sym (get_front ps p k h) ∙ eu) (sym (get_front qs q k (omega (arith, h, pl, ke))) ∙ ev)

pub prepared_on : {d : Design} {ps more : List Plan} {qs others : List Kept} {n : ℕ} (p : Plan) (q : Kept) → Prepared d ps qs n → more ≡ ps ++ p ∷ [] → others ≡ qs ++ q ∷ [] → ((g : Generator) → slice_get d.generators n ≡ Some g → IsPlan d g p) → ((g : Generator) → slice_get d.generators n ≡ Some g → IsStanding d g p q (first_process d g) 0) → Prepared d more others (n + 1)
prepared_on {d} {ps} {more} {qs} {others} {n} p q w a b f h =
    subst (λ v. Prepared d v others (n + 1)) (sym a) (subst (λ v. Prepared d (ps ++ p ∷ []) v (n + 1)) (sym b) (more_prepared p q w (λ g e. (f g e, h g e))))

first_sized : (d : Design) → IsSized d (first_signals d)
first_sized d = record {
  values = length-map d.signals _;
  even = (length-map d.signals _ ∙ sym (length-map d.signals _), length-map d.signals _ ∙ sym (length-map d.signals _));
  waiters = length-map d.generators _;
  rooms = λ k g e. ap (λ w. w.room) (get_or_from_slice_get (map (first_waiter d) d.generators) k (first_waiter d g) nobody (get_map (first_waiter d) d.generators k ∙ ap (option_map (first_waiter d)) e));
}

pub first_run : (d : Design) (r : Run) → is_well_formed d ≡ true → Prepared d r.plans.items r.processes.items (length d.generators) → r.store.design ≡ d → r.store.signals ≡ first_signals d → r.store.time ≡ 0 → r.count ≡ length d.generators → IsRun r 0 (first_signals d) (map (first_process d) d.generators) no_counts
first_run d r formed w de si ti co = record {
  formed = subst (λ v. is_well_formed v ≡ true) (sym de) formed;
  signals = si;
  time_is = ti;
  sized = subst (λ v. IsSized v (first_signals d)) (sym de) (first_sized d);
  count = co ∙ size;
  plans = w.plans ∙ size;
  kept = w.kept ∙ size;
  processes = length-map d.generators (first_process d) ∙ size;
  all = subst (λ v. AllStand v r.plans.items r.processes.items (map (first_process d) d.generators) no_counts) (sym de) all;
} where
  size : length d.generators ≡ length r.store.design.generators
  size = ap (λ v. length v.generators) (sym de)

  all : AllStand d r.plans.items r.processes.items (map (first_process d) d.generators) no_counts
  all k g p q x eg ep eq ex =
      let a = w.all k g p q eg ep eq in
      let i : first_process d g ≡ x = same_some (slice_get (map (first_process d) d.generators) k) (first_process d g) x (get_map (first_process d) d.generators k ∙ ap (option_map (first_process d)) eg) ex in
      (a.0, subst (λ v. IsStanding d g p q v 0) i a.1)
