-- What a run shows: which generators are woken, and the next time that has an event.
use Rattle.std.proofs.Common.{◌≡◌, ℕ, ◌+◌, ◌<◌, ◌≤◌, Bool, true, false, ◌||◌, List, length, drop, sym, ap, ◌∙◌}
use Rattle.std.specs.Prelude.{Some, Option, slice_get, nat_lt}
use Rattle.std.specs.List.{list_any, filter, flat_map}
use Rattle.std.proofs.lemmas.List.{drop_all}
use Rattle.mh_design.specs.declared.design.Wait.{Wait}
use Rattle.mh_design.specs.Values.{Signals}
use Rattle.mh_design.specs.Deltas.{Process, is_over, is_woken, any_woken, waiter_at}
use Rattle.mh_sched.specs.declared.process.Process.{Process as Kept}
use Rattle.mh_sched.specs.declared.run.Run.{Run}
use Rattle.mh_sched.specs.Events.{earlier}
use Rattle.mh_sched.specs.Kept.{IsRun}
use Rattle.mh_sched.specs.Runs.{delay_end, process_ends, all_ends, least}
use Rattle.mh_sched.proofs.Earliest.{ends_more}
use Rattle.mh_sched.proofs.Slices.{drop_get}
use Rattle.mh_sched.proofs.Stepping.{here}

module _ {r : Run} {time : ℕ} {s : Signals} {xs : List Process} {counts : ℕ → ℕ} (w : IsRun r time s xs counts) where
  pub since_at : (k : ℕ) (q : Kept) (x : Process) → k < r.count → slice_get r.processes.items k ≡ Some q → slice_get xs k ≡ Some x → q.since ≡ x.since
  since_at k q x h eq ex =
      let o = here k w h in
      let a = w.all k o.generator o.plan q x o.generator_at o.plan_at eq ex in
      a.1.since

  pub woken_is : (k : ℕ) (q : Kept) (x : Process) → k < r.count → slice_get r.processes.items k ≡ Some q → slice_get xs k ≡ Some x → ((waiter_at r.store.signals k).woken || list_any (is_over r.store.time q.since) (waiter_at r.store.signals k).waits) ≡ is_woken s time x k
  woken_is k q x h eq ex =
      ap (λ v. (waiter_at v k).woken || list_any (is_over r.store.time q.since) (waiter_at v k).waits) w.signals ∙ ap (λ v. (waiter_at s k).woken || list_any (is_over v q.since) (waiter_at s k).waits) w.time_is ∙ ap (λ v. (waiter_at s k).woken || list_any (is_over time v) (waiter_at s k).waits) (since_at k q x h eq ex)

  pub ends_are : (k : ℕ) (q : Kept) (x : Process) → k < r.count → slice_get r.processes.items k ≡ Some q → slice_get xs k ≡ Some x → flat_map (delay_end q.since) (waiter_at r.store.signals k).waits ≡ process_ends s k x
  ends_are k q x h eq ex =
      ap (λ v. flat_map (delay_end q.since) (waiter_at v k).waits) w.signals ∙ ap (λ v. flat_map (delay_end v) (waiter_at s k).waits) (since_at k q x h eq ex)

pub any_step : (s : Signals) (time k : ℕ) (xs : List Process) (x : Process) → slice_get xs k ≡ Some x → any_woken s time k (drop k xs) ≡ (is_woken s time x k || any_woken s time (k + 1) (drop (k + 1) xs))
any_step s time k xs x e = ap (any_woken s time k) (drop_get xs k x e)

pub any_end : (s : Signals) (time k : ℕ) (xs : List Process) → length xs ≤ k → any_woken s time k (drop k xs) ≡ false
any_end s time k xs h = ap (any_woken s time k) (drop_all k xs h)

-- The earliest later end of the generators from number k on and of one that is known.
abbrev pub next_from : ℕ → Signals → ℕ → List Process → Option ℕ → Option ℕ
next_from time s k xs best = earlier (least (filter (nat_lt time) (all_ends s k (drop k xs)))) best

pub next_step : (time : ℕ) (s : Signals) (k : ℕ) (xs : List Process) (x : Process) (best : Option ℕ) → slice_get xs k ≡ Some x → next_from time s k xs best ≡ next_from time s (k + 1) xs (earlier (least (filter (nat_lt time) (process_ends s k x))) best)
next_step time s k xs x best e =
    ap (λ ys. earlier (least (filter (nat_lt time) (all_ends s k ys))) best) (drop_get xs k x e) ∙ ends_more time (process_ends s k x) (all_ends s (k + 1) (drop (k + 1) xs)) best

pub next_end : (time : ℕ) (s : Signals) (k : ℕ) (xs : List Process) (best : Option ℕ) → length xs ≤ k → next_from time s k xs best ≡ best
next_end time s k xs best h = ap (λ ys. earlier (least (filter (nat_lt time) (all_ends s k ys))) best) (drop_all k xs h)

module _ {r : Run} {time : ℕ} {s : Signals} {xs : List Process} {counts : ℕ → ℕ} (w : IsRun r time s xs counts) (k : ℕ) (h : k < r.count) where
  pub next_more : (q : Kept) → slice_get r.processes.items k ≡ Some q → (u since : ℕ) (signals : Signals) (waits : List Wait) (best more : Option ℕ) → u ≡ r.store.time → since ≡ q.since → signals ≡ r.store.signals → waits ≡ (waiter_at signals k).waits → more ≡ earlier (least (filter (nat_lt u) (flat_map (delay_end since) waits))) best → next_from time s k xs best ≡ next_from time s (k + 1) xs more
  next_more q eq u since signals waits best more et es eg ew em =
      let o = here k w h in
      let f : flat_map (delay_end since) waits ≡ process_ends s k o.state = ap (λ v. flat_map (delay_end v) waits) es ∙ ap (flat_map (delay_end q.since)) (ew ∙ ap (λ v. (waiter_at v k).waits) eg) ∙ ends_are w k q o.state h eq o.state_at in
      let e : more ≡ earlier (least (filter (nat_lt time) (process_ends s k o.state))) best = em ∙ ap (λ v. earlier (least (filter (nat_lt v) (flat_map (delay_end since) waits))) best) (et ∙ w.time_is) ∙ ap (λ v. earlier (least (filter (nat_lt time) v)) best) f in
      next_step time s k xs o.state best o.state_at ∙ ap (next_from time s (k + 1) xs) (sym e)

  pub woken_else : (q : Kept) (x : Process) → slice_get r.processes.items k ≡ Some q → slice_get xs k ≡ Some x → (b over : Bool) (u since : ℕ) (signals : Signals) (waits : List Wait) → signals ≡ r.store.signals → b ≡ (waiter_at signals k).woken → b ≡ false → u ≡ r.store.time → since ≡ q.since → waits ≡ (waiter_at signals k).waits → over ≡ list_any (is_over u since) waits → over ≡ is_woken s time x k
  woken_else q x eq ex b over u since signals waits eg eb ef et es ew eo =
      let a : over ≡ list_any (is_over r.store.time q.since) (waiter_at r.store.signals k).waits = eo ∙ ap (λ v. list_any (is_over v since) waits) et ∙ ap (λ v. list_any (is_over r.store.time v) waits) es ∙ ap (list_any (is_over r.store.time q.since)) (ew ∙ ap (λ v. (waiter_at v k).waits) eg) in
      let n : (waiter_at r.store.signals k).woken ≡ false = sym (ap (λ v. (waiter_at v k).woken) eg) ∙ sym eb ∙ ef in
      a ∙ sym (ap (λ v. v || list_any (is_over r.store.time q.since) (waiter_at r.store.signals k).waits) n) ∙ woken_is w k q x h eq ex

  pub any_found : (b : Bool) → ((time : ℕ) (s : Signals) (xs : List Process) (counts : ℕ → ℕ) (x : Process) → IsRun r time s xs counts → slice_get xs k ≡ Some x → b ≡ is_woken s time x k) → b ≡ true → any_woken s time k (drop k xs) ≡ true
  any_found b f e =
      let o = here k w h in
      any_step s time k xs o.state o.state_at ∙ ap (λ v. v || any_woken s time (k + 1) (drop (k + 1) xs)) (sym (f time s xs counts o.state w o.state_at) ∙ e)

  pub any_passed : (b : Bool) → ((time : ℕ) (s : Signals) (xs : List Process) (counts : ℕ → ℕ) (x : Process) → IsRun r time s xs counts → slice_get xs k ≡ Some x → b ≡ is_woken s time x k) → b ≡ false → any_woken s time k (drop k xs) ≡ any_woken s time (k + 1) (drop (k + 1) xs)
  any_passed b f e =
      let o = here k w h in
      any_step s time k xs o.state o.state_at ∙ ap (λ v. v || any_woken s time (k + 1) (drop (k + 1) xs)) (sym (f time s xs counts o.state w o.state_at) ∙ e)
