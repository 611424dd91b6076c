-- A run that gets back what was taken from it is as it was.
use Rattle.std.proofs.Common.{◌≡◌, ℕ, length, ap, ◌∙◌}
use Rattle.std.specs.Prelude.{Some, slice_get, slice_set}
use Rattle.std.specs.Global.{Vec}
use Rattle.std.specs.Vec.{with_item}
use Rattle.std.proofs.Math.Nat.{ℕ_set}
use mathlib.Core.HLevel.{is_prop→PathP}
use Rattle.mh_design.specs.Values.{Store}
use Rattle.mh_sched.specs.declared.process.Process.{Process as Kept}
use Rattle.mh_sched.specs.declared.run.Run.{Run}
use Rattle.mh_sched.proofs.Saying.{set_again}

with_item_again : {X : Type 0} (v : Vec X) (i : ℕ) (x : X) → slice_set v.items i x ≡ v.items → with_item v i x ≡ v
with_item_again v i x e =
    λ j. record { ptr = v.ptr; len = v.len; cap = v.cap; alloc = v.alloc; items = e j; ok = (is_prop→PathP (λ k. v.len ≡ length (e k)) (λ k. ℕ_set v.len (length (e k))) (with_item v i x).ok.0 v.ok.0 j, v.ok.1); small = v.small }

pub same_run : (r : Run) (k : ℕ) (q q2 : Kept) (s2 : Store) → s2 ≡ r.store → q2 ≡ q → slice_get r.processes.items k ≡ Some q → record { store = s2; plans = r.plans; processes = with_item r.processes k q2; count = r.count } ≡ r
same_run r k q q2 s2 es eq ek =
    ap {A = Store} (λ v. record { store = v; plans = r.plans; processes = with_item r.processes k q2; count = r.count }) es ∙ ap {A = Kept} (λ v. record { store = r.store; plans = r.plans; processes = with_item r.processes k v; count = r.count }) eq ∙ ap (λ v. record { store = r.store; plans = r.plans; processes = v; count = r.count }) (with_item_again r.processes k q (set_again r.processes.items k q ek))
