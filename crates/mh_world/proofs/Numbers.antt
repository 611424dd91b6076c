-- What goes by cases on a number, where the number isn't 0.
use Rattle.std.proofs.Common.{◌≡◌, ℕ, ◌-◌, ◌<◌, suc, zero, List, Option, Some, None, refl, arith}
use Rattle.mh_consts.specs.declared.kinds.Const.{Const, out-Const}
use Rattle.mh_world.specs.declared.kinds.Frame.{Frame}
use Rattle.mh_world.specs.declared.kinds.Label.{Label}
use Rattle.mh_world.specs.declared.kinds.Marks.{Marks}
use Rattle.std.specs.Prelude.{slice_get}
use Rattle.mh_world.specs.Seen.{find_from, find_at}
use Rattle.mh_world.specs.Frozen.{freeze_from, freeze_at}
use Rattle.mh_world.specs.Named.{label_through, label_step}

less : (n : ℕ) → suc n - 1 ≡ n
less n = omega arith

pub find_some : (n : ℕ) (fs : List Frame) (t : List ℕ) (i : ℕ) → 0 < n → find_from n fs t (Some i) ≡ find_at (find_from (n - 1) fs t) t (slice_get fs i)
find_some zero fs t i h = absurd (omega arith)
find_some (suc n) fs t i h = rw less refl

pub find_none : (n : ℕ) (fs : List Frame) (t : List ℕ) → find_from n fs t None ≡ None
find_none zero fs t = refl
find_none (suc n) fs t = refl

pub freeze_some : (n : ℕ) (t : List ℕ) (i : ℕ) (fs : List Frame) → 0 < n → freeze_from n t (Some i) fs ≡ freeze_at (freeze_from (n - 1) t) t i (slice_get fs i) fs
freeze_some zero t i fs h = absurd (omega arith)
freeze_some (suc n) t i fs h = rw less refl

pub freeze_none : (n : ℕ) (t : List ℕ) (fs : List Frame) → freeze_from n t None fs ≡ fs
freeze_none zero t fs = refl
freeze_none (suc n) t fs = refl

pub label_more : (ls : List (List Const)) (n : ℕ) (p : Label) (v : Const) (k : Marks) → 0 < n → label_through ls n p v k ≡ label_step ls (label_through ls (n - 1)) p (out-Const v) k
label_more ls zero p v k h = absurd (omega arith)
label_more ls (suc n) p v k h = rw less refl

pub ruleset numbers = (find_some, find_none, freeze_some, freeze_none, label_more)
