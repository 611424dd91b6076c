-- How far a call of a delta may still go, and that each goes further.
use Rattle.std.proofs.Common.{◌≡◌, ℕ, ◌+◌, ◌-◌, ◌*◌, ◌<◌, ◌≤◌, length, inl, inr, sym, ap, ◌∙◌, subst, arith}
use Rattle.std.specs.Prelude.{slice_get}
use Rattle.std.specs.Option.{option_map_or}
use Rattle.mh_design.specs.Deltas.{turn_limit}
use Rattle.mh_sched.specs.declared.sim.Phase.{Phase}
use Rattle.mh_sched.specs.declared.sim.Phase.TheVariants as phase
use Rattle.mh_sched.specs.declared.sim.Sim.{Sim}
use Rattle.mh_sched.specs.Runs.{Moment}
use Rattle.mh_sched.specs.Standing.{Standing, Between, Inside, Over}
use Rattle.mh_sched.specs.At.{of_sim, IsAt, IsOpen}
use Rattle.mh_sched.proofs.Slices.{get_below}
use Rattle.mh_sched.proofs.Until.{Told, IsFurther}

abbrev pub left_inside : ℕ → ℕ → ℕ → ℕ
left_inside all g n = (all - g) * 1000001 + (1000000 - n)

abbrev pub left_by_phase : Sim → Phase → ℕ
left_by_phase sim phase.Between = (length (of_sim sim).generators + 1) * 1000001
left_by_phase sim (phase.Inside g) =
    left_inside (length (of_sim sim).generators) g (option_map_or (λ q. q.state.count) (slice_get sim.run.processes.items g) 0)
left_by_phase sim phase.Stopped = 0
left_by_phase sim (phase.Failed f) = 0

abbrev pub progress : Sim → ℕ
progress sim = left_by_phase sim sim.phase

first_less : (all g n : ℕ) → left_inside all g n < (all + 1) * 1000001
first_less all g n = omega arith

same_less : (all g n k : ℕ) → k < n → n ≤ 1000000 → left_inside all g n < left_inside all g k
same_less all g n k h l = omega (arith, h, l)

later_less : (all g h n k : ℕ) → h < g → g < all → left_inside all g n < left_inside all h k
later_less all g h n k a b = omega (arith, a, b)

pub progress_inside : (sim : Sim) (m : Moment) (g n : ℕ) → IsAt sim (Inside m g n) → progress sim ≡ left_inside (length (of_sim sim).generators) g n
progress_inside sim m g n w =
    let ke = w.0.run.kept in
    let h = w.2 in
    let q = get_below sim.run.processes.items g (omega (arith, ke, h)) in
    ap (left_by_phase sim) w.1 ∙ ap (λ o. left_inside (length (of_sim sim).generators) g (option_map_or (λ q. q.state.count) o 0)) q.1 ∙ ap (left_inside (length (of_sim sim).generators) g) (w.3 q.0 q.1)

further_less : (old new : Sim) (now : Standing) (g n : ℕ) → IsAt old now → IsOpen now → IsFurther now g n → n ≤ turn_limit → g < length (of_sim old).generators → progress new ≡ left_inside (length (of_sim old).generators) g n → progress new < progress old
further_less old new (Between m) g n w o f l h e =
    subst (λ v. v < progress old) (sym e) (subst (λ v. left_inside (length (of_sim old).generators) g n < v) (sym (ap (left_by_phase old) w.1)) (first_less (length (of_sim old).generators) g n))
further_less old new (Inside m f c) g n w o (inl s) l h e =
    subst (λ v. v < progress old) (sym e) (subst (λ v. left_inside (length (of_sim old).generators) g n < v) (sym (progress_inside old m f c w)) (subst (λ v. left_inside (length (of_sim old).generators) g n < left_inside (length (of_sim old).generators) v c) s.0 (same_less (length (of_sim old).generators) g n c s.1 l)))
further_less old new (Inside m f c) g n w o (inr s) l h e =
    subst (λ v. v < progress old) (sym e) (subst (λ v. left_inside (length (of_sim old).generators) g n < v) (sym (progress_inside old m f c w)) (later_less (length (of_sim old).generators) g f n c s h))
further_less old new (Over c vs) g n w o f l h e = absurd o

-- After a call that prints, and its print, less is left.
pub told_less : (old new : Sim) (now after : Standing) (g : ℕ) → IsAt old now → (t : Told now after g) → IsAt new (Inside t.moment g t.count) → of_sim new ≡ of_sim old → progress new < progress old
told_less old new now after g w t at de =
    further_less old new now g t.count w t.live t.further t.small (subst (λ v. g < length v.generators) de at.2) (progress_inside new t.moment g t.count at ∙ ap (λ v. left_inside (length v.generators) g t.count) de)
