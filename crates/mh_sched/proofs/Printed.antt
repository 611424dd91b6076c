-- What is known of a call of a delta that prints: it goes on with a later statement or generator, and the values stay.
use Rattle.std.proofs.Common.{◌≡◌, ℕ, ◌+◌, ◌<◌, ◌≤◌, false, List, ◌⊎◌, inl, inr, refl, ◌∙◌, arith}
use Rattle.mh_flow.specs.declared.resumed.Resumed.TheVariants as resumed
use Rattle.mh_flow.specs.Flow as flow
use Rattle.mh_design.specs.declared.design.Design.{Design}
use Rattle.mh_design.specs.declared.design.Generator.{Generator}
use Rattle.mh_design.specs.Values.{Signals, Store}
use Rattle.mh_design.specs.Assignments.{meaning}
use Rattle.mh_design.specs.Deltas.{Process, Left, Flows, goes_on, turn_limit, waiting, waits_after}
use Rattle.mh_sched.specs.Calls.{Reply, Finished, Prints, Breaks, Passes, all, rests, begins, Resumes, prints, ends, breaks, GoesOn, here, skip}
use Rattle.mh_sched.proofs.Frames.{flows_framed}

reach_count : {xs : Left} {s : Store} {n : ℕ} {ys : Left} {t : Store} {m : ℕ} → flow.Reaches meaning turn_limit xs s n ys t m → n ≤ m
reach_count flow.here = omega arith
reach_count (flow.onward r e le) = let i = reach_count r in omega (arith, i)

says_count : {xs : Left} {s : Store} {n j : ℕ} {ys : Left} {t : Store} {m : ℕ} → Flows xs s n (resumed.Says j) ys t m → (n < m) × (m ≤ turn_limit)
says_count f =
    let i = reach_count f.reached in
    let b = f.answered.1 in
    let e = f.answered.2 in
    (omega (arith, i, e), omega (arith, b, e))

-- From a generator on, or since so many statements of it.
abbrev pub From : ℕ → Signals → Reply → Signals → Type 0
From k s Finished t = Unit {0}
From k s (Prints g j m line) t = (k ≤ g) × (m ≤ turn_limit) × (t.values ≡ s.values)
From k s (Breaks g e) t = goes_on e ≡ false

abbrev pub Since : ℕ → ℕ → Signals → Reply → Signals → Type 0
Since n k s Finished t = Unit {0}
Since n k s (Prints g j m line) t = (((g ≡ k) × (n < m)) ⊎ (k < g)) × (m ≤ turn_limit) × (t.values ≡ s.values)
Since n k s (Breaks g e) t = goes_on e ≡ false

later : (k n : ℕ) (r : Reply) (s u t : Signals) → u.values ≡ s.values → From (k + 1) u r t → Since n k s r t
later k n Finished s u t e w = tt
later k n (Prints g j m line) s u t e w = let h = w.0 in (inr (omega (arith, h)), w.1, w.2 ∙ e)
later k n (Breaks g x) s u t e w = w

sooner : (k : ℕ) (r : Reply) (s t : Signals) → From (k + 1) s r t → From k s r t
sooner k Finished s t w = tt
sooner k (Prints g j m line) s t w = let h = w.0 in (omega (arith, h), w.1, w.2)
sooner k (Breaks g x) s t w = w

begun : (k : ℕ) (r : Reply) (s t : Signals) → Since 0 k s r t → From k s r t
begun k Finished s t w = tt
begun k (Prints g j m line) s t w = (either w.0, w.1, w.2) where
  either : ((g ≡ k) × (0 < m)) ⊎ (k < g) → k ≤ g
  either (inl e) = let h = e.0 in omega (arith, h)
  either (inr h) = omega (arith, h)
begun k (Breaks g x) s t w = w

module _ {d : Design} {time : ℕ} where
  mutual
    pub passes_from : {k : ℕ} {gs : List Generator} {xs ys : List Process} {s t : Signals} {r : Reply} → Passes d time k gs xs s r ys t → From k s r t
    passes_from all = tt
    passes_from {k} {s = s} {t = t} {r = r} (rests w p) = sooner k r s t (passes_from p)
    passes_from {k} {s = s} {t = t} {r = r} (begins w p) = begun k r s t (resumes_since p)

    pub resumes_since : {n k : ℕ} {gs : List Generator} {xs ys : List Process} {s t : Signals} {r : Reply} → Resumes d time n k gs xs s r ys t → Since n k s r t
    resumes_since (prints f) = let c = says_count f in (inl (refl, c.0), c.1, (flows_framed f).values)
    resumes_since {n} {k} {s = s} {t = t} {r = r} (ends {g = g} {u = u} {e = e} f h on p) =
        later k n r s (waiting u.signals k (waits_after d g e)) t (flows_framed f).values (passes_from p)
    resumes_since (breaks f e off) = off

  pub goes_since : {i n k : ℕ} {gs : List Generator} {xs ys : List Process} {s t : Signals} {r : Reply} → GoesOn d time i n k gs xs s r ys t → Since n i s r t
  goes_since (here p) = resumes_since p
  goes_since (skip p) = goes_since p
