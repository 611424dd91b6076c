-- Going through the generators of a run, from one number on.
use Rattle.std.proofs.Common.{◌≡◌, ℕ, ◌+◌, ◌<◌, ◌≤◌, true, false, List, [], ◌∷◌, ◌++◌, length, take, drop, sym, ap, ◌∙◌, subst, arith}
use Rattle.std.specs.Prelude.{Some, slice_get, slice_set}
use Rattle.std.proofs.lemmas.List.{append_assoc, append-nil, length-set, drop_all, take_all, take-set, drop-set, drop-set-lt, take-append-drop}
use Rattle.mh_design.specs.declared.design.Design.{Design}
use Rattle.mh_design.specs.declared.design.Generator.{Generator}
use Rattle.mh_design.specs.Values.{Signals}
use Rattle.mh_design.specs.Deltas.{Process, goes_on, is_woken}
use Rattle.mh_sched.specs.Calls.{Reply, Finished, Prints, Breaks, evaluated, interrupted, printed, Passes, Resumes}
use Rattle.mh_sched.specs.Calls as calls
use Rattle.mh_sched.specs.Runs.{Close}
use Rattle.mh_sched.specs.Kept.{Rested, Said, Broke}
use Rattle.mh_sched.proofs.Slices.{some_below, get_set, drop_get, take_get}

pub set_split_at : (xs : List Process) (k : ℕ) (y : Process) → k < length xs → slice_set xs k y ≡ take k xs ++ y ∷ drop (k + 1) xs
set_split_at xs k y h =
    sym (take-append-drop k (slice_set xs k y)) ∙ ap (λ zs. zs ++ drop k (slice_set xs k y)) (take-set xs k y) ∙ ap (λ zs. take k xs ++ zs) (drop-set xs k y h)

module _ (d : Design) (time : ℕ) where
  -- The whole lists of states, in the place of those that are left.
  pub data PassFrom : ℕ → List Process → Signals → Reply → List Process → Signals → Type 0 where
    all : {k : ℕ} {xs : List Process} {s : Signals} → k ≡ length d.generators → PassFrom k xs s Finished xs s
    rests : {k : ℕ} {g : Generator} {x : Process} {xs ys : List Process} {s t : Signals} {r : Reply} → slice_get d.generators k ≡ Some g → slice_get xs k ≡ Some x → is_woken s time x k ≡ false → PassFrom (k + 1) xs s r ys t → PassFrom k xs s r ys t
    turns : {k : ℕ} {g : Generator} {x y : Process} {xs ys : List Process} {s t u : Signals} {r : Reply} → slice_get d.generators k ≡ Some g → slice_get xs k ≡ Some x → is_woken s time x k ≡ true → Rested d time 0 k g x s y u → PassFrom (k + 1) (slice_set xs k y) u r ys t → PassFrom k xs s r ys t
    prints : {k j m : ℕ} {g : Generator} {x y : Process} {xs : List Process} {s u : Signals} → slice_get d.generators k ≡ Some g → slice_get xs k ≡ Some x → is_woken s time x k ≡ true → (w : Said d time 0 k g x s j m y u) → PassFrom k xs s (Prints k j m (printed g j w.store)) (slice_set xs k y) u
    breaks : {k : ℕ} {g : Generator} {x y : Process} {xs : List Process} {s u : Signals} {c : Close} → slice_get d.generators k ≡ Some g → slice_get xs k ≡ Some x → is_woken s time x k ≡ true → (w : Broke d time 0 k g x s c y u) → goes_on w.ending ≡ false → PassFrom k xs s (Breaks k w.ending) xs s

  -- What goes on with a generator as the definition says it.
  pub resumes_rested : {n k : ℕ} {g : Generator} {x y : Process} {s u t : Signals} {gs : List Generator} {xs ys : List Process} {r : Reply} → Rested d time n k g x s y u → Passes d time (k + 1) gs xs u r ys t → Resumes d time n k (g ∷ gs) (x ∷ xs) s r (y ∷ ys) t
  resumes_rested {n} {k} {g} {x} {y} {s} {u} {t} {gs} {xs} {ys} {r} w p =
      let q = subst (λ v. Passes d time (k + 1) gs xs v r ys t) w.signals p in
      subst (λ v. Resumes d time n k (g ∷ gs) (x ∷ xs) s r (v ∷ ys) t) (sym w.state) (calls.ends w.flows w.ends w.on q)

  pub resumes_said : {n k j m : ℕ} {g : Generator} {x y : Process} {s u : Signals} {gs : List Generator} {xs : List Process} → (w : Said d time n k g x s j m y u) → Resumes d time n k (g ∷ gs) (x ∷ xs) s (Prints k j m (printed g j w.store)) (y ∷ xs) u
  resumes_said {n} {k} {j} {m} {g} {x} {y} {s} {u} {gs} {xs} w =
      subst (λ v. Resumes d time n k (g ∷ gs) (x ∷ xs) s (Prints k j m (printed g j w.store)) (v ∷ xs) u) (sym w.state) (subst (λ v. Resumes d time n k (g ∷ gs) (x ∷ xs) s (Prints k j m (printed g j w.store)) (interrupted x w.left w.store ∷ xs) v) (sym w.signals) (calls.prints w.flows))

  pub resumes_broke : {n k : ℕ} {g : Generator} {x y : Process} {s u : Signals} {c : Close} {gs : List Generator} {xs : List Process} → (w : Broke d time n k g x s c y u) → goes_on w.ending ≡ false → Resumes d time n k (g ∷ gs) (x ∷ xs) s (Breaks k w.ending) (x ∷ xs) s
  resumes_broke w e = calls.breaks w.flows w.ends e

  -- The same for the lists that are left.
  pub record Tail (k : ℕ) (xs : List Process) (s : Signals) (r : Reply) (ys : List Process) (t : Signals) : Type 0 where
    pub rest : List Process
    pub whole : ys ≡ take k xs ++ rest
    pub passes : Passes d time k (drop k d.generators) (drop k xs) s r rest t

  -- From the lists with their first elements to those that are left.
  at_first : {k : ℕ} {g : Generator} {x : Process} (xs : List Process) {ys : List Process} {s t : Signals} {r : Reply} → slice_get d.generators k ≡ Some g → slice_get xs k ≡ Some x → Passes d time k (g ∷ drop (k + 1) d.generators) (x ∷ drop (k + 1) xs) s r ys t → Passes d time k (drop k d.generators) (drop k xs) s r ys t
  at_first {k} {g} {x} xs {ys} {s} {t} {r} eg ex p =
      subst (λ gs. Passes d time k gs (drop k xs) s r ys t) (sym (drop_get d.generators k g eg)) (subst (λ zs. Passes d time k (g ∷ drop (k + 1) d.generators) zs s r ys t) (sym (drop_get xs k x ex)) p)

  pub tail_of : {k : ℕ} {xs ys : List Process} {s t : Signals} {r : Reply} → length xs ≡ length d.generators → PassFrom k xs s r ys t → Tail k xs s r ys t
  tail_of {k} {xs} {ys} {s} {t} {r} l (all e) =
      let hg : length d.generators ≤ k = omega (arith, e) in
      let hx : length xs ≤ k = omega (arith, e, l) in
      record {
        rest = [];
        whole = sym (append-nil (take k xs) ∙ take_all k xs hx);
        passes = subst (λ gs. Passes d time k gs (drop k xs) s Finished [] s) (sym (drop_all k d.generators hg)) (subst (λ zs. Passes d time k [] zs s Finished [] s) (sym (drop_all k xs hx)) calls.all);
      }
  tail_of {k} {xs} {ys} {s} {t} {r} l (rests {g = g} {x = x} eg ex w p) =
      let i = tail_of l p in
      record {
        rest = x ∷ i.rest;
        whole = i.whole ∙ ap (λ zs. zs ++ i.rest) (take_get xs k x ex) ∙ append_assoc (take k xs) (x ∷ []) i.rest;
        passes = at_first xs eg ex (calls.rests w i.passes);
      }
  tail_of {k} {xs} {ys} {s} {t} {r} l (turns {g = g} {x = x} {y = y} {u = u} eg ex w h p) =
      let hx = some_below xs k x ex in
      let i = tail_of (length-set xs k y ∙ l) p in
      let gone = subst (λ zs. Passes d time (k + 1) (drop (k + 1) d.generators) zs u r i.rest t) (drop-set-lt (k + 1) xs k y (omega arith)) i.passes in
      record {
        rest = y ∷ i.rest;
        whole = i.whole ∙ ap (λ zs. zs ++ i.rest) (take_get (slice_set xs k y) k y (get_set xs k y hx) ∙ ap (λ zs. zs ++ y ∷ []) (take-set xs k y)) ∙ append_assoc (take k xs) (y ∷ []) i.rest;
        passes = at_first xs eg ex (calls.begins w (resumes_rested h gone));
      }
  tail_of {k} {xs} {ys} {s} {t} {r} l (prints {g = g} {x = x} {y = y} eg ex w h) =
      let hx = some_below xs k x ex in
      record {
        rest = y ∷ drop (k + 1) xs;
        whole = set_split_at xs k y hx;
        passes = at_first xs eg ex (calls.begins w (resumes_said h));
      }
  tail_of {k} {xs} {ys} {s} {t} {r} l (breaks {g = g} {x = x} eg ex w h e) =
      record {
        rest = x ∷ drop (k + 1) xs;
        whole = sym (ap (λ zs. take k xs ++ zs) (sym (drop_get xs k x ex)) ∙ take-append-drop k xs);
        passes = at_first xs eg ex (calls.begins w (resumes_broke h e));
      }
