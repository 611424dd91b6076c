-- What a run comes to that goes through its generators.
use Rattle.std.proofs.Common.{◌≡◌, ℕ, ◌+◌, ◌<◌, Bool, true, false, List, [], ◌∷◌, ◌++◌, length, take, drop, refl, sym, ap, ◌∙◌, subst, arith}
use Rattle.std.specs.Prelude.{Some, slice_get, slice_set}
use Rattle.std.proofs.lemmas.List.{append_assoc, drop-set-lt, take-set}
use Rattle.mh_design.specs.declared.design.Design.{Design}
use Rattle.mh_design.specs.declared.design.Generator.{Generator}
use Rattle.mh_design.specs.Values.{Signals}
use Rattle.mh_design.specs.Deltas.{Process, Ending, AtWait, AtEnd, AtStop, InFault, goes_on, is_woken}
use Rattle.mh_sched.specs.declared.fault.SimFault.{SimFault}
use Rattle.mh_sched.specs.declared.process.Turn.TheVariants as turn
use Rattle.mh_sched.specs.declared.run.Passed.{Passed}
use Rattle.mh_sched.specs.declared.run.Passed.TheVariants as passed
use Rattle.mh_sched.specs.declared.run.Run.{Run}
use Rattle.mh_sched.specs.Calls.{Reply, Finished, Prints, Breaks, printed, Passes, Resumes}
use Rattle.mh_sched.specs.Runs.{Close, Stops, Fails, close_of}
use Rattle.mh_sched.specs.Kept.{Rested, Broke, RunTurned, HasVisited, IsRun, no_counts, count_at, design_of, broken, Leaves, HasPassed, HasResumed}
use Rattle.mh_sched.proofs.Frames.{flows_framed}
use Rattle.mh_sched.proofs.Passing.{PassFrom, all, rests, turns, prints, breaks, tail_of, set_split_at, resumes_rested, resumes_said, resumes_broke}
use Rattle.mh_sched.proofs.Slices.{some_below, get_set, drop_get, take_get}
use Rattle.mh_sched.proofs.Stepping.{here_none}

-- A stop and a fault don't go on.
pub ends_stop : (time : ℕ) (e : Ending) → close_of time e ≡ Stops → goes_on e ≡ false
ends_stop time (AtWait k) h = absurd cc
ends_stop time AtEnd h = absurd cc
ends_stop time AtStop h = refl
ends_stop time (InFault l f) h = refl

pub ends_fail : (time : ℕ) (e : Ending) (f : SimFault) → close_of time e ≡ Fails f → goes_on e ≡ false
ends_fail time (AtWait k) f h = absurd cc
ends_fail time AtEnd f h = absurd cc
ends_fail time AtStop f h = refl
ends_fail time (InFault l x) f h = refl

module _ {d : Design} {time n k : ℕ} {g : Generator} {x : Process} {s : Signals} {y : Process} {u : Signals} where
  pub rested_values : Rested d time n k g x s y u → u.values ≡ s.values
  rested_values w = ap (λ v. v.values) w.signals ∙ (flows_framed w.flows).values

  pub broke_values : {c : Close} → Broke d time n k g x s c y u → u.values ≡ s.values
  broke_values w = ap (λ v. v.values) w.signals ∙ (flows_framed w.flows).values

-- Where the generators from one number on have been gone through up to another one.
pub record Reached (d : Design) (time from : ℕ) (xs : List Process) (s : Signals) (i : ℕ) (r : Run) : Type 0 where
  pub states : List Process
  pub signals : Signals
  pub run : IsRun r time signals states no_counts
  pub on : (reply : Reply) (zs : List Process) (u : Signals) → PassFrom d time i states signals reply zs u → PassFrom d time from xs s reply zs u
  pub values : signals.values ≡ s.values
  pub design : design_of r ≡ d

pub begun : {r : Run} {time : ℕ} {s : Signals} {xs : List Process} (from : ℕ) → IsRun r time s xs no_counts → Reached (design_of r) time from xs s from r
begun {r} {time} {s} {xs} from w =
    record { states = xs; signals = s; run = w; on = λ reply zs u p. p; values = refl; design = refl }

module _ {d : Design} {time from : ℕ} {xs : List Process} {s : Signals} {k : ℕ} {r : Run} (w : Reached d time from xs s k r) {g : Generator} {x : Process} (eg : slice_get d.generators k ≡ Some g) (ex : slice_get w.states k ≡ Some x) {after : Run} where
  woken_rests : RunTurned d time 0 k g x w.signals w.states turn.Rests after → is_woken w.signals time x k ≡ true → Reached d time from xs s (k + 1) after
  woken_rests t e = record {
    states = slice_set w.states k t.state;
    signals = t.signals;
    run = here_none k t.count t.turns.1 t.run;
    on = λ reply zs u p. w.on reply zs u (turns eg ex e t.turns.0 p);
    values = rested_values t.turns.0 ∙ w.values;
    design = t.design;
  }

  asleep_rests : after ≡ r → is_woken w.signals time x k ≡ false → Reached d time from xs s (k + 1) after
  asleep_rests same e = record {
    states = w.states;
    signals = w.signals;
    run = subst (λ v. IsRun v time w.signals w.states no_counts) (sym same) w.run;
    on = λ reply zs u p. w.on reply zs u (rests eg ex e p);
    values = w.values;
    design = ap design_of same ∙ w.design;
  }

  pub step_rests : HasVisited d time k g x w.signals w.states turn.Rests r after → Reached d time from xs s (k + 1) after
  step_rests v = by_test (is_woken w.signals time x k) refl where
    by_test : (b : Bool) → is_woken w.signals time x k ≡ b → Reached d time from xs s (k + 1) after
    by_test true e = woken_rests (v.woken e) e
    by_test false e = asleep_rests (v.asleep e).1 e

  woken_says : (j : ℕ) → length xs ≡ length d.generators → RunTurned d time 0 k g x w.signals w.states (turn.Says j) after → is_woken w.signals time x k ≡ true → HasPassed d time from xs s (passed.Says k j) after
  woken_says j l t e =
      let p = w.on _ _ _ (prints eg ex e t.turns) in
      let i = tail_of d time l p in
      record {
        reply = Prints k j t.count (printed g j t.turns.store);
        rest = i.rest;
        signals = t.signals;
        passes = i.passes;
        answer = refl;
        leaves = (subst (λ zs. IsRun after time t.signals zs (count_at k t.count)) i.whole t.run, subst (λ v. k < length v.generators) (sym t.design) (some_below d.generators k g eg), t.exact);
        design = t.design;
      }

  pub step_says : (j : ℕ) → length xs ≡ length d.generators → HasVisited d time k g x w.signals w.states (turn.Says j) r after → HasPassed d time from xs s (passed.Says k j) after
  step_says j l v = by_test (is_woken w.signals time x k) refl where
    by_test : (b : Bool) → is_woken w.signals time x k ≡ b → HasPassed d time from xs s (passed.Says k j) after
    by_test true e = woken_says j l (v.woken e) e
    by_test false e = let z = (v.asleep e).0 in absurd cc

  broke_off : (a : Passed) {c : Close} {y : Process} {u : Signals} → length xs ≡ length d.generators → (b : Broke d time 0 k g x w.signals c y u) → is_woken w.signals time x k ≡ true → goes_on b.ending ≡ false → a ≡ broken c → after.store.signals ≡ u → design_of after ≡ d → HasPassed d time from xs s a after
  broke_off a l b e off is sg de =
      let p = w.on _ _ _ (breaks eg ex e b off) in
      let i = tail_of d time l p in
      record {
        reply = Breaks k b.ending;
        rest = i.rest;
        signals = w.signals;
        passes = i.passes;
        answer = is ∙ ap broken (sym b.close);
        leaves = (ap (λ v. v.values) sg ∙ broke_values b ∙ w.values, off);
        design = de;
      }

  pub step_stops : length xs ≡ length d.generators → HasVisited d time k g x w.signals w.states turn.Stops r after → HasPassed d time from xs s passed.Stops after
  step_stops l v = by_test (is_woken w.signals time x k) refl where
    by_test : (b : Bool) → is_woken w.signals time x k ≡ b → HasPassed d time from xs s passed.Stops after
    by_test true e =
        let t = v.woken e in
        broke_off passed.Stops l t.turns e (ends_stop time t.turns.ending t.turns.close) refl t.run.signals t.design
    by_test false e = let z = (v.asleep e).0 in absurd cc

  pub step_fails : (f : SimFault) → length xs ≡ length d.generators → HasVisited d time k g x w.signals w.states (turn.Fails f) r after → HasPassed d time from xs s (passed.Fails f) after
  step_fails f l v = by_test (is_woken w.signals time x k) refl where
    by_test : (b : Bool) → is_woken w.signals time x k ≡ b → HasPassed d time from xs s (passed.Fails f) after
    by_test true e =
        let t = v.woken e in
        broke_off (passed.Fails f) l t.turns e (ends_fail time t.turns.ending f t.turns.close) refl t.run.signals t.design
    by_test false e = let z = (v.asleep e).0 in absurd cc

-- All have been gone through.
pub step_all : {d : Design} {time from : ℕ} {xs : List Process} {s : Signals} {k : ℕ} {r : Run} → Reached d time from xs s k r → k ≡ length d.generators → length xs ≡ length d.generators → HasPassed d time from xs s passed.Finished r
step_all {d} {time} {from} {xs} {s} {k} {r} w e l =
    let p = w.on _ _ _ (all e) in
    let i = tail_of d time l p in
    record {
      reply = Finished;
      rest = i.rest;
      signals = w.signals;
      passes = i.passes;
      answer = refl;
      leaves = subst (λ zs. IsRun r time w.signals zs no_counts) i.whole w.run;
      design = w.design;
    }

-- One generator goes on, and then those after it.
module _ (d : Design) (time n k : ℕ) (xs : List Process) (s : Signals) (g : Generator) (x : Process) (eg : slice_get d.generators k ≡ Some g) (ex : slice_get xs k ≡ Some x) (middle after : Run) where
  at_first : {ys : List Process} {t : Signals} {r : Reply} → Resumes d time n k (g ∷ drop (k + 1) d.generators) (x ∷ drop (k + 1) xs) s r ys t → Resumes d time n k (drop k d.generators) (drop k xs) s r ys t
  at_first {ys} {t} {r} p =
      subst (λ gs. Resumes d time n k gs (drop k xs) s r ys t) (sym (drop_get d.generators k g eg)) (subst (λ zs. Resumes d time n k (g ∷ drop (k + 1) d.generators) zs s r ys t) (sym (drop_get xs k x ex)) p)

  prefix : (y : Process) (rest : List Process) → take (k + 1) (slice_set xs k y) ++ rest ≡ take k xs ++ y ∷ rest
  prefix y rest =
      ap (λ zs. zs ++ rest) (take_get (slice_set xs k y) k y (get_set xs k y (some_below xs k x ex)) ∙ ap (λ zs. zs ++ y ∷ []) (take-set xs k y)) ∙ append_assoc (take k xs) (y ∷ []) rest

  -- the values that count after a break
  leaves_on : (r : Reply) (u t : Signals) (ys zs : List Process) → u.values ≡ s.values → ys ≡ zs → Leaves after time u r ys t → Leaves after time s r zs t
  leaves_on Finished u t ys zs v e l = subst (λ ws. IsRun after time t ws no_counts) e l
  leaves_on (Prints h j m line) u t ys zs v e l =
      (subst (λ ws. IsRun after time t ws (count_at h m)) e l.0, l.1, l.2)
  leaves_on (Breaks h e') u t ys zs v e l = (l.0 ∙ v, l.1)

  pub rests_then : {a : Passed} → (t : RunTurned d time n k g x s xs turn.Rests middle) → HasPassed d time (k + 1) (slice_set xs k t.state) t.signals a after → HasResumed d time n k xs s a after
  rests_then t p =
      let gone = subst (λ zs. Passes d time (k + 1) (drop (k + 1) d.generators) zs t.signals p.reply p.rest p.signals) (drop-set-lt (k + 1) xs k t.state (omega arith)) p.passes in
      record {
        reply = p.reply;
        rest = t.state ∷ p.rest;
        signals = p.signals;
        resumes = at_first (resumes_rested d time t.turns.0 gone);
        answer = p.answer;
        leaves = leaves_on p.reply t.signals p.signals _ _ (rested_values t.turns.0) (prefix t.state p.rest) p.leaves;
        design = p.design;
      }

  pub says_then : (j : ℕ) → RunTurned d time n k g x s xs (turn.Says j) after → HasResumed d time n k xs s (passed.Says k j) after
  says_then j t = record {
    reply = Prints k j t.count (printed g j t.turns.store);
    rest = t.state ∷ drop (k + 1) xs;
    signals = t.signals;
    resumes = at_first (resumes_said d time t.turns);
    answer = refl;
    leaves = (subst (λ zs. IsRun after time t.signals zs (count_at k t.count)) (set_split_at xs k t.state (some_below xs k x ex)) t.run, subst (λ v. k < length v.generators) (sym t.design) (some_below d.generators k g eg), t.exact);
    design = t.design;
  }

  broke_then : (a : Passed) {c : Close} {y : Process} {u : Signals} → (b : Broke d time n k g x s c y u) → goes_on b.ending ≡ false → a ≡ broken c → after.store.signals ≡ u → design_of after ≡ d → HasResumed d time n k xs s a after
  broke_then a b off is sg de = record {
    reply = Breaks k b.ending;
    rest = x ∷ drop (k + 1) xs;
    signals = s;
    resumes = at_first (resumes_broke d time b off);
    answer = is ∙ ap broken (sym b.close);
    leaves = (ap (λ v. v.values) sg ∙ broke_values b, off);
    design = de;
  }

  pub stops_then : RunTurned d time n k g x s xs turn.Stops after → HasResumed d time n k xs s passed.Stops after
  stops_then t = broke_then passed.Stops t.turns (ends_stop time t.turns.ending t.turns.close) refl t.run.signals t.design

  pub fails_then : (f : SimFault) → RunTurned d time n k g x s xs (turn.Fails f) after → HasResumed d time n k xs s (passed.Fails f) after
  fails_then f t = broke_then (passed.Fails f) t.turns (ends_fail time t.turns.ending f t.turns.close) refl t.run.signals t.design
