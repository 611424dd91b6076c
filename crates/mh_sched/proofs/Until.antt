-- Calls of deltas, prints and steps of time in a row.
use Rattle.std.proofs.Common.{◌≡◌, ℕ, ◌+◌, ◌<◌, ◌≤◌, false, List, [], ◌∷◌, ◌++◌, ◌⊎◌, refl, sym, ap, ◌∙◌, subst}
use Rattle.std.specs.Prelude.{Result, Ok, Err}
use Rattle.std.proofs.lemmas.List.{append_assoc, append-nil}
use Rattle.std.proofs.lemmas.Grind.{flat_map-append}
use Rattle.mh_design.specs.declared.design.Design.{Design}
use Rattle.mh_design.specs.Values.{Signals}
use Rattle.mh_design.specs.Deltas.{Process, Ending, AtWait, AtEnd, AtStop, InFault, goes_on, is_due, turn_limit}
use Rattle.mh_sched.specs.declared.answer.Delta.{Delta}
use Rattle.mh_sched.specs.declared.answer.Delta.TheVariants as delta
use Rattle.mh_sched.specs.declared.answer.End.{End}
use Rattle.mh_sched.specs.declared.answer.End.TheVariants as «end»
use Rattle.mh_sched.specs.declared.fault.SimFault.{SimFault}
use Rattle.mh_sched.specs.declared.fault.SimFault.TheVariants as simfault
use Rattle.mh_sched.specs.declared.sim.Sim.{Sim}
use Rattle.mh_sched.specs.Calls.{Reply, Finished, Prints, Breaks}
use Rattle.mh_sched.specs.Lines.{Line, line_bytes, text_of}
use Rattle.mh_sched.specs.Runs.{Moment, Fails, delta_limit}
use Rattle.mh_sched.specs.Standing.{Standing, Between, Inside, Over, time_of, values_of, with_state, full_delta, ending_answer, answer_of, left_by, DeltaCall, quiet, exceeds, begins, goes_on as gone_on, stopped, failed, line_at_print, line_after, with_line, MeansFor, RunsFrom}
use Rattle.mh_sched.specs.At.{of_sim, IsAt, DeltaDone, Printed, says, fails, failed as said_again, HasPrinted, HasSaid, HasGone, HasRun, RunsUntil, deltas_of, IsOpen, DeltaWhole}
use Rattle.mh_sched.proofs.Printed.{From, Since, passes_from, goes_since}

-- An answer that a delta ran: all its evaluations were done.
ran_ending : (time : ℕ) (e : Ending) → goes_on e ≡ false → ending_answer time e ≡ Ok delta.Ran → ⊥
ran_ending time (AtWait k) off h = absurd cc
ran_ending time AtEnd off h = absurd cc
ran_ending time AtStop off h = absurd cc
ran_ending time (InFault l f) off h = absurd cc

quiet_ending : (time : ℕ) (e : Ending) → ending_answer time e ≡ Ok delta.Quiet → ⊥
quiet_ending time (AtWait k) h = absurd cc
quiet_ending time AtEnd h = absurd cc
quiet_ending time AtStop h = absurd cc
quiet_ending time (InFault l f) h = absurd cc

says_ending : (time : ℕ) (e : Ending) (g k : ℕ) → ending_answer time e ≡ Ok (delta.Says g k) → ⊥
says_ending time (AtWait j) g k h = absurd cc
says_ending time AtEnd g k h = absurd cc
says_ending time AtStop g k h = absurd cc
says_ending time (InFault l f) g k h = absurd cc

-- A delta that ran to its end.
pub record Ran (before after : Standing) : Type 0 where
  pub moment : Moment
  pub is : after ≡ Between moment
  pub live : IsOpen before
  pub time : moment.state.time ≡ time_of before
  pub deltas : moment.deltas ≡ deltas_of before + 1

ran_between : (m : Moment) (k : ℕ) (s : Signals) (r : Reply) (qs : List Process) (t : Signals) → From k s r t → answer_of m.state.time r ≡ Ok delta.Ran → Ran (Between m) (left_by m r qs t)
ran_between m k s Finished qs t w e =
    record { moment = full_delta m qs t; is = refl; live = tt; time = refl; deltas = refl }
ran_between m k s (Prints g j n line) qs t w e = absurd cc
ran_between m k s (Breaks g x) qs t w e = absurd (ran_ending m.state.time x w e)

ran_inside : (m : Moment) (g n : ℕ) (s : Signals) (r : Reply) (qs : List Process) (t : Signals) → Since n g s r t → answer_of m.state.time r ≡ Ok delta.Ran → Ran (Inside m g n) (left_by m r qs t)
ran_inside m g n s Finished qs t w e =
    record { moment = full_delta m qs t; is = refl; live = tt; time = refl; deltas = refl }
ran_inside m g n s (Prints h j k line) qs t w e = absurd cc
ran_inside m g n s (Breaks h x) qs t w e = absurd (ran_ending m.state.time x w e)

pub has_ran : {d : Design} {before after : Standing} {a : Result Delta SimFault} → DeltaCall d before a after → a ≡ Ok delta.Ran → Ran before after
has_ran (quiet w) e = absurd cc
has_ran (exceeds w l) e = absurd cc
has_ran (begins {m = m} {r = r} {qs = qs} {t = t} w l p) e = ran_between m 0 m.state.signals r qs t (passes_from p) e
has_ran (gone_on {m = m} {g = g} {n = n} {r = r} {qs = qs} {t = t} p) e = ran_inside m g n m.state.signals r qs t (goes_since p) e
has_ran stopped e = absurd cc
has_ran failed e = absurd cc

-- Nothing was due.
pub record Rested (d : Design) (before after : Standing) : Type 0 where
  pub moment : Moment
  pub was : before ≡ Between moment
  pub is : after ≡ Between moment
  pub rests : is_due d moment.state ≡ false

no_quiet : (time : ℕ) (r : Reply) → answer_of time r ≡ Ok delta.Quiet → ⊥
no_quiet time Finished e = absurd cc
no_quiet time (Prints g j n line) e = absurd cc
no_quiet time (Breaks g x) e = quiet_ending time x e

pub has_rested : {d : Design} {before after : Standing} {a : Result Delta SimFault} → DeltaCall d before a after → a ≡ Ok delta.Quiet → Rested d before after
has_rested (quiet {m = m} w) e = record { moment = m; was = refl; is = refl; rests = w }
has_rested (exceeds w l) e = absurd cc
has_rested (begins {m = m} {r = r} w l p) e = absurd (no_quiet m.state.time r e)
has_rested (gone_on {m = m} {r = r} p) e = absurd (no_quiet m.state.time r e)
has_rested stopped e = absurd cc
has_rested failed e = absurd cc

-- It prints: later than where it stood.
abbrev pub IsFurther : Standing → ℕ → ℕ → Type 0
IsFurther (Between m) g n = Unit {0}
IsFurther (Inside m h k) g n = ((g ≡ h) × (k < n)) ⊎ (h < g)
IsFurther (Over c vs) g n = Unit {0}

pub record Told (before after : Standing) (g : ℕ) : Type 0 where
  pub moment : Moment
  pub count : ℕ
  pub is : after ≡ Inside moment g count
  pub live : IsOpen before
  pub time : moment.state.time ≡ time_of before
  pub deltas : moment.deltas ≡ deltas_of before
  pub values : moment.state.signals.values ≡ values_of before
  pub further : IsFurther before g count
  pub small : count ≤ turn_limit

told_between : (m : Moment) (r : Reply) (qs : List Process) (t : Signals) (g k : ℕ) → From 0 m.state.signals r t → answer_of m.state.time r ≡ Ok (delta.Says g k) → Told (Between m) (left_by m r qs t) g
told_between m Finished qs t g k w e = absurd cc
told_between m (Prints h j n line) qs t g k w e =
    let i : h ≡ g = cc in
    record {
      moment = with_state m qs t;
      count = n;
      is = ap (λ v. Inside (with_state m qs t) v n) i;
      live = tt;
      time = refl;
      deltas = refl;
      values = w.2;
      further = tt;
      small = w.1;
    }
told_between m (Breaks h x) qs t g k w e = absurd (says_ending m.state.time x g k e)

told_inside : (m : Moment) (f c : ℕ) (r : Reply) (qs : List Process) (t : Signals) (g k : ℕ) → Since c f m.state.signals r t → answer_of m.state.time r ≡ Ok (delta.Says g k) → Told (Inside m f c) (left_by m r qs t) g
told_inside m f c Finished qs t g k w e = absurd cc
told_inside m f c (Prints h j n line) qs t g k w e =
    let i : h ≡ g = cc in
    record {
      moment = with_state m qs t;
      count = n;
      is = ap (λ v. Inside (with_state m qs t) v n) i;
      live = tt;
      time = refl;
      deltas = refl;
      values = w.2;
      further = subst (λ v. ((v ≡ f) × (c < n)) ⊎ (f < v)) i w.0;
      small = w.1;
    }
told_inside m f c (Breaks h x) qs t g k w e = absurd (says_ending m.state.time x g k e)

pub has_told : {d : Design} {before after : Standing} {a : Result Delta SimFault} (g k : ℕ) → DeltaCall d before a after → a ≡ Ok (delta.Says g k) → Told before after g
has_told g k (quiet w) e = absurd cc
has_told g k (exceeds w l) e = absurd cc
has_told g k (begins {m = m} {r = r} {qs = qs} {t = t} w l p) e = told_between m r qs t g k (passes_from p) e
has_told g k (gone_on {m = m} {g = f} {n = c} {r = r} {qs = qs} {t = t} p) e = told_inside m f c r qs t g k (goes_since p) e
has_told g k stopped e = absurd cc
has_told g k failed e = absurd cc

-- The run has gone on by nothing, by one call, and by several.
pub gone_none : {d : Design} {limit : ℕ} (st : Standing) (bs : List ℕ) (sim : Sim) → IsAt sim st → of_sim sim ≡ d → HasGone d limit st bs bs st sim
gone_none st bs sim w e =
    record { lines = []; leads = λ r ls n x. x; text = sym (append-nil bs); at = w; design = e }

text_more : (ls : List Line) (l : Line) → text_of (ls ++ l ∷ []) ≡ text_of ls ++ line_bytes l
text_more ls l = flat_map-append line_bytes ls (l ∷ []) ∙ ap (λ bs. text_of ls ++ bs) (append-nil (line_bytes l))

module _ {d : Design} {limit : ℕ} {st : Standing} {before after : List ℕ} {now : Standing} {old : Sim} (w : HasGone d limit st before after now old) where
  -- by a call without a line
  pub gone_on_to : (next : Standing) (new : Sim) → ((r : Result End SimFault) (ls : List Line) (n : Standing) → RunsFrom d limit next r ls n → RunsFrom d limit now r ls n) → IsAt new next → of_sim new ≡ d → HasGone d limit st before after next new
  gone_on_to next new f at e =
      record { lines = w.lines; leads = λ r ls n x. w.leads r ls n (f r ls n x); text = w.text; at = at; design = e }

  -- by a call with a line
  pub gone_with : (next : Standing) (new : Sim) (line : Line) (more : List ℕ) → ((r : Result End SimFault) (ls : List Line) (n : Standing) → RunsFrom d limit next r ls n → RunsFrom d limit now r (line ∷ ls) n) → more ≡ after ++ line_bytes line → IsAt new next → of_sim new ≡ d → HasGone d limit st before more next new
  gone_with next new line more f m at e = record {
    lines = w.lines ++ line ∷ [];
    leads = λ r ls n x. subst (λ v. RunsFrom d limit st r v n) (sym (append_assoc w.lines (line ∷ []) ls)) (w.leads r (line ∷ ls) n (f r ls n x));
    text = m ∙ ap (λ bs. bs ++ line_bytes line) w.text ∙ append_assoc before (text_of w.lines) (line_bytes line) ∙ ap (λ bs. before ++ bs) (sym (text_more w.lines line));
    at = at;
    design = e;
  }

  -- to the end of the run
  pub gone_to_end : (r : Result End SimFault) (last : Standing) (new : Sim) → RunsFrom d limit now r [] last → IsAt new last → of_sim new ≡ d → HasRun d limit st r before after new
  gone_to_end r last new x at e = record {
    lines = w.lines;
    standing = last;
    runs = subst (λ v. RunsFrom d limit st r v last) (append-nil w.lines) (w.leads r [] last x);
    text = w.text;
    at = at;
    design = e;
  }

  pub run_on : (r : Result End SimFault) (more : List ℕ) (new : Sim) → HasRun d limit now r after more new → HasRun d limit st r before more new
  run_on r more new x = record {
    lines = w.lines ++ x.lines;
    standing = x.standing;
    runs = w.leads r x.lines x.standing x.runs;
    text = x.text ∙ ap (λ bs. bs ++ text_of x.lines) w.text ∙ append_assoc before (text_of w.lines) (text_of x.lines) ∙ ap (λ bs. before ++ bs) (sym (flat_map-append line_bytes w.lines x.lines));
    at = x.at;
    design = x.design;
  }

  pub gone_and : {more : List ℕ} {next : Standing} {new : Sim} → HasGone d limit now after more next new → HasGone d limit st before more next new
  gone_and {more} {next} {new} x = record {
    lines = w.lines ++ x.lines;
    leads = λ r ls n y. subst (λ v. RunsFrom d limit st r v n) (sym (append_assoc w.lines x.lines ls)) (w.leads r (x.lines ++ ls) n (x.leads r ls n y));
    text = x.text ∙ ap (λ bs. bs ++ text_of x.lines) w.text ∙ append_assoc before (text_of w.lines) (text_of x.lines) ∙ ap (λ bs. before ++ bs) (sym (flat_map-append line_bytes w.lines x.lines));
    at = x.at;
    design = x.design;
  }

-- An answer that ends a run.
pub err_whole : {d : Design} {limit : ℕ} {st : Standing} {before after : List ℕ} {new : Sim} (f : SimFault) → HasRun d limit st (Err f) before after new → DeltaWhole d limit st (Err f) before after new
err_whole (simfault.At c t l v low high) w = w
err_whole simfault.Memory w = record { standing = w.standing; at = w.at; design = w.design }

pub err_until : {d : Design} {limit : ℕ} {st : Standing} {before after : List ℕ} {new : Sim} (f : SimFault) → HasRun d limit st (Err f) before after new → RunsUntil d limit st (Err f) before after new
err_until (simfault.At c t l v low high) w = w
err_until simfault.Memory w = record { standing = w.standing; at = w.at; design = w.design }

-- Where the loop of a whole delta stands.
pub record Going (d : Design) (limit : ℕ) (st : Standing) (before after : List ℕ) (sim : Sim) : Type 0 where
  pub now : Standing
  pub gone : HasGone d limit st before after now sim
  pub live : IsOpen now → IsOpen st
  pub time : time_of now ≡ time_of st
  pub deltas : deltas_of now ≡ deltas_of st

pub going_none : {d : Design} {limit : ℕ} (st : Standing) (bs : List ℕ) (sim : Sim) → IsAt sim st → of_sim sim ≡ d → Going d limit st bs bs sim
going_none st bs sim w e =
    record { now = st; gone = gone_none st bs sim w e; live = λ o. o; time = refl; deltas = refl }

-- What a print has done where a generator stands in a delta.
record LineIs (d : Design) (g k : ℕ) (m : Moment) (n : ℕ) (bytes : List ℕ) (after : Standing) : Type 0 where
  pub line : Line
  pub is : line_at_print d m g k ≡ Ok line
  pub bytes_are : bytes ≡ line_bytes line
  pub after_is : after ≡ Inside m g n

line_is : {d : Design} {g k : ℕ} {st : Standing} {a : Result (Unit {0}) SimFault} {bytes : List ℕ} {after : Standing} (m : Moment) (n : ℕ) (u : Unit {0}) → Printed d g k st a bytes after → st ≡ Inside m g n → a ≡ Ok u → LineIs d g k m n bytes after
line_is {d} {g} {k} m n u (says {m = m'} {n = n'} {line = line} e) s i =
    let a : m' ≡ m = cc in
    let b : n' ≡ n = cc in
    record {
      line = line;
      is = subst (λ v. line_at_print d v g k ≡ Ok line) a e;
      bytes_are = refl;
      after_is = ap (λ v. Inside v g n') a ∙ ap (λ v. Inside m g v) b;
    }
line_is m n u (fails e x) s i = absurd cc
line_is m n u said_again s i = absurd cc

record FaultIs (d : Design) (g k : ℕ) (m : Moment) (f : SimFault) (bytes : List ℕ) (after : Standing) : Type 0 where
  pub ending : Ending
  pub is : line_at_print d m g k ≡ Err ending
  pub answer : ending_answer m.state.time ending ≡ Err f
  pub bytes_are : bytes ≡ []
  pub after_is : after ≡ Over (Fails f) m.state.signals.values

fault_is : {d : Design} {g k : ℕ} {st : Standing} {a : Result (Unit {0}) SimFault} {bytes : List ℕ} {after : Standing} (m : Moment) (n : ℕ) (f : SimFault) → Printed d g k st a bytes after → st ≡ Inside m g n → a ≡ Err f → FaultIs d g k m f bytes after
fault_is m n f (says e) s i = absurd cc
fault_is {d} {g} {k} m n f (fails {m = m'} {e = e} {f = f'} x y) s i =
    let a : m' ≡ m = cc in
    let b : f' ≡ f = cc in
    record {
      ending = e;
      is = subst (λ v. line_at_print d v g k ≡ Err e) a x;
      answer = subst (λ v. ending_answer v.state.time e ≡ Err f) a (subst (λ v. ending_answer m'.state.time e ≡ Err v) b y);
      bytes_are = refl;
      after_is = ap (λ v. Over (Fails v) m'.state.signals.values) b ∙ ap (λ v. Over (Fails f) v.state.signals.values) a;
    }
fault_is m n f said_again s i = absurd cc

module _ {d : Design} {limit : ℕ} {st : Standing} {before mid : List ℕ} {old : Sim} (w : Going d limit st before mid old) {g k : ℕ} {middle : Sim} (done : DeltaDone d w.now (Ok (delta.Says g k)) middle) (means : MeansFor d limit w.now (Ok (delta.Says g k)) done.after) where
  pub told : Told w.now done.after g
  told = has_told g k done.call refl

  with_this : with_line d limit w.now (Inside told.moment g told.count) g (line_at_print d told.moment g k)
  with_this = subst (λ v. with_line d limit w.now v g (line_after d v g k)) told.is means

  pub going_says : {more : List ℕ} {new : Sim} (u : Unit {0}) → HasPrinted d g k done.after (Ok u) mid more new → Going d limit st before more new
  going_says {more} {new} u p =
      let l = line_is told.moment told.count u p.printed told.is refl in
      let leads = subst (λ v. with_line d limit w.now (Inside told.moment g told.count) g v) l.is with_this in
      record {
        now = Inside told.moment g told.count;
        gone = gone_with w.gone (Inside told.moment g told.count) new l.line more leads (p.text ∙ ap (λ bs. mid ++ bs) l.bytes_are) (subst (λ v. IsAt new v) l.after_is p.at) p.design;
        live = λ o. w.live told.live;
        time = told.time ∙ w.time;
        deltas = told.deltas ∙ w.deltas;
      }

  pub printed_at : {more : List ℕ} {new : Sim} (u : Unit {0}) → HasPrinted d g k done.after (Ok u) mid more new → IsAt new (Inside told.moment g told.count)
  printed_at {more} {new} u p =
      let l = line_is told.moment told.count u p.printed told.is refl in
      subst (λ v. IsAt new v) l.after_is p.at

  pub going_fails : {more : List ℕ} {new : Sim} (f : SimFault) → HasPrinted d g k done.after (Err f) mid more new → HasRun d limit st (Err f) before more new
  going_fails {more} {new} f p =
      let l = fault_is told.moment told.count f p.printed told.is refl in
      let ends = subst (λ v. with_line d limit w.now (Inside told.moment g told.count) g v) l.is with_this in
      let runs = ends f (subst (λ v. ending_answer v l.ending ≡ Err f) told.time l.answer) in
      let same : more ≡ mid = p.text ∙ ap (λ bs. mid ++ bs) l.bytes_are ∙ append-nil mid in
      subst (λ v. HasRun d limit st (Err f) before v new) (sym same) (gone_to_end w.gone (Err f) (Over (Fails f) (values_of w.now)) new runs (subst (λ v. IsAt new v) (l.after_is ∙ ap (Over (Fails f)) told.values) p.at) p.design)

  pub going_unsaid : (more : List ℕ) (new : Sim) (f : SimFault) → HasSaid d g k done.after (Err f) mid more middle new → DeltaWhole d limit st (Err f) before more new
  going_unsaid more new (simfault.At c t l v low high) p = going_fails (simfault.At c t l v low high) p
  going_unsaid more new simfault.Memory p =
      record { standing = done.after; at = subst (λ v. IsAt v done.after) (sym p.1) done.at; design = ap of_sim p.1 ∙ done.design }

-- The other answers of a delta.
module _ {d : Design} {limit : ℕ} {st : Standing} {before mid : List ℕ} {old : Sim} (w : Going d limit st before mid old) (new : Sim) where
  pub whole_ran : (done : DeltaDone d w.now (Ok delta.Ran) new) → MeansFor d limit w.now (Ok delta.Ran) done.after → deltas_of w.now < delta_limit → DeltaWhole d limit st (Ok delta.Ran) before mid new
  whole_ran done means below =
      let r = has_ran done.call refl in
      record {
        moment = r.moment;
        gone = gone_on_to w.gone (Between r.moment) new (subst (λ v. (r : Result End SimFault) (ls : List Line) (n : Standing) → RunsFrom d limit v r ls n → RunsFrom d limit w.now r ls n) r.is means) (subst (λ v. IsAt new v) r.is done.at) done.design;
        live = w.live r.live;
        time = r.time ∙ w.time;
        deltas = r.deltas ∙ ap (λ n. n + 1) w.deltas;
        below = subst (λ n. n < delta_limit) w.deltas below;
      }

  pub whole_quiet : (done : DeltaDone d w.now (Ok delta.Quiet) new) → DeltaWhole d limit st (Ok delta.Quiet) before mid new
  whole_quiet done =
      let r = has_rested done.call refl in
      record {
        moment = r.moment;
        gone = gone_on_to w.gone (Between r.moment) new (λ a ls n x. subst (λ v. RunsFrom d limit v a ls n) (sym r.was) x) (subst (λ v. IsAt new v) r.is done.at) done.design;
        rests = r.rests;
        live = w.live (subst IsOpen (sym r.was) tt);
        time = ap time_of (sym r.was) ∙ w.time;
        deltas = ap deltas_of (sym r.was) ∙ w.deltas;
      }

  pub whole_stopped : (done : DeltaDone d w.now (Ok delta.Stopped) new) → MeansFor d limit w.now (Ok delta.Stopped) done.after → DeltaWhole d limit st (Ok delta.Stopped) before mid new
  whole_stopped done means = gone_to_end w.gone (Ok «end».Stopped) done.after new means done.at done.design

  pub whole_failed : (f : SimFault) (done : DeltaDone d w.now (Err f) new) → MeansFor d limit w.now (Err f) done.after → DeltaWhole d limit st (Err f) before mid new
  whole_failed f done means =
      err_whole f (gone_to_end w.gone (Err f) done.after new means done.at done.design)

-- A delta that ran was within the limit.
below_limit : {d : Design} {before after : Standing} {a : Result Delta SimFault} (sim : Sim) → DeltaCall d before a after → a ≡ Ok delta.Ran → IsAt sim before → deltas_of before < delta_limit
below_limit sim (quiet w) e at = absurd cc
below_limit sim (exceeds w l) e at = absurd cc
below_limit sim (begins w l p) e at = l
below_limit sim (gone_on p) e at = at.4
below_limit sim stopped e at = absurd cc
below_limit sim failed e at = absurd cc

pub ran_below : {d : Design} {now : Standing} {new : Sim} (old : Sim) → (done : DeltaDone d now (Ok delta.Ran) new) → IsAt old now → deltas_of now < delta_limit
ran_below old done at = below_limit old done.call refl at
