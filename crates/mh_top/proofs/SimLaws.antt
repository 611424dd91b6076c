-- The ends of a simulation's steps make the ends of the command.
use Rattle.std.proofs.Common.{ℕ, ℤ, List, [], ◌++◌, ◌≡◌, ◌+◌, ◌^◌, ◌<◌, ◌≤◌, Bool, true, false, eqb, length, map, Option, Some, None, IfSome, Result, Ok, Err, IfOk, MatchResult, inl, inr, slice_get, length-append, refl, sym, ap, subst, ◌∙◌, arith}
use Rattle.std.proofs.lemmas.Bool.{eqb-false}
use Rattle.std.proofs.lemmas.Option.{slice_get-map}
use Rattle.std.specs.Option.{option_map}
use Rattle.std.specs.declared.alloc.Global.{Global}
use Rattle.std.specs.declared.vec.Vec.{Vec}
use Rattle.mh_design.specs.declared.design.Design.{Design}
use Rattle.mh_design.specs.Inout.{first_inout, Answers as InoutAnswers}
use Rattle.mh_design.specs.WellFormed.{is_well_formed}
use Rattle.mh_host.specs.Shelf.{Counted, Counts, Finds, IsFront, IsPortion, Rose, Seen, Told}
use Rattle.mh_host.specs.declared.shelf.Fetched.TheVariants.{Whole, TooLong}
use Rattle.mh_plans.specs.Planned.{plan_of}
use Rattle.mh_plans.specs.Plans.{Plan}
use Rattle.mh_plans.specs.declared.designs.Request.{Request}
use Rattle.mh_sched.specs.declared.answer.End.{End}
use Rattle.mh_sched.specs.declared.fault.SimFault.{SimFault}
use Rattle.mh_sched.specs.declared.fault.SimFault.TheVariants as simfault
use Rattle.mh_sched.specs.At.{HasRun, RunsUntil}
use Rattle.mh_sched.specs.Lines.{Line, text_of}
use Rattle.mh_sched.specs.Runs.{Moment, Row, Runs, first_moment}
use Rattle.mh_sched.specs.Standing.{Between, RunCall, RunsFrom, Standing, between, first_standing}
use Rattle.mh_sched.specs.declared.sim.Sim.{Sim as Simulator}
use Rattle.mh_text.specs.declared.code.Code.{Code}
use Rattle.mh_text.specs.declared.code.Code.TheVariants as code
use Rattle.mh_text.specs.declared.code.Code.TheVariants.{C1NoTop, C7Inout}
use Rattle.mh_text.specs.declared.memory.Memory.{Memory}
use Rattle.mh_text.specs.declared.refusal.Refusal.{Refusal}
use Rattle.mh_text.specs.declared.refusal.Refusal.TheVariants as refusal
use Rattle.mh_top.proofs.RunLaws.{told_as}
use Rattle.mh_top.proofs.SourceLaws.{none_some, not_made_once, same_plans, same_requests}
use Rattle.mh_top.proofs.SpeechLaws.{at_most, failed_both, run_from, speaks_alone, speaks_both, speaks_text}
use Rattle.mh_top.proofs.WordLaws.{not_sim, same_source}
use Rattle.mh_top.specs.Commands.{Completes, Ends}
use Rattle.mh_top.specs.Lines.{fault_line, memory_line, printing_line, refusal_line, shelf_line, too_long_line}
use Rattle.mh_top.specs.Run.{HasFailedFetch, IsFaultFree, OnlyComplains, Run, Speaks, Spoke, WentOut}
use Rattle.mh_top.specs.SimSteps.{EndsRun, HasPrinted, IsDone, IsFailing, IsPlanned, IsRunIn, IsSimulated, SourceRunEnds, runs, inout, nothing, something}
use Rattle.mh_top.specs.SimSteps as step
use Rattle.mh_top.specs.Simulate as simulate
use Rattle.mh_top.specs.Simulate.{AsksWith, Holds, HoldsSource, HoldsTooMuch, OutcomeFits, SimCompletes, SimEnds, SimFits, status_of_fault}
use Rattle.mh_top.specs.Simulated.{Asks, IsUnrunFor, Ran, RunEnds, first_run, for_source, for_request, for_inout, run_at}
use Rattle.mh_top.specs.Source.{Elaborates, IsNotMadeFor}
use Rattle.mh_top.specs.Steps.{IsNotElaborated}
use Rattle.mh_top.specs.Words.{Command, Convert, Sim, Gives, IsSim}
use Rattle.mh_top.specs.declared.sim.Step.{Step}
use Rattle.mh_top.specs.declared.sim.Step.TheVariants.{Print, Fail, Refuse}
use Rattle.mh_top.specs.declared.status.TheConstants.Status.{DONE, REFUSED, WORDS, SHELF, MEMORY, TOO_LONG}

-- ---- what is to be done for a source

module _ (source : List ℕ) (plans : List Plan) (requests : List Request) (x : Elaborates source (Ok (plans, requests))) where
  -- the run of a design, as the run that the source asks for
  done_of : (d : Design) (n : ℕ) (s : Step) → run_at plans (first_run requests) ≡ Some (plan_of d, n) → is_well_formed d ≡ true → first_inout d d.generators ≡ None → IsDone d n s → IsSimulated source s
  done_of d n (Print text l) asked fits apart h =
      (h.0, record { design = d; time = n; asks = record { plans = plans; requests = requests; elaborates = x; asked = asked }; fits = fits; apart = apart; ran = h.1 }, h.2)
  done_of d n (Fail text l code) asked fits apart h =
      let (c, time, number, v, low, high, ran, is, status) = h in
      (c, time, number, v, low, high, record { design = d; time = n; asks = record { plans = plans; requests = requests; elaborates = x; asked = asked }; fits = fits; apart = apart; ran = ran }, is, status)
  done_of d n (Refuse l) asked fits apart h = absurd h

  inout_of : (d : Design) (n number : ℕ) (s : Step) → run_at plans (first_run requests) ≡ Some (plan_of d, n) → is_well_formed d ≡ true → first_inout d d.generators ≡ Some number → step.IsRefusing (refusal.At C7Inout number []) s → IsSimulated source s
  inout_of d n number (Print text l) asked fits some h = absurd h
  inout_of d n number (Fail text l code) asked fits some h = absurd h
  inout_of d n number (Refuse l) asked fits some h =
      (C7Inout, number, for_inout d n refl (record { plans = plans; requests = requests; elaborates = x; asked = asked }) fits some, h)

  none_of : (s : Step) → run_at plans (first_run requests) ≡ None → step.IsRefusing (refusal.At C1NoTop 0 []) s → IsSimulated source s
  none_of (Print text l) none h = absurd h
  none_of (Fail text l code) none h = absurd h
  none_of (Refuse l) none h = (C1NoTop, 0, for_request plans requests refl refl x none, h)

  planned_of : (d : Design) (n : ℕ) (s : Step) → run_at plans (first_run requests) ≡ Some (plan_of d, n) → IsPlanned d n s → IsSimulated source s
  planned_of d n s asked (runs fits apart h) = done_of d n s asked fits apart h
  planned_of d n s asked (inout number fits some h) = inout_of d n number s asked fits some h

  pub simulated_of : (s : Step) → IsRunIn plans requests s → IsSimulated source s
  simulated_of s (nothing none h) = none_of s none h
  simulated_of s (something d n asked h) = planned_of d n s asked h

-- a source that is refused before anything is asked
pub unmade_of : (source : List ℕ) (c : Code) (number : ℕ) (names : List (List ℕ)) (s : Step) → IsNotMadeFor source c number → step.IsRefusing (refusal.At c number names) s → IsSimulated source s
unmade_of source c number names (Print text l) cause h = absurd h
unmade_of source c number names (Fail text l code) cause h = absurd h
unmade_of source c number names (Refuse l) cause h = (c, number, for_source cause, h)

pub refusing_of : (source : List ℕ) (r : Refusal) → IsNotElaborated source r → (s : Step) → step.IsRefusing r s → IsSimulated source s
refusing_of source refusal.Memory cause (Print text l) h = absurd h
refusing_of source refusal.Memory cause (Fail text l code) h = absurd h
refusing_of source refusal.Memory cause (Refuse l) h = absurd h
refusing_of source (refusal.At c number names) cause s h = unmade_of source c number names s cause h

-- the design of the first request for a run, with what its run comes to
pub run_in : (tops : List Design) (requests : List Request) (top n : ℕ) (d : Design) → first_run requests ≡ Some (top, n) → slice_get tops top ≡ Some d → (s : Step) → IsPlanned d n s → IsRunIn (map plan_of tops) requests s
run_in tops requests top n d first is s h =
    something d n (ap (run_at (map plan_of tops)) first ∙ ap (option_map (λ p. (p, n))) (slice_get-map plan_of tops top ∙ ap (option_map plan_of) is)) h

-- ---- the run of a design

-- a run from the start
ran_by : (d : Design) (n : ℕ) (r : Result End SimFault) (ls : List Line) (rows : List Row) (st : Standing) → RunCall d n (Between (first_moment d)) r ls rows st → (after : Moment) × Runs d n (first_moment d) r ls rows after
ran_by d n r ls rows st (between {n = m} x) = (m, x)

pub ran_from : (d e : Design) (n : ℕ) (r : Result End SimFault) (before after : List ℕ) (new : Simulator) → e ≡ d → before ≡ [] → HasRun e n (first_standing d) r before after new → Ran d n r after
ran_from d e n r before after new same none h =
    let run : RunsFrom d n (first_standing d) r h.lines h.standing = subst (λ (x : Design). RunsFrom x n (first_standing d) r h.lines h.standing) same h.runs in
    let found = ran_by d n r h.lines run.rows h.standing run.call in
    record { lines = h.lines; rows = run.rows; after = found.0; runs = found.1; is = h.text ∙ ap (λ (x : List ℕ). x ++ text_of h.lines) none }

-- a run that has met a fault
pub failing_done : (d e : Design) (n : ℕ) (f : SimFault) (before after : List ℕ) (new : Simulator) → e ≡ d → before ≡ [] → RunsUntil e n (first_standing d) (Err f) before after new → (s : Step) → IsFailing after f s → IsDone d n s
failing_done d e n simfault.Memory before after new same none h (Print text l) is = absurd is
failing_done d e n simfault.Memory before after new same none h (Fail text l k) is = absurd is
failing_done d e n simfault.Memory before after new same none h (Refuse l) is = absurd is
failing_done d e n (simfault.At k time number v low high) before after new same none h (Print text l) is = absurd is
failing_done d e n (simfault.At k time number v low high) before after new same none h (Refuse l) is = absurd is
failing_done d e n (simfault.At k time number v low high) before after new same none h (Fail text l c) is =
    let ran = ran_from d e n (Err (simfault.At k time number v low high)) before after new same none h in
    (k, time, number, v, low, high, subst (λ (x : List ℕ). Ran d n (Err (simfault.At k time number v low high)) x) (sym is.0) ran, is.1, is.2)

-- a refusal of a design whose generator reads what it drives
pub inout_planned : (d : Design) (n : ℕ) (r : Refusal) → is_well_formed d ≡ true → InoutAnswers (first_inout d d.generators) (Err r) → (s : Step) → step.IsRefusing r s → IsPlanned d n s
inout_planned d n refusal.Memory fits h (Print text l) is = absurd is
inout_planned d n refusal.Memory fits h (Fail text l k) is = absurd is
inout_planned d n refusal.Memory fits h (Refuse l) is = absurd is
inout_planned d n (refusal.At k line names) fits h (Print text l) is = absurd is
inout_planned d n (refusal.At k line names) fits h (Fail text l c) is = absurd is
inout_planned d n (refusal.At k line names) fits h (Refuse l) is = inout line fits h.0 (is ∙ ap (λ c. refusal_line c line) h.1)

-- ---- the ends of a source that was fetched

pub ends_done : (source text : List ℕ) (e : End) (x z : Option Seen) (c d : Counts) → RunEnds source (Ok e) text → HasPrinted text true (run_from x z c d) → EndsRun source (run_from x z c d) DONE
ends_done source text e x z c d ends p =
    (text, [], step.done e refl refl (record { fetch = p.fetch; store = p.store; print = p.kept refl }) ends, speaks_text text x z c d p)

pub ends_unprinted : (source text fault : List ℕ) (e : End) (x y z : Option Seen) (c d f : Counts) (status : ℕ) → RunEnds source (Ok e) text → fault ≡ printing_line → HasPrinted text false (run_from x y c d) → status ≡ SHELF → OnlyComplains fault (run_from y z d f) → EndsRun source (run_from x z c f) status
ends_unprinted source text fault e x y z c d f status ends line p code said =
    let here : OnlyComplains printing_line (run_from y z d f) = subst (λ (l : List ℕ). OnlyComplains l (run_from y z d f)) line said in (
      text,
      printing_line,
      step.unprinted e code refl (p.rose refl).0 (failed_both text printing_line x y z c d f p here) ends,
      speaks_both false text printing_line x y z c d f p here,
    )

pub ends_failed : (source text line : List ℕ) (k : Code) (time number : ℕ) (v low high : ℤ) (done : Bool) (x y z : Option Seen) (c d f : Counts) (code status : ℕ) → RunEnds source (Err (simfault.At k time number v low high)) text → line ≡ fault_line k time number v low high → code ≡ status_of_fault k → HasPrinted text done (run_from x y c d) → status ≡ code → OnlyComplains line (run_from y z d f) → EndsRun source (run_from x z c f) status
ends_failed source text line k time number v low high done x y z c d f code status ends is of p said_code said =
    let here : OnlyComplains (fault_line k time number v low high) (run_from y z d f) = subst (λ (l : List ℕ). OnlyComplains l (run_from y z d f)) is said in (
      text,
      fault_line k time number v low high,
      step.failed k time number v low high (said_code ∙ of) refl (at_most done text (fault_line k time number v low high) x y z c d f p here) ends,
      speaks_both done text (fault_line k time number v low high) x y z c d f p here,
    )

pub ends_refused : (source line : List ℕ) (k : Code) (number : ℕ) (x z : Option Seen) (c d : Counts) (status : ℕ) → IsUnrunFor source k number → line ≡ refusal_line k number → status ≡ REFUSED → OnlyComplains line (run_from x z c d) → EndsRun source (run_from x z c d) status
ends_refused source line k number x z c d status cause is code said =
    let here : OnlyComplains (refusal_line k number) (run_from x z c d) = subst (λ (l : List ℕ). OnlyComplains l (run_from x z c d)) is said in
    ([], refusal_line k number, step.refused k number code refl refl here.faults cause, speaks_alone (refusal_line k number) x z c d here)

pub ends_memory : (source : List ℕ) (x z : Option Seen) (c d : Counts) (status : ℕ) → status ≡ MEMORY → OnlyComplains memory_line (run_from x z c d) → EndsRun source (run_from x z c d) status
ends_memory source x z c d status code said =
    ([], memory_line, step.no_memory code refl refl said.faults, speaks_alone memory_line x z c d said)

-- ---- from the source to the command

-- what the file holds, as the fetch found it
abbrev Holding : List ℕ → List ℕ → Seen → Type 0
Holding file bytes s = (held : List ℕ) × (s.holds file ≡ Some held) × IsPortion Whole held (2 ^ 20) bytes

holding_of : (file source : List ℕ) (Is : List ℕ → Type 0) (x : Option Seen) → IfSome x (Holding file source) → length source ≤ 2 ^ 20 → Is source → IfSome x (HoldsSource file Is)
holding_of file source Is None h within is = tt
holding_of file source Is (Some s) h within is = record { source = source; held = h.1 ∙ ap Some h.2.1; within = within; is = is }

module _ (file source : List ℕ) (run : Run) (status : ℕ) (text line : List ℕ) (holding : IfSome run.before (Holding file source)) (within : length source ≤ 2 ^ 20) where
  lifted : SourceRunEnds source run status text line → SimEnds file run status text line
  lifted (step.done e p q f ends) = simulate.done e p q f (holding_of file source (λ s. RunEnds s (Ok e) text) run.before holding within ends)
  lifted (step.unprinted e p q some f ends) = simulate.unprinted e p q some f (holding_of file source (λ s. RunEnds s (Ok e) text) run.before holding within ends)
  lifted (step.failed k time number v low high p q f ends) =
      simulate.failed k time number v low high p q f (holding_of file source (λ s. RunEnds s (Err (simfault.At k time number v low high)) text) run.before holding within ends)
  lifted (step.refused k number p q r f cause) = simulate.refused k number p q r f (holding_of file source (λ s. IsUnrunFor s k number) run.before holding within cause)
  lifted (step.no_memory p q r f) = simulate.no_memory p q r (inl f)

-- a fetch that fails nowhere leaves the counts
counts_kept : (c d : Counts) → d.fetch ≡ c.fetch → d ≡ record c { fetch = d.fetch } → d ≡ c
counts_kept c d counted others = others ∙ ap (λ n. record { fetch = n; store = c.store; print = c.print; complain = c.complain }) counted

same_run : (x y z : Option Seen) (c d e : Counts) → y ≡ x → d ≡ c → run_from y z d e ≡ run_from x z c e
same_run x y z c d e seen counts = ap (λ (s : Option Seen). run_from s z d e) seen ∙ ap (λ (k : Counts). run_from x z k e) counts

-- ---- completeness

-- a design has one outcome
module _ (once : (d : Design) (limit : ℕ) (m : Moment) (r r' : Result End SimFault) (ls ls' : List Line) (rows rows' : List Row) (n n' : Moment) → Runs d limit m r ls rows n → Runs d limit m r' ls' rows' n' → (r ≡ r') × (ls ≡ ls') × (rows ≡ rows') × (n ≡ n')) where
  ran_once : (d : Design) (n : ℕ) (r r' : Result End SimFault) (text text' : List ℕ) → Ran d n r text → Ran d n r' text' → r ≡ r'
  ran_once d n r r' text text' a b = (once d n _ r r' a.lines b.lines a.rows b.rows a.after b.after a.runs b.runs).0

  -- the outcome of a run without a fault, and of one with a fault
  fits_done : (d : Design) (n status : ℕ) (e : End) (text : List ℕ) → is_well_formed d ≡ true → first_inout d d.generators ≡ None → Ran d n (Ok e) text → status ≡ DONE → OutcomeFits d n status
  fits_done d n status e text fits apart ran code = record {
    done = λ e' text' fits' apart' ran'. inl code;
    failed = λ k time number v low high text' fits' apart' ran'.
        let same : Ok e ≡ Err (simfault.At k time number v low high) = ran_once d n (Ok e) (Err (simfault.At k time number v low high)) text text' ran ran' in
        cc;
    refused = λ number fits' some. let other : first_inout d d.generators ≡ Some number = some in cc;
  }

  fits_failed : (d : Design) (n status : ℕ) (k : Code) (time number : ℕ) (v low high : ℤ) (text : List ℕ) → is_well_formed d ≡ true → first_inout d d.generators ≡ None → Ran d n (Err (simfault.At k time number v low high)) text → status ≡ status_of_fault k → OutcomeFits d n status
  fits_failed d n status k time number v low high text fits apart ran code = record {
    done = λ e' text' fits' apart' ran'.
        let same : Err (simfault.At k time number v low high) ≡ Ok e' = ran_once d n (Err (simfault.At k time number v low high)) (Ok e') text text' ran ran' in
        cc;
    failed = λ k' time' number' v' low' high' text' fits' apart' ran'.
        let same : Err (simfault.At k time number v low high) ≡ Err (simfault.At k' time' number' v' low' high') = ran_once d n _ _ text text' ran ran' in
        let is : k ≡ k' = cc in
        inl (code ∙ ap status_of_fault is);
    refused = λ line fits' some. let other : first_inout d d.generators ≡ Some line = some in cc;
  }

  fits_inout : (d : Design) (n status number : ℕ) → is_well_formed d ≡ true → first_inout d d.generators ≡ Some number → status ≡ REFUSED → OutcomeFits d n status
  fits_inout d n status number fits is code = record {
    done = λ e' text' fits' apart' ran'. let other : first_inout d d.generators ≡ None = apart' in cc;
    failed = λ k time line v low high text' fits' apart' ran'. let other : first_inout d d.generators ≡ None = apart' in cc;
    refused = λ line fits' some. inl code;
  }

  fits_memory : (d : Design) (n status : ℕ) → status ≡ MEMORY → OutcomeFits d n status
  fits_memory d n status code = record {
    done = λ e text fits apart ran. inr code;
    failed = λ k time number v low high text fits apart ran. inr code;
    refused = λ number fits some. inr code;
  }

  -- a source that asks for a run was made, and asks for one
  asks_made : (source : List ℕ) (d : Design) (n : ℕ) (k : Code) (number : ℕ) → Asks source d n → IsNotMadeFor source k number → ⊥
  asks_made source d n k number asks cause = not_made_once source k number asks.plans asks.requests cause asks.elaborates

  asks_one : (source : List ℕ) (d : Design) (n : ℕ) (plans : List Plan) (requests : List Request) → Asks source d n → Elaborates source (Ok (plans, requests)) → run_at plans (first_run requests) ≡ None → ⊥
  asks_one source d n plans requests asks x none =
      let ps = same_plans source asks.plans plans asks.requests requests asks.elaborates x in
      let rs = same_requests source asks.plans plans asks.requests requests asks.elaborates x in
      none_some (plan_of d, n) (sym none ∙ sym (ap (λ (r : List Request). run_at plans (first_run r)) rs) ∙ sym (ap (λ (p : List Plan). run_at p (first_run asks.requests)) ps) ∙ asks.asked)

  module _ (source : List ℕ) (run : Run) (status : ℕ) (text line : List ℕ) (within : length source ≤ 2 ^ 20) where
    -- the status of a source that asks for this run
    asking : (d : Design) (n : ℕ) → Asks source d n → OutcomeFits d n status → SimFits source status
    asking d n asks fits = record {
      asked = λ d' n' w a. record { design = d; time = n; asks = asks; fits = fits };
      unasked = λ plans requests w x none. absurd (asks_one source d n plans requests asks x none);
      unmade = λ k number w cause. absurd (asks_made source d n k number asks cause);
      too_long = λ beyond. absurd (omega arith);
    }

    refusing : (k : Code) (number : ℕ) → status ≡ REFUSED → IsUnrunFor source k number → SimFits source status
    refusing k number code (for_source cause) = record {
      asked = λ d n w asks. absurd (asks_made source d n k number asks cause);
      unasked = λ plans requests w x none. inl code;
      unmade = λ c l w other. inl code;
      too_long = λ beyond. absurd (omega arith);
    }
    refusing k number code (for_request plans requests is at x none) = record {
      asked = λ d n w asks. absurd (asks_one source d n plans requests asks x none);
      unasked = λ plans' requests' w x' none'. inl code;
      unmade = λ c l w other. inl code;
      too_long = λ beyond. absurd (omega arith);
    }
    refusing k number code (for_inout d n is asks fits some) = asking d n asks (fits_inout d n status number fits some code)

    fits : SourceRunEnds source run status text line → (Rose run.faults_before.print run.faults_after.print → ⊥) → SimFits source status
    fits (step.done e p q f ends) quiet = asking ends.design ends.time ends.asks (fits_done ends.design ends.time status e text ends.fits ends.apart ends.ran p)
    fits (step.unprinted e p q some f ends) quiet = absurd (quiet f.print)
    fits (step.failed k time number v low high p q f ends) quiet = asking ends.design ends.time ends.asks (fits_failed ends.design ends.time status k time number v low high text ends.fits ends.apart ends.ran p)
    fits (step.refused k number p q r f cause) quiet = refusing k number p cause
    fits (step.no_memory p q r f) quiet = record {
      asked = λ d n w asks. record { design = d; time = n; asks = asks; fits = fits_memory d n status p };
      unasked = λ plans requests w x none. inr p;
      unmade = λ c l w other. inr p;
      too_long = λ beyond. inr p;
    }

  -- a shelf that tells, tells of one source
  fits_told : (file source : List ℕ) (status : ℕ) (x : Option Seen) → IfSome x (Holding file source) → SimFits source status → IfSome x (λ before. (other : List ℕ) → before.holds file ≡ Some other → SimFits other status)
  fits_told file source status None holding fits = tt
  fits_told file source status (Some s) holding fits = λ other held.
      let first : s.holds file ≡ Some source = holding.1 ∙ ap Some holding.2.1 in
      let same : Some source ≡ Some other = sym first ∙ held in
      let is : source ≡ other = cc in
      subst (λ (bytes : List ℕ). SimFits bytes status) is fits

  pub whole_completes : (file source : List ℕ) (x y z : Option Seen) (c d e : Counts) (status : ℕ) → Finds Whole x file (2 ^ 20) source → y ≡ x → d.fetch ≡ c.fetch → d ≡ record c { fetch = d.fetch } → EndsRun source (run_from y z d e) status → SimCompletes file (run_from x z c e) status
  whole_completes file source x y z c d e status found seen counted others ends =
      let here = subst (λ (run : Run). EndsRun source run status) (same_run x y z c d e seen (counts_kept c d counted others)) ends in
      λ quiet_fetch quiet_print. fits_told file source status x found.told (fits source (run_from x z c e) status here.0 here.1 found.within here.2 quiet_print)

pub whole_ends : (file source : List ℕ) (x y z : Option Seen) (c d e : Counts) (status : ℕ) → Finds Whole x file (2 ^ 20) source → y ≡ x → d.fetch ≡ c.fetch → d ≡ record c { fetch = d.fetch } → EndsRun source (run_from y z d e) status → Ends (Sim file) (run_from x z c e) status
whole_ends file source x y z c d e status found seen counted others ends =
    let here = subst (λ (run : Run). EndsRun source run status) (same_run x y z c d e seen (counts_kept c d counted others)) ends in
    (here.0, here.1, lifted file source (run_from x z c e) status here.0 here.1 found.told found.within here.2, here.3)

-- the source is too long
abbrev HoldingMore : List ℕ → List ℕ → Seen → Type 0
HoldingMore file bytes s = (held : List ℕ) × (s.holds file ≡ Some held) × IsPortion TooLong held (2 ^ 20) bytes

longer : (bytes held : List ℕ) → length bytes ≡ 2 ^ 20 + 1 → IsFront bytes held → 2 ^ 20 < length held
longer bytes held long front = omega (arith, ap length front.1, length-append bytes front.0)

too_much : (file bytes : List ℕ) (x : Option Seen) → IfSome x (HoldingMore file bytes) → IfSome x (HoldsTooMuch file)
too_much file bytes None h = tt
too_much file bytes (Some s) h = record { source = h.0; held = h.1; beyond = longer bytes h.0 h.2.0 h.2.1 }

-- a line that was made, or want of memory for it
abbrev Said : Result (Vec ℕ Global) Memory → ℕ → ℕ → Type 0
Said made status code = MatchResult made (λ l. status ≡ code) (λ l. status ≡ MEMORY)

abbrev SaidOf : Result (Vec ℕ Global) Memory → Run → Type 0
SaidOf made run = MatchResult made (λ l. OnlyComplains l.items run) (λ l. OnlyComplains memory_line run)

pub too_long_ends : (file bytes : List ℕ) (made : Result (Vec ℕ Global) Memory) (x y z : Option Seen) (c d e : Counts) (status : ℕ) → Finds TooLong x file (2 ^ 20) bytes → y ≡ x → d.fetch ≡ c.fetch → d ≡ record c { fetch = d.fetch } → IfOk made (λ l. l.items ≡ too_long_line file) → Said made status TOO_LONG → SaidOf made (run_from y z d e) → Ends (Sim file) (run_from x z c e) status
too_long_ends file bytes (Ok l) x y z c d e status found seen counted others line code said =
    let is = same_run x y z c d e seen (counts_kept c d counted others) in
    let here = subst (λ (run : Run). OnlyComplains (too_long_line file) run) is (subst (λ (text : List ℕ). OnlyComplains text (run_from y z d e)) line said) in
    ([], too_long_line file, simulate.too_long code refl refl here.faults (too_much file bytes x found.told), speaks_alone (too_long_line file) x z c e here)
too_long_ends file bytes (Err l) x y z c d e status found seen counted others line code said =
    let is = same_run x y z c d e seen (counts_kept c d counted others) in
    let here = subst (λ (run : Run). OnlyComplains memory_line run) is said in
    ([], memory_line, simulate.no_memory code refl refl (inl here.faults), speaks_alone memory_line x z c e here)

-- the source wasn't fetched
failed_fetch : (x z : Option Seen) (c d e : Counts) → Counted true c.fetch d.fetch → d ≡ record c { fetch = d.fetch } → IsFaultFree (run_from x z d e) → HasFailedFetch (run_from x z c e)
failed_fetch x z c d e counted others free = record {
  fetch = subst (Rose c.fetch) (sym free.fetch) counted.1;
  store = free.store ∙ ap (λ (k : Counts). k.store) others;
  print = free.print ∙ ap (λ (k : Counts). k.print) others;
}

-- a speech since the fetch is one since the start
speaks_since : (line : List ℕ) (x y z : Option Seen) (c d e : Counts) → y ≡ x → d ≡ record c { fetch = d.fetch } → Speaks [] line (run_from y z d e) → Speaks [] line (run_from x z c e)
speaks_since line x y z c d e seen others h =
    let here = subst (λ (s : Option Seen). Told (Spoke [] line d e) s z) seen h in
    told_as (Spoke [] line d e) (Spoke [] line c e) x z
    (λ a b s. record {
      output = subst (λ n. WentOut [] n e.print a.printed b.printed) (ap (λ (k : Counts). k.print) others) s.output;
      error = subst (λ n. WentOut line n e.complain a.complained b.complained) (ap (λ (k : Counts). k.complain) others) s.error;
      names = s.names;
    }) here

pub unfetched_ends : (file : List ℕ) (made : Result (Vec ℕ Global) Memory) (x y z : Option Seen) (c d e : Counts) (status : ℕ) → y ≡ x → Counted true c.fetch d.fetch → d ≡ record c { fetch = d.fetch } → IfOk made (λ l. l.items ≡ shelf_line file) → Said made status SHELF → SaidOf made (run_from y z d e) → Ends (Sim file) (run_from x z c e) status
unfetched_ends file (Ok l) x y z c d e status seen counted others line code said =
    let here = subst (λ (text : List ℕ). OnlyComplains text (run_from y z d e)) line said in
    let free : IsFaultFree (run_from x z d e) = record { fetch = here.faults.fetch; store = here.faults.store; print = here.faults.print } in
    ([], shelf_line file, simulate.unfetched code refl refl (failed_fetch x z c d e counted others free), speaks_since (shelf_line file) x y z c d e seen others (speaks_alone (shelf_line file) y z d e here))
unfetched_ends file (Err l) x y z c d e status seen counted others line code said =
    let free : IsFaultFree (run_from x z d e) = record { fetch = said.faults.fetch; store = said.faults.store; print = said.faults.print } in
    ([], memory_line, simulate.no_memory code refl refl (inr (failed_fetch x z c d e counted others free)), speaks_since memory_line x y z c d e seen others (speaks_alone memory_line y z d e said))

-- memory was wanting for the source
pub memory_ends : (file : List ℕ) (x y z : Option Seen) (c d e : Counts) (status : ℕ) → y ≡ x → d.fetch ≡ c.fetch → d ≡ record c { fetch = d.fetch } → status ≡ MEMORY → OnlyComplains memory_line (run_from y z d e) → Ends (Sim file) (run_from x z c e) status
memory_ends file x y z c d e status seen counted others code said =
    let here = subst (λ (run : Run). OnlyComplains memory_line run) (same_run x y z c d e seen (counts_kept c d counted others)) said in
    ([], memory_line, simulate.no_memory code refl refl (inl here.faults), speaks_alone memory_line x z c e here)

-- the command never ends with the status of words that give none
pub never_words : (file : List ℕ) (run : Run) (status : ℕ) → Ends (Sim file) run status → status ≡ WORDS → ⊥
never_words file run status ends is = by ends.0 ends.1 ends.2
  where
    differ : (k : ℕ) → status ≡ k → eqb k WORDS ≡ false → ⊥
    differ k p other = eqb-false k WORDS other (sym p ∙ is)

    fault : (k : Code) → eqb (status_of_fault k) WORDS ≡ false
    fault code.X7DeltaLimit = refl
    fault code.X8TurnLimit = refl
    fault k = refl

    by : (text line : List ℕ) → SimEnds file run status text line → ⊥
    by text line (simulate.done e p q f h) = differ DONE p refl
    by text line (simulate.unprinted e p q some f h) = differ SHELF p refl
    by text line (simulate.failed k time number v low high p q f h) = differ (status_of_fault k) p (fault k)
    by text line (simulate.refused k number p q r f h) = differ REFUSED p refl
    by text line (simulate.unfetched p q r f) = differ SHELF p refl
    by text line (simulate.no_memory p q r f) = differ MEMORY p refl
    by text line (simulate.too_long p q r f h) = differ TOO_LONG p refl

-- what the command completes as, said of each command that the words give
pub completes_as : (words : List (List ℕ)) (file : List ℕ) (run : Run) (status : ℕ) → IsSim words file → SimCompletes file run status → (command : Command) → Gives words command → Completes command run status
completes_as words file run status one completes (Sim file') other = subst (λ (name : List ℕ). SimCompletes name run status) (same_source words file file' one other) completes
completes_as words file run status one completes (Convert file' out') other = absurd (not_sim words file' out' file other one)

-- how the command ends, said of each command that the words give
pub ends_as : (words : List (List ℕ)) (file : List ℕ) (run : Run) (status : ℕ) → IsSim words file → Ends (Sim file) run status → (command : Command) → Gives words command → Ends command run status
ends_as words file run status one ends (Sim file') other = subst (λ (name : List ℕ). Ends (Sim name) run status) (same_source words file file' one other) ends
ends_as words file run status one ends (Convert file' out') other = absurd (not_sim words file' out' file other one)
