-- How `sim FILE` ends. These rules are this project's own.
use Rattle.std.specs.Prelude.{ℕ, ℤ, List, [], ◌≡◌, ◌≢◌, ◌⊎◌, ◌^◌, ◌<◌, true, false, Some, None, IfSome, Ok, Err, length}
use Rattle.mh_design.specs.declared.design.Design.{Design}
use Rattle.mh_design.specs.Inout.{first_inout}
use Rattle.mh_design.specs.WellFormed.{is_well_formed}
use Rattle.mh_host.specs.Shelf.{Seen, Rose}
use Rattle.mh_plans.specs.Plans.{Plan}
use Rattle.mh_plans.specs.declared.designs.Request.{Request}
use Rattle.mh_sched.specs.declared.answer.End.{End}
use Rattle.mh_sched.specs.declared.fault.SimFault.TheVariants as simfault
use Rattle.mh_text.specs.declared.code.Code.{Code}
use Rattle.mh_text.specs.declared.code.Code.TheVariants as code
use Rattle.mh_top.specs.Convert.{IsOrMemory, IsWithinLimit}
use Rattle.mh_top.specs.Lines.{fault_line, memory_line, printing_line, refusal_line, shelf_line, too_long_line}
use Rattle.mh_top.specs.Run.{Run, IsFaultFree, HasFailedFetch, HasFailedPrint}
use Rattle.mh_top.specs.Simulated.{Asks, IsUnrunFor, Ran, RunEnds, first_run, run_at}
use Rattle.mh_top.specs.Source.{Elaborates, IsNotMadeFor}
use Rattle.mh_top.specs.declared.status.TheConstants.Status.{DONE, REFUSED, FAULT, SHELF, MEMORY, TOO_LONG}

-- The status of a fault of a run: a limit was met, or another fault.
abbrev pub status_of_fault : Code → ℕ
status_of_fault code.X7DeltaLimit = TOO_LONG
status_of_fault code.X8TurnLimit = TOO_LONG
status_of_fault c = FAULT

-- The file holds a source within the limit of which this is true.
pub record HoldsSource (file : List ℕ) (Is : List ℕ → Type 0) (before : Seen) : Type 0 where
  pub source : List ℕ
  pub held : before.holds file ≡ Some source
  pub within : IsWithinLimit source
  pub is : Is source

-- The file holds more bytes than the limit.
pub record HoldsTooMuch (file : List ℕ) (before : Seen) : Type 0 where
  pub source : List ℕ
  pub held : before.holds file ≡ Some source
  pub beyond : 2 ^ 20 < length source

-- The same where the shelf tells.
abbrev pub Holds : List ℕ → (List ℕ → Type 0) → Run → Type 0
Holds file Is run = IfSome run.before (HoldsSource file Is)

-- No call failed, or the print of a text.
abbrev pub PrintsAtMost : List ℕ → Run → Type 0
PrintsAtMost text run = IsFaultFree run ⊎ ((text ≢ []) × HasFailedPrint run)

-- The ends of the command: the status, the printed text and the error line of each, and why it comes. What is said of the source is
-- said where the shelf tells.
pub data SimEnds (file : List ℕ) (run : Run) (status : ℕ) (text line : List ℕ) : Type 0 where
  -- the run met no fault, and no call failed
  done : (e : End) → status ≡ DONE → line ≡ [] → IsFaultFree run → Holds file (λ source. RunEnds source (Ok e) text) run → SimEnds file run status text line
  -- the run met no fault, and its lines weren't printed
  unprinted : (e : End) → status ≡ SHELF → line ≡ printing_line → text ≢ [] → HasFailedPrint run → Holds file (λ source. RunEnds source (Ok e) text) run → SimEnds file run status text line
  -- the run met a fault, after the lines before it, also where these weren't printed
  failed : (c : Code) (time number : ℕ) (v low high : ℤ) → status ≡ status_of_fault c → line ≡ fault_line c time number v low high → PrintsAtMost text run →
      Holds file (λ source. RunEnds source (Err (simfault.At c time number v low high)) text) run → SimEnds file run status text line
  -- the source asks for no run, or for one that isn't done
  refused : (c : Code) (number : ℕ) → status ≡ REFUSED → text ≡ [] → line ≡ refusal_line c number → IsFaultFree run →
      Holds file (λ source. IsUnrunFor source c number) run → SimEnds file run status text line
  -- the source wasn't fetched
  unfetched : status ≡ SHELF → text ≡ [] → line ≡ shelf_line file → HasFailedFetch run → SimEnds file run status text line
  -- memory was wanting, maybe for the line of a fetch that failed
  no_memory : status ≡ MEMORY → text ≡ [] → line ≡ memory_line → IsFaultFree run ⊎ HasFailedFetch run → SimEnds file run status text line
  -- the source is longer than its limit
  too_long : status ≡ TOO_LONG → text ≡ [] → line ≡ too_long_line file → IsFaultFree run → IfSome run.before (HoldsTooMuch file) → SimEnds file run status text line

-- Which status comes for what a run of a design comes to.
pub record OutcomeFits (d : Design) (n status : ℕ) : Type 0 where
  pub done : (e : End) (text : List ℕ) → is_well_formed d ≡ true → first_inout d d.generators ≡ None → Ran d n (Ok e) text → IsOrMemory status DONE
  pub failed : (c : Code) (time number : ℕ) (v low high : ℤ) (text : List ℕ) → is_well_formed d ≡ true → first_inout d d.generators ≡ None →
      Ran d n (Err (simfault.At c time number v low high)) text → IsOrMemory status (status_of_fault c)
  pub refused : (number : ℕ) → is_well_formed d ≡ true → first_inout d d.generators ≡ Some number → IsOrMemory status REFUSED

-- A source asks for a run of a design whose outcome the status fits.
pub record AsksWith (source : List ℕ) (status : ℕ) : Type 0 where
  pub design : Design
  pub time : ℕ
  pub asks : Asks source design time
  pub fits : OutcomeFits design time status

-- Which status comes for what the file holds, where no fetch and no print fails.
pub record SimFits (source : List ℕ) (status : ℕ) : Type 0 where
  pub asked : (d : Design) (n : ℕ) → IsWithinLimit source → Asks source d n → AsksWith source status
  pub unasked : (plans : List Plan) (requests : List Request) → IsWithinLimit source → Elaborates source (Ok (plans, requests)) → run_at plans (first_run requests) ≡ None → IsOrMemory status REFUSED
  pub unmade : (c : Code) (number : ℕ) → IsWithinLimit source → IsNotMadeFor source c number → IsOrMemory status REFUSED
  pub too_long : 2 ^ 20 < length source → IsOrMemory status TOO_LONG

-- Where the shelf tells what the file holds, and neither the count of fetches nor that of prints rose, that status comes.
abbrev pub SimCompletes : List ℕ → Run → ℕ → Type 0
SimCompletes file run status =
    (Rose run.faults_before.fetch run.faults_after.fetch → ⊥)
    → (Rose run.faults_before.print run.faults_after.print → ⊥)
    → IfSome run.before (λ before. (source : List ℕ) → before.holds file ≡ Some source → SimFits source status)
