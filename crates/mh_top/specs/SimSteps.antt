-- What the steps of a simulation leave. This serves the proof alone: what the command promises is said by `SimEnds`.
use Rattle.std.specs.Prelude.{ℕ, ℤ, List, [], ◌≡◌, ◌≢◌, Bool, true, false, Some, None, Ok, Err}
use Rattle.mh_design.specs.declared.design.Design.{Design}
use Rattle.mh_design.specs.Inout.{first_inout}
use Rattle.mh_design.specs.WellFormed.{is_well_formed}
use Rattle.mh_host.specs.Shelf.{Seen, Rose, Told, Appends}
use Rattle.mh_plans.specs.Planned.{plan_of}
use Rattle.mh_plans.specs.Plans.{Plan}
use Rattle.mh_plans.specs.declared.designs.Request.{Request}
use Rattle.mh_sched.specs.declared.answer.End.{End}
use Rattle.mh_sched.specs.declared.fault.SimFault.{SimFault}
use Rattle.mh_sched.specs.declared.fault.SimFault.TheVariants as simfault
use Rattle.mh_text.specs.declared.code.Code.{Code}
use Rattle.mh_text.specs.declared.code.Code.TheVariants.{C1NoTop, C7Inout}
use Rattle.mh_text.specs.declared.refusal.Refusal.{Refusal}
use Rattle.mh_text.specs.declared.refusal.Refusal.TheVariants as refusal
use Rattle.mh_top.specs.Lines.{fault_line, memory_line, printing_line, refusal_line}
use Rattle.mh_top.specs.Run.{Run, IsFaultFree, HasFailedPrint, SameNames, Speaks}
use Rattle.mh_top.specs.Simulate.{PrintsAtMost, status_of_fault}
use Rattle.mh_top.specs.Simulated.{IsUnrunFor, Ran, RunEnds, first_run, run_at}
use Rattle.mh_top.specs.declared.sim.Step.{Step}
use Rattle.mh_top.specs.declared.sim.Step.TheVariants.{Print, Fail, Refuse}
use Rattle.mh_top.specs.declared.status.TheConstants.Status.{DONE, REFUSED, SHELF, MEMORY}

-- It refuses with the line of the refusal.
abbrev pub IsRefusing : Refusal → Step → Type 0
IsRefusing (refusal.At code line names) (Refuse l) = l.items ≡ refusal_line code line
IsRefusing r s = ⊥

-- It fails with this fault, after this text.
abbrev pub IsFailing : List ℕ → SimFault → Step → Type 0
IsFailing text (simfault.At c time number v low high) (Fail bytes l code) =
    (bytes.items ≡ text) × (l.items ≡ fault_line c time number v low high) × (code ≡ status_of_fault c)
IsFailing text f s = ⊥

-- What a run of a design up to a time comes to.
abbrev pub IsDone : Design → ℕ → Step → Type 0
IsDone d n (Print text l) = (e : End) × Ran d n (Ok e) text.items × (l.items ≡ printing_line)
IsDone d n (Fail text l code) =
    (c : Code) × (time number : ℕ) × (v low high : ℤ) × Ran d n (Err (simfault.At c time number v low high)) text.items × (l.items ≡ fault_line c time number v low high) × (code ≡ status_of_fault c)
IsDone d n (Refuse l) = ⊥

-- The same, unless a generator reads what it drives.
pub data IsPlanned (d : Design) (n : ℕ) (s : Step) : Type 0 where
  runs : is_well_formed d ≡ true → first_inout d d.generators ≡ None → IsDone d n s → IsPlanned d n s
  inout : (number : ℕ) → is_well_formed d ≡ true → first_inout d d.generators ≡ Some number → IsRefusing (refusal.At C7Inout number []) s → IsPlanned d n s

-- What designs and requests come to.
pub data IsRunIn (plans : List Plan) (requests : List Request) (s : Step) : Type 0 where
  nothing : run_at plans (first_run requests) ≡ None → IsRefusing (refusal.At C1NoTop 0 []) s → IsRunIn plans requests s
  something : (d : Design) (n : ℕ) → run_at plans (first_run requests) ≡ Some (plan_of d, n) → IsPlanned d n s → IsRunIn plans requests s

-- What a source comes to.
abbrev pub IsSimulated : List ℕ → Step → Type 0
IsSimulated source (Print text l) = (e : End) × RunEnds source (Ok e) text.items × (l.items ≡ printing_line)
IsSimulated source (Fail text l code) =
    (c : Code) × (time number : ℕ) × (v low high : ℤ) × RunEnds source (Err (simfault.At c time number v low high)) text.items ×
    (l.items ≡ fault_line c time number v low high) × (code ≡ status_of_fault c)
IsSimulated source (Refuse l) = (c : Code) × (number : ℕ) × IsUnrunFor source c number × (l.items ≡ refusal_line c number)

-- The text, or a front of it, stands in the output, and nothing else changed.
pub record Wrote (done : Bool) (text : List ℕ) (before after : Seen) : Type 0 where
  pub printed : Appends done text before.printed after.printed
  pub names : SameNames before after
  pub complained : after.complained ≡ before.complained

-- A text was printed, all of it or a front, unless it is empty.
pub record HasPrinted (text : List ℕ) (done : Bool) (run : Run) : Type 0 where
  pub fetch : run.faults_after.fetch ≡ run.faults_before.fetch
  pub store : run.faults_after.store ≡ run.faults_before.store
  pub complain : run.faults_after.complain ≡ run.faults_before.complain
  pub kept : done ≡ true → run.faults_after.print ≡ run.faults_before.print
  pub rose : done ≡ false → (text ≢ []) × Rose run.faults_before.print run.faults_after.print
  pub told : Told (Wrote done text) run.before run.after

-- The ends of a simulation whose source is fetched.
pub data SourceRunEnds (source : List ℕ) (run : Run) (status : ℕ) (text line : List ℕ) : Type 0 where
  done : (e : End) → status ≡ DONE → line ≡ [] → IsFaultFree run → RunEnds source (Ok e) text → SourceRunEnds source run status text line
  unprinted : (e : End) → status ≡ SHELF → line ≡ printing_line → text ≢ [] → HasFailedPrint run → RunEnds source (Ok e) text → SourceRunEnds source run status text line
  failed : (c : Code) (time number : ℕ) (v low high : ℤ) → status ≡ status_of_fault c → line ≡ fault_line c time number v low high → PrintsAtMost text run →
      RunEnds source (Err (simfault.At c time number v low high)) text → SourceRunEnds source run status text line
  refused : (c : Code) (number : ℕ) → status ≡ REFUSED → text ≡ [] → line ≡ refusal_line c number → IsFaultFree run → IsUnrunFor source c number → SourceRunEnds source run status text line
  no_memory : status ≡ MEMORY → text ≡ [] → line ≡ memory_line → IsFaultFree run → SourceRunEnds source run status text line

abbrev pub EndsRun : List ℕ → Run → ℕ → Type 0
EndsRun source run status = (text line : List ℕ) × SourceRunEnds source run status text line × Speaks text line run
