-- What a source asks to run, and how that run ends. These rules are this project's own.
use Rattle.std.specs.Prelude.{ℕ, List, [], ◌∷◌, ◌≡◌, Bool, true, false, Option, Some, None, Result, Ok, if◌then◌else◌, slice_get}
use Rattle.std.specs.Option.{option_map}
use Rattle.mh_design.specs.declared.design.Design.{Design}
use Rattle.mh_design.specs.Inout.{first_inout}
use Rattle.mh_design.specs.WellFormed.{is_well_formed}
use Rattle.mh_plans.specs.Planned.{plan_of}
use Rattle.mh_plans.specs.Plans.{Plan}
use Rattle.mh_plans.specs.declared.designs.Request.{Request}
use Rattle.mh_sched.specs.declared.answer.End.{End}
use Rattle.mh_sched.specs.declared.fault.SimFault.{SimFault}
use Rattle.mh_sched.specs.Lines.{Line, text_of}
use Rattle.mh_sched.specs.Runs.{Moment, Row, Runs, first_moment}
use Rattle.mh_text.specs.declared.code.Code.{Code}
use Rattle.mh_text.specs.declared.code.Code.TheVariants.{C1NoTop, C7Inout}
use Rattle.mh_top.specs.Source.{Elaborates, IsNotMadeFor}
use Rattle.mh_world.specs.declared.kinds.Verb.{Verb}
use Rattle.mh_world.specs.declared.kinds.Verb.TheVariants.{Convert, RunSim}

-- A request asks for a run.
abbrev pub is_run : Verb → Bool
is_run Convert = false
is_run RunSim = true

-- The first request for a run: the place of its design, and the time up to which it goes.
abbrev pub first_run : List Request → Option (ℕ × ℕ)
first_run [] = None
first_run (r ∷ rs) = if is_run r.verb then Some (r.top, r.n) else first_run rs

-- The design that it asks for, with that time.
abbrev pub run_at : List Plan → Option (ℕ × ℕ) → Option (Plan × ℕ)
run_at plans None = None
run_at plans (Some r) = option_map (λ p. (p, r.1)) (slice_get plans r.0)

-- A source asks for a run of this design up to this time, that one included.
pub record Asks (source : List ℕ) (d : Design) (n : ℕ) : Type 0 where
  pub plans : List Plan
  pub requests : List Request
  pub elaborates : Elaborates source (Ok (plans, requests))
  pub asked : run_at plans (first_run requests) ≡ Some (plan_of d, n)

-- Why a source isn't run, by a code and a line: it has no designs and requests; no request asks for a run, which has no line; or in the
-- design that the first asks for the generator that is defined on the line, an `@always_comb`, is the first that reads a signal which it
-- drives.
pub data IsUnrunFor (source : List ℕ) (code : Code) (line : ℕ) : Type 0 where
  for_source : IsNotMadeFor source code line → IsUnrunFor source code line
  for_request : (plans : List Plan) (requests : List Request) → code ≡ C1NoTop → line ≡ 0 → Elaborates source (Ok (plans, requests)) →
      run_at plans (first_run requests) ≡ None → IsUnrunFor source code line
  for_inout : (d : Design) (n : ℕ) → code ≡ C7Inout → Asks source d n → is_well_formed d ≡ true → first_inout d d.generators ≡ Some line → IsUnrunFor source code line

-- A run of a design from its start up to a time ends so, and prints this text.
pub record Ran (d : Design) (n : ℕ) (answer : Result End SimFault) (text : List ℕ) : Type 0 where
  pub lines : List Line
  pub rows : List Row
  pub after : Moment
  pub runs : Runs d n (first_moment d) answer lines rows after
  pub is : text ≡ text_of lines

-- The run that a source asks for ends so, and prints this text.
pub record RunEnds (source : List ℕ) (answer : Result End SimFault) (text : List ℕ) : Type 0 where
  pub design : Design
  pub time : ℕ
  pub asks : Asks source design time
  pub fits : is_well_formed design ≡ true
  pub apart : first_inout design design.generators ≡ None
  pub ran : Ran design time answer text
