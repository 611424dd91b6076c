-- What is determined: trees and designs by their plain forms, and what a source comes to by the source.
use Rattle.std.specs.Prelude.{ℕ, List, Result, ◌≡◌}
use Rattle.mh_design.specs.declared.design.Design.{Design}
use Rattle.mh_design.specs.declared.expression.GExpr.{GExpr}
use Rattle.mh_design.specs.declared.statement.GStmt.{GStmt}
use Rattle.mh_design.specs.Tree.{expression_of, statement_of}
use Rattle.mh_gate.specs.declared.design.Design as gate
use Rattle.mh_plans.specs.Planned.{plan_of}
use Rattle.mh_plans.specs.Plans.{Plan}
use Rattle.mh_plans.specs.declared.designs.Request.{Request}
use Rattle.mh_sched.specs.declared.answer.End.{End}
use Rattle.mh_sched.specs.declared.fault.SimFault.{SimFault}
use Rattle.mh_text.specs.declared.code.Code.{Code}
use Rattle.mh_world.specs.World.{Broken}
use Rattle.mh_top.specs.Source.{Elaborates, Spells}
use Rattle.mh_top.specs.Simulated.{Asks, IsUnrunFor, RunEnds}

abbrev pub ExpressionsAreDetermined : Type 0
ExpressionsAreDetermined = (a b : GExpr) → expression_of a ≡ expression_of b → a ≡ b

abbrev pub StatementsAreDetermined : Type 0
StatementsAreDetermined = (a b : GStmt) → statement_of a ≡ statement_of b → a ≡ b

abbrev pub DesignsAreDetermined : Type 0
DesignsAreDetermined = (d e : Design) → plan_of d ≡ plan_of e → d ≡ e

-- the designs and requests, or the first rule that is broken with its line
abbrev pub AnswersAreDetermined : Type 0
AnswersAreDetermined = (source : List ℕ) (a b : Result (List Plan × List Request) Broken) → Elaborates source a → Elaborates source b → a ≡ b

-- the design that is run, and up to when
abbrev pub AskedAreDetermined : Type 0
AskedAreDetermined = (source : List ℕ) (d e : Design) (m n : ℕ) → Asks source d m → Asks source e n → (d ≡ e) × (m ≡ n)

-- the gate that is converted
abbrev pub GatesAreDetermined : Type 0
GatesAreDetermined = (source : List ℕ) (d e : gate.Design) → Spells source d → Spells source e → d ≡ e

-- how the run ends, and what it prints
abbrev pub RunsAreDetermined : Type 0
RunsAreDetermined = (source : List ℕ) (a b : Result End SimFault) (s t : List ℕ) → RunEnds source a s → RunEnds source b t → (a ≡ b) × (s ≡ t)

-- a source whose run is done isn't refused
abbrev pub RunsAreNotRefused : Type 0
RunsAreNotRefused = (source : List ℕ) (code : Code) (line : ℕ) (a : Result End SimFault) (t : List ℕ) → IsUnrunFor source code line → RunEnds source a t → ⊥
