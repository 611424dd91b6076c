-- What the designs of a source are, as the program holds them.
use Rattle.std.specs.Prelude.{List, [], map, Result}
use Rattle.mh_design.specs.declared.design.Design.{Design}
use Rattle.mh_design.specs.declared.design.Generator.{Generator}
use Rattle.mh_design.specs.Numbering.{body_of}
use Rattle.mh_world.specs.World.{Broken}
use Rattle.mh_text.specs.declared.fault.Fault.{Fault}
use Rattle.mh_text.specs.Faults.{Tells}
use Rattle.mh_plans.specs.declared.designs.Request.{Request}
use Rattle.mh_plans.specs.declared.designs.Elaborated.{Elaborated}
use Rattle.mh_plans.specs.Plans.{Drawn, Plan}

abbrev pub drawn_of : Generator → Drawn
drawn_of g = record { path = g.path; line = g.line; kind = g.kind; locals = g.locals; body = body_of g }

abbrev pub plan_of : Design → Plan
plan_of d = record { design = record d { generators = [] }; generators = map drawn_of d.generators }

abbrev pub elaborated_of : Elaborated → List Plan × List Request
elaborated_of x = (map plan_of x.tops, x.requests)

abbrev pub Plans : Result (List Plan × List Request) Broken → Result Elaborated (Fault Broken) → Type 0
Plans r x = Tells elaborated_of r x

-- one design
abbrev pub Planned : Result Plan Broken → Result Design (Fault Broken) → Type 0
Planned r x = Tells plan_of r x

-- several
abbrev pub PlansAll : Result (List Plan) Broken → Result (List Design) (Fault Broken) → Type 0
PlansAll r x = Tells (map plan_of) r x
