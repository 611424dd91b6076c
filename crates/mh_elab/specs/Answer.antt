-- What elaboration answers: the designs and the requests, or the first rule that is broken, with its
-- line. Want of memory is free.
use Rattle.std.specs.Prelude.{◌≡◌, ℕ, Bool, List, [], map, Result, Ok, Err}
use Rattle.std.specs.List.{list_all}
use Rattle.mh_pytree.specs.declared.statement.PyStmt.{PyStmt}
use Rattle.mh_text.specs.declared.refusal.Refusal.{Refusal}
use Rattle.mh_text.specs.declared.refusal.Refusal.TheVariants as refusal
use Rattle.mh_design.specs.declared.design.Design.{Design}
use Rattle.mh_design.specs.WellFormed.{is_well_formed}
use Rattle.mh_world.specs.World.{Broken}
use Rattle.mh_world.specs.Statements.{Block, block, st_of}
use Rattle.mh_world.specs.World.{after}
use Rattle.mh_plans.specs.declared.designs.Request.{Request}
use Rattle.mh_plans.specs.declared.designs.Elaborated.{Elaborated}
use Rattle.mh_elab.specs.Elaboration.{executed}
use Rattle.mh_plans.specs.Planned.{plan_of}
use Rattle.mh_plans.specs.Plans.{Plan, plans}

-- a source, where so many statements may be executed and so many calls may be open at once
abbrev pub elaborated_within : ℕ → ℕ → Block → Result (List Plan × List Request) Broken
elaborated_within limit most b = after (executed limit most b) plans

-- 1,000,000 statements and 64 calls
abbrev pub elaborated : List PyStmt → Result (List Plan × List Request) Broken
elaborated stmts = elaborated_within 1000000 64 (block (map st_of stmts))

abbrev pub Answers : Result (List Plan × List Request) Broken → Result Elaborated Refusal → Type 0
Answers r (Ok x) = r ≡ Ok (map plan_of x.tops, x.requests)
Answers r (Err (refusal.At code line names)) = (r ≡ Err (code, line)) × (names ≡ [])
Answers r (Err refusal.Memory) = Unit {0}

abbrev pub are_well_formed : List Design → Bool
are_well_formed ds = list_all is_well_formed ds
