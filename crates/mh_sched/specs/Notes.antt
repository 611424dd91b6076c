-- What a run keeps of a generator.
use Rattle.std.specs.Prelude.{ℕ, ◌+◌, List, ◌∷◌, length, map, Option, None, Some}
use Rattle.std.specs.Borrow.{Bor}
use Rattle.mh_design.specs.declared.design.Design.{Design}
use Rattle.mh_design.specs.declared.design.Generator.{Generator}
use Rattle.mh_design.specs.declared.design.GenKind.{GenKind}
use Rattle.mh_design.specs.declared.design.GenKind.TheVariants as generator
use Rattle.mh_design.specs.declared.statement.GStmt.{GStmt}
use Rattle.mh_design.specs.Tree.{Statement, Arm, ArmOf, statement_of}
use Rattle.mh_design.specs.Bodies.{driven, block_lines}

-- The statements that some references lead to.
abbrev pub seen_statements : List (Bor GStmt) → List Statement
seen_statements rs = map (λ r. statement_of r.now) rs

-- How many statements of a generator's code stand before those of the source.
abbrev pub reset_places : Design → Generator → Option ℕ → ℕ
reset_places d g None = 0
reset_places d g (Some r) = 1 + length (driven d g)

abbrev pub places_before : Design → Generator → GenKind → ℕ
places_before d g generator.Comb = 1
places_before d g (generator.Always ws) = 2
places_before d g (generator.Seq w r) = 2 + reset_places d g r
places_before d g generator.Instance = 0

-- The lines of a branch of an `if` in this line.
abbrev pub arm_lines : ℕ → Arm → List ℕ
arm_lines l (ArmOf e b) = l ∷ block_lines b
