-- What a generator reads, drives and waits for (MyHDL 0.11 manual, "Reference": decorators and signals). An access of a memory is
-- one of all its elements, also at a constant index. Conditions, `print`, `assert` and the indices on the left are readings; an
-- edge and the target of a part assignment aren't.
use Rattle.std.specs.Prelude.{ℕ, List, [], ◌∷◌, map, slice_get, Option, None, Some, if◌then◌else◌}
use Rattle.std.specs.Option.{option_map_or}
use Rattle.std.specs.List.{flat_map}
use Rattle.mh_design.specs.declared.design.Design.{Design}
use Rattle.mh_design.specs.declared.design.Generator.{Generator}
use Rattle.mh_design.specs.declared.design.GenKind.{GenKind}
use Rattle.mh_design.specs.declared.design.GenKind.TheVariants as generator
use Rattle.mh_design.specs.declared.design.ResetDecl.{ResetDecl}
use Rattle.mh_design.specs.declared.design.Wait.{Wait}
use Rattle.mh_design.specs.declared.design.Wait.TheVariants as wait
use Rattle.mh_design.specs.Numbering.{generator_expressions, generator_statements}
use Rattle.mh_design.specs.Tree.{Expression, Signal, Operation, ElementOf, LeftBase, LeftSignal, LeftElement, LeftLocal, LeftSide, Whole, LeftBit, LeftSlice, Bind, Statement, Set, Yield}

-- The elements of a memory.
abbrev pub cells_of : Design → ℕ → List ℕ
cells_of d m = option_map_or (λ x. x.cells) (slice_get d.mems m) []

-- The signals that an expression reads itself, its parts aside.
abbrev pub read_by : Design → Expression → List ℕ
read_by d (Signal s) = s ∷ []
read_by d (Operation (ElementOf m) xs) = cells_of d m
read_by d e = []

-- The signals that a generator reads, in order of text, some more than once.
abbrev pub reads : Design → Generator → List ℕ
reads d g = flat_map (read_by d) (generator_expressions g)

abbrev pub driven_base : Design → LeftBase → List ℕ
driven_base d (LeftSignal s) = s ∷ []
driven_base d (LeftElement m i) = cells_of d m
driven_base d (LeftLocal v) = []

abbrev pub driven_left : Design → LeftSide → List ℕ
driven_left d (Whole b) = driven_base d b
driven_left d (LeftBit b i) = driven_base d b
driven_left d (LeftSlice b i j) = driven_base d b
driven_left d (Bind v k) = []

-- The signals that a statement drives itself.
abbrev pub driven_by : Design → Statement → List ℕ
driven_by d (Set l t e) = driven_left d t
driven_by d s = []

-- The signals that a generator drives, in order of text, some more than once.
abbrev pub drives : Design → Generator → List ℕ
drives d g = flat_map (driven_by d) (generator_statements g)

abbrev pub waited_by : Statement → List Wait
waited_by (Yield l ws) = ws
waited_by s = []

-- The edge at which an asynchronous reset gets active.
abbrev pub reset_edge : ℕ → Option ResetDecl → List Wait
reset_edge r None = []
reset_edge r (Some x) = if x.asynchronous then wait.Edge r x.active ∷ [] else []

abbrev pub reset_waits : Design → Option ℕ → List Wait
reset_waits d None = []
reset_waits d (Some r) = option_map_or (λ x. reset_edge r x.reset) (slice_get d.signals r) []

abbrev pub kind_waits : Design → Generator → GenKind → List Wait
kind_waits d g generator.Comb = map wait.Change (reads d g)
kind_waits d g (generator.Always ws) = ws
kind_waits d g (generator.Seq w r) = w ∷ reset_waits d r
kind_waits d g generator.Instance = flat_map waited_by (generator_statements g)

-- What a generator waits for.
abbrev pub waits : Design → Generator → List Wait
waits d g = kind_waits d g g.kind
