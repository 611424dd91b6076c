-- Bodies and delta steps on worked examples, each by computing.
use Rattle.std.proofs.Common.{ℕ, ℤ, pos, ◌≡◌, Bool, true, false, [], ◌∷◌, Option, None, Some, refl}
use Rattle.mh_flow.specs.Flow as flow
use Rattle.mh_design.specs.declared.design.Design.{Design}
use Rattle.mh_design.specs.declared.design.Generator.{Generator}
use Rattle.mh_design.specs.declared.design.GenKind.{GenKind}
use Rattle.mh_design.specs.declared.design.GenKind.TheVariants as generator
use Rattle.mh_design.specs.declared.design.Kind.TheVariants as kind
use Rattle.mh_design.specs.declared.design.ResetDecl.{ResetDecl}
use Rattle.mh_design.specs.declared.design.SignalDecl.{SignalDecl}
use Rattle.mh_design.specs.declared.design.Wait.TheVariants as wait
use Rattle.mh_design.specs.declared.expression.UnaryOp.TheVariants as unary
use Rattle.mh_design.specs.declared.expression.BinaryOp.TheVariants as binary
use Rattle.mh_design.specs.declared.statement.Binding.TheVariants as binding
use Rattle.mh_design.specs.Tree.{Expression, Integer, Truth, Signal, Operation, one, two, Unary, Binary, LeftSide, LeftSignal, Whole, Bind, Statement, Set, If, For, Break, Yield, Print, Block, End, Then, ArmOf, block, arms}
use Rattle.mh_design.specs.Bodies.{block_flowing, block_lines, generator_flow, resets, waited, waits_room, only, for_ever}

abbrev set : ℕ → ℕ → Statement
set line k = Set line (Whole (LeftSignal k)) (Signal 0)

abbrev flow_set : ℕ → flow.Statement Expression LeftSide
flow_set k = flow.SetStatement (Whole (LeftSignal k)) (Signal 0)

-- if a: y = a; print()
-- elif a: for v in downrange(4, 0): yield
-- else: break
-- print()
abbrev sample : Block
sample =
    block (If 2 (arms (ArmOf (Signal 1) (block (set 3 5 ∷ Print 4 [] ∷ [])) ∷ ArmOf (Signal 2) (block (For 6 0 true (Integer (pos 4)) (Integer (pos 0)) (pos 1) (block (Yield 7 [] ∷ [])) ∷ [])) ∷ [])) (block (Break 9 ∷ [])) ∷ Print 10 [] ∷ [])

abbrev before : ℤ → Expression
before z = Operation (Binary binary.Subtract) (two (Integer z) (Integer (pos 1)))

pub flows : block_flowing 0 sample ≡ flow.Then (flow.IfStatement (Signal 1) (flow.Then (flow_set 5) (only (flow.SayStatement 2))) (only (flow.IfStatement (Signal 2) (only (flow.CountStatement (Bind 0 binding.Plain) (before (pos 4)) (before (pos 0)) (Operation (Unary unary.Minus) (one (Integer (pos 1)))) (only (flow.WaitStatement 4)))) (only flow.BreakStatement)))) (only (flow.SayStatement 6))
flows = refl

-- Each statement of the flow has its line; the `elif` has that of the `if`.
pub lines : block_lines sample ≡ 2 ∷ 3 ∷ 4 ∷ 2 ∷ 6 ∷ 7 ∷ 9 ∷ 10 ∷ []
lines = refl

-- Signal 1 is a clock, 2 an asynchronous reset that is active at 0.
abbrev signal : Option ResetDecl → ℤ → SignalDecl
signal r z = record { path = []; kind = kind.Bool; init = z; reset = r; line = 1 }

abbrev made : GenKind → Generator
made k = record { path = []; line = 8; kind = k; locals = []; body = [] }

abbrev seq : Generator
seq = made (generator.Seq (wait.Edge 1 true) (Some 2))

abbrev design : Design
design = record {
  name = [];
  ports = [];
  signals = signal None (pos 1) ∷ signal None (pos 0) ∷ signal (Some (record { active = false; asynchronous = true })) (pos 1) ∷ [];
  mems = [];
  tables = [];
  enums = [];
  generators = seq ∷ [];
  listed = [];
  line = 1;
}

pub kinds : (generator_flow design seq ≡ for_ever (flow.Then (flow.WaitStatement 0) (only (flow.IfStatement (Operation (Binary binary.Equal) (two (Signal 2) (Truth false))) flow.End flow.End)))) × (waited design seq 0 ≡ wait.Edge 1 true ∷ wait.Edge 2 false ∷ []) × (waits_room design seq seq.kind ≡ 2)
kinds = (refl, refl, refl)

pub given : resets design (0 ∷ 2 ∷ []) ≡ flow.Then (flow.SetStatement (Whole (LeftSignal 0)) (Integer (pos 1))) (only (flow.SetStatement (Whole (LeftSignal 2)) (Integer (pos 1))))
given = refl
