-- That a gate means what its flat design means. This rule is this project's own.
use Rattle.std.specs.Prelude.{ℕ, pos, [], ◌∷◌, ◌≡◌, Ok}
use Rattle.mh_design.specs.declared.design.Design.{Design as Flat}
use Rattle.mh_design.specs.declared.design.Generator.{Generator as FlatGenerator}
use Rattle.mh_design.specs.Numbering.{body_of}
use Rattle.mh_design.specs.Tree.{Expression, LeftSignal, Whole, Set, Block, End, Then}
use Rattle.mh_design.specs.Values.{Store, signal_value, value_of}
use Rattle.mh_gate.specs.declared.design.Design.{Design}
use Rattle.mh_gate.specs.declared.design.GStmt.TheVariants.{Assign}
use Rattle.mh_gate.specs.declared.expression.GExpr.{GExpr}
use Rattle.mh_gate.specs.Design.{statements}
use Rattle.mh_gate.specs.Value.{value}

-- Each signal of a run has the value that `now` gives its number.
abbrev pub HasValues : Store → (ℕ → ℕ) → Type 0
HasValues s now = (n : ℕ) → signal_value s n ≡ pos (now n)

-- In each run the expression of a flat design has the value of the gate's, and no fault.
abbrev pub SameValue : Expression → GExpr → Type 0
SameValue e g = (s : Store) (now : ℕ → ℕ) → HasValues s now → value_of e s ≡ Ok (pos (value g now))

-- The body assigns to a signal as a whole, and does nothing else; and the gate assigns to the same signal what has the same value.
pub record KeepsBody (b : Block) (g : Design) : Type 0 where
  pub line : ℕ
  pub target : ℕ
  pub expression : Expression
  pub value : GExpr
  pub body : b ≡ Then (Set line (Whole (LeftSignal target)) expression) End
  pub statement : statements g ≡ Assign target value ∷ []
  pub same : SameValue expression value

-- The flat design has one generator, whose body the gate keeps.
pub record KeepsDesign (d : Flat) (g : Design) : Type 0 where
  pub generator : FlatGenerator
  pub alone : d.generators ≡ generator ∷ []
  pub body : KeepsBody (body_of generator) g
