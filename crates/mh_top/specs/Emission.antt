-- Which Verilog module a design is converted to, and that its right sides keep their values. These rules are this project's own.
use Rattle.std.specs.Prelude.{ℕ, List, ◌≡◌, Bool, true, false, Some, map, length, slice_get}
use Rattle.mh_gate.specs.declared.design.Design.{Design}
use Rattle.mh_gate.specs.declared.design.GStmt.{GStmt}
use Rattle.mh_gate.specs.declared.design.GStmt.TheVariants.{Assign}
use Rattle.mh_gate.specs.declared.design.SignalDecl.{SignalDecl}
use Rattle.mh_gate.specs.declared.expression.GExpr.{GExpr}
use Rattle.mh_gate.specs.declared.expression.GExpr.TheVariants as source
use Rattle.mh_gate.specs.Design.{statements, is_driven}
use Rattle.mh_gate.specs.Value.{value, number_of}
use Rattle.mh_top.specs.VerilogText.{Module, Port, Assignment}
use Rattle.mh_top.specs.VerilogValue.{Bit, Zero, One, Unknown, Expression, Variable, LogicalNot, BitwiseAnd, BitwiseOr, BitwiseXor, evaluated}

-- The Verilog expression that an expression of the source becomes; a variable has its signal's number.
abbrev pub emitted : GExpr → Expression
emitted (source.Signal a) = Variable a
emitted (source.Not a) = LogicalNot a
emitted (source.And a b) = BitwiseAnd a b
emitted (source.Or a b) = BitwiseOr a b
emitted (source.Xor a b) = BitwiseXor a b

-- The assignment that a statement becomes.
abbrev pub assignment_of : GStmt → Assignment
assignment_of (Assign target value) = record { target = target; value = emitted value }

-- The names of the variables: each signal's path.
abbrev pub variable_names : List SignalDecl → List (List ℕ)
variable_names signals = map (λ s. s.path) signals

-- The port that a port of a design becomes.
abbrev pub port_of : Design → ℕ → Port
port_of d signal = record { variable = signal; is_output = is_driven d signal }

-- The module of a design: each signal is a variable of its number under its path, each port that a generator drives is an
-- output, and each statement is an assignment.
abbrev pub module_of : Design → Module
module_of d = record {
  name = d.name;
  names = variable_names d.signals;
  ports = map (port_of d) d.ports;
  assignments = map assignment_of (statements d);
}

-- The bit of a truth value.
abbrev pub bit_of : Bool → Bit
bit_of true = One
bit_of false = Zero

-- A bit stands for an integer that is a truth value.
abbrev pub IsBitOf : ℕ → Bit → Type 0
IsBitOf n Zero = n ≡ 0
IsBitOf n One = n ≡ 1
IsBitOf n Unknown = ⊥

-- For all truth values of the signals, a right side in Verilog has the value that MyHDL gives the expression of the source.
abbrev pub SameValues : GExpr → Expression → Type 0
SameValues e right = (signals : ℕ → Bool) → IsBitOf (value e (λ s. number_of (signals s))) (evaluated right (λ v. bit_of (signals v)))

abbrev pub KeepsStatement : GStmt → Assignment → Type 0
KeepsStatement (Assign target value) a = (a.target ≡ target) × SameValues value a.value

-- The module has one assignment for each statement of the design, to the same signal and with the same values.
pub record KeepsValues (d : Design) (m : Module) : Type 0 where
  pub same_number : length m.assignments ≡ length (statements d)
  pub each : (k : ℕ) (s : GStmt) (a : Assignment) → slice_get (statements d) k ≡ Some s → slice_get m.assignments k ≡ Some a → KeepsStatement s a
