-- Modules of single-bit wires and continuous assignments, and their text (IEEE 1364-2005, clauses 6.1 and 12.3; the layout is
-- this project's own).
use Rattle.std.specs.Prelude.{ℕ, List, [], ◌∷◌, ◌++◌, Bool, true, false, codes, map, if◌then◌else◌}
use Rattle.std.specs.List.{flat_map}
use Rattle.mh_top.specs.Pieces.{joined, line, name_in}
use Rattle.mh_top.specs.VerilogValue.{Expression, Variable, LogicalNot, BitwiseAnd, BitwiseOr, BitwiseXor}

-- A port of a module: the number of its variable, and its direction.
pub record Port : Type 0 where
  pub variable : ℕ
  pub is_output : Bool

-- A continuous assignment to a variable.
pub record Assignment : Type 0 where
  pub target : ℕ
  pub value : Expression

-- A module: its name, the names of its variables by their numbers, its ports in order, and its assignments in order. Its
-- outputs are wires that the assignments drive.
pub record Module : Type 0 where
  pub name : List ℕ
  pub names : List (List ℕ)
  pub ports : List Port
  pub assignments : List Assignment

-- The declaration of a port's direction.
abbrev pub direction : Bool → List ℕ
direction true = codes "output "
direction false = codes "input "

-- A section is left out where it is empty; a blank line ends it.
abbrev pub section : List ℕ → List ℕ
section [] = []
section (byte ∷ bytes) = byte ∷ bytes ++ 10 ∷ []

-- An expression, every operator in brackets.
abbrev pub spelled : List (List ℕ) → Expression → List ℕ
spelled names (Variable a) = name_in names a
spelled names (LogicalNot a) = codes "(!" ++ name_in names a ++ codes ")"
spelled names (BitwiseAnd a b) = codes "(" ++ name_in names a ++ codes " & " ++ name_in names b ++ codes ")"
spelled names (BitwiseOr a b) = codes "(" ++ name_in names a ++ codes " | " ++ name_in names b ++ codes ")"
spelled names (BitwiseXor a b) = codes "(" ++ name_in names a ++ codes " ^ " ++ name_in names b ++ codes ")"

abbrev pub port_line : List (List ℕ) → Port → List ℕ
port_line names port = line (direction port.is_output ++ name_in names port.variable ++ codes ";")

-- An output is a wire.
abbrev pub wire_line : List (List ℕ) → Port → List ℕ
wire_line names port = if port.is_output then line (codes "wire " ++ name_in names port.variable ++ codes ";") else []

-- A continuous assignment and a blank line.
abbrev pub assignment_lines : List (List ℕ) → Assignment → List ℕ
assignment_lines names a = line (codes "assign " ++ name_in names a.target ++ codes " = " ++ spelled names a.value ++ codes ";") ++ line []

-- The ports' names, one on a line, and the end of the header.
abbrev pub port_list : Module → List ℕ
port_list m = codes "    " ++ joined (codes ",\n    ") (map (λ port. name_in m.names port.variable) m.ports) ++ codes "\n);\n"

-- The header.
abbrev pub header : Module → List ℕ
header m = line (codes "module " ++ m.name ++ codes " (") ++ port_list m

-- The declarations: the ports' directions, and the outputs as wires.
abbrev pub declarations : Module → List ℕ
declarations m = section (flat_map (port_line m.names) m.ports) ++ section (flat_map (wire_line m.names) m.ports)

-- The text of a module: its header, the declarations, the assignments.
abbrev pub text : Module → List ℕ
text m =
    header m ++ line []
    ++ declarations m
    ++ flat_map (assignment_lines m.names) m.assignments
    ++ line (codes "endmodule")
