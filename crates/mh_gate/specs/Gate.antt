-- The flat designs that are converted today: single-bit ports and no other signal, and one combinational generator that assigns
-- one gate of them to a port. These rules are this project's own.
use Rattle.std.specs.Prelude.{ℕ, List, [], ◌∷◌, ◌+◌, ◌==◌, ◌&&◌, ◌||◌, Bool, true, false, not, nat_eq, nat_le, nat_lt, length, map, Option, Some, None, if◌then◌else◌}
use Rattle.std.specs.List.{list_all, list_any}
use Rattle.std.specs.Str.{bytes_eq}
use Rattle.mh_design.specs.declared.design.Design.{Design as Flat}
use Rattle.mh_design.specs.declared.design.Generator.{Generator as FlatGenerator}
use Rattle.mh_design.specs.declared.design.GenKind.{GenKind as FlatKind}
use Rattle.mh_design.specs.declared.design.GenKind.TheVariants as runs
use Rattle.mh_design.specs.declared.design.Kind.{Kind as SignalKind}
use Rattle.mh_design.specs.declared.design.Kind.TheVariants as signal_kind
use Rattle.mh_design.specs.declared.design.SignalDecl.{SignalDecl as FlatSignal}
use Rattle.mh_design.specs.declared.expression.BinaryOp.{BinaryOp}
use Rattle.mh_design.specs.declared.expression.BinaryOp.TheVariants.{BitAnd, BitOr, BitXor}
use Rattle.mh_design.specs.declared.expression.UnaryOp.{UnaryOp}
use Rattle.mh_design.specs.declared.expression.UnaryOp.TheVariants as one
use Rattle.mh_design.specs.Numbering.{body_of}
use Rattle.mh_design.specs.Tree as tree
use Rattle.mh_design.specs.Tree.{Expression, Expressions, NoMore, More, Operation, Operator, LeftBase, LeftSignal, LeftSide, Whole, Statement, Set, Block, End, Then}
use Rattle.mh_gate.specs.Names.{is_taken}
use Rattle.mh_gate.specs.declared.design.Design.{Design}
use Rattle.mh_gate.specs.declared.design.Generator.{Generator}
use Rattle.mh_gate.specs.declared.design.SignalDecl.{SignalDecl}
use Rattle.mh_gate.specs.declared.design.GStmt.TheVariants.{Assign}
use Rattle.mh_gate.specs.declared.design.GenKind.TheVariants.{Comb}
use Rattle.mh_gate.specs.declared.design.Kind.TheVariants as kind
use Rattle.mh_gate.specs.declared.expression.GExpr.{GExpr}
use Rattle.mh_gate.specs.declared.gate.Driven.{Driven}
use Rattle.mh_gate.specs.declared.expression.GExpr.TheVariants.{Signal, Not, And, Or, Xor}

-- ---- the right side: a signal, `not` of one, or `&`, `|` or `^` of two

-- The signal that an expression is.
abbrev pub signal_in : Expression → Option ℕ
signal_in (tree.Signal n) = Some n
signal_in e = None

-- An operator on one signal.
abbrev pub negated : UnaryOp → Option ℕ → Option GExpr
negated one.Not (Some a) = Some (Not a)
negated o a = None

-- An operator on two signals.
abbrev pub joined : BinaryOp → ℕ → ℕ → Option GExpr
joined BitAnd a b = Some (And a b)
joined BitOr a b = Some (Or a b)
joined BitXor a b = Some (Xor a b)
joined o a b = None

abbrev pub joined_if : BinaryOp → Option ℕ → Option ℕ → Option GExpr
joined_if o (Some a) (Some b) = joined o a b
joined_if o a b = None

abbrev pub operated : Operator → Expressions → Option GExpr
operated (tree.Unary o) (More a NoMore) = negated o (signal_in a)
operated (tree.Binary o) (More a (More b NoMore)) = joined_if o (signal_in a) (signal_in b)
operated o parts = None

abbrev pub gate_in : Expression → Option GExpr
gate_in (tree.Signal n) = Some (Signal n)
gate_in (Operation o parts) = operated o parts
gate_in e = None

-- ---- the generator

-- A signal is assigned as a whole.
abbrev pub target_in : LeftSide → Option ℕ
target_in (Whole (LeftSignal n)) = Some n
target_in l = None

abbrev pub driven_as : List ℕ → Option ℕ → Option GExpr → Option Driven
driven_as path (Some t) (Some e) = Some (record { function = path; target = t; value = e })
driven_as path t e = None

abbrev pub driven_by : List ℕ → Statement → Option Driven
driven_by path (Set l t e) = driven_as path (target_in t) (gate_in e)
driven_by path s = None

-- One statement.
abbrev pub driven_in : List ℕ → Block → Option Driven
driven_in path (Then s End) = driven_by path s
driven_in path b = None

-- `@always_comb`
abbrev pub is_comb : FlatKind → Bool
is_comb runs.Comb = true
is_comb k = false

-- What a generator drives, by its path, its kind and its body.
abbrev pub driven_of : List ℕ → FlatKind → Block → Option Driven
driven_of path k b = if is_comb k then driven_in path b else None

-- There is one generator.
abbrev pub driven_alone : {G : Type 0} → (G → Option Driven) → List G → Option Driven
driven_alone of (g ∷ []) = of g
driven_alone of gs = None

abbrev pub driven_by_generator : FlatGenerator → Option Driven
driven_by_generator g = driven_of g.path g.kind (body_of g)

-- ---- the signals

abbrev pub is_truth : SignalKind → Bool
is_truth signal_kind.Bool = true
is_truth k = false

abbrev pub is_single : FlatSignal → Bool
is_single s = is_truth s.kind

-- These are the numbers from this one on.
abbrev pub are_from : ℕ → List ℕ → Bool
are_from first [] = true
are_from first (n ∷ ns) = nat_eq n first && are_from (first + 1) ns

abbrev pub are_single : List FlatSignal → Bool
are_single signals = list_all is_single signals

-- 2 to 64
abbrev pub is_few : ℕ → Bool
is_few count = nat_le 2 count && nat_le count 64

-- Each of so many signals is a port, in order.
abbrev pub are_ports : ℕ → List ℕ → Bool
are_ports count ports = nat_eq (length ports) count && are_from 0 ports

-- The signals are 2 to 64 truth values, and each is a port, in order. No list of signals is an argument.
abbrev pub declares_ports : Flat → Bool
declares_ports d = is_few (length d.signals) && are_single d.signals && are_ports (length d.signals) d.ports && nat_eq (length d.listed) 0

-- ---- the names

abbrev pub is_lower : ℕ → Bool
is_lower byte = nat_le 97 byte && nat_le byte 122

abbrev pub is_digit : ℕ → Bool
is_digit byte = nat_le 48 byte && nat_le byte 57

-- A lower-case letter, and then lower-case letters and digits.
abbrev pub is_plain_name : List ℕ → Bool
is_plain_name [] = false
is_plain_name (first ∷ rest) = is_lower first && list_all (λ byte. is_lower byte || is_digit byte) rest

-- A name that such a design may use.
abbrev pub is_free : List ℕ → Bool
is_free name = is_plain_name name && not (is_taken name)

-- One of the signals has this name.
abbrev pub is_among : List FlatSignal → List ℕ → Bool
is_among signals name = list_any (λ s. bytes_eq s.path name) signals

-- No two of the signals have one name.
abbrev pub are_distinct : List FlatSignal → Bool
are_distinct [] = true
are_distinct (s ∷ signals) = not (is_among signals s.path) && are_distinct signals

-- The block, its generator and its ports have names that are free.
abbrev pub has_free_names : Flat → Driven → Bool
has_free_names d g = is_free d.name && is_free g.function && list_all (λ s. is_free s.path) d.signals

-- No two of them have one name.
abbrev pub has_distinct_names : Flat → Driven → Bool
has_distinct_names d g =
    not (bytes_eq g.function d.name || is_among d.signals d.name) && not (is_among d.signals g.function) && are_distinct d.signals

-- ---- the design

-- The signals that an expression reads.
abbrev pub operands : GExpr → List ℕ
operands (Signal a) = a ∷ []
operands (Not a) = a ∷ []
operands (And a b) = a ∷ b ∷ []
operands (Or a b) = a ∷ b ∷ []
operands (Xor a b) = a ∷ b ∷ []

-- A number is that of a signal other than the target.
abbrev pub is_other : ℕ → ℕ → ℕ → Bool
is_other n target count = nat_lt n count && not (n == target)

-- A port is driven by others.
abbrev pub drives_port : ℕ → Driven → Bool
drives_port count g = nat_lt g.target count && list_all (λ n. is_other n g.target count) (operands g.value)

abbrev pub is_gate : Flat → Driven → Bool
is_gate d g =
    declares_ports d && drives_port (length d.signals) g
    && has_free_names d g && has_distinct_names d g

abbrev pub signal_of : FlatSignal → SignalDecl
signal_of s = record { path = s.path; kind = kind.Bool }

-- One generator with one assignment.
abbrev pub generators_of : Driven → List Generator
generators_of g = record { path = g.function; kind = Comb; body = Assign g.target g.value ∷ [] } ∷ []

abbrev pub design_of : Flat → Driven → Design
design_of d g = record { name = d.name; ports = d.ports; signals = map signal_of d.signals; generators = generators_of g }

abbrev pub design_with : Flat → Option Driven → Option Design
design_with d None = None
design_with d (Some g) = if is_gate d g then Some (design_of d g) else None

-- The gate that a flat design is, if it is one.
abbrev pub gate_of : Flat → Option Design
gate_of d = design_with d (driven_alone driven_by_generator d.generators)
