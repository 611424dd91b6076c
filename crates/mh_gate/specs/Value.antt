-- What an expression of a generator means in MyHDL (MyHDL 0.11 manual, "Modeling techniques" and "Reference", on signals of
-- `bool` and on expressions of Python).
use Rattle.std.specs.Prelude.{ℕ, ◌<◌, ◌==◌, Bool, true, false, bit_and, bit_or, bit_xor, if◌then◌else◌}
use Rattle.mh_gate.specs.declared.expression.GExpr.{GExpr}
use Rattle.mh_gate.specs.declared.expression.GExpr.TheVariants.{Signal, Not, And, Or, Xor}

-- A truth value is the integer 0 or 1.
abbrev pub number_of : Bool → ℕ
number_of true = 1
number_of false = 0

-- The value of an expression, an integer, where each signal has the value that `now` gives its number. `&`, `|` and `^` are
-- those of two's complement, and `not` gives a truth value.
abbrev pub value : GExpr → (ℕ → ℕ) → ℕ
value (Signal a) now = now a
value (Not a) now = if now a == 0 then 1 else 0
value (And a b) now = bit_and (now a) (now b)
value (Or a b) now = bit_or (now a) (now b)
value (Xor a b) now = bit_xor (now a) (now b)

-- The numbers of all signals that an expression reads have this property.
abbrev pub Reads : (ℕ → Type 0) → GExpr → Type 0
Reads P (Signal a) = P a
Reads P (Not a) = P a
Reads P (And a b) = P a × P b
Reads P (Or a b) = P a × P b
Reads P (Xor a b) = P a × P b

-- An expression reads only signals with numbers below this one.
abbrev pub ReadsBelow : ℕ → GExpr → Type 0
ReadsBelow count = Reads (λ signal. signal < count)
