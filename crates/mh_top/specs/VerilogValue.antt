-- The values of Verilog expressions of single bits (IEEE 1364-2005, clause 5).
use Rattle.std.specs.Prelude.{ℕ}

-- A bit of a variable. High impedance stands nowhere in the texts, so it is left out (clause 4.1).
pub data Bit : Type 0 where
  Zero : Bit
  One : Bit
  Unknown : Bit

-- An expression over variables, which it names by their numbers.
pub data Expression : Type 0 where
  Variable : (a : ℕ) → Expression
  LogicalNot : (a : ℕ) → Expression
  BitwiseAnd : (a b : ℕ) → Expression
  BitwiseOr : (a b : ℕ) → Expression
  BitwiseXor : (a b : ℕ) → Expression

-- `!` (clause 5.1.9): an unknown operand gives an unknown value.
abbrev pub not_table : Bit → Bit
not_table Zero = One
not_table One = Zero
not_table Unknown = Unknown

-- `&` (clause 5.1.10, bitwise binary and operator).
abbrev pub and_table : Bit → Bit → Bit
and_table Zero b = Zero
and_table One b = b
and_table Unknown Zero = Zero
and_table Unknown One = Unknown
and_table Unknown Unknown = Unknown

-- `|` (clause 5.1.10, bitwise binary or operator).
abbrev pub or_table : Bit → Bit → Bit
or_table Zero b = b
or_table One b = One
or_table Unknown Zero = Unknown
or_table Unknown One = One
or_table Unknown Unknown = Unknown

-- `^` (clause 5.1.10, bitwise binary exclusive or operator).
abbrev pub xor_table : Bit → Bit → Bit
xor_table Zero b = b
xor_table One b = not_table b
xor_table Unknown b = Unknown

-- The value of an expression, one bit, where each variable has the value that `now` gives its number.
abbrev pub evaluated : Expression → (ℕ → Bit) → Bit
evaluated (Variable a) now = now a
evaluated (LogicalNot a) now = not_table (now a)
evaluated (BitwiseAnd a b) now = and_table (now a) (now b)
evaluated (BitwiseOr a b) now = or_table (now a) (now b)
evaluated (BitwiseXor a b) now = xor_table (now a) (now b)
