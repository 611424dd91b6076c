-- Values as numbers and as truth values, by this project's own rule. Integers, truth values (0 or 1)
-- and bounded numbers are numbers.
use Rattle.std.specs.Prelude.{T, ℤ, pos, Bool, true, false, not, Option, Some, None, Result, Ok, Err}
use Rattle.std.specs.Int.Signed.{le_z, le_z_yes}
use Rattle.std.specs.Ordering.{int_eq}
use Rattle.std.proofs.Math.Dec.{leb}
use Rattle.std.proofs.Math.Facts.{leb_yes}
use Rattle.mh_codes.specs.Widths.{width_of}
use Rattle.mh_num.specs.declared.bounds.Bounds.{Bounds}
use Rattle.mh_text.specs.declared.code.Code.{Code}
use Rattle.mh_text.specs.declared.code.Code.TheVariants.{E2NotElaborable, E3BadArguments, E10KindClash}
use Rattle.mh_consts.specs.declared.kinds.Const.{Const, out-Const}
use Rattle.mh_consts.specs.declared.kinds.Const.TheOpen.{Const-F}
use Rattle.mh_consts.specs.Outcome.{after}

abbrev pub number_of : Bool → ℤ
number_of true = pos 1
number_of false = pos 0

-- the number that a value is; the code for a signal, and the code for what else is no number
abbrev pub number_step : Code → Code → Const-F Const → Result ℤ Code
number_step signal other (Const-F.Int n) = Ok n
number_step signal other (Const-F.Truth b) = Ok (number_of b)
number_step signal other (Const-F.Bounded v bounds) = Ok v
number_step signal other (Const-F.Signal n kind) = Err signal
number_step signal other v = Err other

-- an operand, an index, an end of a slice: a signal would be read, which elaboration doesn't allow
abbrev pub operand : Const → Result ℤ Code
operand v = number_step E2NotElaborable E10KindClash (out-Const v)

-- an argument of `range` or `downrange`, whose signals would be read
abbrev pub argument : Const → Result ℤ Code
argument v = number_step E2NotElaborable E3BadArguments (out-Const v)

-- an argument of `intbv` or `modbv`, which takes no signal
abbrev pub content : Const → Result ℤ Code
content v = number_step E3BadArguments E3BadArguments (out-Const v)

-- an argument of `int` or `bool`: an item of an enum has no number
abbrev pub converted_step : Const-F Const → Result ℤ Code
converted_step (Const-F.Item n place) = Err E10KindClash
converted_step v = number_step E2NotElaborable E3BadArguments v

abbrev pub converted : Const → Result ℤ Code
converted v = converted_step (out-Const v)

abbrev pub is_not_zero : ℤ → Bool
is_not_zero n = not (int_eq n (pos 0))

-- a condition, an operand of `not`, `and` and `or`: numbers alone have a truth
abbrev pub truth : Const → Result Bool Code
truth v = after (operand v) (λ n. Ok (is_not_zero n))

-- two facts that are tested, and what they allow to be made
abbrev pub allowed : {A : Type 0} (a b : Bool) → (T a → T b → A) → Option A
allowed true true f = Some (f tt tt)
allowed a b f = None

-- the bounds from lo to top, both included; None where there is no number between them or where they
-- need more than 127 bits
unfoldable pub bounds_of : ℤ → ℤ → Bool → Option Bounds
bounds_of lo top wraps = allowed (le_z lo top) (leb (width_of lo top) 127)
    (λ o n. record { lo = lo; top = top; wraps = wraps; ordered = le_z_yes o; in_127_bits = leb_yes n })
