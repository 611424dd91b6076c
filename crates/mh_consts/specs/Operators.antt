-- Operators on constants (MyHDL 0.11 and Python), and by this project's own rule which operands they
-- take: `+ - * // % << >>`, a sign and `int` give integers, `& | ^` give truth values on two truth
-- values and integers otherwise, `~` gives the bits of a bounded number that isn't negative.
use Rattle.std.specs.Prelude.{ℕ, ℤ, pos, ◌-◌, ◌^◌, ◌+ℤ◌, ◌-ℤ◌, ◌*ℤ◌, Bool, true, false, not, List, Option, Some, None, Result, Ok, Err, if◌then◌else◌, nat_eq, int_le, int_lt, bytes_eq}
use Rattle.std.specs.Ordering.{int_eq}
use Rattle.mh_codes.specs.Integers.{integer_and, integer_or, integer_xor, inverse_of}
use Rattle.mh_codes.specs.Widths.{width_of, is_signed}
use Rattle.mh_num.specs.Results.{in_i128, amount_of, left_shift_of, right_shift_of, quotient_of, remainder_of}
use Rattle.mh_num.specs.declared.bounds.Bounds.{Bounds}
use Rattle.mh_pytree.specs.declared.expression.Operator.{Operator}
use Rattle.mh_pytree.specs.declared.expression.Operator.TheVariants as op
use Rattle.mh_pytree.specs.declared.expression.Sign.{Sign}
use Rattle.mh_pytree.specs.declared.expression.Sign.TheVariants as sign
use Rattle.mh_text.specs.declared.code.Code.{Code}
use Rattle.mh_text.specs.declared.code.Code.TheVariants.{E2NotElaborable, E4BadRange, E5TooWide, E10KindClash}
use Rattle.mh_consts.specs.declared.kinds.Const.{Const, out-Const}
use Rattle.mh_consts.specs.declared.kinds.Const.TheOpen.{Const-F}
use Rattle.mh_consts.specs.declared.kinds.Const.TheVariants as c
use Rattle.mh_consts.specs.Outcome.{Outcome, after, given, integer, truth_value}
use Rattle.mh_consts.specs.Numbers.{operand, number_step, truth, bounds_of}

-- ---- one operand

-- bits of width w, 0 to 2 ^ w - 1
abbrev pub bits : ℕ → Bool → ℤ → Outcome
bits w wraps v = after (given (bounds_of (pos 0) (pos (2 ^ w - 1)) wraps) E5TooWide) (λ bounds. Ok (c.Bounded v bounds))

abbrev pub bits_of_inverse : ℕ → Option ℤ → Outcome
bits_of_inverse w (Some n) = bits w false n
bits_of_inverse w None = Err E5TooWide

-- `~` of a number within bounds: each of its bits inverted
abbrev pub inverted_bits : ℤ → Bounds → Outcome
inverted_bits v b = if is_signed b.lo then Err E10KindClash else bits_of_inverse (width_of b.lo b.top) (in_i128 (inverse_of (width_of b.lo b.top) v))

abbrev pub inverted_step : Const-F Const → Outcome
inverted_step (Const-F.Bounded v b) = inverted_bits v b
inverted_step (Const-F.Signal n kind) = Err E2NotElaborable
inverted_step v = Err E10KindClash

abbrev pub signed : Sign → Const → Outcome
signed sign.Minus v = after (operand v) (λ n. integer (in_i128 (pos 0 -ℤ n)))
signed sign.Plus v = after (operand v) (λ n. Ok (c.Int n))
signed sign.Invert v = inverted_step (out-Const v)

-- `not`
abbrev pub negated : Const → Outcome
negated v = after (truth v) (λ b. Ok (c.Truth (not b)))

-- ---- equality: numbers, strings, and items of one enum

abbrev pub same_item : ℕ → ℕ → Const-F Const → Result Bool Code
same_item n place (Const-F.Item m other) = if nat_eq n m then Ok (nat_eq place other) else Err E10KindClash
same_item n place (Const-F.Signal m kind) = Err E2NotElaborable
same_item n place v = Err E10KindClash

abbrev pub same_text : List ℕ → Const-F Const → Result Bool Code
same_text t (Const-F.Str u) = Ok (bytes_eq t u)
same_text t (Const-F.Signal m kind) = Err E2NotElaborable
same_text t v = Err E10KindClash

abbrev pub same_number : Result ℤ Code → Const → Result Bool Code
same_number a b = after a (λ n. after (operand b) (λ m. Ok (int_eq n m)))

abbrev pub equal_step : Const-F Const → Const → Result Bool Code
equal_step (Const-F.Item n place) b = same_item n place (out-Const b)
equal_step (Const-F.Str t) b = same_text t (out-Const b)
equal_step v b = same_number (number_step E2NotElaborable E10KindClash v) b

abbrev pub equal : Const → Const → Result Bool Code
equal a b = equal_step (out-Const a) b

-- ---- `& | ^`

abbrev pub truth_in : Const-F Const → Option Bool
truth_in (Const-F.Truth b) = Some b
truth_in v = None

abbrev pub with_truths : Option Bool → Option Bool → (Bool → Bool → Bool) → Outcome → Outcome
with_truths (Some a) (Some b) f r = Ok (c.Truth (f a b))
with_truths a b f r = r

-- `a << b` and `a >> b`: an amount outside 0 to 127 breaks the rule of amounts
abbrev pub shifted : Option ℕ → Option ℤ → Outcome
shifted None r = Err E4BadRange
shifted (Some k) r = integer r

abbrev pub shifted_left : ℤ → ℤ → Outcome
shifted_left n m = shifted (amount_of m) (left_shift_of n m)

abbrev pub shifted_right : ℤ → ℤ → Outcome
shifted_right n m = shifted (amount_of m) (right_shift_of n m)

-- `a // b` and `a % b`: a divisor that isn't positive breaks the rule of divisors
abbrev pub divided : Option ℤ → Outcome
divided None = Err E4BadRange
divided (Some n) = Ok (c.Int n)

-- the result of an operator on two numbers
abbrev pub computed : Operator → ℤ → ℤ → Outcome
computed op.Less n m = Ok (c.Truth (int_lt n m))
computed op.LessEqual n m = Ok (c.Truth (int_le n m))
computed op.Greater n m = Ok (c.Truth (int_lt m n))
computed op.GreaterEqual n m = Ok (c.Truth (int_le m n))
computed op.BitOr n m = Ok (c.Int (integer_or n m))
computed op.BitXor n m = Ok (c.Int (integer_xor n m))
computed op.BitAnd n m = Ok (c.Int (integer_and n m))
computed op.ShiftLeft n m = shifted_left n m
computed op.ShiftRight n m = shifted_right n m
computed op.Add n m = integer (in_i128 (n +ℤ m))
computed op.Subtract n m = integer (in_i128 (n -ℤ m))
computed op.Multiply n m = integer (in_i128 (n *ℤ m))
computed op.Divide n m = divided (quotient_of n m)
computed op.Remainder n m = divided (remainder_of n m)
computed other n m = Err E10KindClash

-- the result of `& | ^` on two truth values
abbrev pub combined : Operator → Bool → Bool → Outcome
combined op.BitAnd a b = Ok (c.Truth (if a then b else false))
combined op.BitOr a b = Ok (c.Truth (if a then true else b))
combined op.BitXor a b = Ok (c.Truth (if a then not b else b))
combined other a b = Err E10KindClash

abbrev pub numbers : Operator → Const → Const → Outcome
numbers op a b = after (operand a) (λ n. after (operand b) (λ m. computed op n m))

-- two truth values, or else two numbers
abbrev pub bits_of : Operator → Option Bool → Option Bool → Outcome → Outcome
bits_of op (Some a) (Some b) r = combined op a b
bits_of op a b r = r

abbrev pub bitwise : Operator → Const → Const → Outcome
bitwise op a b = bits_of op (truth_in (out-Const a)) (truth_in (out-Const b)) (numbers op a b)

-- an operator between two values that were both evaluated; `and` and `or` are others
abbrev pub operated : Operator → Const → Const → Outcome
operated op.Or a b = Err E10KindClash
operated op.And a b = Err E10KindClash
operated op.Equal a b = truth_value (equal a b)
operated op.NotEqual a b = after (equal a b) (λ r. Ok (c.Truth (not r)))
operated op.BitOr a b = bitwise op.BitOr a b
operated op.BitXor a b = bitwise op.BitXor a b
operated op.BitAnd a b = bitwise op.BitAnd a b
operated other a b = numbers other a b
