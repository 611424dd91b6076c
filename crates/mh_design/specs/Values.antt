-- The values of expressions in a run (MyHDL 0.11 manual, "Reference", "Bit indexing" and "Bit slicing"; which operands have a fault is
-- this project's own rule). The value of an expression is a mathematical integer, a truth value being 0 or 1, or the first fault in
-- order of evaluation: parts from left to right, and then the operator. A right side of `and` or `or` that isn't needed has no fault.
use Rattle.std.specs.Prelude.{ℕ, ℤ, pos, ◌+◌, ◌*◌, ◌^◌, ◌+ℤ◌, ◌-ℤ◌, ◌*ℤ◌, Bool, true, false, not, int_lt, int_le, List, [], ◌∷◌, length, slice_get, slice_index_or, sum_by, min, Option, is_some, Result, Ok, Err, unsigned_abs, if◌then◌else◌}
use Rattle.std.specs.Option.{option_map_or}
use Rattle.std.specs.Ordering.{int_eq}
use Rattle.mh_codes.specs.Codes.{code, number}
use Rattle.mh_codes.specs.Integers.{bit_of, slice_of, integer_and, integer_or, integer_xor, inverse_of}
use Rattle.mh_codes.specs.Ranges.{is_inside}
use Rattle.mh_codes.specs.Widths.{width_of}
use Rattle.mh_num.specs.Results.{in_i128, amount_of, left_shift_of, right_shift_of, quotient_of, remainder_of}
use Rattle.mh_design.specs.declared.design.Design.{Design}
use Rattle.mh_design.specs.declared.design.Encoding.{Encoding}
use Rattle.mh_design.specs.declared.design.Kind.{Kind}
use Rattle.mh_design.specs.declared.design.Kind.TheVariants as kind
use Rattle.mh_design.specs.declared.design.Wait.{Wait}
use Rattle.mh_design.specs.declared.expression.UnaryOp.{UnaryOp}
use Rattle.mh_design.specs.declared.expression.UnaryOp.TheVariants as unary
use Rattle.mh_design.specs.declared.expression.BinaryOp.{BinaryOp}
use Rattle.mh_design.specs.declared.expression.BinaryOp.TheVariants as binary
use Rattle.mh_design.specs.Constants.{number_of_truth}
use Rattle.mh_design.specs.Enums.{item_code}
use Rattle.mh_design.specs.Kinds.{signal_kind}
use Rattle.mh_design.specs.Uses.{cells_of}
use Rattle.mh_design.specs.Tree.{Expression, Expressions, Operator, Integer, Truth, Item, Fixed, Signal, Local, Now, Operation, NoMore, More, ElementOf, TableElementOf, BitOf, SliceOf, Unary, Binary, And, Or, Concat, Signed, ToInt, ToBool}

-- What a signal or a local may hold: any integer, the truth values 0 and 1, the integers of a range, into which others wrap or not, or
-- the codes of the items of an enum.
pub data Limits : Type 0 where
  Unlimited : Limits
  TruthLimits : Limits
  Between : (low high : ℤ) (wraps : Bool) → Limits
  Coded : (encoding : Encoding) (count : ℕ) → Limits

-- A local: its value, and its limits at the moment.
pub record Held : Type 0 where
  pub value : ℤ
  pub limits : Limits

-- What a generator waits for, how many waits there is room for, and whether one of them has happened since.
pub record Waiter : Type 0 where
  pub room : ℕ
  pub waits : List Wait
  pub woken : Bool

-- What is kept of the signals, elements of memories included, by their numbers, and of the generators by theirs. The pending values
-- are those that the signals take at the end of the delta.
pub record Signals : Type 0 where
  pub limits : List Limits
  pub values : List ℤ
  pub pending : List ℤ
  pub waiters : List Waiter

-- What an evaluation sees: the signals, the locals of its generator by their numbers, and the time of the run.
pub record Store : Type 0 where
  pub design : Design
  pub signals : Signals
  pub locals : List Held
  pub time : ℕ

-- What goes wrong in an expression or an assignment: a value outside its bounds; an index, or an end of a slice, outside what it may be;
-- a divisor that isn't positive; a value that leaves 128 signed bits; an amount of a shift outside 0 to 127.
pub data Fault : Type 0 where
  Range : (value low high : ℤ) → Fault
  Index : (value low high : ℤ) → Fault
  Divide : (value : ℤ) → Fault
  NumberTooWide : Fault
  Shift : (value : ℤ) → Fault

-- How a value is read by what stands around it: as an integer, as a truth value, or as so many bits, whose range has negative
-- numbers or hasn't.
pub data Form : Type 0 where
  AsInteger : Form
  AsTruth : Form
  AsBits : (width : ℕ) (signed : Bool) → Form

-- The value of an expression, with its width at the moment if it has one.
pub record Operand : Type 0 where
  pub value : ℤ
  pub form : Form

-- How many bits a value has: none without a width, and a truth value one.
abbrev pub bits_of : Form → ℕ
bits_of AsInteger = 0
bits_of AsTruth = 1
bits_of (AsBits w s) = w

-- The limits of the values of a declared kind.
abbrev pub limits_of : Design → Kind → Limits
limits_of d kind.Bool = TruthLimits
limits_of d kind.Int = Unlimited
limits_of d (kind.Bits b) = Between b.lo b.top b.wraps
limits_of d (kind.Item e) = option_map_or (λ x. Coded x.encoding (length x.names)) (slice_get d.enums e) Unlimited

-- How what has these limits is read.
abbrev pub form_of : Limits → Form
form_of Unlimited = AsInteger
form_of TruthLimits = AsTruth
form_of (Between low high wraps) = AsBits (width_of low high) (int_lt low (pos 0))
form_of (Coded c n) = AsInteger

abbrev pub signal_form : Design → ℕ → Form
signal_form d n = option_map_or (λ k. form_of (limits_of d k)) (signal_kind d n) AsInteger

-- The current value of a signal.
abbrev pub signal_value : Store → ℕ → ℤ
signal_value s n = slice_index_or s.signals.values n (pos 0)

abbrev pub signal_operand : Store → ℕ → Operand
signal_operand s n = record { value = signal_value s n; form = signal_form s.design n }

abbrev pub held_operand : Held → Operand
held_operand h = record { value = h.value; form = form_of h.limits }

abbrev pub no_local : Held
no_local = record { value = pos 0; limits = Unlimited }

abbrev pub local_at : Store → ℕ → Held
local_at s n = slice_index_or s.locals n no_local

-- The value of an item of an enum is its code.
abbrev pub item_value : Design → ℕ → ℕ → ℤ
item_value d e i = option_map_or (λ x. pos (item_code x.encoding (length x.names) i)) (slice_get d.enums e) (pos 0)

abbrev pub table_values : Design → ℕ → List ℤ
table_values d t = option_map_or (λ x. x.values) (slice_get d.tables t) []

abbrev pub integer : ℤ → Operand
integer z = record { value = z; form = AsInteger }

abbrev pub truth : Bool → Operand
truth b = record { value = number_of_truth b; form = AsTruth }

-- A value is true where it isn't 0.
abbrev pub is_true : ℤ → Bool
is_true z = not (int_eq z (pos 0))

-- Goes on with a value, or keeps the fault.
abbrev pub with_value : {A B : Type 0} → Result A Fault → (A → Result B Fault) → Result B Fault
with_value (Ok x) f = f x
with_value (Err e) f = Err e

-- An integer within 128 signed bits.
abbrev pub within : (ℤ → Operand) → ℤ → Result Operand Fault
within f z = option_map_or (λ x. Ok (f x)) (in_i128 z) (Err NumberTooWide)

-- Goes on where z lies in low .. high.
abbrev pub inside : {A : Type 0} → ℤ → ℤ → ℤ → Result A Fault → Result A Fault
inside z low high r = if is_inside low high z then r else Err (Index z low high)

-- z is an index below n.
abbrev pub indexed : {A : Type 0} → ℤ → ℕ → Result A Fault → Result A Fault
indexed z n r = inside z (pos 0) (pos n -ℤ pos 1) r

-- The ends of a slice of w bits: the lower end is looked at first.
abbrev pub with_ends : {A : Type 0} → ℤ → ℤ → ℕ → Result A Fault → Result A Fault
with_ends i j w r = indexed j w (inside i (j +ℤ pos 1) (pos w) r)

abbrev pub element_of : Store → ℕ → ℤ → Result Operand Fault
element_of s m i =
    indexed i (length (cells_of s.design m)) (Ok (signal_operand s (slice_index_or (cells_of s.design m) (unsigned_abs i) 0)))

abbrev pub table_element_of : Store → ℕ → ℤ → Result Operand Fault
table_element_of s t i =
    indexed i (length (table_values s.design t)) (Ok (integer (slice_index_or (table_values s.design t) (unsigned_abs i) (pos 0))))

-- `a[i]`
abbrev pub bit_at : Operand → ℤ → Result Operand Fault
bit_at a i =
    indexed i (bits_of a.form) (Ok (record { value = pos (bit_of (unsigned_abs i) a.value); form = AsTruth }))

-- `a[i:j]`: the bits i - 1 down to j, as a number that isn't negative.
abbrev pub slice_at : Operand → ℤ → ℤ → Result Operand Fault
slice_at a i j =
    with_ends i j (bits_of a.form) (Ok (record { value = pos (slice_of (unsigned_abs i) (unsigned_abs j) a.value); form = AsBits (unsigned_abs (i -ℤ j)) false }))

abbrev pub as_bits : ℕ → ℤ → Operand
as_bits w z = record { value = z; form = AsBits w false }

abbrev pub unary_value : UnaryOp → Operand → Result Operand Fault
unary_value unary.Minus a = within integer (pos 0 -ℤ a.value)
unary_value unary.Plus a = Ok (integer a.value)
unary_value unary.Invert a = within (as_bits (bits_of a.form)) (inverse_of (bits_of a.form) a.value)
unary_value unary.Not a = Ok (truth (not (is_true a.value)))

-- A divisor isn't positive where there is no result.
abbrev pub divided : ℤ → Option ℤ → Result Operand Fault
divided b r = option_map_or (λ x. Ok (integer x)) r (Err (Divide b))

-- The amount of a shift is tested before the result.
abbrev pub shifted : ℤ → Option ℤ → Result Operand Fault
shifted b r =
    if is_some (amount_of b) then option_map_or (λ x. Ok (integer x)) r (Err NumberTooWide) else Err (Shift b)

-- `&`, `|` and `^` give a truth value on two truth values.
abbrev pub bitwise_form : Form → Form → Form
bitwise_form AsTruth AsTruth = AsTruth
bitwise_form a b = AsInteger

abbrev pub bitwise_value : (ℤ → ℤ → ℤ) → Operand → Operand → Result Operand Fault
bitwise_value f a b = Ok (record { value = f a.value b.value; form = bitwise_form a.form b.form })

abbrev pub binary_value : BinaryOp → Operand → Operand → Result Operand Fault
binary_value binary.Add a b = within integer (a.value +ℤ b.value)
binary_value binary.Subtract a b = within integer (a.value -ℤ b.value)
binary_value binary.Multiply a b = within integer (a.value *ℤ b.value)
binary_value binary.Divide a b = divided b.value (quotient_of a.value b.value)
binary_value binary.Remainder a b = divided b.value (remainder_of a.value b.value)
binary_value binary.ShiftLeft a b = shifted b.value (left_shift_of a.value b.value)
binary_value binary.ShiftRight a b = shifted b.value (right_shift_of a.value b.value)
binary_value binary.BitAnd a b = bitwise_value integer_and a b
binary_value binary.BitOr a b = bitwise_value integer_or a b
binary_value binary.BitXor a b = bitwise_value integer_xor a b
binary_value binary.Equal a b = Ok (truth (int_eq a.value b.value))
binary_value binary.NotEqual a b = Ok (truth (not (int_eq a.value b.value)))
binary_value binary.Less a b = Ok (truth (int_lt a.value b.value))
binary_value binary.LessEqual a b = Ok (truth (int_le a.value b.value))
binary_value binary.Greater a b = Ok (truth (int_lt b.value a.value))
binary_value binary.GreaterEqual a b = Ok (truth (int_le b.value a.value))

-- The number whose bits are those of the parts, the highest part first, behind the bits that stand before them.
abbrev pub joined_code : ℕ → List Operand → ℕ
joined_code before [] = before
joined_code before (a ∷ rest) = joined_code (before * 2 ^ bits_of a.form + code (bits_of a.form) a.value) rest

-- Their width, where no more than 128 bits are told apart: a number of 128 signed bits that isn't negative has the same bits at every
-- width above 127.
abbrev pub joined_width : List Operand → ℕ
joined_width parts = min 128 (sum_by (λ a. bits_of a.form) parts)

abbrev pub joined : List Operand → Result Operand Fault
joined parts = within (as_bits (joined_width parts)) (pos (joined_code 0 parts))

-- `a.signed()`: a range that has negative numbers is read as such already.
abbrev pub signed_value : Operand → Operand
signed_value a = integer (signed_by a.form a.value) where
  signed_by : Form → ℤ → ℤ
  signed_by AsInteger z = z
  signed_by AsTruth z = z
  signed_by (AsBits w true) z = z
  signed_by (AsBits w false) z = number true w (code w z)

-- An operator that takes one, two or three parts, each of which has its value or its fault. A number of parts that no source gives counts
-- as 0.
abbrev pub of_one : (Operand → Result Operand Fault) → List Operand → Result Operand Fault
of_one f (a ∷ []) = f a
of_one f xs = Ok (integer (pos 0))

abbrev pub of_two : (Operand → Operand → Result Operand Fault) → List Operand → Result Operand Fault
of_two f (a ∷ b ∷ []) = f a b
of_two f xs = Ok (integer (pos 0))

abbrev pub of_three : (Operand → Operand → Operand → Result Operand Fault) → List Operand → Result Operand Fault
of_three f (a ∷ b ∷ c ∷ []) = f a b c
of_three f xs = Ok (integer (pos 0))

-- The values of all parts, or the first fault.
abbrev pub all_values : List (Result Operand Fault) → Result (List Operand) Fault
all_values [] = Ok []
all_values (r ∷ rs) = with_value r (λ x. with_value (all_values rs) (λ xs. Ok (x ∷ xs)))

abbrev pub truth_of : Result Operand Fault → Result Operand Fault
truth_of r = with_value r (λ x. Ok (truth (is_true x.value)))

-- `a and b`: where the left side is false, the right side isn't looked at.
abbrev pub conjunction : List (Result Operand Fault) → Result Operand Fault
conjunction (a ∷ b ∷ []) = with_value a (λ x. if is_true x.value then truth_of b else Ok (truth false))
conjunction rs = Ok (integer (pos 0))

-- `a or b`: where the left side is true, the right side isn't looked at.
abbrev pub disjunction : List (Result Operand Fault) → Result Operand Fault
disjunction (a ∷ b ∷ []) = with_value a (λ x. if is_true x.value then Ok (truth true) else truth_of b)
disjunction rs = Ok (integer (pos 0))

-- An operator on the values of its parts.
abbrev pub on_values : Store → Operator → List Operand → Result Operand Fault
on_values s (ElementOf m) xs = of_one (λ i. element_of s m i.value) xs
on_values s (TableElementOf t) xs = of_one (λ i. table_element_of s t i.value) xs
on_values s BitOf xs = of_two (λ a i. bit_at a i.value) xs
on_values s SliceOf xs = of_three (λ a i j. slice_at a i.value j.value) xs
on_values s (Unary o) xs = of_one (unary_value o) xs
on_values s (Binary o) xs = of_two (binary_value o) xs
on_values s And xs = of_one Ok xs
on_values s Or xs = of_one Ok xs
on_values s Concat xs = joined xs
on_values s Signed xs = of_one (λ a. Ok (signed_value a)) xs
on_values s ToInt xs = of_one (λ a. Ok (integer a.value)) xs
on_values s ToBool xs = of_one (λ a. Ok (truth (is_true a.value))) xs

abbrev pub operated : Store → Operator → List (Result Operand Fault) → Result Operand Fault
operated s And rs = conjunction rs
operated s Or rs = disjunction rs
operated s o rs = with_value (all_values rs) (on_values s o)

-- What an expression gives, or its first fault.
unfoldable mutual
  pub operand : Store → Expression → Result Operand Fault
  operand s (Integer z) = Ok (integer z)
  operand s (Truth b) = Ok (truth b)
  operand s (Item e i) = Ok (integer (item_value s.design e i))
  operand s (Fixed z b) = Ok (record { value = z; form = form_of (Between b.lo b.top b.wraps) })
  operand s (Signal n) = Ok (signal_operand s n)
  operand s (Local n) = Ok (held_operand (local_at s n))
  operand s Now = Ok (integer (pos s.time))
  operand s (Operation o xs) = operated s o (operands s xs)

  pub operands : Store → Expressions → List (Result Operand Fault)
  operands s NoMore = []
  operands s (More x xs) = operand s x ∷ operands s xs

-- The value of an expression, or its first fault.
abbrev pub value_of : Expression → Store → Result ℤ Fault
value_of e s = with_value (operand s e) (λ a. Ok a.value)
