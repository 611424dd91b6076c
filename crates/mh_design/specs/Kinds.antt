-- The kinds of expressions in generators (MyHDL 0.11 manual, "Reference": `intbv`, `modbv`, `bool`, `enum`; which form takes
-- which kind is this project's own).
use Rattle.std.specs.Prelude.{ℕ, ℤ, pos, Bool, true, false, not, ◌&&◌, ◌==◌, nat_lt, int_lt, List, [], ◌∷◌, length, slice_get, Option, None, Some, option_and_then, if◌then◌else◌}
use Rattle.std.specs.Option.{option_map, option_map_or}
use Rattle.std.specs.List.{list_all}
use Rattle.mh_codes.specs.Ranges.{is_inside}
use Rattle.mh_num.specs.declared.bounds.Bounds.{Bounds}
use Rattle.mh_design.specs.declared.design.Kind.{Kind}
use Rattle.mh_design.specs.declared.design.Kind.TheVariants as kind
use Rattle.mh_design.specs.declared.design.Local.{Local as Variable}
use Rattle.mh_design.specs.declared.design.Design.{Design}
use Rattle.mh_design.specs.declared.kinds.ValueKind.{ValueKind}
use Rattle.mh_design.specs.declared.kinds.ValueKind.TheVariants as value
use Rattle.mh_design.specs.declared.expression.UnaryOp.{UnaryOp}
use Rattle.mh_design.specs.declared.expression.UnaryOp.TheVariants as unary
use Rattle.mh_design.specs.declared.expression.BinaryOp.{BinaryOp}
use Rattle.mh_design.specs.declared.expression.BinaryOp.TheVariants as binary
use Rattle.mh_design.specs.Tree.{Expression, Expressions, Operator, Integer, Truth, Item, Fixed, Signal, Local, Now, Operation, NoMore, More, ElementOf, TableElementOf, BitOf, SliceOf, Unary, Binary, And, Or, Concat, Signed, ToInt, ToBool}

-- The kinds that are declared; a number that names nothing has none.
abbrev pub signal_kind : Design → ℕ → Option Kind
signal_kind d s = option_map (λ x. x.kind) (slice_get d.signals s)

abbrev pub mem_kind : Design → ℕ → Option Kind
mem_kind d m = option_map (λ x. x.kind) (slice_get d.mems m)

abbrev pub local_kind : List Variable → ℕ → Option Kind
local_kind ls v = option_map (λ x. x.kind) (slice_get ls v)

-- How many items an enum has; 0 for a number that names none.
abbrev pub item_count : Design → ℕ → ℕ
item_count d e = option_map_or (λ x. length x.names) (slice_get d.enums e) 0

-- What the values of a declared kind are.
abbrev pub read_as : Kind → ValueKind
read_as kind.Bool = value.Bool
read_as kind.Int = value.Int
read_as (kind.Bits b) = value.Bits (int_lt b.lo (pos 0))
read_as (kind.Item e) = value.Item e

abbrev pub read_some : Option Kind → Option ValueKind
read_some k = option_map read_as k

-- Truth values, integers and bounded numbers are numbers; the items of an enum aren't.
abbrev pub is_number : ValueKind → Bool
is_number value.Bool = true
is_number value.Int = true
is_number (value.Bits s) = true
is_number (value.Item e) = false

-- A number with a width.
abbrev pub is_bits : ValueKind → Bool
is_bits value.Bool = false
is_bits value.Int = false
is_bits (value.Bits s) = true
is_bits (value.Item e) = false

-- What may be a part of `concat`: a truth value counts as one bit.
abbrev pub is_part : ValueKind → Bool
is_part value.Bool = true
is_part value.Int = false
is_part (value.Bits s) = true
is_part (value.Item e) = false

-- One kind where a test holds.
abbrev pub given : Bool → ValueKind → Option ValueKind
given b k = if b then Some k else None

-- `-a` and `+a` give an integer, `not a` a truth value; `~a` is only for numbers with a width that aren't negative.
abbrev pub unary_kind : UnaryOp → ValueKind → Option ValueKind
unary_kind unary.Minus a = given (is_number a) value.Int
unary_kind unary.Plus a = given (is_number a) value.Int
unary_kind unary.Invert value.Bool = None
unary_kind unary.Invert value.Int = None
unary_kind unary.Invert (value.Bits s) = given (not s) (value.Bits false)
unary_kind unary.Invert (value.Item e) = None
unary_kind unary.Not a = given (is_number a) value.Bool

abbrev pub numeric : ValueKind → ValueKind → ValueKind → Option ValueKind
numeric a b k = given (is_number a && is_number b) k

-- `&`, `|` and `^` give a truth value on two truth values.
abbrev pub bitwise : ValueKind → ValueKind → Option ValueKind
bitwise value.Bool value.Bool = Some value.Bool
bitwise a b = numeric a b value.Int

-- `==` and `!=` take two numbers, or two items of one enum.
abbrev pub equality : ValueKind → ValueKind → Option ValueKind
equality (value.Item e) (value.Item f) = given (e == f) value.Bool
equality a b = numeric a b value.Bool

abbrev pub binary_kind : BinaryOp → ValueKind → ValueKind → Option ValueKind
binary_kind binary.Add a b = numeric a b value.Int
binary_kind binary.Subtract a b = numeric a b value.Int
binary_kind binary.Multiply a b = numeric a b value.Int
binary_kind binary.Divide a b = numeric a b value.Int
binary_kind binary.Remainder a b = numeric a b value.Int
binary_kind binary.ShiftLeft a b = numeric a b value.Int
binary_kind binary.ShiftRight a b = numeric a b value.Int
binary_kind binary.BitAnd a b = bitwise a b
binary_kind binary.BitOr a b = bitwise a b
binary_kind binary.BitXor a b = bitwise a b
binary_kind binary.Equal a b = equality a b
binary_kind binary.NotEqual a b = equality a b
binary_kind binary.Less a b = numeric a b value.Bool
binary_kind binary.LessEqual a b = numeric a b value.Bool
binary_kind binary.Greater a b = numeric a b value.Bool
binary_kind binary.GreaterEqual a b = numeric a b value.Bool

-- What is declared with a width, so that it may be indexed and sliced.
abbrev pub is_base : Expression → Bool
is_base (Signal s) = true
is_base (Local v) = true
is_base (Fixed z b) = true
is_base (Operation (ElementOf m) xs) = true
is_base e = false

-- `concat` takes one part or more.
abbrev pub concat_kind : List ValueKind → Option ValueKind
concat_kind [] = None
concat_kind (k ∷ ks) = given (list_all is_part (k ∷ ks)) (value.Bits false)

-- An operator that takes one, two or three parts.
abbrev pub on_one : (ValueKind → Option ValueKind) → List ValueKind → Option ValueKind
on_one f (a ∷ []) = f a
on_one f ks = None

abbrev pub on_two : (ValueKind → ValueKind → Option ValueKind) → List ValueKind → Option ValueKind
on_two f (a ∷ b ∷ []) = f a b
on_two f ks = None

abbrev pub on_three : (ValueKind → ValueKind → ValueKind → Option ValueKind) → List ValueKind → Option ValueKind
on_three f (a ∷ b ∷ c ∷ []) = f a b c
on_three f ks = None

abbrev pub bit_kind : ValueKind → ValueKind → Option ValueKind
bit_kind a i = given (is_bits a && is_number i) value.Bool

abbrev pub slice_kind : ValueKind → ValueKind → ValueKind → Option ValueKind
slice_kind a i j = given (is_bits a && (is_number i && is_number j)) (value.Bits false)

abbrev pub element_kind : Design → ℕ → ValueKind → Option ValueKind
element_kind d m i = if is_number i then read_some (mem_kind d m) else None

abbrev pub table_kind : Design → ℕ → ValueKind → Option ValueKind
table_kind d t i = given (is_number i && nat_lt t (length d.tables)) value.Int

-- The kind of an operation whose parts have these kinds.
abbrev pub operated : Design → Operator → List ValueKind → Option ValueKind
operated d (ElementOf m) = on_one (element_kind d m)
operated d (TableElementOf t) = on_one (table_kind d t)
operated d BitOf = on_two bit_kind
operated d SliceOf = on_three slice_kind
operated d (Unary o) = on_one (unary_kind o)
operated d (Binary o) = on_two (binary_kind o)
operated d And = on_two (λ a b. numeric a b value.Bool)
operated d Or = on_two (λ a b. numeric a b value.Bool)
operated d Concat = concat_kind
operated d Signed = on_one (λ a. given (is_bits a) value.Int)
operated d ToInt = on_one (λ a. given (is_number a) value.Int)
operated d ToBool = on_one (λ a. given (is_number a) value.Bool)

-- What an index or a slice is taken of is a base.
abbrev pub first_is_base : Expressions → Bool
first_is_base NoMore = false
first_is_base (More a xs) = is_base a

abbrev pub has_base : Operator → Expressions → Bool
has_base BitOf xs = first_is_base xs
has_base SliceOf xs = first_is_base xs
has_base o xs = true

-- The kind of an expression, or nothing where its parts don't fit it or a number names nothing.
abbrev mutual
  pub kind_of : Design → List Variable → Expression → Option ValueKind
  kind_of d ls (Integer z) = Some value.Int
  kind_of d ls (Truth b) = Some value.Bool
  kind_of d ls (Item e i) = given (nat_lt i (item_count d e)) (value.Item e)
  kind_of d ls (Fixed z b) = given (is_inside b.lo b.top z) (value.Bits (int_lt b.lo (pos 0)))
  kind_of d ls (Signal s) = read_some (signal_kind d s)
  kind_of d ls (Local v) = read_some (local_kind ls v)
  kind_of d ls Now = Some value.Int
  kind_of d ls (Operation o xs) = if has_base o xs then option_and_then (operated d o) (kinds_of d ls xs) else None

  pub kinds_of : Design → List Variable → Expressions → Option (List ValueKind)
  kinds_of d ls NoMore = Some []
  kinds_of d ls (More x xs) = option_and_then (λ k. option_map (λ ks. k ∷ ks) (kinds_of d ls xs)) (kind_of d ls x)
