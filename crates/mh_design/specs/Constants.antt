-- The rule of constant indices and slices (MyHDL 0.11 manual, "Bit indexing" and "Bit slicing": `a[i:j]` is bits i - 1 down to j).
use Rattle.std.specs.Prelude.{ℕ, ℤ, pos, Bool, true, false, ◌&&◌, int_lt, int_le, List, [], ◌∷◌, length, slice_get, Option, None, Some, option_and_then}
use Rattle.std.specs.Option.{option_map_or}
use Rattle.std.specs.List.{list_all}
use Rattle.mh_codes.specs.Widths.{width_of}
use Rattle.mh_design.specs.declared.design.Kind.{Kind}
use Rattle.mh_design.specs.declared.design.Kind.TheVariants as kind
use Rattle.mh_design.specs.declared.design.Local.{Local as Variable}
use Rattle.mh_design.specs.declared.design.Design.{Design}
use Rattle.mh_design.specs.Kinds.{signal_kind, mem_kind, local_kind}
use Rattle.mh_design.specs.Numbering.{expressions, own_expressions}
use Rattle.mh_design.specs.Tree.{Expression, Expressions, Operator, Integer, Truth, Item, Fixed, Signal, Local, Now, Operation, NoMore, More, ElementOf, TableElementOf, BitOf, SliceOf, Unary, Binary, And, Or, Concat, Signed, ToInt, ToBool, LeftBase, LeftSignal, LeftElement, LeftLocal, LeftSide, Whole, LeftBit, LeftSlice, Bind, Printed, Words, Number, Statement, Set, If, While, For, Break, Continue, Yield, Print, Assert, Stop, Block, End, Then, Arm, ArmOf, Arms, NoArm, MoreArms}

-- A truth value is the integer 0 or 1.
abbrev pub number_of_truth : Bool → ℤ
number_of_truth true = pos 1
number_of_truth false = pos 0

-- The value of a constant.
abbrev pub constant_of : Expression → Option ℤ
constant_of (Integer z) = Some z
constant_of (Truth b) = Some (number_of_truth b)
constant_of (Fixed z b) = Some z
constant_of e = None

-- The width of a declared kind that has one.
abbrev pub kind_width : Kind → Option ℕ
kind_width (kind.Bits b) = Some (width_of b.lo b.top)
kind_width k = None

-- The width of a base. A local has that of its declared bounds.
abbrev pub base_width : Design → List Variable → Expression → Option ℕ
base_width d ls (Signal s) = option_and_then kind_width (signal_kind d s)
base_width d ls (Local v) = option_and_then kind_width (local_kind ls v)
base_width d ls (Fixed z b) = Some (width_of b.lo b.top)
base_width d ls (Operation (ElementOf m) xs) = option_and_then kind_width (mem_kind d m)
base_width d ls e = None

abbrev pub left_width : Design → List Variable → LeftBase → Option ℕ
left_width d ls (LeftSignal s) = option_and_then kind_width (signal_kind d s)
left_width d ls (LeftElement m i) = option_and_then kind_width (mem_kind d m)
left_width d ls (LeftLocal v) = option_and_then kind_width (local_kind ls v)

-- How many elements a memory or a table has; 0 for a number that names none.
abbrev pub cell_count : Design → ℕ → ℕ
cell_count d m = option_map_or (λ x. length x.cells) (slice_get d.mems m) 0

abbrev pub table_length : Design → ℕ → ℕ
table_length d t = option_map_or (λ x. length x.values) (slice_get d.tables t) 0

-- An index is below n, if it is a constant.
abbrev pub index_keeps : Expression → ℕ → Bool
index_keeps i n = option_map_or (λ z. int_le (pos 0) z && int_lt z (pos n)) (constant_of i) true

-- The ends of a slice of a base of w bits, if both are constants.
abbrev pub ends_keep : Option ℤ → Option ℤ → ℕ → Bool
ends_keep (Some i) (Some j) w = (int_le (pos 0) j && int_lt j i) && int_le i (pos w)
ends_keep i j w = true

abbrev pub slice_keeps : Expression → Expression → ℕ → Bool
slice_keeps i j w = ends_keep (constant_of i) (constant_of j) w

-- What has no width, or isn't there, is asked of by the kinds.
abbrev pub part_keeps : Design → List Variable → Operator → Expressions → Bool
part_keeps d ls (ElementOf m) (More i NoMore) = index_keeps i (cell_count d m)
part_keeps d ls (TableElementOf t) (More i NoMore) = index_keeps i (table_length d t)
part_keeps d ls BitOf (More a (More i NoMore)) = option_map_or (index_keeps i) (base_width d ls a) true
part_keeps d ls SliceOf (More a (More i (More j NoMore))) = option_map_or (slice_keeps i j) (base_width d ls a) true
part_keeps d ls o xs = true

-- An expression keeps the rule itself, its parts aside.
abbrev pub keeps_rule : Design → List Variable → Expression → Bool
keeps_rule d ls (Operation o xs) = part_keeps d ls o xs
keeps_rule d ls e = true

abbrev pub base_keeps : Design → LeftBase → Bool
base_keeps d (LeftSignal s) = true
base_keeps d (LeftElement m i) = index_keeps i (cell_count d m)
base_keeps d (LeftLocal v) = true

abbrev pub left_keeps : Design → List Variable → LeftSide → Bool
left_keeps d ls (Whole b) = base_keeps d b
left_keeps d ls (LeftBit b i) = base_keeps d b && option_map_or (index_keeps i) (left_width d ls b) true
left_keeps d ls (LeftSlice b i j) = base_keeps d b && option_map_or (slice_keeps i j) (left_width d ls b) true
left_keeps d ls (Bind v k) = true

abbrev pub assigned_keeps : Design → List Variable → Statement → Bool
assigned_keeps d ls (Set l t e) = left_keeps d ls t
assigned_keeps d ls s = true

-- An expression and all its parts keep the rule.
abbrev pub constants_keep : Design → List Variable → Expression → Bool
constants_keep d ls e = list_all (keeps_rule d ls) (expressions e)
