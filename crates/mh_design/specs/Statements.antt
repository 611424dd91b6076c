-- What is asked of a statement by itself: that kinds fit, that numbers name something, and that it stands where it may (MyHDL 0.11
-- manual, "Reference"; which kinds fit is this project's own).
use Rattle.std.specs.Prelude.{ℕ, ℤ, pos, Bool, true, false, not, ◌&&◌, ◌||◌, ◌==◌, nat_lt, nat_le, List, length, Option, None, Some, is_some}
use Rattle.std.specs.Option.{option_map_or}
use Rattle.std.specs.List.{list_all}
use Rattle.std.specs.Ordering.{int_eq}
use Rattle.mh_design.specs.declared.design.Kind.{Kind}
use Rattle.mh_design.specs.declared.design.Kind.TheVariants as kind
use Rattle.mh_design.specs.declared.design.Local.{Local as Variable}
use Rattle.mh_design.specs.declared.design.Wait.{Wait}
use Rattle.mh_design.specs.declared.design.Wait.TheVariants as wait
use Rattle.mh_design.specs.declared.design.Design.{Design}
use Rattle.mh_design.specs.declared.kinds.ValueKind.{ValueKind}
use Rattle.mh_design.specs.declared.kinds.ValueKind.TheVariants as value
use Rattle.mh_design.specs.declared.statement.Binding.{Binding}
use Rattle.mh_design.specs.declared.statement.Binding.TheVariants as binding
use Rattle.mh_design.specs.Kinds.{signal_kind, mem_kind, local_kind, is_number, kind_of}
use Rattle.mh_design.specs.Numbering.{arm_tests, own_expressions}
use Rattle.mh_design.specs.Constants.{left_keeps, assigned_keeps, constants_keep}
use Rattle.mh_design.specs.Tree.{Expression, Expressions, Operator, Integer, Truth, Item, Fixed, Signal, Local, Now, Operation, NoMore, More, ElementOf, TableElementOf, BitOf, SliceOf, Unary, Binary, And, Or, Concat, Signed, ToInt, ToBool, LeftBase, LeftSignal, LeftElement, LeftLocal, LeftSide, Whole, LeftBit, LeftSlice, Bind, Printed, Words, Number, Statement, Set, If, While, For, Break, Continue, Yield, Print, Assert, Stop, Block, End, Then, Arm, ArmOf, Arms, NoArm, MoreArms}

-- An expression that is a number: a condition, an index, an end of a loop.
abbrev pub is_numeric : Design → List Variable → Expression → Bool
is_numeric d ls e = option_map_or is_number (kind_of d ls e) false

abbrev pub is_integer_kind : ValueKind → Bool
is_integer_kind value.Bool = false
is_integer_kind value.Int = true
is_integer_kind (value.Bits s) = false
is_integer_kind (value.Item e) = false

abbrev pub is_integer : Design → List Variable → Expression → Bool
is_integer d ls e = option_map_or is_integer_kind (kind_of d ls e) false

-- A place of the declared kind takes values of this kind; whether a number lies in its bounds is tested in the run.
abbrev pub takes : Kind → ValueKind → Bool
takes kind.Bool k = is_number k
takes kind.Int k = is_number k
takes (kind.Bits b) k = is_number k
takes (kind.Item e) value.Bool = false
takes (kind.Item e) value.Int = false
takes (kind.Item e) (value.Bits s) = false
takes (kind.Item e) (value.Item f) = f == e

abbrev pub is_bits_kind : Kind → Bool
is_bits_kind kind.Bool = false
is_bits_kind kind.Int = false
is_bits_kind (kind.Bits b) = true
is_bits_kind (kind.Item e) = false

abbrev pub is_bool_kind : Kind → Bool
is_bool_kind kind.Bool = true
is_bool_kind kind.Int = false
is_bool_kind (kind.Bits b) = false
is_bool_kind (kind.Item e) = false

abbrev pub is_int_kind : Kind → Bool
is_int_kind kind.Bool = false
is_int_kind kind.Int = true
is_int_kind (kind.Bits b) = false
is_int_kind (kind.Item e) = false

-- The declared kind of what is assigned, or a part of which is.
abbrev pub base_kind : Design → List Variable → LeftBase → Option Kind
base_kind d ls (LeftSignal s) = signal_kind d s
base_kind d ls (LeftElement m i) = mem_kind d m
base_kind d ls (LeftLocal v) = local_kind ls v

-- The index of an element is a number.
abbrev pub base_fits : Design → List Variable → LeftBase → Bool
base_fits d ls (LeftSignal s) = true
base_fits d ls (LeftElement m i) = is_numeric d ls i
base_fits d ls (LeftLocal v) = true

abbrev pub is_no_local : LeftBase → Bool
is_no_local (LeftSignal s) = true
is_no_local (LeftElement m i) = true
is_no_local (LeftLocal v) = false

abbrev pub has_bits : Design → List Variable → LeftBase → Bool
has_bits d ls b = option_map_or is_bits_kind (base_kind d ls b) false

-- `v = e` keeps the kind of the local. A truth value may be given to an integer, but no other number to a truth value.
abbrev pub bound_takes : Kind → ValueKind → Bool
bound_takes kind.Bool value.Bool = true
bound_takes kind.Bool value.Int = false
bound_takes kind.Bool (value.Bits s) = false
bound_takes kind.Bool (value.Item e) = false
bound_takes kind.Int k = is_number k
bound_takes (kind.Bits b) k = false
bound_takes (kind.Item e) k = takes (kind.Item e) k

-- `v = intbv(..)` is for a local that is a bounded number.
abbrev pub binding_takes : Binding → Kind → ValueKind → Bool
binding_takes binding.Plain v k = bound_takes v k
binding_takes (binding.Bounded b) v k = is_bits_kind v && is_number k
binding_takes (binding.LowBits n wraps) v k = (is_bits_kind v && is_number k) && (nat_le 1 n && nat_le n 127)

-- The left side takes a value of this kind. `v[:] = e` is for bounded numbers, as a part is.
abbrev pub left_takes : Design → List Variable → LeftSide → ValueKind → Bool
left_takes d ls (Whole b) k = (base_fits d ls b && (is_no_local b || has_bits d ls b)) && option_map_or (λ x. takes x k) (base_kind d ls b) false
left_takes d ls (LeftBit b i) k = (base_fits d ls b && has_bits d ls b) && (is_numeric d ls i && is_number k)
left_takes d ls (LeftSlice b i j) k = (base_fits d ls b && has_bits d ls b) && ((is_numeric d ls i && is_numeric d ls j) && is_number k)
left_takes d ls (Bind v n) k = option_map_or (λ x. binding_takes n x k) (local_kind ls v) false

-- What is waited for is there: an edge is that of a signal of truth values, a delay is 1 to 2^31 - 1.
abbrev pub wait_fits : Design → Wait → Bool
wait_fits d (wait.Change s) = nat_lt s (length d.signals)
wait_fits d (wait.Edge s up) = option_map_or is_bool_kind (signal_kind d s) false
wait_fits d (wait.Delay n) = nat_le 1 n && nat_le n 2147483647

-- What is printed is text or an integer.
abbrev pub printed_fits : Design → List Variable → Printed → Bool
printed_fits d ls (Words t) = true
printed_fits d ls (Number e) = is_integer d ls e

-- The kinds of a statement's own parts fit. The variable of a loop is an integer.
abbrev pub kinds_fit : Design → List Variable → Statement → Bool
kinds_fit d ls (Set l t e) = option_map_or (left_takes d ls t) (kind_of d ls e) false
kinds_fit d ls (If l rs other) = list_all (is_numeric d ls) (arm_tests rs)
kinds_fit d ls (While l e b) = is_numeric d ls e
kinds_fit d ls (For l v down a z step b) = (option_map_or is_int_kind (local_kind ls v) false && not (int_eq step (pos 0))) && (is_numeric d ls a && is_numeric d ls z)
kinds_fit d ls (Break l) = true
kinds_fit d ls (Continue l) = true
kinds_fit d ls (Yield l ws) = list_all (wait_fits d) ws
kinds_fit d ls (Print l ps) = list_all (printed_fits d ls) ps
kinds_fit d ls (Assert l e) = is_numeric d ls e
kinds_fit d ls (Stop l) = true

-- Constant indices and slices keep their rule, on the left too.
abbrev pub constants_fit : Design → List Variable → Statement → Bool
constants_fit d ls s = assigned_keeps d ls s && list_all (constants_keep d ls) (own_expressions s)

-- A `yield` stands only in an `@instance`.
abbrev pub yield_fits : Bool → Statement → Bool
yield_fits instance (Yield l ws) = instance
yield_fits instance s = true

abbrev pub statement_fits : Design → List Variable → Bool → Statement → Bool
statement_fits d ls instance s = (kinds_fit d ls s && constants_fit d ls s) && yield_fits instance s

-- Each `break` and `continue` stands in a loop; the first argument tells whether one is around.
abbrev mutual
  pub exits_fit : Bool → Statement → Bool
  exits_fit loop (If l rs other) = arms_exits_fit loop rs && block_exits_fit loop other
  exits_fit loop (While l e b) = block_exits_fit true b
  exits_fit loop (For l v down a z step b) = block_exits_fit true b
  exits_fit loop (Break l) = loop
  exits_fit loop (Continue l) = loop
  exits_fit loop s = true

  pub block_exits_fit : Bool → Block → Bool
  block_exits_fit loop End = true
  block_exits_fit loop (Then s b) = exits_fit loop s && block_exits_fit loop b

  pub arm_exits_fit : Bool → Arm → Bool
  arm_exits_fit loop (ArmOf e b) = block_exits_fit loop b

  pub arms_exits_fit : Bool → Arms → Bool
  arms_exits_fit loop NoArm = true
  arms_exits_fit loop (MoreArms r rs) = arm_exits_fit loop r && arms_exits_fit loop rs
