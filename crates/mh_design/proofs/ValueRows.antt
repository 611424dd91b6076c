-- The definitions of a run on worked examples, each by computing.
use Rattle.std.proofs.Common.{ℕ, ℤ, pos, negsuc, ◌≡◌, Bool, true, false, List, [], ◌∷◌, None, Result, Ok, Err, map, refl, lit≤, arith}
use Rattle.mh_num.specs.declared.bounds.Bounds.{Bounds}
use Rattle.mh_design.specs.declared.design.Design.{Design}
use Rattle.mh_design.specs.declared.design.Encoding.TheVariants as encoding
use Rattle.mh_design.specs.declared.design.Kind.{Kind}
use Rattle.mh_design.specs.declared.design.Kind.TheVariants as kind
use Rattle.mh_design.specs.declared.design.SignalDecl.{SignalDecl}
use Rattle.mh_design.specs.declared.design.Wait.TheVariants as wait
use Rattle.mh_design.specs.declared.expression.UnaryOp.TheVariants as unary
use Rattle.mh_design.specs.declared.expression.BinaryOp.{BinaryOp}
use Rattle.mh_design.specs.declared.expression.BinaryOp.TheVariants as binary
use Rattle.mh_design.specs.declared.statement.Binding.TheVariants as binding
use Rattle.mh_design.specs.Tree.{Expression, Integer, Truth, Item, Fixed, Signal, Local, Now, Operation, one, two, three, row, ElementOf, TableElementOf, BitOf, SliceOf, Unary, Binary, And, Or, Concat, Signed, LeftSignal, LeftElement, LeftLocal, Whole, LeftBit, LeftSlice, Bind}
use Rattle.mh_design.specs.Values.{Unlimited, Between, Held, Signals, Store, Fault, Range, Index, Divide, NumberTooWide, Shift, operand, value_of, with_value, local_at}
use Rattle.mh_design.specs.Assignments.{assigned, set_pending, pending_at}
use Rattle.mh_design.specs.Deltas.{first_signals, updated, is_pending}

-- Eight bits; -8 to 7; a `modbv` of three bits.
abbrev byte : Bounds
byte = record { lo = pos 0; top = pos 255; wraps = false; ordered = omega arith; in_127_bits = lit≤ tt }

abbrev nibble : Bounds
nibble = record { lo = negsuc 7; top = pos 7; wraps = false; ordered = omega arith; in_127_bits = lit≤ tt }

abbrev ring : Bounds
ring = record { lo = pos 0; top = pos 7; wraps = true; ordered = omega arith; in_127_bits = lit≤ tt }

abbrev signal : Kind → ℤ → SignalDecl
signal k z = record { path = []; kind = k; init = z; reset = None; line = 1 }

-- Signal 0 is a byte, 1 a nibble, 2 a ring, 3 a truth value, 4 an item of an enum, and 5 to 7 are a memory of bytes.
abbrev sample : Design
sample = record {
  name = [];
  ports = [];
  signals = signal (kind.Bits byte) (pos 171) ∷ signal (kind.Bits nibble) (negsuc 3) ∷ signal (kind.Bits ring) (pos 6) ∷ signal kind.Bool (pos 1) ∷ signal (kind.Item 0) (pos 5) ∷ signal (kind.Bits byte) (pos 10) ∷ signal (kind.Bits byte) (pos 20) ∷ signal (kind.Bits byte) (pos 30) ∷ [];
  mems = record { list = 0; path = []; kind = kind.Bits byte; cells = 5 ∷ 6 ∷ 7 ∷ []; line = 1 } ∷ [];
  tables = record { path = []; values = pos 3 ∷ negsuc 0 ∷ [] } ∷ [];
  enums = record { names = [] ∷ [] ∷ [] ∷ []; encoding = encoding.OneCold } ∷ [];
  generators = [];
  listed = [];
  line = 1;
}

-- Local 0 is a byte with the value 200, and local 1 an integer.
abbrev store : Store
store = record {
  design = sample;
  signals = first_signals sample;
  locals = record { value = pos 200; limits = Between (pos 0) (pos 255) false } ∷ record { value = negsuc 99; limits = Unlimited } ∷ [];
  time = 7;
}

abbrev op : BinaryOp → Expression → Expression → Expression
op o a b = Operation (Binary o) (two a b)

abbrev s : ℕ → Expression
s = Signal

abbrev n : ℕ → Expression
n k = Integer (pos k)

-- Sums, differences and products, and where they leave 128 signed bits.
pub arithmetic : map (λ e. value_of e store) (op binary.Add (s 0) (s 1) ∷ op binary.Subtract (s 1) (s 0) ∷ op binary.Multiply (s 0) (s 1) ∷ op binary.Add (s 3) (s 3) ∷ op binary.Add (Integer (pos 170141183460469231731687303715884105727)) (s 3) ∷ op binary.Subtract (Integer (negsuc 170141183460469231731687303715884105727)) (s 3) ∷ op binary.Multiply (Integer (pos 85070591730234615865843651857942052864)) (Integer (negsuc 1)) ∷ Operation (Unary unary.Minus) (one (s 1)) ∷ Operation (Unary unary.Minus) (one (Integer (negsuc 170141183460469231731687303715884105727))) ∷ Operation (Unary unary.Plus) (one (s 3)) ∷ []) ≡ Ok (pos 167) ∷ Ok (negsuc 174) ∷ Ok (negsuc 683) ∷ Ok (pos 2) ∷ Err NumberTooWide ∷ Err NumberTooWide ∷ Ok (negsuc 170141183460469231731687303715884105727) ∷ Ok (pos 4) ∷ Err NumberTooWide ∷ Ok (pos 1) ∷ []
unfolding operand
arithmetic = refl

-- Quotients and remainders are rounded down; a divisor is positive.
pub division : map (λ e. value_of e store) (op binary.Divide (s 1) (n 3) ∷ op binary.Remainder (s 1) (n 3) ∷ op binary.Divide (s 0) (n 3) ∷ op binary.Divide (s 0) (n 0) ∷ op binary.Remainder (s 0) (s 1) ∷ []) ≡ Ok (negsuc 1) ∷ Ok (pos 2) ∷ Ok (pos 57) ∷ Err (Divide (pos 0)) ∷ Err (Divide (negsuc 3)) ∷ []
unfolding operand
division = refl

-- The amount of a shift is tested before the result.
pub shifts : map (λ e. value_of e store) (op binary.ShiftLeft (s 1) (n 3) ∷ op binary.ShiftRight (Integer (negsuc 6)) (n 1) ∷ op binary.ShiftRight (s 0) (n 127) ∷ op binary.ShiftLeft (n 1) (n 126) ∷ op binary.ShiftLeft (n 1) (n 127) ∷ op binary.ShiftLeft (n 1) (n 128) ∷ op binary.ShiftLeft (Integer (pos 170141183460469231731687303715884105727)) (Integer (negsuc 0)) ∷ op binary.ShiftRight (n 0) (n 128) ∷ []) ≡ Ok (negsuc 31) ∷ Ok (negsuc 3) ∷ Ok (pos 0) ∷ Ok (pos 85070591730234615865843651857942052864) ∷ Err NumberTooWide ∷ Err (Shift (pos 128)) ∷ Err (Shift (negsuc 0)) ∷ Err (Shift (pos 128)) ∷ []
unfolding operand
shifts = refl

-- Operators on bits are those of two's complement.
pub bits : map (λ e. value_of e store) (op binary.BitAnd (s 1) (s 0) ∷ op binary.BitOr (s 1) (s 2) ∷ op binary.BitXor (s 0) (s 1) ∷ op binary.BitXor (s 3) (Truth true) ∷ Operation (Unary unary.Invert) (one (s 0)) ∷ Operation (Unary unary.Invert) (one (s 2)) ∷ Operation (Unary unary.Invert) (one (Operation SliceOf (three (s 0) (n 4) (n 1)))) ∷ []) ≡ Ok (pos 168) ∷ Ok (negsuc 1) ∷ Ok (negsuc 168) ∷ Ok (pos 0) ∷ Ok (pos 84) ∷ Ok (pos 1) ∷ Ok (pos 2) ∷ []
unfolding operand
bits = refl

-- Comparisons and tests give 0 or 1.
pub orders : map (λ e. value_of e store) (op binary.Less (s 1) (s 0) ∷ op binary.LessEqual (s 0) (n 171) ∷ op binary.Greater (s 0) (n 171) ∷ op binary.GreaterEqual (s 0) (n 171) ∷ op binary.Equal (s 4) (Item 0 1) ∷ op binary.NotEqual (s 4) (Item 0 0) ∷ Operation (Unary unary.Not) (one (s 1)) ∷ Operation (Unary unary.Not) (one (n 0)) ∷ []) ≡ Ok (pos 1) ∷ Ok (pos 1) ∷ Ok (pos 0) ∷ Ok (pos 1) ∷ Ok (pos 1) ∷ Ok (pos 1) ∷ Ok (pos 0) ∷ Ok (pos 1) ∷ []
unfolding operand
orders = refl

-- A right side that isn't needed is not looked at; what is given is a truth value.
pub short : map (λ e. value_of e store) (Operation And (two (n 0) (op binary.Divide (n 1) (n 0))) ∷ Operation And (two (s 0) (op binary.Divide (n 1) (n 0))) ∷ Operation And (two (s 0) (s 1)) ∷ Operation Or (two (s 0) (op binary.Divide (n 1) (n 0))) ∷ Operation Or (two (n 0) (op binary.Divide (n 1) (n 0))) ∷ Operation Or (two (n 0) (s 2)) ∷ []) ≡ Ok (pos 0) ∷ Err (Divide (pos 0)) ∷ Ok (pos 1) ∷ Ok (pos 1) ∷ Err (Divide (pos 0)) ∷ Ok (pos 1) ∷ []
unfolding operand
short = refl

-- Indices of memories, tables and bits.
pub elements : map (λ e. value_of e store) (Operation (ElementOf 0) (one (n 2)) ∷ Operation (ElementOf 0) (one (n 3)) ∷ Operation (ElementOf 0) (one (s 1)) ∷ Operation (TableElementOf 0) (one (n 1)) ∷ Operation (TableElementOf 0) (one (n 2)) ∷ Operation BitOf (two (s 1) (n 3)) ∷ Operation BitOf (two (s 0) (n 7)) ∷ Operation BitOf (two (s 0) (n 8)) ∷ Operation BitOf (two (Operation (ElementOf 0) (one (n 3))) (n 8)) ∷ Operation BitOf (two (s 1) (op binary.Divide (n 1) (n 0))) ∷ []) ≡ Ok (pos 30) ∷ Err (Index (pos 3) (pos 0) (pos 2)) ∷ Err (Index (negsuc 3) (pos 0) (pos 2)) ∷ Ok (negsuc 0) ∷ Err (Index (pos 2) (pos 0) (pos 1)) ∷ Ok (pos 1) ∷ Ok (pos 1) ∷ Err (Index (pos 8) (pos 0) (pos 7)) ∷ Err (Index (pos 3) (pos 0) (pos 2)) ∷ Err (Divide (pos 0)) ∷ []
unfolding operand
elements = refl

-- `a[i:j]` is bits i - 1 down to j; j is looked at first, then i.
pub slices : map (λ e. value_of e store) (Operation SliceOf (three (s 0) (n 8) (n 4)) ∷ Operation SliceOf (three (s 0) (n 8) (n 0)) ∷ Operation SliceOf (three (s 1) (n 4) (n 0)) ∷ Operation SliceOf (three (s 1) (n 4) (n 2)) ∷ Operation SliceOf (three (s 0) (n 9) (n 8)) ∷ Operation SliceOf (three (s 0) (n 9) (n 7)) ∷ Operation SliceOf (three (s 0) (n 4) (n 4)) ∷ Operation SliceOf (three (s 0) (op binary.Divide (n 1) (n 0)) (Integer (negsuc 0))) ∷ []) ≡ Ok (pos 10) ∷ Ok (pos 171) ∷ Ok (pos 12) ∷ Ok (pos 3) ∷ Err (Index (pos 8) (pos 0) (pos 7)) ∷ Err (Index (pos 9) (pos 8) (pos 8)) ∷ Err (Index (pos 4) (pos 5) (pos 8)) ∷ Err (Divide (pos 0)) ∷ []
unfolding operand
slices = refl

-- `concat` takes the bits of its parts, the highest first, and `signed` reads bits in two's complement.
pub parts : map (λ e. value_of e store) (Operation Concat (row ((s 3) ∷ (s 0) ∷ [])) ∷ Operation Concat (row ((s 1) ∷ (s 2) ∷ [])) ∷ Operation Concat (row ((Fixed (pos 1) ring) ∷ (s 3) ∷ (s 2) ∷ [])) ∷ Operation Concat (row ((Operation SliceOf (three (s 0) (n 8) (n 7))) ∷ (Operation SliceOf (three (s 0) (n 2) (n 0))) ∷ [])) ∷ Operation Concat (row ((s 0) ∷ (s 0) ∷ (s 0) ∷ (s 0) ∷ (s 0) ∷ (s 0) ∷ (s 0) ∷ (s 0) ∷ (s 0) ∷ (s 0) ∷ (s 0) ∷ (s 0) ∷ (s 0) ∷ (s 0) ∷ (s 0) ∷ (s 0) ∷ [])) ∷ Operation Concat (row ((Fixed (pos 0) byte) ∷ (Fixed (pos 0) byte) ∷ (Fixed (pos 0) byte) ∷ (Fixed (pos 0) byte) ∷ (Fixed (pos 0) byte) ∷ (Fixed (pos 0) byte) ∷ (Fixed (pos 0) byte) ∷ (Fixed (pos 0) byte) ∷ (Fixed (pos 0) byte) ∷ (Fixed (pos 0) byte) ∷ (Fixed (pos 0) byte) ∷ (Fixed (pos 0) byte) ∷ (Fixed (pos 0) byte) ∷ (Fixed (pos 0) byte) ∷ (Fixed (pos 0) byte) ∷ (Fixed (pos 0) byte) ∷ (s 0) ∷ [])) ∷ Operation Signed (one (s 0)) ∷ Operation Signed (one (s 1)) ∷ Operation Signed (one (Operation SliceOf (three (s 0) (n 3) (n 0)))) ∷ Operation Signed (one (Operation Concat (row ((s 3) ∷ (s 2) ∷ [])))) ∷ []) ≡ Ok (pos 427) ∷ Ok (pos 102) ∷ Ok (pos 30) ∷ Ok (pos 7) ∷ Err NumberTooWide ∷ Ok (pos 171) ∷ Ok (negsuc 84) ∷ Ok (negsuc 3) ∷ Ok (pos 3) ∷ Ok (negsuc 1) ∷ []
unfolding operand
parts = refl

-- Locals, the time, and items of enums.
pub others : map (λ e. value_of e store) (Local 0 ∷ Local 1 ∷ Now ∷ Item 0 2 ∷ Operation BitOf (two (Local 0) (n 7)) ∷ []) ≡ Ok (pos 200) ∷ Ok (negsuc 99) ∷ Ok (pos 7) ∷ Ok (pos 3) ∷ Ok (pos 1) ∷ []
unfolding operand
others = refl

-- The pending value of a signal, and a local, after an assignment.
abbrev after : ℕ → Result Store Fault → Result ℤ Fault
after k r = with_value r (λ t. Ok (pending_at t.signals k))

abbrev local_after : ℕ → Result Store Fault → Result Held Fault
local_after k r = with_value r (λ t. Ok (local_at t k))

-- Assignments of signals, elements and their parts.
pub signals : (after 0 (assigned (Whole (LeftSignal 0)) (pos 255) store) ∷ after 0 (assigned (Whole (LeftSignal 0)) (pos 256) store) ∷ after 1 (assigned (Whole (LeftSignal 1)) (negsuc 8) store) ∷ after 2 (assigned (Whole (LeftSignal 2)) (pos 9) store) ∷ after 2 (assigned (Whole (LeftSignal 2)) (negsuc 0) store) ∷ after 3 (assigned (Whole (LeftSignal 3)) (pos 2) store) ∷ after 4 (assigned (Whole (LeftSignal 4)) (pos 6) store) ∷ after 4 (assigned (Whole (LeftSignal 4)) (pos 7) store) ∷ after 6 (assigned (Whole (LeftElement 0 (n 1))) (pos 21) store) ∷ after 6 (assigned (Whole (LeftElement 0 (n 3))) (pos 999) store) ∷ after 0 (assigned (LeftBit (LeftSignal 0) (n 2)) (pos 1) store) ∷ after 0 (assigned (LeftBit (LeftSignal 0) (n 8)) (pos 2) store) ∷ after 0 (assigned (LeftBit (LeftSignal 0) (n 2)) (pos 2) store) ∷ after 2 (assigned (LeftBit (LeftSignal 2) (n 0)) (pos 2) store) ∷ after 1 (assigned (LeftBit (LeftSignal 1) (n 3)) (pos 0) store) ∷ after 1 (assigned (LeftBit (LeftSignal 1) (n 0)) (pos 1) store) ∷ after 0 (assigned (LeftSlice (LeftSignal 0) (n 4) (n 0)) (pos 5) store) ∷ after 0 (assigned (LeftSlice (LeftSignal 0) (n 4) (n 0)) (pos 16) store) ∷ after 0 (assigned (LeftSlice (LeftSignal 0) (n 9) (n 8)) (pos 0) store) ∷ after 7 (assigned (LeftSlice (LeftElement 0 (n 2)) (n 8) (n 4)) (pos 2) store) ∷ []) ≡ Ok (pos 255) ∷ Err (Range (pos 256) (pos 0) (pos 255)) ∷ Err (Range (negsuc 8) (negsuc 7) (pos 7)) ∷ Ok (pos 1) ∷ Ok (pos 7) ∷ Err (Range (pos 2) (pos 0) (pos 1)) ∷ Ok (pos 6) ∷ Err (Range (pos 7) (pos 3) (pos 6)) ∷ Ok (pos 21) ∷ Err (Index (pos 3) (pos 0) (pos 2)) ∷ Ok (pos 175) ∷ Err (Index (pos 8) (pos 0) (pos 7)) ∷ Err (Range (pos 2) (pos 0) (pos 1)) ∷ Err (Range (pos 2) (pos 0) (pos 1)) ∷ Err (Range (negsuc 11) (negsuc 7) (pos 7)) ∷ Ok (negsuc 2) ∷ Ok (pos 165) ∷ Err (Range (pos 16) (pos 0) (pos 15)) ∷ Err (Index (pos 8) (pos 0) (pos 7)) ∷ Ok (pos 46) ∷ []
unfolding operand
signals = refl

-- Assignments of locals.
pub locals : (local_after 0 (assigned (Whole (LeftLocal 0)) (pos 256) store) ∷ local_after 0 (assigned (Whole (LeftLocal 0)) (pos 3) store) ∷ local_after 0 (assigned (LeftBit (LeftLocal 0) (n 0)) (pos 1) store) ∷ local_after 1 (assigned (Bind 1 binding.Plain) (negsuc 4) store) ∷ local_after 0 (assigned (Bind 0 (binding.Bounded ring)) (pos 9) store) ∷ local_after 0 (assigned (Bind 0 (binding.Bounded nibble)) (pos 8) store) ∷ local_after 0 (assigned (Bind 0 (binding.LowBits 3 false)) (negsuc 2) store) ∷ []) ≡ Err (Range (pos 256) (pos 0) (pos 255)) ∷ Ok (record { value = pos 3; limits = Between (pos 0) (pos 255) false }) ∷ Ok (record { value = pos 201; limits = Between (pos 0) (pos 255) false }) ∷ Ok (record { value = negsuc 4; limits = Unlimited }) ∷ Ok (record { value = pos 1; limits = Between (pos 0) (pos 7) true }) ∷ Err (Range (pos 8) (negsuc 7) (pos 7)) ∷ Ok (record { value = pos 5; limits = Between (pos 0) (pos 7) false }) ∷ []
unfolding operand
locals = refl

-- A part starts from the pending value; the current value stays until the update.
abbrev twice : Result Store Fault
twice = with_value (assigned (Whole (LeftSignal 0)) (pos 16) store) (assigned (LeftBit (LeftSignal 0) (n 0)) (pos 1))

pub pending : (after 0 twice ≡ Ok (pos 17)) × (with_value twice (value_of (s 0)) ≡ Ok (pos 171))
unfolding operand
pending = (refl, refl)

-- Generator 0 waits for a change of signal 0, 1 for a rise of signal 3, 2 for its fall, and 3 for a delay. A change wakes those that
-- wait for it, and an equal value nobody.
abbrev at_rest : Signals
at_rest = record (first_signals sample) {
  waiters = map (λ w. record { room = 1; waits = w ∷ []; woken = false }) (wait.Change 0 ∷ wait.Edge 3 true ∷ wait.Edge 3 false ∷ wait.Delay 5 ∷ []);
}

abbrev woken_where : ℕ → ℤ → List Bool
woken_where k z = map (λ w. w.woken) (updated (set_pending at_rest k z)).waiters

pub waking : (woken_where 0 (pos 171) ∷ woken_where 0 (pos 1) ∷ woken_where 3 (pos 0) ∷ woken_where 1 (pos 0) ∷ []) ≡ (false ∷ false ∷ false ∷ false ∷ []) ∷ (true ∷ false ∷ false ∷ false ∷ []) ∷ (false ∷ false ∷ true ∷ false ∷ []) ∷ (false ∷ false ∷ false ∷ false ∷ []) ∷ []
waking = refl

pub due : (is_pending at_rest ∷ is_pending (set_pending at_rest 1 (negsuc 3)) ∷ is_pending (set_pending at_rest 1 (pos 3)) ∷ []) ≡ false ∷ false ∷ true ∷ []
due = refl
