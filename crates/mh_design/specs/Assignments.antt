-- Assignments in a run (MyHDL 0.11 manual, "Reference": `Signal`, `intbv`, `modbv`; the order and the numbers of faults are this
-- project's own rule). The right side has its value first, then the indices on the left, and then the bounds are looked at. Signals take
-- what they are given at the end of the delta, locals at once. A fault changes nothing.
use Rattle.std.specs.Prelude.{ℕ, ℤ, pos, ◌≡◌, ◌+◌, ◌-◌, ◌*◌, ◌^◌, ◌+ℤ◌, ◌-ℤ◌, ◌*ℤ◌, Bool, true, false, ◌&&◌, nat_lt, nat_le, length, slice_get, slice_index_or, slice_set, IsTrue, Result, Ok, Err, unsigned_abs, if◌then◌else◌}
use Rattle.std.specs.List.{list_all}
use Rattle.std.specs.Option.{option_map_or}
use Rattle.mh_codes.specs.Integers.{slice_of}
use Rattle.mh_codes.specs.Ranges.{is_inside}
use Rattle.mh_num.specs.Fit.{fit_of}
use Rattle.mh_num.specs.declared.bounds.OutOfBounds.{OutOfBounds}
use Rattle.mh_flow.specs.declared.lang.Lang.{Ghosts}
use Rattle.mh_design.specs.declared.design.Design.{Design}
use Rattle.mh_design.specs.declared.design.Encoding.{Encoding}
use Rattle.mh_design.specs.declared.design.Encoding.TheVariants as encoding
use Rattle.mh_design.specs.declared.statement.Binding.{Binding}
use Rattle.mh_design.specs.declared.statement.Binding.TheVariants as binding
use Rattle.mh_design.specs.Enums.{item_code, is_item_code, is_narrow}
use Rattle.mh_design.specs.Uses.{cells_of}
use Rattle.mh_design.specs.Tree.{Expression, Expressions, Operator, Integer, Truth, Item, Fixed, Signal, Local, Now, Operation, NoMore, More, ElementOf, LeftBase, LeftSignal, LeftElement, LeftLocal, LeftSide, Whole, LeftBit, LeftSlice, Bind}
use Rattle.mh_design.specs.Values.{Limits, Unlimited, TruthLimits, Between, Coded, Held, Signals, Store, Fault, Range, bits_of, form_of, signal_form, local_at, is_true, with_value, indexed, with_ends, value_of}

-- The least and the greatest code of the items of an enum.
abbrev pub least_code : Encoding → ℕ → ℤ
least_code encoding.Binary n = pos (item_code encoding.Binary n 0)
least_code encoding.OneHot n = pos (item_code encoding.OneHot n 0)
least_code encoding.OneCold n = pos (item_code encoding.OneCold n (n - 1))

abbrev pub greatest_code : Encoding → ℕ → ℤ
greatest_code encoding.Binary n = pos (item_code encoding.Binary n (n - 1))
greatest_code encoding.OneHot n = pos (item_code encoding.OneHot n (n - 1))
greatest_code encoding.OneCold n = pos (item_code encoding.OneCold n 0)

-- What becomes of an integer that is given to what has these limits: itself, the integer that it wraps to, or the bounds that it breaks.
-- What holds the items of an enum takes no number but their codes.
abbrev pub taken : Limits → ℤ → Result ℤ OutOfBounds
taken Unlimited z = Ok z
taken TruthLimits z = fit_of (pos 0) (pos 1) false z
taken (Between low high wraps) z = fit_of low high wraps z
taken (Coded c n) z =
    if is_item_code c n z then Ok z else Err (record { value = z; low = least_code c n; high = greatest_code c n })

-- z with its bits i - 1 down to j replaced by those of v.
abbrev pub replaced : ℕ → ℕ → ℤ → ℤ → ℤ
replaced i j z v = (z -ℤ pos (slice_of i j z * 2 ^ j)) +ℤ (v *ℤ pos (2 ^ j))

-- What becomes of z, which has these limits, where its bits i - 1 down to j are given v: first v has to fit these bits, and then the
-- result is taken as a whole is.
abbrev pub part_taken : Limits → ℕ → ℕ → ℤ → ℤ → Result ℤ OutOfBounds
part_taken l i j z v =
    if is_inside (pos 0) (pos (2 ^ (i - j) - 1)) v then taken l (replaced i j z v) else Err (record { value = v; low = pos 0; high = pos (2 ^ (i - j) - 1) })

-- A signal's limits, and its pending value.
abbrev pub limits_at : Signals → ℕ → Limits
limits_at s n = slice_index_or s.limits n Unlimited

abbrev pub pending_at : Signals → ℕ → ℤ
pending_at s n = slice_index_or s.pending n (pos 0)

-- The pending value of a signal is another one.
abbrev pub set_pending : Signals → ℕ → ℤ → Signals
set_pending s n z = record s { pending = slice_set s.pending n z }

abbrev pub pending_is : Signals → ℕ → Result ℤ OutOfBounds → Result Signals OutOfBounds
pending_is s n (Ok z) = Ok (set_pending s n z)
pending_is s n (Err e) = Err e

-- `s.next = v`
abbrev pub next_set : Signals → ℕ → ℤ → Result Signals OutOfBounds
next_set s n v = pending_is s n (taken (limits_at s n) v)

-- `s.next[i:j] = v`: the part of the pending value, which is the current one where nothing was assigned in this delta.
abbrev pub part_set : Signals → ℕ → ℕ → ℕ → ℤ → Result Signals OutOfBounds
part_set s n i j v = pending_is s n (part_taken (limits_at s n) i j (pending_at s n) v)

-- What an assignment goes to.
pub data Spot : Type 0 where
  SignalSpot : (signal : ℕ) → Spot
  LocalSpot : (local : ℕ) → Spot

abbrev pub cell_spot : Store → ℕ → ℤ → Result Spot Fault
cell_spot s m i =
    indexed i (length (cells_of s.design m)) (Ok (SignalSpot (slice_index_or (cells_of s.design m) (unsigned_abs i) 0)))

abbrev pub spot_of : LeftBase → Store → Result Spot Fault
spot_of (LeftSignal n) s = Ok (SignalSpot n)
spot_of (LeftElement m i) s = with_value (value_of i s) (cell_spot s m)
spot_of (LeftLocal n) s = Ok (LocalSpot n)

-- How many bits what is assigned has; a local has them by its newest bounds.
abbrev pub spot_width : Store → Spot → ℕ
spot_width s (SignalSpot n) = bits_of (signal_form s.design n)
spot_width s (LocalSpot n) = bits_of (form_of (local_at s n).limits)

-- A local is another one.
abbrev pub set_local : Store → ℕ → Held → Store
set_local s n h = record s { locals = slice_set s.locals n h }

abbrev pub with_signals : Store → Result Signals OutOfBounds → Result Store Fault
with_signals s (Ok x) = Ok (record s { signals = x })
with_signals s (Err e) = Err (Range e.value e.low e.high)

abbrev pub with_held : Store → ℕ → Limits → Result ℤ OutOfBounds → Result Store Fault
with_held s n l (Ok z) = Ok (set_local s n (record { value = z; limits = l }))
with_held s n l (Err e) = Err (Range e.value e.low e.high)

abbrev pub whole_assigned : Store → ℤ → Spot → Result Store Fault
whole_assigned s v (SignalSpot n) = with_signals s (next_set s.signals n v)
whole_assigned s v (LocalSpot n) = with_held s n (local_at s n).limits (taken (local_at s n).limits v)

abbrev pub part_assigned : Store → ℤ → Spot → ℕ → ℕ → Result Store Fault
part_assigned s v (SignalSpot n) i j = with_signals s (part_set s.signals n i j v)
part_assigned s v (LocalSpot n) i j =
    with_held s n (local_at s n).limits (part_taken (local_at s n).limits i j (local_at s n).value v)

abbrev pub bit_assigned : Store → ℤ → Spot → ℤ → Result Store Fault
bit_assigned s v p i = indexed i (spot_width s p) (part_assigned s v p (unsigned_abs i + 1) (unsigned_abs i))

abbrev pub slice_assigned : Store → ℤ → Spot → ℤ → ℤ → Result Store Fault
slice_assigned s v p i j = with_ends i j (spot_width s p) (part_assigned s v p (unsigned_abs i) (unsigned_abs j))

-- The limits of the n low bits of a value.
abbrev pub low_limits : ℕ → Bool → Limits
low_limits n wraps = Between (pos 0) (pos (2 ^ n - 1)) wraps

-- A name is bound to a value. A bounded number has from then on the bounds of this assignment.
abbrev pub bound_to : Store → ℕ → Binding → ℤ → Result Store Fault
bound_to s n binding.Plain v = with_held s n (local_at s n).limits (Ok v)
bound_to s n (binding.Bounded b) v =
    with_held s n (Between b.lo b.top b.wraps) (taken (Between b.lo b.top b.wraps) v)
bound_to s n (binding.LowBits k wraps) v = with_held s n (low_limits k wraps) (Ok (pos (slice_of k 0 v)))

-- The store after an assignment of a value, or its fault.
abbrev pub assigned : LeftSide → ℤ → Store → Result Store Fault
assigned (Whole b) v s = with_value (spot_of b s) (whole_assigned s v)
assigned (LeftBit b i) v s =
    with_value (spot_of b s) (λ p. with_value (value_of i s) (bit_assigned s v p))
assigned (LeftSlice b i j) v s =
    with_value (spot_of b s) (λ p. with_value (value_of i s) (λ x. with_value (value_of j s) (slice_assigned s v p x)))
assigned (Bind n b) v s = bound_to s n b v

-- The variable of a loop has its next number.
abbrev pub counted : LeftSide → ℤ → Store → Store
counted (Bind n b) v s = set_local s n (record { value = v; limits = (local_at s n).limits })
counted left v s = s

-- What an assignment and an evaluation need of their numbers: each names something. Here d is the design, n the number of signals, and
-- m that of locals.
abbrev pub item_is_there : Design → ℕ → ℕ → Bool
item_is_there d e i =
    option_map_or (λ x. nat_lt i (length x.names) && is_narrow x.encoding (length x.names)) (slice_get d.enums e) false

abbrev pub cells_are_there : Design → ℕ → ℕ → Bool
cells_are_there d n m = list_all (λ c. nat_lt c n) (cells_of d m)

abbrev pub operator_is_named : Design → ℕ → Operator → Bool
operator_is_named d n (ElementOf m) = cells_are_there d n m
operator_is_named d n o = true

unfoldable mutual
  pub is_named : Design → ℕ → ℕ → Expression → Bool
  is_named d n m (Integer z) = true
  is_named d n m (Truth b) = true
  is_named d n m (Item e i) = item_is_there d e i
  is_named d n m (Fixed z b) = true
  is_named d n m (Signal s) = nat_lt s n
  is_named d n m (Local v) = nat_lt v m
  is_named d n m Now = true
  is_named d n m (Operation o xs) = operator_is_named d n o && are_named d n m xs

  pub are_named : Design → ℕ → ℕ → Expressions → Bool
  are_named d n m NoMore = true
  are_named d n m (More x xs) = is_named d n m x && are_named d n m xs

abbrev pub base_is_named : Design → ℕ → ℕ → LeftBase → Bool
base_is_named d n m (LeftSignal s) = nat_lt s n
base_is_named d n m (LeftElement k i) = cells_are_there d n k && is_named d n m i
base_is_named d n m (LeftLocal v) = nat_lt v m

abbrev pub left_is_named : Design → ℕ → ℕ → LeftSide → Bool
left_is_named d n m (Whole b) = base_is_named d n m b
left_is_named d n m (LeftBit b i) = base_is_named d n m b && is_named d n m i
left_is_named d n m (LeftSlice b i j) = base_is_named d n m b && (is_named d n m i && is_named d n m j)
left_is_named d n m (Bind v (binding.LowBits k wraps)) = nat_lt v m && nat_le k 127
left_is_named d n m (Bind v b) = nat_lt v m

-- Each signal has its limits and its pending value.
abbrev pub IsEven : Signals → Type 0
IsEven s = (length s.limits ≡ length s.values) × (length s.pending ≡ length s.values)

abbrev pub FitsExpression : Expression → Store → Type 0
FitsExpression e s = IsTrue (is_named s.design (length s.signals.values) (length s.locals) e)

abbrev pub FitsLeft : LeftSide → Store → Type 0
FitsLeft t s = IsTrue (left_is_named s.design (length s.signals.values) (length s.locals) t) × IsEven s.signals

-- The meaning of expressions and assignments, by which bodies flow.
abbrev pub meaning : Ghosts (Unit {0}) Expression LeftSide ℤ Store Fault
meaning = record {
  value_of = value_of;
  is_true = is_true;
  number_of = λ z. z;
  assigned = assigned;
  counted = counted;
  is_memory = λ f. false;
  fits_expr = FitsExpression;
  fits_set = λ t e s. FitsLeft t s;
  fits_count = FitsLeft;
}
