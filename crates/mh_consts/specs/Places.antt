-- Attributes, indices and slices of constants (MyHDL 0.11 and Python), and by this project's own rule
-- which values have them.
use Rattle.std.specs.Prelude.{ℕ, ℤ, pos, negsuc, ◌-◌, ◌^◌, ◌+ℤ◌, Bool, true, false, ◌&&◌, List, Option, Some, None, Result, Ok, Err, if◌then◌else◌, nat_eq, nat_lt, nat_le, int_lt, bytes_eq, length, slice_get, codes, position}
use Rattle.mh_codes.specs.Integers.{bit_of, slice_of}
use Rattle.mh_codes.specs.Widths.{width_of}
use Rattle.mh_num.specs.Results.{in_i128}
use Rattle.mh_num.specs.declared.bounds.Bounds.{Bounds}
use Rattle.mh_text.specs.declared.code.Code.{Code}
use Rattle.mh_text.specs.declared.code.Code.TheVariants.{E2NotElaborable, E4BadRange, E5TooWide, E10KindClash}
use Rattle.mh_consts.specs.declared.kinds.SignalKind.{SignalKind}
use Rattle.mh_consts.specs.declared.kinds.SignalKind.TheVariants as kind
use Rattle.mh_consts.specs.declared.kinds.Builtin.TheVariants as builtin
use Rattle.mh_consts.specs.declared.kinds.Const.{Const, out-Const}
use Rattle.mh_consts.specs.declared.kinds.Const.TheOpen.{Const-F}
use Rattle.mh_consts.specs.declared.kinds.Const.TheVariants as c
use Rattle.mh_consts.specs.declared.scope.Scope.{Scope}
use Rattle.mh_consts.specs.Outcome.{Outcome, after, given, integer}
use Rattle.mh_consts.specs.Numbers.{operand}
use Rattle.mh_consts.specs.Operators.{bits}

-- ---- attributes

-- an item of an enum, by its place among the names
abbrev pub item_at : ℕ → Option ℕ → Outcome
item_at n None = Err E10KindClash
item_at n (Some place) = if nat_lt place (2 ^ 32) then Ok (c.Item n place) else Err E5TooWide

-- `min`, and `max`, which is one more than the greatest value
abbrev pub bound_named : List ℕ → Bounds → Outcome
bound_named name b =
    if bytes_eq name (codes "min") then Ok (c.Int b.lo)
    else (if bytes_eq name (codes "max") then integer (in_i128 (b.top +ℤ pos 1)) else Err E10KindClash)

abbrev pub edge : ℕ → SignalKind → Bool → Outcome
edge n kind.Truth rising = Ok (c.Edge n rising)
edge n k rising = Err E10KindClash

abbrev pub signal_bound : List ℕ → SignalKind → Outcome
signal_bound name (kind.Bounded b) = bound_named name b
signal_bound name k = Err E10KindClash

abbrev pub of_signal : List ℕ → ℕ → SignalKind → Outcome
of_signal name n k =
    if bytes_eq name (codes "next") then Err E2NotElaborable
    else (if bytes_eq name (codes "posedge") then edge n k true
    else (if bytes_eq name (codes "negedge") then edge n k false else signal_bound name k))

abbrev pub attribute_step : List ℕ → Const-F Const → Outcome
attribute_step name (Const-F.EnumType n names) = item_at n (position (bytes_eq name) names)
attribute_step name (Const-F.Bounded v b) = bound_named name b
attribute_step name (Const-F.Signal n k) = of_signal name n k
attribute_step name v = Err E10KindClash

abbrev pub attribute : List ℕ → Const → Outcome
attribute name v = attribute_step name (out-Const v)

-- ---- indices

-- a place below n
abbrev pub place_below : ℕ → ℤ → Result ℕ Code
place_below n (pos i) = if nat_lt i n then Ok i else Err E4BadRange
place_below n (negsuc i) = Err E4BadRange

abbrev pub place : ℕ → Const → Result ℕ Code
place n v = after (operand v) (place_below n)

abbrev pub item_of : List Const → Const → Outcome
item_of vs at = after (place (length vs) at) (λ i. given (slice_get vs i) E4BadRange)

-- a bit of a number within bounds
abbrev pub bit_at : ℤ → Bounds → Const → Outcome
bit_at v b at = after (place (width_of b.lo b.top) at) (λ i. Ok (c.Truth (nat_eq (bit_of i v) 1)))

abbrev pub indexed_step : Scope → Const-F Const → Const → Outcome
indexed_step s (Const-F.List n) at = after (given (slice_get s.lists n) E10KindClash) (λ vs. item_of vs at)
indexed_step s (Const-F.Tuple vs) at = item_of vs at
indexed_step s (Const-F.Bounded v b) at = bit_at v b at
indexed_step s (Const-F.Signal n k) at = Err E2NotElaborable
indexed_step s v at = Err E10KindClash

abbrev pub indexed : Scope → Const → Const → Outcome
indexed s base at = indexed_step s (out-Const base) at

-- ---- slices

-- the bits from j up to and without i of v, which has w bits
abbrev pub slice_within : ℕ → Bool → ℤ → ℤ → ℤ → Outcome
slice_within w wraps v (pos i) (pos j) = if nat_lt j i && nat_le i w then bits (i - j) wraps (pos (slice_of i j v)) else Err E4BadRange
slice_within w wraps v i j = Err E4BadRange

abbrev pub slice_step : Const-F Const → Const → Result ℤ Code → Outcome
slice_step (Const-F.Bounded v b) upper lower =
    after (operand upper) (λ i. after lower (λ j. slice_within (width_of b.lo b.top) b.wraps v i j))
slice_step (Const-F.Signal n k) upper lower = Err E2NotElaborable
slice_step v upper lower = Err E10KindClash

-- `base[upper:lower]`, and `base[upper:]`
abbrev pub sliced : Const → Const → Const → Outcome
sliced base upper lower = slice_step (out-Const base) upper (operand lower)

abbrev pub sliced_from : Const → Const → Outcome
sliced_from base upper = slice_step (out-Const base) upper (Ok (pos 0))

-- the n low bits of v: `intbv(v)[n:]` and `modbv(v)[n:]`
abbrev pub low_bits : Bool → ℤ → ℤ → Outcome
low_bits wraps v n =
    if int_lt n (pos 1) then Err E4BadRange
    else (if int_lt (pos 127) n then Err E5TooWide else slice_within 127 wraps v n (pos 0))

abbrev pub resized : Bool → Const → Const → Outcome
resized wraps base n = after (operand base) (λ v. after (operand n) (λ k. low_bits wraps v k))

-- `maker(..)[n:]`: where the name isn't that of `intbv` or `modbv`, a slice as any other
abbrev pub resized_step : Const-F Const → Const → Const → Outcome
resized_step (Const-F.Builtin builtin.Intbv) base n = resized false base n
resized_step (Const-F.Builtin builtin.Modbv) base n = resized true base n
resized_step v base n = sliced_from base n

abbrev pub resized_by : Option Const → Const → Const → Outcome
resized_by None base n = sliced_from base n
resized_by (Some v) base n = resized_step (out-Const v) base n
