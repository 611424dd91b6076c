-- Calls of the functions that MyHDL and Python have, on constants, and by this project's own rule
-- which arguments they take.
use Rattle.std.specs.Prelude.{ℕ, ℤ, pos, ◌+◌, ◌-ℤ◌, ◌+ℤ◌, Bool, true, false, ◌&&◌, List, [], ◌∷◌, Option, Some, None, Result, Ok, Err, if◌then◌else◌, nat_eq, nat_le, int_le, int_lt, bytes_eq, length, slice_get, is_none, codes}
use Rattle.std.specs.Ordering.{int_eq}
use Rattle.mh_codes.specs.Codes.{code, number}
use Rattle.mh_codes.specs.Widths.{width_of, is_signed}
use Rattle.mh_codes.specs.Integers.{slice_of}
use Rattle.mh_num.specs.Results.{in_i128, left_shift_of}
use Rattle.mh_num.specs.declared.bounds.Bounds.{Bounds}
use Rattle.mh_text.specs.declared.code.Code.{Code}
use Rattle.mh_text.specs.declared.code.Code.TheVariants.{E2NotElaborable, E3BadArguments, E4BadRange, E5TooWide, E10KindClash}
use Rattle.mh_consts.specs.declared.kinds.SignalKind.{SignalKind}
use Rattle.mh_consts.specs.declared.kinds.SignalKind.TheVariants as kind
use Rattle.mh_consts.specs.declared.kinds.Builtin.{Builtin}
use Rattle.mh_consts.specs.declared.kinds.Builtin.TheVariants as builtin
use Rattle.mh_consts.specs.declared.kinds.Const.{Const, out-Const}
use Rattle.mh_consts.specs.declared.kinds.Const.TheOpen.{Const-F}
use Rattle.mh_consts.specs.declared.kinds.Const.TheVariants as c
use Rattle.mh_consts.specs.declared.scope.Scope.{Scope}
use Rattle.mh_consts.specs.declared.builtins.Form.{Form}
use Rattle.mh_consts.specs.declared.builtins.Form.TheVariants as form
use Rattle.mh_consts.specs.Expression.{Keys}
use Rattle.mh_consts.specs.Outcome.{Outcome, after, given}
use Rattle.mh_consts.specs.Numbers.{argument, content, converted, is_not_zero, number_of, bounds_of}
use Rattle.mh_consts.specs.Operators.{bits}

-- ---- how the arguments are given

abbrev pub all_positional : Keys → Bool
all_positional [] = true
all_positional (key ∷ keys) = is_none key && all_positional keys

-- the name of the argument at a place, if it has one
abbrev pub named : Option (Option (List ℕ)) → Option (List ℕ)
named None = None
named (Some key) = key

abbrev pub key_at : Keys → ℕ → Option (List ℕ)
key_at keys i = named (slice_get keys i)

abbrev pub pair_form : List ℕ → List ℕ → Form
pair_form a b =
    if bytes_eq a (codes "min") && bytes_eq b (codes "max") then form.LowHigh
    else (if bytes_eq a (codes "max") && bytes_eq b (codes "min") then form.HighLow else form.Other)

abbrev pub three_form : Option (List ℕ) → Option (List ℕ) → Option (List ℕ) → Form
three_form None (Some a) (Some b) = pair_form a b
three_form first second third = form.Other

-- all by position; or one by position, then `min=` and `max=` in either order; or otherwise
abbrev pub form_of : Keys → Form
form_of keys =
    if all_positional keys then form.Positional
    else (if nat_eq (length keys) 3 then three_form (key_at keys 0) (key_at keys 1) (key_at keys 2) else form.Other)

-- ---- `range` and `downrange`

abbrev pub stepped : ℤ → ℤ → ℤ → Outcome
stepped from to step = if int_eq step (pos 0) then Err E4BadRange else Ok (c.Range from to step)

abbrev pub range_step : Result ℤ Code → Result ℤ Code → Result ℤ Code → Outcome
range_step from to step = after from (λ a. after to (λ b. after step (λ d. stepped a b d)))

abbrev pub range : List Const → Outcome
range (b ∷ []) = range_step (Ok (pos 0)) (argument b) (Ok (pos 1))
range (a ∷ b ∷ []) = range_step (argument a) (argument b) (Ok (pos 1))
range (a ∷ b ∷ d ∷ []) = range_step (argument a) (argument b) (argument d)
range vs = Err E3BadArguments

-- one less, and the opposite, within i128
abbrev pub one_less : ℤ → Result ℤ Code
one_less n = given (in_i128 (n -ℤ pos 1)) E5TooWide

abbrev pub opposite : ℤ → Result ℤ Code
opposite n = given (in_i128 (pos 0 -ℤ n)) E5TooWide

-- downrange(a, b, d) is range(a - 1, b - 1, -d)
abbrev pub down : ℤ → ℤ → ℤ → Outcome
down a b d = after (one_less a) (λ from. after (one_less b) (λ to. after (opposite d) (λ step. stepped from to step)))

abbrev pub downrange_step : Result ℤ Code → Result ℤ Code → Result ℤ Code → Outcome
downrange_step from to step = after from (λ a. after to (λ b. after step (λ d. down a b d)))

abbrev pub downrange : List Const → Outcome
downrange (a ∷ []) = downrange_step (argument a) (Ok (pos 0)) (Ok (pos 1))
downrange (a ∷ b ∷ []) = downrange_step (argument a) (argument b) (Ok (pos 1))
downrange (a ∷ b ∷ d ∷ []) = downrange_step (argument a) (argument b) (argument d)
downrange vs = Err E3BadArguments

-- ---- `len`, `int`, `bool`

abbrev pub signal_length : SignalKind → Outcome
signal_length kind.Truth = Ok (c.Int (pos 1))
signal_length (kind.Bounded b) = Ok (c.Int (pos (width_of b.lo b.top)))
signal_length k = Err E3BadArguments

abbrev pub length_step : Scope → Const-F Const → Outcome
length_step s (Const-F.List n) = after (given (slice_get s.lists n) E10KindClash) (λ vs. Ok (c.Int (pos (length vs))))
length_step s (Const-F.Tuple vs) = Ok (c.Int (pos (length vs)))
length_step s (Const-F.Bounded v b) = Ok (c.Int (pos (width_of b.lo b.top)))
length_step s (Const-F.Signal n k) = signal_length k
length_step s v = Err E3BadArguments

abbrev pub length_of : Scope → List Const → Outcome
length_of s (v ∷ []) = length_step s (out-Const v)
length_of s vs = Err E3BadArguments

abbrev pub integer_of : List Const → Outcome
integer_of (v ∷ []) = after (converted v) (λ n. Ok (c.Int n))
integer_of vs = Err E3BadArguments

abbrev pub truth_of : List Const → Outcome
truth_of (v ∷ []) = after (converted v) (λ n. Ok (c.Truth (is_not_zero n)))
truth_of vs = Err E3BadArguments

-- ---- `intbv` and `modbv`

-- low <= v < high, in at most 127 bits
abbrev pub bounded : Bool → ℤ → ℤ → ℤ → Outcome
bounded wraps v low high =
    if int_le low v && int_lt v high
    then after (given (bounds_of low (high -ℤ pos 1) wraps) E5TooWide) (λ b. Ok (c.Bounded v b))
    else Err E4BadRange

-- intbv(v) is an integer without bounds
abbrev pub made_of : List Const → Outcome
made_of (v ∷ []) = after (content v) (λ n. Ok (c.Int n))
made_of vs = Err E3BadArguments

abbrev pub made_between : Bool → List Const → Outcome
made_between wraps (v ∷ low ∷ high ∷ []) = after (content v) (λ n. after (content low) (λ a. after (content high) (λ b. bounded wraps n a b)))
made_between wraps vs = Err E3BadArguments

abbrev pub made_between_turned : Bool → List Const → Outcome
made_between_turned wraps (v ∷ high ∷ low ∷ []) = after (content v) (λ n. after (content high) (λ b. after (content low) (λ a. bounded wraps n a b)))
made_between_turned wraps vs = Err E3BadArguments

abbrev pub made : Bool → Form → List Const → Outcome
made wraps form.Positional vs = made_of vs
made wraps form.LowHigh vs = made_between wraps vs
made wraps form.HighLow vs = made_between_turned wraps vs
made wraps form.Other vs = Err E3BadArguments

-- ---- `concat` and `.signed()`

-- a part: its width, and its bits as a number; a truth value is one bit
abbrev pub bits_step : Const-F Const → Result (ℕ × ℤ) Code
bits_step (Const-F.Truth b) = Ok (1, number_of b)
bits_step (Const-F.Bounded v b) = Ok (width_of b.lo b.top, pos (slice_of (width_of b.lo b.top) 0 v))
bits_step (Const-F.Signal n k) = Err E2NotElaborable
bits_step v = Err E10KindClash

-- w bits of the number n, and those of one more part below them
abbrev pub shifted_up : ℤ → ℕ × ℤ → Result ℤ Code
shifted_up n p = after (given (left_shift_of n (pos p.0)) E5TooWide) (λ m. given (in_i128 (m +ℤ p.1)) E5TooWide)

abbrev pub joined_with : ℕ → ℤ → ℕ × ℤ → Result (ℕ × ℤ) Code
joined_with w n p = if nat_le (w + p.0) 127 then after (shifted_up n p) (λ m. Ok (w + p.0, m)) else Err E5TooWide

abbrev pub joined_step : ℕ → ℤ → Const → Result (ℕ × ℤ) Code
joined_step w n v = after (bits_step (out-Const v)) (joined_with w n)

abbrev pub joined : ℕ → ℤ → List Const → Result (ℕ × ℤ) Code
joined w n [] = Ok (w, n)
joined w n (v ∷ vs) = after (joined_step w n v) (λ p. joined p.0 p.1 vs)

abbrev pub concatenated : List Const → Outcome
concatenated [] = Err E3BadArguments
concatenated vs = after (joined 0 (pos 0) vs) (λ p. bits p.0 false p.1)

-- the width's bits in two's complement where the least value isn't negative
abbrev pub signed_value : ℤ → Bounds → ℤ
signed_value v b = if is_signed b.lo then v else number true (width_of b.lo b.top) (code (width_of b.lo b.top) v)

abbrev pub read_signed : Const-F Const → Outcome
read_signed (Const-F.Bounded v b) = Ok (c.Int (signed_value v b))
read_signed (Const-F.Signal n k) = Err E2NotElaborable
read_signed v = Err E10KindClash

-- ---- a call

abbrev pub called_by_position : Scope → Builtin → List Const → Outcome
called_by_position s builtin.Range vs = range vs
called_by_position s builtin.Downrange vs = downrange vs
called_by_position s builtin.Len vs = length_of s vs
called_by_position s builtin.Int vs = integer_of vs
called_by_position s builtin.Bool vs = truth_of vs
called_by_position s builtin.Concat vs = concatenated vs
called_by_position s other vs = Err E10KindClash

abbrev pub if_positional : Form → Outcome → Outcome
if_positional form.Positional r = r
if_positional f r = Err E3BadArguments

-- `intbv` and `modbv` take names, and the others don't
abbrev pub called_builtin : Scope → Builtin → Form → List Const → Outcome
called_builtin s builtin.Intbv f vs = made false f vs
called_builtin s builtin.Modbv f vs = made true f vs
called_builtin s builtin.Range f vs = if_positional f (called_by_position s builtin.Range vs)
called_builtin s builtin.Downrange f vs = if_positional f (called_by_position s builtin.Downrange vs)
called_builtin s builtin.Len f vs = if_positional f (called_by_position s builtin.Len vs)
called_builtin s builtin.Int f vs = if_positional f (called_by_position s builtin.Int vs)
called_builtin s builtin.Bool f vs = if_positional f (called_by_position s builtin.Bool vs)
called_builtin s builtin.Concat f vs = if_positional f (called_by_position s builtin.Concat vs)
called_builtin s other f vs = Err E10KindClash

abbrev pub call_step : Scope → Const-F Const → Form → List Const → Outcome
call_step s (Const-F.Builtin b) f vs = called_builtin s b f vs
call_step s v f vs = Err E10KindClash
