-- What `v = e` gives a local. `intbv(..)` and `modbv(..)` with bounds, and the name of a constant
-- bounded number, make a bounded number; every other number makes an integer. The kind of a local is
-- that of its first assignment in the text. This is this project's own rule.
use Rattle.std.specs.Prelude.{ℕ, ℤ, pos, negsuc, ◌-◌, ◌^◌, ◌-ℤ◌, Bool, true, false, ◌&&◌, Option, Some, None, Result, Ok, Err, if◌then◌else◌, int_lt, nat_le, slice_set}
use Rattle.mh_num.specs.declared.bounds.Bounds.{Bounds}
use Rattle.mh_text.specs.declared.code.Code.{Code}
use Rattle.mh_text.specs.declared.code.Code.TheVariants.{E2NotElaborable, E3BadArguments, E4BadRange, E5TooWide, E10KindClash}
use Rattle.mh_consts.specs.declared.kinds.Builtin.TheVariants as builtin
use Rattle.mh_consts.specs.declared.kinds.Const.{Const, out-Const}
use Rattle.mh_consts.specs.declared.kinds.Const.TheOpen.{Const-F}
use Rattle.mh_consts.specs.declared.scope.Scope.{Scope}
use Rattle.mh_consts.specs.Expression as x
use Rattle.mh_consts.specs.Expression.{Ex, Exs, Keys}
use Rattle.mh_consts.specs.Outcome.{after, given}
use Rattle.mh_consts.specs.Numbers.{content, bounds_of}
use Rattle.mh_consts.specs.Constant.{value}
use Rattle.mh_design.specs.declared.design.Design.{Design}
use Rattle.mh_design.specs.declared.design.Kind.{Kind}
use Rattle.mh_design.specs.declared.design.Kind.TheVariants as kind
use Rattle.mh_design.specs.declared.kinds.ValueKind.{ValueKind}
use Rattle.mh_design.specs.declared.kinds.ValueKind.TheVariants as value
use Rattle.mh_design.specs.declared.expression.GExpr.TheVariants as e
use Rattle.mh_design.specs.declared.statement.Binding.{Binding}
use Rattle.mh_design.specs.declared.statement.Binding.TheVariants as binding
use Rattle.mh_design.specs.Kinds.{is_number}
use Rattle.mh_design.specs.Statements.{binding_takes}
use Rattle.mh_exprs.specs.declared.locals.Locals.{Locals}
use Rattle.mh_exprs.specs.declared.names.Callee.{Callee}
use Rattle.mh_exprs.specs.declared.names.Callee.TheVariants as callee
use Rattle.mh_exprs.specs.declared.names.Form.{Form}
use Rattle.mh_exprs.specs.declared.names.Form.TheVariants as form
use Rattle.mh_exprs.specs.declared.typed.Typed.{Typed}
use Rattle.mh_lower.specs.declared.typed.Bound.{Bound}
use Rattle.mh_exprs.specs.declared.typed.Work.{Work}
use Rattle.mh_exprs.specs.Calls.{callee_of, form_of, is_maker}
use Rattle.mh_exprs.specs.Constant.{folds}
use Rattle.mh_exprs.specs.Expression.{read}
use Rattle.mh_exprs.specs.Leaves.{integer, leaf, kind_at}
use Rattle.mh_lower.specs.Paths.{assigns}
use Rattle.mh_lower.specs.Views.{View, view, Named, Text, Tupled, Called, Attributed, Indexed, Ranged, RangedFrom, Resized, Entire, Another}
use Rattle.mh_exprs.specs.Step.{Step, pure, refuse, just, seeing, ◌>>=◌}

abbrev pub plain : Typed → Bound
plain t = record { value = t; binding = binding.Plain }

-- ---- constants

abbrev pub constant_step : Design → Const → Const-F Const → Result Bound Code
constant_step d v (Const-F.Bounded n b) = Ok (record { value = integer (e.Integer n); binding = binding.Bounded b })
constant_step d v held = after (leaf false v d) (λ t. Ok (plain t))

abbrev pub constant_right : Const → Design → Result Bound Code
constant_right v d = constant_step d v (out-Const v)

-- the number of an argument that has to be a constant
abbrev pub constant_number : Scope → Locals → Ex → Result ℤ Code
constant_number s ls a = if folds s ls a then after (value s a) content else Err E2NotElaborable

-- ---- bounds that are constants, of a number that isn't one

abbrev pub number_in : Typed → Binding → Result Bound Code
number_in t b = if is_number t.kind then Ok (record { value = t; binding = b }) else Err E3BadArguments

abbrev pub bounds_between : Bool → ℤ → ℤ → Result Bounds Code
bounds_between wraps low high = if int_lt low high then given (bounds_of low (high -ℤ pos 1) wraps) E5TooWide else Err E4BadRange

abbrev pub between : Bool → Typed → ℤ → ℤ → Result Bound Code
between wraps t low high = after (bounds_between wraps low high) (λ b. number_in t (binding.Bounded b))

abbrev pub low_bits : Bool → Typed → ℤ → Result Bound Code
low_bits wraps t (pos n) =
    if nat_le 1 n then (if nat_le n 127 then number_in t (binding.LowBits n wraps) else Err E5TooWide) else Err E4BadRange
low_bits wraps t (negsuc n) = Err E4BadRange

abbrev pub wraps : Callee → Bool
wraps (callee.Known builtin.Modbv) = true
wraps c = false

-- `maker(v, min=low, max=high)`, and with `max` first
abbrev pub made_between : Scope → Locals → Bool → Step Typed → Ex → Ex → Step Bound
made_between s ls wraps v low high = do
  t ← v
  a ← just (constant_number s ls low)
  b ← just (constant_number s ls high)
  just (between wraps t a b)

abbrev pub made_between_turned : Scope → Locals → Bool → Step Typed → Ex → Ex → Step Bound
made_between_turned s ls wraps v high low = do
  t ← v
  b ← just (constant_number s ls high)
  a ← just (constant_number s ls low)
  just (between wraps t a b)

-- `maker(v)[n:]`
abbrev pub made_low_bits : Scope → Locals → Bool → Step Typed → Ex → Step Bound
made_low_bits s ls wraps v n = do
  t ← v
  k ← just (constant_number s ls n)
  just (low_bits wraps t k)

-- ---- right sides

abbrev pub any_right : Scope → Locals → Work → Ex → Step Bound
any_right s ls w a = do
  t ← read s ls w false a
  pure (plain t)

abbrev pub folded_right : Scope → Ex → Step Bound
folded_right s a = do
  v ← just (value s a)
  seeing (constant_right v)

-- a call of a maker that isn't a constant
abbrev pub made_right : Scope → Locals → Work → Bool → Form → Ex → Exs → Step Bound
made_right s ls w wraps form.LowHigh a (x.More v (x.More low (x.More high x.NoMore))) = made_between s ls wraps (read s ls w false v) low high
made_right s ls w wraps form.HighLow a (x.More v (x.More high (x.More low x.NoMore))) = made_between_turned s ls wraps (read s ls w false v) high low
made_right s ls w wraps f a xs = any_right s ls w a

-- `maker(..)[n:]`, of which what it is made of stands by itself
abbrev pub resized_right : Scope → Locals → Work → Bool → Form → Exs → Ex → Step Bound
resized_right s ls w wraps form.Single (x.More v x.NoMore) n = made_low_bits s ls wraps (read s ls w false v) n
resized_right s ls w wraps f ys n = refuse E2NotElaborable

abbrev pub resized_view : Scope → Locals → Work → Ex → View → Ex → Step Bound
resized_view s ls w e (Called keys f ys) n =
    if is_maker (callee_of s ls f) then resized_right s ls w (wraps (callee_of s ls f)) (form_of keys) ys n else any_right s ls w e
resized_view s ls w e v n = any_right s ls w e

abbrev pub call_view : Scope → Locals → Work → Ex → View → Step Bound
call_view s ls w e (Called keys f xs) =
    if is_maker (callee_of s ls f) then made_right s ls w (wraps (callee_of s ls f)) (form_of keys) e xs else any_right s ls w e
call_view s ls w e (Resized a n) = resized_view s ls w e (view a) n
call_view s ls w e v = any_right s ls w e

abbrev pub call_right : Scope → Locals → Work → Ex → Step Bound
call_right s ls w e = call_view s ls w e (view e)

-- a call of `intbv` or `modbv`
abbrev pub is_made_view : Scope → Locals → View → Bool
is_made_view s ls (Called keys f xs) = is_maker (callee_of s ls f)
is_made_view s ls v = false

-- a constant makes a bounded number where it is a name or is made by `intbv` or `modbv`
abbrev pub is_named_view : Scope → Locals → View → Bool
is_named_view s ls (Named t) = true
is_named_view s ls (Resized a n) = is_made_view s ls (view a)
is_named_view s ls v = is_made_view s ls v

abbrev pub is_made : Scope → Locals → Ex → Bool
is_made s ls e = is_named_view s ls (view e)

abbrev pub right : Scope → Locals → Work → Ex → Step Bound
right s ls w a = if is_made s ls a && folds s ls a then folded_right s a else call_right s ls w a

-- ---- kinds of locals

abbrev pub plain_kind : ValueKind → Kind
plain_kind value.Bool = kind.Bool
plain_kind value.Int = kind.Int
plain_kind (value.Bits s) = kind.Int
plain_kind (value.Item n) = kind.Item n

-- the bounds of n bits
abbrev pub low_bounds : ℕ → Bool → Option Bounds
low_bounds n wraps = if nat_le n 127 then bounds_of (pos 0) (pos (2 ^ n - 1)) wraps else None

abbrev pub bits_kind : Option Bounds → Result Kind Code
bits_kind b = after (given b E5TooWide) (λ b. Ok (kind.Bits b))

-- the kind that a first assignment gives a local
abbrev pub first_kind : Binding → ValueKind → Result Kind Code
first_kind binding.Plain k = Ok (plain_kind k)
first_kind (binding.Bounded b) k = Ok (kind.Bits b)
first_kind (binding.LowBits n wraps) k = bits_kind (low_bounds n wraps)

abbrev pub with_kind : Work → ℕ → Kind → Work
with_kind w v k = record w { kinds = slice_set w.kinds v (Some k) }

abbrev pub bound_as : Work → ℕ → Binding → ValueKind → Option Kind → Result Work Code
bound_as w v b k None = after (first_kind b k) (λ declared. Ok (assigns (with_kind w v declared) v))
bound_as w v b k (Some declared) = if binding_takes b declared k then Ok (assigns w v) else Err E10KindClash

-- a local gets a value
abbrev pub bound : Work → ℕ → Binding → ValueKind → Result Work Code
bound w v b k = bound_as w v b k (kind_at w v)
