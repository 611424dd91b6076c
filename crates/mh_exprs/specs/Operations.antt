-- What the operators of a generator give on parts that were read, and by this project's own rule which
-- parts they take.
use Rattle.std.specs.Prelude.{ℕ, ℤ, pos, ◌+ℤ◌, ◌-ℤ◌, Bool, false, ◌&&◌, ◌||◌, List, [], ◌∷◌, ◌++◌, Option, Some, None, Result, Ok, Err, if◌then◌else◌, bytes_eq, codes}
use Rattle.mh_codes.specs.Widths.{width_of}
use Rattle.mh_num.specs.Results.{in_i128}
use Rattle.mh_num.specs.declared.bounds.Bounds.{Bounds}
use Rattle.mh_pytree.specs.declared.expression.Operator.{Operator}
use Rattle.mh_pytree.specs.declared.expression.Operator.TheVariants as op
use Rattle.mh_pytree.specs.declared.expression.Sign.{Sign}
use Rattle.mh_pytree.specs.declared.expression.Sign.TheVariants as sign
use Rattle.mh_text.specs.declared.code.Code.{Code}
use Rattle.mh_text.specs.declared.code.Code.TheVariants.{E2NotElaborable, E3BadArguments, E4BadRange, E5TooWide, E10KindClash}
use Rattle.mh_consts.specs.Outcome.{after, given}
use Rattle.mh_design.specs.declared.design.Kind.{Kind}
use Rattle.mh_design.specs.declared.design.Kind.TheVariants as kind
use Rattle.mh_design.specs.declared.kinds.ValueKind.{ValueKind}
use Rattle.mh_design.specs.declared.kinds.ValueKind.TheVariants as value
use Rattle.mh_design.specs.declared.expression.GExpr.{GExpr}
use Rattle.mh_design.specs.declared.expression.GExpr.TheVariants as e
use Rattle.mh_design.specs.declared.expression.UnaryOp.TheVariants as unary
use Rattle.mh_design.specs.declared.expression.BinaryOp.{BinaryOp}
use Rattle.mh_design.specs.declared.expression.BinaryOp.TheVariants as binary
use Rattle.mh_design.specs.Constants.{constant_of, index_keeps, slice_keeps}
use Rattle.mh_design.specs.Kinds.{is_number, is_bits, is_part, unary_kind, binary_kind}
use Rattle.mh_design.specs.Tree.{expression_of}
use Rattle.mh_exprs.specs.declared.typed.Typed.{Typed}
use Rattle.mh_exprs.specs.declared.typed.Row.{Row}
use Rattle.mh_exprs.specs.Leaves.{integer, truth}

-- an expression of a kind that its parts give, if they fit
abbrev pub of_kind : GExpr → Option ℤ → Option ValueKind → Result Typed Code
of_kind x w None = Err E10KindClash
of_kind x w (Some k) = Ok (record { expr = x; kind = k; width = w; base = None })

-- ---- operators

-- `~a` has the width of a
abbrev pub signed : Sign → Typed → Result Typed Code
signed sign.Minus t = of_kind (e.Unary unary.Minus t.expr) None (unary_kind unary.Minus t.kind)
signed sign.Plus t = of_kind (e.Unary unary.Plus t.expr) None (unary_kind unary.Plus t.kind)
signed sign.Invert t = of_kind (e.Unary unary.Invert t.expr) t.width (unary_kind unary.Invert t.kind)

abbrev pub negated : Typed → Result Typed Code
negated t = of_kind (e.Unary unary.Not t.expr) None (unary_kind unary.Not t.kind)

abbrev pub both : BinaryOp → Typed → Typed → Result Typed Code
both o t u = of_kind (e.Binary o t.expr u.expr) None (binary_kind o t.kind u.kind)

-- of `and` and `or` both sides are numbers
abbrev pub logical : GExpr → Typed → Typed → Result Typed Code
logical x t u = if is_number t.kind && is_number u.kind then Ok (truth x) else Err E10KindClash

abbrev pub operated : Operator → Typed → Typed → Result Typed Code
operated op.Or t u = logical (e.Or t.expr u.expr) t u
operated op.And t u = logical (e.And t.expr u.expr) t u
operated op.Equal t u = both binary.Equal t u
operated op.NotEqual t u = both binary.NotEqual t u
operated op.Less t u = both binary.Less t u
operated op.LessEqual t u = both binary.LessEqual t u
operated op.Greater t u = both binary.Greater t u
operated op.GreaterEqual t u = both binary.GreaterEqual t u
operated op.BitOr t u = both binary.BitOr t u
operated op.BitXor t u = both binary.BitXor t u
operated op.BitAnd t u = both binary.BitAnd t u
operated op.ShiftLeft t u = both binary.ShiftLeft t u
operated op.ShiftRight t u = both binary.ShiftRight t u
operated op.Add t u = both binary.Add t u
operated op.Subtract t u = both binary.Subtract t u
operated op.Multiply t u = both binary.Multiply t u
operated op.Divide t u = both binary.Divide t u
operated op.Remainder t u = both binary.Remainder t u

-- ---- bits and slices: of what is declared with a width

abbrev pub bounds_in : Option Kind → Option Bounds
bounds_in (Some (kind.Bits b)) = Some b
bounds_in k = None

-- an index is a number, and where it is a constant it lies within the width
abbrev pub bit_fits : Bounds → Typed → Result (Unit {0}) Code
bit_fits b i =
    if is_number i.kind
    then (if index_keeps (expression_of i.expr) (width_of b.lo b.top) then Ok tt else Err E4BadRange)
    else Err E10KindClash

-- `t[i]`
abbrev pub bit : Typed → Typed → Result Typed Code
bit t i = after (given (bounds_in t.base) E10KindClash) (λ b. after (bit_fits b i) (λ u. Ok (truth (e.Bit t.expr i.expr))))

-- the width between two ends, if both are constants
abbrev pub width_between : Option ℤ → Option ℤ → Option ℤ
width_between (Some i) (Some j) = in_i128 (i -ℤ j)
width_between i j = None

abbrev pub sliced_as : Typed → Typed → Typed → Typed
sliced_as t i j = record {
  expr = e.Slice t.expr i.expr j.expr;
  kind = value.Bits false;
  width = width_between (constant_of (expression_of i.expr)) (constant_of (expression_of j.expr));
  base = None;
}

-- the ends are numbers, and where they are constants they keep the rule of slices
abbrev pub slice_fits : Bounds → Typed → Typed → Result (Unit {0}) Code
slice_fits b i j =
    if is_number i.kind && is_number j.kind
    then (if slice_keeps (expression_of i.expr) (expression_of j.expr) (width_of b.lo b.top) then Ok tt else Err E4BadRange)
    else Err E10KindClash

-- `t[i:j]`
abbrev pub slice : Typed → Typed → Typed → Result Typed Code
slice t i j = after (given (bounds_in t.base) E10KindClash) (λ b. after (slice_fits b i j) (λ u. Ok (sliced_as t i j)))

-- the lower end of `t[i:]`
abbrev pub zero_end : Typed
zero_end = integer (e.Integer (pos 0))

-- ---- attributes

abbrev pub end_named : List ℕ → Bounds → Result Typed Code
end_named name b =
    if bytes_eq name (codes "min") then Ok (integer (e.Integer b.lo))
    else (if bytes_eq name (codes "max")
    then after (given (in_i128 (b.top +ℤ pos 1)) E5TooWide) (λ n. Ok (integer (e.Integer n)))
    else Err E10KindClash)

-- `next` is a target alone, and an edge is waited for alone
abbrev pub is_no_reading : List ℕ → Bool
is_no_reading name = bytes_eq name (codes "next") || (bytes_eq name (codes "posedge") || bytes_eq name (codes "negedge"))

abbrev pub attribute : List ℕ → Typed → Result Typed Code
attribute name t = if is_no_reading name then Err E2NotElaborable else after (given (bounds_in t.base) E10KindClash) (end_named name)

-- ---- calls

abbrev pub length : Typed → Result Typed Code
length t = after (given t.width E3BadArguments) (λ n. Ok (integer (e.Integer n)))

abbrev pub to_integer : Typed → Result Typed Code
to_integer t = if is_number t.kind then Ok (integer (e.Int t.expr)) else Err E10KindClash

abbrev pub to_truth : Typed → Result Typed Code
to_truth t = if is_number t.kind then Ok (truth (e.Bool t.expr)) else Err E10KindClash

-- `intbv(t)` and `modbv(t)`: an integer
abbrev pub unbounded : Typed → Result Typed Code
unbounded t = if is_number t.kind then Ok (integer (e.Int t.expr)) else Err E3BadArguments

-- a truth value is one bit of a `concat`
abbrev pub part_width : ValueKind → Option ℤ → Option ℤ
part_width value.Bool w = Some (pos 1)
part_width k w = w

abbrev pub sum_width : Option ℤ → Option ℤ → Result (Option ℤ) Code
sum_width (Some a) (Some b) = after (given (in_i128 (a +ℤ b)) E5TooWide) (λ n. Ok (Some n))
sum_width a b = Ok None

abbrev pub empty_row : Row
empty_row = record { parts = []; width = Some (pos 0) }

abbrev pub row_with : Row → Typed → Option ℤ → Row
row_with r t w = record { parts = r.parts ++ t.expr ∷ []; width = w }

-- one more part of a `concat`
abbrev pub joined : Row → Typed → Result Row Code
joined r t =
    if is_part t.kind then after (sum_width r.width (part_width t.kind t.width)) (λ w. Ok (row_with r t w))
    else Err E10KindClash

-- all parts of a `concat`, of which there is at least one
abbrev pub concatenated : Row → Typed
concatenated r = record { expr = e.Concat r.parts; kind = value.Bits false; width = r.width; base = None }

-- `t.signed()`
abbrev pub read_signed : Typed → Result Typed Code
read_signed t = if is_bits t.kind then Ok (integer (e.Signed t.expr)) else Err E10KindClash
