-- How the statements of a generator that hold no others are read. Which there are is this project's own
-- rule.
use Rattle.std.specs.Prelude.{ℕ, ℤ, pos, Bool, true, false, ◌&&◌, List, [], ◌∷◌, ◌++◌, map, Option, Some, None, Result, Ok, Err, if◌then◌else◌}
use Rattle.std.specs.Ordering.{int_eq}
use Rattle.mh_pytree.specs.declared.expression.Operator.{Operator}
use Rattle.mh_text.specs.declared.code.Code.{Code}
use Rattle.mh_text.specs.declared.code.Code.TheVariants.{E2NotElaborable, E3BadArguments, E4BadRange, E10KindClash}
use Rattle.mh_consts.specs.declared.kinds.Builtin.TheVariants as builtin
use Rattle.mh_consts.specs.declared.kinds.Const.{Const, out-Const}
use Rattle.mh_consts.specs.declared.kinds.Const.TheOpen.{Const-F}
use Rattle.mh_consts.specs.declared.scope.Scope.{Scope}
use Rattle.mh_consts.specs.Expression as x
use Rattle.mh_consts.specs.Expression.{Ex, Exs, Keys}
use Rattle.mh_consts.specs.Outcome.{after}
use Rattle.mh_consts.specs.Names.{lookup}
use Rattle.mh_consts.specs.Builtins.{all_positional}
use Rattle.mh_design.specs.declared.design.Kind.{Kind}
use Rattle.mh_design.specs.declared.design.Kind.TheVariants as kind
use Rattle.mh_design.specs.declared.expression.GExpr.TheVariants as e
use Rattle.mh_design.specs.declared.statement.PrintPart.{PrintPart}
use Rattle.mh_design.specs.declared.statement.PrintPart.TheVariants as print
use Rattle.mh_design.specs.declared.statement.Binding.TheVariants as binding
use Rattle.mh_design.specs.Kinds.{is_number}
use Rattle.mh_design.specs.Statements.{takes, is_integer_kind}
use Rattle.mh_design.specs.Tree.{Statement, Set, Yield, Print, Assert, Whole, LeftLocal, Bind, expression_of, left_of, printed_of}
use Rattle.mh_exprs.specs.declared.locals.Locals.{Locals}
use Rattle.mh_exprs.specs.declared.names.Callee.{Callee}
use Rattle.mh_exprs.specs.declared.names.Callee.TheVariants as callee
use Rattle.mh_exprs.specs.declared.typed.Typed.{Typed}
use Rattle.mh_lower.specs.declared.typed.Bound.{Bound}
use Rattle.mh_lower.specs.declared.typed.Left.{Left}
use Rattle.mh_lower.specs.declared.typed.Ends.{Ends}
use Rattle.mh_exprs.specs.declared.typed.Work.{Work}
use Rattle.mh_lower.specs.Bindings.{right, bound, constant_number}
use Rattle.mh_exprs.specs.Calls.{callee_of}
use Rattle.mh_exprs.specs.Constant.{outside}
use Rattle.mh_exprs.specs.Expression.{read, all}
use Rattle.mh_exprs.specs.Leaves.{integer, local, kind_at}
use Rattle.mh_exprs.specs.Operations.{operated}
use Rattle.mh_lower.specs.Views.{View, view, Named, Text, Tupled, Called, Attributed, Indexed, Ranged, RangedFrom, Resized, Entire, Another}
use Rattle.mh_exprs.specs.Step.{Step, pure, refuse, just, ◌>>=◌, ◌>>◌}
use Rattle.mh_lower.specs.Targets.{left, left_takes}
use Rattle.mh_lower.specs.Waits.{yielded}

-- a statement, and what is known of the locals after it
abbrev pub Made : Type 0
Made = Statement × Work

-- ---- assignments

abbrev pub set : ℕ → Typed → Left → Result Statement Code
set l t place = if left_takes place.kind t.kind then Ok (Set l (left_of place.target) (expression_of t.expr)) else Err E10KindClash

-- a statement that leaves what is known of the locals as it is
abbrev pub staying : Work → Step Statement → Step Made
staying w p = do
  s ← p
  pure (s, w)

abbrev pub bind : ℕ → Work → ℕ → Bound → Result Made Code
bind l w v b = after (bound w v b.binding b.value.kind) (λ u. Ok (Set l (Bind v b.binding) (expression_of b.value.expr), u))

abbrev pub assign_part : Scope → Locals → Work → ℕ → Ex → Ex → Step Statement
assign_part s ls w l target e = do
  t ← read s ls w false e
  place ← left s ls w target
  just (set l t place)

abbrev pub assign_name : Scope → Locals → Work → ℕ → Option ℕ → Ex → Step Made
assign_name s ls w l None e = refuse E10KindClash
assign_name s ls w l (Some v) e = do
  b ← right s ls w e
  just (bind l w v b)

abbrev pub assign_by : Scope → Locals → Work → ℕ → Option (List ℕ) → Ex → Ex → Step Made
assign_by s ls w l (Some t) target e = assign_name s ls w l (lookup ls.numbers t) e
assign_by s ls w l None target e = staying w (assign_part s ls w l target e)

unfoldable pub assign : Scope → Locals → Work → ℕ → Ex → Ex → Step Made
assign s ls w l target e = assign_by s ls w l (x.name_in target) target e

-- ---- augmented assignments: a local that is a bounded number keeps its bounds

abbrev pub update : ℕ → Work → ℕ → Typed → Option Kind → Result Made Code
update l w v t (Some (kind.Bits b)) =
    if takes (kind.Bits b) t.kind then Ok (Set l (Whole (LeftLocal v)) (expression_of t.expr), w) else Err E10KindClash
update l w v t k = bind l w v (record { value = t; binding = binding.Plain })

abbrev pub augment_name : Scope → Locals → Work → ℕ → Operator → Option ℕ → Ex → Step Made
augment_name s ls w l op None e = refuse E10KindClash
augment_name s ls w l op (Some v) e = do
  a ← just (local w v)
  b ← read s ls w false e
  t ← just (operated op a b)
  just (update l w v t (kind_at w v))

abbrev pub augment_part : Scope → Locals → Work → ℕ → Operator → Ex → Ex → Step Statement
augment_part s ls w l op target e = do
  a ← read s ls w false target
  b ← read s ls w false e
  t ← just (operated op a b)
  place ← left s ls w target
  just (set l t place)

abbrev pub augment_by : Scope → Locals → Work → ℕ → Operator → Option (List ℕ) → Ex → Ex → Step Made
augment_by s ls w l op (Some t) target e = augment_name s ls w l op (lookup ls.numbers t) e
augment_by s ls w l op None target e = staying w (augment_part s ls w l op target e)

unfoldable pub augment : Scope → Locals → Work → ℕ → Operator → Ex → Ex → Step Made
augment s ls w l op target e = augment_by s ls w l op (x.name_in target) target e

-- ---- conditions

abbrev pub number : Typed → Result Typed Code
number t = if is_number t.kind then Ok t else Err E10KindClash

unfoldable pub condition : Scope → Locals → Work → Ex → Step Typed
condition s ls w e = do
  t ← read s ls w false e
  just (number t)

unfoldable pub claim : Scope → Locals → Work → ℕ → Ex → Step Statement
claim s ls w l e = do
  t ← condition s ls w e
  pure (Assert l (expression_of t.expr))

-- ---- printing: strings, and integer expressions

abbrev pub text_step : Const-F Const → Option (List ℕ)
text_step (Const-F.Str bytes) = Some bytes
text_step v = None

abbrev pub text_held : Option Const → Option (List ℕ)
text_held None = None
text_held (Some v) = text_step (out-Const v)

abbrev pub text_view : Scope → Locals → View → Option (List ℕ)
text_view s ls (Text bytes) = Some bytes
text_view s ls (Named t) = text_held (outside s ls t)
text_view s ls v = None

abbrev pub text_in : Scope → Locals → Ex → Option (List ℕ)
text_in s ls e = text_view s ls (view e)

abbrev pub printed_number : Typed → Result PrintPart Code
printed_number t = if is_integer_kind t.kind then Ok (print.Number t.expr) else Err E3BadArguments

abbrev pub printed_as : Option (List ℕ) → Step Typed → Step PrintPart
printed_as (Some bytes) number = pure (print.Text bytes)
printed_as None number = do
  t ← number
  just (printed_number t)

abbrev pub printed_onto : Scope → Locals → Work → List PrintPart → Exs → Step (List PrintPart)
printed_onto s ls w ps x.NoMore = pure ps
printed_onto s ls w ps (x.More e es) = do
  p ← printed_as (text_in s ls e) (read s ls w false e)
  printed_onto s ls w (ps ++ p ∷ []) es

abbrev pub print_of : ℕ → Bool → List PrintPart → Result Statement Code
print_of l true ps = Ok (Print l (map printed_of ps))
print_of l false ps = Err E3BadArguments

abbrev pub show : Scope → Locals → Work → ℕ → Keys → Exs → Step Statement
show s ls w l keys xs = do
  ps ← printed_onto s ls w [] xs
  just (print_of l (all_positional keys) ps)

abbrev pub is_print : Callee → Bool
is_print (callee.Known builtin.Print) = true
is_print c = false

-- an expression by itself: a string is dropped, `print(..)` is a statement, and others aren't allowed
abbrev pub printing : Bool → Step Statement → Step (Option Statement)
printing false p = refuse E2NotElaborable
printing true p = do
  s ← p
  pure (Some s)

abbrev pub by_itself_view : Scope → Locals → Work → ℕ → View → Step (Option Statement)
by_itself_view s ls w l (Text bytes) = pure None
by_itself_view s ls w l (Called keys f xs) = printing (is_print (callee_of s ls f)) (show s ls w l keys xs)
by_itself_view s ls w l v = refuse E2NotElaborable

unfoldable pub by_itself : Scope → Locals → Work → ℕ → Ex → Step (Option Statement)
by_itself s ls w l e = by_itself_view s ls w l (view e)

-- ---- `yield` and `raise`

unfoldable pub yields : Scope → Locals → Bool → ℕ → Ex → Result Statement Code
yields s ls false l e = Err E2NotElaborable
yields s ls true l e = after (yielded s ls e) (λ ws. Ok (Yield l ws))

abbrev pub is_stop : Callee → Bool
is_stop (callee.Known builtin.StopSimulation) = true
is_stop c = false

abbrev pub has_none : Keys → Bool
has_none [] = true
has_none (key ∷ keys) = false

abbrev pub stop_view : Scope → Locals → View → Bool
stop_view s ls (Called keys f xs) = has_none keys && is_stop (callee_of s ls f)
stop_view s ls v = false

-- `StopSimulation()`
abbrev pub is_stop_call : Scope → Locals → Ex → Bool
is_stop_call s ls e = stop_view s ls (view e)

-- ---- what a `for` goes over

abbrev pub is_range : Callee → Option Bool
is_range (callee.Known builtin.Range) = Some false
is_range (callee.Known builtin.Downrange) = Some true
is_range c = None

abbrev pub zero : Typed
zero = integer (e.Integer (pos 0))

abbrev pub ends_of : Bool → Typed → Typed → ℤ → Result Ends Code
ends_of down a b step =
    if is_number a.kind && is_number b.kind
    then (if int_eq step (pos 0) then Err E4BadRange else Ok (record { down = down; from = a.expr; to = b.expr; step = step }))
    else Err E3BadArguments

-- one end: up from 0, or down to 0
abbrev pub one_end : Bool → Step Typed → Step Ends
one_end false a = do
  t ← a
  just (ends_of false zero t (pos 1))
one_end true a = do
  t ← a
  just (ends_of true t zero (pos 1))

abbrev pub two_ends : Bool → Step Typed → Step Typed → Step Ends
two_ends down a b = do
  t ← a
  u ← b
  just (ends_of down t u (pos 1))

abbrev pub ends_and_step : Bool → Step Typed → Step Typed → Result ℤ Code → Step Ends
ends_and_step down a b step = do
  t ← a
  u ← b
  n ← just step
  just (ends_of down t u n)

-- arguments that don't fit are read before they are refused
abbrev pub misfit : Scope → Locals → Work → Exs → Step Ends
misfit s ls w xs = all s ls w xs >> refuse E3BadArguments

abbrev pub ends_in : Scope → Locals → Work → Bool → Exs → Step Ends
ends_in s ls w down (x.More a x.NoMore) = one_end down (read s ls w false a)
ends_in s ls w down (x.More a (x.More b x.NoMore)) = two_ends down (read s ls w false a) (read s ls w false b)
ends_in s ls w down (x.More a (x.More b (x.More step x.NoMore))) =
    ends_and_step down (read s ls w false a) (read s ls w false b) (constant_number s ls step)
ends_in s ls w down xs = misfit s ls w xs

abbrev pub range_ends : Scope → Locals → Work → Option Bool → Keys → Exs → Step Ends
range_ends s ls w None keys xs = refuse E2NotElaborable
range_ends s ls w (Some down) keys xs = if all_positional keys then ends_in s ls w down xs else misfit s ls w xs

abbrev pub ends_view : Scope → Locals → Work → View → Step Ends
ends_view s ls w (Called keys f xs) = range_ends s ls w (is_range (callee_of s ls f)) keys xs
ends_view s ls w v = refuse E2NotElaborable

abbrev pub ends : Scope → Locals → Work → Ex → Step Ends
ends s ls w e = ends_view s ls w (view e)
