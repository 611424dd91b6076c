-- The left sides of assignments: a signal or an element of a list by `.next`, a local, or a part of
-- one of these. Which forms there are is this project's own rule.
use Rattle.std.specs.Prelude.{ℕ, Bool, true, false, ◌&&◌, List, Option, Some, None, Result, Ok, Err, if◌then◌else◌, bytes_eq, codes}
use Rattle.mh_codes.specs.Widths.{width_of}
use Rattle.mh_num.specs.declared.bounds.Bounds.{Bounds}
use Rattle.mh_text.specs.declared.code.Code.{Code}
use Rattle.mh_text.specs.declared.code.Code.TheVariants.{E1UnknownName, E2NotElaborable, E4BadRange, E10KindClash}
use Rattle.mh_consts.specs.declared.kinds.Const.{Const, out-Const}
use Rattle.mh_consts.specs.declared.kinds.Const.TheOpen.{Const-F}
use Rattle.mh_consts.specs.declared.scope.Scope.{Scope}
use Rattle.mh_consts.specs.Expression as x
use Rattle.mh_consts.specs.Expression.{Ex}
use Rattle.mh_consts.specs.Outcome.{after, given}
use Rattle.mh_consts.specs.Names.{lookup}
use Rattle.mh_design.specs.declared.design.Design.{Design}
use Rattle.mh_design.specs.declared.design.Kind.{Kind}
use Rattle.mh_design.specs.declared.kinds.ValueKind.{ValueKind}
use Rattle.mh_design.specs.declared.statement.Place.{Place}
use Rattle.mh_design.specs.declared.statement.Place.TheVariants as place
use Rattle.mh_design.specs.declared.statement.Target.TheVariants as target
use Rattle.mh_design.specs.Constants.{constant_of, index_keeps, slice_keeps}
use Rattle.mh_design.specs.Kinds.{is_number, signal_kind}
use Rattle.mh_design.specs.Statements.{takes}
use Rattle.mh_design.specs.Tree.{expression_of}
use Rattle.mh_exprs.specs.declared.locals.Locals.{Locals}
use Rattle.mh_exprs.specs.declared.typed.Typed.{Typed}
use Rattle.mh_lower.specs.declared.typed.Left.{Left}
use Rattle.mh_exprs.specs.declared.typed.Work.{Work}
use Rattle.mh_exprs.specs.Calls.{Collection, Listed, Tupled, Neither, collection_of}
use Rattle.mh_exprs.specs.Constant.{is_local}
use Rattle.mh_exprs.specs.Expression.{read}
use Rattle.mh_exprs.specs.Leaves.{is_assigned, kind_at, cell, place_in}
use Rattle.mh_exprs.specs.Operations.{bounds_in, bit_fits, slice_fits, zero_end}
use Rattle.mh_lower.specs.Views.{View, view, Named, Text, Tupled, Called, Attributed, Indexed, Ranged, RangedFrom, Resized, Entire, Another}
use Rattle.mh_exprs.specs.Step.{Step, pure, refuse, just, seeing, ◌>>=◌}

-- ---- what is assigned, or a part of which is, with its declared kind

abbrev pub Placed : Type 0
Placed = Place × Kind

abbrev pub signal_place : Design → ℕ → Result Placed Code
signal_place d n = after (given (signal_kind d n) E10KindClash) (λ k. Ok (place.Signal n, k))

abbrev pub held_place_step : Design → Const-F Const → Result Placed Code
held_place_step d (Const-F.Signal n k) = signal_place d n
held_place_step d v = Err E10KindClash

abbrev pub held_place : Const → Design → Result Placed Code
held_place v d = held_place_step d (out-Const v)

abbrev pub named_place : Bool → Option Const → Design → Result Placed Code
named_place true v d = Err E10KindClash
named_place false None d = Err E1UnknownName
named_place false (Some v) d = held_place v d

abbrev pub element_place : Scope → Collection → Step Typed → Step Placed
element_place s (Listed n) i = do
  t ← i
  m ← cell s n t
  pure (place.Element m.0 t.expr, m.1)
element_place s (Tupled vs) i = do
  t ← i
  v ← just (place_in vs (constant_of (expression_of t.expr)))
  seeing (held_place v)
element_place s Neither i = refuse E10KindClash

-- what stands before `.next`
abbrev pub next_view : Scope → Locals → Work → View → Step Placed
next_view s ls w (Named t) = seeing (named_place (is_local ls t) (lookup s.names t))
next_view s ls w (Indexed a i) = element_place s (collection_of s ls a) (read s ls w false i)
next_view s ls w v = refuse E10KindClash

abbrev pub next_place : Scope → Locals → Work → Ex → Step Placed
next_place s ls w e = next_view s ls w (view e)

-- a local of which a part is assigned is read
abbrev pub local_place : Work → ℕ → Result Placed Code
local_place w v =
    if is_assigned w.here v then after (given (kind_at w v) E1UnknownName) (λ k. Ok (place.Local v, k)) else Err E1UnknownName

abbrev pub own_place : Work → Option ℕ → Option Const → Result Placed Code
own_place w (Some v) o = local_place w v
own_place w None None = Err E1UnknownName
own_place w None (Some v) = Err E2NotElaborable

abbrev pub is_next : List ℕ → Bool
is_next name = bytes_eq name (codes "next")

-- what a part is assigned of
abbrev pub own_named : Scope → Locals → Work → List ℕ → Result Placed Code
own_named s ls w t = own_place w (lookup ls.numbers t) (lookup s.names t)

abbrev pub part_view : Scope → Locals → Work → View → Step Placed
part_view s ls w (Named t) = just (own_named s ls w t)
part_view s ls w (Attributed a name) = if is_next name then next_place s ls w a else refuse E2NotElaborable
part_view s ls w v = refuse E2NotElaborable

abbrev pub part_place : Scope → Locals → Work → Ex → Step Placed
part_place s ls w e = part_view s ls w (view e)

-- ---- left sides

abbrev pub bit_left : Placed → Typed → Result Left Code
bit_left p i =
    after (given (bounds_in (Some p.1)) E10KindClash) (λ b. after (bit_fits b i) (λ u. Ok (record { target = target.Bit p.0 i.expr; kind = None })))

abbrev pub slice_left : Placed → Typed → Typed → Result Left Code
slice_left p i j =
    after (given (bounds_in (Some p.1)) E10KindClash) (λ b. after (slice_fits b i j) (λ u. Ok (record { target = target.Slice p.0 i.expr j.expr; kind = None })))

abbrev pub whole_left : Placed → Left
whole_left p = record { target = target.Whole p.0; kind = Some p.1 }

-- `v[:]` is for bounded numbers
abbrev pub all_left : Placed → Result Left Code
all_left p = after (given (bounds_in (Some p.1)) E10KindClash) (λ b. Ok (whole_left p))

-- `v[:]`
abbrev pub entire_of : Scope → Locals → Work → Option (List ℕ) → Result Left Code
entire_of s ls w None = Err E2NotElaborable
entire_of s ls w (Some t) = after (own_named s ls w t) all_left

abbrev pub left_view : Scope → Locals → Work → View → Step Left
left_view s ls w (Attributed a name) =
    if is_next name then (do p ← next_place s ls w a; pure (whole_left p)) else refuse E2NotElaborable
left_view s ls w (Indexed a i) = do
  p ← part_place s ls w a
  t ← read s ls w false i
  just (bit_left p t)
left_view s ls w (Ranged a i j) = do
  p ← part_place s ls w a
  t ← read s ls w false i
  u ← read s ls w false j
  just (slice_left p t u)
left_view s ls w (RangedFrom a i) = do
  p ← part_place s ls w a
  t ← read s ls w false i
  just (slice_left p t zero_end)
left_view s ls w (Entire a) = just (entire_of s ls w (x.name_in a))
left_view s ls w v = refuse E2NotElaborable

abbrev pub left : Scope → Locals → Work → Ex → Step Left
left s ls w e = left_view s ls w (view e)

-- a whole takes what its declared kind takes, and a part takes numbers
abbrev pub left_takes : Option Kind → ValueKind → Bool
left_takes None k = is_number k
left_takes (Some declared) k = takes declared k
