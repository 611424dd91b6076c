-- What names and constants are in a generator, and which memories and tables are met: one list is one
-- memory, and equal tuples are one table, numbered in the order in which they are met. This is this
-- project's own.
use Rattle.std.specs.Prelude.{ℕ, ℤ, pos, negsuc, Bool, true, false, ◌&&◌, List, [], ◌∷◌, ◌++◌, length, Option, Some, None, Result, Ok, Err, if◌then◌else◌, nat_lt, nat_eq, slice_get, position, option_and_then}
use Rattle.std.specs.Option.{option_map}
use Rattle.std.specs.Ordering.{int_eq}
use Rattle.mh_codes.specs.Widths.{width_of}
use Rattle.mh_num.specs.declared.bounds.Bounds.{Bounds}
use Rattle.mh_text.specs.declared.code.Code.{Code}
use Rattle.mh_text.specs.declared.code.Code.TheVariants.{E1UnknownName, E4BadRange, E10KindClash}
use Rattle.mh_consts.specs.declared.kinds.Const.{Const, out-Const}
use Rattle.mh_consts.specs.declared.kinds.Const.TheOpen.{Const-F}
use Rattle.mh_consts.specs.declared.scope.Scope.{Scope}
use Rattle.mh_consts.specs.Outcome.{after, given}
use Rattle.mh_consts.specs.Names.{lookup}
use Rattle.mh_design.specs.declared.design.Design.{Design}
use Rattle.mh_design.specs.declared.design.Kind.{Kind}
use Rattle.mh_design.specs.declared.design.Kind.TheVariants as kind
use Rattle.mh_design.specs.declared.kinds.ValueKind.TheVariants as value
use Rattle.mh_design.specs.declared.expression.GExpr.{GExpr}
use Rattle.mh_design.specs.declared.expression.GExpr.TheVariants as e
use Rattle.mh_design.specs.Constants.{constant_of, index_keeps}
use Rattle.mh_design.specs.Kinds.{signal_kind, item_count, is_number, read_as}
use Rattle.mh_design.specs.Tree.{expression_of}
use Rattle.mh_design.specs.WellFormed.{cells_kind}
use Rattle.mh_exprs.specs.declared.locals.Locals.{Locals}
use Rattle.mh_exprs.specs.declared.typed.Typed.{Typed}
use Rattle.mh_exprs.specs.declared.typed.Work.{Work}
use Rattle.mh_exprs.specs.Step.{Step, pure, refuse, just, seeing, ◌>>=◌}

abbrev pub width_in : Kind → Option ℤ
width_in (kind.Bits b) = Some (pos (width_of b.lo b.top))
width_in k = None

-- an expression of this declared kind
abbrev pub declared : GExpr → Kind → Typed
declared x k = record { expr = x; kind = read_as k; width = width_in k; base = Some k }

-- an expression of a kind without a width
abbrev pub integer : GExpr → Typed
integer x = record { expr = x; kind = value.Int; width = None; base = None }

abbrev pub truth : GExpr → Typed
truth x = record { expr = x; kind = value.Bool; width = None; base = None }

-- ---- constants

abbrev pub item : Design → ℕ → ℕ → Result Typed Code
item d n place =
    if nat_lt place (item_count d n) then Ok (record { expr = e.Item n place; kind = value.Item n; width = None; base = None })
    else Err E10KindClash

-- a bounded number keeps its bounds where its width counts, and else is an integer
abbrev pub bounded : Bool → ℤ → Bounds → Typed
bounded true v b = declared (e.Fixed v b) (kind.Bits b)
bounded false v b = integer (e.Integer v)

abbrev pub signal : Design → ℕ → Result Typed Code
signal d n = after (given (signal_kind d n) E10KindClash) (λ k. Ok (declared (e.Signal n) k))

abbrev pub leaf_step : Bool → Design → Const-F Const → Result Typed Code
leaf_step wide d (Const-F.Int n) = Ok (integer (e.Integer n))
leaf_step wide d (Const-F.Truth b) = Ok (truth (e.Truth b))
leaf_step wide d (Const-F.Item n place) = item d n place
leaf_step wide d (Const-F.Bounded v b) = Ok (bounded wide v b)
leaf_step wide d (Const-F.Signal n k) = signal d n
leaf_step wide d v = Err E10KindClash

-- what a value of elaboration is in an expression: a constant, or the reading of a signal
abbrev pub leaf : Bool → Const → Design → Result Typed Code
leaf wide v d = leaf_step wide d (out-Const v)

-- ---- names

-- a local is read where every path that leads here has assigned it
abbrev pub is_true : Option Bool → Bool
is_true None = false
is_true (Some b) = b

abbrev pub is_assigned : Option (List Bool) → ℕ → Bool
is_assigned None v = true
is_assigned (Some bs) v = is_true (slice_get bs v)

abbrev pub no_kind : Option (Option Kind) → Option Kind
no_kind None = None
no_kind (Some k) = k

-- the kind of a local, which is known once it was assigned in the text
abbrev pub kind_at : Work → ℕ → Option Kind
kind_at w v = no_kind (slice_get w.kinds v)

abbrev pub local : Work → ℕ → Result Typed Code
local w v =
    if is_assigned w.here v then after (given (kind_at w v) E1UnknownName) (λ k. Ok (declared (e.Local v) k))
    else Err E1UnknownName

abbrev pub held : Option Const → Design → Result Typed Code
held None d = Err E1UnknownName
held (Some v) d = leaf false v d

abbrev pub name_or : Option ℕ → Option Const → Work → Design → Result Typed Code
name_or (Some n) v w d = local w n
name_or None v w d = held v d

abbrev pub name : Scope → Locals → Work → List ℕ → Step Typed
name s ls w t = seeing (name_or (lookup ls.numbers t) (lookup s.names t) w)

-- ---- memories

-- the signals of a list that holds nothing else
abbrev pub signal_step : Const-F Const → Option ℕ
signal_step (Const-F.Signal n k) = Some n
signal_step v = None

abbrev pub signals_onto : List ℕ → List Const → Option (List ℕ)
signals_onto ns [] = Some ns
signals_onto ns (v ∷ vs) = option_and_then (λ n. signals_onto (ns ++ n ∷ []) vs) (signal_step (out-Const v))

abbrev pub new_mem : Design → ℕ → List ℕ → Kind → Design
new_mem d list cells k = record d { mems = d.mems ++ record { list = list; path = []; kind = k; cells = cells; line = 0 } ∷ [] }

abbrev pub cells_met : ℕ → Option (List ℕ) → Step (ℕ × Kind)
cells_met list None d = Err E10KindClash
cells_met list (Some cells) d = after (given (cells_kind d cells) E10KindClash) (λ k. Ok ((length d.mems, k), new_mem d list cells k))

abbrev pub memory_at : ℕ → List Const → Option ℕ → Step (ℕ × Kind)
memory_at list vs (Some m) d = after (given (option_map (λ x. x.kind) (slice_get d.mems m)) E10KindClash) (λ k. Ok ((m, k), d))
memory_at list vs None d = cells_met list (signals_onto [] vs) d

-- the number and the kind of a list's memory
abbrev pub memory : ℕ → List Const → Step (ℕ × Kind)
memory list vs d = memory_at list vs (position (λ x. nat_eq x.list list) d.mems) d

-- an index is a number, and where it is a constant it lies below n
abbrev pub index_at : ℕ → Typed → Result (Unit {0}) Code
index_at n t =
    if is_number t.kind then (if index_keeps (expression_of t.expr) n then Ok tt else Err E4BadRange) else Err E10KindClash

abbrev pub cell_in : ℕ → Typed → List Const → Step (ℕ × Kind)
cell_in list t [] = refuse E4BadRange
cell_in list t vs = do
  m ← memory list vs
  u ← just (index_at (length vs) t)
  pure m

-- the memory of a list, and its kind, where the list has an element at this index
abbrev pub cell : Scope → ℕ → Typed → Step (ℕ × Kind)
cell s list t = do
  vs ← just (given (slice_get s.lists list) E10KindClash)
  cell_in list t vs

-- the element of a list at an index
abbrev pub element : Scope → ℕ → Typed → Step Typed
element s list t = do
  m ← cell s list t
  pure (declared (e.Element m.0 t.expr) m.1)

-- ---- tables

abbrev pub integer_step : Const-F Const → Option ℤ
integer_step (Const-F.Int n) = Some n
integer_step v = None

-- the integers of a tuple that holds nothing else
abbrev pub integers_onto : List ℤ → List Const → Option (List ℤ)
integers_onto zs [] = Some zs
integers_onto zs (v ∷ vs) = option_and_then (λ z. integers_onto (zs ++ z ∷ []) vs) (integer_step (out-Const v))

abbrev pub same_integers : List ℤ → List ℤ → Bool
same_integers [] [] = true
same_integers (y ∷ ys) (z ∷ zs) = int_eq y z && same_integers ys zs
same_integers ys zs = false

abbrev pub new_table : Design → List ℤ → Design
new_table d zs = record d { tables = d.tables ++ record { path = []; values = zs } ∷ [] }

abbrev pub table_at : List ℤ → Option ℕ → Step ℕ
table_at zs (Some n) d = Ok (n, d)
table_at zs None d = Ok (length d.tables, new_table d zs)

-- the number of the table with these elements
abbrev pub table : List ℤ → Step ℕ
table zs d = table_at zs (position (λ x. same_integers x.values zs) d.tables) d

abbrev pub table_element : List ℤ → Typed → Step Typed
table_element zs t = do
  u ← just (index_at (length zs) t)
  n ← table zs
  pure (integer (e.TableElement n t.expr))

abbrev pub place_in : List Const → Option ℤ → Result Const Code
place_in vs None = Err E10KindClash
place_in vs (Some (pos i)) = given (slice_get vs i) E4BadRange
place_in vs (Some (negsuc i)) = Err E4BadRange

-- an item of a tuple that isn't a table, at a constant index
abbrev pub item_of : List Const → Typed → Step Typed
item_of vs t = do
  v ← just (place_in vs (constant_of (expression_of t.expr)))
  seeing (leaf false v)

abbrev pub tuple_as : List Const → Option (List ℤ) → Typed → Step Typed
tuple_as vs (Some zs) t = table_element zs t
tuple_as vs None t = item_of vs t

-- the element of a tuple at an index
abbrev pub tuple_element : List Const → Typed → Step Typed
tuple_element [] t = refuse E4BadRange
tuple_element vs t = tuple_as vs (integers_onto [] vs) t
