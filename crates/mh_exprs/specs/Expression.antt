-- How an expression of a generator is read: its parts from left to right, and the first rule that is
-- broken is the answer. Which forms stand in generators is this project's own rule.
use Rattle.std.specs.Prelude.{ℕ, Bool, true, false, List, [], ◌∷◌, Result, Ok, Err, if◌then◌else◌, bytes_eq, codes, Option, Some, None}
use Rattle.mh_pytree.specs.declared.expression.Operator.TheVariants as op
use Rattle.mh_pytree.specs.declared.expression.Sign.{Sign}
use Rattle.mh_pytree.specs.declared.expression.Sign.TheVariants as sign
use Rattle.mh_text.specs.declared.code.Code.{Code}
use Rattle.mh_text.specs.declared.code.Code.TheVariants.{E2NotElaborable, E3BadArguments, E10KindClash}
use Rattle.mh_consts.specs.declared.scope.Scope.{Scope}
use Rattle.mh_consts.specs.Expression as x
use Rattle.mh_consts.specs.Expression.{Ex, Exs, Head, Keys}
use Rattle.mh_consts.specs.Outcome.{after}
use Rattle.mh_consts.specs.Constant.{value}
use Rattle.mh_design.specs.declared.expression.GExpr.TheVariants as e
use Rattle.mh_exprs.specs.declared.locals.Locals.{Locals}
use Rattle.mh_exprs.specs.declared.names.Plan.{Plan}
use Rattle.mh_exprs.specs.declared.names.Plan.TheVariants as plan
use Rattle.mh_exprs.specs.declared.typed.Typed.{Typed}
use Rattle.mh_exprs.specs.declared.typed.Row.{Row}
use Rattle.mh_exprs.specs.declared.typed.Work.{Work}
use Rattle.mh_exprs.specs.Calls.{Collection, Listed, Tupled, Neither, callee_of, collection_of, is_maker, plan_of}
use Rattle.mh_exprs.specs.Constant.{folds}
use Rattle.mh_exprs.specs.Leaves.{integer, leaf, name, element, tuple_element}
use Rattle.mh_exprs.specs.Operations.{signed, negated, operated, bit, slice, zero_end, attribute, length, to_integer, to_truth, unbounded, empty_row, joined, concatenated, read_signed}
use Rattle.mh_exprs.specs.Step.{Step, pure, refuse, just, seeing, ◌>>=◌, ◌>>◌}

-- ---- one operation on parts that are still to be read

-- the one constant that an expression is
abbrev pub folded : Scope → Bool → Ex → Step Typed
folded s wide a = do
  v ← just (value s a)
  seeing (leaf wide v)

abbrev pub folding : Scope → Locals → Bool → Ex → Step Typed → Step Typed
folding s ls wide a read = if folds s ls a then folded s wide a else read

abbrev pub on_one : Step Typed → (Typed → Result Typed Code) → Step Typed
on_one a f = do
  t ← a
  just (f t)

abbrev pub on_two : Step Typed → Step Typed → (Typed → Typed → Result Typed Code) → Step Typed
on_two a b f = do
  t ← a
  u ← b
  just (f t u)

abbrev pub on_three : Step Typed → Step Typed → Step Typed → (Typed → Typed → Typed → Result Typed Code) → Step Typed
on_three a b c f = do
  t ← a
  u ← b
  v ← c
  just (f t u v)

-- an index: of a list, of a tuple, or of what has a width
abbrev pub indexed : Scope → Collection → Step Typed → Step Typed → Step Typed
indexed s (Listed n) a i = do
  t ← i
  element s n t
indexed s (Tupled vs) a i = do
  t ← i
  tuple_element vs t
indexed s Neither a i = on_two a i bit

-- `~` counts the width of its operand
abbrev pub is_wide : Sign → Bool
is_wide sign.Invert = true
is_wide other = false

abbrev pub without_arguments : Keys → Typed → Result Typed Code
without_arguments [] t = Ok t
without_arguments (key ∷ keys) t = Err E3BadArguments

-- `t.signed()` is the one method
abbrev pub method : List ℕ → Keys → Typed → Result Typed Code
method name keys t = if bytes_eq name (codes "signed") then after (read_signed t) (without_arguments keys) else Err E10KindClash

-- ---- calls: what the call reads, the first argument where its width counts and where it doesn't, all
-- arguments as parts of a `concat`, and all of them read for nothing

-- arguments that don't fit are read before they are refused
abbrev pub misfit : Step (Unit {0}) → Step Typed
misfit all = all >> refuse E3BadArguments

abbrev pub joined_row : Step Row → Step Typed
joined_row row = do
  r ← row
  pure (concatenated r)

abbrev pub called : Plan → (wide narrow : Step Typed) → Step Row → Step (Unit {0}) → Step Typed
called (plan.Refused code) wide narrow row all = refuse code
called plan.Now wide narrow row all = pure (integer e.Now)
called plan.Length wide narrow row all = on_one wide length
called plan.Integer wide narrow row all = on_one narrow to_integer
called plan.Truth wide narrow row all = on_one narrow to_truth
called plan.Unbounded wide narrow row all = on_one narrow unbounded
called plan.Row wide narrow row all = joined_row row
called plan.Misfit wide narrow row all = misfit all

-- ---- expressions

module _ (s : Scope) (ls : Locals) (w : Work) where
  abbrev mutual
    -- where the width counts, a constant bounded number keeps it
    pub read : Bool → Ex → Step Typed
    read wide (x.Number n) = folding s ls wide (x.Number n) (refuse E10KindClash)
    read wide (x.Str bytes) = folding s ls wide (x.Str bytes) (refuse E10KindClash)
    read wide (x.Truth b) = folding s ls wide (x.Truth b) (refuse E10KindClash)
    read wide x.Nothing = folding s ls wide x.Nothing (refuse E10KindClash)
    read wide (x.Name t) = folding s ls wide (x.Name t) (name s ls w t)
    read wide (x.And a b) = folding s ls wide (x.And a b) (on_two (read false a) (read false b) (operated op.And))
    read wide (x.Or a b) = folding s ls wide (x.Or a b) (on_two (read false a) (read false b) (operated op.Or))
    read wide (x.Op h xs) = folding s ls wide (x.Op h xs) (operation h xs)
    read wide (x.Collect item t over) = folding s ls wide (x.Collect item t over) (refuse E10KindClash)

    -- an operation that isn't one constant
    pub operation : Head → Exs → Step Typed
    operation (x.Apply sign) (x.More a xs) = on_one (read (is_wide sign) a) (signed sign)
    operation x.Negation (x.More a xs) = on_one (read false a) negated
    operation (x.Both op) (x.More a xs) = on_two (read false a) (first false xs) (operated op)
    operation (x.Attribute name) (x.More a xs) = on_one (read true a) (attribute name)
    operation x.Index (x.More a xs) = indexed s (collection_of s ls a) (read true a) (first false xs)
    operation x.Slice (x.More a xs) = on_three (read true a) (first false xs) (second xs) slice
    operation x.SliceFrom (x.More a xs) = on_three (read true a) (first false xs) (pure zero_end) slice
    operation (x.Resize maker) (x.More a xs) =
        if is_maker (callee_of s ls (x.Name maker)) then refuse E2NotElaborable
        else on_three (read true a) (first false xs) (pure zero_end) slice
    operation x.Whole xs = refuse E2NotElaborable
    operation (x.Call keys) (x.More f xs) = called (plan_of (callee_of s ls f) keys) (first true xs) (first false xs) (row empty_row xs) (all xs)
    operation (x.Method name keys) (x.More a xs) = on_one (read true a) (method name keys)
    operation h xs = refuse E10KindClash

    pub first : Bool → Exs → Step Typed
    first wide x.NoMore = refuse E10KindClash
    first wide (x.More a xs) = read wide a

    pub second : Exs → Step Typed
    second x.NoMore = refuse E10KindClash
    second (x.More a xs) = first false xs

    -- the parts of a `concat`, after these
    pub row : Row → Exs → Step Row
    row r x.NoMore = pure r
    row r (x.More a xs) = do
      t ← read true a
      q ← just (joined r t)
      row q xs

    pub all : Exs → Step (Unit {0})
    all x.NoMore = pure tt
    all (x.More a xs) = do
      t ← read false a
      all xs

  -- an expression that isn't one constant
  abbrev pub read_form : Ex → Step Typed
  read_form (x.Name t) = name s ls w t
  read_form (x.And a b) = on_two (read false a) (read false b) (operated op.And)
  read_form (x.Or a b) = on_two (read false a) (read false b) (operated op.Or)
  read_form (x.Op h xs) = operation h xs
  read_form e = refuse E10KindClash

  -- a call with these arguments, by what it reads
  abbrev pub called_with : Plan → Exs → Step Typed
  called_with p xs = called p (first true xs) (first false xs) (row empty_row xs) (all xs)

abbrev pub is_made_by : Scope → Locals → Option (List ℕ) → Bool
is_made_by s ls None = false
is_made_by s ls (Some t) = is_maker (callee_of s ls (x.Name t))
