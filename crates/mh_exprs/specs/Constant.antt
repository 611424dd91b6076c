-- Which expressions of a generator are one constant: the plain ones in which every leaf is a literal,
-- an outside name of an integer, a truth value, a bounded number or an item of an enum, an item of an
-- enum by its attribute, or `len`, `min` or `max` of something outside. This is this project's own.
use Rattle.std.specs.Prelude.{ℕ, Bool, true, false, not, ◌&&◌, ◌||◌, List, Option, Some, None, Ok, Err, is_some, if◌then◌else◌}
use Rattle.mh_consts.specs.declared.kinds.Builtin.TheVariants as builtin
use Rattle.mh_consts.specs.declared.kinds.Const.{Const, out-Const}
use Rattle.mh_consts.specs.declared.kinds.Const.TheOpen.{Const-F}
use Rattle.mh_consts.specs.declared.scope.Scope.{Scope}
use Rattle.mh_consts.specs.Expression as x
use Rattle.mh_consts.specs.Expression.{Ex, Exs, Head}
use Rattle.mh_consts.specs.Outcome.{Outcome}
use Rattle.mh_consts.specs.Names.{lookup}
use Rattle.mh_consts.specs.Constant.{value, is_plain}
use Rattle.mh_exprs.specs.declared.locals.Locals.{Locals}

-- ---- names

-- a name that is assigned in the body is a local, and hides what is outside
abbrev pub is_local : Locals → List ℕ → Bool
is_local ls t = is_some (lookup ls.numbers t)

abbrev pub outside : Scope → Locals → List ℕ → Option Const
outside s ls t = if is_local ls t then None else lookup s.names t

abbrev mutual
  -- a local stands in it
  pub names_local : Locals → Ex → Bool
  names_local ls (x.Number n) = false
  names_local ls (x.Str bytes) = false
  names_local ls (x.Truth b) = false
  names_local ls x.Nothing = false
  names_local ls (x.Name t) = is_local ls t
  names_local ls (x.And a b) = names_local ls a || names_local ls b
  names_local ls (x.Or a b) = names_local ls a || names_local ls b
  names_local ls (x.Op h xs) = name_locals ls xs
  names_local ls (x.Collect item t over) = names_local ls item || names_local ls over

  pub name_locals : Locals → Exs → Bool
  name_locals ls x.NoMore = false
  name_locals ls (x.More e es) = names_local ls e || name_locals ls es

-- ---- constants

abbrev pub is_constant_step : Const-F Const → Bool
is_constant_step (Const-F.Int n) = true
is_constant_step (Const-F.Truth b) = true
is_constant_step (Const-F.Item n place) = true
is_constant_step (Const-F.Bounded v b) = true
is_constant_step v = false

abbrev pub is_constant_value : Option Const → Bool
is_constant_value None = false
is_constant_value (Some v) = is_constant_step (out-Const v)

abbrev pub gives_constant : Outcome → Bool
gives_constant (Ok v) = is_constant_step (out-Const v)
gives_constant (Err code) = false

abbrev pub is_len_step : Const-F Const → Bool
is_len_step (Const-F.Builtin builtin.Len) = true
is_len_step v = false

abbrev pub is_len_value : Option Const → Bool
is_len_value None = false
is_len_value (Some v) = is_len_step (out-Const v)

abbrev pub is_len : Scope → Ex → Bool
is_len s (x.Name t) = is_len_value (lookup s.names t)
is_len s e = false

-- something outside of which only what elaboration knows is asked
abbrev pub is_known : Scope → Locals → Ex → Bool
is_known s ls e = not (names_local ls e) && gives_constant (value s e)

-- a call of `len`, or of another function with constants
abbrev pub is_constant_call : Scope → Locals → x.Keys → Exs → Bool → Bool
is_constant_call s ls keys x.NoMore arguments = false
is_constant_call s ls keys (x.More f xs) arguments =
    if is_len s f then is_known s ls (x.Op (x.Call keys) (x.More f xs)) else (not (names_local ls f) && arguments)

-- an operation, by whether all its parts are constants, and all but the first
abbrev pub is_constant_operation : Scope → Locals → Head → Exs → Bool → Bool → Bool
is_constant_operation s ls (x.Attribute name) xs parts rest = is_known s ls (x.Op (x.Attribute name) xs)
is_constant_operation s ls (x.Call keys) xs parts rest = is_constant_call s ls keys xs rest
is_constant_operation s ls (x.Apply sign) xs parts rest = parts
is_constant_operation s ls x.Negation xs parts rest = parts
is_constant_operation s ls (x.Both op) xs parts rest = parts
is_constant_operation s ls x.Index xs parts rest = parts
is_constant_operation s ls x.Slice xs parts rest = parts
is_constant_operation s ls x.SliceFrom xs parts rest = parts
is_constant_operation s ls (x.Resize maker) xs parts rest = parts
is_constant_operation s ls h xs parts rest = false

abbrev mutual
  pub is_constant : Scope → Locals → Ex → Bool
  is_constant s ls (x.Number n) = true
  is_constant s ls (x.Str bytes) = false
  is_constant s ls (x.Truth b) = true
  is_constant s ls x.Nothing = false
  is_constant s ls (x.Name t) = is_constant_value (outside s ls t)
  is_constant s ls (x.And a b) = is_constant s ls a && is_constant s ls b
  is_constant s ls (x.Or a b) = is_constant s ls a && is_constant s ls b
  is_constant s ls (x.Op h xs) = is_constant_operation s ls h xs (are_constant s ls xs) (rest_are_constant s ls xs)
  is_constant s ls (x.Collect item t over) = false

  pub are_constant : Scope → Locals → Exs → Bool
  are_constant s ls x.NoMore = true
  are_constant s ls (x.More e es) = is_constant s ls e && are_constant s ls es

  pub rest_are_constant : Scope → Locals → Exs → Bool
  rest_are_constant s ls x.NoMore = true
  rest_are_constant s ls (x.More e es) = are_constant s ls es

-- the whole expression is one constant
abbrev pub folds : Scope → Locals → Ex → Bool
folds s ls e = is_plain s e && is_constant s ls e
