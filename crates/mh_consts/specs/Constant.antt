-- The value of a constant expression in a scope: names with what they are bound to, and the lists made
-- so far by their numbers. Parts are evaluated from left to right, and the first that breaks a rule is
-- the answer. Calls of functions of the source, and what makes a list, are no constant expressions.
use Rattle.std.specs.Prelude.{ℕ, Bool, true, false, ◌&&◌, List, [], ◌∷◌, Option, Some, None, Result, Ok, Err, if◌then◌else◌, bytes_eq, codes, drop}
use Rattle.mh_pytree.specs.declared.expression.Operator.{Operator}
use Rattle.mh_pytree.specs.declared.expression.Operator.TheVariants as op
use Rattle.mh_text.specs.declared.code.Code.{Code}
use Rattle.mh_text.specs.declared.code.Code.TheVariants.{E1UnknownName, E2NotElaborable, E3BadArguments, E10KindClash}
use Rattle.mh_consts.specs.declared.kinds.Builtin.{Builtin}
use Rattle.mh_consts.specs.declared.kinds.Builtin.TheVariants as builtin
use Rattle.mh_consts.specs.declared.kinds.Const.{Const, out-Const}
use Rattle.mh_consts.specs.declared.kinds.Const.TheOpen.{Const-F}
use Rattle.mh_consts.specs.declared.kinds.Const.TheVariants as c
use Rattle.mh_consts.specs.declared.scope.Scope.{Scope}
use Rattle.mh_consts.specs.Expression as x
use Rattle.mh_consts.specs.Expression.{Ex, Exs, Head, Keys}
use Rattle.mh_consts.specs.Outcome.{Outcome, after, given, part}
use Rattle.mh_consts.specs.Names.{lookup}
use Rattle.mh_consts.specs.Numbers.{truth}
use Rattle.mh_consts.specs.Operators.{signed, negated, operated}
use Rattle.mh_consts.specs.Places.{attribute, indexed, sliced, sliced_from, resized_by}
use Rattle.mh_consts.specs.Builtins.{form_of, call_step, read_signed}

abbrev pub with_one : List Const → (Const → Outcome) → Outcome
with_one vs f = after (part vs 0) f

abbrev pub with_two : List Const → (Const → Const → Outcome) → Outcome
with_two vs f = after (part vs 0) (λ a. after (part vs 1) (λ b. f a b))

abbrev pub with_three : List Const → (Const → Const → Const → Outcome) → Outcome
with_three vs f = after (part vs 0) (λ a. after (part vs 1) (λ b. after (part vs 2) (λ d. f a b d)))

abbrev pub without_arguments : Keys → Const → Outcome
without_arguments [] v = Ok v
without_arguments (key ∷ keys) v = Err E3BadArguments

-- `x.signed()` is the one method of a constant
abbrev pub method : List ℕ → Keys → Const → Outcome
method name keys v = if bytes_eq name (codes "signed") then after (read_signed (out-Const v)) (without_arguments keys) else Err E10KindClash

-- what a head gives at the values of its parts
abbrev pub applied : Scope → Head → List Const → Outcome
applied s (x.Apply sign) vs = with_one vs (signed sign)
applied s x.Negation vs = with_one vs negated
applied s (x.Both operator) vs = with_two vs (operated operator)
applied s (x.Attribute name) vs = with_one vs (attribute name)
applied s x.Index vs = with_two vs (indexed s)
applied s x.Slice vs = with_three vs sliced
applied s x.SliceFrom vs = with_two vs sliced_from
applied s (x.Resize maker) vs = with_two vs (resized_by (lookup s.names maker))
applied s x.Whole vs = Err E2NotElaborable
applied s x.TupleOf vs = Ok (c.Tuple vs)
applied s x.ListOf vs = Err E10KindClash
applied s (x.Call keys) vs = with_one vs (λ f. call_step s (out-Const f) (form_of keys) (drop 1 vs))
applied s (x.Method name keys) vs = with_one vs (method name keys)

-- the truth of a value, as a value
abbrev pub truth_value : Const → Outcome
truth_value v = after (truth v) (λ b. Ok (c.Truth b))

-- `and` and `or`: a right side that isn't needed isn't evaluated
abbrev pub conjunction : Outcome → Outcome → Outcome
conjunction a b = after a (λ v. after (truth v) (λ t. if t then after b truth_value else Ok (c.Truth false)))

abbrev pub disjunction : Outcome → Outcome → Outcome
disjunction a b = after a (λ v. after (truth v) (λ t. if t then Ok (c.Truth true) else after b truth_value))

-- an operator between two outcomes, of which the second may not be needed
abbrev pub between : Operator → Outcome → Outcome → Outcome
between op.Or a b = disjunction a b
between op.And a b = conjunction a b
between other a b = after a (λ v. after b (λ w. operated other v w))

-- a call at the values of its parts: of a method, or of a value
abbrev pub called_at : Scope → Option (List ℕ × Exs) → Keys → List Const → Outcome
called_at s (Some a) keys vs = applied s (x.Method a.0 keys) vs
called_at s None keys vs = applied s (x.Call keys) vs

-- `base[upper:]` at the values of its parts, where the base is a call by a name or not
abbrev pub sliced_at : Scope → Option (List ℕ) → List Const → Outcome
sliced_at s (Some maker) vs = applied s (x.Resize maker) vs
sliced_at s None vs = applied s x.SliceFrom vs

abbrev pub slice_parts : Scope → Option (List ℕ) → Bool → List Const → Outcome
slice_parts s maker true vs = applied s x.Slice vs
slice_parts s maker false vs = sliced_at s maker vs

-- the outermost operation of an expression at the values of its evaluated parts
abbrev pub operate : Scope → Ex → List Const → Outcome
operate s (x.Op h xs) vs = applied s h vs
operate s (x.And a b) vs = conjunction (part vs 0) (part vs 1)
operate s (x.Or a b) vs = disjunction (part vs 0) (part vs 1)
operate s e vs = Err E10KindClash

-- a list and a method's call are no constant expressions
abbrev pub is_valued : Head → Bool
is_valued x.ListOf = false
is_valued (x.Method name keys) = false
is_valued h = true

abbrev pub name_value : Scope → List ℕ → Outcome
name_value s t = given (lookup s.names t) E1UnknownName

abbrev mutual
  pub value : Scope → Ex → Outcome
  value s (x.Number n) = Ok (c.Int n)
  value s (x.Str bytes) = Ok (c.Str bytes)
  value s (x.Truth b) = Ok (c.Truth b)
  value s x.Nothing = Ok c.None
  value s (x.Name t) = name_value s t
  value s (x.And a b) = conjunction (value s a) (value s b)
  value s (x.Or a b) = disjunction (value s a) (value s b)
  value s (x.Op h xs) = if is_valued h then after (values s xs) (applied s h) else Err E10KindClash
  value s (x.Collect item t over) = Err E10KindClash

  pub values : Scope → Exs → Result (List Const) Code
  values s x.NoMore = Ok []
  values s (x.More e es) = after (value s e) (λ v. after (values s es) (λ vs. Ok (v ∷ vs)))

-- ---- plain expressions

abbrev pub is_plain_builtin : Builtin → Bool
is_plain_builtin builtin.Range = true
is_plain_builtin builtin.Downrange = true
is_plain_builtin builtin.Len = true
is_plain_builtin builtin.Int = true
is_plain_builtin builtin.Bool = true
is_plain_builtin builtin.Intbv = true
is_plain_builtin builtin.Modbv = true
is_plain_builtin b = false

abbrev pub is_plain_step : Const-F Const → Bool
is_plain_step (Const-F.Builtin b) = is_plain_builtin b
is_plain_step v = false

-- a name that is bound to such a function
abbrev pub names_plain : Option Const → Bool
names_plain None = false
names_plain (Some v) = is_plain_step (out-Const v)

abbrev pub plain_name : Scope → Option (List ℕ) → Bool
plain_name s None = false
plain_name s (Some t) = names_plain (lookup s.names t)

-- it makes no list, and each call in it is one of `range`, `downrange`, `len`, `int`, `bool`, `intbv`
-- and `modbv`, by a name that is bound to it
abbrev pub is_plain_head : Scope → Head → Exs → Bool
is_plain_head s x.ListOf xs = false
is_plain_head s (x.Call keys) xs = plain_name s (x.maker_in xs)
is_plain_head s (x.Method name keys) xs = false
is_plain_head s h xs = true

abbrev mutual
  pub is_plain : Scope → Ex → Bool
  is_plain s (x.Number n) = true
  is_plain s (x.Str bytes) = true
  is_plain s (x.Truth b) = true
  is_plain s x.Nothing = true
  is_plain s (x.Name t) = true
  is_plain s (x.And a b) = is_plain s a && is_plain s b
  is_plain s (x.Or a b) = is_plain s a && is_plain s b
  is_plain s (x.Op h xs) = is_plain_head s h xs && are_plain s xs
  is_plain s (x.Collect item t over) = false

  pub are_plain : Scope → Exs → Bool
  are_plain s x.NoMore = true
  are_plain s (x.More e es) = is_plain s e && are_plain s es
