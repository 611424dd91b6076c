-- The value of an operator and of a call step by step: for proofs alone.
use Rattle.std.specs.Prelude.{ℕ, Bool, true, false, List, [], ◌∷◌, ◌++◌, Option, Some, None, Result, Ok, Err, is_some, if◌then◌else◌}
use Rattle.mh_pytree.specs.declared.expression.Operator.{Operator}
use Rattle.mh_pytree.specs.declared.expression.Operator.TheVariants as op
use Rattle.mh_text.specs.declared.code.Code.{Code}
use Rattle.mh_text.specs.declared.code.Code.TheVariants.{E10KindClash}
use Rattle.mh_consts.specs.declared.kinds.Const.{Const}
use Rattle.mh_consts.specs.declared.kinds.Const.TheVariants as c
use Rattle.mh_consts.specs.declared.scope.Scope.{Scope}
use Rattle.mh_consts.specs.Expression as h
use Rattle.mh_consts.specs.Expression.{Ex, Exs, Keys, Head}
use Rattle.mh_consts.specs.Outcome.{Outcome, after}
use Rattle.mh_consts.specs.Numbers.{truth}
use Rattle.mh_consts.specs.Constant.{value, values, between, called_at, operate}

-- what an operator gives where its left side decides it alone
abbrev pub left_of : Operator → Const → Result (Option Const) Code
left_of op.And v = after (truth v) (λ t. Ok (if t then None else Some (c.Truth false)))
left_of op.Or v = after (truth v) (λ t. Ok (if t then Some (c.Truth true) else None))
left_of other v = Ok None

abbrev pub left_side : Operator → Outcome → Result (Option Const) Code
left_side o x = after x (left_of o)

abbrev pub decided : Option Const → Outcome → Outcome
decided (Some v) r = Ok v
decided None r = r

-- an operator in two steps: what its left side decides, and what both give
abbrev pub in_steps : Operator → Outcome → Outcome → Outcome
in_steps o x y = after x (λ v. after (left_side o (Ok v)) (λ d. decided d (after y (λ w. between o (Ok v) (Ok w)))))

-- these values, and then those that are still to come
abbrev pub onto : List Const → Result (List Const) Code → Result (List Const) Code
onto vs (Ok ws) = Ok (vs ++ ws)
onto vs (Err code) = Err code

-- a call: a method's is no constant expression
abbrev pub call_value : Scope → Option (List ℕ × Exs) → Ex → Keys → Exs → Outcome
call_value s m f keys args = if is_some m then Err E10KindClash else after (value s f) (λ v. after (onto (v ∷ []) (values s args)) (called_at s m keys))

-- an operation whose parts are all evaluated, and which is no call and no operator between two
abbrev pub is_whole : Head → Bool
is_whole (h.Both op) = false
is_whole h.ListOf = false
is_whole (h.Call keys) = false
is_whole (h.Method name keys) = false
is_whole head = true

abbrev pub all_parts : Ex → Option Exs
all_parts (h.Op head xs) = if is_whole head then Some xs else None
all_parts e = None

abbrev pub parts_values : Scope → Option Exs → Result (List Const) Code
parts_values s None = Err E10KindClash
parts_values s (Some xs) = values s xs

abbrev pub operation : Scope → Ex → Outcome
operation s e = after (parts_values s (all_parts e)) (operate s e)
