-- How the arguments of a call are given (Python's rules): those by position come first, then those by
-- name, each name once.
use Rattle.std.specs.Prelude.{ℕ, suc, Bool, true, false, ◌&&◌, List, [], ◌∷◌, ◌++◌, Option, Some, None, if◌then◌else◌, is_some, option_and_then, slice_get, drop}
use Rattle.std.specs.Option.{option_map}
use Rattle.std.specs.List.{list_all}
use Rattle.mh_consts.specs.declared.kinds.Const.{Const}
use Rattle.mh_consts.specs.Expression.{Keys}
use Rattle.mh_consts.specs.Names.{lookup, bind}
use Rattle.mh_world.specs.World.{Bindings}

pub record Arguments : Type 0 where
  pub positional : List Const
  pub named : Bindings

-- one by name more, whose name was not met yet
abbrev pub named_more : Bindings → Option (List ℕ) → Const → Option Bindings
named_more bs None v = None
named_more bs (Some t) v = if is_some (lookup bs t) then None else Some (bind bs t v)

-- all of them by name, after those that were met
abbrev pub named_onto : Bindings → Keys → List Const → Option Bindings
named_onto bs [] [] = Some bs
named_onto bs (k ∷ ks) (v ∷ vs) = option_and_then (λ more. named_onto more ks vs) (named_more bs k v)
named_onto bs ks vs = None

abbrev pub only_named : Bindings → Arguments
only_named bs = record { positional = []; named = bs }

abbrev pub with_positional : Const → Arguments → Arguments
with_positional v a = record a { positional = v ∷ a.positional }

-- nothing where one by position stands after one by name, or a name comes twice
abbrev pub split : Keys → List Const → Option Arguments
split (None ∷ ks) (v ∷ vs) = option_map (with_positional v) (split ks vs)
split ks vs = option_map only_named (named_onto [] ks vs)

-- how many come before the first one by name
abbrev pub count_positional : Keys → ℕ
count_positional (None ∷ ks) = suc (count_positional ks)
count_positional ks = 0

-- ---- one argument, by position

abbrev pub only : List Const → Option Const
only (v ∷ []) = Some v
only vs = None

abbrev pub one_positional : Keys → List Const → Option Const
one_positional (None ∷ []) vs = only vs
one_positional keys vs = None

-- ---- what each parameter gets: the argument at its place, or of its name, or else its default value

-- a parameter: its name, and its default value if it has one
abbrev pub Formal : Type 0
Formal = List ℕ × Option Const

abbrev pub or_default : Option Const → Option Const → Option Const
or_default (Some v) d = Some v
or_default None d = d

abbrev pub named_or_default : Formal → Bindings → Option Const
named_or_default p named = or_default (lookup named p.0) p.1

-- an argument at the place of a parameter isn't given by its name too
abbrev pub value_of_parameter : Formal → Option Const → Bindings → Option Const
value_of_parameter p None named = named_or_default p named
value_of_parameter p (Some v) named = if is_some (lookup named p.0) then None else Some v

-- no argument by position is left
abbrev pub none_left : List Const → Bindings → Option Bindings
none_left [] bs = Some bs
none_left (v ∷ vs) bs = None

-- after the values of the parameters before these
abbrev pub filled_onto : Bindings → List Formal → List Const → Bindings → Option Bindings
filled_onto bs [] vs named = none_left vs bs
filled_onto bs (p ∷ ps) vs named =
    option_and_then (λ v. filled_onto (bs ++ (p.0, v) ∷ []) ps (drop 1 vs) named) (value_of_parameter p (slice_get vs 0) named)

abbrev pub names_onto : List (List ℕ × Bool) → List Formal → List (List ℕ × Bool)
names_onto known [] = known
names_onto known (p ∷ ps) = names_onto (bind known p.0 true) ps

abbrev pub all_known : List (List ℕ × Bool) → Bindings → Bool
all_known known named = list_all (λ b. is_some (lookup known b.0)) named

-- each name is that of a parameter
abbrev pub all_parameters : List Formal → Bindings → Bool
all_parameters ps named = all_known (names_onto [] ps) named

abbrev pub fit : List Formal → Arguments → Option Bindings
fit ps a = if all_parameters ps a.named then filled_onto [] ps a.positional a.named else None

-- the value of each parameter, in their order; nothing where the arguments don't fit
abbrev pub matched : List Formal → Keys → List Const → Option Bindings
matched ps keys vs = option_and_then (fit ps) (split keys vs)
