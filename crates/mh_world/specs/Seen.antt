-- Which names are seen: those of the call, then those of the function in which it was defined, and so
-- on out to the module (Python's rule). A name of an outer function is seen until the inner one binds
-- its own.
use Rattle.std.specs.Prelude.{ℕ, zero, suc, Bool, true, false, List, [], ◌∷◌, length, Option, Some, None, Result, Ok, Err, if◌then◌else◌, bytes_eq, slice_get, nat_eq, is_some}
use Rattle.mh_text.specs.declared.code.Code.{Code}
use Rattle.mh_text.specs.declared.code.Code.TheVariants.{E1UnknownName}
use Rattle.mh_consts.specs.declared.kinds.Const.{Const}
use Rattle.mh_consts.specs.declared.scope.Scope.{Scope}
use Rattle.mh_consts.specs.Names.{lookup, bind}
use Rattle.mh_consts.specs.Outcome as outcome
use Rattle.mh_world.specs.World.{World, Bindings, Run, seeing}
use Rattle.mh_world.specs.declared.kinds.Frame.{Frame}

abbrev pub names_of : Option Frame → Bindings
names_of None = []
names_of (Some f) = f.names

abbrev pub inner_of : Option Frame → Bindings
inner_of None = []
inner_of (Some f) = f.inner

abbrev pub inside_of : Option Frame → Option ℕ
inside_of None = None
inside_of (Some f) = f.inside

abbrev pub frozen_of : Option Frame → List (List ℕ × Bool)
frozen_of None = []
frozen_of (Some f) = f.frozen

abbrev pub here : World → Option Frame
here w = slice_get w.frames w.current

-- the first of two that is there
abbrev pub own_or : Option Const → Option Const → Option Const
own_or (Some v) o = Some v
own_or None o = o

-- the last of these that has the name
abbrev pub last_in : Bindings → List ℕ → Option Const → Option Const
last_in [] t o = o
last_in (b ∷ bs) t o = last_in bs t (if bytes_eq t b.0 then Some b.1 else o)

-- in a frame, and else what the frames around it give
abbrev pub find_at : (Option ℕ → Option Const) → List ℕ → Option Frame → Option Const
find_at around t None = None
find_at around t (Some f) = own_or (lookup f.names t) (around f.parent)

-- in a frame, and then in those from its parent out, of which there are at most n
abbrev pub find_from : ℕ → List Frame → List ℕ → Option ℕ → Option Const
find_from zero fs t o = None
find_from (suc n) fs t None = None
find_from (suc n) fs t (Some i) = find_at (find_from n fs t) t (slice_get fs i)

-- the variables of lists with `for` come first
abbrev pub find : World → List ℕ → Option Const
find w t = own_or (last_in (inner_of (here w)) t None) (find_from (length w.frames) w.frames t (Some w.current))

abbrev pub name_in : List ℕ → World → Result Const Code
name_in t w = outcome.given (find w t) E1UnknownName

-- the value of a name
abbrev pub name : ℕ → List ℕ → Run Const
name l t = seeing l (name_in t)

-- ---- what an operation or a definition may speak of: these names, where they are bound, and all lists

abbrev pub known_as : Bindings → List ℕ → Option Const → Bindings
known_as bs t None = bs
known_as bs t (Some v) = bind bs t v

abbrev pub known_onto : World → Bindings → List (List ℕ) → Bindings
known_onto w bs [] = bs
known_onto w bs (t ∷ ts) = known_onto w (known_as bs t (find w t)) ts

abbrev pub scope_of : World → List (List ℕ) → Scope
scope_of w ts = record { names = known_onto w [] ts; lists = w.lists }

-- ---- the instance whose block is being executed

abbrev pub inside : World → Option ℕ
inside w = inside_of (here w)

-- a generator has read this name, so that it isn't bound again
abbrev pub is_frozen : World → List ℕ → Bool
is_frozen w t = is_some (lookup (frozen_of (here w)) t)

-- the module itself is being executed, and no function
abbrev pub is_module : World → Bool
is_module w = nat_eq w.current 0
