-- What a function under `@block` returns, and what `instances()` finds. What exactly that is, is this
-- project's own rule.
use Rattle.std.specs.Prelude.{ℕ, Bool, true, false, ◌&&◌, List, [], ◌∷◌, ◌++◌, filter, length, Option, Some, None, Result, Ok, Err, if◌then◌else◌, nat_eq, slice_get}
use Rattle.std.specs.List.{list_any, list_all}
use Rattle.std.specs.Option.{option_map_or}
use Rattle.mh_text.specs.declared.code.Code.TheVariants.{E3BadArguments, E6BadReturn}
use Rattle.mh_consts.specs.declared.kinds.Const.{Const, out-Const}
use Rattle.mh_consts.specs.declared.kinds.Const.TheOpen.{Const-F}
use Rattle.mh_consts.specs.declared.kinds.Const.TheVariants as c
use Rattle.mh_consts.specs.Expression.{Keys}
use Rattle.mh_world.specs.World.{World, Bindings, Run, pure, refuse, change, changed, look, given, ◌>>=◌, ◌>>◌}
use Rattle.mh_world.specs.Seen.{here, names_of}
use Rattle.mh_world.specs.Named.{items_in, items_of}
use Rattle.mh_world.specs.declared.kinds.Instance.{Instance}
use Rattle.mh_world.specs.Lists.{new_list}

-- ---- instances and generators

abbrev pub is_part_step : Const-F Const → Bool
is_part_step (Const-F.Instance n) = true
is_part_step (Const-F.Generator n) = true
is_part_step v = false

abbrev pub is_part : Const → Bool
is_part v = is_part_step (out-Const v)

abbrev pub same_step : Const-F Const → Const-F Const → Bool
same_step (Const-F.Instance n) (Const-F.Instance m) = nat_eq n m
same_step (Const-F.Generator n) (Const-F.Generator m) = nat_eq n m
same_step v u = false

abbrev pub is_met : List Const → Const → Bool
is_met vs v = list_any (λ u. same_step (out-Const v) (out-Const u)) vs

-- each once, at its first place
abbrev pub once_onto : List Const → List Const → List Const
once_onto vs [] = vs
once_onto vs (u ∷ us) = once_onto (if is_met vs u then vs else vs ++ u ∷ []) us

abbrev pub once : List Const → List Const
once us = once_onto [] us

-- ---- what a block returns: an instance, a generator, or a tuple or list of these

abbrev pub are_parts : List Const → Bool
are_parts vs = list_all is_part vs

abbrev pub all_parts : List Const → Option (List Const)
all_parts vs = if are_parts vs then Some (once vs) else None

abbrev pub parts_step : World → Const → Const-F Const → Option (List Const)
parts_step w v (Const-F.Instance n) = Some (v ∷ [])
parts_step w v (Const-F.Generator n) = Some (v ∷ [])
parts_step w v (Const-F.Tuple vs) = all_parts vs
parts_step w v (Const-F.List n) = all_parts (items_in w n)
parts_step w v u = None

abbrev pub parts_of : Const → World → Option (List Const)
parts_of v w = parts_step w v (out-Const v)

abbrev pub put_parts : List Const → Instance → Instance
put_parts vs x = record x { parts = vs }

abbrev pub with_parts : ℕ → List Const → World → World
with_parts i vs w = record w { instances = changed (put_parts vs) w.instances i }

-- the instance of this number has returned this, by the statement at the line
abbrev pub instance : ℕ → ℕ → Const → Run Const
instance l i v = do
  vs ← look (parts_of v)
  given vs E6BadReturn l (λ vs. change (with_parts i vs) >> pure (c.Instance i))

-- ---- `instances()`: what is bound to a name of the function, or stands in a list or tuple that is, in
-- order of first binding

abbrev pub bound_in : List (List Const) → Const → Const-F Const → List Const
bound_in ls v (Const-F.Instance n) = v ∷ []
bound_in ls v (Const-F.Generator n) = v ∷ []
bound_in ls v (Const-F.Tuple vs) = filter is_part vs
bound_in ls v (Const-F.List n) = filter is_part (items_of (slice_get ls n))
bound_in ls v u = []

abbrev pub bound_parts : List (List Const) → Bindings → List Const
bound_parts ls [] = []
bound_parts ls (b ∷ bs) = bound_in ls b.1 (out-Const b.1) ++ bound_parts ls bs

abbrev pub instances_here : World → List Const
instances_here w = once (bound_parts w.lists (names_of (here w)))

abbrev pub find_instances : ℕ → Keys → Run Const
find_instances l [] = do
  vs ← look instances_here
  new_list l vs
find_instances l keys = refuse E3BadArguments l
