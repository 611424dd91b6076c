-- The names of a design's things (this project's own rule). A port has the name of its parameter, the
-- first one where it has several. Any other signal, list or tuple has the first name that leads to it,
-- after the names of the instances from the top down to the block that bound it, joined by `_`. Where
-- that block isn't executed within the top's, nothing stands before it. A generator is named in the same
-- way. The name of an instance is the first name bound to it, or else that of its block.
use Rattle.std.specs.Prelude.{ℕ, ℤ, zero, suc, ◌+◌, Bool, true, false, ◌&&◌, List, [], ◌∷◌, ◌++◌, length, Option, Some, None, if◌then◌else◌, nat_eq, slice_get, option_and_then}
use Rattle.std.specs.Option.{option_map, option_map_or}
use Rattle.std.specs.Ordering.{int_eq}
use Rattle.mh_consts.specs.declared.kinds.Const.{Const, out-Const}
use Rattle.mh_consts.specs.declared.kinds.Const.TheOpen.{Const-F}
use Rattle.mh_world.specs.World.{World, Bindings, Made}
use Rattle.mh_world.specs.declared.kinds.Instance.{Instance}
use Rattle.mh_world.specs.declared.kinds.Label.{Label}

abbrev pub or_block : List ℕ → Option (List ℕ) → List ℕ
or_block t None = t
or_block t (Some u) = u

abbrev pub instance_name : Instance → List ℕ
instance_name x = or_block x.name x.called

-- ---- the instances from the top down to one

abbrev pub outer_of : Option Instance → Option ℕ
outer_of None = None
outer_of (Some x) = x.outer

abbrev pub name_at : Option Instance → List ℕ
name_at None = []
name_at (Some x) = instance_name x

abbrev pub with_name : List ℕ → Option (List (List ℕ)) → Option (List (List ℕ))
with_name t ts = option_map (λ us. us ++ t ∷ []) ts

-- nothing where the top isn't among those that this one was made in, of which there are at most n
abbrev pub names_from : ℕ → List Instance → ℕ → Option ℕ → Option (List (List ℕ))
names_from zero is top o = None
names_from (suc n) is top None = None
names_from (suc n) is top (Some i) =
    if nat_eq i top then Some [] else with_name (name_at (slice_get is i)) (names_from n is top (outer_of (slice_get is i)))

abbrev pub names_before : World → ℕ → Option ℕ → List (List ℕ)
names_before w top o = option_map_or (λ ts. ts) (names_from (length w.instances + 1) w.instances top o) []

abbrev pub joined : List (List ℕ) → List ℕ → List ℕ
joined [] t = t
joined (u ∷ us) t = u ++ 95 ∷ joined us t

-- the names, each with `_` behind it
abbrev pub words_before : Option (List (List ℕ)) → List ℕ
words_before ts = joined (option_map_or (λ us. us) ts []) []

abbrev pub path : World → ℕ → Label → List ℕ
path w top p = joined (names_before w top p.inside) p.words

-- what no name leads to has the empty path
abbrev pub path_of : World → ℕ → Option Label → List ℕ
path_of w top None = []
path_of w top (Some p) = path w top p

-- ---- ports: the signals among the arguments of the top

abbrev pub signal_step : Const-F Const → Option ℕ
signal_step (Const-F.Signal n k) = Some n
signal_step v = None

abbrev pub signal_in : Const → Option ℕ
signal_in v = signal_step (out-Const v)

abbrev pub port_onto : Option ℕ → List ℕ → List ℕ
port_onto None ns = ns
port_onto (Some n) ns = n ∷ ns

abbrev pub ports_in : Bindings → List ℕ
ports_in [] = []
ports_in (b ∷ bs) = port_onto (signal_in b.1) (ports_in bs)

abbrev pub is_it : ℕ → Option ℕ → Bool
is_it n None = false
is_it n (Some m) = nat_eq n m

-- the first parameter whose argument is this signal
abbrev pub port_name : Bindings → ℕ → Option (List ℕ)
port_name [] n = None
port_name (b ∷ bs) n = if is_it n (signal_in b.1) then Some b.0 else port_name bs n

abbrev pub or_path : Option (List ℕ) → List ℕ → List ℕ
or_path (Some t) p = t
or_path None p = p

abbrev pub no_label : Option (Option Label) → Option Label
no_label None = None
no_label (Some p) = p

abbrev pub signal_path : World → ℕ → Bindings → ℕ → List ℕ
signal_path w top arguments n = or_path (port_name arguments n) (path_of w top (no_label (slice_get w.marks.signals n)))

-- ---- lists and tuples

abbrev pub list_path : World → ℕ → ℕ → List ℕ
list_path w top n = path_of w top (option_and_then (λ x. x.label) (slice_get w.marks.lists n))

abbrev pub is_integer : ℤ → Const-F Const → Bool
is_integer z (Const-F.Int n) = int_eq n z
is_integer z v = false

-- these items are these integers
abbrev pub are_these : List ℤ → List Const → Bool
are_these [] [] = true
are_these (z ∷ zs) (v ∷ vs) = is_integer z (out-Const v) && are_these zs vs
are_these zs vs = false

-- the first name that was bound to a tuple of these integers
abbrev pub tuple_label : List (List Const × Label) → List ℤ → Option Label
tuple_label [] zs = None
tuple_label (t ∷ ts) zs = if are_these zs t.0 then Some t.1 else tuple_label ts zs

abbrev pub table_path : World → ℕ → List ℤ → List ℕ
table_path w top zs = path_of w top (tuple_label w.tuples zs)

abbrev pub generator_path : World → ℕ → Made → List ℕ
generator_path w top g = joined (names_before w top g.inside) g.name
