-- Lists, and what a loop goes over (Python's rules; which errors come is this project's own).
use Rattle.std.specs.Prelude.{ℕ, ℤ, pos, negsuc, ◌+◌, ◌+ℤ◌, ◌*ℤ◌, Bool, true, false, List, [], ◌∷◌, ◌++◌, length, Option, Some, None, Result, Ok, Err, if◌then◌else◌, int_lt, slice_get, slice_set}
use Rattle.std.specs.Option.{option_map_or}
use Rattle.mh_text.specs.declared.code.Code.{Code}
use Rattle.mh_text.specs.declared.code.Code.TheVariants.{E2NotElaborable, E10KindClash}
use Rattle.mh_consts.specs.declared.kinds.Const.{Const, out-Const}
use Rattle.mh_consts.specs.declared.kinds.Const.TheOpen.{Const-F}
use Rattle.mh_consts.specs.declared.kinds.Const.TheVariants as c
use Rattle.mh_consts.specs.Outcome as outcome
use Rattle.mh_consts.specs.Places.{place, indexed_step}
use Rattle.mh_world.specs.World.{World, Run, pure, refuse, seeing, change, ◌>>=◌, ◌>>◌}
use Rattle.mh_world.specs.Seen.{scope_of}
use Rattle.mh_world.specs.declared.kinds.Label.{Label}
use Rattle.mh_world.specs.declared.kinds.ListNote.{ListNote}
use Rattle.mh_world.specs.Named.{element, label, label_of_list}

-- ---- a list is made

abbrev pub new_note : ℕ → ListNote
new_note l = record { line = l; label = None; frozen = false }

abbrev pub add_list : ℕ → List Const → World → World
add_list l vs w = record w { lists = w.lists ++ vs ∷ []; marks = record w.marks { lists = w.marks.lists ++ new_note l ∷ [] } }

abbrev pub new_list : ℕ → List Const → Run Const
new_list l vs w = Ok (c.List (length w.lists), add_list l vs w)

-- ---- a list is changed

abbrev pub is_fixed : World → ℕ → Bool
is_fixed w n = option_map_or (λ x. x.frozen) (slice_get w.marks.lists n) false

-- an element that gets into a list that has a name
abbrev pub label_in : Option Label → ℕ → Const → World → World
label_in None i v w = w
label_in (Some p) i v w = label (element p i) v w

abbrev pub with_items : ℕ → List Const → World → World
with_items n vs w = record w { lists = slice_set w.lists n vs }

-- a list that a generator has read isn't changed
abbrev pub change_list : ℕ → ℕ → (World → World) → Run (Unit {0})
change_list l n f w = (if is_fixed w n then refuse E2NotElaborable l else change f) w

abbrev pub pushed : ℕ → Const → List Const → World → World
pushed n v vs w = label_in (label_of_list w.marks n) (length vs) v (with_items n (vs ++ v ∷ []) w)

abbrev pub list_items : ℕ → World → Result (List Const) Code
list_items n w = outcome.given (slice_get w.lists n) E10KindClash

-- `list.append(v)`
abbrev pub append : ℕ → ℕ → Const → Run Const
append l n v = do
  vs ← seeing l (list_items n)
  change_list l n (pushed n v vs)
  pure c.None

abbrev pub put_item : ℕ → ℕ → Const → List Const → World → World
put_item n i v vs w = label_in (label_of_list w.marks n) i v (with_items n (slice_set vs i v) w)

-- `list[place] = v`, where only lists take one
abbrev pub set_step : ℕ → Const-F Const → Const → Const → Run (Unit {0})
set_step l (Const-F.List n) at v = do
  vs ← seeing l (list_items n)
  i ← seeing l (λ w. place (length vs) at)
  change_list l n (put_item n i v vs)
set_step l base at v = refuse E2NotElaborable l

abbrev pub set_item : ℕ → Const → Const → Const → Run (Unit {0})
set_item l base at v = set_step l (out-Const base) at v

-- `base[place]`
abbrev pub get_item : ℕ → Const → Const → Run Const
get_item l base at = seeing l (λ w. indexed_step (scope_of w []) (out-Const base) at)

-- ---- what a loop goes over: the item at a place, or none

-- from + i * step, where it stands before to
abbrev pub number_before : ℤ → ℤ → ℤ → Option Const
number_before n to step =
    if (if int_lt (pos 0) step then int_lt n to else int_lt to n) then Some (c.Int n) else None

abbrev pub range_item : ℤ → ℤ → ℤ → ℕ → Option Const
range_item from to step i = number_before (from +ℤ pos i *ℤ step) to step

abbrev pub item_step : ℕ → Const-F Const → ℕ → World → Result (Option Const) Code
item_step l (Const-F.Range from to step) i w = Ok (range_item from to step i)
item_step l (Const-F.Tuple vs) i w = Ok (slice_get vs i)
item_step l (Const-F.List n) i w = outcome.after (list_items n w) (λ vs. Ok (slice_get vs i))
item_step l v i w = Err E2NotElaborable

-- a list is gone over by place, and its length is looked at before each turn
abbrev pub item : ℕ → Const → ℕ → Run (Option Const)
item l v i = seeing l (item_step l (out-Const v) i)

-- ---- a tuple or a list whose items several names take

abbrev pub items_step : World → Const-F Const → Result (List Const) Code
items_step w (Const-F.Tuple vs) = Ok vs
items_step w (Const-F.List n) = list_items n w
items_step w v = Err E2NotElaborable

abbrev pub items_of : Const → World → Result (List Const) Code
items_of v w = items_step w (out-Const v)
