-- What is left to do where elements of lists are still to be labelled, the innermost list last.
use Rattle.std.specs.Prelude.{ℕ, ◌+◌, ◌*◌, ◌^◌, List, [], ◌∷◌, length}
use Rattle.mh_consts.specs.declared.kinds.Const.{Const}
use Rattle.mh_world.specs.Named.{label_items, label_through}
use Rattle.mh_world.specs.declared.kinds.Marks.{Marks}
use Rattle.mh_world.specs.declared.marks.Rest.{Rest}

-- what labelling these elements makes of the labels
abbrev pub rest : List (List Const) → Rest → Marks → Marks
rest ls f k = label_items (label_through ls f.depth) f.label f.place f.elements.now k

-- the last of these is done first
abbrev pub all_rest : List (List Const) → List Rest → Marks → Marks
all_rest ls [] k = k
all_rest ls (f ∷ fs) k = rest ls f (all_rest ls fs k)

-- how many elements there are in all lists
abbrev pub total : List (List Const) → ℕ
total [] = 0
total (vs ∷ ls) = length vs + total ls

-- more than there are elements of any list
abbrev pub base : List (List Const) → ℕ
base ls = total ls + 2

-- more steps than labelling these elements takes
abbrev pub work : List (List Const) → Rest → ℕ
work ls f = length f.elements.now * base ls ^ f.depth + 1

-- more steps than labelling all of these takes
abbrev pub all_work : List (List Const) → List Rest → ℕ
all_work ls [] = 0
all_work ls (f ∷ fs) = work ls f + all_work ls fs
