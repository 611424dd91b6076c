-- What binding a name does. The first name that leads to a signal, a list or a tuple names it in the
-- design: of an element of a list that is the name of the list, `_`, and the element's place. Whichever
-- comes first counts, whether the name is bound to the element or it gets into a list that has a name.
-- The first name that is bound to an instance names it; standing in a list doesn't. This is this
-- project's own.
use Rattle.std.specs.Prelude.{ℕ, zero, suc, pos, ◌+◌, Bool, true, false, List, [], ◌∷◌, ◌++◌, length, Option, Some, None, if◌then◌else◌, slice_get, slice_set}
use Rattle.std.specs.Option.{option_map}
use Rattle.mh_text.specs.Decimal.{decimal_text}
use Rattle.mh_text.specs.declared.code.Code.TheVariants.{E2NotElaborable}
use Rattle.mh_consts.specs.declared.kinds.Const.{Const, out-Const}
use Rattle.mh_consts.specs.declared.kinds.Const.TheOpen.{Const-F}
use Rattle.mh_consts.specs.Names.{bind}
use Rattle.mh_world.specs.World.{World, Bindings, Run, refuse, change, changed}
use Rattle.mh_world.specs.declared.kinds.Frame.{Frame}
use Rattle.mh_world.specs.declared.kinds.Instance.{Instance}
use Rattle.mh_world.specs.declared.kinds.Label.{Label}
use Rattle.mh_world.specs.declared.kinds.ListNote.{ListNote}
use Rattle.mh_world.specs.declared.kinds.Marks.{Marks}
use Rattle.mh_world.specs.Seen.{inside, is_frozen, is_module}

-- ---- labels

-- `words_i`
abbrev pub element : Label → ℕ → Label
element p i = record p { words = p.words ++ 95 ∷ decimal_text (pos i) }

-- a signal that has a label keeps it
abbrev pub label_signal_at : Label → ℕ → Option (Option Label) → Marks → Marks
label_signal_at p n (Some None) k = record k { signals = slice_set k.signals n (Some p) }
label_signal_at p n (Some (Some q)) k = k
label_signal_at p n None k = k

abbrev pub label_signal : Label → ℕ → Marks → Marks
label_signal p n k = label_signal_at p n (slice_get k.signals n) k

abbrev pub label_of : Option ListNote → Option Label
label_of None = None
label_of (Some x) = x.label

abbrev pub label_of_list : Marks → ℕ → Option Label
label_of_list k n = label_of (slice_get k.lists n)

abbrev pub put_label : Label → ListNote → ListNote
put_label p x = record x { label = Some p }

abbrev pub with_label : Label → ℕ → Marks → Marks
with_label p n k = record k { lists = changed (put_label p) k.lists n }

abbrev pub items_of : Option (List Const) → List Const
items_of None = []
items_of (Some vs) = vs

abbrev pub items_in : World → ℕ → List Const
items_in w n = items_of (slice_get w.lists n)

-- what labels a value
abbrev pub Labelling : Type 0
Labelling = Label → Const → Marks → Marks

-- the elements from place i on
abbrev pub label_items : Labelling → Label → ℕ → List Const → Marks → Marks
label_items f p i [] k = k
label_items f p i (v ∷ vs) k = label_items f p (i + 1) vs (f (element p i) v k)

-- a list that has a label is left as it is, since all that it leads to has one
abbrev pub label_list : Labelling → List Const → Option Label → Label → ℕ → Marks → Marks
label_list f vs (Some q) p n k = k
label_list f vs None p n k = label_items f p 0 vs (with_label p n k)

abbrev pub label_step : List (List Const) → Labelling → Label → Const-F Const → Marks → Marks
label_step ls f p (Const-F.Signal n kind) k = label_signal p n k
label_step ls f p (Const-F.List n) k = label_list f (items_of (slice_get ls n)) (label_of_list k n) p n k
label_step ls f p v k = k

-- what a value leads to, through at most n lists
abbrev pub label_through : List (List Const) → ℕ → Labelling
label_through ls zero p v k = k
label_through ls (suc n) p v k = label_step ls (label_through ls n) p (out-Const v) k

-- each list is gone into once
abbrev pub labelled : List (List Const) → Label → Const → Marks → Marks
labelled ls p v k = label_through ls (length ls + 1) p v k

abbrev pub label : Label → Const → World → World
label p v w = record w { marks = labelled w.lists p v w.marks }

-- ---- a name is bound

abbrev pub with_first_name : List ℕ → Instance → Instance
with_first_name t x = record x { called = Some t }

abbrev pub called_at : List ℕ → ℕ → Option (Option (List ℕ)) → World → World
called_at t n (Some None) w = record w { instances = changed (with_first_name t) w.instances n }
called_at t n (Some (Some u)) w = w
called_at t n None w = w

-- the first name stays
abbrev pub called : List ℕ → ℕ → World → World
called t n w = called_at t n (option_map (λ x. x.called) (slice_get w.instances n)) w

-- a function that the module binds may be called
abbrev pub known : ℕ → World → World
known n w = if is_module w then record w { known = changed (λ b. true) w.known n } else w

abbrev pub noted : Label → Const-F Const → World → World
noted p (Const-F.Tuple vs) w = record w { tuples = w.tuples ++ (vs, p) ∷ [] }
noted p (Const-F.Instance n) w = called p.words n w
noted p (Const-F.Function n) w = known n w
noted p v w = w

abbrev pub label_here : World → List ℕ → Label
label_here w t = record { words = t; inside = inside w }

abbrev pub with_name : List ℕ → Const → Frame → Frame
with_name t v f = record f { names = bind f.names t v }

abbrev pub put_name : List ℕ → Const → World → World
put_name t v w = record w { frames = changed (with_name t v) w.frames w.current }

abbrev pub binds : List ℕ → Const → World → World
binds t v w = noted (label_here w t) (out-Const v) (label (label_here w t) v (put_name t v w))

-- a name that a generator has read isn't bound again
abbrev pub bind_name : ℕ → List ℕ → Const → Run (Unit {0})
bind_name l t v w = (if is_frozen w t then refuse E2NotElaborable l else change (binds t v)) w

-- ---- the variable of a list with `for` is seen while an item is made

abbrev pub without_last : Bindings → Bindings
without_last [] = []
without_last (b ∷ []) = []
without_last (b ∷ c ∷ bs) = b ∷ without_last (c ∷ bs)

abbrev pub with_inner : List ℕ → Const → Frame → Frame
with_inner t v f = record f { inner = f.inner ++ (t, v) ∷ [] }

abbrev pub push_inner : List ℕ → Const → World → World
push_inner t v w = record w { frames = changed (with_inner t v) w.frames w.current }

abbrev pub without_inner : Frame → Frame
without_inner f = record f { inner = without_last f.inner }

abbrev pub pop_inner : World → World
pop_inner w = record w { frames = changed without_inner w.frames w.current }
