-- A name that a generator has read from outside isn't bound again later, and a list that it is bound to
-- isn't changed, nor is that of a memory.
use Rattle.std.specs.Prelude.{ℕ, zero, suc, Bool, true, List, [], ◌∷◌, length, Option, Some, None, if◌then◌else◌, is_some, slice_get, slice_set, drop}
use Rattle.mh_consts.specs.declared.kinds.Const.{Const, out-Const}
use Rattle.mh_consts.specs.declared.kinds.Const.TheOpen.{Const-F}
use Rattle.mh_consts.specs.Names.{lookup, bind}
use Rattle.mh_design.specs.declared.design.MemDecl.{MemDecl}
use Rattle.mh_world.specs.World.{World, changed}
use Rattle.mh_world.specs.declared.kinds.Frame.{Frame}
use Rattle.mh_world.specs.declared.kinds.ListNote.{ListNote}
use Rattle.mh_world.specs.declared.kinds.Marks.{Marks}
use Rattle.mh_world.specs.Seen.{find}

abbrev pub with_frozen : List ℕ → Frame → Frame
with_frozen t f = record f { frozen = bind f.frozen t true }

abbrev pub freeze_at : (Option ℕ → List Frame → List Frame) → List ℕ → ℕ → Option Frame → List Frame → List Frame
freeze_at around t i None fs = fs
freeze_at around t i (Some f) fs =
    if is_some (lookup f.names t) then slice_set fs i (with_frozen t f) else around f.parent (slice_set fs i (with_frozen t f))

-- in each frame from the innermost out to the one that binds it, of which there are at most n, since a
-- binding in any of these would change what the generator reads
abbrev pub freeze_from : ℕ → List ℕ → Option ℕ → List Frame → List Frame
freeze_from zero t o fs = fs
freeze_from (suc n) t None fs = fs
freeze_from (suc n) t (Some i) fs = freeze_at (freeze_from n t) t i (slice_get fs i) fs

abbrev pub fix_note : ListNote → ListNote
fix_note x = record x { frozen = true }

-- the list that a value is
abbrev pub list_step : Const-F Const → Option ℕ
list_step (Const-F.List n) = Some n
list_step v = None

abbrev pub list_held : Option Const → Option ℕ
list_held None = None
list_held (Some v) = list_step (out-Const v)

abbrev pub fix_list : Marks → Option ℕ → Marks
fix_list k None = k
fix_list k (Some n) = record k { lists = changed fix_note k.lists n }

abbrev pub freeze_one : List ℕ → World → World
freeze_one t w = record w { frames = freeze_from (length w.frames) t (Some w.current) w.frames; marks = fix_list w.marks (list_held (find w t)) }

abbrev pub freeze : List (List ℕ) → World → World
freeze [] w = w
freeze (t ∷ ts) w = freeze ts (freeze_one t w)

-- ---- a memory has as many elements as its list had, so that its list isn't changed either

abbrev pub fix_lists : Marks → List MemDecl → Marks
fix_lists k [] = k
fix_lists k (m ∷ ms) = fix_lists (fix_list k (Some m.list)) ms

-- the lists of the memories from the number n on
abbrev pub freeze_mems : ℕ → World → World
freeze_mems n w = record w { marks = fix_lists w.marks (drop n w.design.mems) }
