-- Reading a generator keeps a world that fits.
use Rattle.std.proofs.Common.{◌≡◌, ℕ, zero, suc, Bool, true, false, ◌&&◌, List, [], ◌∷◌, ◌++◌, length, drop, Option, Some, None, refl, ap, ap₂, sym, subst, ◌∙◌, append-nil, if◌then◌else◌, is_some, slice_get}
use Rattle.std.specs.Prelude.{slice_set, nat_eq, nat_lt}
use Rattle.std.specs.List.{list_all}
use Rattle.std.specs.Option.{option_map, option_map_or}
use Rattle.std.proofs.lemmas.Bool.{and_parts, and_from}
use Rattle.std.proofs.lemmas.List.Folds.{list_all-append}
use Rattle.mh_consts.specs.declared.kinds.Const.{Const}
use Rattle.mh_consts.specs.Names.{lookup}
use Rattle.mh_design.specs.declared.design.Design.{Design}
use Rattle.mh_design.specs.declared.design.MemDecl.{MemDecl}
use Rattle.mh_design.specs.WellFormed.{enum_fits, signal_fits}
use Rattle.mh_lower_laws.specs.Holds.{has_its_cells, Holds, Extends}
use Rattle.mh_lower_laws.proofs.Basics.{if_there, there_if, all_at, all_then, all_both}
use Rattle.mh_lower_laws.proofs.StatementGrowth.{found}
use Rattle.mh_world.specs.declared.kinds.Frame.{Frame}
use Rattle.mh_world.specs.declared.kinds.ListNote.{ListNote}
use Rattle.mh_world.specs.declared.kinds.Marks.{Marks}
use Rattle.mh_world.specs.World.{World, Made, put_at, changed}
use Rattle.mh_world.specs.Seen.{find, scope_of}
use Rattle.mh_world.specs.Lists.{is_fixed}
use Rattle.mh_world.specs.Frozen.{with_frozen, freeze_at, freeze_from, fix_note, list_held, fix_list, freeze_one, freeze, fix_lists, freeze_mems}
use Rattle.mh_world_laws.specs.Fits.{Fits, Later, MadeFits, made_fits, hold, frame_fits, note_fits, is_kept}
use Rattle.mh_world_laws.specs.Laws.{Kept, Anything}
use Rattle.mh_world_laws.proofs.Lists.{both_then, all_set, all_changed, length_changed, kept_changed, at_end}
use Rattle.mh_world_laws.proofs.Designs.{later_self, signal_stays, made_stays}
use Rattle.mh_world_laws.proofs.Keeping.{still, kept_on}
use Rattle.mh_world_laws.proofs.Marking.{is_fixed_in, Marked, marked_self, marked_on}
use Rattle.mh_world_laws.proofs.Worlds.{with_frames, with_marks, with_generators, Declares, with_design}

-- ---- lists that aren't changed any more

fixed_marked : (k : Marks) (n : ℕ) → Marked k (fix_list k (Some n))
fixed_marked k n = record {
  signals = λ h. h;
  lists = λ h. all_changed note_fits fix_note k.lists n (λ x r. r) h;
  count_signals = refl;
  count_lists = length_changed fix_note k.lists n;
  fixed = λ m h. kept_changed (λ (x : ListNote). x.frozen) fix_note k.lists n m (λ x r. refl) h;
}

fix_marked : (k : Marks) (o : Option ℕ) → Marked k (fix_list k o)
fix_marked k None = marked_self k
fix_marked k (Some n) = fixed_marked k n

fixes_marked : (k : Marks) (ms : List MemDecl) → Marked k (fix_lists k ms)
fixes_marked k [] = marked_self k
fixes_marked k (m ∷ ms) = marked_on k (fix_list k (Some m.list)) (fix_lists (fix_list k (Some m.list)) ms) (fixed_marked k m.list) (fixes_marked (fix_list k (Some m.list)) ms)

get_same : {X : Type 0} (xs : List X) (n : ℕ) (x y : X) → slice_get xs n ≡ Some x → slice_get (slice_set xs n y) n ≡ Some y
get_same [] n x y e = absurd (cc)
get_same (z ∷ xs) zero x y e = refl
get_same (z ∷ xs) (suc n) x y e = get_same xs n x y e

fixed_by : (xs : List ListNote) (n : ℕ) (o : Option ListNote) (x : ListNote) → slice_get xs n ≡ o → o ≡ Some x → is_fixed_in (put_at xs n (option_map fix_note o)) n ≡ true
fixed_by xs n (Some y) x e q = ap (λ p. option_map_or (λ (z : ListNote). z.frozen) p false) (get_same xs n y (fix_note y) e)
fixed_by xs n None x e q = absurd (cc)

fixed_here : (xs : List ListNote) (n : ℕ) → nat_lt n (length xs) ≡ true → is_fixed_in (changed fix_note xs n) n ≡ true
fixed_here xs n h = let x = there_if xs n h in fixed_by xs n (slice_get xs n) x.0 refl x.1

all_fixed : (ms : List MemDecl) (k : Marks) → list_all (λ (m : MemDecl). nat_lt m.list (length k.lists)) ms ≡ true → list_all (λ (m : MemDecl). is_fixed_in (fix_lists k ms).lists m.list) ms ≡ true
all_fixed [] k h = refl
all_fixed (m ∷ ms) k h =
    let a = and_parts (nat_lt m.list (length k.lists)) (list_all (λ (x : MemDecl). nat_lt x.list (length k.lists)) ms) h in
    let g = fixed_marked k m.list in
    and_from (is_fixed_in (fix_lists (fix_list k (Some m.list)) ms).lists m.list) (list_all (λ (x : MemDecl). is_fixed_in (fix_lists (fix_list k (Some m.list)) ms).lists x.list) ms)
    ((fixes_marked (fix_list k (Some m.list)) ms).fixed m.list (fixed_here k.lists m.list a.0))
    (all_fixed ms (fix_list k (Some m.list)) (all_then (λ (x : MemDecl). nat_lt x.list (length k.lists)) (λ (x : MemDecl). nat_lt x.list (length (fix_list k (Some m.list)).lists)) ms (λ x r. ap (nat_lt x.list) g.count_lists ∙ r) a.1))

-- ---- names that were read

at_frozen : (d : Design) (around : Option ℕ → List Frame → List Frame) (t : List ℕ) (i : ℕ) (o : Option Frame) (fs : List Frame) → ((p : Option ℕ) (gs : List Frame) → list_all (frame_fits d) gs ≡ true → list_all (frame_fits d) (around p gs) ≡ true) →
    slice_get fs i ≡ o → list_all (frame_fits d) fs ≡ true → list_all (frame_fits d) (freeze_at around t i o fs) ≡ true
at_frozen d around t i None fs k e h = h
at_frozen d around t i (Some f) fs k e h = by_test (is_some (lookup f.names t)) (all_set (frame_fits d) fs i (with_frozen t f) h (all_at (frame_fits d) fs i f h e))
  where
    by_test : (b : Bool) → list_all (frame_fits d) (slice_set fs i (with_frozen t f)) ≡ true → list_all (frame_fits d) (if b then slice_set fs i (with_frozen t f) else around f.parent (slice_set fs i (with_frozen t f))) ≡ true
    by_test true q = q
    by_test false q = k f.parent (slice_set fs i (with_frozen t f)) q

from_frozen : (d : Design) (n : ℕ) (t : List ℕ) (o : Option ℕ) (fs : List Frame) → list_all (frame_fits d) fs ≡ true → list_all (frame_fits d) (freeze_from n t o fs) ≡ true
from_frozen d zero t o fs h = h
from_frozen d (suc n) t None fs h = h
from_frozen d (suc n) t (Some i) fs h = at_frozen d (freeze_from n t) t i (slice_get fs i) fs (λ p gs q. from_frozen d n t p gs q) refl h

one_frozen : (t : List ℕ) (w : World) → Fits w → Fits (freeze_one t w)
one_frozen t w h =
    with_marks (record w { frames = freeze_from (length w.frames) t (Some w.current) w.frames })
    (with_frames w h (freeze_from (length w.frames) t (Some w.current) w.frames) w.current (from_frozen w.design (length w.frames) t (Some w.current) w.frames h.frames))
    (fix_list w.marks (list_held (find w t))) (fix_marked w.marks (list_held (find w t)))

pub freeze_keeps : (ts : List (List ℕ)) (w : World) → Fits w → Kept {A = Unit {0}} Anything w tt (freeze ts w)
freeze_keeps [] w h = still Anything w tt h tt
freeze_keeps (t ∷ ts) w h =
    let k = freeze_keeps ts (freeze_one t w) (one_frozen t w h) in
    record { fits = k.fits; later = k.later; value = tt }

-- ---- a generator

drop_all : {X : Type 0} (xs ys : List X) → drop (length xs) (xs ++ ys) ≡ ys
drop_all [] ys = refl
drop_all (x ∷ xs) ys = drop_all xs ys

module _ (w : World) (h : Fits w) (ts : List (List ℕ)) (e : Design) (x : Extends w.design e) (s : Holds (scope_of w ts) e) where
  extends_later : Later w.design e
  extends_later = record {
    signals = [];
    enums = [];
    mems = x.mems;
    tables = x.tables;
    same = x.same ∙ ap₂ (λ ss es. record w.design { signals = ss; enums = es; mems = w.design.mems ++ x.mems; tables = w.design.tables ++ x.tables }) (sym (append-nil w.design.signals)) (sym (append-nil w.design.enums));
  }

  new_mems : drop (length w.design.mems) e.mems ≡ x.mems
  new_mems = ap (λ (z : Design). drop (length w.design.mems) z.mems) x.same ∙ drop_all w.design.mems x.mems

  new_cells : list_all (has_its_cells (scope_of w ts)) x.mems ≡ true
  new_cells =
      (and_parts (list_all (has_its_cells (scope_of w ts)) w.design.mems) (list_all (has_its_cells (scope_of w ts)) x.mems)
      (sym (list_all-append (has_its_cells (scope_of w ts)) w.design.mems x.mems) ∙ sym (ap (λ (z : Design). list_all (has_its_cells (scope_of w ts)) z.mems) x.same) ∙ s.cells)).1

  list_is_there : (m : MemDecl) → has_its_cells (scope_of w ts) m ≡ true → nat_lt m.list (length w.marks.lists) ≡ true
  list_is_there m q =
      let f = found (λ (vs : List Const). nat_eq (length m.cells) (length vs)) (slice_get w.lists m.list) q in
      ap (nat_lt m.list) h.all_lists ∙ if_there w.lists m.list f.0 f.1

  new_fixed : list_all (λ (m : MemDecl). is_fixed_in (fix_lists w.marks x.mems).lists m.list) x.mems ≡ true
  new_fixed = all_fixed x.mems w.marks (all_then (has_its_cells (scope_of w ts)) (λ (m : MemDecl). nat_lt m.list (length w.marks.lists)) x.mems list_is_there new_cells)

  abbrev fixed_world : World
  fixed_world = record w { marks = fix_lists w.marks x.mems }

  both_all : {X : Type 0} (p q : X → Bool) (xs : List X) → list_all p xs ≡ true → list_all q xs ≡ true → list_all (λ y. p y && q y) xs ≡ true
  both_all p q [] f g = refl
  both_all p q (y ∷ ys) f g =
      let a = and_parts (p y) (list_all p ys) f in
      let b = and_parts (q y) (list_all q ys) g in
      and_from (p y && q y) (list_all (λ z. p z && q z) ys) (and_from (p y) (q y) a.0 b.0) (both_all p q ys a.1 b.1)

  fixed_fits : Fits fixed_world
  fixed_fits = with_marks w h (fix_lists w.marks x.mems) (fixes_marked w.marks x.mems)

  abbrev read_world : World
  read_world = record fixed_world { design = e; marks = record fixed_world.marks { signals = fixed_world.marks.signals } }

  read_cells : list_all (is_kept read_world) e.mems ≡ true
  read_cells =
      ap (λ (z : Design). list_all (is_kept read_world) z.mems) x.same
      ∙ all_both (is_kept read_world) w.design.mems x.mems fixed_fits.cells
      (both_all (λ (m : MemDecl). is_fixed_in (fix_lists w.marks x.mems).lists m.list) (has_its_cells (scope_of w ts)) x.mems new_fixed new_cells)

  declares : Declares read_world
  declares = record {
    all_signals = fixed_fits.all_signals ∙ sym (ap (λ (z : Design). length z.signals) x.same);
    enums = ap (λ (z : Design). list_all enum_fits z.enums) x.same ∙ h.enums;
    signals = ap (λ (z : Design). list_all (signal_fits e) z.signals) x.same ∙ all_then (signal_fits w.design) (signal_fits e) w.design.signals (signal_stays w.design e extends_later) h.signals;
    mems = s.mems;
    tables = s.tables;
    cells = read_cells;
    none = ap (λ (z : Design). z.generators) x.same ∙ h.none;
  }

  read_fits : Fits read_world
  read_fits = with_design fixed_world fixed_fits e fixed_world.marks.signals extends_later fixed_fits.labels declares

  pub read_keeps : (g : Made) → made_fits e g ≡ true → Kept {A = Unit {0}} Anything w tt (freeze_mems (length w.design.mems) (record w { design = e; generators = w.generators ++ g ∷ [] }))
  read_keeps g m =
      let fits : Fits (record read_world { generators = w.generators ++ g ∷ [] }) =
      with_generators read_world read_fits (w.generators ++ g ∷ []) (at_end (MadeFits e) w.generators g (λ n y q. made_stays w.design e extends_later y (h.generators n y q)) (record { before = e; later = later_self e; fits = m })) in
      record { fits = subst (λ (ms : List MemDecl). Fits (record w { design = e; generators = w.generators ++ g ∷ []; marks = fix_lists w.marks ms })) (sym new_mems) fits; later = extends_later; value = tt }
