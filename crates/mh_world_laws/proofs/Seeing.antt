-- What the names and lists of a world that fits hold is of its design.
use Rattle.std.proofs.Common.{◌≡◌, ℕ, zero, suc, ◌-◌, Bool, true, false, ◌&&◌, List, [], ◌∷◌, length, Option, Some, None, Result, Ok, Err, refl, ap, sym, ◌∙◌, if◌then◌else◌, bytes_eq, slice_get}
use Rattle.std.specs.Prelude.{nat_lt}
use Rattle.std.specs.List.{list_all}
use Rattle.std.proofs.lemmas.Bool.{and_parts, and_from}
use Rattle.mh_text.specs.declared.code.Code.TheVariants.{E1UnknownName, E7ElabLimit}
use Rattle.mh_consts.specs.declared.kinds.Builtin.{Builtin}
use Rattle.mh_consts.specs.declared.kinds.Builtin.TheVariants as builtin
use Rattle.mh_consts.specs.declared.kinds.Const.{Const}
use Rattle.mh_consts.specs.declared.kinds.Const.TheVariants as c
use Rattle.mh_consts.specs.Names.{lookup}
use Rattle.mh_consts.specs.Outcome as outcome
use Rattle.mh_consts.proofs.Values.{out-builtin, out-signal, out-list, out-delay, out-enumtype, out-function, out-instance, out-generator}
use Rattle.mh_design.specs.declared.design.Design.{Design}
use Rattle.mh_design.specs.WellFormed.{is_name, kind_fits, is_value, reset_fits, signal_fits, generator_fits}
use Rattle.mh_lower_laws.specs.Holds.{is_of, is_signal, has_its_cells, Holds}
use Rattle.mh_lower_laws.proofs.Basics.{all_at, all_then}
use Rattle.mh_lower_laws.proofs.OfDesign.{step_of, is_of-out}
use Rattle.mh_lower_laws.proofs.ScopeValues.{of_none, of_int, of_truth, of_str}
use Rattle.mh_world.specs.declared.kinds.Frame.{Frame}
use Rattle.mh_world.specs.World.{World, Bindings, Broken, at_line, begins, counted, module_frame, always_bound, no_design}
use Rattle.mh_world.specs.Seen.{here, inner_of, names_of, own_or, last_in, find_at, find_from, find, name, known_as, known_onto, scope_of}
use Rattle.mh_world.specs.Lists.{is_fixed}
use Rattle.mh_world_laws.specs.Fits.{Fits, hold, is_of_if_any, frame_fits, is_kept}
use Rattle.mh_world_laws.specs.Laws.{Kept, Anything, IsOf, Plain}
use Rattle.mh_world_laws.proofs.Keeping.{Gives, still}
use Rattle.mh_world_laws.proofs.Designs.{later_self}
use Rattle.mh_world_laws.proofs.Binding.{bind_holds}
use Rattle.mh_world_laws.proofs.Worlds.{with_plain}

-- ---- values of each design

module _ (d : Design) where
  pub of_builtin : (b : Builtin) → is_of d (c.Builtin b) ≡ true
  of_builtin b = is_of-out d (c.Builtin b) ∙ ap (step_of d) (out-builtin b)

  pub of_list : (n : ℕ) → is_of d (c.List n) ≡ true
  of_list n = is_of-out d (c.List n) ∙ ap (step_of d) (out-list n)

  pub of_function : (n : ℕ) → is_of d (c.Function n) ≡ true
  of_function n = is_of-out d (c.Function n) ∙ ap (step_of d) (out-function n)

  pub of_instance : (n : ℕ) → is_of d (c.Instance n) ≡ true
  of_instance n = is_of-out d (c.Instance n) ∙ ap (step_of d) (out-instance n)

  pub of_generator : (n : ℕ) → is_of d (c.Generator n) ≡ true
  of_generator n = is_of-out d (c.Generator n) ∙ ap (step_of d) (out-generator n)

  pub of_enum : (n : ℕ) (ts : List (List ℕ)) → is_of d (c.EnumType n ts) ≡ true
  of_enum n ts = is_of-out d (c.EnumType n ts) ∙ ap (step_of d) (out-enumtype n ts)

  pub plain_are : Plain d
  plain_are = record { none = of_none d; int = of_int d; truth = of_truth d; str = of_str d; builtin = of_builtin }

  -- ---- look-ups

  if_of : (b : Bool) (v : Const) (o : Option Const) → is_of d v ≡ true → is_of_if_any d o ≡ true → is_of_if_any d (if b then Some v else o) ≡ true
  if_of true v o h k = h
  if_of false v o h k = k

  pub lookup_of : (bs : Bindings) (t : List ℕ) → hold d bs ≡ true → is_of_if_any d (lookup bs t) ≡ true
  lookup_of [] t h = refl
  lookup_of (b ∷ bs) t h = let a = and_parts (is_of d b.1) (hold d bs) h in if_of (bytes_eq t b.0) b.1 (lookup bs t) a.0 (lookup_of bs t a.1)

  last_of : (bs : Bindings) (t : List ℕ) (o : Option Const) → hold d bs ≡ true → is_of_if_any d o ≡ true → is_of_if_any d (last_in bs t o) ≡ true
  last_of [] t o h k = k
  last_of (b ∷ bs) t o h k = let a = and_parts (is_of d b.1) (hold d bs) h in last_of bs t (if bytes_eq t b.0 then Some b.1 else o) a.1 (if_of (bytes_eq t b.0) b.1 o a.0 k)

  own_of : (a b : Option Const) → is_of_if_any d a ≡ true → is_of_if_any d b ≡ true → is_of_if_any d (own_or a b) ≡ true
  own_of (Some v) b h k = h
  own_of None b h k = k

  at_of : (around : Option ℕ → Option Const) (t : List ℕ) (o : Option Frame) → ((p : Option ℕ) → is_of_if_any d (around p) ≡ true) → ((f : Frame) → o ≡ Some f → frame_fits d f ≡ true) → is_of_if_any d (find_at around t o) ≡ true
  at_of around t None k h = refl
  at_of around t (Some f) k h = own_of (lookup f.names t) (around f.parent) (lookup_of f.names t (and_parts (hold d f.names) (hold d f.inner) (h f refl)).0) (k f.parent)

  from_of : (n : ℕ) (fs : List Frame) (t : List ℕ) (o : Option ℕ) → list_all (frame_fits d) fs ≡ true → is_of_if_any d (find_from n fs t o) ≡ true
  from_of zero fs t o h = refl
  from_of (suc n) fs t None h = refl
  from_of (suc n) fs t (Some i) h = at_of (find_from n fs t) t (slice_get fs i) (λ p. from_of n fs t p h) (λ f e. all_at (frame_fits d) fs i f h e)

  inner_hold : (o : Option Frame) → ((f : Frame) → o ≡ Some f → frame_fits d f ≡ true) → hold d (inner_of o) ≡ true
  inner_hold None k = refl
  inner_hold (Some f) k = (and_parts (hold d f.names) (hold d f.inner) (k f refl)).1

  pub names_hold : (o : Option Frame) → ((f : Frame) → o ≡ Some f → frame_fits d f ≡ true) → hold d (names_of o) ≡ true
  names_hold None k = refl
  names_hold (Some f) k = (and_parts (hold d f.names) (hold d f.inner) (k f refl)).0

  known_holds : (bs : Bindings) (t : List ℕ) (o : Option Const) → hold d bs ≡ true → is_of_if_any d o ≡ true → hold d (known_as bs t o) ≡ true
  known_holds bs t None h k = h
  known_holds bs t (Some v) h k = bind_holds d bs t v h k

module _ (w : World) (h : Fits w) where
  pub here_fits : (f : Frame) → here w ≡ Some f → frame_fits w.design f ≡ true
  here_fits f e = all_at (frame_fits w.design) w.frames w.current f h.frames e

  pub find_of : (t : List ℕ) → is_of_if_any w.design (find w t) ≡ true
  find_of t =
      own_of w.design (last_in (inner_of (here w)) t None) (find_from (length w.frames) w.frames t (Some w.current))
      (last_of w.design (inner_of (here w)) t None (inner_hold w.design (here w) here_fits) refl) (from_of w.design (length w.frames) w.frames t (Some w.current) h.frames)

  name_by : (l : ℕ) (o : Option Const) → is_of_if_any w.design o ≡ true → Gives IsOf w (at_line l w (outcome.given o E1UnknownName))
  name_by l None q = tt
  name_by l (Some v) q = still IsOf w v h q

  pub name_keeps : (l : ℕ) (t : List ℕ) → Gives IsOf w (name l t w)
  name_keeps l t = name_by l (find w t) (find_of t)

  -- ---- scopes

  onto_holds : (ts : List (List ℕ)) (bs : Bindings) → hold w.design bs ≡ true → hold w.design (known_onto w bs ts) ≡ true
  onto_holds [] bs k = k
  onto_holds (t ∷ ts) bs k = onto_holds ts (known_as bs t (find w t)) (known_holds w.design bs t (find w t) k (find_of t))

  pub scope_holds : (ts : List (List ℕ)) → Holds (scope_of w ts) w.design
  scope_holds ts = record {
    names = onto_holds ts [] refl;
    lists = h.lists;
    signals = all_then (signal_fits w.design) (λ x. kind_fits w.design x.kind) w.design.signals
        (λ x q. (and_parts (is_name x.path) (kind_fits w.design x.kind) (and_parts (is_name x.path && kind_fits w.design x.kind) (is_value w.design x.kind x.init && reset_fits x) q).0).1) h.signals;
    mems = h.mems;
    tables = h.tables;
    generators = ap (list_all (generator_fits w.design)) h.none;
    cells = all_then (is_kept w) (has_its_cells (scope_of w ts)) w.design.mems (λ m q. (and_parts (is_fixed w m.list) (has_its_cells (scope_of w ts) m) q).1) h.cells;
  }

-- ---- the beginning, and counting

bound_hold : (d : Design) → hold d always_bound ≡ true
bound_hold d =
    and_from (is_of d (c.Builtin builtin.Range)) _ (of_builtin d builtin.Range)
    (and_from (is_of d (c.Builtin builtin.Len)) _ (of_builtin d builtin.Len)
    (and_from (is_of d (c.Builtin builtin.Int)) _ (of_builtin d builtin.Int)
    (and_from (is_of d (c.Builtin builtin.Bool)) _ (of_builtin d builtin.Bool)
    (and_from (is_of d (c.Builtin builtin.Print)) _ (of_builtin d builtin.Print)
    (and_from _ true (of_str d _) refl)))))

pub begins_fits : (limit : ℕ) → Fits (begins limit)
begins_fits limit = record {
  frames = and_from (frame_fits no_design module_frame) true (and_from (hold no_design always_bound) true (bound_hold no_design) refl) refl;
  lists = refl;
  tuples = refl;
  instances = refl;
  functions = λ n f e. absurd (cc);
  labels = refl;
  notes = refl;
  all_signals = refl;
  all_lists = refl;
  enums = refl;
  signals = refl;
  mems = refl;
  tables = refl;
  cells = refl;
  none = refl;
  generators = λ n g e. absurd (cc);
}

counted_by : (l : ℕ) (b : Bool) (n : ℕ) (w : World) → Fits w → Gives {A = Unit {0}} Anything w (if b then Ok (tt, record w { left = n }) else Err (E7ElabLimit, l))
counted_by l true n w h = record { fits = with_plain w h w.known w.requests n; later = later_self w.design; value = tt }
counted_by l false n w h = tt

pub counted_keeps : (l : ℕ) (w : World) → Fits w → Gives {A = Unit {0}} Anything w (counted l w)
counted_keeps l w h = counted_by l (nat_lt 0 w.left) (w.left - 1) w h
