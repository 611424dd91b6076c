-- Binding a name keeps a world that fits.
use Rattle.std.proofs.Common.{◌≡◌, ℕ, Bool, true, false, ◌&&◌, List, [], ◌∷◌, ◌++◌, Option, Some, None, Result, Ok, Err, refl, ap, sym, ◌∙◌, if◌then◌else◌, bytes_eq, slice_get}
use Rattle.std.specs.List.{list_all}
use Rattle.std.specs.Option.{option_map}
use Rattle.std.proofs.lemmas.Bool.{and_parts, and_from}
use Rattle.mh_text.specs.declared.code.Code.TheVariants.{E2NotElaborable}
use Rattle.mh_consts.specs.declared.kinds.Const.{Const, out-Const}
use Rattle.mh_consts.specs.declared.kinds.Const.TheOpen.{Const-F}
use Rattle.mh_consts.specs.Names.{bind}
use Rattle.mh_design.specs.declared.design.Design.{Design}
use Rattle.mh_design.specs.WellFormed.{is_name}
use Rattle.mh_lower_laws.specs.Holds.{is_of}
use Rattle.mh_lower_laws.proofs.OfDesign.{step_of}
use Rattle.mh_lower_laws.proofs.ScopeValues.{opened}
use Rattle.mh_world.specs.declared.kinds.Frame.{Frame}
use Rattle.mh_world.specs.declared.kinds.Instance.{Instance}
use Rattle.mh_world.specs.declared.kinds.Label.{Label}
use Rattle.mh_world.specs.World.{World, Bindings, refuse, change, changed}
use Rattle.mh_world.specs.Seen.{is_frozen, is_module}
use Rattle.mh_world.specs.Named.{labelled, label, with_first_name, called_at, called, known, noted, label_here, with_name, put_name, binds, bind_name, without_last, with_inner, push_inner, without_inner, pop_inner}
use Rattle.mh_world_laws.specs.Fits.{Fits, are_of, hold, arguments_fit, has_name, frame_fits, tuple_fits, instance_fits}
use Rattle.mh_world_laws.specs.Laws.{Kept, Anything, IsOf}
use Rattle.mh_world_laws.proofs.Lists.{both_then, all_changed, all_end}
use Rattle.mh_world_laws.proofs.Keeping.{Gives, still, kept_on, if_tested}
use Rattle.mh_world_laws.proofs.Marking.{labelled_marks}
use Rattle.mh_world_laws.proofs.Worlds.{with_frames, with_tuples, with_instances, with_plain, with_marks}
use Rattle.mh_world_laws.proofs.Designs.{later_self}

-- ---- names of a frame

hold_if : (d : Design) (b : Bool) (xs ys : Bindings) → hold d xs ≡ true → hold d ys ≡ true → hold d (if b then xs else ys) ≡ true
hold_if d true xs ys h k = h
hold_if d false xs ys h k = k

pub bind_holds : (d : Design) (bs : Bindings) (t : List ℕ) (v : Const) → hold d bs ≡ true → is_of d v ≡ true → hold d (bind bs t v) ≡ true
bind_holds d [] t v h q = and_from (is_of d v) true q refl
bind_holds d (b ∷ bs) t v h q =
    let a = and_parts (is_of d b.1) (hold d bs) h in
    hold_if d (bytes_eq t b.0) ((b.0, v) ∷ bs) (b ∷ bind bs t v) (and_from (is_of d v) (hold d bs) q a.1) (and_from (is_of d b.1) (hold d (bind bs t v)) a.0 (bind_holds d bs t v a.1 q))

frame_named : (d : Design) (t : List ℕ) (v : Const) → is_of d v ≡ true → (f : Frame) → frame_fits d f ≡ true → frame_fits d (with_name t v f) ≡ true
frame_named d t v q f h = both_then (hold d f.names) (hold d f.inner) (hold d (bind f.names t v)) (hold d f.inner) (λ r. bind_holds d f.names t v r q) (λ r. r) h

put_fits : (t : List ℕ) (v : Const) (w : World) → Fits w → is_of w.design v ≡ true → Fits (put_name t v w)
put_fits t v w h q = with_frames w h (changed (with_name t v) w.frames w.current) w.current (all_changed (frame_fits w.design) (with_name t v) w.frames w.current (frame_named w.design t v q) h.frames)

-- ---- labels

pub label_fits_world : (p : Label) (v : Const) (w : World) → Fits w → is_name p.words ≡ true → Fits (label p v w)
label_fits_world p v w h q = with_marks w h (labelled w.lists p v w.marks) (labelled_marks w.lists p v w.marks q)

-- ---- what a value that is bound is

first_named : (d : Design) (t : List ℕ) → is_name t ≡ true → (x : Instance) → instance_fits d x ≡ true → instance_fits d (with_first_name t x) ≡ true
first_named d t n x h =
    both_then (is_name x.name && has_name x.called) (arguments_fit d x.arguments && are_of d x.parts) (is_name x.name && is_name t) (arguments_fit d x.arguments && are_of d x.parts)
    (λ q. and_from (is_name x.name) (is_name t) (and_parts (is_name x.name) (has_name x.called) q).0 n) (λ q. q) h

called_by : (t : List ℕ) (n : ℕ) (o : Option (Option (List ℕ))) (w : World) → Fits w → is_name t ≡ true → Kept {A = Unit {0}} Anything w tt (called_at t n o w)
called_by t n (Some None) w h q =
    record { fits = with_instances w h (changed (with_first_name t) w.instances n) (all_changed (instance_fits w.design) (with_first_name t) w.instances n (first_named w.design t q) h.instances); later = later_self w.design; value = tt }
called_by t n (Some (Some u)) w h q = still Anything w tt h tt
called_by t n None w h q = still Anything w tt h tt

known_by : (n : ℕ) (b : Bool) (w : World) → Fits w → Kept {A = Unit {0}} Anything w tt (if b then record w { known = changed (λ b. true) w.known n } else w)
known_by n true w h = record { fits = with_plain w h (changed (λ b. true) w.known n) w.requests w.left; later = later_self w.design; value = tt }
known_by n false w h = still Anything w tt h tt

noted_keeps : (p : Label) (x : Const-F Const) (w : World) → Fits w → is_name p.words ≡ true → step_of w.design x ≡ true → Kept {A = Unit {0}} Anything w tt (noted p x w)
noted_keeps p (Const-F.Tuple vs) w h q r =
    record { fits = with_tuples w h (w.tuples ++ (vs, p) ∷ []) (all_end (tuple_fits w.design) w.tuples (vs, p) h.tuples (and_from (are_of w.design vs) (is_name p.words) r q)); later = later_self w.design; value = tt }
noted_keeps p (Const-F.Instance n) w h q r = called_by p.words n (option_map (λ x. x.called) (slice_get w.instances n)) w h q
noted_keeps p (Const-F.Function n) w h q r = known_by n (is_module w) w h
noted_keeps p Const-F.None w h q r = still Anything w tt h tt
noted_keeps p (Const-F.Int n) w h q r = still Anything w tt h tt
noted_keeps p (Const-F.Truth b) w h q r = still Anything w tt h tt
noted_keeps p (Const-F.Str t) w h q r = still Anything w tt h tt
noted_keeps p (Const-F.Delay n) w h q r = still Anything w tt h tt
noted_keeps p (Const-F.EnumType n names) w h q r = still Anything w tt h tt
noted_keeps p (Const-F.Item n place) w h q r = still Anything w tt h tt
noted_keeps p (Const-F.Bounded v b) w h q r = still Anything w tt h tt
noted_keeps p (Const-F.Signal n k) w h q r = still Anything w tt h tt
noted_keeps p (Const-F.Edge n rising) w h q r = still Anything w tt h tt
noted_keeps p (Const-F.Range a b step) w h q r = still Anything w tt h tt
noted_keeps p (Const-F.List n) w h q r = still Anything w tt h tt
noted_keeps p (Const-F.Generator n) w h q r = still Anything w tt h tt
noted_keeps p (Const-F.Builtin b) w h q r = still Anything w tt h tt

-- ---- a name is bound

pub binds_keep : (t : List ℕ) (v : Const) (w : World) → Fits w → is_name t ≡ true → is_of w.design v ≡ true → Kept {A = Unit {0}} Anything w tt (binds t v w)
binds_keep t v w h n q =
    let k = noted_keeps (label_here w t) (out-Const v) (label (label_here w t) v (put_name t v w)) (label_fits_world (label_here w t) v (put_name t v w) (put_fits t v w h q) n) n (opened w.design v q) in
    record { fits = k.fits; later = k.later; value = tt }

pub bind_keeps : (l : ℕ) (t : List ℕ) (v : Const) → is_name t ≡ true → (w : World) → Fits w → is_of w.design v ≡ true → Gives Anything w (bind_name l t v w)
bind_keeps l t v n w h q = if_tested Anything w (is_frozen w t) (refuse E2NotElaborable l) (change (binds t v)) (λ e. tt) (λ e. binds_keep t v w h n q)

-- ---- variables of lists with `for`

frame_pushed : (d : Design) (t : List ℕ) (v : Const) → is_of d v ≡ true → (f : Frame) → frame_fits d f ≡ true → frame_fits d (with_inner t v f) ≡ true
frame_pushed d t v q f h = both_then (hold d f.names) (hold d f.inner) (hold d f.names) (hold d (f.inner ++ (t, v) ∷ [])) (λ r. r) (λ r. all_end (λ (b : List ℕ × Const). is_of d b.1) f.inner (t, v) r q) h

pub push_keeps : (t : List ℕ) (v : Const) (w : World) → Fits w → is_of w.design v ≡ true → Kept {A = Unit {0}} Anything w tt (push_inner t v w)
push_keeps t v w h q =
    record { fits = with_frames w h (changed (with_inner t v) w.frames w.current) w.current (all_changed (frame_fits w.design) (with_inner t v) w.frames w.current (frame_pushed w.design t v q) h.frames); later = later_self w.design; value = tt }

without_last_holds : (d : Design) (bs : Bindings) → hold d bs ≡ true → hold d (without_last bs) ≡ true
without_last_holds d [] h = refl
without_last_holds d (b ∷ []) h = refl
without_last_holds d (b ∷ c ∷ bs) h = let a = and_parts (is_of d b.1) (hold d (c ∷ bs)) h in and_from (is_of d b.1) (hold d (without_last (c ∷ bs))) a.0 (without_last_holds d (c ∷ bs) a.1)

frame_popped : (d : Design) (f : Frame) → frame_fits d f ≡ true → frame_fits d (without_inner f) ≡ true
frame_popped d f h = both_then (hold d f.names) (hold d f.inner) (hold d f.names) (hold d (without_last f.inner)) (λ r. r) (without_last_holds d f.inner) h

pub pop_keeps : (w : World) → Fits w → Kept {A = Unit {0}} Anything w tt (pop_inner w)
pop_keeps w h = record { fits = with_frames w h (changed without_inner w.frames w.current) w.current (all_changed (frame_fits w.design) without_inner w.frames w.current (frame_popped w.design) h.frames); later = later_self w.design; value = tt }
