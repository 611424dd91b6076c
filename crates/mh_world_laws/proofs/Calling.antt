-- Definitions and calls of functions keep a world that fits.
use Rattle.std.proofs.Common.{◌≡◌, ℕ, Bool, true, false, ◌&&◌, List, [], ◌∷◌, ◌++◌, length, Option, Some, None, Result, Ok, Err, refl, ap, sym, ◌∙◌, if◌then◌else◌, is_some, slice_get, drop}
use Rattle.std.specs.Prelude.{option_and_then}
use Rattle.std.specs.List.{list_all}
use Rattle.std.specs.Option.{option_map}
use Rattle.std.proofs.lemmas.Bool.{and_parts, and_from}
use Rattle.mh_text.specs.declared.code.Code.TheVariants.{E1UnknownName, E2NotElaborable, E3BadArguments, E6BadReturn, E10KindClash}
use Rattle.mh_consts.specs.declared.kinds.Const.{Const, out-Const}
use Rattle.mh_consts.specs.declared.kinds.Const.TheOpen.{Const-F}
use Rattle.mh_consts.specs.declared.kinds.Const.TheVariants as c
use Rattle.mh_consts.specs.Expression.{Ex, Keys}
use Rattle.mh_consts.specs.Names.{lookup, bind}
use Rattle.mh_design.specs.declared.design.Design.{Design}
use Rattle.mh_design.specs.WellFormed.{is_name}
use Rattle.mh_lower_laws.specs.Holds.{is_of}
use Rattle.mh_lower_laws.proofs.OfDesign.{step_of}
use Rattle.mh_lower_laws.proofs.ScopeValues.{opened, of_none}
use Rattle.mh_world.specs.declared.kinds.Flow.{Flow}
use Rattle.mh_world.specs.declared.kinds.Flow.TheVariants.{Goes, Leaves, Again, Returns}
use Rattle.mh_world.specs.declared.kinds.Frame.{Frame}
use Rattle.mh_world.specs.declared.kinds.Instance.{Instance}
use Rattle.mh_world.specs.declared.kinds.Mark.{Mark}
use Rattle.mh_world.specs.declared.kinds.Mark.TheVariants.{Plain, Blocked, Generates}
use Rattle.mh_world.specs.Statements.{Block, Parameter}
use Rattle.mh_world.specs.World.{World, Function, Bindings, Run, chain, pure, refuse, change, changed, given}
use Rattle.mh_world.specs.Seen.{find, inside, is_module}
use Rattle.mh_world.specs.Named.{binds, items_in}
use Rattle.mh_world.specs.Arguments.{Arguments, Formal, named_more, named_onto, only_named, with_positional, split, or_default, named_or_default, value_of_parameter, none_left, filled_onto, all_parameters, fit, matched}
use Rattle.mh_world.specs.Blocks.{are_parts, once, all_parts, parts_step, parts_of, put_parts, with_parts, instance}
use Rattle.mh_world.specs.Functions.{mark_held, is_named, mark_name, mark_by, marked, default_value, values_left, with_defaults, add_defined, new_function, may_be_called, callable, Called, called_with, callee, Caller, new_instance, new_frame, bind_all, enter_block, enter_plain, enter, back_to, returned, value_of, instance_of, gives, leave}
use Rattle.mh_world_laws.specs.Sources.{IsSource}
use Rattle.mh_world_laws.specs.Fits.{Fits, FunctionFits, are_of, is_of_if_any, hold, arguments_fit, has_name, frame_fits, instance_fits, parameter_fits}
use Rattle.mh_world_laws.specs.Laws.{Kept, Anything, IsOf, FlowFits, CalledFits}
use Rattle.mh_world_laws.proofs.Lists.{both_then, all_changed, all_end, all_drop, all_if, at_end}
use Rattle.mh_world_laws.proofs.Designs.{later_self, are_stay, arguments_stay}
use Rattle.mh_world_laws.proofs.Keeping.{Gives, still, kept_on, moved, chained, if_given, if_tested}
use Rattle.mh_world_laws.proofs.Worlds.{with_frames, with_instances, with_functions}
use Rattle.mh_world_laws.proofs.Binding.{bind_holds, binds_keep, bind_keeps}
use Rattle.mh_world_laws.proofs.Seeing.{of_function, of_instance, lookup_of}
use Rattle.mh_world_laws.proofs.Listing.{at_of}
use Rattle.mh_world_laws.proofs.Making.{once_of, items_of_list}

-- ---- decorators

module _ (w : World) (h : Fits w) where
  marked_by : (l : ℕ) (named : Bool) (o : Option Const) → Gives Anything w (chain (mark_held l o) (λ m. pure (if named then m else Generates)) w)
  marked_by l named None = tt
  marked_by l named (Some v) = still Anything w _ h tt

  mark_keeps : (l : ℕ) (named : Bool) (o : Option (List ℕ)) → Gives Anything w (mark_by l named o w)
  mark_keeps l named None = still Anything w Generates h tt
  mark_keeps l named (Some t) = marked_by l named (find w t)

  pub marked_keeps : (l : ℕ) (ms : List Ex) → Gives Anything w (marked l ms w)
  marked_keeps l [] = still Anything w Plain h tt
  marked_keeps l (e ∷ []) = mark_keeps l (is_named e) (mark_name e)
  marked_keeps l (e ∷ f ∷ ms) = tt

-- ---- definitions

module _ (w : World) (h : Fits w) where
  default_of : (b : Bool) (vs : List Const) → are_of w.design vs ≡ true → is_of_if_any w.design (default_value b vs) ≡ true
  default_of true vs q = at_of w h vs 0 (slice_get vs 0) refl q
  default_of false vs q = refl

  left_are : (b : Bool) (vs : List Const) → are_of w.design vs ≡ true → are_of w.design (values_left b vs) ≡ true
  left_are b vs q = all_if (is_of w.design) b (drop 1 vs) vs (all_drop (is_of w.design) vs q) q

  defaults_fit : (ps : List Parameter) (vs : List Const) → list_all (λ (p : Parameter). is_name p.0) ps ≡ true → are_of w.design vs ≡ true → list_all (parameter_fits w.design) (with_defaults ps vs) ≡ true
  defaults_fit [] vs n q = refl
  defaults_fit (p ∷ ps) vs n q =
      let a = and_parts (is_name p.0) (list_all (λ (x : Parameter). is_name x.0) ps) n in
      and_from (is_name p.0 && is_of_if_any w.design (default_value (is_some p.1) vs)) (list_all (parameter_fits w.design) (with_defaults ps (values_left (is_some p.1) vs)))
      (and_from (is_name p.0) (is_of_if_any w.design (default_value (is_some p.1) vs)) a.0 (default_of (is_some p.1) vs q)) (defaults_fit ps (values_left (is_some p.1) vs) a.1 (left_are (is_some p.1) vs q))

  defined : (l : ℕ) (t : List ℕ) (is_block : Bool) (ps : List (List ℕ × Option Const)) (b : Block) → is_name t ≡ true → list_all (parameter_fits w.design) ps ≡ true → IsSource b → Kept {A = Unit {0}} Anything w tt (add_defined l t is_block ps b w)
  defined l t is_block ps b n p s =
      record {
        fits = with_functions w h (w.functions ++ record { line = l; name = t; is_block = is_block; params = ps; body = b; home = w.current } ∷ []) (w.known ++ false ∷ [])
            (at_end (FunctionFits w.design) w.functions (record { line = l; name = t; is_block = is_block; params = ps; body = b; home = w.current }) h.functions (record { name = n; params = p; body = s }));
        later = later_self w.design;
        value = tt;
      }

  pub function_keeps : (l : ℕ) (t : List ℕ) (is_block : Bool) (ps : List Parameter) (vs : List Const) (b : Block) → is_name t ≡ true → list_all (λ (p : Parameter). is_name p.0) ps ≡ true → IsSource b → are_of w.design vs ≡ true →
      Gives Anything w (new_function l t is_block (with_defaults ps vs) b w)
  function_keeps l t is_block ps vs b n p s q =
      let k = defined l t is_block (with_defaults ps vs) b n (defaults_fit ps vs p q) s in
      moved Anything Anything w (add_defined l t is_block (with_defaults ps vs) b w) tt _ k (bind_keeps l t (c.Function (length w.functions)) n (add_defined l t is_block (with_defaults ps vs) b w) k.fits (of_function w.design (length w.functions)))

-- ---- arguments

abbrev HoldIfAny : Design → Option Bindings → Type 0
HoldIfAny d None = Unit {0}
HoldIfAny d (Some bs) = hold d bs ≡ true

record ArgumentsHold (d : Design) (a : Arguments) : Type 0 where
  pub positional : are_of d a.positional ≡ true
  pub named : hold d a.named ≡ true

abbrev ArgumentsIfAny : Design → Option Arguments → Type 0
ArgumentsIfAny d None = Unit {0}
ArgumentsIfAny d (Some a) = ArgumentsHold d a

abbrev FitIfAny : Design → Option Bindings → Type 0
FitIfAny d None = Unit {0}
FitIfAny d (Some bs) = arguments_fit d bs ≡ true

module _ (d : Design) where
  named_if : (b : Bool) (bs : Bindings) → hold d bs ≡ true → HoldIfAny d (if b then None else Some bs)
  named_if true bs h = tt
  named_if false bs h = h

  more_hold : (bs : Bindings) (k : Option (List ℕ)) (v : Const) → hold d bs ≡ true → is_of d v ≡ true → HoldIfAny d (named_more bs k v)
  more_hold bs None v h q = tt
  more_hold bs (Some t) v h q = named_if (is_some (lookup bs t)) (bind bs t v) (bind_holds d bs t v h q)

  hold_then : (f : Bindings → Option Bindings) (o : Option Bindings) → HoldIfAny d o → ((bs : Bindings) → hold d bs ≡ true → HoldIfAny d (f bs)) → HoldIfAny d (option_and_then f o)
  hold_then f None h k = tt
  hold_then f (Some bs) h k = k bs h

  onto_hold : (ks : Keys) (vs : List Const) (bs : Bindings) → hold d bs ≡ true → are_of d vs ≡ true → HoldIfAny d (named_onto bs ks vs)
  onto_hold [] [] bs h q = h
  onto_hold [] (v ∷ vs) bs h q = tt
  onto_hold (k ∷ ks) [] bs h q = tt
  onto_hold (k ∷ ks) (v ∷ vs) bs h q =
      let a = and_parts (is_of d v) (are_of d vs) q in
      hold_then (λ more. named_onto more ks vs) (named_more bs k v) (more_hold bs k v h a.0) (λ more r. onto_hold ks vs more r a.1)

  only_hold : (o : Option Bindings) → HoldIfAny d o → ArgumentsIfAny d (option_map only_named o)
  only_hold None h = tt
  only_hold (Some bs) h = record { positional = refl; named = h }

  positional_hold : (v : Const) (o : Option Arguments) → is_of d v ≡ true → ArgumentsIfAny d o → ArgumentsIfAny d (option_map (with_positional v) o)
  positional_hold v None q h = tt
  positional_hold v (Some a) q h = record { positional = and_from (is_of d v) (are_of d a.positional) q h.positional; named = h.named }

  split_hold : (keys : Keys) (vs : List Const) → are_of d vs ≡ true → ArgumentsIfAny d (split keys vs)
  split_hold [] vs q = only_hold (named_onto [] [] vs) (onto_hold [] vs [] refl q)
  split_hold (Some t ∷ ks) vs q = only_hold (named_onto [] (Some t ∷ ks) vs) (onto_hold (Some t ∷ ks) vs [] refl q)
  split_hold (None ∷ ks) [] q = only_hold (named_onto [] (None ∷ ks) []) (onto_hold (None ∷ ks) [] [] refl q)
  split_hold (None ∷ ks) (v ∷ vs) q = let a = and_parts (is_of d v) (are_of d vs) q in positional_hold v (split ks vs) a.0 (split_hold ks vs a.1)

  -- ---- values of parameters

  default_or : (o p : Option Const) → is_of_if_any d o ≡ true → is_of_if_any d p ≡ true → is_of_if_any d (or_default o p) ≡ true
  default_or (Some v) p h k = h
  default_or None p h k = k

  none_if : (b : Bool) (v : Const) → is_of d v ≡ true → is_of_if_any d (if b then None else Some v) ≡ true
  none_if true v h = refl
  none_if false v h = h

  parameter_of : (p : Formal) (o : Option Const) (named : Bindings) → is_of_if_any d o ≡ true → hold d named ≡ true → is_of_if_any d p.1 ≡ true → is_of_if_any d (value_of_parameter p o named) ≡ true
  parameter_of p None named h k q = default_or (lookup named p.0) p.1 (lookup_of d named p.0 k) q
  parameter_of p (Some v) named h k q = none_if (is_some (lookup named p.0)) v h

  first_of : (vs : List Const) → are_of d vs ≡ true → is_of_if_any d (slice_get vs 0) ≡ true
  first_of [] q = refl
  first_of (v ∷ vs) q = (and_parts (is_of d v) (are_of d vs) q).0

  fit_then : (f : Const → Option Bindings) (o : Option Const) → is_of_if_any d o ≡ true → ((v : Const) → is_of d v ≡ true → FitIfAny d (f v)) → FitIfAny d (option_and_then f o)
  fit_then f None h k = tt
  fit_then f (Some v) h k = k v h

  none_left_fit : (vs : List Const) (bs : Bindings) → arguments_fit d bs ≡ true → FitIfAny d (none_left vs bs)
  none_left_fit [] bs h = h
  none_left_fit (v ∷ vs) bs h = tt

  filled_fit : (ps : List Formal) (bs : Bindings) (vs : List Const) (named : Bindings) → list_all (parameter_fits d) ps ≡ true → arguments_fit d bs ≡ true → are_of d vs ≡ true → hold d named ≡ true → FitIfAny d (filled_onto bs ps vs named)
  filled_fit [] bs vs named p h q k = none_left_fit vs bs h
  filled_fit (x ∷ ps) bs vs named p h q k =
      let a = and_parts (parameter_fits d x) (list_all (parameter_fits d) ps) p in
      let b = and_parts (is_name x.0) (is_of_if_any d x.1) a.0 in
      fit_then (λ v. filled_onto (bs ++ (x.0, v) ∷ []) ps (drop 1 vs) named) (value_of_parameter x (slice_get vs 0) named) (parameter_of x (slice_get vs 0) named (first_of vs q) k b.1)
      (λ v r. filled_fit ps (bs ++ (x.0, v) ∷ []) (drop 1 vs) named a.1 (all_end (λ (y : List ℕ × Const). is_name y.0 && is_of d y.1) bs (x.0, v) h (and_from (is_name x.0) (is_of d v) b.0 r)) (all_drop (is_of d) vs q) k)

  fit_if : (b : Bool) (o : Option Bindings) → FitIfAny d o → FitIfAny d (if b then o else None)
  fit_if true o h = h
  fit_if false o h = tt

  fits_by : (ps : List Formal) (o : Option Arguments) → list_all (parameter_fits d) ps ≡ true → ArgumentsIfAny d o → FitIfAny d (option_and_then (fit ps) o)
  fits_by ps None p h = tt
  fits_by ps (Some a) p h = fit_if (all_parameters ps a.named) (filled_onto [] ps a.positional a.named) (filled_fit ps [] a.positional a.named p refl h.positional h.named)

  fit_is : (o : Option Bindings) (bs : Bindings) → o ≡ Some bs → FitIfAny d o → arguments_fit d bs ≡ true
  fit_is None bs e h = absurd (cc)
  fit_is (Some us) bs e h = let q : us ≡ bs = cc in ap (arguments_fit d) (sym q) ∙ h

  pub matched_fit : (ps : List Formal) (keys : Keys) (vs : List Const) (bs : Bindings) → list_all (parameter_fits d) ps ≡ true → are_of d vs ≡ true → matched ps keys vs ≡ Some bs → arguments_fit d bs ≡ true
  matched_fit ps keys vs bs p q e = fit_is (matched ps keys vs) bs e (fits_by ps (split keys vs) p (split_hold keys vs q))

-- ---- what is called

module _ (w : World) (h : Fits w) where
  callable_keeps : (l : ℕ) (known : Bool) (n : ℕ) (f : Function) → slice_get w.functions n ≡ Some f → Gives FunctionFits w (callable l known f w)
  callable_keeps l known n f e = if_tested FunctionFits w (may_be_called f known) (pure f) (refuse E2NotElaborable l) (λ q. still FunctionFits w f h (h.functions n f e)) (λ q. tt)

  pub callee_keeps : (l n : ℕ) (keys : Keys) (vs : List Const) → are_of w.design vs ≡ true → Gives CalledFits w (callee l n keys vs w)
  callee_keeps l n keys vs q =
      chained FunctionFits CalledFits w (given (slice_get w.functions n) E10KindClash l (callable l _) w) (λ f. given (matched f.params keys vs) E3BadArguments l (λ bs. pure (called_with f bs)))
      (if_given FunctionFits w (slice_get w.functions n) E10KindClash l (callable l _) (λ f e. callable_keeps l _ n f e))
      (λ f u k. if_given CalledFits u (matched f.params keys vs) E3BadArguments l (λ bs. pure (called_with f bs))
      (λ bs e. still CalledFits u (called_with f bs) k.fits (record {
        name = k.value.name;
        arguments = matched_fit u.design f.params keys vs bs k.value.params (are_stay w.design u.design k.later vs q) e;
        body = k.value.body;
      })))

-- ---- a call begins

pub bind_all_keeps : (bs : Bindings) (w : World) → Fits w → arguments_fit w.design bs ≡ true → Kept {A = Unit {0}} Anything w tt (bind_all bs w)
bind_all_keeps [] w h q = still Anything w tt h tt
bind_all_keeps (b ∷ bs) w h q =
    let a = and_parts (is_name b.0 && is_of w.design b.1) (arguments_fit w.design bs) q in
    let p = and_parts (is_name b.0) (is_of w.design b.1) a.0 in
    let k = binds_keep b.0 b.1 w h p.0 p.1 in
    kept_on Anything Anything w (binds b.0 b.1 w) (bind_all bs (binds b.0 b.1 w)) tt tt k (bind_all_keeps bs (binds b.0 b.1 w) k.fits (arguments_stay w.design (binds b.0 b.1 w).design k.later bs a.1))

framed : (home : ℕ) (inner : Option ℕ) (w : World) → Fits w → Fits (new_frame home inner w)
framed home inner w h =
    with_frames w h (w.frames ++ record { names = []; inner = []; parent = Some home; inside = inner; frozen = [] } ∷ []) (length w.frames)
    (all_end (frame_fits w.design) w.frames (record { names = []; inner = []; parent = Some home; inside = inner; frozen = [] }) h.frames refl)

instanced : (t : List ℕ) (l : ℕ) (bs : Bindings) (w : World) → Fits w → is_name t ≡ true → arguments_fit w.design bs ≡ true → Fits (new_instance t l bs w)
instanced t l bs w h n q =
    with_instances w h (w.instances ++ record { name = t; line = l; arguments = bs; outer = inside w; called = None; parts = [] } ∷ [])
    (all_end (instance_fits w.design) w.instances (record { name = t; line = l; arguments = bs; outer = inside w; called = None; parts = [] }) h.instances
    (and_from (is_name t && true) (arguments_fit w.design bs && true) (and_from (is_name t) true n refl) (and_from (arguments_fit w.design bs) true q refl)))

module _ (w : World) (h : Fits w) where
  pub enter_keeps : (x : Called) → CalledFits w.design x → Gives Anything w (enter x w)
  enter_keeps x f =
      if_tested Anything w x.is_block (enter_block x) (enter_plain x)
      (λ e. let k = bind_all_keeps x.arguments (new_frame x.home (Some (length w.instances)) (new_instance x.name x.line x.arguments w))
      (framed x.home (Some (length w.instances)) (new_instance x.name x.line x.arguments w) (instanced x.name x.line x.arguments w h f.name f.arguments)) f.arguments in
      record { fits = k.fits; later = k.later; value = tt })
      (λ e. let k = bind_all_keeps x.arguments (new_frame x.home (inside w) w) (framed x.home (inside w) w h) f.arguments in
      record { fits = k.fits; later = k.later; value = tt })

  -- ---- a call ends

  pub returned_keeps : (l : ℕ) (v : Const) → is_of w.design v ≡ true → Gives FlowFits w (returned l v w)
  returned_keeps l v q = if_tested FlowFits w (is_module w) (refuse E2NotElaborable l) (pure (Returns l v)) (λ e. tt) (λ e. still FlowFits w (Returns l v) h q)

  value_of_fits : (f : Flow) → FlowFits w.design f → is_of w.design (value_of f) ≡ true
  value_of_fits (Returns l v) q = q
  value_of_fits Goes q = of_none w.design
  value_of_fits Leaves q = of_none w.design
  value_of_fits Again q = of_none w.design

  all_parts_by : (b : Bool) (us vs : List Const) → are_of w.design us ≡ true → (if b then Some (once us) else None) ≡ Some vs → are_of w.design vs ≡ true
  all_parts_by true us vs q e = let same : once us ≡ vs = cc in ap (are_of w.design) (sym same) ∙ once_of w.design us q
  all_parts_by false us vs q e = absurd (cc)

  one_part : (v : Const) (vs : List Const) → is_of w.design v ≡ true → Some (v ∷ []) ≡ Some vs → are_of w.design vs ≡ true
  one_part v vs q e = let same : v ∷ [] ≡ vs = cc in ap (are_of w.design) (sym same) ∙ and_from (is_of w.design v) true q refl

  parts_by : (v : Const) (x : Const-F Const) (vs : List Const) → is_of w.design v ≡ true → step_of w.design x ≡ true → parts_step w v x ≡ Some vs → are_of w.design vs ≡ true
  parts_by v (Const-F.Instance n) vs q r e = one_part v vs q e
  parts_by v (Const-F.Generator n) vs q r e = one_part v vs q e
  parts_by v (Const-F.Tuple us) vs q r e = all_parts_by (are_parts us) us vs r e
  parts_by v (Const-F.List n) vs q r e = all_parts_by (are_parts (items_in w n)) (items_in w n) vs (items_of_list w h n (slice_get w.lists n) refl) e
  parts_by v Const-F.None vs q r e = absurd (cc)
  parts_by v (Const-F.Int n) vs q r e = absurd (cc)
  parts_by v (Const-F.Truth b) vs q r e = absurd (cc)
  parts_by v (Const-F.Str t) vs q r e = absurd (cc)
  parts_by v (Const-F.Delay n) vs q r e = absurd (cc)
  parts_by v (Const-F.EnumType n names) vs q r e = absurd (cc)
  parts_by v (Const-F.Item n place) vs q r e = absurd (cc)
  parts_by v (Const-F.Bounded z b) vs q r e = absurd (cc)
  parts_by v (Const-F.Signal n k) vs q r e = absurd (cc)
  parts_by v (Const-F.Edge n rising) vs q r e = absurd (cc)
  parts_by v (Const-F.Range a b step) vs q r e = absurd (cc)
  parts_by v (Const-F.Function n) vs q r e = absurd (cc)
  parts_by v (Const-F.Builtin b) vs q r e = absurd (cc)

  parts_put : (vs : List Const) → are_of w.design vs ≡ true → (x : Instance) → instance_fits w.design x ≡ true → instance_fits w.design (put_parts vs x) ≡ true
  parts_put vs q x f =
      both_then (is_name x.name && has_name x.called) (arguments_fit w.design x.arguments && are_of w.design x.parts) (is_name x.name && has_name x.called) (arguments_fit w.design x.arguments && are_of w.design vs) (λ r. r)
      (λ r. and_from (arguments_fit w.design x.arguments) (are_of w.design vs) (and_parts (arguments_fit w.design x.arguments) (are_of w.design x.parts) r).0 q) f

  instance_keeps : (l i : ℕ) (v : Const) → is_of w.design v ≡ true → Gives IsOf w (instance l i v w)
  instance_keeps l i v q =
      if_given IsOf w (parts_of v w) E6BadReturn l (λ vs. chain (change (with_parts i vs)) (λ x. pure (c.Instance i)))
      (λ vs e. record {
        fits = with_instances w h (changed (put_parts vs) w.instances i) (all_changed (instance_fits w.design) (put_parts vs) w.instances i (parts_put vs (parts_by v (out-Const v) vs q (opened w.design v q) e)) h.instances);
        later = later_self w.design;
        value = of_instance w.design i;
      })

  instance_of_keeps : (l i : ℕ) (f : Flow) → FlowFits w.design f → Gives IsOf w (instance_of l i f w)
  instance_of_keeps l i (Returns k v) q = instance_keeps k i v q
  instance_of_keeps l i Goes q = tt
  instance_of_keeps l i Leaves q = tt
  instance_of_keeps l i Again q = tt

  gives_keep : (l : ℕ) (o : Option ℕ) (f : Flow) → FlowFits w.design f → Gives IsOf w (gives l o f w)
  gives_keep l None f q = still IsOf w (value_of f) h (value_of_fits f q)
  gives_keep l (Some i) f q = instance_of_keeps l i f q

pub leave_keeps : (w : World) → Fits w → (l : ℕ) (x : Caller) (f : Flow) → FlowFits w.design f → Gives IsOf w (leave l x f w)
leave_keeps w h l x f q =
    moved {A = Unit {0}} Anything IsOf w (back_to x.0 w) tt _ (record { fits = with_frames w h w.frames x.0 h.frames; later = later_self w.design; value = tt }) (gives_keep (back_to x.0 w) (with_frames w h w.frames x.0 h.frames) l x.1 f q)
