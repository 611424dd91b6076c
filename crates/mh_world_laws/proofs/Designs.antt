-- What is of a design is of each later one.
use Rattle.std.proofs.Common.{◌≡◌, ℕ, ℤ, Bool, true, false, ◌&&◌, List, [], ◌∷◌, ◌++◌, length, map, Option, Some, None, refl, ap, ap₂, sym, ◌∙◌, subst, append_assoc, append-nil, slice_get}
use Rattle.std.specs.Prelude.{nat_lt}
use Rattle.std.specs.List.{list_all}
use Rattle.std.specs.Option.{option_map, option_map_or, option_and_then}
use Rattle.std.proofs.lemmas.Bool.{and_parts, and_from}
use Rattle.mh_consts.specs.declared.kinds.Const.{Const, map-Const}
use Rattle.mh_consts.specs.declared.kinds.Const.TheOpen.{Const-F}
use Rattle.mh_consts.specs.declared.kinds.Const.TheFolds.{ind-Const, fold-roll-Const}
use Rattle.mh_consts.specs.declared.kinds.SignalKind.{SignalKind}
use Rattle.mh_design.specs.declared.design.Design.{Design}
use Rattle.mh_design.specs.declared.design.EnumDecl.{EnumDecl}
use Rattle.mh_design.specs.declared.design.Kind.{Kind}
use Rattle.mh_design.specs.declared.design.Kind.TheVariants as kind
use Rattle.mh_design.specs.declared.design.MemDecl.{MemDecl}
use Rattle.mh_design.specs.declared.design.SignalDecl.{SignalDecl}
use Rattle.mh_design.specs.declared.design.TableDecl.{TableDecl}
use Rattle.mh_design.specs.Kinds.{signal_kind}
use Rattle.mh_design.specs.Statements.{is_bool_kind}
use Rattle.mh_design.specs.WellFormed.{is_name, kind_fits, is_value, is_item_value, reset_fits, signal_fits, met, met_next, met_all, cells_kind, same_kind, mem_fits}
use Rattle.mh_lower_laws.specs.Holds.{declared_kind, value_step, is_of}
use Rattle.mh_lower_laws.proofs.Basics.{get_append, there_if, if_there, all_then}
use Rattle.mh_lower_laws.proofs.StatementGrowth.{found_later}
use Rattle.mh_world.specs.declared.kinds.Frame.{Frame}
use Rattle.mh_world.specs.declared.kinds.Instance.{Instance}
use Rattle.mh_world.specs.declared.kinds.Label.{Label}
use Rattle.mh_world.specs.World.{Function, Made, Bindings}
use Rattle.mh_world_laws.specs.Fits.{Later, FunctionFits, MadeFits, are_of, is_of_if_any, hold, arguments_fit, has_name, frame_fits, instance_fits, tuple_fits, parameter_fits}
use Rattle.mh_world_laws.proofs.Lists.{both_then, and_then_later}

-- ---- one design after another

pub later_self : (d : Design) → Later d d
later_self d = record {
  signals = [];
  enums = [];
  mems = [];
  tables = [];
  same = ap₂ (λ ss es. record d { signals = ss; enums = es }) (sym (append-nil d.signals)) (sym (append-nil d.enums))
      ∙ ap₂ (λ ms ts. record d { signals = d.signals ++ []; enums = d.enums ++ []; mems = ms; tables = ts }) (sym (append-nil d.mems)) (sym (append-nil d.tables));
}

abbrev grow : List SignalDecl → List EnumDecl → List MemDecl → List TableDecl → Design → Design
grow ss es ms ts d = record d { signals = d.signals ++ ss; enums = d.enums ++ es; mems = d.mems ++ ms; tables = d.tables ++ ts }

pub later_on : (d e f : Design) → Later d e → Later e f → Later d f
later_on d e f x y = record {
  signals = x.signals ++ y.signals;
  enums = x.enums ++ y.enums;
  mems = x.mems ++ y.mems;
  tables = x.tables ++ y.tables;
  same = y.same ∙ ap (grow y.signals y.enums y.mems y.tables) x.same
      ∙ ap₂ (λ ss es. record d { signals = ss; enums = es; mems = (d.mems ++ x.mems) ++ y.mems; tables = (d.tables ++ x.tables) ++ y.tables }) (append_assoc d.signals x.signals y.signals) (append_assoc d.enums x.enums y.enums)
      ∙ ap₂ (λ ms ts. record d { signals = d.signals ++ (x.signals ++ y.signals); enums = d.enums ++ (x.enums ++ y.enums); mems = ms; tables = ts }) (append_assoc d.mems x.mems y.mems) (append_assoc d.tables x.tables y.tables);
}

module _ (d e : Design) (l : Later d e) where
  pub signal_there : (n : ℕ) (x : SignalDecl) → slice_get d.signals n ≡ Some x → slice_get e.signals n ≡ Some x
  signal_there n x q = ap (λ (z : Design). slice_get z.signals n) l.same ∙ get_append d.signals l.signals n x q

  pub enum_there : (n : ℕ) (x : EnumDecl) → slice_get d.enums n ≡ Some x → slice_get e.enums n ≡ Some x
  enum_there n x q = ap (λ (z : Design). slice_get z.enums n) l.same ∙ get_append d.enums l.enums n x q

  pub mem_there : (n : ℕ) (x : MemDecl) → slice_get d.mems n ≡ Some x → slice_get e.mems n ≡ Some x
  mem_there n x q = ap (λ (z : Design). slice_get z.mems n) l.same ∙ get_append d.mems l.mems n x q

  pub table_there : (n : ℕ) (x : TableDecl) → slice_get d.tables n ≡ Some x → slice_get e.tables n ≡ Some x
  table_there n x q = ap (λ (z : Design). slice_get z.tables n) l.same ∙ get_append d.tables l.tables n x q

  kind_by : (n : ℕ) (k : Kind) (o : Option SignalDecl) → slice_get d.signals n ≡ o → option_map (λ x. x.kind) o ≡ Some k → signal_kind e n ≡ Some k
  kind_by n k (Some x) q h = ap (option_map (λ (y : SignalDecl). y.kind)) (signal_there n x q) ∙ h
  kind_by n k None q h = absurd (cc)

  pub signal_kind_later : (n : ℕ) (k : Kind) → signal_kind d n ≡ Some k → signal_kind e n ≡ Some k
  signal_kind_later n k h = kind_by n k (slice_get d.signals n) refl h

  -- ---- values

  module _ {A : Type 0} (f : A → Const) (stays : (a : A) → is_of d (f a) ≡ true → is_of e (f a) ≡ true) where
    items_stay : (xs : List A) → list_all (λ b. b) (map (is_of d) (map f xs)) ≡ true → list_all (λ b. b) (map (is_of e) (map f xs)) ≡ true
    items_stay [] h = refl
    items_stay (x ∷ xs) h = both_then (is_of d (f x)) (list_all (λ b. b) (map (is_of d) (map f xs))) (is_of e (f x)) (list_all (λ b. b) (map (is_of e) (map f xs))) (stays x) (items_stay xs) h

    layer_stays : (y : Const-F A) → value_step d (map-Const Const Bool (is_of d) (map-Const A Const f y)) ≡ true → value_step e (map-Const Const Bool (is_of e) (map-Const A Const f y)) ≡ true
    layer_stays Const-F.None h = refl
    layer_stays (Const-F.Int n) h = refl
    layer_stays (Const-F.Truth b) h = refl
    layer_stays (Const-F.Str t) h = refl
    layer_stays (Const-F.Delay n) h = h
    layer_stays (Const-F.EnumType n names) h = refl
    layer_stays (Const-F.Item n place) h = refl
    layer_stays (Const-F.Bounded v b) h = h
    layer_stays (Const-F.Signal n k) h = found_later (same_kind (declared_kind k)) (signal_kind d n) (signal_kind e n) (signal_kind_later n) h
    layer_stays (Const-F.Edge n rising) h = found_later is_bool_kind (signal_kind d n) (signal_kind e n) (signal_kind_later n) h
    layer_stays (Const-F.Range a b step) h = refl
    layer_stays (Const-F.List n) h = refl
    layer_stays (Const-F.Tuple items) h = items_stay items h
    layer_stays (Const-F.Function n) h = refl
    layer_stays (Const-F.Instance n) h = refl
    layer_stays (Const-F.Generator n) h = refl
    layer_stays (Const-F.Builtin b) h = refl

  abbrev Stays : Const → Type 0
  Stays v = is_of d v ≡ true → is_of e v ≡ true

  pub value_stays : (v : Const) → Stays v
  unfolding is_of
  value_stays = ind-Const Stays
      (λ x y is h.
      let s = subst (λ z. value_step d (map-Const Const Bool (is_of d) z) ≡ true → value_step e (map-Const Const Bool (is_of e) z) ≡ true) is (layer_stays (λ a. a.0) (λ a. a.1) y) in
      fold-roll-Const Bool (value_step e) x ∙ s (sym (fold-roll-Const Bool (value_step d) x) ∙ h))

  pub are_stay : (vs : List Const) → are_of d vs ≡ true → are_of e vs ≡ true
  are_stay vs h = all_then (is_of d) (is_of e) vs value_stays h

  pub if_any_stays : (o : Option Const) → is_of_if_any d o ≡ true → is_of_if_any e o ≡ true
  if_any_stays None h = refl
  if_any_stays (Some v) h = value_stays v h

  pub bindings_stay : (bs : Bindings) → hold d bs ≡ true → hold e bs ≡ true
  bindings_stay bs h = all_then (λ b. is_of d b.1) (λ b. is_of e b.1) bs (λ b q. value_stays b.1 q) h

  pub arguments_stay : (bs : Bindings) → arguments_fit d bs ≡ true → arguments_fit e bs ≡ true
  arguments_stay bs h = all_then (λ b. is_name b.0 && is_of d b.1) (λ b. is_name b.0 && is_of e b.1) bs (λ b q. both_then (is_name b.0) (is_of d b.1) (is_name b.0) (is_of e b.1) (λ r. r) (value_stays b.1) q) h

  -- ---- what a world has

  pub frame_stays : (f : Frame) → frame_fits d f ≡ true → frame_fits e f ≡ true
  frame_stays f h = both_then (hold d f.names) (hold d f.inner) (hold e f.names) (hold e f.inner) (bindings_stay f.names) (bindings_stay f.inner) h

  pub tuple_stays : (t : List Const × Label) → tuple_fits d t ≡ true → tuple_fits e t ≡ true
  tuple_stays t h = both_then (are_of d t.0) (is_name t.1.words) (are_of e t.0) (is_name t.1.words) (are_stay t.0) (λ q. q) h

  pub instance_stays : (x : Instance) → instance_fits d x ≡ true → instance_fits e x ≡ true
  instance_stays x h =
      both_then (is_name x.name && has_name x.called) (arguments_fit d x.arguments && are_of d x.parts) (is_name x.name && has_name x.called) (arguments_fit e x.arguments && are_of e x.parts) (λ q. q)
      (λ q. both_then (arguments_fit d x.arguments) (are_of d x.parts) (arguments_fit e x.arguments) (are_of e x.parts) (arguments_stay x.arguments) (are_stay x.parts) q) h

  pub parameters_stay : (ps : List (List ℕ × Option Const)) → list_all (parameter_fits d) ps ≡ true → list_all (parameter_fits e) ps ≡ true
  parameters_stay ps h = all_then (parameter_fits d) (parameter_fits e) ps (λ p q. both_then (is_name p.0) (is_of_if_any d p.1) (is_name p.0) (is_of_if_any e p.1) (λ r. r) (if_any_stays p.1) q) h

  pub function_stays : (f : Function) → FunctionFits d f → FunctionFits e f
  function_stays f h = record { name = h.name; params = parameters_stay f.params h.params; body = h.body }

  pub made_stays : (g : Made) → MadeFits d g → MadeFits e g
  made_stays g h = record { before = h.before; later = later_on h.before d e h.later l; fits = h.fits }

  -- ---- declarations

  pub kind_stays : (k : Kind) → kind_fits d k ≡ true → kind_fits e k ≡ true
  kind_stays kind.Bool h = refl
  kind_stays kind.Int h = refl
  kind_stays (kind.Bits b) h = refl
  kind_stays (kind.Item n) h = let x = there_if d.enums n h in if_there e.enums n x.0 (enum_there n x.0 x.1)

  pub is_value_stays : (k : Kind) (z : ℤ) → is_value d k z ≡ true → is_value e k z ≡ true
  is_value_stays kind.Bool z h = h
  is_value_stays kind.Int z h = refl
  is_value_stays (kind.Bits b) z h = h
  is_value_stays (kind.Item n) z h = found_later (λ x. is_item_value x z) (slice_get d.enums n) (slice_get e.enums n) (enum_there n) h

  pub signal_stays : (s : SignalDecl) → signal_fits d s ≡ true → signal_fits e s ≡ true
  signal_stays s h =
      both_then (is_name s.path && kind_fits d s.kind) (is_value d s.kind s.init && reset_fits s) (is_name s.path && kind_fits e s.kind) (is_value e s.kind s.init && reset_fits s)
      (λ q. both_then (is_name s.path) (kind_fits d s.kind) (is_name s.path) (kind_fits e s.kind) (λ r. r) (kind_stays s.kind) q)
      (λ q. both_then (is_value d s.kind s.init) (reset_fits s) (is_value e s.kind s.init) (reset_fits s) (is_value_stays s.kind s.init) (λ r. r) q) h

  met_stays : (k l : Option Kind) (c : ℕ) (x : Kind) → ((y : Kind) → k ≡ Some y → l ≡ Some y) → met_next d k c ≡ Some x → met_next e l c ≡ Some x
  met_stays None l c x f h = absurd (cc)
  met_stays (Some y) l c x f h = ap (λ o. met_next e o c) (f y refl) ∙ and_then_later (met y) (signal_kind d c) (signal_kind e c) x (signal_kind_later c) h

  all_met_stay : (cs : List ℕ) (k l : Option Kind) (x : Kind) → ((y : Kind) → k ≡ Some y → l ≡ Some y) → met_all d k cs ≡ Some x → met_all e l cs ≡ Some x
  all_met_stay [] k l x f h = f x h
  all_met_stay (c ∷ cs) k l x f h = all_met_stay cs (met_next d k c) (met_next e l c) x (λ y q. met_stays k l c y f q) h

  pub cells_stay : (cs : List ℕ) (k : Kind) → cells_kind d cs ≡ Some k → cells_kind e cs ≡ Some k
  cells_stay [] k h = h
  cells_stay (c ∷ cs) k h = all_met_stay cs (signal_kind d c) (signal_kind e c) k (signal_kind_later c) h

  pub mem_stays : (m : MemDecl) → mem_fits d m ≡ true → mem_fits e m ≡ true
  mem_stays m h =
      both_then (is_name m.path) (option_map_or (same_kind m.kind) (cells_kind d m.cells) false) (is_name m.path) (option_map_or (same_kind m.kind) (cells_kind e m.cells) false) (λ q. q)
      (λ q. found_later (same_kind m.kind) (cells_kind d m.cells) (cells_kind e m.cells) (cells_stay m.cells) q) h
