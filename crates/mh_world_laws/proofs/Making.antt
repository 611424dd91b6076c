-- What `Signal`, `ResetSignal`, `enum`, `delay` and `instances` make keeps a world that fits.
use Rattle.std.proofs.Common.{◌≡◌, ℕ, ℤ, pos, negsuc, ◌+◌, Bool, true, false, not, ◌&&◌, ◌||◌, List, [], ◌∷◌, ◌++◌, length, Option, Some, None, Result, Ok, Err, IfOk, is_some, refl, ap, ap₂, sym, ◌∙◌, subst, append-nil, if◌then◌else◌, slice_get, length-append}
use Rattle.std.specs.Prelude.{nat_lt, nat_le, filter}
use Rattle.std.specs.Ordering.{int_eq}
use Rattle.std.specs.List.{list_all}
use Rattle.std.specs.Option.{option_map, option_map_or}
use Rattle.std.proofs.lemmas.Bool.{and_parts, and_from, ltb-true}
use Rattle.std.proofs.lemmas.Bool.Decides.{Decides-int_eq}
use Rattle.mh_codes.specs.Ranges.{is_inside}
use Rattle.mh_text.specs.declared.code.Code.{Code}
use Rattle.mh_text.specs.declared.code.Code.TheVariants.{E3BadArguments, E4BadRange, E5TooWide}
use Rattle.mh_consts.specs.declared.kinds.SignalKind.{SignalKind}
use Rattle.mh_consts.specs.declared.kinds.SignalKind.TheVariants as held
use Rattle.mh_consts.specs.declared.kinds.Const.{Const, out-Const}
use Rattle.mh_consts.specs.declared.kinds.Const.TheOpen.{Const-F}
use Rattle.mh_consts.specs.declared.kinds.Const.TheVariants as c
use Rattle.mh_consts.specs.Expression.{Keys}
use Rattle.mh_consts.specs.Numbers.{content, number_of}
use Rattle.mh_consts.proofs.Values.{out-signal, out-delay}
use Rattle.mh_design.specs.declared.design.Design.{Design}
use Rattle.mh_design.specs.declared.design.Kind.{Kind}
use Rattle.mh_design.specs.declared.design.Kind.TheVariants as declared
use Rattle.mh_design.specs.declared.design.ResetDecl.{ResetDecl}
use Rattle.mh_design.specs.declared.design.SignalDecl.{SignalDecl}
use Rattle.mh_design.specs.declared.design.EnumDecl.{EnumDecl}
use Rattle.mh_design.specs.declared.design.Encoding.{Encoding}
use Rattle.mh_design.specs.Enums.{item_code, is_narrow, is_item_code}
use Rattle.mh_design.specs.Kinds.{signal_kind}
use Rattle.mh_design.specs.Statements.{is_bool_kind}
use Rattle.mh_design.specs.WellFormed.{kind_fits, enum_fits, is_item_value, is_value, signal_fits, same_kind, mem_fits}
use Rattle.mh_design.proofs.Below.{any_below_found}
use Rattle.mh_lower_laws.specs.Holds.{declared_kind, is_signal, is_of}
use Rattle.mh_lower_laws.proofs.Basics.{if_there, all_at, all_then, all_both, get_end}
use Rattle.mh_lower_laws.proofs.HoldsLater.{same_kind-self}
use Rattle.mh_lower_laws.proofs.OfDesign.{step_of, is_of-out}
use Rattle.mh_lower_laws.proofs.ScopeValues.{opened, any_number}
use Rattle.mh_lower_laws.proofs.Stepping.{ok_if}
use Rattle.mh_world.specs.declared.kinds.Label.{Label}
use Rattle.mh_world.specs.World.{World, Bindings, Run, given, refuse, look, at}
use Rattle.mh_world.specs.Seen.{here, names_of}
use Rattle.mh_world.specs.Named.{items_of}
use Rattle.mh_world.specs.Arguments.{Arguments, only, one_positional, split}
use Rattle.mh_world.specs.Signals.{Content, add_signal, new_signal, item_content, truth_content, content_step, signal_of, make_signal, reset_in, reset_from, make_reset, texts, encoding_in, add_enum, new_enum, all_differ, enum_items, enum_made, make_enum, delay_of, delay_held, make_delay}
use Rattle.mh_world.specs.Blocks.{is_part, is_met, once_onto, once, bound_in, bound_parts, instances_here, find_instances}
use Rattle.mh_world_laws.specs.Fits.{Fits, Later, are_of, hold, label_fits}
use Rattle.mh_world_laws.specs.Laws.{Kept, Anything, IsOf}
use Rattle.mh_world_laws.proofs.Lists.{all_end, all_filter, all_if, all_drop}
use Rattle.mh_world_laws.proofs.Designs.{later_self, kind_stays, is_value_stays, signal_stays, mem_stays}
use Rattle.mh_world_laws.proofs.Keeping.{Gives, still, if_given, if_tested, seen}
use Rattle.mh_world_laws.proofs.Worlds.{Declares, with_design}
use Rattle.mh_world_laws.proofs.Seeing.{of_enum, names_hold, here_fits}
use Rattle.mh_world_laws.proofs.Listing.{list_fits, new_keeps}

-- ---- one argument, by position

pub positional_of : (d : Design) (keys : Keys) (vs : List Const) (v : Const) → are_of d vs ≡ true → one_positional keys vs ≡ Some v → is_of d v ≡ true
positional_of d (None ∷ []) (u ∷ []) v h e = let q : u ≡ v = cc in ap (is_of d) (sym q) ∙ (and_parts (is_of d u) true h).0
positional_of d (None ∷ []) [] v h e = absurd (cc)
positional_of d (None ∷ []) (u ∷ t ∷ vs) v h e = absurd (cc)
positional_of d [] vs v h e = absurd (cc)
positional_of d (None ∷ k ∷ ks) vs v h e = absurd (cc)
positional_of d (Some k ∷ ks) vs v h e = absurd (cc)

-- ---- what a signal is made of

record ContentFits (d : Design) (x : Content) : Type 0 where
  pub kind : kind_fits d x.kind ≡ true
  pub value : is_value d x.kind x.init ≡ true
  pub same : declared_kind x.values ≡ x.kind

bit_inside : (b : Bool) → is_inside (pos 0) (pos 1) (number_of b) ≡ true
bit_inside true = refl
bit_inside false = refl

truth_fits : (d : Design) (b : Bool) → ContentFits d (truth_content b)
truth_fits d b = record { kind = refl; value = bit_inside b; same = refl }

some_fits : (d : Design) (x y : Content) → ContentFits d x → Some x ≡ Some y → ContentFits d y
some_fits d x y f e = let same : x ≡ y = cc in subst (ContentFits d) same f

item_by : (d : Design) (n place : ℕ) (x : EnumDecl) (b : Bool) (y : Content) → slice_get d.enums n ≡ Some x → (nat_lt place (length x.names) && is_narrow x.encoding (length x.names)) ≡ b →
    (if b then Some (record { values = held.Item n; kind = declared.Item n; init = pos (item_code x.encoding (length x.names) place) }) else None) ≡ Some y → ContentFits d y
item_by d n place x false y e q h = absurd (cc)
item_by d n place x true y e q h =
    let p = and_parts (nat_lt place (length x.names)) (is_narrow x.encoding (length x.names)) q in
    let code : is_item_code x.encoding (length x.names) (pos (item_code x.encoding (length x.names) place)) ≡ true =
    any_below_found (length x.names) place (λ k. int_eq (pos (item_code x.encoding (length x.names) place)) (pos (item_code x.encoding (length x.names) k))) (ltb-true place (length x.names) p.0)
    ((Decides-int_eq (pos (item_code x.encoding (length x.names) place)) (pos (item_code x.encoding (length x.names) place))).1 refl) in
    some_fits d (record { values = held.Item n; kind = declared.Item n; init = pos (item_code x.encoding (length x.names) place) }) y (record {
      kind = if_there d.enums n x e;
      value = ap (λ o. option_map_or (λ (t : EnumDecl). is_item_value t (pos (item_code x.encoding (length x.names) place))) o false) e ∙ and_from (enum_fits x) (is_item_code x.encoding (length x.names) (pos (item_code x.encoding (length x.names) place))) p.1 code;
      same = refl;
    }) h

item_there : (d : Design) (n place : ℕ) (o : Option EnumDecl) (y : Content) → slice_get d.enums n ≡ o → item_content n place o ≡ Some y → ContentFits d y
item_there d n place None y e h = absurd (cc)
item_there d n place (Some x) y e h = item_by d n place x (nat_lt place (length x.names) && is_narrow x.encoding (length x.names)) y e refl h

content_there : (d : Design) (x : Const-F Const) (y : Content) → step_of d x ≡ true → content_step d x ≡ Some y → ContentFits d y
content_there d (Const-F.Truth b) y q h = some_fits d (truth_content b) y (truth_fits d b) h
content_there d (Const-F.Int n) y q h = some_fits d (record { values = held.Integer; kind = declared.Int; init = n }) y (record { kind = refl; value = refl; same = refl }) h
content_there d (Const-F.Bounded v b) y q h = some_fits d (record { values = held.Bounded b; kind = declared.Bits b; init = v }) y (record { kind = refl; value = q; same = refl }) h
content_there d (Const-F.Item n place) y q h = item_there d n place (slice_get d.enums n) y refl h
content_there d Const-F.None y q h = absurd (cc)
content_there d (Const-F.Str t) y q h = absurd (cc)
content_there d (Const-F.Delay n) y q h = absurd (cc)
content_there d (Const-F.EnumType n names) y q h = absurd (cc)
content_there d (Const-F.Signal n k) y q h = absurd (cc)
content_there d (Const-F.Edge n rising) y q h = absurd (cc)
content_there d (Const-F.Range a b step) y q h = absurd (cc)
content_there d (Const-F.List n) y q h = absurd (cc)
content_there d (Const-F.Tuple items) y q h = absurd (cc)
content_there d (Const-F.Function n) y q h = absurd (cc)
content_there d (Const-F.Instance n) y q h = absurd (cc)
content_there d (Const-F.Generator n) y q h = absurd (cc)
content_there d (Const-F.Builtin b) y q h = absurd (cc)

-- ---- a new signal

abbrev with_signal : Design → SignalDecl → Design
with_signal d s = record d { signals = d.signals ++ s ∷ [] }

later_signal : (d : Design) (s : SignalDecl) → Later d (with_signal d s)
later_signal d s = record {
  signals = s ∷ [];
  enums = [];
  mems = [];
  tables = [];
  same = ap (λ es. record d { signals = d.signals ++ s ∷ []; enums = es }) (sym (append-nil d.enums))
      ∙ ap₂ (λ ms ts. record d { signals = d.signals ++ s ∷ []; enums = d.enums ++ []; mems = ms; tables = ts }) (sym (append-nil d.mems)) (sym (append-nil d.tables));
}

module _ (w : World) (h : Fits w) where
  signal_declares : (s : SignalDecl) → signal_fits (with_signal w.design s) s ≡ true → Declares (record w { design = with_signal w.design s; marks = record w.marks { signals = w.marks.signals ++ None ∷ [] } })
  signal_declares s f = record {
    all_signals = length-append w.marks.signals (None ∷ []) ∙ ap (λ n. n + 1) h.all_signals ∙ sym (length-append w.design.signals (s ∷ []));
    enums = h.enums;
    signals = all_end (signal_fits (with_signal w.design s)) w.design.signals s (all_then (signal_fits w.design) (signal_fits (with_signal w.design s)) w.design.signals (signal_stays w.design (with_signal w.design s) (later_signal w.design s)) h.signals) f;
    mems = all_then (mem_fits w.design) (mem_fits (with_signal w.design s)) w.design.mems (mem_stays w.design (with_signal w.design s) (later_signal w.design s)) h.mems;
    tables = h.tables;
    cells = h.cells;
    none = h.none;
  }

  signal_is_there : (s : SignalDecl) (k : SignalKind) → declared_kind k ≡ s.kind → is_of (with_signal w.design s) (c.Signal (length w.design.signals) k) ≡ true
  signal_is_there s k e =
      is_of-out (with_signal w.design s) (c.Signal (length w.design.signals) k) ∙ ap (step_of (with_signal w.design s)) (out-signal (length w.design.signals) k)
      ∙ ap (λ o. option_map_or (same_kind (declared_kind k)) (option_map (λ (x : SignalDecl). x.kind) o) false) (get_end w.design.signals s) ∙ ap (same_kind (declared_kind k)) (sym e) ∙ same_kind-self (declared_kind k)

  signal_made : (l : ℕ) (x : Content) (reset : Option ResetDecl) → ContentFits w.design x → (not (is_some reset) || is_bool_kind x.kind) ≡ true → Gives IsOf w (new_signal l x reset w)
  signal_made l x reset f r =
      let g : Later w.design (with_signal w.design (record { path = []; kind = x.kind; init = x.init; reset = reset; line = l })) = later_signal w.design (record { path = []; kind = x.kind; init = x.init; reset = reset; line = l }) in
      let fit : signal_fits (with_signal w.design (record { path = []; kind = x.kind; init = x.init; reset = reset; line = l })) (record { path = []; kind = x.kind; init = x.init; reset = reset; line = l }) ≡ true =
      and_from _ _ (kind_stays w.design _ g x.kind f.kind) (and_from _ _ (is_value_stays w.design _ g x.kind x.init f.value) r) in
      record {
        fits = with_design w h (with_signal w.design (record { path = []; kind = x.kind; init = x.init; reset = reset; line = l })) (w.marks.signals ++ None ∷ []) g (all_end label_fits w.marks.signals None h.labels refl)
            (signal_declares (record { path = []; kind = x.kind; init = x.init; reset = reset; line = l }) fit);
        later = g;
        value = signal_is_there (record { path = []; kind = x.kind; init = x.init; reset = reset; line = l }) x.values f.same;
      }

  signal_keeps : (l : ℕ) (v : Const) → is_of w.design v ≡ true → Gives IsOf w (signal_of l v w)
  signal_keeps l v q =
      if_given IsOf w (content_step w.design (out-Const v)) E3BadArguments l (λ x. new_signal l x None) (λ x e. signal_made l x None (content_there w.design (out-Const v) x (opened w.design v q) e) refl)

  pub make_signal_keeps : (l : ℕ) (keys : Keys) (vs : List Const) → are_of w.design vs ≡ true → Gives IsOf w (make_signal l keys vs w)
  make_signal_keeps l keys vs q = if_given IsOf w (one_positional keys vs) E3BadArguments l (signal_of l) (λ v e. signal_keeps l v (positional_of w.design keys vs v q e))

  -- ---- resets

  reset_keeps : (l : ℕ) (a : Arguments) → Gives IsOf w (reset_from l a w)
  reset_keeps l a = if_given IsOf w (reset_in a) E3BadArguments l (λ x. new_signal l (truth_content x.0) (Some x.1)) (λ x e. signal_made l (truth_content x.0) (Some x.1) (truth_fits w.design x.0) refl)

  pub make_reset_keeps : (l : ℕ) (keys : Keys) (vs : List Const) → Gives IsOf w (make_reset l keys vs w)
  make_reset_keeps l keys vs = if_given IsOf w (split keys vs) E3BadArguments l (reset_from l) (λ a e. reset_keeps l a)

-- ---- a new enum

abbrev with_enum : Design → EnumDecl → Design
with_enum d x = record d { enums = d.enums ++ x ∷ [] }

later_enum : (d : Design) (x : EnumDecl) → Later d (with_enum d x)
later_enum d x = record {
  signals = [];
  enums = x ∷ [];
  mems = [];
  tables = [];
  same = ap (λ ss. record d { signals = ss; enums = d.enums ++ x ∷ [] }) (sym (append-nil d.signals))
      ∙ ap₂ (λ ms ts. record d { signals = d.signals ++ []; enums = d.enums ++ x ∷ []; mems = ms; tables = ts }) (sym (append-nil d.mems)) (sym (append-nil d.tables));
}

module _ (w : World) (h : Fits w) where
  enum_declares : (x : EnumDecl) → enum_fits x ≡ true → Declares (record w { design = with_enum w.design x; marks = record w.marks { signals = w.marks.signals } })
  enum_declares x f = record {
    all_signals = h.all_signals;
    enums = all_end enum_fits w.design.enums x h.enums f;
    signals = all_then (signal_fits w.design) (signal_fits (with_enum w.design x)) w.design.signals (signal_stays w.design (with_enum w.design x) (later_enum w.design x)) h.signals;
    mems = all_then (mem_fits w.design) (mem_fits (with_enum w.design x)) w.design.mems (mem_stays w.design (with_enum w.design x) (later_enum w.design x)) h.mems;
    tables = h.tables;
    cells = h.cells;
    none = h.none;
  }

  enum_added : (ts : List (List ℕ)) (e : Encoding) → is_narrow e (length ts) ≡ true → Kept IsOf w (c.EnumType (length w.design.enums) ts) (add_enum ts e w)
  enum_added ts e q = record {
    fits = with_design w h (with_enum w.design (record { names = ts; encoding = e })) w.marks.signals (later_enum w.design (record { names = ts; encoding = e })) h.labels (enum_declares (record { names = ts; encoding = e }) q);
    later = later_enum w.design (record { names = ts; encoding = e });
    value = of_enum (with_enum w.design (record { names = ts; encoding = e })) (length w.design.enums) ts;
  }

  enum_by : (l : ℕ) (ts : List (List ℕ)) (e : Encoding) (b : Bool) → is_narrow e (length ts) ≡ b → Gives IsOf w (if b then Ok (c.EnumType (length w.design.enums) ts, add_enum ts e w) else Err (E5TooWide, l))
  enum_by l ts e true q = enum_added ts e q
  enum_by l ts e false q = tt

  items_keep : (l : ℕ) (ts : List (List ℕ)) (e : Encoding) → Gives IsOf w (enum_items l ts e w)
  items_keep l ts e = if_tested IsOf w (nat_lt 0 (length ts) && all_differ ts) (new_enum l ts e) (refuse E3BadArguments l) (λ q. enum_by l ts e (is_narrow e (length ts)) refl) (λ q. tt)

  made_by : (l : ℕ) (ts : Option (List (List ℕ))) (e : Option Encoding) → Gives IsOf w (enum_made l ts e w)
  made_by l (Some ts) (Some e) = items_keep l ts e
  made_by l (Some ts) None = tt
  made_by l None e = tt

  pub make_enum_keeps : (l : ℕ) (keys : Keys) (vs : List Const) → Gives IsOf w (make_enum l keys vs w)
  make_enum_keeps l keys vs = if_given IsOf w (split keys vs) E3BadArguments l (λ a. enum_made l (texts a.positional) (encoding_in a.named)) (λ a e. made_by l (texts a.positional) (encoding_in a.named))

  -- ---- delays

  delay_of_design : (n : ℕ) → (nat_le 1 n && nat_le n 2147483647) ≡ true → is_of w.design (c.Delay n) ≡ true
  delay_of_design n q = is_of-out w.design (c.Delay n) ∙ ap (step_of w.design) (out-delay n) ∙ q

  delay_fine : (z : ℤ) → IfOk (delay_of z) (λ v. is_of w.design v ≡ true)
  delay_fine (pos n) = ok_if (λ v. is_of w.design v ≡ true) (nat_le 1 n && nat_le n 2147483647) (Ok (c.Delay n)) (Err E4BadRange) (delay_of_design n) (λ e. tt)
  delay_fine (negsuc n) = tt

  pub make_delay_keeps : (l : ℕ) (keys : Keys) (vs : List Const) → Gives IsOf w (make_delay l keys vs w)
  make_delay_keeps l keys vs = if_given IsOf w (one_positional keys vs) E3BadArguments l (λ v. at l (delay_held v)) (λ v e. seen IsOf l w (delay_held v) h (any_number w.design (content v) delay_of delay_fine))

-- ---- `instances()`

module _ (d : Design) where
  onto_of : (us vs : List Const) → are_of d vs ≡ true → are_of d us ≡ true → are_of d (once_onto vs us) ≡ true
  onto_of [] vs h k = h
  onto_of (u ∷ us) vs h k =
      let a = and_parts (is_of d u) (are_of d us) k in
      onto_of us (if is_met vs u then vs else vs ++ u ∷ []) (all_if (is_of d) (is_met vs u) vs (vs ++ u ∷ []) h (all_end (is_of d) vs u h a.0)) a.1

  pub once_of : (vs : List Const) → are_of d vs ≡ true → are_of d (once vs) ≡ true
  once_of vs h = onto_of vs [] refl h

module _ (w : World) (h : Fits w) where
  pub items_of_list : (n : ℕ) (o : Option (List Const)) → slice_get w.lists n ≡ o → are_of w.design (items_of o) ≡ true
  items_of_list n None e = refl
  items_of_list n (Some vs) e = list_fits w h n vs e

  bound_of : (v : Const) (x : Const-F Const) → is_of w.design v ≡ true → step_of w.design x ≡ true → are_of w.design (bound_in w.lists v x) ≡ true
  bound_of v (Const-F.Instance n) q r = and_from (is_of w.design v) true q refl
  bound_of v (Const-F.Generator n) q r = and_from (is_of w.design v) true q refl
  bound_of v (Const-F.Tuple vs) q r = all_filter (is_of w.design) is_part vs r
  bound_of v (Const-F.List n) q r = all_filter (is_of w.design) is_part (items_of (slice_get w.lists n)) (items_of_list n (slice_get w.lists n) refl)
  bound_of v Const-F.None q r = refl
  bound_of v (Const-F.Int n) q r = refl
  bound_of v (Const-F.Truth b) q r = refl
  bound_of v (Const-F.Str t) q r = refl
  bound_of v (Const-F.Delay n) q r = refl
  bound_of v (Const-F.EnumType n names) q r = refl
  bound_of v (Const-F.Item n place) q r = refl
  bound_of v (Const-F.Bounded z b) q r = refl
  bound_of v (Const-F.Signal n k) q r = refl
  bound_of v (Const-F.Edge n rising) q r = refl
  bound_of v (Const-F.Range a b step) q r = refl
  bound_of v (Const-F.Function n) q r = refl
  bound_of v (Const-F.Builtin b) q r = refl

  parts_are : (bs : Bindings) → hold w.design bs ≡ true → are_of w.design (bound_parts w.lists bs) ≡ true
  parts_are [] k = refl
  parts_are (b ∷ bs) k =
      let a = and_parts (is_of w.design b.1) (hold w.design bs) k in
      all_both (is_of w.design) (bound_in w.lists b.1 (out-Const b.1)) (bound_parts w.lists bs) (bound_of b.1 (out-Const b.1) a.0 (opened w.design b.1 a.0)) (parts_are bs a.1)

  pub find_instances_keeps : (l : ℕ) (keys : Keys) → Gives IsOf w (find_instances l keys w)
  find_instances_keeps l [] = new_keeps w h l (instances_here w) (once_of w.design (bound_parts w.lists (names_of (here w))) (parts_are (names_of (here w)) (names_hold w.design (here w) (here_fits w h))))
  find_instances_keeps l (key ∷ keys) = tt
