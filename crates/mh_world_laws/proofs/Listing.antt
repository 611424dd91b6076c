-- Lists and their items keep a world that fits.
use Rattle.std.proofs.Common.{◌≡◌, ◌≢◌, ℕ, ℤ, pos, ◌+◌, ◌+ℤ◌, ◌*ℤ◌, Bool, true, false, ◌&&◌, List, [], ◌∷◌, ◌++◌, length, Option, Some, None, Result, Ok, Err, IfOk, refl, ap, sym, ◌∙◌, if◌then◌else◌, slice_get, arith, length-append}
use Rattle.std.specs.Prelude.{slice_set, nat_eq, int_lt}
use Rattle.std.specs.List.{list_all}
use Rattle.std.specs.Option.{option_map_or}
use Rattle.std.proofs.lemmas.Bool.{and_parts, and_from}
use Rattle.std.proofs.lemmas.List.{length-set}
use Rattle.mh_text.specs.declared.code.Code.{Code}
use Rattle.mh_text.specs.declared.code.Code.TheVariants.{E2NotElaborable, E10KindClash}
use Rattle.mh_consts.specs.declared.kinds.Const.{Const, out-Const}
use Rattle.mh_consts.specs.declared.kinds.Const.TheOpen.{Const-F}
use Rattle.mh_consts.specs.declared.kinds.Const.TheVariants as c
use Rattle.mh_consts.specs.Outcome as outcome
use Rattle.mh_consts.specs.Places.{place, indexed_step}
use Rattle.mh_design.specs.declared.design.Design.{Design}
use Rattle.mh_design.specs.declared.design.MemDecl.{MemDecl}
use Rattle.mh_lower_laws.specs.Holds.{is_of}
use Rattle.mh_lower_laws.proofs.Basics.{get_append, all_at}
use Rattle.mh_lower_laws.proofs.OfDesign.{step_of}
use Rattle.mh_lower_laws.proofs.ScopeValues.{opened, of_none, of_int, indexed_fine}
use Rattle.mh_lower_laws.proofs.StatementGrowth.{found_later}
use Rattle.mh_world.specs.declared.kinds.Label.{Label}
use Rattle.mh_world.specs.declared.kinds.ListNote.{ListNote}
use Rattle.mh_world.specs.World.{World, Run, Broken, after, at_line, seeing, pure, refuse, change, chain}
use Rattle.mh_world.specs.Seen.{scope_of}
use Rattle.mh_world.specs.Named.{element, label, label_of, label_of_list}
use Rattle.mh_world.specs.Lists.{new_note, add_list, new_list, is_fixed, label_in, with_items, change_list, pushed, list_items, append, put_item, set_step, set_item, get_item, number_before, range_item, item_step, item, items_step, items_of}
use Rattle.mh_world_laws.specs.Fits.{Fits, are_of, is_of_if_any, label_fits, note_fits, is_kept}
use Rattle.mh_world_laws.specs.Laws.{Kept, Anything, IsOf, AreOf, IsOfIfAny}
use Rattle.mh_world_laws.proofs.Lists.{both_then, all_set, all_end, get_other}
use Rattle.mh_world_laws.proofs.Designs.{later_self}
use Rattle.mh_world_laws.proofs.Keeping.{Gives, still, chained, if_tested, seen}
use Rattle.mh_world_laws.proofs.Marking.{element_named}
use Rattle.mh_world_laws.proofs.Worlds.{with_lists}
use Rattle.mh_world_laws.proofs.Binding.{label_fits_world}
use Rattle.mh_world_laws.proofs.Seeing.{of_list, scope_holds}

-- what is seen of a world is followed by what is done in that world
pub seen_then : {A B : Type 0} (keeps : Design → B → Type 0) (l : ℕ) (w : World) (r : Result A Code) (f : A → Run B) → ((x : A) → r ≡ Ok x → Gives keeps w (f x w)) → Gives keeps w (after (at_line l w r) (λ x. f x.0 x.1))
seen_then keeps l w (Ok x) f k = k x refl
seen_then keeps l w (Err code) f k = tt

given_is : {A : Type 0} (o : Option A) (code : Code) (x : A) → outcome.given o code ≡ Ok x → o ≡ Some x
given_is (Some y) code x h = let q : y ≡ x = cc in ap Some q
given_is None code x h = absurd (cc)

-- ---- a list is made

module _ (w : World) (h : Fits w) where
  pub list_fits : (n : ℕ) (vs : List Const) → slice_get w.lists n ≡ Some vs → are_of w.design vs ≡ true
  list_fits n vs e = all_at (are_of w.design) w.lists n vs h.lists e

  pub items_are : (n : ℕ) (vs : List Const) → list_items n w ≡ Ok vs → are_of w.design vs ≡ true
  items_are n vs e = list_fits n vs (given_is (slice_get w.lists n) E10KindClash vs e)

  added_kept : (l : ℕ) (vs : List Const) (m : MemDecl) → is_kept w m ≡ true → is_kept (add_list l vs w) m ≡ true
  added_kept l vs m q =
      both_then (is_fixed w m.list) (option_map_or (λ us. nat_eq (length m.cells) (length us)) (slice_get w.lists m.list) false) (is_fixed (add_list l vs w) m.list) (option_map_or (λ us. nat_eq (length m.cells) (length us)) (slice_get (w.lists ++ vs ∷ []) m.list) false)
      (λ r. found_later (λ (x : ListNote). x.frozen) (slice_get w.marks.lists m.list) (slice_get (w.marks.lists ++ new_note l ∷ []) m.list) (get_append w.marks.lists (new_note l ∷ []) m.list) r)
      (λ r. found_later (λ us. nat_eq (length m.cells) (length us)) (slice_get w.lists m.list) (slice_get (w.lists ++ vs ∷ []) m.list) (get_append w.lists (vs ∷ []) m.list) r) q

  pub new_keeps : (l : ℕ) (vs : List Const) → are_of w.design vs ≡ true → Gives IsOf w (new_list l vs w)
  new_keeps l vs q = record {
    fits = with_lists w h (w.lists ++ vs ∷ []) (w.marks.lists ++ new_note l ∷ []) (all_end (are_of w.design) w.lists vs h.lists q) (all_end note_fits w.marks.lists (new_note l) h.notes refl)
        (length-append w.marks.lists (new_note l ∷ []) ∙ ap (λ n. n + 1) h.all_lists ∙ sym (length-append w.lists (vs ∷ []))) (added_kept l vs);
    later = later_self w.design;
    value = of_list w.design (length w.lists);
  }

  -- ---- a list is changed

  differ : (m n : ℕ) → is_fixed w m ≡ true → is_fixed w n ≡ false → m ≢ n
  differ m n f g e = let q : true ≡ false = sym f ∙ ap (is_fixed w) e ∙ g in absurd (cc)

  changed_kept : (n : ℕ) (us : List Const) → is_fixed w n ≡ false → (m : MemDecl) → is_kept w m ≡ true → is_kept (with_items n us w) m ≡ true
  changed_kept n us f m q =
      let p = and_parts (is_fixed w m.list) (option_map_or (λ vs. nat_eq (length m.cells) (length vs)) (slice_get w.lists m.list) false) q in
      and_from (is_fixed w m.list) (option_map_or (λ vs. nat_eq (length m.cells) (length vs)) (slice_get (slice_set w.lists n us) m.list) false) p.0
      (ap (λ o. option_map_or (λ vs. nat_eq (length m.cells) (length vs)) o false) (get_other w.lists n m.list us (differ m.list n p.0 f)) ∙ p.1)

  items_fit : (n : ℕ) (us : List Const) → is_fixed w n ≡ false → are_of w.design us ≡ true → Fits (with_items n us w)
  items_fit n us f q = with_lists w h (slice_set w.lists n us) w.marks.lists (all_set (are_of w.design) w.lists n us h.lists q) h.notes (h.all_lists ∙ sym (length-set w.lists n us)) (changed_kept n us f)

  label_there : (n : ℕ) (o : Option ListNote) → slice_get w.marks.lists n ≡ o → label_fits (label_of o) ≡ true
  label_there n None e = refl
  label_there n (Some x) e = all_at note_fits w.marks.lists n x h.notes e

labelled_in : (o : Option Label) (i : ℕ) (v : Const) (w : World) → Fits w → label_fits o ≡ true → Kept {A = Unit {0}} Anything w tt (label_in o i v w)
labelled_in None i v w h q = still Anything w tt h tt
labelled_in (Some p) i v w h q = record { fits = label_fits_world (element p i) v w h (element_named p i q); later = later_self w.design; value = tt }

module _ (w : World) (h : Fits w) where
  pushed_keeps : (l n : ℕ) (v : Const) (vs : List Const) → is_of w.design v ≡ true → are_of w.design vs ≡ true → Gives Anything w (change_list l n (pushed n v vs) w)
  pushed_keeps l n v vs q r =
      if_tested Anything w (is_fixed w n) (refuse E2NotElaborable l) (change (pushed n v vs)) (λ e. tt)
      (λ e. let k = labelled_in (label_of_list w.marks n) (length vs) v (with_items n (vs ++ v ∷ []) w) (items_fit w h n (vs ++ v ∷ []) e (all_end (is_of w.design) vs v r q)) (label_there w h n (slice_get w.marks.lists n) refl) in
      record { fits = k.fits; later = k.later; value = tt })

  pub append_keeps : (l n : ℕ) (v : Const) → is_of w.design v ≡ true → Gives IsOf w (append l n v w)
  append_keeps l n v q =
      seen_then IsOf l w (list_items n w) (λ vs. chain (change_list l n (pushed n v vs)) (λ x. pure c.None))
      (λ vs e. chained Anything IsOf w (change_list l n (pushed n v vs) w) (λ x. pure c.None) (pushed_keeps l n v vs q (items_are w h n vs e)) (λ x u k. still IsOf u c.None k.fits (of_none u.design)))

  put_keeps : (l n i : ℕ) (v : Const) (vs : List Const) → is_of w.design v ≡ true → are_of w.design vs ≡ true → Gives Anything w (change_list l n (put_item n i v vs) w)
  put_keeps l n i v vs q r =
      if_tested Anything w (is_fixed w n) (refuse E2NotElaborable l) (change (put_item n i v vs)) (λ e. tt)
      (λ e. let k = labelled_in (label_of_list w.marks n) i v (with_items n (slice_set vs i v) w) (items_fit w h n (slice_set vs i v) e (all_set (is_of w.design) vs i v r q)) (label_there w h n (slice_get w.marks.lists n) refl) in
      record { fits = k.fits; later = k.later; value = tt })

  set_by : (l : ℕ) (x : Const-F Const) (at v : Const) → is_of w.design v ≡ true → Gives Anything w (set_step l x at v w)
  set_by l (Const-F.List n) at v q =
      seen_then Anything l w (list_items n w) (λ vs. chain (seeing l (λ u. place (length vs) at)) (λ i. change_list l n (put_item n i v vs)))
      (λ vs e. seen_then Anything l w (place (length vs) at) (λ i. change_list l n (put_item n i v vs)) (λ i r. put_keeps l n i v vs q (items_are w h n vs e)))
  set_by l Const-F.None at v q = tt
  set_by l (Const-F.Int n) at v q = tt
  set_by l (Const-F.Truth b) at v q = tt
  set_by l (Const-F.Str t) at v q = tt
  set_by l (Const-F.Delay n) at v q = tt
  set_by l (Const-F.EnumType n names) at v q = tt
  set_by l (Const-F.Item n place) at v q = tt
  set_by l (Const-F.Bounded z b) at v q = tt
  set_by l (Const-F.Signal n k) at v q = tt
  set_by l (Const-F.Edge n rising) at v q = tt
  set_by l (Const-F.Range a b step) at v q = tt
  set_by l (Const-F.Tuple items) at v q = tt
  set_by l (Const-F.Function n) at v q = tt
  set_by l (Const-F.Instance n) at v q = tt
  set_by l (Const-F.Generator n) at v q = tt
  set_by l (Const-F.Builtin b) at v q = tt

  pub set_keeps : (l : ℕ) (base at v : Const) → is_of w.design v ≡ true → Gives Anything w (set_item l base at v w)
  set_keeps l base at v q = set_by l (out-Const base) at v q

  -- ---- items

  pub get_keeps : (l : ℕ) (base at : Const) → is_of w.design base ≡ true → Gives IsOf w (get_item l base at w)
  get_keeps l base at q =
      let s = scope_holds w h [] in
      seen IsOf l w (indexed_step (scope_of w []) (out-Const base) at) h (indexed_fine w.design (scope_of w []) s.names s.lists (out-Const base) at (opened w.design base q))

  if_item : (b : Bool) (n : ℤ) → is_of_if_any w.design (if b then Some (c.Int n) else None) ≡ true
  if_item true n = of_int w.design n
  if_item false n = refl

  range_of : (from to step : ℤ) (i : ℕ) → is_of_if_any w.design (range_item from to step i) ≡ true
  range_of from to step i = if_item (if int_lt (pos 0) step then int_lt (from +ℤ pos i *ℤ step) to else int_lt to (from +ℤ pos i *ℤ step)) (from +ℤ pos i *ℤ step)

  pub at_of : (vs : List Const) (i : ℕ) (o : Option Const) → slice_get vs i ≡ o → are_of w.design vs ≡ true → is_of_if_any w.design o ≡ true
  at_of vs i None e q = refl
  at_of vs i (Some v) e q = all_at (is_of w.design) vs i v q e

  listed : (i n : ℕ) (o : Option (List Const)) → slice_get w.lists n ≡ o → IfOk (outcome.after (outcome.given o E10KindClash) (λ vs. Ok (slice_get vs i))) (λ x. IsOfIfAny w.design x)
  listed i n None e = tt
  listed i n (Some vs) e = at_of vs i (slice_get vs i) refl (list_fits w h n vs e)

  item_by : (l : ℕ) (x : Const-F Const) (i : ℕ) → step_of w.design x ≡ true → IfOk (item_step l x i w) (λ y. IsOfIfAny w.design y)
  item_by l (Const-F.Range from to step) i q = range_of from to step i
  item_by l (Const-F.Tuple vs) i q = at_of vs i (slice_get vs i) refl q
  item_by l (Const-F.List n) i q = listed i n (slice_get w.lists n) refl
  item_by l Const-F.None i q = tt
  item_by l (Const-F.Int n) i q = tt
  item_by l (Const-F.Truth b) i q = tt
  item_by l (Const-F.Str t) i q = tt
  item_by l (Const-F.Delay n) i q = tt
  item_by l (Const-F.EnumType n names) i q = tt
  item_by l (Const-F.Item n place) i q = tt
  item_by l (Const-F.Bounded z b) i q = tt
  item_by l (Const-F.Signal n k) i q = tt
  item_by l (Const-F.Edge n rising) i q = tt
  item_by l (Const-F.Function n) i q = tt
  item_by l (Const-F.Instance n) i q = tt
  item_by l (Const-F.Generator n) i q = tt
  item_by l (Const-F.Builtin b) i q = tt

  pub item_keeps : (l : ℕ) (v : Const) (i : ℕ) → is_of w.design v ≡ true → Gives IsOfIfAny w (item l v i w)
  item_keeps l v i q = seen IsOfIfAny l w (item_step l (out-Const v) i w) h (item_by l (out-Const v) i (opened w.design v q))

  all_listed : (n : ℕ) (o : Option (List Const)) → slice_get w.lists n ≡ o → IfOk (outcome.given o E10KindClash) (λ x. AreOf w.design x)
  all_listed n None e = tt
  all_listed n (Some vs) e = list_fits w h n vs e

  items_by : (x : Const-F Const) → step_of w.design x ≡ true → IfOk (items_step w x) (λ y. AreOf w.design y)
  items_by (Const-F.Tuple vs) q = q
  items_by (Const-F.List n) q = all_listed n (slice_get w.lists n) refl
  items_by Const-F.None q = tt
  items_by (Const-F.Int n) q = tt
  items_by (Const-F.Truth b) q = tt
  items_by (Const-F.Str t) q = tt
  items_by (Const-F.Delay n) q = tt
  items_by (Const-F.EnumType n names) q = tt
  items_by (Const-F.Item n place) q = tt
  items_by (Const-F.Bounded z b) q = tt
  items_by (Const-F.Signal n k) q = tt
  items_by (Const-F.Edge n rising) q = tt
  items_by (Const-F.Range a b step) q = tt
  items_by (Const-F.Function n) q = tt
  items_by (Const-F.Instance n) q = tt
  items_by (Const-F.Generator n) q = tt
  items_by (Const-F.Builtin b) q = tt

  pub items_keep : (l : ℕ) (v : Const) → is_of w.design v ≡ true → Gives AreOf w (seeing l (items_of v) w)
  items_keep l v q = seen AreOf l w (items_of v w) h (items_by (out-Const v) (opened w.design v q))
