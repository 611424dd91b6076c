-- Paths are names.
use Rattle.std.proofs.Common.{◌≡◌, ℕ, ℤ, zero, suc, ◌+◌, Bool, true, false, ◌&&◌, List, [], ◌∷◌, ◌++◌, length, Option, Some, None, refl, ap, sym, ◌∙◌, if◌then◌else◌, slice_get, nat_eq}
use Rattle.std.specs.Prelude.{option_and_then, ◌||◌, ◌==◌}
use Rattle.std.specs.Char.{is_ascii_alphanumeric}
use Rattle.std.specs.List.{list_all}
use Rattle.std.specs.Option.{option_map, option_map_or}
use Rattle.std.proofs.lemmas.Bool.{and_parts, and_from}
use Rattle.mh_consts.specs.declared.kinds.Const.{Const, out-Const}
use Rattle.mh_design.specs.WellFormed.{is_name}
use Rattle.mh_lower_laws.specs.Holds.{is_of}
use Rattle.mh_lower_laws.proofs.Basics.{all_at, all_both}
use Rattle.mh_world.specs.declared.kinds.Instance.{Instance}
use Rattle.mh_world.specs.declared.kinds.Label.{Label}
use Rattle.mh_world.specs.declared.kinds.ListNote.{ListNote}
use Rattle.mh_world.specs.World.{World, Bindings, Made}
use Rattle.mh_plans.specs.Paths.{or_block, instance_name, outer_of, name_at, with_name, names_from, names_before, joined, path, path_of, signal_in, is_it, port_name, or_path, no_label, signal_path, list_path, are_these, tuple_label, table_path, generator_path}
use Rattle.mh_plans.specs.Plans.{is_listed_in, listed_among, listed_in}
use Rattle.mh_world_laws.specs.Fits.{Fits, arguments_fit, are_of, has_name, instance_fits, label_fits, note_fits, tuple_fits}
use Rattle.mh_world_laws.proofs.Lists.{all_end}

-- all names, where there are any
abbrev names_if_any : Option (List (List ℕ)) → Bool
names_if_any None = true
names_if_any (Some ts) = list_all is_name ts

abbrev name_if_any : Option (List ℕ) → Bool
name_if_any None = true
name_if_any (Some t) = is_name t

joined_named : (ts : List (List ℕ)) (t : List ℕ) → list_all is_name ts ≡ true → is_name t ≡ true → is_name (joined ts t) ≡ true
joined_named [] t h k = k
joined_named (u ∷ us) t h k =
    let a = and_parts (is_name u) (list_all is_name us) h in
    all_both (λ c. is_ascii_alphanumeric c || c == 95) u (95 ∷ joined us t) a.0 (joined_named us t a.1 k)

module _ (w : World) (h : Fits w) where
  called_named : (x : Instance) (o : Option (List ℕ)) → is_name x.name ≡ true → has_name o ≡ true → is_name (or_block x.name o) ≡ true
  called_named x None n k = n
  called_named x (Some t) n k = k

  name_named : (i : ℕ) (o : Option Instance) → slice_get w.instances i ≡ o → is_name (name_at o) ≡ true
  name_named i None e = refl
  name_named i (Some x) e =
      let f = and_parts (is_name x.name && has_name x.called) (arguments_fit w.design x.arguments && are_of w.design x.parts) (all_at (instance_fits w.design) w.instances i x h.instances e) in
      let n = and_parts (is_name x.name) (has_name x.called) f.0 in
      called_named x x.called n.0 n.1

  more_named : (t : List ℕ) (o : Option (List (List ℕ))) → is_name t ≡ true → names_if_any o ≡ true → names_if_any (with_name t o) ≡ true
  more_named t None n k = refl
  more_named t (Some ts) n k = all_end is_name ts t k n

  if_named : (b : Bool) (o : Option (List (List ℕ))) → names_if_any o ≡ true → names_if_any (if b then Some [] else o) ≡ true
  if_named true o k = refl
  if_named false o k = k

  from_named : (n top : ℕ) (o : Option ℕ) → names_if_any (names_from n w.instances top o) ≡ true
  from_named zero top o = refl
  from_named (suc n) top None = refl
  from_named (suc n) top (Some i) =
      if_named (nat_eq i top) (with_name (name_at (slice_get w.instances i)) (names_from n w.instances top (outer_of (slice_get w.instances i))))
      (more_named (name_at (slice_get w.instances i)) (names_from n w.instances top (outer_of (slice_get w.instances i))) (name_named i (slice_get w.instances i) refl) (from_named n top (outer_of (slice_get w.instances i))))

  any_named : (o : Option (List (List ℕ))) → names_if_any o ≡ true → list_all is_name (option_map_or (λ ts. ts) o []) ≡ true
  any_named None k = refl
  any_named (Some ts) k = k

  before_named : (top : ℕ) (o : Option ℕ) → list_all is_name (names_before w top o) ≡ true
  before_named top o = any_named (names_from (length w.instances + 1) w.instances top o) (from_named (length w.instances + 1) top o)

  pub path_named : (top : ℕ) (p : Label) → is_name p.words ≡ true → is_name (path w top p) ≡ true
  path_named top p k = joined_named (names_before w top p.inside) p.words (before_named top p.inside) k

  pub generator_named : (top : ℕ) (g : Made) → is_name g.name ≡ true → is_name (generator_path w top g) ≡ true
  generator_named top g k = joined_named (names_before w top g.inside) g.name (before_named top g.inside) k

  path_of_named : (top : ℕ) (o : Option Label) → label_fits o ≡ true → is_name (path_of w top o) ≡ true
  path_of_named top None k = refl
  path_of_named top (Some p) k = path_named top p k

  -- ---- signals, lists and tuples

  mark_there : (n : ℕ) (o : Option (Option Label)) → slice_get w.marks.signals n ≡ o → label_fits (no_label o) ≡ true
  mark_there n None e = refl
  mark_there n (Some p) e = all_at label_fits w.marks.signals n p h.labels e

  or_named : (o : Option (List ℕ)) (p : List ℕ) → name_if_any o ≡ true → is_name p ≡ true → is_name (or_path o p) ≡ true
  or_named (Some t) p k q = k
  or_named None p k q = q

  port_if : (b : Bool) (t : List ℕ) (o : Option (List ℕ)) → is_name t ≡ true → name_if_any o ≡ true → name_if_any (if b then Some t else o) ≡ true
  port_if true t o k q = k
  port_if false t o k q = q

  port_named : (bs : Bindings) (n : ℕ) → arguments_fit w.design bs ≡ true → name_if_any (port_name bs n) ≡ true
  port_named [] n k = refl
  port_named (b ∷ bs) n k =
      let a = and_parts (is_name b.0 && is_of w.design b.1) (arguments_fit w.design bs) k in
      port_if (is_it n (signal_in b.1)) b.0 (port_name bs n) (and_parts (is_name b.0) (is_of w.design b.1) a.0).0 (port_named bs n a.1)

  pub signal_named : (top : ℕ) (bs : Bindings) (n : ℕ) → arguments_fit w.design bs ≡ true → is_name (signal_path w top bs n) ≡ true
  signal_named top bs n k =
      or_named (port_name bs n) (path_of w top (no_label (slice_get w.marks.signals n))) (port_named bs n k) (path_of_named top (no_label (slice_get w.marks.signals n)) (mark_there n (slice_get w.marks.signals n) refl))

  note_there : (n : ℕ) (o : Option ListNote) → slice_get w.marks.lists n ≡ o → label_fits (option_and_then (λ x. x.label) o) ≡ true
  note_there n None e = refl
  note_there n (Some x) e = all_at note_fits w.marks.lists n x h.notes e

  pub list_named : (top n : ℕ) → is_name (list_path w top n) ≡ true
  list_named top n = path_of_named top (option_and_then (λ x. x.label) (slice_get w.marks.lists n)) (note_there n (slice_get w.marks.lists n) refl)

  label_if : (b : Bool) (p : Label) (o : Option Label) → is_name p.words ≡ true → label_fits o ≡ true → label_fits (if b then Some p else o) ≡ true
  label_if true p o k q = k
  label_if false p o k q = q

  tuple_there : (ts : List (List Const × Label)) (zs : List ℤ) → list_all (tuple_fits w.design) ts ≡ true → label_fits (tuple_label ts zs) ≡ true
  tuple_there [] zs k = refl
  tuple_there (t ∷ ts) zs k =
      let a = and_parts (tuple_fits w.design t) (list_all (tuple_fits w.design) ts) k in
      label_if (are_these zs t.0) t.1 (tuple_label ts zs) (and_parts (are_of w.design t.0) (is_name t.1.words) a.0).1 (tuple_there ts zs a.1)

  pub table_named : (top : ℕ) (zs : List ℤ) → is_name (table_path w top zs) ≡ true
  table_named top zs = path_of_named top (tuple_label w.tuples zs) (tuple_there w.tuples zs h.tuples)

  -- ---- parameters whose arguments are lists

  listed_if : (b : Bool) (t : List ℕ) (ts : List (List ℕ)) → is_name t ≡ true → list_all is_name ts ≡ true → list_all is_name (if b then t ∷ ts else ts) ≡ true
  listed_if true t ts k q = and_from (is_name t) (list_all is_name ts) k q
  listed_if false t ts k q = q

  pub listed_named : (bs : Bindings) → arguments_fit w.design bs ≡ true → list_all is_name (listed_in w bs) ≡ true
  listed_named [] k = refl
  listed_named (b ∷ bs) k =
      let a = and_parts (is_name b.0 && is_of w.design b.1) (arguments_fit w.design bs) k in
      listed_if (is_listed_in w.lists (out-Const b.1)) b.0 (listed_among w.lists bs) (and_parts (is_name b.0) (is_of w.design b.1) a.0).0 (listed_named bs a.1)
