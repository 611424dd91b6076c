-- What labelling does to marks: labels have names, as many things are marked as before, and what isn't
-- changed any more still isn't.
use Rattle.std.proofs.Common.{◌≡◌, ℕ, zero, suc, ◌+◌, ◌<◌, ◌/◌, ◌%◌, Bool, true, false, ◌&&◌, List, [], ◌∷◌, ◌++◌, length, Option, Some, None, refl, ap, sym, ◌∙◌, pos, arith, if◌then◌else◌, slice_get}
use Rattle.std.specs.Prelude.{◌||◌, ◌==◌, nat_lt}
use Rattle.std.specs.Char.{is_ascii_alphanumeric}
use Rattle.std.specs.List.{list_all}
use Rattle.std.specs.Option.{option_map, option_map_or}
use Rattle.std.proofs.lemmas.Bool.{and_from, ltb-false}
use Rattle.std.proofs.lemmas.Bool.Decides.{nat_tests}
use Rattle.std.proofs.lemmas.List.{length-set}
use Rattle.std.proofs.lemmas.List.Folds.{list_all-append}
use Rattle.std.specs.Fmt.{digit_glyph, digits_onto, digits}
use Rattle.mh_text.specs.Decimal.{decimal_text}
use Rattle.mh_consts.specs.declared.kinds.Const.{Const, out-Const}
use Rattle.mh_consts.specs.declared.kinds.Const.TheOpen.{Const-F}
use Rattle.mh_design.specs.WellFormed.{is_name}
use Rattle.mh_world.specs.declared.kinds.Label.{Label}
use Rattle.mh_world.specs.declared.kinds.ListNote.{ListNote}
use Rattle.mh_world.specs.declared.kinds.Marks.{Marks}
use Rattle.mh_world.specs.World.{changed}
use Rattle.mh_world.specs.Named.{element, label_signal_at, label_signal, label_of_list, put_label, with_label, items_of, Labelling, label_items, label_list, label_step, label_through, labelled}
use Rattle.mh_world_laws.specs.Fits.{label_fits, note_fits}
use Rattle.mh_world_laws.proofs.Lists.{all_set, all_changed, length_changed, kept_changed}

-- ---- digits are names

glyph_by : (d : ℕ) (b : Bool) → nat_lt d 10 ≡ b → d < 10 → (is_ascii_alphanumeric (if b then 48 + d else 87 + d) || (if b then 48 + d else 87 + d) == 95) ≡ true
glyph_by d true e h = grind (arith, nat_tests)
glyph_by d false e h = absurd (omega (arith, ltb-false d 10 e))

glyph_named : (n : ℕ) → (is_ascii_alphanumeric (digit_glyph false (n % 10)) || digit_glyph false (n % 10) == 95) ≡ true
glyph_named n = glyph_by (n % 10) (nat_lt (n % 10) 10) refl (omega arith)

named_if : (b : Bool) (xs ys : List ℕ) → is_name xs ≡ true → is_name ys ≡ true → is_name (if b then xs else ys) ≡ true
named_if true xs ys h k = h
named_if false xs ys h k = k

onto_named : (k n : ℕ) (ds : List ℕ) → is_name ds ≡ true → is_name (digits_onto k 10 false n ds) ≡ true
onto_named zero n ds h = h
onto_named (suc k) n ds h =
    let more : is_name (digit_glyph false (n % 10) ∷ ds) ≡ true = and_from (is_ascii_alphanumeric (digit_glyph false (n % 10)) || digit_glyph false (n % 10) == 95) (is_name ds) (glyph_named n) h in
    named_if (n / 10 == 0) (digit_glyph false (n % 10) ∷ ds) (digits_onto k 10 false (n / 10) (digit_glyph false (n % 10) ∷ ds)) more (onto_named k (n / 10) (digit_glyph false (n % 10) ∷ ds) more)

decimal_named : (n : ℕ) → is_name (decimal_text (pos n)) ≡ true
unfolding digits
decimal_named n = onto_named 64 n [] refl

pub element_named : (p : Label) (i : ℕ) → is_name p.words ≡ true → is_name (element p i).words ≡ true
element_named p i h =
    list_all-append (λ c. is_ascii_alphanumeric c || c == 95) p.words (95 ∷ decimal_text (pos i)) ∙ and_from (is_name p.words) (is_name (95 ∷ decimal_text (pos i))) h (decimal_named i)

-- ---- marks

abbrev pub is_fixed_in : List ListNote → ℕ → Bool
is_fixed_in xs n = option_map_or (λ x. x.frozen) (slice_get xs n) false

-- the second has what the first had, and labels
pub record Marked (k l : Marks) : Type 0 where
  pub signals : list_all label_fits k.signals ≡ true → list_all label_fits l.signals ≡ true
  pub lists : list_all note_fits k.lists ≡ true → list_all note_fits l.lists ≡ true
  pub count_signals : length l.signals ≡ length k.signals
  pub count_lists : length l.lists ≡ length k.lists
  pub fixed : (n : ℕ) → is_fixed_in k.lists n ≡ true → is_fixed_in l.lists n ≡ true

pub marked_self : (k : Marks) → Marked k k
marked_self k = record { signals = λ h. h; lists = λ h. h; count_signals = refl; count_lists = refl; fixed = λ n h. h }

pub marked_on : (k l m : Marks) → Marked k l → Marked l m → Marked k m
marked_on k l m x y = record {
  signals = λ h. y.signals (x.signals h);
  lists = λ h. y.lists (x.lists h);
  count_signals = y.count_signals ∙ x.count_signals;
  count_lists = y.count_lists ∙ x.count_lists;
  fixed = λ n h. y.fixed n (x.fixed n h);
}

-- ---- labels

signal_by : (p : Label) (n : ℕ) (o : Option (Option Label)) (k : Marks) → is_name p.words ≡ true → Marked k (label_signal_at p n o k)
signal_by p n (Some None) k q = record {
  signals = λ h. all_set label_fits k.signals n (Some p) h q;
  lists = λ h. h;
  count_signals = length-set k.signals n (Some p);
  count_lists = refl;
  fixed = λ m h. h;
}
signal_by p n (Some (Some r)) k q = marked_self k
signal_by p n None k q = marked_self k

list_labelled : (p : Label) (n : ℕ) (k : Marks) → is_name p.words ≡ true → Marked k (with_label p n k)
list_labelled p n k q = record {
  signals = λ h. h;
  lists = λ h. all_changed note_fits (put_label p) k.lists n (λ x r. q) h;
  count_signals = refl;
  count_lists = length_changed (put_label p) k.lists n;
  fixed = λ m h. kept_changed (λ (x : ListNote). x.frozen) (put_label p) k.lists n m (λ x r. r) h;
}

module _ (ls : List (List Const)) (f : Labelling) (marks : (p : Label) (v : Const) (k : Marks) → is_name p.words ≡ true → Marked k (f p v k)) where
  items_marked : (p : Label) (i : ℕ) (vs : List Const) (k : Marks) → is_name p.words ≡ true → Marked k (label_items f p i vs k)
  items_marked p i [] k q = marked_self k
  items_marked p i (v ∷ vs) k q =
      marked_on k (f (element p i) v k) (label_items f p (i + 1) vs (f (element p i) v k)) (marks (element p i) v k (element_named p i q)) (items_marked p (i + 1) vs (f (element p i) v k) q)

  list_marked : (vs : List Const) (o : Option Label) (p : Label) (n : ℕ) (k : Marks) → is_name p.words ≡ true → Marked k (label_list f vs o p n k)
  list_marked vs (Some r) p n k q = marked_self k
  list_marked vs None p n k q = marked_on k (with_label p n k) (label_items f p 0 vs (with_label p n k)) (list_labelled p n k q) (items_marked p 0 vs (with_label p n k) q)

  step_marked : (p : Label) (x : Const-F Const) (k : Marks) → is_name p.words ≡ true → Marked k (label_step ls f p x k)
  step_marked p (Const-F.Signal n kind) k q = signal_by p n (slice_get k.signals n) k q
  step_marked p (Const-F.List n) k q = list_marked (items_of (slice_get ls n)) (label_of_list k n) p n k q
  step_marked p Const-F.None k q = marked_self k
  step_marked p (Const-F.Int n) k q = marked_self k
  step_marked p (Const-F.Truth b) k q = marked_self k
  step_marked p (Const-F.Str t) k q = marked_self k
  step_marked p (Const-F.Delay n) k q = marked_self k
  step_marked p (Const-F.EnumType n names) k q = marked_self k
  step_marked p (Const-F.Item n place) k q = marked_self k
  step_marked p (Const-F.Bounded v b) k q = marked_self k
  step_marked p (Const-F.Edge n rising) k q = marked_self k
  step_marked p (Const-F.Range a b step) k q = marked_self k
  step_marked p (Const-F.Tuple items) k q = marked_self k
  step_marked p (Const-F.Function n) k q = marked_self k
  step_marked p (Const-F.Instance n) k q = marked_self k
  step_marked p (Const-F.Generator n) k q = marked_self k
  step_marked p (Const-F.Builtin b) k q = marked_self k

through_marked : (ls : List (List Const)) (n : ℕ) (p : Label) (v : Const) (k : Marks) → is_name p.words ≡ true → Marked k (label_through ls n p v k)
through_marked ls zero p v k q = marked_self k
through_marked ls (suc n) p v k q = step_marked ls (label_through ls n) (λ r u m s. through_marked ls n r u m s) p (out-Const v) k q

pub labelled_marks : (ls : List (List Const)) (p : Label) (v : Const) (k : Marks) → is_name p.words ≡ true → Marked k (labelled ls p v k)
labelled_marks ls p v k q = through_marked ls (length ls + 1) p v k q
