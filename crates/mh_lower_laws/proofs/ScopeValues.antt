-- The value of a plain expression is of the design that the scope is of.
use Rattle.std.proofs.Common.{◌≡◌, ℕ, ℤ, pos, negsuc, ◌-◌, ◌^◌, ◌<◌, ◌-ℤ◌, ◌≤ℤ◌, Bool, true, false, not, ◌&&◌, T, List, [], ◌∷◌, length, Option, Some, None, Result, Ok, Err, IfOk, refl, ap, sym, ◌∙◌, subst, arith, if◌then◌else◌}
use Rattle.std.specs.Ordering.{int_eq}
use Rattle.std.specs.Prelude.{nat_eq, nat_lt, nat_le, int_le, int_lt, slice_get, bytes_eq, codes, drop, position}
use Rattle.std.specs.List.{list_all}
use Rattle.std.specs.Option.{option_map_or}
use Rattle.std.specs.Int.Signed.{le_z}
use Rattle.std.proofs.lemmas.Bool.{and_parts, and_from}
use Rattle.std.proofs.lemmas.Int.{ints}
use Rattle.mh_codes.specs.Integers.{slice_of, inverse_of}
use Rattle.mh_codes.specs.Ranges.{is_inside}
use Rattle.mh_codes.specs.Widths.{width_of, is_signed}
use Rattle.mh_codes.specs.Codes.{Fits}
use Rattle.mh_codes.proofs.Slices.{slice_below}
use Rattle.mh_codes.proofs.WidthLaws.{fits-width_of}
use Rattle.mh_codes.proofs.Numbers.{fits_inverse}
use Rattle.mh_num.specs.Results.{in_i128, amount_of}
use Rattle.mh_num.specs.declared.bounds.Bounds.{Bounds}
use Rattle.mh_text.specs.declared.code.Code.{Code}
use Rattle.mh_text.specs.declared.code.Code.TheVariants.{E1UnknownName, E4BadRange, E5TooWide, E10KindClash}
use Rattle.mh_pytree.specs.declared.expression.Operator.{Operator}
use Rattle.mh_pytree.specs.declared.expression.Operator.TheVariants as op
use Rattle.mh_pytree.specs.declared.expression.Sign.{Sign}
use Rattle.mh_pytree.specs.declared.expression.Sign.TheVariants as sign
use Rattle.mh_consts.specs.declared.kinds.Builtin.{Builtin}
use Rattle.mh_consts.specs.declared.kinds.Builtin.TheVariants as builtin
use Rattle.mh_consts.specs.declared.kinds.SignalKind.{SignalKind}
use Rattle.mh_consts.specs.declared.kinds.SignalKind.TheVariants as held
use Rattle.mh_consts.specs.declared.kinds.Const.{Const, out-Const}
use Rattle.mh_consts.specs.declared.kinds.Const.TheOpen.{Const-F}
use Rattle.mh_consts.specs.declared.kinds.Const.TheVariants as c
use Rattle.mh_consts.specs.declared.scope.Scope.{Scope}
use Rattle.mh_consts.specs.Expression as x
use Rattle.mh_consts.specs.Expression.{Ex, Exs, Head, Keys}
use Rattle.mh_consts.specs.Names.{lookup}
use Rattle.mh_consts.specs.Outcome.{Outcome, after, given, part, integer}
use Rattle.mh_consts.specs.Numbers.{operand, truth, content, argument, converted, is_not_zero, allowed, bounds_of}
use Rattle.mh_consts.specs.Operators as operators
use Rattle.mh_consts.specs.Places as places
use Rattle.mh_consts.specs.Builtins as calls
use Rattle.mh_consts.specs.Constant.{with_one, with_two, with_three, applied, conjunction, disjunction, is_valued, value, values, is_plain_builtin, is_plain_step, names_plain, plain_name, is_plain_head, is_plain, are_plain}
use Rattle.mh_consts.specs.Constant as constants
use Rattle.mh_consts.proofs.Values.{out-none, out-int, out-truth, out-str, out-item, out-bounded, out-edge, out-range, out-tuple}
use Rattle.mh_design.specs.declared.design.Design.{Design}
use Rattle.mh_design.specs.declared.design.Kind.{Kind}
use Rattle.mh_design.specs.declared.design.Kind.TheVariants as kind
use Rattle.mh_design.specs.Kinds.{signal_kind}
use Rattle.mh_design.specs.Statements.{is_bool_kind}
use Rattle.mh_design.specs.WellFormed.{same_kind}
use Rattle.mh_lower_laws.specs.Holds.{is_signal, is_of}
use Rattle.mh_lower_laws.proofs.Basics.{all_at}
use Rattle.mh_lower_laws.proofs.OfDesign.{step_of, is_of-out}
use Rattle.mh_lower_laws.proofs.Stepping.{ok_after, ok_given, ok_if}

-- ---- bounds and ranges

pub inside_bits : (w n : ℕ) → n < 2 ^ w → is_inside (pos 0) (pos (2 ^ w - 1)) (pos n) ≡ true
inside_bits w n h = grind (arith, ints)

inside_between : (low high v : ℤ) → (int_le low v && int_lt v high) ≡ true → is_inside low (high -ℤ pos 1) v ≡ true
inside_between low high v h = grind (arith, ints)

inside_low : (lo top v : ℤ) → is_inside lo top v ≡ true → lo ≤ℤ v
inside_low lo top v e = grind (arith, ints)

inside_high : (lo top v : ℤ) → is_inside lo top v ≡ true → v ≤ℤ top
inside_high lo top v e = grind (arith, ints)

-- what is made of two tests
allowed_gives : {A X : Type 0} (a b : Bool) (f : T a → T b → A) (g : A → X) (y : X) → ((p : T a) (q : T b) → g (f p q) ≡ y) → (r : A) → allowed a b f ≡ Some r → g r ≡ y
allowed_gives true true f g y h r e = let q : f tt tt ≡ r = cc in ap g (sym q) ∙ h tt tt
allowed_gives true false f g y h r e = absurd (cc)
allowed_gives false b f g y h r e = absurd (cc)

lower_end : (lo top : ℤ) (wraps : Bool) (b : Bounds) → bounds_of lo top wraps ≡ Some b → b.lo ≡ lo
unfolding bounds_of
lower_end lo top wraps b e = allowed_gives (le_z lo top) _ _ (λ (r : Bounds). r.lo) lo (λ p q. refl) b e

upper_end : (lo top : ℤ) (wraps : Bool) (b : Bounds) → bounds_of lo top wraps ≡ Some b → b.top ≡ top
unfolding bounds_of
upper_end lo top wraps b e = allowed_gives (le_z lo top) _ _ (λ (r : Bounds). r.top) top (λ p q. refl) b e

inside_made : (lo top v : ℤ) (wraps : Bool) (b : Bounds) → bounds_of lo top wraps ≡ Some b → is_inside lo top v ≡ true → is_inside b.lo b.top v ≡ true
inside_made lo top v wraps b e h = ap (λ l. is_inside l b.top v) (lower_end lo top wraps b e) ∙ ap (λ t. is_inside lo t v) (upper_end lo top wraps b e) ∙ h

-- the inverse of what has no sign
inverse_by : (w : ℕ) (z : ℤ) → Fits false w z → is_inside (pos 0) (pos (2 ^ w - 1)) z ≡ true
inverse_by w (pos n) f = inside_bits w n f
inverse_by w (negsuc n) f = absurd f

inverse_inside : (lo top v : ℤ) → is_signed lo ≡ false → is_inside lo top v ≡ true → is_inside (pos 0) (pos (2 ^ width_of lo top - 1)) (inverse_of (width_of lo top) v) ≡ true
inverse_inside lo top v s h =
    let w : ℕ = width_of lo top in
    inverse_by (width_of lo top) (inverse_of (width_of lo top) v) (fits_inverse (width_of lo top) v (subst (λ t. Fits t (width_of lo top) v) s (fits-width_of lo top v (inside_low lo top v h) (inside_high lo top v h))))

in_i128_is : (z y : ℤ) → in_i128 z ≡ Some y → y ≡ z
in_i128_is z y h = by_test _ h
  where
    by_test : (b : Bool) → (if b then Some z else None) ≡ Some y → y ≡ z
    by_test true e = let q : z ≡ y = cc in sym q
    by_test false e = absurd (cc)

module _ (d : Design) where
  abbrev Of : Const → Type 0
  Of v = is_of d v ≡ true

  abbrev AllOf : List Const → Type 0
  AllOf vs = list_all (is_of d) vs ≡ true

  -- ---- what is made

  pub of_none : Of c.None
  of_none = is_of-out d c.None ∙ ap (step_of d) out-none

  pub of_int : (n : ℤ) → Of (c.Int n)
  of_int n = is_of-out d (c.Int n) ∙ ap (step_of d) (out-int n)

  pub of_truth : (b : Bool) → Of (c.Truth b)
  of_truth b = is_of-out d (c.Truth b) ∙ ap (step_of d) (out-truth b)

  pub of_str : (t : List ℕ) → Of (c.Str t)
  of_str t = is_of-out d (c.Str t) ∙ ap (step_of d) (out-str t)

  pub of_item : (n place : ℕ) → Of (c.Item n place)
  of_item n place = is_of-out d (c.Item n place) ∙ ap (step_of d) (out-item n place)

  pub of_range : (a b step : ℤ) → Of (c.Range a b step)
  of_range a b step = is_of-out d (c.Range a b step) ∙ ap (step_of d) (out-range a b step)

  pub of_edge : (n : ℕ) (rising : Bool) → option_map_or is_bool_kind (signal_kind d n) false ≡ true → Of (c.Edge n rising)
  of_edge n rising h = is_of-out d (c.Edge n rising) ∙ ap (step_of d) (out-edge n rising) ∙ h

  pub of_bounded : (v : ℤ) (b : Bounds) → is_inside b.lo b.top v ≡ true → Of (c.Bounded v b)
  of_bounded v b h = is_of-out d (c.Bounded v b) ∙ ap (step_of d) (out-bounded v b) ∙ h

  pub of_tuple : (vs : List Const) → AllOf vs → Of (c.Tuple vs)
  of_tuple vs h = is_of-out d (c.Tuple vs) ∙ ap (step_of d) (out-tuple vs) ∙ h

  pub opened : (v : Const) → Of v → step_of d (out-Const v) ≡ true
  opened v h = sym (is_of-out d v) ∙ h

  -- ---- operators

  integer_fine : (o : Option ℤ) → IfOk (integer o) Of
  integer_fine (Some n) = of_int n
  integer_fine None = tt

  pub any_number : (r : Result ℤ Code) (f : ℤ → Outcome) → ((n : ℤ) → IfOk (f n) Of) → IfOk (after r f) Of
  any_number (Ok n) f h = h n
  any_number (Err code) f h = tt

  pub any_truth : (r : Result Bool Code) (f : Bool → Outcome) → ((b : Bool) → IfOk (f b) Of) → IfOk (after r f) Of
  any_truth (Ok b) f h = h b
  any_truth (Err code) f h = tt

  pub bits_fine : (w : ℕ) (wraps : Bool) (v : ℤ) → is_inside (pos 0) (pos (2 ^ w - 1)) v ≡ true → IfOk (operators.bits w wraps v) Of
  bits_fine w wraps v h = ok_given Of (bounds_of (pos 0) (pos (2 ^ w - 1)) wraps) E5TooWide _ (λ b e. of_bounded v b (inside_made (pos 0) (pos (2 ^ w - 1)) v wraps b e h))

  inverse_fine : (lo top v : ℤ) (o : Option ℤ) → in_i128 (inverse_of (width_of lo top) v) ≡ o → is_signed lo ≡ false → is_inside lo top v ≡ true → IfOk (operators.bits_of_inverse (width_of lo top) o) Of
  inverse_fine lo top v (Some n) e s h =
      bits_fine (width_of lo top) false n (ap (is_inside (pos 0) (pos (2 ^ width_of lo top - 1))) (in_i128_is (inverse_of (width_of lo top) v) n e) ∙ inverse_inside lo top v s h)
  inverse_fine lo top v None e s h = tt

  inverted_fine : (x : Const-F Const) → step_of d x ≡ true → IfOk (operators.inverted_step x) Of
  inverted_fine Const-F.None h = tt
  inverted_fine (Const-F.Int n) h = tt
  inverted_fine (Const-F.Truth b) h = tt
  inverted_fine (Const-F.Str t) h = tt
  inverted_fine (Const-F.Delay n) h = tt
  inverted_fine (Const-F.EnumType n names) h = tt
  inverted_fine (Const-F.Item n place) h = tt
  inverted_fine (Const-F.Bounded v b) h = ok_if Of (is_signed b.lo) (Err E10KindClash) _ (λ s. tt) (λ s. inverse_fine b.lo b.top v (in_i128 (inverse_of (width_of b.lo b.top) v)) refl s h)
  inverted_fine (Const-F.Signal n k) h = tt
  inverted_fine (Const-F.Edge n rising) h = tt
  inverted_fine (Const-F.Range a b step) h = tt
  inverted_fine (Const-F.List n) h = tt
  inverted_fine (Const-F.Tuple items) h = tt
  inverted_fine (Const-F.Function n) h = tt
  inverted_fine (Const-F.Instance n) h = tt
  inverted_fine (Const-F.Generator n) h = tt
  inverted_fine (Const-F.Builtin b) h = tt

  pub signed_fine : (o : Sign) (v : Const) → Of v → IfOk (operators.signed o v) Of
  signed_fine sign.Minus v h = any_number (operand v) _ (λ n. integer_fine (in_i128 (pos 0 -ℤ n)))
  signed_fine sign.Plus v h = any_number (operand v) _ (λ n. of_int n)
  signed_fine sign.Invert v h = inverted_fine (out-Const v) (opened v h)

  shifted_fine : (k : Option ℕ) (r : Option ℤ) → IfOk (operators.shifted k r) Of
  shifted_fine None r = tt
  shifted_fine (Some k) r = integer_fine r

  divided_fine : (o : Option ℤ) → IfOk (operators.divided o) Of
  divided_fine None = tt
  divided_fine (Some n) = of_int n

  computed_fine : (o : Operator) (n m : ℤ) → IfOk (operators.computed o n m) Of
  computed_fine op.Or n m = tt
  computed_fine op.And n m = tt
  computed_fine op.Equal n m = tt
  computed_fine op.NotEqual n m = tt
  computed_fine op.Less n m = of_truth _
  computed_fine op.LessEqual n m = of_truth _
  computed_fine op.Greater n m = of_truth _
  computed_fine op.GreaterEqual n m = of_truth _
  computed_fine op.BitOr n m = of_int _
  computed_fine op.BitXor n m = of_int _
  computed_fine op.BitAnd n m = of_int _
  computed_fine op.ShiftLeft n m = shifted_fine (amount_of m) _
  computed_fine op.ShiftRight n m = shifted_fine (amount_of m) _
  computed_fine op.Add n m = integer_fine _
  computed_fine op.Subtract n m = integer_fine _
  computed_fine op.Multiply n m = integer_fine _
  computed_fine op.Divide n m = divided_fine _
  computed_fine op.Remainder n m = divided_fine _

  combined_fine : (o : Operator) (a b : Bool) → IfOk (operators.combined o a b) Of
  combined_fine op.Or a b = tt
  combined_fine op.And a b = tt
  combined_fine op.Equal a b = tt
  combined_fine op.NotEqual a b = tt
  combined_fine op.Less a b = tt
  combined_fine op.LessEqual a b = tt
  combined_fine op.Greater a b = tt
  combined_fine op.GreaterEqual a b = tt
  combined_fine op.BitOr a b = of_truth _
  combined_fine op.BitXor a b = of_truth _
  combined_fine op.BitAnd a b = of_truth _
  combined_fine op.ShiftLeft a b = tt
  combined_fine op.ShiftRight a b = tt
  combined_fine op.Add a b = tt
  combined_fine op.Subtract a b = tt
  combined_fine op.Multiply a b = tt
  combined_fine op.Divide a b = tt
  combined_fine op.Remainder a b = tt

  numbers_fine : (o : Operator) (a b : Const) → IfOk (operators.numbers o a b) Of
  numbers_fine o a b = any_number (operand a) _ (λ n. any_number (operand b) _ (λ m. computed_fine o n m))

  bits_of_fine : (o : Operator) (a b : Option Bool) (r : Outcome) → IfOk r Of → IfOk (operators.bits_of o a b r) Of
  bits_of_fine o (Some a) (Some b) r h = combined_fine o a b
  bits_of_fine o (Some a) None r h = h
  bits_of_fine o None b r h = h

  pub operated_fine : (o : Operator) (a b : Const) → IfOk (operators.operated o a b) Of
  operated_fine op.Or a b = tt
  operated_fine op.And a b = tt
  operated_fine op.Equal a b = truths_fine (operators.equal a b)
    where
      truths_fine : (r : Result Bool Code) → IfOk (Rattle.mh_consts.specs.Outcome.truth_value r) Of
      truths_fine (Ok t) = of_truth t
      truths_fine (Err code) = tt
  operated_fine op.NotEqual a b = any_truth (operators.equal a b) _ (λ t. of_truth (not t))
  operated_fine op.Less a b = numbers_fine op.Less a b
  operated_fine op.LessEqual a b = numbers_fine op.LessEqual a b
  operated_fine op.Greater a b = numbers_fine op.Greater a b
  operated_fine op.GreaterEqual a b = numbers_fine op.GreaterEqual a b
  operated_fine op.BitOr a b = bits_of_fine op.BitOr _ _ _ (numbers_fine op.BitOr a b)
  operated_fine op.BitXor a b = bits_of_fine op.BitXor _ _ _ (numbers_fine op.BitXor a b)
  operated_fine op.BitAnd a b = bits_of_fine op.BitAnd _ _ _ (numbers_fine op.BitAnd a b)
  operated_fine op.ShiftLeft a b = numbers_fine op.ShiftLeft a b
  operated_fine op.ShiftRight a b = numbers_fine op.ShiftRight a b
  operated_fine op.Add a b = numbers_fine op.Add a b
  operated_fine op.Subtract a b = numbers_fine op.Subtract a b
  operated_fine op.Multiply a b = numbers_fine op.Multiply a b
  operated_fine op.Divide a b = numbers_fine op.Divide a b
  operated_fine op.Remainder a b = numbers_fine op.Remainder a b

  -- ---- attributes, indices and slices

  item_fine : (n : ℕ) (o : Option ℕ) → IfOk (places.item_at n o) Of
  item_fine n None = tt
  item_fine n (Some place) = ok_if Of (nat_lt place (2 ^ 32)) _ _ (λ e. of_item n place) (λ e. tt)

  bound_fine : (name : List ℕ) (b : Bounds) → IfOk (places.bound_named name b) Of
  bound_fine name b = ok_if Of (bytes_eq name (codes "min")) _ _ (λ e. of_int b.lo) (λ e. ok_if Of (bytes_eq name (codes "max")) _ _ (λ f. integer_fine _) (λ f. tt))

  truth_kind : (o : Option Kind) → option_map_or (same_kind kind.Bool) o false ≡ true → option_map_or is_bool_kind o false ≡ true
  truth_kind None h = h
  truth_kind (Some kind.Bool) h = refl
  truth_kind (Some kind.Int) h = absurd (cc)
  truth_kind (Some (kind.Bits b)) h = absurd (cc)
  truth_kind (Some (kind.Item e)) h = absurd (cc)

  edge_fine : (n : ℕ) (k : SignalKind) (rising : Bool) → is_signal d n k ≡ true → IfOk (places.edge n k rising) Of
  edge_fine n held.Truth rising h = of_edge n rising (truth_kind (signal_kind d n) h)
  edge_fine n held.Integer rising h = tt
  edge_fine n (held.Bounded b) rising h = tt
  edge_fine n (held.Item e) rising h = tt

  signal_bound_fine : (name : List ℕ) (k : SignalKind) → IfOk (places.signal_bound name k) Of
  signal_bound_fine name held.Truth = tt
  signal_bound_fine name held.Integer = tt
  signal_bound_fine name (held.Bounded b) = bound_fine name b
  signal_bound_fine name (held.Item e) = tt

  signal_fine : (name : List ℕ) (n : ℕ) (k : SignalKind) → is_signal d n k ≡ true → IfOk (places.of_signal name n k) Of
  signal_fine name n k h = ok_if Of (bytes_eq name (codes "next")) _ _ (λ e. tt)
      (λ e. ok_if Of (bytes_eq name (codes "posedge")) _ _ (λ f. edge_fine n k true h)
      (λ f. ok_if Of (bytes_eq name (codes "negedge")) _ _ (λ g. edge_fine n k false h) (λ g. signal_bound_fine name k)))

  pub attribute_fine : (name : List ℕ) (x : Const-F Const) → step_of d x ≡ true → IfOk (places.attribute_step name x) Of
  attribute_fine name Const-F.None h = tt
  attribute_fine name (Const-F.Int n) h = tt
  attribute_fine name (Const-F.Truth b) h = tt
  attribute_fine name (Const-F.Str t) h = tt
  attribute_fine name (Const-F.Delay n) h = tt
  attribute_fine name (Const-F.EnumType n names) h = item_fine n (position (bytes_eq name) names)
  attribute_fine name (Const-F.Item n place) h = tt
  attribute_fine name (Const-F.Bounded v b) h = bound_fine name b
  attribute_fine name (Const-F.Signal n k) h = signal_fine name n k h
  attribute_fine name (Const-F.Edge n rising) h = tt
  attribute_fine name (Const-F.Range a b step) h = tt
  attribute_fine name (Const-F.List n) h = tt
  attribute_fine name (Const-F.Tuple items) h = tt
  attribute_fine name (Const-F.Function n) h = tt
  attribute_fine name (Const-F.Instance n) h = tt
  attribute_fine name (Const-F.Generator n) h = tt
  attribute_fine name (Const-F.Builtin b) h = tt

  -- an item among those that are of the design
  pub given_fine : (vs : List Const) (i : ℕ) (code : Code) → AllOf vs → IfOk (given (slice_get vs i) code) Of
  given_fine vs i code h = by_item (slice_get vs i) refl
    where
      by_item : (o : Option Const) → slice_get vs i ≡ o → IfOk (given o code) Of
      by_item None e = tt
      by_item (Some v) e = all_at (is_of d) vs i v h e

  pub any_place : (r : Result ℕ Code) (f : ℕ → Outcome) → ((i : ℕ) → IfOk (f i) Of) → IfOk (after r f) Of
  any_place (Ok i) f h = h i
  any_place (Err code) f h = tt

  pub item_of_fine : (vs : List Const) (at : Const) → AllOf vs → IfOk (places.item_of vs at) Of
  item_of_fine vs at h = any_place (places.place (length vs) at) _ (λ i. given_fine vs i E4BadRange h)

  within_fine : (w : ℕ) (wraps : Bool) (v i j : ℤ) → IfOk (places.slice_within w wraps v i j) Of
  within_fine w wraps v (pos i) (pos j) = ok_if Of (nat_lt j i && nat_le i w) _ _ (λ e. bits_fine (i - j) wraps (pos (slice_of i j v)) (inside_bits (i - j) (slice_of i j v) (slice_below i j v))) (λ e. tt)
  within_fine w wraps v (pos i) (negsuc j) = tt
  within_fine w wraps v (negsuc i) j = tt

  pub slice_fine : (x : Const-F Const) (upper : Const) (lower : Result ℤ Code) → IfOk (places.slice_step x upper lower) Of
  slice_fine Const-F.None upper lower = tt
  slice_fine (Const-F.Int n) upper lower = tt
  slice_fine (Const-F.Truth b) upper lower = tt
  slice_fine (Const-F.Str t) upper lower = tt
  slice_fine (Const-F.Delay n) upper lower = tt
  slice_fine (Const-F.EnumType n names) upper lower = tt
  slice_fine (Const-F.Item n place) upper lower = tt
  slice_fine (Const-F.Bounded v b) upper lower = any_number (operand upper) _ (λ i. any_number lower _ (λ j. within_fine (width_of b.lo b.top) b.wraps v i j))
  slice_fine (Const-F.Signal n k) upper lower = tt
  slice_fine (Const-F.Edge n rising) upper lower = tt
  slice_fine (Const-F.Range a b step) upper lower = tt
  slice_fine (Const-F.List n) upper lower = tt
  slice_fine (Const-F.Tuple items) upper lower = tt
  slice_fine (Const-F.Function n) upper lower = tt
  slice_fine (Const-F.Instance n) upper lower = tt
  slice_fine (Const-F.Generator n) upper lower = tt
  slice_fine (Const-F.Builtin b) upper lower = tt

  low_bits_fine : (wraps : Bool) (v n : ℤ) → IfOk (places.low_bits wraps v n) Of
  low_bits_fine wraps v n = ok_if Of (int_lt n (pos 1)) _ _ (λ e. tt) (λ e. ok_if Of (int_lt (pos 127) n) _ _ (λ f. tt) (λ f. within_fine 127 wraps v n (pos 0)))

  resized_fine : (wraps : Bool) (base n : Const) → IfOk (places.resized wraps base n) Of
  resized_fine wraps base n = any_number (operand base) _ (λ v. any_number (operand n) _ (λ k. low_bits_fine wraps v k))

  pub from_fine : (base upper : Const) → IfOk (places.sliced_from base upper) Of
  from_fine base upper = slice_fine (out-Const base) upper (Ok (pos 0))

  -- ---- calls

  -- what is given in this way gives a value of the design
  record Ways {F : Type 0} (outcome : F → Outcome) (f : F) : Type 0 where
    pub fine : IfOk (outcome f) Of

  whichever : {F : Type 0} (outcome : F → Outcome) (b : Bool) (f g : F) → Ways outcome f → Ways outcome g → Ways outcome (if b then f else g)
  whichever outcome true f g p q = p
  whichever outcome false f g p q = q

  stepped_fine : (a b n : ℤ) → IfOk (calls.stepped a b n) Of
  stepped_fine a b n = ok_if Of (int_eq n (pos 0)) (Err E4BadRange) (Ok (c.Range a b n)) (λ e. tt) (λ e. of_range a b n)

  range_step_fine : (a b n : Result ℤ Code) → IfOk (calls.range_step a b n) Of
  range_step_fine a b n = any_number a _ (λ x. any_number b _ (λ y. any_number n _ (λ z. stepped_fine x y z)))

  pub range_fine : (vs : List Const) → IfOk (calls.range vs) Of
  range_fine [] = tt
  range_fine (b ∷ []) = range_step_fine (Ok (pos 0)) (argument b) (Ok (pos 1))
  range_fine (a ∷ b ∷ []) = range_step_fine (argument a) (argument b) (Ok (pos 1))
  range_fine (a ∷ b ∷ n ∷ []) = range_step_fine (argument a) (argument b) (argument n)
  range_fine (a ∷ b ∷ n ∷ v ∷ vs) = tt

  down_fine : (a b n : ℤ) → IfOk (calls.down a b n) Of
  down_fine a b n = any_number (calls.one_less a) _ (λ x. any_number (calls.one_less b) _ (λ y. any_number (calls.opposite n) _ (λ z. stepped_fine x y z)))

  downrange_step_fine : (a b n : Result ℤ Code) → IfOk (calls.downrange_step a b n) Of
  downrange_step_fine a b n = any_number a _ (λ x. any_number b _ (λ y. any_number n _ (λ z. down_fine x y z)))

  pub downrange_fine : (vs : List Const) → IfOk (calls.downrange vs) Of
  downrange_fine [] = tt
  downrange_fine (a ∷ []) = downrange_step_fine (argument a) (Ok (pos 0)) (Ok (pos 1))
  downrange_fine (a ∷ b ∷ []) = downrange_step_fine (argument a) (argument b) (Ok (pos 1))
  downrange_fine (a ∷ b ∷ n ∷ []) = downrange_step_fine (argument a) (argument b) (argument n)
  downrange_fine (a ∷ b ∷ n ∷ v ∷ vs) = tt

  signal_length_fine : (k : SignalKind) → IfOk (calls.signal_length k) Of
  signal_length_fine held.Truth = of_int _
  signal_length_fine held.Integer = tt
  signal_length_fine (held.Bounded b) = of_int _
  signal_length_fine (held.Item e) = tt

  any_list : (o : Option (List Const)) (code : Code) (f : List Const → Outcome) → ((vs : List Const) → IfOk (f vs) Of) → IfOk (after (given o code) f) Of
  any_list (Some vs) code f h = h vs
  any_list None code f h = tt

  length_fine : (s : Scope) (x : Const-F Const) → IfOk (calls.length_step s x) Of
  length_fine s Const-F.None = tt
  length_fine s (Const-F.Int n) = tt
  length_fine s (Const-F.Truth b) = tt
  length_fine s (Const-F.Str t) = tt
  length_fine s (Const-F.Delay n) = tt
  length_fine s (Const-F.EnumType n names) = tt
  length_fine s (Const-F.Item n place) = tt
  length_fine s (Const-F.Bounded v b) = of_int _
  length_fine s (Const-F.Signal n k) = signal_length_fine k
  length_fine s (Const-F.Edge n rising) = tt
  length_fine s (Const-F.Range a b step) = tt
  length_fine s (Const-F.List n) = any_list (slice_get s.lists n) E10KindClash _ (λ vs. of_int _)
  length_fine s (Const-F.Tuple items) = of_int _
  length_fine s (Const-F.Function n) = tt
  length_fine s (Const-F.Instance n) = tt
  length_fine s (Const-F.Generator n) = tt
  length_fine s (Const-F.Builtin b) = tt

  pub length_of_fine : (s : Scope) (vs : List Const) → IfOk (calls.length_of s vs) Of
  length_of_fine s [] = tt
  length_of_fine s (v ∷ []) = length_fine s (out-Const v)
  length_of_fine s (v ∷ w ∷ vs) = tt

  pub integer_of_fine : (vs : List Const) → IfOk (calls.integer_of vs) Of
  integer_of_fine [] = tt
  integer_of_fine (v ∷ []) = any_number (converted v) _ (λ n. of_int n)
  integer_of_fine (v ∷ w ∷ vs) = tt

  pub truth_of_fine : (vs : List Const) → IfOk (calls.truth_of vs) Of
  truth_of_fine [] = tt
  truth_of_fine (v ∷ []) = any_number (converted v) _ (λ n. of_truth (is_not_zero n))
  truth_of_fine (v ∷ w ∷ vs) = tt

  bounded_fine : (wraps : Bool) (v low high : ℤ) → IfOk (calls.bounded wraps v low high) Of
  bounded_fine wraps v low high =
      ok_if Of (int_le low v && int_lt v high) _ _ (λ e. ok_given Of (bounds_of low (high -ℤ pos 1) wraps) E5TooWide _ (λ b q. of_bounded v b (inside_made low (high -ℤ pos 1) v wraps b q (inside_between low high v e)))) (λ e. tt)

  made_of_fine : (vs : List Const) → IfOk (calls.made_of vs) Of
  made_of_fine [] = tt
  made_of_fine (v ∷ []) = any_number (content v) _ (λ n. of_int n)
  made_of_fine (v ∷ w ∷ vs) = tt

  between_fine : (wraps : Bool) (vs : List Const) → IfOk (calls.made_between wraps vs) Of
  between_fine wraps [] = tt
  between_fine wraps (v ∷ []) = tt
  between_fine wraps (v ∷ a ∷ []) = tt
  between_fine wraps (v ∷ a ∷ b ∷ []) = any_number (content v) _ (λ n. any_number (content a) _ (λ x. any_number (content b) _ (λ y. bounded_fine wraps n x y)))
  between_fine wraps (v ∷ a ∷ b ∷ w ∷ vs) = tt

  turned_fine : (wraps : Bool) (vs : List Const) → IfOk (calls.made_between_turned wraps vs) Of
  turned_fine wraps [] = tt
  turned_fine wraps (v ∷ []) = tt
  turned_fine wraps (v ∷ b ∷ []) = tt
  turned_fine wraps (v ∷ b ∷ a ∷ []) = any_number (content v) _ (λ n. any_number (content b) _ (λ y. any_number (content a) _ (λ x. bounded_fine wraps n x y)))
  turned_fine wraps (v ∷ b ∷ a ∷ w ∷ vs) = tt

  pair_fine : (wraps : Bool) (vs : List Const) (a b : List ℕ) → Ways (λ f. calls.made wraps f vs) (calls.pair_form a b)
  pair_fine wraps vs a b =
      whichever (λ f. calls.made wraps f vs) (bytes_eq a (codes "min") && bytes_eq b (codes "max")) _ _ (record { fine = between_fine wraps vs })
      (whichever (λ f. calls.made wraps f vs) (bytes_eq a (codes "max") && bytes_eq b (codes "min")) _ _ (record { fine = turned_fine wraps vs }) (record { fine = tt }))

  three_fine : (wraps : Bool) (vs : List Const) (a b n : Option (List ℕ)) → Ways (λ f. calls.made wraps f vs) (calls.three_form a b n)
  three_fine wraps vs None (Some b) (Some n) = pair_fine wraps vs b n
  three_fine wraps vs None (Some b) None = record { fine = tt }
  three_fine wraps vs None None n = record { fine = tt }
  three_fine wraps vs (Some a) b n = record { fine = tt }

  made_ways : (wraps : Bool) (keys : Keys) (vs : List Const) → Ways (λ f. calls.made wraps f vs) (calls.form_of keys)
  made_ways wraps keys vs =
      whichever (λ f. calls.made wraps f vs) (calls.all_positional keys) _ _ (record { fine = made_of_fine vs })
      (whichever (λ f. calls.made wraps f vs) (nat_eq (length keys) 3) _ _ (three_fine wraps vs (calls.key_at keys 0) (calls.key_at keys 1) (calls.key_at keys 2)) (record { fine = tt }))

  pub made_fine : (wraps : Bool) (keys : Keys) (vs : List Const) → IfOk (calls.made wraps (calls.form_of keys) vs) Of
  made_fine wraps keys vs = (made_ways wraps keys vs).fine

  pair_other : (r : Outcome) (a b : List ℕ) → Ways (λ f. calls.if_positional f r) (calls.pair_form a b)
  pair_other r a b =
      whichever (λ f. calls.if_positional f r) (bytes_eq a (codes "min") && bytes_eq b (codes "max")) _ _ (record { fine = tt })
      (whichever (λ f. calls.if_positional f r) (bytes_eq a (codes "max") && bytes_eq b (codes "min")) _ _ (record { fine = tt }) (record { fine = tt }))

  three_other : (r : Outcome) (a b n : Option (List ℕ)) → Ways (λ f. calls.if_positional f r) (calls.three_form a b n)
  three_other r None (Some b) (Some n) = pair_other r b n
  three_other r None (Some b) None = record { fine = tt }
  three_other r None None n = record { fine = tt }
  three_other r (Some a) b n = record { fine = tt }

  positional_ways : (keys : Keys) (r : Outcome) → IfOk r Of → Ways (λ f. calls.if_positional f r) (calls.form_of keys)
  positional_ways keys r h =
      whichever (λ f. calls.if_positional f r) (calls.all_positional keys) _ _ (record { fine = h })
      (whichever (λ f. calls.if_positional f r) (nat_eq (length keys) 3) _ _ (three_other r (calls.key_at keys 0) (calls.key_at keys 1) (calls.key_at keys 2)) (record { fine = tt }))

  pub positional_fine : (keys : Keys) (r : Outcome) → IfOk r Of → IfOk (calls.if_positional (calls.form_of keys) r) Of
  positional_fine keys r h = (positional_ways keys r h).fine

  pub builtin_fine : (s : Scope) (b : Builtin) (keys : Keys) (vs : List Const) → is_plain_builtin b ≡ true → IfOk (calls.called_builtin s b (calls.form_of keys) vs) Of
  builtin_fine s builtin.Range keys vs h = positional_fine keys _ (range_fine vs)
  builtin_fine s builtin.Downrange keys vs h = positional_fine keys _ (downrange_fine vs)
  builtin_fine s builtin.Len keys vs h = positional_fine keys _ (length_of_fine s vs)
  builtin_fine s builtin.Int keys vs h = positional_fine keys _ (integer_of_fine vs)
  builtin_fine s builtin.Bool keys vs h = positional_fine keys _ (truth_of_fine vs)
  builtin_fine s builtin.Intbv keys vs h = made_fine false keys vs
  builtin_fine s builtin.Modbv keys vs h = made_fine true keys vs
  builtin_fine s builtin.Concat keys vs h = absurd (cc)
  builtin_fine s builtin.Block keys vs h = tt
  builtin_fine s builtin.Instance keys vs h = tt
  builtin_fine s builtin.Instances keys vs h = tt
  builtin_fine s builtin.Always keys vs h = tt
  builtin_fine s builtin.AlwaysComb keys vs h = tt
  builtin_fine s builtin.AlwaysSeq keys vs h = tt
  builtin_fine s builtin.Signal keys vs h = tt
  builtin_fine s builtin.ResetSignal keys vs h = tt
  builtin_fine s builtin.Enum keys vs h = tt
  builtin_fine s builtin.Delay keys vs h = tt
  builtin_fine s builtin.Now keys vs h = tt
  builtin_fine s builtin.StopSimulation keys vs h = tt
  builtin_fine s builtin.Print keys vs h = tt

  call_fine : (s : Scope) (x : Const-F Const) (keys : Keys) (vs : List Const) → is_plain_step x ≡ true → IfOk (calls.call_step s x (calls.form_of keys) vs) Of
  call_fine s (Const-F.Builtin b) keys vs h = builtin_fine s b keys vs h
  call_fine s Const-F.None keys vs h = tt
  call_fine s (Const-F.Int n) keys vs h = tt
  call_fine s (Const-F.Truth b) keys vs h = tt
  call_fine s (Const-F.Str t) keys vs h = tt
  call_fine s (Const-F.Delay n) keys vs h = tt
  call_fine s (Const-F.EnumType n names) keys vs h = tt
  call_fine s (Const-F.Item n place) keys vs h = tt
  call_fine s (Const-F.Bounded v b) keys vs h = tt
  call_fine s (Const-F.Signal n k) keys vs h = tt
  call_fine s (Const-F.Edge n rising) keys vs h = tt
  call_fine s (Const-F.Range a b step) keys vs h = tt
  call_fine s (Const-F.List n) keys vs h = tt
  call_fine s (Const-F.Tuple items) keys vs h = tt
  call_fine s (Const-F.Function n) keys vs h = tt
  call_fine s (Const-F.Instance n) keys vs h = tt
  call_fine s (Const-F.Generator n) keys vs h = tt

  -- ---- parts

  pub part_fine : (vs : List Const) (i : ℕ) (f : Const → Outcome) → AllOf vs → ((v : Const) → slice_get vs i ≡ Some v → Of v → IfOk (f v) Of) → IfOk (after (part vs i) f) Of
  part_fine vs i f h k = ok_given Of (slice_get vs i) E10KindClash f (λ v e. k v e (all_at (is_of d) vs i v h e))

  pub one_fine : (vs : List Const) (f : Const → Outcome) → AllOf vs → ((v : Const) → Of v → IfOk (f v) Of) → IfOk (with_one vs f) Of
  one_fine vs f h k = part_fine vs 0 f h (λ v e. k v)

  pub two_fine : (vs : List Const) (f : Const → Const → Outcome) → AllOf vs → ((v w : Const) → Of v → Of w → IfOk (f v w) Of) → IfOk (with_two vs f) Of
  two_fine vs f h k = part_fine vs 0 _ h (λ v e p. part_fine vs 1 _ h (λ w g q. k v w p q))

  pub three_parts_fine : (vs : List Const) (f : Const → Const → Const → Outcome) → AllOf vs → ((v w z : Const) → IfOk (f v w z) Of) → IfOk (with_three vs f) Of
  three_parts_fine vs f h k = part_fine vs 0 _ h (λ v e p. part_fine vs 1 _ h (λ w g q. part_fine vs 2 _ h (λ z i r. k v w z)))

  resizing_fine : (x : Const-F Const) (base n : Const) → IfOk (places.resized_step x base n) Of
  resizing_fine (Const-F.Builtin builtin.Intbv) base n = resized_fine false base n
  resizing_fine (Const-F.Builtin builtin.Modbv) base n = resized_fine true base n
  resizing_fine (Const-F.Builtin builtin.Range) base n = from_fine base n
  resizing_fine (Const-F.Builtin builtin.Downrange) base n = from_fine base n
  resizing_fine (Const-F.Builtin builtin.Len) base n = from_fine base n
  resizing_fine (Const-F.Builtin builtin.Int) base n = from_fine base n
  resizing_fine (Const-F.Builtin builtin.Bool) base n = from_fine base n
  resizing_fine (Const-F.Builtin builtin.Concat) base n = from_fine base n
  resizing_fine (Const-F.Builtin builtin.Block) base n = from_fine base n
  resizing_fine (Const-F.Builtin builtin.Instance) base n = from_fine base n
  resizing_fine (Const-F.Builtin builtin.Instances) base n = from_fine base n
  resizing_fine (Const-F.Builtin builtin.Always) base n = from_fine base n
  resizing_fine (Const-F.Builtin builtin.AlwaysComb) base n = from_fine base n
  resizing_fine (Const-F.Builtin builtin.AlwaysSeq) base n = from_fine base n
  resizing_fine (Const-F.Builtin builtin.Signal) base n = from_fine base n
  resizing_fine (Const-F.Builtin builtin.ResetSignal) base n = from_fine base n
  resizing_fine (Const-F.Builtin builtin.Enum) base n = from_fine base n
  resizing_fine (Const-F.Builtin builtin.Delay) base n = from_fine base n
  resizing_fine (Const-F.Builtin builtin.Now) base n = from_fine base n
  resizing_fine (Const-F.Builtin builtin.StopSimulation) base n = from_fine base n
  resizing_fine (Const-F.Builtin builtin.Print) base n = from_fine base n
  resizing_fine Const-F.None base n = from_fine base n
  resizing_fine (Const-F.Int m) base n = from_fine base n
  resizing_fine (Const-F.Truth b) base n = from_fine base n
  resizing_fine (Const-F.Str t) base n = from_fine base n
  resizing_fine (Const-F.Delay m) base n = from_fine base n
  resizing_fine (Const-F.EnumType m names) base n = from_fine base n
  resizing_fine (Const-F.Item m place) base n = from_fine base n
  resizing_fine (Const-F.Bounded v b) base n = from_fine base n
  resizing_fine (Const-F.Signal m k) base n = from_fine base n
  resizing_fine (Const-F.Edge m rising) base n = from_fine base n
  resizing_fine (Const-F.Range a b step) base n = from_fine base n
  resizing_fine (Const-F.List m) base n = from_fine base n
  resizing_fine (Const-F.Tuple items) base n = from_fine base n
  resizing_fine (Const-F.Function m) base n = from_fine base n
  resizing_fine (Const-F.Instance m) base n = from_fine base n
  resizing_fine (Const-F.Generator m) base n = from_fine base n

  pub resized_by_fine : (o : Option Const) (base n : Const) → IfOk (places.resized_by o base n) Of
  resized_by_fine None base n = from_fine base n
  resized_by_fine (Some v) base n = resizing_fine (out-Const v) base n

  -- ---- truth

  truth_value_fine : (v : Const) → IfOk (constants.truth_value v) Of
  truth_value_fine v = any_truth (truth v) _ (λ b. of_truth b)

  any_outcome : (r : Outcome) (f : Const → Outcome) → ((v : Const) → IfOk (f v) Of) → IfOk (after r f) Of
  any_outcome (Ok v) f h = h v
  any_outcome (Err code) f h = tt

  pub conjunction_fine : (a b : Outcome) → IfOk (conjunction a b) Of
  conjunction_fine a b = any_outcome a _ (λ v. any_truth (truth v) _ (λ t. ok_if Of t _ _ (λ e. any_outcome b _ truth_value_fine) (λ e. of_truth false)))

  pub disjunction_fine : (a b : Outcome) → IfOk (disjunction a b) Of
  disjunction_fine a b = any_outcome a _ (λ v. any_truth (truth v) _ (λ t. ok_if Of t _ _ (λ e. of_truth true) (λ e. any_outcome b _ truth_value_fine)))

  module _ (s : Scope) (names : list_all (λ entry. is_of d entry.1) s.names ≡ true) (lists : list_all (list_all (is_of d)) s.lists ≡ true) where
    by_name : (b : Bool) (w : Const) (o : Option Const) (v : Const) → Of w → (o ≡ Some v → Of v) → (if b then Some w else o) ≡ Some v → Of v
    by_name true w o v h k e = let q : w ≡ v = cc in ap (is_of d) (sym q) ∙ h
    by_name false w o v h k e = k e

    pub looked_up : (es : List (List ℕ × Const)) (t : List ℕ) (v : Const) → list_all (λ entry. is_of d entry.1) es ≡ true → lookup es t ≡ Some v → Of v
    looked_up [] t v h e = absurd (cc)
    looked_up (entry ∷ es) t v h e =
        let a = and_parts (is_of d entry.1) (list_all (λ other. is_of d other.1) es) h in
        by_name (bytes_eq t entry.0) entry.1 (lookup es t) v a.0 (λ f. looked_up es t v a.1 f) e

    pub name_of : (t : List ℕ) (v : Const) → lookup s.names t ≡ Some v → Of v
    name_of t v e = looked_up s.names t v names e

    pub list_of : (n : ℕ) (vs : List Const) → slice_get s.lists n ≡ Some vs → AllOf vs
    list_of n vs e = all_at (list_all (is_of d)) s.lists n vs lists e

    pub indexed_fine : (x : Const-F Const) (at : Const) → step_of d x ≡ true → IfOk (places.indexed_step s x at) Of
    indexed_fine Const-F.None at h = tt
    indexed_fine (Const-F.Int n) at h = tt
    indexed_fine (Const-F.Truth b) at h = tt
    indexed_fine (Const-F.Str t) at h = tt
    indexed_fine (Const-F.Delay n) at h = tt
    indexed_fine (Const-F.EnumType n ts) at h = tt
    indexed_fine (Const-F.Item n place) at h = tt
    indexed_fine (Const-F.Bounded v b) at h = any_place (places.place (width_of b.lo b.top) at) _ (λ i. of_truth _)
    indexed_fine (Const-F.Signal n k) at h = tt
    indexed_fine (Const-F.Edge n rising) at h = tt
    indexed_fine (Const-F.Range a b step) at h = tt
    indexed_fine (Const-F.List n) at h = ok_given Of (slice_get s.lists n) E10KindClash _ (λ vs e. item_of_fine vs at (list_of n vs e))
    indexed_fine (Const-F.Tuple items) at h = item_of_fine items at h
    indexed_fine (Const-F.Function n) at h = tt
    indexed_fine (Const-F.Instance n) at h = tt
    indexed_fine (Const-F.Generator n) at h = tt
    indexed_fine (Const-F.Builtin b) at h = tt

    -- what is called is a function that plain expressions may call
    called_by : (o : Option Const) (r : Result (List Const) Code) (vs : List Const) (f : Const) → names_plain o ≡ true →
        after (given o E1UnknownName) (λ v. after r (λ ws. Ok (v ∷ ws))) ≡ Ok vs → slice_get vs 0 ≡ Some f → is_plain_step (out-Const f) ≡ true
    called_by None r vs f p e q = absurd (cc)
    called_by (Some v) (Ok ws) vs f p e q =
        let all : v ∷ ws ≡ vs = cc in
        let first : Some v ≡ Some f = ap (λ us. slice_get us 0) all ∙ q in
        let same : v ≡ f = cc in
        ap (λ g. is_plain_step (out-Const g)) (sym same) ∙ p
    called_by (Some v) (Err code) vs f p e q = absurd (cc)

    called_is : (xs : Exs) (vs : List Const) (f : Const) → plain_name s (x.maker_in xs) ≡ true → values s xs ≡ Ok vs → slice_get vs 0 ≡ Some f → is_plain_step (out-Const f) ≡ true
    called_is x.NoMore vs f p e q = absurd (cc)
    called_is (x.More (x.Name t) xs) vs f p e q = called_by (lookup s.names t) (values s xs) vs f p e q
    called_is (x.More (x.Number n) xs) vs f p e q = absurd (cc)
    called_is (x.More (x.Str bytes) xs) vs f p e q = absurd (cc)
    called_is (x.More (x.Truth b) xs) vs f p e q = absurd (cc)
    called_is (x.More x.Nothing xs) vs f p e q = absurd (cc)
    called_is (x.More (x.And a b) xs) vs f p e q = absurd (cc)
    called_is (x.More (x.Or a b) xs) vs f p e q = absurd (cc)
    called_is (x.More (x.Op h ys) xs) vs f p e q = absurd (cc)
    called_is (x.More (x.Collect item t over) xs) vs f p e q = absurd (cc)

    valued_fine : (h : Head) (xs : Exs) (vs : List Const) → is_plain_head s h xs ≡ true → values s xs ≡ Ok vs → AllOf vs → IfOk (applied s h vs) Of
    valued_fine (x.Apply o) xs vs p e h = one_fine vs _ h (λ v q. signed_fine o v q)
    valued_fine x.Negation xs vs p e h = one_fine vs _ h (λ v q. any_truth (truth v) _ (λ b. of_truth (not b)))
    valued_fine (x.Both o) xs vs p e h = two_fine vs _ h (λ v w q r. operated_fine o v w)
    valued_fine (x.Attribute name) xs vs p e h = one_fine vs _ h (λ v q. attribute_fine name (out-Const v) (opened v q))
    valued_fine x.Index xs vs p e h = two_fine vs _ h (λ v w q r. indexed_fine (out-Const v) w (opened v q))
    valued_fine x.Slice xs vs p e h = three_parts_fine vs _ h (λ v w z. slice_fine (out-Const v) w (operand z))
    valued_fine x.SliceFrom xs vs p e h = two_fine vs _ h (λ v w q r. from_fine v w)
    valued_fine (x.Resize maker) xs vs p e h = two_fine vs _ h (λ v w q r. resized_by_fine (lookup s.names maker) v w)
    valued_fine x.Whole xs vs p e h = tt
    valued_fine x.TupleOf xs vs p e h = of_tuple vs h
    valued_fine x.ListOf xs vs p e h = tt
    valued_fine (x.Call keys) xs vs p e h = part_fine vs 0 _ h (λ f q r. call_fine s (out-Const f) keys (drop 1 vs) (called_is xs vs f p e q))
    valued_fine (x.Method name keys) xs vs p e h = absurd (cc)

    head_fine : (h : Head) (xs : Exs) (r : Result (List Const) Code) → values s xs ≡ r → is_plain_head s h xs ≡ true → IfOk r AllOf → IfOk (if is_valued h then after r (applied s h) else Err E10KindClash) Of
    head_fine h xs (Ok vs) e p q = ok_if Of (is_valued h) (applied s h vs) _ (λ v. valued_fine h xs vs p e q) (λ v. tt)
    head_fine h xs (Err code) e p q = ok_if Of (is_valued h) (Err code) _ (λ v. tt) (λ v. tt)

    named_fine : (t : List ℕ) (o : Option Const) → lookup s.names t ≡ o → IfOk (given o E1UnknownName) Of
    named_fine t None e = tt
    named_fine t (Some v) e = name_of t v e

    mutual
      pub value_fine : (e : Ex) → is_plain s e ≡ true → IfOk (value s e) Of
      value_fine (x.Number n) p = of_int n
      value_fine (x.Str bytes) p = of_str bytes
      value_fine (x.Truth b) p = of_truth b
      value_fine x.Nothing p = of_none
      value_fine (x.Name t) p = named_fine t (lookup s.names t) refl
      value_fine (x.And a b) p = conjunction_fine (value s a) (value s b)
      value_fine (x.Or a b) p = disjunction_fine (value s a) (value s b)
      value_fine (x.Op h xs) p = let a = and_parts (is_plain_head s h xs) (are_plain s xs) p in head_fine h xs (values s xs) refl a.0 (values_fine xs a.1)
      value_fine (x.Collect item t over) p = tt

      pub values_fine : (es : Exs) → are_plain s es ≡ true → IfOk (values s es) AllOf
      values_fine x.NoMore p = refl
      values_fine (x.More e es) p =
          let a = and_parts (is_plain s e) (are_plain s es) p in
          ok_after Of AllOf (value s e) _ (value_fine e a.0) (λ v q. ok_after AllOf AllOf (values s es) _ (values_fine es a.1) (λ vs r. and_from (is_of d v) (list_all (is_of d) vs) q r))
