-- What an operation of constants gives at values of a design is one of it.
use Rattle.std.proofs.Common.{◌≡◌, ℕ, ℤ, pos, negsuc, suc, ◌+◌, ◌-◌, ◌*◌, ◌^◌, ◌<◌, ◌≤◌, ◌+ℤ◌, ◌*ℤ◌, Bool, true, false, not, ◌&&◌, List, [], ◌∷◌, Option, Some, None, Result, Ok, Err, IfOk, refl, ap, sym, ◌∙◌, subst, arith, if◌then◌else◌, drop, bytes_eq, codes}
use Rattle.std.specs.Prelude.{nat_lt, nat_le, int_le}
use Rattle.std.specs.List.{list_all}
use Rattle.std.specs.Option.{option_and_then}
use Rattle.std.proofs.lemmas.Bool.{and_parts, and_from}
use Rattle.std.proofs.lemmas.Int.{ints}
use Rattle.std.proofs.lemmas.Nat.{pow-add, pow_pos, mul-le}
use Rattle.mh_codes.specs.Integers.{slice_of}
use Rattle.mh_codes.specs.Ranges.{is_inside}
use Rattle.mh_codes.specs.Widths.{width_of}
use Rattle.mh_codes.proofs.Slices.{slice_below}
use Rattle.mh_num.specs.Results.{in_i128, amount_of, left_shift_of}
use Rattle.mh_text.specs.declared.code.Code.{Code}
use Rattle.mh_text.specs.declared.code.Code.TheVariants.{E5TooWide, E10KindClash}
use Rattle.mh_consts.specs.declared.kinds.Builtin.{Builtin}
use Rattle.mh_consts.specs.declared.kinds.Builtin.TheVariants as builtin
use Rattle.mh_consts.specs.declared.kinds.Const.{Const, out-Const}
use Rattle.mh_consts.specs.declared.kinds.Const.TheOpen.{Const-F}
use Rattle.mh_consts.specs.declared.kinds.Const.TheVariants as c
use Rattle.mh_consts.specs.declared.scope.Scope.{Scope}
use Rattle.mh_consts.specs.Expression as x
use Rattle.mh_consts.specs.Expression.{Ex, Head, Keys}
use Rattle.mh_consts.specs.Names.{lookup}
use Rattle.mh_consts.specs.Outcome.{Outcome, after, given, part}
use Rattle.mh_consts.specs.Numbers.{truth, operand}
use Rattle.mh_consts.specs.Builtins as calls
use Rattle.mh_consts.specs.Constant.{applied, method, without_arguments, operate}
use Rattle.mh_design.specs.declared.design.Design.{Design}
use Rattle.mh_lower_laws.specs.Holds.{is_of}
use Rattle.mh_lower_laws.proofs.ScopeValues.{of_int, of_truth, of_tuple, opened, inside_bits, bits_fine, any_truth, signed_fine, operated_fine, attribute_fine, indexed_fine, slice_fine, from_fine, resized_by_fine, conjunction_fine, disjunction_fine, positional_fine, builtin_fine, part_fine, one_fine, two_fine, three_parts_fine}
use Rattle.mh_lower_laws.proofs.Stepping.{ok_after, ok_given, ok_if}

-- ---- bits one after another

abbrev Inside : ℕ → ℤ → Type 0
Inside w n = is_inside (pos 0) (pos (2 ^ w - 1)) n ≡ true

abbrev PartInside : ℕ × ℤ → Type 0
PartInside p = Inside p.0 p.1

below_of : (w a : ℕ) → Inside w (pos a) → a < 2 ^ w
below_of w a h = let p = pow_pos w in grind (arith, ints)

sum_below : (w k a b : ℕ) → a < 2 ^ w → b < 2 ^ k → a * 2 ^ k + b < 2 ^ (w + k)
sum_below w k a b f g =
    let e : 2 ^ (w + k) ≡ 2 ^ w * 2 ^ k = pow-add 2 w k in
    let m : (a + 1) * 2 ^ k ≤ 2 ^ w * 2 ^ k = mul-le (a + 1) (2 ^ k) (2 ^ w) (2 ^ k) (omega (arith, f)) (omega arith) in
    let t : (a + 1) * 2 ^ k ≡ a * 2 ^ k + 2 ^ k = one_more a (2 ^ k) in
    omega (arith, e, m, t, g)
  where
    one_more : (x y : ℕ) → (x + 1) * y ≡ x * y + y
    one_more x y = omega arith

sum_inside : (w k : ℕ) (n q : ℤ) → Inside w n → Inside k q → Inside (w + k) (n *ℤ pos (2 ^ k) +ℤ q)
sum_inside w k (pos a) (pos b) f g = inside_bits (w + k) (a * 2 ^ k + b) (sum_below w k a b (below_of w a f) (below_of k b g))
sum_inside w k (pos a) (negsuc b) f g = absurd (cc)
sum_inside w k (negsuc a) q f g = absurd (cc)

within_by : (z y : ℤ) (b : Bool) → (if b then Some z else None) ≡ Some y → y ≡ z
within_by z y true e = let q : z ≡ y = cc in sym q
within_by z y false e = absurd (cc)

within_is : (z y : ℤ) → in_i128 z ≡ Some y → y ≡ z
within_is z y h = within_by z y (is_inside (negsuc (2 ^ 127 - 1)) (pos (2 ^ 127 - 1)) z) h

shift_by : (n m : ℤ) (k : ℕ) (b : Bool) → option_and_then (λ j. in_i128 (n *ℤ pos (2 ^ j))) (if b then Some k else None) ≡ Some m → m ≡ n *ℤ pos (2 ^ k)
shift_by n m k true e = within_is (n *ℤ pos (2 ^ k)) m e
shift_by n m k false e = absurd (cc)

shift_is : (n m : ℤ) (k : ℕ) → left_shift_of n (pos k) ≡ Some m → m ≡ n *ℤ pos (2 ^ k)
shift_is n m k h = shift_by n m k (nat_lt k 128) h

sum_given : (w : ℕ) (z : ℤ) (o : Option ℤ) → in_i128 z ≡ o → Inside w z → IfOk (given o E5TooWide) (λ y. Inside w y)
sum_given w z None e h = tt
sum_given w z (Some y) e h = subst (Inside w) (sym (within_is z y e)) h

shifted_inside : (w : ℕ) (n : ℤ) (p : ℕ × ℤ) → Inside w n → PartInside p → IfOk (calls.shifted_up n p) (λ m. Inside (w + p.0) m)
shifted_inside w n p f g =
    ok_given (λ m. Inside (w + p.0) m) (left_shift_of n (pos p.0)) E5TooWide (λ m. given (in_i128 (m +ℤ p.1)) E5TooWide)
    (λ m e. sum_given (w + p.0) (m +ℤ p.1) (in_i128 (m +ℤ p.1)) refl (subst (λ z. Inside (w + p.0) (z +ℤ p.1)) (sym (shift_is n m p.0 e)) (sum_inside w p.0 n p.1 f g)))

joined_one : (w : ℕ) (n : ℤ) (p : ℕ × ℤ) → Inside w n → PartInside p → IfOk (calls.joined_with w n p) PartInside
joined_one w n p f g =
    ok_if PartInside (nat_le (w + p.0) 127) (after (calls.shifted_up n p) (λ m. Ok (w + p.0, m))) (Err E5TooWide)
    (λ e. ok_after (λ m. Inside (w + p.0) m) PartInside (calls.shifted_up n p) (λ m. Ok (w + p.0, m)) (shifted_inside w n p f g) (λ m q. q)) (λ e. tt)

bits_part : (y : Const-F Const) → IfOk (calls.bits_step y) PartInside
bits_part (Const-F.Truth true) = refl
bits_part (Const-F.Truth false) = refl
bits_part (Const-F.Bounded v b) =
    let e : width_of b.lo b.top - 0 ≡ width_of b.lo b.top = omega arith in
    inside_bits (width_of b.lo b.top) (slice_of (width_of b.lo b.top) 0 v) (subst (λ k. slice_of (width_of b.lo b.top) 0 v < 2 ^ k) e (slice_below (width_of b.lo b.top) 0 v))
bits_part (Const-F.Signal n k) = tt
bits_part Const-F.None = tt
bits_part (Const-F.Int n) = tt
bits_part (Const-F.Str t) = tt
bits_part (Const-F.Delay n) = tt
bits_part (Const-F.EnumType n names) = tt
bits_part (Const-F.Item n place) = tt
bits_part (Const-F.Edge n rising) = tt
bits_part (Const-F.Range a b step) = tt
bits_part (Const-F.List n) = tt
bits_part (Const-F.Tuple items) = tt
bits_part (Const-F.Function n) = tt
bits_part (Const-F.Instance n) = tt
bits_part (Const-F.Generator n) = tt
bits_part (Const-F.Builtin b) = tt

joined_all : (vs : List Const) (w : ℕ) (n : ℤ) → Inside w n → IfOk (calls.joined w n vs) PartInside
joined_all [] w n h = h
joined_all (v ∷ vs) w n h =
    ok_after PartInside PartInside (calls.joined_step w n v) (λ p. calls.joined p.0 p.1 vs)
    (ok_after PartInside PartInside (calls.bits_step (out-Const v)) (calls.joined_with w n) (bits_part (out-Const v)) (λ p q. joined_one w n p h q)) (λ p q. joined_all vs p.0 p.1 q)

module _ (d : Design) where
  abbrev Of : Const → Type 0
  Of v = is_of d v ≡ true

  abbrev AllOf : List Const → Type 0
  AllOf vs = list_all (is_of d) vs ≡ true

  concat_fine : (vs : List Const) → IfOk (calls.concatenated vs) Of
  concat_fine [] = tt
  concat_fine (v ∷ vs) = ok_after PartInside Of (calls.joined 0 (pos 0) (v ∷ vs)) _ (joined_all (v ∷ vs) 0 (pos 0) refl) (λ p q. bits_fine d p.0 false p.1 q)

  -- ---- calls

  called_fine : (s : Scope) (b : Builtin) (keys : Keys) (vs : List Const) → IfOk (calls.called_builtin s b (calls.form_of keys) vs) Of
  called_fine s builtin.Range keys vs = builtin_fine d s builtin.Range keys vs refl
  called_fine s builtin.Downrange keys vs = builtin_fine d s builtin.Downrange keys vs refl
  called_fine s builtin.Len keys vs = builtin_fine d s builtin.Len keys vs refl
  called_fine s builtin.Int keys vs = builtin_fine d s builtin.Int keys vs refl
  called_fine s builtin.Bool keys vs = builtin_fine d s builtin.Bool keys vs refl
  called_fine s builtin.Intbv keys vs = builtin_fine d s builtin.Intbv keys vs refl
  called_fine s builtin.Modbv keys vs = builtin_fine d s builtin.Modbv keys vs refl
  called_fine s builtin.Concat keys vs = positional_fine d keys _ (concat_fine vs)
  called_fine s builtin.Block keys vs = tt
  called_fine s builtin.Instance keys vs = tt
  called_fine s builtin.Instances keys vs = tt
  called_fine s builtin.Always keys vs = tt
  called_fine s builtin.AlwaysComb keys vs = tt
  called_fine s builtin.AlwaysSeq keys vs = tt
  called_fine s builtin.Signal keys vs = tt
  called_fine s builtin.ResetSignal keys vs = tt
  called_fine s builtin.Enum keys vs = tt
  called_fine s builtin.Delay keys vs = tt
  called_fine s builtin.Now keys vs = tt
  called_fine s builtin.StopSimulation keys vs = tt
  called_fine s builtin.Print keys vs = tt

  call_fine : (s : Scope) (y : Const-F Const) (keys : Keys) (vs : List Const) → IfOk (calls.call_step s y (calls.form_of keys) vs) Of
  call_fine s (Const-F.Builtin b) keys vs = called_fine s b keys vs
  call_fine s Const-F.None keys vs = tt
  call_fine s (Const-F.Int n) keys vs = tt
  call_fine s (Const-F.Truth b) keys vs = tt
  call_fine s (Const-F.Str t) keys vs = tt
  call_fine s (Const-F.Delay n) keys vs = tt
  call_fine s (Const-F.EnumType n names) keys vs = tt
  call_fine s (Const-F.Item n place) keys vs = tt
  call_fine s (Const-F.Bounded v b) keys vs = tt
  call_fine s (Const-F.Signal n k) keys vs = tt
  call_fine s (Const-F.Edge n rising) keys vs = tt
  call_fine s (Const-F.Range a b step) keys vs = tt
  call_fine s (Const-F.List n) keys vs = tt
  call_fine s (Const-F.Tuple items) keys vs = tt
  call_fine s (Const-F.Function n) keys vs = tt
  call_fine s (Const-F.Instance n) keys vs = tt
  call_fine s (Const-F.Generator n) keys vs = tt

  -- ---- methods

  none_given : (keys : Keys) (v : Const) → Of v → IfOk (without_arguments keys v) Of
  none_given [] v h = h
  none_given (key ∷ keys) v h = tt

  signed_read : (keys : Keys) (y : Const-F Const) → IfOk (after (calls.read_signed y) (without_arguments keys)) Of
  signed_read keys (Const-F.Bounded v b) = none_given keys _ (of_int d _)
  signed_read keys (Const-F.Signal n k) = tt
  signed_read keys Const-F.None = tt
  signed_read keys (Const-F.Int n) = tt
  signed_read keys (Const-F.Truth b) = tt
  signed_read keys (Const-F.Str t) = tt
  signed_read keys (Const-F.Delay n) = tt
  signed_read keys (Const-F.EnumType n names) = tt
  signed_read keys (Const-F.Item n place) = tt
  signed_read keys (Const-F.Edge n rising) = tt
  signed_read keys (Const-F.Range a b step) = tt
  signed_read keys (Const-F.List n) = tt
  signed_read keys (Const-F.Tuple items) = tt
  signed_read keys (Const-F.Function n) = tt
  signed_read keys (Const-F.Instance n) = tt
  signed_read keys (Const-F.Generator n) = tt
  signed_read keys (Const-F.Builtin b) = tt

  method_fine : (name : List ℕ) (keys : Keys) (v : Const) → IfOk (method name keys v) Of
  method_fine name keys v = ok_if Of (bytes_eq name (codes "signed")) _ _ (λ e. signed_read keys (out-Const v)) (λ e. tt)

  -- ---- operations

  module _ (s : Scope) (names : list_all (λ entry. is_of d entry.1) s.names ≡ true) (lists : list_all (list_all (is_of d)) s.lists ≡ true) where
    pub applied_fine : (h : Head) (vs : List Const) → AllOf vs → IfOk (applied s h vs) Of
    applied_fine (x.Apply o) vs h = one_fine d vs _ h (λ v q. signed_fine d o v q)
    applied_fine x.Negation vs h = one_fine d vs _ h (λ v q. any_truth d (truth v) _ (λ b. of_truth d (not b)))
    applied_fine (x.Both o) vs h = two_fine d vs _ h (λ v w q r. operated_fine d o v w)
    applied_fine (x.Attribute name) vs h = one_fine d vs _ h (λ v q. attribute_fine d name (out-Const v) (opened d v q))
    applied_fine x.Index vs h = two_fine d vs _ h (λ v w q r. indexed_fine d s names lists (out-Const v) w (opened d v q))
    applied_fine x.Slice vs h = three_parts_fine d vs _ h (λ v w z. slice_fine d (out-Const v) w (operand z))
    applied_fine x.SliceFrom vs h = two_fine d vs _ h (λ v w q r. from_fine d v w)
    applied_fine (x.Resize maker) vs h = two_fine d vs _ h (λ v w q r. resized_by_fine d (lookup s.names maker) v w)
    applied_fine x.Whole vs h = tt
    applied_fine x.TupleOf vs h = of_tuple d vs h
    applied_fine x.ListOf vs h = tt
    applied_fine (x.Call keys) vs h = one_fine d vs _ h (λ f q. call_fine s (out-Const f) keys (drop 1 vs))
    applied_fine (x.Method name keys) vs h = one_fine d vs _ h (λ v q. method_fine name keys v)

    pub operate_fine : (e : Ex) (vs : List Const) → AllOf vs → IfOk (operate s e vs) Of
    operate_fine (x.Op h xs) vs q = applied_fine h vs q
    operate_fine (x.And a b) vs q = conjunction_fine d (part vs 0) (part vs 1)
    operate_fine (x.Or a b) vs q = disjunction_fine d (part vs 0) (part vs 1)
    operate_fine (x.Number n) vs q = tt
    operate_fine (x.Str bytes) vs q = tt
    operate_fine (x.Truth b) vs q = tt
    operate_fine x.Nothing vs q = tt
    operate_fine (x.Name t) vs q = tt
    operate_fine (x.Collect item t over) vs q = tt
