-- How deep a body is that was read.
use Rattle.std.proofs.Common.{◌≡◌, ℕ, suc, ◌-◌, ◌≤◌, ℤ, pos, negsuc, Bool, true, false, ◌&&◌, List, [], ◌∷◌, ◌++◌, map, Option, Some, None, Result, Ok, Err, IfOk, refl, ap, ◌∙◌, arith, if◌then◌else◌}
use Rattle.std.specs.Prelude.{nat_lt, nat_le}
use Rattle.std.specs.Ordering.{int_eq}
use Rattle.std.specs.List.{list_all}
use Rattle.std.proofs.lemmas.Bool.{and_parts, and_from, lt-ltb}
use Rattle.mh_pytree.specs.declared.expression.Operator.{Operator}
use Rattle.mh_text.specs.declared.code.Code.{Code}
use Rattle.mh_text.specs.declared.code.Code.TheVariants.{E3BadArguments, E10KindClash}
use Rattle.mh_consts.specs.declared.kinds.Const.{Const, out-Const}
use Rattle.mh_consts.specs.declared.kinds.Const.TheOpen.{Const-F}
use Rattle.mh_consts.specs.declared.scope.Scope.{Scope}
use Rattle.mh_consts.specs.Builtins.{all_positional}
use Rattle.mh_consts.specs.Expression as x
use Rattle.mh_consts.specs.Expression.{Ex, Exs, Head, Keys}
use Rattle.mh_consts.specs.Constant.{value}
use Rattle.mh_consts.specs.Names.{lookup}
use Rattle.mh_consts.specs.Outcome.{after, given}
use Rattle.mh_design.specs.declared.design.Design.{Design}
use Rattle.mh_design.specs.declared.design.Kind.{Kind}
use Rattle.mh_design.specs.declared.design.Kind.TheVariants as kind
use Rattle.mh_design.specs.declared.statement.Binding.{Binding}
use Rattle.mh_design.specs.declared.statement.Binding.TheVariants as binding
use Rattle.mh_design.specs.declared.statement.PrintPart.{PrintPart}
use Rattle.mh_design.specs.Constants.{constant_of}
use Rattle.mh_design.specs.Depth.{is_within, left_is_within, base_is_within, printed_is_within, statement_is_within}
use Rattle.mh_design.specs.Kinds.{is_number, signal_kind}
use Rattle.mh_design.specs.Statements.{takes, is_integer_kind}
use Rattle.mh_design.specs.Tree.{Expression, LeftSide, Statement, Set, Whole, LeftLocal, Bind, expression_of, base_of, left_of, printed_of}
use Rattle.mh_exprs.specs.declared.locals.Locals.{Locals}
use Rattle.mh_exprs.specs.declared.names.Form.{Form}
use Rattle.mh_exprs.specs.declared.names.Form.TheVariants as form
use Rattle.mh_exprs.specs.declared.typed.Typed.{Typed}
use Rattle.mh_exprs.specs.declared.typed.Work.{Work}
use Rattle.mh_exprs.specs.Calls.{Collection, Listed, Tupled, Neither, callee_of, collection_of, form_of, is_maker}
use Rattle.mh_exprs.specs.Constant.{folds, is_local}
use Rattle.mh_exprs.specs.Expression.{read, all}
use Rattle.mh_exprs.specs.Leaves.{leaf, is_assigned, kind_at, cell, place_in, local}
use Rattle.mh_exprs.specs.Operations.{operated, bounds_in, bit_fits, slice_fits, zero_end}
use Rattle.mh_exprs.specs.Step.{Step, pure, refuse, just, seeing, chain}
use Rattle.mh_lower.specs.declared.typed.Bound.{Bound}
use Rattle.mh_lower.specs.declared.typed.Ends.{Ends}
use Rattle.mh_lower.specs.declared.typed.Left.{Left}
use Rattle.mh_lower.specs.Bindings as bindings
use Rattle.mh_lower.specs.Statements as spec
use Rattle.mh_lower.specs.Statements.{Made}
use Rattle.mh_lower.specs.Targets as targets
use Rattle.mh_lower.specs.Targets.{Placed}
use Rattle.mh_lower.specs.Views as views
use Rattle.mh_lower.specs.Views.{View, view}
use Rattle.mh_lower.specs.Waits.{yielded}
use Rattle.mh_lower_laws.proofs.Depths.{ex_depth, exs_depth, some_depth, Deep, integer_deep, any_then, leaf_deep, local_deep, just_deep, chain_deep, any_chain, operated_deep, reads_deep}
use Rattle.mh_lower_laws.proofs.Stepping.{ok_after, ok_if}

-- ---- the parts of an expression that statements tell apart

abbrev pub ViewWithin : ℕ → View → Type 0
ViewWithin k (views.Named t) = Unit {0}
ViewWithin k (views.Text bytes) = Unit {0}
ViewWithin k (views.Tupled xs) = exs_depth xs ≤ k
ViewWithin k (views.Called keys f xs) = exs_depth xs ≤ k
ViewWithin k (views.Attributed a name) = ex_depth a ≤ k
ViewWithin k (views.Indexed a i) = (ex_depth a ≤ k) × (ex_depth i ≤ k)
ViewWithin k (views.Ranged a i j) = (ex_depth a ≤ k) × (ex_depth i ≤ k) × (ex_depth j ≤ k)
ViewWithin k (views.RangedFrom a i) = (ex_depth a ≤ k) × (ex_depth i ≤ k)
ViewWithin k (views.Resized a n) = (ex_depth a ≤ k) × (ex_depth n ≤ k)
ViewWithin k (views.Entire a) = ex_depth a ≤ k
ViewWithin k views.Another = Unit {0}

operation_within : (k : ℕ) (h : Head) (xs : Exs) → suc (exs_depth xs) ≤ k → ViewWithin k (view (x.Op h xs))
operation_within k x.TupleOf xs d = omega (arith, d)
operation_within k (x.Call keys) (x.More f xs) d = omega (arith, d)
operation_within k (x.Call keys) x.NoMore d = tt
operation_within k (x.Attribute name) (x.More a xs) d = omega (arith, d)
operation_within k (x.Attribute name) x.NoMore d = tt
operation_within k x.Index (x.More a (x.More i xs)) d = (omega (arith, d), omega (arith, d))
operation_within k x.Index (x.More a x.NoMore) d = tt
operation_within k x.Index x.NoMore d = tt
operation_within k x.Slice (x.More a (x.More i (x.More j xs))) d = (omega (arith, d), omega (arith, d), omega (arith, d))
operation_within k x.Slice (x.More a (x.More i x.NoMore)) d = tt
operation_within k x.Slice (x.More a x.NoMore) d = tt
operation_within k x.Slice x.NoMore d = tt
operation_within k x.SliceFrom (x.More a (x.More i xs)) d = (omega (arith, d), omega (arith, d))
operation_within k x.SliceFrom (x.More a x.NoMore) d = tt
operation_within k x.SliceFrom x.NoMore d = tt
operation_within k (x.Resize maker) (x.More a (x.More n xs)) d = (omega (arith, d), omega (arith, d))
operation_within k (x.Resize maker) (x.More a x.NoMore) d = tt
operation_within k (x.Resize maker) x.NoMore d = tt
operation_within k x.Whole (x.More a xs) d = omega (arith, d)
operation_within k x.Whole x.NoMore d = tt
operation_within k (x.Apply s) xs d = tt
operation_within k x.Negation xs d = tt
operation_within k (x.Both o) xs d = tt
operation_within k x.ListOf xs d = tt
operation_within k (x.Method name keys) xs d = tt

pub view_within : (k : ℕ) (e : Ex) → ex_depth e ≤ k → ViewWithin k (view e)
view_within k (x.Name t) d = tt
view_within k (x.Str bytes) d = tt
view_within k (x.Op h xs) d = operation_within k h xs d
view_within k (x.Number n) d = tt
view_within k (x.Truth b) d = tt
view_within k x.Nothing d = tt
view_within k (x.And a b) d = tt
view_within k (x.Or a b) d = tt
view_within k (x.Collect item t over) d = tt

-- a step gives this
abbrev pub GivesStep : {A : Type 0} → (A → Type 0) → Design → Step A → Type 0
GivesStep Q d p = IfOk (p d) (λ y. Q y.0)

pub just_gives : {A : Type 0} (Q : A → Type 0) (d : Design) (r : Result A Code) → IfOk r Q → IfOk (just r d) (λ y. Q y.0)
just_gives Q d (Ok a) h = h
just_gives Q d (Err code) h = tt

if_gives : {A : Type 0} (Q : A → Type 0) (d : Design) (b : Bool) (p q : Step A) → GivesStep Q d p → GivesStep Q d q → GivesStep Q d (if b then p else q)
if_gives Q d true p q h i = h
if_gives Q d false p q h i = i

-- ---- right sides

abbrev DeepBound : ℕ → Bound → Type 0
DeepBound k b = Deep k b.value

abbrev DeepLeft : ℕ → Left → Type 0
DeepLeft k l = left_is_within (left_of l.target) k ≡ true

abbrev DeepPlace : ℕ → Placed → Type 0
DeepPlace k p = base_is_within (base_of p.0) k ≡ true

abbrev pub DeepStatement : ℕ → Statement → Type 0
DeepStatement k st = statement_is_within st (suc k) ≡ true

module _ (s : Scope) (locals : Locals) (w : Work) (k : ℕ) where
  plain_deep : (r : Result Typed Code) → IfOk r (Deep k) → IfOk (after r (λ t. Ok (bindings.plain t))) (DeepBound k)
  plain_deep (Ok t) h = h
  plain_deep (Err code) h = tt

  constant_deep : (d : Design) (v : Const) (y : Const-F Const) → 1 ≤ k → IfOk (bindings.constant_step d v y) (DeepBound k)
  constant_deep d v (Const-F.Bounded n b) h = integer_deep n k h
  constant_deep d v y h = plain_deep (leaf false v d) (leaf_deep false v d k h)

  number_deep : (t : Typed) (b : Binding) → Deep k t → IfOk (bindings.number_in t b) (DeepBound k)
  number_deep t b h = ok_if (DeepBound k) (is_number t.kind) _ _ (λ q. h) (λ q. tt)

  between_deep : (wraps : Bool) (t : Typed) (low high : ℤ) → Deep k t → IfOk (bindings.between wraps t low high) (DeepBound k)
  between_deep wraps t low high h = any_then (DeepBound k) (bindings.bounds_between wraps low high) _ (λ b. number_deep t (binding.Bounded b) h)

  low_deep : (wraps : Bool) (t : Typed) (n : ℤ) → Deep k t → IfOk (bindings.low_bits wraps t n) (DeepBound k)
  low_deep wraps t (pos n) h = ok_if (DeepBound k) (nat_le 1 n) _ _ (λ p. ok_if (DeepBound k) (nat_le n 127) _ _ (λ q. number_deep t (binding.LowBits n wraps) h) (λ q. tt)) (λ p. tt)
  low_deep wraps t (negsuc n) h = tt

  any_deep : (d : Design) (a : Ex) → ex_depth a ≤ k → GivesStep (DeepBound k) d (bindings.any_right s locals w a)
  any_deep d a h = chain_deep (Deep k) (DeepBound k) d (read s locals w false a) (λ t. pure (bindings.plain t)) (reads_deep s locals w false a k d h) (λ t g i. i)

  folded_deep : (d : Design) (a : Ex) → 1 ≤ k → GivesStep (DeepBound k) d (bindings.folded_right s a)
  folded_deep d a h = any_chain (DeepBound k) d (just (value s a)) (λ v. seeing (bindings.constant_right v)) (λ v g. just_gives (DeepBound k) g (bindings.constant_right v g) (constant_deep g v (out-Const v) h))

  two_constants : (d : Design) (q r : Result ℤ Code) (f : ℤ → ℤ → Result Bound Code) → ((n m : ℤ) → IfOk (f n m) (DeepBound k)) → GivesStep (DeepBound k) d (chain (just q) (λ n. chain (just r) (λ m. just (f n m))))
  two_constants d q r f h = any_chain (DeepBound k) d (just q) (λ n. chain (just r) (λ m. just (f n m))) (λ n g. any_chain (DeepBound k) g (just r) (λ m. just (f n m)) (λ m g'. just_gives (DeepBound k) g' (f n m) (h n m)))

  made_deep : (d : Design) (wraps : Bool) (f : Form) (a : Ex) (xs : Exs) → ex_depth a ≤ k → exs_depth xs ≤ k → GivesStep (DeepBound k) d (bindings.made_right s locals w wraps f a xs)
  made_deep d wraps form.LowHigh a (x.More v (x.More low (x.More high x.NoMore))) h i =
      chain_deep (Deep k) (DeepBound k) d (read s locals w false v) (λ t. chain (just (bindings.constant_number s locals low)) (λ a. chain (just (bindings.constant_number s locals high)) (λ b. just (bindings.between wraps t a b)))) (reads_deep s locals w false v k d (omega (arith, i)))
      (λ t g j. two_constants g (bindings.constant_number s locals low) (bindings.constant_number s locals high) (λ a b. bindings.between wraps t a b) (λ a b. between_deep wraps t a b j))
  made_deep d wraps form.HighLow a (x.More v (x.More high (x.More low x.NoMore))) h i =
      chain_deep (Deep k) (DeepBound k) d (read s locals w false v) (λ t. chain (just (bindings.constant_number s locals high)) (λ b. chain (just (bindings.constant_number s locals low)) (λ a. just (bindings.between wraps t a b)))) (reads_deep s locals w false v k d (omega (arith, i)))
      (λ t g j. two_constants g (bindings.constant_number s locals high) (bindings.constant_number s locals low) (λ b a. bindings.between wraps t a b) (λ b a. between_deep wraps t a b j))
  made_deep d wraps f a xs h i = any_deep d a h

  resizing_deep : (d : Design) (wraps : Bool) (f : Form) (ys : Exs) (n : Ex) → exs_depth ys ≤ k → GivesStep (DeepBound k) d (bindings.resized_right s locals w wraps f ys n)
  resizing_deep d wraps form.Single (x.More v x.NoMore) n i =
      chain_deep (Deep k) (DeepBound k) d (read s locals w false v) (λ t. chain (just (bindings.constant_number s locals n)) (λ m. just (bindings.low_bits wraps t m))) (reads_deep s locals w false v k d (omega (arith, i)))
      (λ t g j. any_chain (DeepBound k) g (just (bindings.constant_number s locals n)) (λ m. just (bindings.low_bits wraps t m)) (λ m g'. just_gives (DeepBound k) g' (bindings.low_bits wraps t m) (low_deep wraps t m j)))
  resizing_deep d wraps f ys n i = tt

  resized_deep : (d : Design) (e : Ex) (v : View) (n : Ex) → ex_depth e ≤ k → ViewWithin k v → GivesStep (DeepBound k) d (bindings.resized_view s locals w e v n)
  resized_deep d e (views.Called keys f ys) n h i = if_gives (DeepBound k) d (is_maker (callee_of s locals f)) _ _ (resizing_deep d (bindings.wraps (callee_of s locals f)) (form_of keys) ys n i) (any_deep d e h)
  resized_deep d e v n h i = any_deep d e h

  call_deep : (d : Design) (e : Ex) (v : View) → ex_depth e ≤ k → ViewWithin k v → GivesStep (DeepBound k) d (bindings.call_view s locals w e v)
  call_deep d e (views.Called keys f xs) h i = if_gives (DeepBound k) d (is_maker (callee_of s locals f)) _ _ (made_deep d (bindings.wraps (callee_of s locals f)) (form_of keys) e xs h i) (any_deep d e h)
  call_deep d e (views.Resized a n) h i = resized_deep d e (view a) n h (view_within k a i.0)
  call_deep d e v h i = any_deep d e h

  right_deep : (d : Design) (a : Ex) → ex_depth a ≤ k → GivesStep (DeepBound k) d (bindings.right s locals w a)
  right_deep d a h = if_gives (DeepBound k) d (bindings.is_made s locals a && folds s locals a) _ _ (folded_deep d a (let o = some_depth a in omega (arith, o, h))) (call_deep d a (view a) h (view_within k a h))

  -- ---- left sides

  signal_deep : (d : Design) (n : ℕ) → IfOk (targets.signal_place d n) (DeepPlace k)
  signal_deep d n = any_then (DeepPlace k) (given (signal_kind d n) E10KindClash) _ (λ l. refl)

  held_deep : (d : Design) (y : Const-F Const) → IfOk (targets.held_place_step d y) (DeepPlace k)
  held_deep d (Const-F.Signal n l) = signal_deep d n
  held_deep d y = tt

  named_deep : (d : Design) (b : Bool) (o : Option Const) → IfOk (targets.named_place b o d) (DeepPlace k)
  named_deep d true o = tt
  named_deep d false None = tt
  named_deep d false (Some v) = held_deep d (out-Const v)

  element_deep : (d : Design) (c : Collection) (i : Ex) → ex_depth i ≤ k → GivesStep (DeepPlace k) d (targets.element_place s c (read s locals w false i))
  element_deep d (Listed n) i h = chain_deep (Deep k) (DeepPlace k) d (read s locals w false i) _ (reads_deep s locals w false i k d h) (λ t g j. any_chain (DeepPlace k) g (cell s n t) _ (λ m g'. j))
  element_deep d (Tupled cs) i h = any_chain (DeepPlace k) d (read s locals w false i) _ (λ t g. any_chain (DeepPlace k) g (just (place_in cs (constant_of (expression_of t.expr)))) _ (λ v g'. just_gives (DeepPlace k) g' (targets.held_place v g') (held_deep g' (out-Const v))))
  element_deep d Neither i h = tt

  next_deep : (d : Design) (v : View) → ViewWithin k v → GivesStep (DeepPlace k) d (targets.next_view s locals w v)
  next_deep d (views.Named t) h = just_gives (DeepPlace k) d (targets.named_place (is_local locals t) (lookup s.names t) d) (named_deep d (is_local locals t) (lookup s.names t))
  next_deep d (views.Indexed a i) h = element_deep d (collection_of s locals a) i h.1
  next_deep d v h = tt

  next_place_deep : (d : Design) (a : Ex) → ex_depth a ≤ k → GivesStep (DeepPlace k) d (targets.next_place s locals w a)
  next_place_deep d a h = next_deep d (view a) (view_within k a h)

  place_deep : (v : ℕ) → IfOk (targets.local_place w v) (DeepPlace k)
  place_deep v = ok_if (DeepPlace k) (is_assigned w.here v) _ _ (λ a. any_then (DeepPlace k) (given (kind_at w v) _) _ (λ l. refl)) (λ a. tt)

  own_deep : (n : Option ℕ) (o : Option Const) → IfOk (targets.own_place w n o) (DeepPlace k)
  own_deep (Some v) o = place_deep v
  own_deep None None = tt
  own_deep None (Some v) = tt

  part_deep : (d : Design) (v : View) → ViewWithin k v → GivesStep (DeepPlace k) d (targets.part_view s locals w v)
  part_deep d (views.Named t) h = just_gives (DeepPlace k) d (targets.own_named s locals w t) (own_deep (lookup locals.numbers t) (lookup s.names t))
  part_deep d (views.Attributed a name) h = if_gives (DeepPlace k) d (targets.is_next name) _ _ (next_place_deep d a h) tt
  part_deep d v h = tt

  part_place_deep : (d : Design) (a : Ex) → ex_depth a ≤ k → GivesStep (DeepPlace k) d (targets.part_place s locals w a)
  part_place_deep d a h = part_deep d (view a) (view_within k a h)

  bit_left_deep : (p : Placed) (t : Typed) → DeepPlace k p → Deep k t → IfOk (targets.bit_left p t) (DeepLeft k)
  bit_left_deep p t h i = any_then (DeepLeft k) (given (bounds_in (Some p.1)) E10KindClash) _ (λ b. any_then (DeepLeft k) (bit_fits b t) _ (λ u. and_from (base_is_within (base_of p.0) k) (is_within (expression_of t.expr) k) h i))

  slice_left_deep : (p : Placed) (t u : Typed) → DeepPlace k p → Deep k t → Deep k u → IfOk (targets.slice_left p t u) (DeepLeft k)
  slice_left_deep p t u h i j = any_then (DeepLeft k) (given (bounds_in (Some p.1)) E10KindClash) _ (λ b. any_then (DeepLeft k) (slice_fits b t u) _
      (λ z. and_from (base_is_within (base_of p.0) k) _ h (and_from (is_within (expression_of t.expr) k) (is_within (expression_of u.expr) k) i j)))

  all_deep : (p : Placed) → DeepPlace k p → IfOk (targets.all_left p) (DeepLeft k)
  all_deep p h = any_then (DeepLeft k) (given (bounds_in (Some p.1)) E10KindClash) _ (λ b. h)

  entire_deep : (o : Option (List ℕ)) → IfOk (targets.entire_of s locals w o) (DeepLeft k)
  entire_deep None = tt
  entire_deep (Some t) = ok_after (DeepPlace k) (DeepLeft k) (targets.own_named s locals w t) targets.all_left (own_deep (lookup locals.numbers t) (lookup s.names t)) all_deep

  left_view_deep : (d : Design) (v : View) → 1 ≤ k → ViewWithin k v → GivesStep (DeepLeft k) d (targets.left_view s locals w v)
  left_view_deep d (views.Attributed a name) o h = if_gives (DeepLeft k) d (targets.is_next name) _ _ (chain_deep (DeepPlace k) (DeepLeft k) d (targets.next_place s locals w a) _ (next_place_deep d a h) (λ p g i. i)) tt
  left_view_deep d (views.Indexed a i) o h = chain_deep (DeepPlace k) (DeepLeft k) d (targets.part_place s locals w a) _ (part_place_deep d a h.0)
      (λ p g j. chain_deep (Deep k) (DeepLeft k) g (read s locals w false i) _ (reads_deep s locals w false i k g h.1) (λ t g' l. just_gives (DeepLeft k) g' (targets.bit_left p t) (bit_left_deep p t j l)))
  left_view_deep d (views.Ranged a i j) o h = chain_deep (DeepPlace k) (DeepLeft k) d (targets.part_place s locals w a) _ (part_place_deep d a h.0)
      (λ p g q. chain_deep (Deep k) (DeepLeft k) g (read s locals w false i) _ (reads_deep s locals w false i k g h.1)
      (λ t g' l. chain_deep (Deep k) (DeepLeft k) g' (read s locals w false j) _ (reads_deep s locals w false j k g' h.2) (λ u g'' m. just_gives (DeepLeft k) g'' (targets.slice_left p t u) (slice_left_deep p t u q l m))))
  left_view_deep d (views.RangedFrom a i) o h = chain_deep (DeepPlace k) (DeepLeft k) d (targets.part_place s locals w a) _ (part_place_deep d a h.0)
      (λ p g j. chain_deep (Deep k) (DeepLeft k) g (read s locals w false i) _ (reads_deep s locals w false i k g h.1) (λ t g' l. just_gives (DeepLeft k) g' (targets.slice_left p t zero_end) (slice_left_deep p t zero_end j l (integer_deep (pos 0) k o))))
  left_view_deep d (views.Entire a) o h = just_gives (DeepLeft k) d (targets.entire_of s locals w (x.name_in a)) (entire_deep (x.name_in a))
  left_view_deep d v o h = tt

  left_deep : (d : Design) (a : Ex) → ex_depth a ≤ k → GivesStep (DeepLeft k) d (targets.left s locals w a)
  left_deep d a h = left_view_deep d (view a) (let o = some_depth a in omega (arith, o, h)) (view_within k a h)

  -- ---- statements

  abbrev DeepMade : Made → Type 0
  DeepMade m = DeepStatement k m.0

  level : (h : Bool) → h ≡ true → (nat_lt 0 (suc k) && h) ≡ true
  level h q = and_from (nat_lt 0 (suc k)) h (lt-ltb 0 (suc k) (omega arith)) q

  below : (P : ℕ → Bool) → P k ≡ true → P (suc k - 1) ≡ true
  below P h = let e : suc k - 1 ≡ k = omega arith in ap P e ∙ h

  set_within : (l : ℕ) (t : LeftSide) (y : Expression) → left_is_within t k ≡ true → is_within y k ≡ true → DeepStatement k (Set l t y)
  set_within l t y h i = level (left_is_within t (suc k - 1) && is_within y (suc k - 1)) (below (λ m. left_is_within t m && is_within y m) (and_from (left_is_within t k) (is_within y k) h i))

  set_deep : (l : ℕ) (t : Typed) (p : Left) → Deep k t → DeepLeft k p → IfOk (spec.set l t p) (DeepStatement k)
  set_deep l t p h i = ok_if (DeepStatement k) (targets.left_takes p.kind t.kind) _ _ (λ q. set_within l (left_of p.target) (expression_of t.expr) i h) (λ q. tt)

  bind_deep : (l v : ℕ) (b : Bound) → DeepBound k b → IfOk (spec.bind l w v b) DeepMade
  bind_deep l v b h = any_then DeepMade (bindings.bound w v b.binding b.value.kind) _ (λ y. set_within l (Bind v b.binding) (expression_of b.value.expr) refl h)

  staying_deep : (d : Design) (p : Step Statement) → GivesStep (DeepStatement k) d p → GivesStep DeepMade d (spec.staying w p)
  staying_deep d p h = chain_deep (DeepStatement k) DeepMade d p (λ st. pure (st, w)) h (λ st g i. i)

  assign_part_deep : (d : Design) (l : ℕ) (target e : Ex) → ex_depth target ≤ k → ex_depth e ≤ k → GivesStep (DeepStatement k) d (spec.assign_part s locals w l target e)
  assign_part_deep d l target e h i = chain_deep (Deep k) (DeepStatement k) d (read s locals w false e) _ (reads_deep s locals w false e k d i)
      (λ t g j. chain_deep (DeepLeft k) (DeepStatement k) g (targets.left s locals w target) _ (left_deep g target h) (λ p g' m. just_gives (DeepStatement k) g' (spec.set l t p) (set_deep l t p j m)))

  assign_name_deep : (d : Design) (l : ℕ) (o : Option ℕ) (e : Ex) → ex_depth e ≤ k → GivesStep DeepMade d (spec.assign_name s locals w l o e)
  assign_name_deep d l None e h = tt
  assign_name_deep d l (Some v) e h = chain_deep (DeepBound k) DeepMade d (bindings.right s locals w e) _ (right_deep d e h) (λ b g i. just_gives DeepMade g (spec.bind l w v b) (bind_deep l v b i))

  assign_by_deep : (d : Design) (l : ℕ) (o : Option (List ℕ)) (target e : Ex) → ex_depth target ≤ k → ex_depth e ≤ k → GivesStep DeepMade d (spec.assign_by s locals w l o target e)
  assign_by_deep d l (Some t) target e h i = assign_name_deep d l (lookup locals.numbers t) e i
  assign_by_deep d l None target e h i = staying_deep d (spec.assign_part s locals w l target e) (assign_part_deep d l target e h i)

  pub assign_deep : (d : Design) (l : ℕ) (target e : Ex) → ex_depth target ≤ k → ex_depth e ≤ k → IfOk (spec.assign s locals w l target e d) (λ y. DeepStatement k y.0.0)
  unfolding spec.assign
  assign_deep d l target e h i = assign_by_deep d l (x.name_in target) target e h i

  update_deep : (l v : ℕ) (t : Typed) (o : Option Kind) → Deep k t → IfOk (spec.update l w v t o) DeepMade
  update_deep l v t (Some (kind.Bits b)) h = ok_if DeepMade (takes (kind.Bits b) t.kind) _ _ (λ q. set_within l (Whole (LeftLocal v)) (expression_of t.expr) refl h) (λ q. tt)
  update_deep l v t o h = bind_deep l v (record { value = t; binding = binding.Plain }) h

  pub test_deep : (d : Design) (e : Ex) → ex_depth e ≤ k → GivesStep (Deep k) d (spec.condition s locals w e)
  unfolding spec.condition
  test_deep d e h = chain_deep (Deep k) (Deep k) d (read s locals w false e) _ (reads_deep s locals w false e k d h) (λ t g i. just_deep k g (spec.number t) (ok_if (Deep k) (is_number t.kind) _ _ (λ q. i) (λ q. tt)))

  pub claim_deep : (d : Design) (l : ℕ) (e : Ex) → ex_depth e ≤ k → GivesStep (DeepStatement k) d (spec.claim s locals w l e)
  unfolding spec.claim
  claim_deep d l e h = chain_deep (Deep k) (DeepStatement k) d (spec.condition s locals w e) _ (test_deep d e h) (λ t g i. level (is_within (expression_of t.expr) (suc k - 1)) (below (is_within (expression_of t.expr)) i))

  -- ---- printing

  abbrev DeepPrints : List PrintPart → Type 0
  DeepPrints ps = list_all (printed_is_within k) (map printed_of ps) ≡ true

  prints_end : (ps : List PrintPart) (p : PrintPart) → list_all (printed_is_within k) (map printed_of ps) ≡ true → printed_is_within k (printed_of p) ≡ true → list_all (printed_is_within k) (map printed_of (ps ++ p ∷ [])) ≡ true
  prints_end [] p h i = and_from (printed_is_within k (printed_of p)) true i refl
  prints_end (q ∷ ps) p h i = let a = and_parts (printed_is_within k (printed_of q)) (list_all (printed_is_within k) (map printed_of ps)) h in and_from (printed_is_within k (printed_of q)) _ a.0 (prints_end ps p a.1 i)

  printed_deep : (d : Design) (o : Option (List ℕ)) (e : Ex) → ex_depth e ≤ k → GivesStep (λ p. printed_is_within k (printed_of p) ≡ true) d (spec.printed_as o (read s locals w false e))
  printed_deep d (Some bytes) e h = refl
  printed_deep d None e h = chain_deep (Deep k) (λ p. printed_is_within k (printed_of p) ≡ true) d (read s locals w false e) _ (reads_deep s locals w false e k d h)
      (λ t g i. just_gives (λ p. printed_is_within k (printed_of p) ≡ true) g (spec.printed_number t) (ok_if (λ p. printed_is_within k (printed_of p) ≡ true) (is_integer_kind t.kind) _ _ (λ q. i) (λ q. tt)))

  prints_deep : (es : Exs) (ps : List PrintPart) (d : Design) → exs_depth es ≤ k → DeepPrints ps → GivesStep DeepPrints d (spec.printed_onto s locals w ps es)
  prints_deep x.NoMore ps d h i = i
  prints_deep (x.More e es) ps d h i = chain_deep (λ p. printed_is_within k (printed_of p) ≡ true) DeepPrints d (spec.printed_as (spec.text_in s locals e) (read s locals w false e)) (λ p. spec.printed_onto s locals w (ps ++ p ∷ []) es) (printed_deep d (spec.text_in s locals e) e (omega (arith, h)))
      (λ p g j. prints_deep es (ps ++ p ∷ []) g (omega (arith, h)) (prints_end ps p i j))

  print_of_deep : (l : ℕ) (b : Bool) (ps : List PrintPart) → DeepPrints ps → IfOk (spec.print_of l b ps) (DeepStatement k)
  print_of_deep l true ps h = level (list_all (printed_is_within (suc k - 1)) (map printed_of ps)) (below (λ m. list_all (printed_is_within m) (map printed_of ps)) h)
  print_of_deep l false ps h = tt

  show_deep : (d : Design) (l : ℕ) (keys : Keys) (xs : Exs) → exs_depth xs ≤ k → GivesStep (DeepStatement k) d (spec.show s locals w l keys xs)
  show_deep d l keys xs h = chain_deep DeepPrints (DeepStatement k) d (spec.printed_onto s locals w [] xs) _ (prints_deep xs [] d h refl) (λ ps g i. just_gives (DeepStatement k) g (spec.print_of l (all_positional keys) ps) (print_of_deep l (all_positional keys) ps i))

  -- a statement, if there is one
  abbrev pub AnyDeep : Option Statement → Type 0
  AnyDeep None = Unit {0}
  AnyDeep (Some st) = DeepStatement k st

  printing_deep : (d : Design) (b : Bool) (p : Step Statement) → GivesStep (DeepStatement k) d p → GivesStep AnyDeep d (spec.printing b p)
  printing_deep d false p h = tt
  printing_deep d true p h = chain_deep (DeepStatement k) AnyDeep d p (λ st. pure (Some st)) h (λ st g i. i)

  by_itself_by : (d : Design) (l : ℕ) (v : View) → ViewWithin k v → GivesStep AnyDeep d (spec.by_itself_view s locals w l v)
  by_itself_by d l (views.Text bytes) h = tt
  by_itself_by d l (views.Called keys f xs) h = printing_deep d (spec.is_print (callee_of s locals f)) (spec.show s locals w l keys xs) (show_deep d l keys xs h)
  by_itself_by d l v h = tt

  pub by_itself_deep : (d : Design) (l : ℕ) (e : Ex) → ex_depth e ≤ k → GivesStep AnyDeep d (spec.by_itself s locals w l e)
  unfolding spec.by_itself
  by_itself_deep d l e h = by_itself_by d l (view e) (view_within k e h)

  pub yields_deep : (instance : Bool) (l : ℕ) (e : Ex) → IfOk (spec.yields s locals instance l e) (DeepStatement k)
  unfolding spec.yields
  yields_deep false l e = tt
  yields_deep true l e = any_then (DeepStatement k) (yielded s locals e) _ (λ ws. lt-ltb 0 (suc k) (omega arith))

  -- ---- what a `for` goes over

  abbrev pub DeepEnds : Ends → Type 0
  DeepEnds y = (is_within (expression_of y.from) k && is_within (expression_of y.to) k) ≡ true

  ends_of_deep : (down : Bool) (t u : Typed) (z : ℤ) → Deep k t → Deep k u → IfOk (spec.ends_of down t u z) DeepEnds
  ends_of_deep down t u z h i = ok_if DeepEnds (is_number t.kind && is_number u.kind) _ _ (λ q. ok_if DeepEnds (int_eq z (pos 0)) _ _ (λ r. tt) (λ r. and_from (is_within (expression_of t.expr) k) (is_within (expression_of u.expr) k) h i)) (λ q. tt)

  one_end_deep : (d : Design) (down : Bool) (a : Ex) → ex_depth a ≤ k → GivesStep DeepEnds d (spec.one_end down (read s locals w false a))
  one_end_deep d false a h = chain_deep (Deep k) DeepEnds d (read s locals w false a) _ (reads_deep s locals w false a k d h) (λ t g i. just_gives DeepEnds g (spec.ends_of false spec.zero t (pos 1)) (ends_of_deep false spec.zero t (pos 1) (integer_deep (pos 0) k (let o = some_depth a in omega (arith, o, h))) i))
  one_end_deep d true a h = chain_deep (Deep k) DeepEnds d (read s locals w false a) _ (reads_deep s locals w false a k d h) (λ t g i. just_gives DeepEnds g (spec.ends_of true t spec.zero (pos 1)) (ends_of_deep true t spec.zero (pos 1) i (integer_deep (pos 0) k (let o = some_depth a in omega (arith, o, h)))))

  two_ends_deep : (d : Design) (down : Bool) (a b : Ex) → ex_depth a ≤ k → ex_depth b ≤ k → GivesStep DeepEnds d (spec.two_ends down (read s locals w false a) (read s locals w false b))
  two_ends_deep d down a b h i = chain_deep (Deep k) DeepEnds d (read s locals w false a) _ (reads_deep s locals w false a k d h) (λ t g j. chain_deep (Deep k) DeepEnds g (read s locals w false b) _ (reads_deep s locals w false b k g i) (λ u g' m. just_gives DeepEnds g' (spec.ends_of down t u (pos 1)) (ends_of_deep down t u (pos 1) j m)))

  step_deep : (d : Design) (down : Bool) (a b : Ex) (r : Result ℤ Code) → ex_depth a ≤ k → ex_depth b ≤ k → GivesStep DeepEnds d (spec.ends_and_step down (read s locals w false a) (read s locals w false b) r)
  step_deep d down a b r h i = chain_deep (Deep k) DeepEnds d (read s locals w false a) _ (reads_deep s locals w false a k d h) (λ t g j. chain_deep (Deep k) DeepEnds g (read s locals w false b) _ (reads_deep s locals w false b k g i)
      (λ u g' m. any_chain DeepEnds g' (just r) _ (λ z g''. just_gives DeepEnds g'' (spec.ends_of down t u z) (ends_of_deep down t u z j m))))

  misfit_deep : (d : Design) (xs : Exs) → GivesStep DeepEnds d (spec.misfit s locals w xs)
  misfit_deep d xs = any_chain DeepEnds d (all s locals w xs) (λ u. refuse E3BadArguments) (λ u g. tt)

  in_deep : (d : Design) (down : Bool) (xs : Exs) → exs_depth xs ≤ k → GivesStep DeepEnds d (spec.ends_in s locals w down xs)
  in_deep d down x.NoMore h = misfit_deep d x.NoMore
  in_deep d down (x.More a x.NoMore) h = one_end_deep d down a (omega (arith, h))
  in_deep d down (x.More a (x.More b x.NoMore)) h = two_ends_deep d down a b (omega (arith, h)) (omega (arith, h))
  in_deep d down (x.More a (x.More b (x.More z x.NoMore))) h = step_deep d down a b (bindings.constant_number s locals z) (omega (arith, h)) (omega (arith, h))
  in_deep d down (x.More a (x.More b (x.More z (x.More e xs)))) h = misfit_deep d (x.More a (x.More b (x.More z (x.More e xs))))

  range_deep : (d : Design) (o : Option Bool) (keys : Keys) (xs : Exs) → exs_depth xs ≤ k → GivesStep DeepEnds d (spec.range_ends s locals w o keys xs)
  range_deep d None keys xs h = tt
  range_deep d (Some down) keys xs h = if_gives DeepEnds d (all_positional keys) _ _ (in_deep d down xs h) (misfit_deep d xs)

  ends_by : (d : Design) (v : View) → ViewWithin k v → GivesStep DeepEnds d (spec.ends_view s locals w v)
  ends_by d (views.Called keys f xs) h = range_deep d (spec.is_range (callee_of s locals f)) keys xs h
  ends_by d v h = tt

  pub ends_deep : (d : Design) (e : Ex) → ex_depth e ≤ k → GivesStep DeepEnds d (spec.ends s locals w e)
  ends_deep d e h = ends_by d (view e) (view_within k e h)

-- an augmented assignment, which works on its target
module _ (s : Scope) (locals : Locals) (w : Work) (j : ℕ) where
  abbrev DeepAugment : Made → Type 0
  DeepAugment m = DeepStatement (suc j) m.0

  operate_deep : {B : Type 0} (Q : B → Type 0) (d : Design) (o : Operator) (t u : Typed) (f : Typed → Step B) → Deep j t → Deep j u → ((z : Typed) → Deep (suc j) z → GivesStep Q d (f z)) → GivesStep Q d (chain (just (operated o t u)) f)
  operate_deep Q d o t u f h i k = by_result (operated o t u) (operated_deep o t u j h i)
    where
      by_result : (r : Result Typed Code) → IfOk r (Deep (suc j)) → GivesStep Q d (chain (just r) f)
      by_result (Ok z) q = k z q
      by_result (Err code) q = tt

  augment_name_deep : (d : Design) (l : ℕ) (o : Operator) (n : Option ℕ) (e : Ex) → ex_depth e ≤ j → GivesStep DeepAugment d (spec.augment_name s locals w l o n e)
  augment_name_deep d l o None e h = tt
  augment_name_deep d l o (Some v) e h = by_local (local w v) (local_deep w v j (let a = some_depth e in omega (arith, a, h)))
    where
      by_local : (r : Result Typed Code) → IfOk r (Deep j) → GivesStep DeepAugment d (chain (just r) (λ a. chain (read s locals w false e) (λ b. chain (just (operated o a b)) (λ t. just (spec.update l w v t (kind_at w v))))))
      by_local (Ok a) q = chain_deep (Deep j) DeepAugment d (read s locals w false e) _ (reads_deep s locals w false e j d h)
          (λ b g i. operate_deep DeepAugment g o a b (λ t. just (spec.update l w v t (kind_at w v))) q i (λ t m. just_gives DeepAugment g (spec.update l w v t (kind_at w v)) (update_deep s locals w (suc j) l v t (kind_at w v) m)))
      by_local (Err code) q = tt

  augment_part_deep : (d : Design) (l : ℕ) (o : Operator) (target e : Ex) → ex_depth target ≤ j → ex_depth e ≤ j → GivesStep (DeepStatement (suc j)) d (spec.augment_part s locals w l o target e)
  augment_part_deep d l o target e h i =
      chain_deep (Deep j) (DeepStatement (suc j)) d (read s locals w false target) _ (reads_deep s locals w false target j d h)
      (λ a g m. chain_deep (Deep j) (DeepStatement (suc j)) g (read s locals w false e) _ (reads_deep s locals w false e j g i)
      (λ b g' q. operate_deep (DeepStatement (suc j)) g' o a b (λ t. chain (targets.left s locals w target) (λ p. just (spec.set l t p))) m q
      (λ t u. chain_deep (λ p. left_is_within (left_of p.target) (suc j) ≡ true) (DeepStatement (suc j)) g' (targets.left s locals w target) _ (left_deep s locals w (suc j) g' target (omega (arith, h))) (λ p g'' z. just_gives (DeepStatement (suc j)) g'' (spec.set l t p) (set_deep s locals w (suc j) l t p u z)))))

  augment_by_deep : (d : Design) (l : ℕ) (o : Operator) (n : Option (List ℕ)) (target e : Ex) → ex_depth target ≤ j → ex_depth e ≤ j → GivesStep DeepAugment d (spec.augment_by s locals w l o n target e)
  augment_by_deep d l o (Some t) target e h i = augment_name_deep d l o (lookup locals.numbers t) e i
  augment_by_deep d l o None target e h i = chain_deep (DeepStatement (suc j)) DeepAugment d (spec.augment_part s locals w l o target e) (λ st. pure (st, w)) (augment_part_deep d l o target e h i) (λ st g q. q)

  pub augment_deep : (d : Design) (l : ℕ) (o : Operator) (target e : Ex) → ex_depth target ≤ j → ex_depth e ≤ j → IfOk (spec.augment s locals w l o target e d) (λ y. DeepStatement (suc j) y.0.0)
  unfolding spec.augment
  augment_deep d l o target e h i = augment_by_deep d l o (x.name_in target) target e h i
