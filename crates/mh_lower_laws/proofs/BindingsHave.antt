-- What is known of the right side of `v = ..`, and of the local that gets it.
use Rattle.std.proofs.Common.{◌≡◌, ℕ, ◌<◌, ℤ, pos, negsuc, Bool, true, false, ◌&&◌, List, length, Option, Some, None, Result, Ok, Err, IfOk, refl, arith, length-set}
use Rattle.std.specs.Prelude.{nat_le}
use Rattle.std.proofs.lemmas.Bool.{and_parts, and_from, eq-eqb}
use Rattle.mh_num.specs.declared.bounds.Bounds.{Bounds}
use Rattle.mh_text.specs.declared.code.Code.{Code}
use Rattle.mh_text.specs.declared.code.Code.TheVariants.{E2NotElaborable, E5TooWide}
use Rattle.mh_consts.specs.declared.kinds.Const.{Const, out-Const}
use Rattle.mh_consts.specs.declared.kinds.Const.TheOpen.{Const-F}
use Rattle.mh_consts.specs.declared.scope.Scope.{Scope}
use Rattle.mh_consts.specs.Expression as x
use Rattle.mh_consts.specs.Expression.{Ex, Exs, Keys}
use Rattle.mh_consts.specs.Outcome.{after}
use Rattle.mh_consts.specs.Constant.{value, is_plain}
use Rattle.mh_design.specs.declared.design.Design.{Design}
use Rattle.mh_design.specs.declared.design.Kind.{Kind}
use Rattle.mh_design.specs.declared.design.Local.{Local as Variable}
use Rattle.mh_design.specs.declared.kinds.ValueKind.{ValueKind}
use Rattle.mh_design.specs.declared.kinds.ValueKind.TheVariants as value
use Rattle.mh_design.specs.declared.statement.Binding.{Binding}
use Rattle.mh_design.specs.declared.statement.Binding.TheVariants as binding
use Rattle.mh_design.specs.Kinds.{is_number}
use Rattle.mh_design.specs.Statements.{binding_takes}
use Rattle.mh_design.specs.WellFormed.{kind_fits}
use Rattle.mh_exprs.specs.declared.locals.Locals.{Locals}
use Rattle.mh_exprs.specs.declared.names.Form.{Form}
use Rattle.mh_exprs.specs.declared.names.Form.TheVariants as form
use Rattle.mh_exprs.specs.declared.typed.Typed.{Typed}
use Rattle.mh_lower.specs.declared.typed.Bound.{Bound}
use Rattle.mh_exprs.specs.declared.typed.Work.{Work}
use Rattle.mh_lower.specs.Bindings.{plain, constant_step, constant_right, constant_number, number_in, bounds_between, between, low_bits, wraps, made_between, made_between_turned, made_low_bits, any_right, folded_right, made_right, resized_right, resized_view, call_view, call_right, is_made, right, plain_kind, low_bounds, first_kind, with_kind, bound_as, bound}
use Rattle.mh_exprs.specs.Calls.{callee_of, form_of, is_maker}
use Rattle.mh_exprs.specs.Constant.{folds, is_constant}
use Rattle.mh_exprs.specs.Expression.{read}
use Rattle.mh_exprs.specs.Leaves.{leaf, kind_at}
use Rattle.mh_lower.specs.Paths.{assigns}
use Rattle.mh_exprs.specs.Step.{Step, pure, refuse, just, seeing, chain}
use Rattle.mh_lower.specs.Views.{View, view, Named, Text, Tupled, Called, Attributed, Indexed, Ranged, RangedFrom, Resized, Entire, Another}
use Rattle.mh_lower_laws.specs.Holds.{is_of, Holds}
use Rattle.mh_lower_laws.specs.Laws.{Known}
use Rattle.mh_lower_laws.proofs.Keys.{keys_fit, all_keys_fit}
use Rattle.mh_lower_laws.proofs.ScopeValues.{value_fine}
use Rattle.mh_lower_laws.proofs.Having.{value_fits, Has, has_integer}
use Rattle.mh_lower_laws.proofs.LeavesHave.{leaf_has}
use Rattle.mh_lower_laws.proofs.ExpressionsHave.{reads}
use Rattle.mh_lower_laws.proofs.Reading.{KindsFit, Grows, Sized, assigned_sized, kind_there, kind_grows, kind_fits_there}
use Rattle.mh_lower_laws.proofs.PathLaws.{flow_at}
use Rattle.mh_lower_laws.proofs.Stepping.{Leads, leads_pure, leads_refuse, leads_just, leads_if, leads_after, ok_after, ok_given, ok_if}
use Rattle.mh_lower_laws.proofs.ViewsFit.{ViewFits, view_fits}

-- what a binding asks of its value
abbrev pub BindingFits : Binding → ValueKind → Type 0
BindingFits binding.Plain k = Unit {0}
BindingFits (binding.Bounded b) k = is_number k ≡ true
BindingFits (binding.LowBits n wraps) k = (is_number k ≡ true) × ((nat_le 1 n && nat_le n 127) ≡ true)

pub record HasBound (w : Work) (ls : List Variable) (d : Design) (b : Bound) : Type 0 where
  pub has : Has w ls d b.value
  pub fits : BindingFits b.binding b.value.kind

-- ---- right sides

module _ (s : Scope) (locals : Locals) (w : Work) (ls : List Variable) where
  abbrev Gives : Design → Step Bound → Type 0
  Gives d p = Leads s (λ b f. HasBound w ls f b) d (p d)

  no : (d : Design) (code : Code) → Gives d (refuse code)
  no d code = leads_refuse s (λ b f. HasBound w ls f b) d code

  plain_has : (d : Design) (t : Typed) → Has w ls d t → HasBound w ls d (plain t)
  plain_has d t h = record { has = h; fits = tt }

  plain_of : (d : Design) (r : Result Typed Code) → IfOk r (λ t. Has w ls d t) → IfOk (after r (λ t. Ok (plain t))) (λ b. HasBound w ls d b)
  plain_of d (Ok t) h = plain_has d t h
  plain_of d (Err code) h = tt

  constant_has : (d : Design) → Holds s d → (v : Const) (x : Const-F Const) → is_of d v ≡ true → IfOk (constant_step d v x) (λ b. HasBound w ls d b)
  constant_has d h v (Const-F.Bounded n b) f = record { has = has_integer w ls d n; fits = refl }
  constant_has d h v Const-F.None f = plain_of d (leaf false v d) (leaf_has s w ls d h false v f)
  constant_has d h v (Const-F.Int n) f = plain_of d (leaf false v d) (leaf_has s w ls d h false v f)
  constant_has d h v (Const-F.Truth b) f = plain_of d (leaf false v d) (leaf_has s w ls d h false v f)
  constant_has d h v (Const-F.Str t) f = plain_of d (leaf false v d) (leaf_has s w ls d h false v f)
  constant_has d h v (Const-F.Delay n) f = plain_of d (leaf false v d) (leaf_has s w ls d h false v f)
  constant_has d h v (Const-F.EnumType n names) f = plain_of d (leaf false v d) (leaf_has s w ls d h false v f)
  constant_has d h v (Const-F.Item n place) f = plain_of d (leaf false v d) (leaf_has s w ls d h false v f)
  constant_has d h v (Const-F.Signal n k) f = plain_of d (leaf false v d) (leaf_has s w ls d h false v f)
  constant_has d h v (Const-F.Edge n rising) f = plain_of d (leaf false v d) (leaf_has s w ls d h false v f)
  constant_has d h v (Const-F.Range a b step) f = plain_of d (leaf false v d) (leaf_has s w ls d h false v f)
  constant_has d h v (Const-F.List n) f = plain_of d (leaf false v d) (leaf_has s w ls d h false v f)
  constant_has d h v (Const-F.Tuple items) f = plain_of d (leaf false v d) (leaf_has s w ls d h false v f)
  constant_has d h v (Const-F.Function n) f = plain_of d (leaf false v d) (leaf_has s w ls d h false v f)
  constant_has d h v (Const-F.Instance n) f = plain_of d (leaf false v d) (leaf_has s w ls d h false v f)
  constant_has d h v (Const-F.Generator n) f = plain_of d (leaf false v d) (leaf_has s w ls d h false v f)
  constant_has d h v (Const-F.Builtin b) f = plain_of d (leaf false v d) (leaf_has s w ls d h false v f)

  number_has : (d : Design) (t : Typed) (b : Binding) → Has w ls d t → (is_number t.kind ≡ true → BindingFits b t.kind) → IfOk (number_in t b) (λ b. HasBound w ls d b)
  number_has d t b h f = ok_if (λ b. HasBound w ls d b) (is_number t.kind) _ _ (λ q. record { has = h; fits = f q }) (λ q. tt)

  between_has : (d : Design) (wraps : Bool) (t : Typed) (low high : ℤ) → Has w ls d t → IfOk (between wraps t low high) (λ b. HasBound w ls d b)
  between_has d wraps t low high h = by_bounds (bounds_between wraps low high)
    where
      by_bounds : (r : Result Bounds Code) → IfOk (after r (λ b. number_in t (binding.Bounded b))) (λ b. HasBound w ls d b)
      by_bounds (Ok b) = number_has d t (binding.Bounded b) h (λ q. q)
      by_bounds (Err code) = tt

  low_has : (d : Design) (wraps : Bool) (t : Typed) (n : ℤ) → Has w ls d t → IfOk (low_bits wraps t n) (λ b. HasBound w ls d b)
  low_has d wraps t (pos n) h = ok_if (λ b. HasBound w ls d b) (nat_le 1 n) _ _ (λ p. ok_if (λ b. HasBound w ls d b) (nat_le n 127) _ _ (λ q. number_has d t (binding.LowBits n wraps) h (λ r. (r, and_from (nat_le 1 n) (nat_le n 127) p q))) (λ q. tt)) (λ p. tt)
  low_has d wraps t (negsuc n) h = tt

  -- constants that follow
  one_constant : (d : Design) (r : Result ℤ Code) (f : ℤ → Result Bound Code) → Holds s d → ((n : ℤ) → IfOk (f n) (λ b. HasBound w ls d b)) → Gives d (chain (just r) (λ n. just (f n)))
  one_constant d (Ok n) f h k = leads_just s (λ b g. HasBound w ls g b) d h (f n) (k n)
  one_constant d (Err code) f h k = no d code

  two_constants : (d : Design) (q r : Result ℤ Code) (f : ℤ → ℤ → Result Bound Code) → Holds s d → ((n m : ℤ) → IfOk (f n m) (λ b. HasBound w ls d b)) → Gives d (chain (just q) (λ n. chain (just r) (λ m. just (f n m))))
  two_constants d (Ok n) r f h k = one_constant d r (f n) h (k n)
  two_constants d (Err code) r f h k = no d code

  module _ (d : Design) (h : Holds s d) (known : Known w ls d) where
    any_leads : (a : Ex) → keys_fit a ≡ true → Gives d (any_right s locals w a)
    any_leads a k = leads_after s (λ t f. Has w ls f t) (λ b f. HasBound w ls f b) d (read s locals w false a d) (λ t. pure (plain t)) (reads s locals w ls false a d k h known)
        (λ t g x i j. leads_pure s (λ b f. HasBound w ls f b) g i (plain t) (plain_has g t j))

    folded_leads : (a : Ex) → is_plain s a ≡ true → Gives d (folded_right s a)
    folded_leads a p = by_value (value s a) (value_fine d s h.names h.lists a p)
      where
        by_value : (r : Result Const Code) → IfOk r (λ v. is_of d v ≡ true) → Gives d (chain (just r) (λ v. seeing (constant_right v)))
        by_value (Ok v) q = leads_just s (λ b f. HasBound w ls f b) d h (constant_right v d) (constant_has d h v (out-Const v) q)
        by_value (Err code) q = no d code

    between_leads : (wraps : Bool) (v low high : Ex) → keys_fit v ≡ true → Gives d (made_between s locals wraps (read s locals w false v) low high)
    between_leads wraps v low high k = leads_after s (λ t f. Has w ls f t) (λ b f. HasBound w ls f b) d (read s locals w false v d)
        (λ t. chain (just (constant_number s locals low)) (λ a. chain (just (constant_number s locals high)) (λ b. just (between wraps t a b)))) (reads s locals w ls false v d k h known)
        (λ t g x i j. two_constants g (constant_number s locals low) (constant_number s locals high) (λ a b. between wraps t a b) i (λ a b. between_has g wraps t a b j))

    turned_leads : (wraps : Bool) (v high low : Ex) → keys_fit v ≡ true → Gives d (made_between_turned s locals wraps (read s locals w false v) high low)
    turned_leads wraps v high low k = leads_after s (λ t f. Has w ls f t) (λ b f. HasBound w ls f b) d (read s locals w false v d)
        (λ t. chain (just (constant_number s locals high)) (λ b. chain (just (constant_number s locals low)) (λ a. just (between wraps t a b)))) (reads s locals w ls false v d k h known)
        (λ t g x i j. two_constants g (constant_number s locals high) (constant_number s locals low) (λ b a. between wraps t a b) i (λ b a. between_has g wraps t a b j))

    low_leads : (wraps : Bool) (v n : Ex) → keys_fit v ≡ true → Gives d (made_low_bits s locals wraps (read s locals w false v) n)
    low_leads wraps v n k = leads_after s (λ t f. Has w ls f t) (λ b f. HasBound w ls f b) d (read s locals w false v d) (λ t. chain (just (constant_number s locals n)) (λ k. just (low_bits wraps t k))) (reads s locals w ls false v d k h known)
        (λ t g x i j. one_constant g (constant_number s locals n) (low_bits wraps t) i (λ m. low_has g wraps t m j))

    made_leads : (wraps : Bool) (f : Form) (a : Ex) (xs : Exs) → keys_fit a ≡ true → all_keys_fit xs ≡ true → Gives d (made_right s locals w wraps f a xs)
    made_leads wraps form.LowHigh a (x.More v (x.More low (x.More high x.NoMore))) k l = between_leads wraps v low high (and_parts (keys_fit v) _ l).0
    made_leads wraps form.HighLow a (x.More v (x.More high (x.More low x.NoMore))) k l = turned_leads wraps v high low (and_parts (keys_fit v) _ l).0
    made_leads wraps form.LowHigh a x.NoMore k l = any_leads a k
    made_leads wraps form.LowHigh a (x.More v x.NoMore) k l = any_leads a k
    made_leads wraps form.LowHigh a (x.More v (x.More low x.NoMore)) k l = any_leads a k
    made_leads wraps form.HighLow a x.NoMore k l = any_leads a k
    made_leads wraps form.HighLow a (x.More v x.NoMore) k l = any_leads a k
    made_leads wraps form.HighLow a (x.More v (x.More low x.NoMore)) k l = any_leads a k
    made_leads wraps form.LowHigh a (x.More v (x.More low (x.More high (x.More e xs)))) k l = any_leads a k
    made_leads wraps form.HighLow a (x.More v (x.More low (x.More high (x.More e xs)))) k l = any_leads a k
    made_leads wraps form.Single a xs k l = any_leads a k
    made_leads wraps form.Other a xs k l = any_leads a k

    resizing_leads : (wraps : Bool) (f : Form) (ys : Exs) (n : Ex) → all_keys_fit ys ≡ true → Gives d (resized_right s locals w wraps f ys n)
    resizing_leads wraps form.Single (x.More v x.NoMore) n l = low_leads wraps v n (and_parts (keys_fit v) true l).0
    resizing_leads wraps form.Single (x.More v (x.More e ys)) n l = no d E2NotElaborable
    resizing_leads wraps form.Single x.NoMore n l = no d E2NotElaborable
    resizing_leads wraps form.LowHigh ys n l = no d E2NotElaborable
    resizing_leads wraps form.HighLow ys n l = no d E2NotElaborable
    resizing_leads wraps form.Other ys n l = no d E2NotElaborable

    resized_leads : (e : Ex) (v : View) (n : Ex) → keys_fit e ≡ true → ViewFits v → Gives d (resized_view s locals w e v n)
    resized_leads e (Called keys f ys) n k l =
        leads_if s (λ b f. HasBound w ls f b) d (is_maker (callee_of s locals f)) (resized_right s locals w (wraps (callee_of s locals f)) (form_of keys) ys n) (any_right s locals w e)
        (λ q. resizing_leads (wraps (callee_of s locals f)) (form_of keys) ys n l) (λ q. any_leads e k)
    resized_leads e (Named t) n k l = any_leads e k
    resized_leads e (Text bytes) n k l = any_leads e k
    resized_leads e (Tupled xs) n k l = any_leads e k
    resized_leads e (Attributed a name) n k l = any_leads e k
    resized_leads e (Indexed a i) n k l = any_leads e k
    resized_leads e (Ranged a i j) n k l = any_leads e k
    resized_leads e (RangedFrom a i) n k l = any_leads e k
    resized_leads e (Resized a i) n k l = any_leads e k
    resized_leads e (Entire a) n k l = any_leads e k
    resized_leads e Another n k l = any_leads e k

    call_leads : (e : Ex) (v : View) → keys_fit e ≡ true → ViewFits v → Gives d (call_view s locals w e v)
    call_leads e (Called keys f xs) k l =
        leads_if s (λ b f. HasBound w ls f b) d (is_maker (callee_of s locals f)) (made_right s locals w (wraps (callee_of s locals f)) (form_of keys) e xs) (any_right s locals w e)
        (λ q. made_leads (wraps (callee_of s locals f)) (form_of keys) e xs k l) (λ q. any_leads e k)
    call_leads e (Resized a n) k l = resized_leads e (view a) n k (view_fits a l.0)
    call_leads e (Named t) k l = any_leads e k
    call_leads e (Text bytes) k l = any_leads e k
    call_leads e (Tupled xs) k l = any_leads e k
    call_leads e (Attributed a name) k l = any_leads e k
    call_leads e (Indexed a i) k l = any_leads e k
    call_leads e (Ranged a i j) k l = any_leads e k
    call_leads e (RangedFrom a i) k l = any_leads e k
    call_leads e (Entire a) k l = any_leads e k
    call_leads e Another k l = any_leads e k

    pub right_leads : (a : Ex) → keys_fit a ≡ true → Gives d (right s locals w a)
    right_leads a k =
        leads_if s (λ b f. HasBound w ls f b) d (is_made s locals a && folds s locals a) (folded_right s a) (call_right s locals w a)
        (λ q. folded_leads a (and_parts (is_plain s a) (is_constant s locals a) (and_parts (is_made s locals a) (folds s locals a) q).1).0) (λ q. call_leads a (view a) k (view_fits a k))

-- ---- a local gets a value

-- what is known of the locals after it
pub record BoundAs (n : ℕ) (d : Design) (w : Work) (v : ℕ) (b : Binding) (k : ValueKind) (y : Work) : Type 0 where
  pub grows : Grows w y
  pub sized : Sized n y
  pub fit : KindsFit y d
  pub declared : Kind
  pub is_declared : kind_at y v ≡ Some declared
  pub takes : binding_takes b declared k ≡ true
  pub walked : (u : ℕ) → flow_at u y ≡ flow_at u (assigns w v)

-- the kind of a first assignment
record FirstAs (d : Design) (b : Binding) (k : ValueKind) (declared : Kind) : Type 0 where
  pub takes : binding_takes b declared k ≡ true
  pub fits : kind_fits d declared ≡ true

plain_as : (d : Design) (k : ValueKind) → value_fits d k ≡ true → FirstAs d binding.Plain k (plain_kind k)
plain_as d value.Bool f = record { takes = refl; fits = refl }
plain_as d value.Int f = record { takes = refl; fits = refl }
plain_as d (value.Bits s) f = record { takes = refl; fits = refl }
plain_as d (value.Item n) f = record { takes = eq-eqb n n refl; fits = f }

first_as : (d : Design) (b : Binding) (k : ValueKind) → BindingFits b k → value_fits d k ≡ true → IfOk (first_kind b k) (FirstAs d b k)
first_as d binding.Plain k h f = plain_as d k f
first_as d (binding.Bounded b) k h f = record { takes = h; fits = refl }
first_as d (binding.LowBits n wraps) k h f = ok_given (FirstAs d (binding.LowBits n wraps) k) (low_bounds n wraps) E5TooWide _ (λ b q. record { takes = and_from (is_number k) (nat_le 1 n && nat_le n 127) h.0 h.1; fits = refl })

module _ (n : ℕ) (d : Design) (w : Work) (v : ℕ) (b : Binding) (k : ValueKind) (there : v < n) (sized : Sized n w) (fit : KindsFit w d) where
  assigns_sized : (y : Work) → Sized n y → Sized n (assigns y v)
  assigns_sized y h = record { kinds = h.kinds; here = assigned_sized n y.here v h.here; breaks = h.breaks; continues = h.continues }

  with_sized : (l : Kind) → Sized n (with_kind w v l)
  with_sized l = record { kinds = omega (arith, length-set w.kinds v (Some l), sized.kinds); here = sized.here; breaks = sized.breaks; continues = sized.continues }

  first_bound : (l : Kind) → kind_at w v ≡ None → FirstAs d b k l → BoundAs n d w v b k (assigns (with_kind w v l) v)
  first_bound l q f =
      let below : v < length w.kinds = omega (arith, there, sized.kinds) in
      record {
        grows = kind_grows w v l q;
        sized = assigns_sized (with_kind w v l) (with_sized l);
        fit = kind_fits_there w v l d below f.fits fit;
        declared = l;
        is_declared = kind_there w v l below;
        takes = f.takes;
        walked = λ u. refl;
      }

  bound_by : (o : Option Kind) → kind_at w v ≡ o → BindingFits b k → value_fits d k ≡ true → IfOk (bound_as w v b k o) (BoundAs n d w v b k)
  bound_by None q h f = ok_after (FirstAs d b k) (BoundAs n d w v b k) (first_kind b k) _ (first_as d b k h f) (λ l i. first_bound l q i)
  bound_by (Some l) q h f = ok_if (BoundAs n d w v b k) (binding_takes b l k) _ _
      (λ t. record { grows = λ u m i. i; sized = assigns_sized w sized; fit = fit; declared = l; is_declared = q; takes = t; walked = λ u. refl }) (λ t. tt)

  pub bound_has : BindingFits b k → value_fits d k ≡ true → IfOk (bound w v b k) (BoundAs n d w v b k)
  bound_has h f = bound_by (kind_at w v) refl h f
