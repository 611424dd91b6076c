-- What is known at a place of a body, and what stays.
use Rattle.std.proofs.Common.{◌≡◌, ◌≢◌, ℕ, zero, suc, ◌<◌, Bool, true, false, not, ◌||◌, List, [], ◌∷◌, length, map, Option, Some, None, Result, Ok, Err, refl, ap, sym, ◌∙◌, arith, length-set}
use Rattle.std.specs.Prelude.{slice_get, slice_set, ◌==◌}
use Rattle.std.specs.Option.{option_map}
use Rattle.std.proofs.lemmas.Bool.{eqb-true, eqb-false}
use Rattle.mh_text.specs.declared.code.Code.{Code}
use Rattle.mh_consts.specs.declared.scope.Scope.{Scope}
use Rattle.mh_design.specs.declared.assigned.Flow.{Flow}
use Rattle.mh_design.specs.declared.design.Design.{Design}
use Rattle.mh_design.specs.declared.design.Kind.{Kind}
use Rattle.mh_design.specs.declared.design.Local.{Local as Variable}
use Rattle.mh_design.specs.Assigned.{passes, followed, next, is_sound}
use Rattle.mh_design.specs.Kinds.{local_kind}
use Rattle.mh_design.specs.WellFormed.{kind_fits}
use Rattle.mh_exprs.specs.declared.typed.Work.{Work}
use Rattle.mh_lower.specs.Bindings.{with_kind}
use Rattle.mh_exprs.specs.Leaves.{no_kind, kind_at, is_true, is_assigned}
use Rattle.mh_lower.specs.Paths.{Paths, on_both, meet, assigned, assigns}
use Rattle.mh_lower.specs.Generators.{kind_or_int}
use Rattle.mh_lower_laws.proofs.PathLaws.{seen, flow_at, same_flow, both_none, true_set}
use Rattle.mh_lower_laws.proofs.Stepping.{Leads}

-- ---- kinds

-- the locals that have a kind so far have it among these variables
abbrev pub KindsIn : Work → List Variable → Type 0
KindsIn w ls = (v : ℕ) (k : Kind) → kind_at w v ≡ Some k → local_kind ls v ≡ Some k

abbrev pub KindsFit : Work → Design → Type 0
KindsFit w d = (v : ℕ) (k : Kind) → kind_at w v ≡ Some k → kind_fits d k ≡ true

-- a kind that a local has stays its kind
abbrev pub Grows : Work → Work → Type 0
Grows w x = (v : ℕ) (k : Kind) → kind_at w v ≡ Some k → kind_at x v ≡ Some k

-- variables of the kinds so far
abbrev variable_of : Option Kind → Variable
variable_of k = record { name = []; kind = kind_or_int k }

abbrev pub own : Work → List Variable
own w = map variable_of w.kinds

own_by : (ks : List (Option Kind)) (v : ℕ) (k : Kind) → no_kind (slice_get ks v) ≡ Some k → option_map (λ (x : Variable). x.kind) (slice_get (map variable_of ks) v) ≡ Some k
own_by [] v k h = absurd (cc)
own_by (None ∷ ks) zero k h = absurd (cc)
own_by (Some l ∷ ks) zero k h = h
own_by (x ∷ ks) (suc v) k h = own_by ks v k h

pub own_kinds : (w : Work) → KindsIn w (own w)
own_kinds w v k h = own_by w.kinds v k h

-- what holds for all variables that have the kinds
pub leads_all : {A : Type 0} (s : Scope) (w : Work) (Q : List Variable → A → Design → Type 0) (d : Design) (r : Result (A × Design) Code) → ((ls : List Variable) → KindsIn w ls → Leads s (Q ls) d r) →
    Leads s (λ x f. (ls : List Variable) → KindsIn w ls → Q ls x f) d r
leads_all s w Q d (Ok x) h =
    let l = h (own w) (own_kinds w) in
    record { led = record { extends = l.led.extends; holds = l.led.holds; gives = λ ls k. (h ls k).led.gives } }
leads_all s w Q d (Err code) h = record { led = tt }

-- ---- as many locals as there are

abbrev pub SizedPaths : ℕ → Paths → Type 0
SizedPaths n None = Unit {0}
SizedPaths n (Some bs) = length bs ≡ n

pub record Sized (n : ℕ) (w : Work) : Type 0 where
  pub kinds : length w.kinds ≡ n
  pub here : SizedPaths n w.here
  pub breaks : SizedPaths n w.breaks
  pub continues : SizedPaths n w.continues

both_sized : (n : ℕ) (ys zs : List Bool) → length ys ≡ n → length zs ≡ n → length (on_both ys zs) ≡ n
both_sized n [] zs h k = h
both_sized n (y ∷ ys) [] h k = k
both_sized zero (y ∷ ys) (z ∷ zs) h k = absurd (omega (arith, h))
both_sized (suc n) (y ∷ ys) (z ∷ zs) h k = let l = both_sized n ys zs (omega (arith, h)) (omega (arith, k)) in omega (arith, l)

pub meet_sized : (n : ℕ) (p q : Paths) → SizedPaths n p → SizedPaths n q → SizedPaths n (meet p q)
meet_sized n None q h k = k
meet_sized n (Some ys) None h k = h
meet_sized n (Some ys) (Some zs) h k = both_sized n ys zs h k

pub assigned_sized : (n : ℕ) (p : Paths) (v : ℕ) → SizedPaths n p → SizedPaths n (assigned p v)
assigned_sized n None v h = tt
assigned_sized n (Some bs) v h = omega (arith, length-set bs v true, h)

-- ---- a local gets a kind

get_set : {X : Type 0} (xs : List X) (v : ℕ) (x : X) → v < length xs → slice_get (slice_set xs v x) v ≡ Some x
get_set [] v x h = absurd (omega arith)
get_set (y ∷ xs) zero x h = refl
get_set (y ∷ xs) (suc v) x h = get_set xs v x (omega arith)

get_other : {X : Type 0} (xs : List X) (u v : ℕ) (x : X) → u ≢ v → slice_get (slice_set xs v x) u ≡ slice_get xs u
get_other [] u v x h = refl
get_other (y ∷ xs) zero zero x h = absurd (h refl)
get_other (y ∷ xs) zero (suc v) x h = refl
get_other (y ∷ xs) (suc u) zero x h = refl
get_other (y ∷ xs) (suc u) (suc v) x h = get_other xs u v x (λ e. h (ap suc e))

module _ (w : Work) (v : ℕ) (k : Kind) where
  pub kind_there : v < length w.kinds → kind_at (with_kind w v k) v ≡ Some k
  kind_there h = ap no_kind (get_set w.kinds v (Some k) h)

  kind_other : (u : ℕ) → u ≢ v → kind_at (with_kind w v k) u ≡ kind_at w u
  kind_other u h = ap no_kind (get_other w.kinds u v (Some k) h)

  pub kind_grows : kind_at w v ≡ None → Grows w (with_kind w v k)
  kind_grows h u l q = by_test (u == v) refl
    where
      by_test : (b : Bool) → (u == v) ≡ b → kind_at (with_kind w v k) u ≡ Some l
      by_test true e = let same : u ≡ v = eqb-true u v e in let n : kind_at w v ≡ Some l = ap (kind_at w) (sym same) ∙ q in absurd (cc)
      by_test false e = kind_other u (eqb-false u v e) ∙ q

  pub kind_fits_there : (d : Design) → v < length w.kinds → kind_fits d k ≡ true → KindsFit w d → KindsFit (with_kind w v k) d
  kind_fits_there d h f g u l q = by_test (u == v) refl
    where
      by_test : (b : Bool) → (u == v) ≡ b → kind_fits d l ≡ true
      by_test true e = let same : u ≡ v = eqb-true u v e in let n : Some k ≡ Some l = sym (kind_there h) ∙ ap (kind_at (with_kind w v k)) (sym same) ∙ q in let m : k ≡ l = cc in ap (kind_fits d) (sym m) ∙ f
      by_test false e = g u l (sym (kind_other u (eqb-false u v e)) ∙ q)

-- ---- what a statement does to what is known of a local

module _ (v : ℕ) (w : Work) where
  -- a reading of what every path has assigned
  pub is_read : (a r : Bool) → seen v w.here ≡ Some a → (is_assigned w.here v ≡ false → r ≡ false) → is_sound a r ≡ true
  is_read true r e h = refl
  is_read false r e h = let q : r ≡ false = h (unassigned w.here e) in ap not q
    where
      unassigned : (p : Paths) → seen v p ≡ Some false → is_assigned p v ≡ false
      unassigned None f = absurd (cc)
      unassigned (Some bs) f = cc

  -- what changes nothing of the locals
  pub stays : (f : Bool → Flow) → ((a : Bool) → seen v w.here ≡ Some a → f a ≡ passes true a) → flow_at v w ≡ next (flow_at v w) (seen v w.here) f
  stays f h = by_paths (seen v w.here) refl
    where
      by_paths : (o : Option Bool) → seen v w.here ≡ o → flow_at v w ≡ next (flow_at v w) o f
      by_paths None e = refl
      by_paths (Some a) e =
          same_flow (flow_at v w) (followed (flow_at v w) (passes true a)) refl e (sym (both_none (seen v w.breaks))) (sym (both_none (seen v w.continues))) ∙ ap (followed (flow_at v w)) (sym (h a e))

  -- what gives a local a value
  pub gets : (u n : ℕ) (f : Bool → Flow) → u < n → SizedPaths n w.here → ((a : Bool) → seen v w.here ≡ Some a → f a ≡ passes true (a || u == v)) → flow_at v (assigns w u) ≡ next (flow_at v w) (seen v w.here) f
  gets u n f l z h = by_paths w.here refl z
    where
      by_paths : (p : Paths) → w.here ≡ p → SizedPaths n p → flow_at v (assigns w u) ≡ next (flow_at v w) (seen v p) f
      by_paths None e z = same_flow (flow_at v (assigns w u)) (flow_at v w) refl (ap (λ p. seen v (assigned p u)) e ∙ ap (seen v) (sym e)) refl refl
      by_paths (Some bs) e z =
          same_flow (flow_at v (assigns w u)) (followed (flow_at v w) (passes true (is_true (slice_get bs v) || u == v))) refl
          (ap (λ p. seen v (assigned p u)) e ∙ ap Some (true_set bs u v (omega (arith, l, z)))) (sym (both_none (seen v w.breaks))) (sym (both_none (seen v w.continues)))
          ∙ ap (followed (flow_at v w)) (sym (h (is_true (slice_get bs v)) (ap (seen v) e)))
