-- What is known of a statement that holds no others.
use Rattle.std.proofs.Common.{◌≡◌, ℕ, ◌<◌, ℤ, pos, Bool, true, false, not, ◌&&◌, ◌||◌, List, [], ◌∷◌, ◌++◌, map, flat_map, Option, Some, None, Result, Ok, Err, IfOk, refl, ap, ap₂, sym, ◌∙◌}
use Rattle.std.specs.Prelude.{◌==◌}
use Rattle.std.specs.Ordering.{int_eq}
use Rattle.std.specs.List.{list_all, list_any}
use Rattle.std.specs.Option.{option_map_or}
use Rattle.std.proofs.lemmas.Bool.{and_parts, and_from, or_from, or_parts, eqb-true, false_from_ne_true}
use Rattle.std.proofs.lemmas.List.Folds.{list_all-append, list_any-append}
use Rattle.mh_num.specs.declared.bounds.Bounds.{Bounds}
use Rattle.mh_pytree.specs.declared.expression.Operator.{Operator}
use Rattle.mh_text.specs.declared.code.Code.{Code}
use Rattle.mh_text.specs.declared.code.Code.TheVariants.{E2NotElaborable, E3BadArguments, E10KindClash}
use Rattle.mh_consts.specs.declared.scope.Scope.{Scope}
use Rattle.mh_consts.specs.Expression as x
use Rattle.mh_consts.specs.Expression.{Ex, Exs, Keys}
use Rattle.mh_consts.specs.Builtins.{all_positional}
use Rattle.mh_consts.specs.Names.{lookup}
use Rattle.mh_design.specs.declared.design.Design.{Design}
use Rattle.mh_design.specs.declared.design.Kind.{Kind}
use Rattle.mh_design.specs.declared.design.Kind.TheVariants as kind
use Rattle.mh_design.specs.declared.design.Local.{Local as Variable}
use Rattle.mh_design.specs.declared.design.Wait.{Wait}
use Rattle.mh_design.specs.declared.kinds.ValueKind.{ValueKind}
use Rattle.mh_design.specs.declared.statement.Binding.TheVariants as binding
use Rattle.mh_design.specs.declared.statement.PrintPart.{PrintPart}
use Rattle.mh_design.specs.declared.statement.PrintPart.TheVariants as print
use Rattle.mh_design.specs.Assigned.{passes, followed, next, reads_local, changes, binds, walk}
use Rattle.mh_design.specs.Constants.{constants_keep, left_keeps}
use Rattle.mh_design.specs.Kinds.{is_number, kind_of, local_kind}
use Rattle.mh_design.specs.Numbering.{left_indices, printed_numbers, statements}
use Rattle.mh_design.specs.Statements.{is_numeric, is_integer, is_integer_kind, takes, binding_takes, is_bits_kind, wait_fits, printed_fits, kinds_fit, constants_fit, yield_fits, statement_fits, exits_fit}
use Rattle.mh_design.specs.Statements as forms
use Rattle.mh_design.specs.Tree.{Expression, LeftLocal, LeftSide, Whole, Bind, Statement, Set, Yield, Print, Assert, Stop, expression_of, left_of, printed_of}
use Rattle.mh_exprs.specs.declared.locals.Locals.{Locals}
use Rattle.mh_exprs.specs.declared.typed.Typed.{Typed}
use Rattle.mh_lower.specs.declared.typed.Bound.{Bound}
use Rattle.mh_lower.specs.declared.typed.Left.{Left}
use Rattle.mh_lower.specs.declared.typed.Ends.{Ends}
use Rattle.mh_exprs.specs.declared.typed.Work.{Work}
use Rattle.mh_lower.specs.Bindings.{right, bound, constant_number}
use Rattle.mh_exprs.specs.Calls.{callee_of}
use Rattle.mh_exprs.specs.Expression.{read, all}
use Rattle.mh_exprs.specs.Leaves.{local, is_assigned, kind_at}
use Rattle.mh_exprs.specs.Operations.{operated}
use Rattle.mh_lower.specs.Paths.{stops}
use Rattle.mh_lower.specs.Statements as spec
use Rattle.mh_lower.specs.Statements.{Made}
use Rattle.mh_exprs.specs.Step.{Step, pure, refuse, just, chain}
use Rattle.mh_lower.specs.Targets.{left, left_takes}
use Rattle.mh_lower.specs.Views as views
use Rattle.mh_lower.specs.Views.{View, view}
use Rattle.mh_lower.specs.Waits.{yielded}
use Rattle.mh_lower_laws.specs.Holds.{Holds, Extends}
use Rattle.mh_lower_laws.specs.Laws.{Known}
use Rattle.mh_lower_laws.proofs.Growth.{grown}
use Rattle.mh_lower_laws.proofs.Keys.{keys_fit, all_keys_fit}
use Rattle.mh_lower_laws.proofs.Having.{Has, has_integer, has_later, known_later}
use Rattle.mh_lower_laws.proofs.LeavesHave.{local_has}
use Rattle.mh_lower_laws.proofs.OperationsHave.{operated_has}
use Rattle.mh_lower_laws.proofs.ExpressionsHave.{reads, alls}
use Rattle.mh_lower_laws.proofs.BindingsHave.{HasBound, BoundAs, right_leads, bound_has}
use Rattle.mh_lower_laws.proofs.TargetsHave.{HasLeft, left_leads}
use Rattle.mh_lower_laws.proofs.WaitsFit.{yielded_fit}
use Rattle.mh_lower_laws.proofs.Basics.{all_then}
use Rattle.mh_lower_laws.proofs.StatementGrowth.{printed_later, all_printed_keep}
use Rattle.mh_lower_laws.proofs.PathLaws.{seen, flow_at, same_flow, both_none}
use Rattle.mh_lower_laws.proofs.Reading.{KindsIn, KindsFit, Grows, Sized, is_read, stays, gets}
use Rattle.mh_lower_laws.proofs.Stepping.{Leads, leads_pure, leads_refuse, leads_just, leads_if, leads_after, ok_after, ok_given, ok_if}
use Rattle.mh_lower_laws.proofs.ViewsFit.{ViewFits, view_fits}

-- What is known of a statement, where there are n locals and these are the variables: what it asks of a design, whether a loop is around,
-- and what it does to what is known of each local.
pub record MadeAs (n : ℕ) (instance : Bool) (ls : List Variable) (w : Work) (m : Made) (d : Design) : Type 0 where
  pub grows : Grows w m.1
  pub sized : Sized n m.1
  pub fit : KindsFit m.1 d
  pub fits : KindsIn m.1 ls → list_all (statement_fits d ls instance) (statements m.0) ≡ true
  pub exits : (loop : Bool) → exits_fit loop m.0 ≡ true
  pub walked : (v : ℕ) → flow_at v m.1 ≡ next (flow_at v w) (seen v w.here) (λ a. walk v m.0 a)

-- a statement that leaves what is known of the locals, if there is one
abbrev pub AnyMade : ℕ → Bool → List Variable → Work → Option Statement → Design → Type 0
AnyMade n instance ls w None f = KindsFit w f
AnyMade n instance ls w (Some st) f = MadeAs n instance ls w (st, w) f

or_false : (a : Bool) → (a || false) ≡ a
or_false true = refl
or_false false = refl

and_all : (a b c : Bool) → a ≡ true → b ≡ true → c ≡ true → ((a && b) && c) ≡ true
and_all a b c p q r = and_from (a && b) c (and_from a b p q) r

pub both_ok : {A : Type 0} (P Q : A → Type 0) (r : Result A Code) → IfOk r P → IfOk r Q → IfOk r (λ x. P x × Q x)
both_ok P Q (Ok x) p q = (p, q)
both_ok P Q (Err code) p q = tt

-- what was printed
record IsPrinted (w : Work) (ls : List Variable) (d : Design) (p : PrintPart) : Type 0 where
  pub fits : printed_fits d ls (printed_of p) ≡ true
  pub keeps : list_all (constants_keep d ls) (printed_numbers (printed_of p)) ≡ true
  pub assigned : (v : ℕ) → is_assigned w.here v ≡ false → list_any (reads_local v) (printed_numbers (printed_of p)) ≡ false

pub record HasPrinted (w : Work) (ls : List Variable) (d : Design) (ps : List PrintPart) : Type 0 where
  pub fits : list_all (printed_fits d ls) (map printed_of ps) ≡ true
  pub keeps : list_all (constants_keep d ls) (flat_map printed_numbers (map printed_of ps)) ≡ true
  pub assigned : (v : ℕ) → is_assigned w.here v ≡ false → list_any (reads_local v) (flat_map printed_numbers (map printed_of ps)) ≡ false

-- an expression that is a number
pub record HasNumber (w : Work) (ls : List Variable) (d : Design) (e : Expression) : Type 0 where
  pub numeric : is_numeric d ls e ≡ true
  pub keeps : constants_keep d ls e ≡ true
  pub assigned : (v : ℕ) → is_assigned w.here v ≡ false → reads_local v e ≡ false

-- what a `for` goes over
pub record HasEnds (w : Work) (ls : List Variable) (d : Design) (y : Ends) : Type 0 where
  pub from : HasNumber w ls d (expression_of y.from)
  pub to : HasNumber w ls d (expression_of y.to)
  pub step : not (int_eq y.step (pos 0)) ≡ true

module _ (w : Work) (ls : List Variable) (d f : Design) (x : Extends d f) where
  printed_later_on : (ps : List PrintPart) → HasPrinted w ls d ps → HasPrinted w ls f ps
  printed_later_on ps h = record {
    fits = all_then (printed_fits d ls) (printed_fits f ls) (map printed_of ps) (printed_later d f (grown d f x) ls) h.fits;
    keeps = all_printed_keep d f (grown d f x) ls (map printed_of ps) h.fits h.keeps;
    assigned = h.assigned;
  }

module _ (w : Work) (ls : List Variable) (d : Design) where
  number_of : (t : Typed) → Has w ls d t → is_number t.kind ≡ true → HasNumber w ls d (expression_of t.expr)
  number_of t h q = record { numeric = ap (λ o. option_map_or is_number o false) h.fits.kind ∙ q; keeps = h.fits.keeps; assigned = h.fits.assigned }

  no_print : HasPrinted w ls d []
  no_print = record { fits = refl; keeps = refl; assigned = λ v u. refl }

  flat_all : (q : Expression → Bool) (ps : List PrintPart) (p : PrintPart) → list_all q (flat_map printed_numbers (map printed_of ps)) ≡ true → list_all q (printed_numbers (printed_of p)) ≡ true → list_all q (flat_map printed_numbers (map printed_of (ps ++ p ∷ []))) ≡ true
  flat_all q [] p h k = list_all-append q (printed_numbers (printed_of p)) [] ∙ and_from (list_all q (printed_numbers (printed_of p))) true k refl
  flat_all q (o ∷ ps) p h k =
      let a = and_parts (list_all q (printed_numbers (printed_of o))) (list_all q (flat_map printed_numbers (map printed_of ps))) (sym (list_all-append q (printed_numbers (printed_of o)) (flat_map printed_numbers (map printed_of ps))) ∙ h) in
      list_all-append q (printed_numbers (printed_of o)) (flat_map printed_numbers (map printed_of (ps ++ p ∷ []))) ∙ and_from (list_all q (printed_numbers (printed_of o))) _ a.0 (flat_all q ps p a.1 k)

  flat_none : (q : Expression → Bool) (ps : List PrintPart) (p : PrintPart) → list_any q (flat_map printed_numbers (map printed_of ps)) ≡ false → list_any q (printed_numbers (printed_of p)) ≡ false → list_any q (flat_map printed_numbers (map printed_of (ps ++ p ∷ []))) ≡ false
  flat_none q [] p h k = list_any-append q (printed_numbers (printed_of p)) [] ∙ or_from (list_any q (printed_numbers (printed_of p))) false k refl
  flat_none q (o ∷ ps) p h k =
      let a = or_parts (list_any q (printed_numbers (printed_of o))) (list_any q (flat_map printed_numbers (map printed_of ps))) (sym (list_any-append q (printed_numbers (printed_of o)) (flat_map printed_numbers (map printed_of ps))) ∙ h) in
      list_any-append q (printed_numbers (printed_of o)) (flat_map printed_numbers (map printed_of (ps ++ p ∷ []))) ∙ or_from (list_any q (printed_numbers (printed_of o))) _ a.0 (flat_none q ps p a.1 k)

  fits_end : (ps : List PrintPart) (p : PrintPart) → list_all (printed_fits d ls) (map printed_of ps) ≡ true → printed_fits d ls (printed_of p) ≡ true → list_all (printed_fits d ls) (map printed_of (ps ++ p ∷ [])) ≡ true
  fits_end [] p h k = and_from (printed_fits d ls (printed_of p)) true k refl
  fits_end (o ∷ ps) p h k = let a = and_parts (printed_fits d ls (printed_of o)) (list_all (printed_fits d ls) (map printed_of ps)) h in and_from (printed_fits d ls (printed_of o)) _ a.0 (fits_end ps p a.1 k)

  print_end : (ps : List PrintPart) (p : PrintPart) → HasPrinted w ls d ps → IsPrinted w ls d p → HasPrinted w ls d (ps ++ p ∷ [])
  print_end ps p h k = record { fits = fits_end ps p h.fits k.fits; keeps = flat_all (constants_keep d ls) ps p h.keeps k.keeps; assigned = λ v u. flat_none (reads_local v) ps p (h.assigned v u) (k.assigned v u) }

module _ (s : Scope) (locals : Locals) (n : ℕ) (numbered : (t : List ℕ) (v : ℕ) → lookup locals.numbers t ≡ Some v → v < n) (instance : Bool) (ls : List Variable) (w : Work) (sized : Sized n w) where
  abbrev Gives : Design → Step Made → Type 0
  Gives d p = Leads s (λ m f. MadeAs n instance ls w m f) d (p d)

  no : (d : Design) (code : Code) → Gives d (refuse code)
  no d code = leads_refuse s (λ m f. MadeAs n instance ls w m f) d code

  -- a statement that leaves what is known of the locals
  same : (d : Design) (st : Statement) → KindsFit w d → (KindsIn w ls → list_all (statement_fits d ls instance) (statements st) ≡ true) → ((loop : Bool) → exits_fit loop st ≡ true) →
      ((v : ℕ) (a : Bool) → seen v w.here ≡ Some a → walk v st a ≡ passes true a) → MadeAs n instance ls w (st, w) d
  same d st fit f e k = record { grows = λ v l q. q; sized = sized; fit = fit; fits = f; exits = e; walked = λ v. stays v w (λ a. walk v st a) (k v) }

  abbrev Stays : Design → Step Statement → Type 0
  Stays d p = Leads s (λ st f. MadeAs n instance ls w (st, w) f) d (p d)

  staying_leads : (d : Design) (p : Step Statement) → Stays d p → Gives d (spec.staying w p)
  staying_leads d p h = leads_after s (λ st f. MadeAs n instance ls w (st, w) f) (λ m f. MadeAs n instance ls w m f) d (p d) (λ st. pure (st, w)) h (λ st f x later i. leads_pure s (λ m f. MadeAs n instance ls w m f) f later (st, w) i)

  -- ---- assignments

  set_walk : (l : ℕ) (t : LeftSide) (y : Expression) (v : ℕ) → (is_assigned w.here v ≡ false → (changes v t || list_any (reads_local v) (left_indices t)) ≡ false) → binds v t ≡ false → (is_assigned w.here v ≡ false → reads_local v y ≡ false) →
      (a : Bool) → seen v w.here ≡ Some a → walk v (Set l t y) a ≡ passes true a
  set_walk l t y v f b g a q =
      ap₂ passes (is_read v w a ((changes v t || list_any (reads_local v) (left_indices t)) || reads_local v y) q (λ u. or_from (changes v t || list_any (reads_local v) (left_indices t)) (reads_local v y) (f u) (g u))) (ap (λ c. a || c) b ∙ or_false a)

  set_fits : (d : Design) (l : ℕ) (t : LeftSide) (y : Expression) (k : ValueKind) → kind_of d ls y ≡ Some k → forms.left_takes d ls t k ≡ true → left_keeps d ls t ≡ true → list_all (constants_keep d ls) (left_indices t) ≡ true → constants_keep d ls y ≡ true →
      list_all (statement_fits d ls instance) (Set l t y ∷ []) ≡ true
  set_fits d l t y k h f g i j =
      and_from (statement_fits d ls instance (Set l t y)) true
      (and_all (kinds_fit d ls (Set l t y)) (constants_fit d ls (Set l t y)) true (ap (λ o. option_map_or (forms.left_takes d ls t) o false) h ∙ f)
      (and_from (left_keeps d ls t) _ g (list_all-append (constants_keep d ls) (left_indices t) (y ∷ []) ∙ and_from (list_all (constants_keep d ls) (left_indices t)) _ i (and_from (constants_keep d ls y) true j refl))) refl) refl

  set_has : (d : Design) (l : ℕ) (t : Typed) (place : Left) → KindsFit w d → Has w ls d t → HasLeft w ls d place → IfOk (spec.set l t place) (λ st. MadeAs n instance ls w (st, w) d)
  set_has d l t place fit h g = ok_if (λ st. MadeAs n instance ls w (st, w) d) (left_takes place.kind t.kind) (Ok (Set l (left_of place.target) (expression_of t.expr))) (Err E10KindClash)
      (λ q. same d (Set l (left_of place.target) (expression_of t.expr)) fit
      (λ k. set_fits d l (left_of place.target) (expression_of t.expr) t.kind h.fits.kind (g.takes t.kind q) g.keeps g.indices h.fits.keeps) (λ loop. refl)
      (λ v a e. set_walk l (left_of place.target) (expression_of t.expr) v (g.assigned v) (g.no_binding v) (h.fits.assigned v) a e)) (λ q. tt)

  bind_made : (d : Design) (l v : ℕ) (b : Bound) (y : Work) → v < n → HasBound w ls d b → BoundAs n d w v b.binding b.value.kind y → MadeAs n instance ls w (Set l (Bind v b.binding) (expression_of b.value.expr), y) d
  bind_made d l v b y there h k = record {
    grows = k.grows;
    sized = k.sized;
    fit = k.fit;
    fits = λ i. set_fits d l (Bind v b.binding) (expression_of b.value.expr) b.value.kind h.has.fits.kind
        (ap (λ o. option_map_or (λ z. binding_takes b.binding z b.value.kind) o false) (i v k.declared k.is_declared) ∙ k.takes) refl refl h.has.fits.keeps;
    exits = λ loop. refl;
    walked = λ u. k.walked u ∙ gets u w v n (λ a. walk u (Set l (Bind v b.binding) (expression_of b.value.expr)) a) there sized.here
        (λ a q. ap (λ r. passes r (a || v == u)) (is_read u w a (reads_local u (expression_of b.value.expr)) q (h.has.fits.assigned u)));
  }

  bind_has : (d : Design) (l v : ℕ) (b : Bound) → KindsFit w d → v < n → HasBound w ls d b → IfOk (spec.bind l w v b) (λ m. MadeAs n instance ls w m d)
  bind_has d l v b fit there h =
      ok_after (BoundAs n d w v b.binding b.value.kind) (λ m. MadeAs n instance ls w m d) (bound w v b.binding b.value.kind) _ (bound_has n d w v b.binding b.value.kind there sized fit h.fits h.has.enums) (λ y k. bind_made d l v b y there h k)

  -- a local that is a bounded number keeps its bounds
  keep_has : (d : Design) (l v : ℕ) (t : Typed) (b : Bounds) → KindsFit w d → Has w ls d t → is_assigned w.here v ≡ true → kind_at w v ≡ Some (kind.Bits b) → takes (kind.Bits b) t.kind ≡ true → MadeAs n instance ls w (Set l (Whole (LeftLocal v)) (expression_of t.expr), w) d
  keep_has d l v t b fit h there k q =
      same d (Set l (Whole (LeftLocal v)) (expression_of t.expr)) fit
      (λ i. set_fits d l (Whole (LeftLocal v)) (expression_of t.expr) t.kind h.fits.kind
      (and_from (option_map_or is_bits_kind (local_kind ls v) false) _ (ap (λ o. option_map_or is_bits_kind o false) (i v (kind.Bits b) k)) (ap (λ o. option_map_or (λ z. takes z t.kind) o false) (i v (kind.Bits b) k) ∙ q)) refl refl h.fits.keeps)
      (λ loop. refl)
      (λ u a e. set_walk l (Whole (LeftLocal v)) (expression_of t.expr) u (λ f. or_from (v == u) false (unlike u f) refl) refl (h.fits.assigned u) a e)
    where
      unlike : (u : ℕ) → is_assigned w.here u ≡ false → (v == u) ≡ false
      unlike u f = false_from_ne_true (v == u) (λ e. let as_one : v ≡ u = eqb-true v u e in let c : is_assigned w.here u ≡ true = ap (is_assigned w.here) (sym as_one) ∙ there in cc)

  update_has : (d : Design) (l v : ℕ) (t : Typed) (k : Option Kind) → kind_at w v ≡ k → KindsFit w d → v < n → is_assigned w.here v ≡ true → Has w ls d t → IfOk (spec.update l w v t k) (λ m. MadeAs n instance ls w m d)
  update_has d l v t (Some (kind.Bits b)) q fit there a h = ok_if (λ m. MadeAs n instance ls w m d) (takes (kind.Bits b) t.kind) (Ok (Set l (Whole (LeftLocal v)) (expression_of t.expr), w)) (Err E10KindClash) (λ r. keep_has d l v t b fit h a q r) (λ r. tt)
  update_has d l v t (Some kind.Bool) q fit there a h = bind_has d l v (record { value = t; binding = binding.Plain }) fit there (record { has = h; fits = tt })
  update_has d l v t (Some kind.Int) q fit there a h = bind_has d l v (record { value = t; binding = binding.Plain }) fit there (record { has = h; fits = tt })
  update_has d l v t (Some (kind.Item m)) q fit there a h = bind_has d l v (record { value = t; binding = binding.Plain }) fit there (record { has = h; fits = tt })
  update_has d l v t None q fit there a h = bind_has d l v (record { value = t; binding = binding.Plain }) fit there (record { has = h; fits = tt })

  local_assigned : (v : ℕ) → IfOk (local w v) (λ t. is_assigned w.here v ≡ true)
  local_assigned v = ok_if (λ t. is_assigned w.here v ≡ true) (is_assigned w.here v) _ _ (λ a. ok_given (λ t. is_assigned w.here v ≡ true) (kind_at w v) _ _ (λ k q. a)) (λ a. tt)

  -- ---- steps

  module _ (d : Design) (h : Holds s d) (known : Known w ls d) where
    assign_part_leads : (l : ℕ) (target e : Ex) → keys_fit target ≡ true → keys_fit e ≡ true → Stays d (spec.assign_part s locals w l target e)
    assign_part_leads l target e k m =
        leads_after s (λ t f. Has w ls f t) (λ st f. MadeAs n instance ls w (st, w) f) d (read s locals w false e d) (λ t. chain (left s locals w target) (λ p. just (spec.set l t p))) (reads s locals w ls false e d m h known)
        (λ t f x later i. leads_after s (λ p f. HasLeft w ls f p) (λ st f. MadeAs n instance ls w (st, w) f) f (left s locals w target f) (λ p. just (spec.set l t p)) (left_leads s locals w ls f later (known_later w ls d f x known) target k)
        (λ p f' x' later' j. leads_just s (λ st f. MadeAs n instance ls w (st, w) f) f' later' (spec.set l t p) (set_has f' l t p (known_later w ls f f' x' (known_later w ls d f x known)).fit (has_later w ls f f' x' t i) j)))

    assign_name_leads : (l : ℕ) (o : Option ℕ) (e : Ex) → ((v : ℕ) → o ≡ Some v → v < n) → keys_fit e ≡ true → Gives d (spec.assign_name s locals w l o e)
    assign_name_leads l None e f k = no d E10KindClash
    assign_name_leads l (Some v) e f k =
        leads_after s (λ b f. HasBound w ls f b) (λ m f. MadeAs n instance ls w m f) d (right s locals w e d) (λ b. just (spec.bind l w v b)) (right_leads s locals w ls d h known e k)
        (λ b g x later i. leads_just s (λ m f. MadeAs n instance ls w m f) g later (spec.bind l w v b) (bind_has g l v b (known_later w ls d g x known).fit (f v refl) i))

    assign_by_leads : (l : ℕ) (o : Option (List ℕ)) (target e : Ex) → keys_fit target ≡ true → keys_fit e ≡ true → Gives d (spec.assign_by s locals w l o target e)
    assign_by_leads l (Some t) target e k m = assign_name_leads l (lookup locals.numbers t) e (λ v q. numbered t v q) m
    assign_by_leads l None target e k m = staying_leads d (spec.assign_part s locals w l target e) (assign_part_leads l target e k m)

    pub assign_leads : (l : ℕ) (target e : Ex) → keys_fit target ≡ true → keys_fit e ≡ true → Gives d (spec.assign s locals w l target e)
    unfolding spec.assign
    assign_leads l target e k m = assign_by_leads l (x.name_in target) target e k m

    augment_name_leads : (l : ℕ) (o : Operator) (m : Option ℕ) (e : Ex) → ((v : ℕ) → m ≡ Some v → v < n) → keys_fit e ≡ true → Gives d (spec.augment_name s locals w l o m e)
    augment_name_leads l o None e f k = no d E10KindClash
    augment_name_leads l o (Some v) e f k = by_local (local w v) (both_ok (λ t. Has w ls d t) (λ t. is_assigned w.here v ≡ true) (local w v) (local_has s w ls d h known v) (local_assigned v))
      where
        updated : (g : Design) → Holds s g → Known w ls g → is_assigned w.here v ≡ true → (r : Result Typed Code) → IfOk r (λ t. Has w ls g t) → Gives g (chain (just r) (λ t. just (spec.update l w v t (kind_at w v))))
        updated g later knows there (Ok t) i = leads_just s (λ m f. MadeAs n instance ls w m f) g later (spec.update l w v t (kind_at w v)) (update_has g l v t (kind_at w v) refl knows.fit (f v refl) there i)
        updated g later knows there (Err code) i = no g code

        by_local : (r : Result Typed Code) → IfOk r (λ t. Has w ls d t × (is_assigned w.here v ≡ true)) → Gives d (chain (just r) (λ a. chain (read s locals w false e) (λ b. chain (just (operated o a b)) (λ t. just (spec.update l w v t (kind_at w v))))))
        by_local (Ok a) i =
            leads_after s (λ t f. Has w ls f t) (λ m f. MadeAs n instance ls w m f) d (read s locals w false e d) (λ b. chain (just (operated o a b)) (λ t. just (spec.update l w v t (kind_at w v)))) (reads s locals w ls false e d k h known)
            (λ b g x later j. updated g later (known_later w ls d g x known) i.1 (operated o a b) (operated_has w ls g o a b (has_later w ls d g x a i.0) j))
        by_local (Err code) i = no d code

    augment_part_leads : (l : ℕ) (o : Operator) (target e : Ex) → keys_fit target ≡ true → keys_fit e ≡ true → Stays d (spec.augment_part s locals w l o target e)
    augment_part_leads l o target e k m =
        leads_after s (λ t f. Has w ls f t) (λ st f. MadeAs n instance ls w (st, w) f) d (read s locals w false target d) (λ a. chain (read s locals w false e) (λ b. chain (just (operated o a b)) (λ t. chain (left s locals w target) (λ p. just (spec.set l t p))))) (reads s locals w ls false target d k h known)
        (λ a f x later i. leads_after s (λ t f. Has w ls f t) (λ st f. MadeAs n instance ls w (st, w) f) f (read s locals w false e f) (λ b. chain (just (operated o a b)) (λ t. chain (left s locals w target) (λ p. just (spec.set l t p)))) (reads s locals w ls false e f m later (known_later w ls d f x known))
        (λ b f' x' later' j. placed f' later' (known_later w ls f f' x' (known_later w ls d f x known)) (operated o a b) (operated_has w ls f' o a b (has_later w ls f f' x' a i) j)))
      where
        placed : (g : Design) → Holds s g → Known w ls g → (r : Result Typed Code) → IfOk r (λ t. Has w ls g t) → Stays g (chain (just r) (λ t. chain (left s locals w target) (λ p. just (spec.set l t p))))
        placed g later knows (Ok t) i =
            leads_after s (λ p f. HasLeft w ls f p) (λ st f. MadeAs n instance ls w (st, w) f) g (left s locals w target g) (λ p. just (spec.set l t p)) (left_leads s locals w ls g later knows target k)
            (λ p f x later' j. leads_just s (λ st f. MadeAs n instance ls w (st, w) f) f later' (spec.set l t p) (set_has f l t p (known_later w ls g f x knows).fit (has_later w ls g f x t i) j))
        placed g later knows (Err code) i = leads_refuse s (λ st f. MadeAs n instance ls w (st, w) f) g code

    augment_by_leads : (l : ℕ) (o : Operator) (m : Option (List ℕ)) (target e : Ex) → keys_fit target ≡ true → keys_fit e ≡ true → Gives d (spec.augment_by s locals w l o m target e)
    augment_by_leads l o (Some t) target e k m = augment_name_leads l o (lookup locals.numbers t) e (λ v q. numbered t v q) m
    augment_by_leads l o None target e k m = staying_leads d (spec.augment_part s locals w l o target e) (augment_part_leads l o target e k m)

    pub augment_leads : (l : ℕ) (o : Operator) (target e : Ex) → keys_fit target ≡ true → keys_fit e ≡ true → Gives d (spec.augment s locals w l o target e)
    unfolding spec.augment
    augment_leads l o target e k m = augment_by_leads l o (x.name_in target) target e k m

    -- ---- conditions

    number_has : (f : Design) (t : Typed) → Has w ls f t → IfOk (spec.number t) (λ t. HasNumber w ls f (expression_of t.expr))
    number_has f t i = ok_if (λ t. HasNumber w ls f (expression_of t.expr)) (is_number t.kind) (Ok t) (Err E10KindClash) (λ q. number_of w ls f t i q) (λ q. tt)

    pub test_leads : (e : Ex) → keys_fit e ≡ true → Leads s (λ t f. HasNumber w ls f (expression_of t.expr)) d (spec.condition s locals w e d)
    unfolding spec.condition
    test_leads e k = leads_after s (λ t f. Has w ls f t) (λ t f. HasNumber w ls f (expression_of t.expr)) d (read s locals w false e d) (λ t. just (spec.number t)) (reads s locals w ls false e d k h known)
        (λ t f x later i. leads_just s (λ t f. HasNumber w ls f (expression_of t.expr)) f later (spec.number t) (number_has f t i))

    claim_made : (f : Design) (l : ℕ) (y : Expression) → KindsFit w f → HasNumber w ls f y → MadeAs n instance ls w (Assert l y, w) f
    claim_made f l y fit i =
        same f (Assert l y) fit (λ k. and_from (statement_fits f ls instance (Assert l y)) true (and_all (is_numeric f ls y) (constants_keep f ls y && true) true i.numeric (and_from (constants_keep f ls y) true i.keeps refl) refl) refl) (λ loop. refl)
        (λ v a q. ap (λ r. passes r a) (is_read v w a (reads_local v y) q (i.assigned v)))

    pub claim_leads : (l : ℕ) (e : Ex) → keys_fit e ≡ true → Stays d (spec.claim s locals w l e)
    unfolding spec.claim
    claim_leads l e k = leads_after s (λ t f. HasNumber w ls f (expression_of t.expr)) (λ st f. MadeAs n instance ls w (st, w) f) d (spec.condition s locals w e d) (λ t. pure (Assert l (expression_of t.expr))) (test_leads e k)
        (λ t f x later i. leads_pure s (λ st f. MadeAs n instance ls w (st, w) f) f later (Assert l (expression_of t.expr)) (claim_made f l (expression_of t.expr) (known_later w ls d f x known).fit i))

  -- ---- printing

  printed_is : (d : Design) (t : Typed) → Has w ls d t → IfOk (spec.printed_number t) (λ p. IsPrinted w ls d p)
  printed_is d t i = ok_if (λ p. IsPrinted w ls d p) (is_integer_kind t.kind) (Ok (print.Number t.expr)) (Err E3BadArguments)
      (λ q. record { fits = ap (λ o. option_map_or is_integer_kind o false) i.fits.kind ∙ q; keeps = and_from (constants_keep d ls (expression_of t.expr)) true i.fits.keeps refl; assigned = λ v u. or_from (reads_local v (expression_of t.expr)) false (i.fits.assigned v u) refl }) (λ q. tt)

  part_leads : (d : Design) (o : Option (List ℕ)) (e : Ex) → Holds s d → Known w ls d → keys_fit e ≡ true → Leads s (λ p f. IsPrinted w ls f p) d (spec.printed_as o (read s locals w false e) d)
  part_leads d (Some bytes) e h known k = leads_pure s (λ p f. IsPrinted w ls f p) d h (print.Text bytes) (record { fits = refl; keeps = refl; assigned = λ v u. refl })
  part_leads d None e h known k = leads_after s (λ t f. Has w ls f t) (λ p f. IsPrinted w ls f p) d (read s locals w false e d) (λ t. just (spec.printed_number t)) (reads s locals w ls false e d k h known)
      (λ t f x later i. leads_just s (λ p f. IsPrinted w ls f p) f later (spec.printed_number t) (printed_is f t i))

  parts_lead : (es : Exs) (ps : List PrintPart) (d : Design) → Holds s d → Known w ls d → all_keys_fit es ≡ true → HasPrinted w ls d ps → Leads s (λ ps f. HasPrinted w ls f ps) d (spec.printed_onto s locals w ps es d)
  parts_lead x.NoMore ps d h known k i = leads_pure s (λ ps f. HasPrinted w ls f ps) d h ps i
  parts_lead (x.More e es) ps d h known k i =
      let p = and_parts (keys_fit e) (all_keys_fit es) k in
      leads_after s (λ p f. IsPrinted w ls f p) (λ ps f. HasPrinted w ls f ps) d (spec.printed_as (spec.text_in s locals e) (read s locals w false e) d) (λ p. spec.printed_onto s locals w (ps ++ p ∷ []) es) (part_leads d (spec.text_in s locals e) e h known p.0)
      (λ q f x later j. parts_lead es (ps ++ q ∷ []) f later (known_later w ls d f x known) p.1 (print_end w ls f ps q (printed_later_on w ls d f x ps i) j))

  print_made : (f : Design) (l : ℕ) (ps : List PrintPart) → KindsFit w f → HasPrinted w ls f ps → MadeAs n instance ls w (Print l (map printed_of ps), w) f
  print_made f l ps fit i =
      same f (Print l (map printed_of ps)) fit (λ k. and_from (statement_fits f ls instance (Print l (map printed_of ps))) true (and_all (list_all (printed_fits f ls) (map printed_of ps)) (list_all (constants_keep f ls) (flat_map printed_numbers (map printed_of ps))) true i.fits i.keeps refl) refl) (λ loop. refl)
      (λ v a q. ap (λ r. passes r a) (is_read v w a (list_any (reads_local v) (flat_map printed_numbers (map printed_of ps))) q (i.assigned v)))

  module _ (d : Design) (h : Holds s d) (known : Known w ls d) where
    print_has : (f : Design) (l : ℕ) (b : Bool) (ps : List PrintPart) → KindsFit w f → HasPrinted w ls f ps → IfOk (spec.print_of l b ps) (λ st. MadeAs n instance ls w (st, w) f)
    print_has f l true ps fit i = print_made f l ps fit i
    print_has f l false ps fit i = tt

    show_leads : (l : ℕ) (keys : Keys) (xs : Exs) → all_keys_fit xs ≡ true → Stays d (spec.show s locals w l keys xs)
    show_leads l keys xs k =
        leads_after s (λ ps f. HasPrinted w ls f ps) (λ st f. MadeAs n instance ls w (st, w) f) d (spec.printed_onto s locals w [] xs d) (λ ps. just (spec.print_of l (all_positional keys) ps)) (parts_lead xs [] d h known k (no_print w ls d))
        (λ ps f x later i. leads_just s (λ st f. MadeAs n instance ls w (st, w) f) f later (spec.print_of l (all_positional keys) ps) (print_has f l (all_positional keys) ps (known_later w ls d f x known).fit i))

    none : (code : Code) → Leads s (AnyMade n instance ls w) d (refuse {A = Option Statement} code d)
    none code = leads_refuse s (AnyMade n instance ls w) d code

    printing_leads : (b : Bool) (p : Step Statement) → Stays d p → Leads s (AnyMade n instance ls w) d (spec.printing b p d)
    printing_leads false p i = none E2NotElaborable
    printing_leads true p i = leads_after s (λ st f. MadeAs n instance ls w (st, w) f) (AnyMade n instance ls w) d (p d) (λ st. pure (Some st)) i (λ st f x later j. leads_pure s (AnyMade n instance ls w) f later (Some st) j)

    by_itself_by : (l : ℕ) (v : View) → ViewFits v → Leads s (AnyMade n instance ls w) d (spec.by_itself_view s locals w l v d)
    by_itself_by l (views.Text bytes) k = leads_pure s (AnyMade n instance ls w) d h None known.fit
    by_itself_by l (views.Called keys f xs) k =
        printing_leads (spec.is_print (callee_of s locals f)) (spec.show s locals w l keys xs) (show_leads l keys xs k)
    by_itself_by l (views.Named t) k = none E2NotElaborable
    by_itself_by l (views.Tupled xs) k = none E2NotElaborable
    by_itself_by l (views.Attributed a name) k = none E2NotElaborable
    by_itself_by l (views.Indexed a i) k = none E2NotElaborable
    by_itself_by l (views.Ranged a i j) k = none E2NotElaborable
    by_itself_by l (views.RangedFrom a i) k = none E2NotElaborable
    by_itself_by l (views.Resized a m) k = none E2NotElaborable
    by_itself_by l (views.Entire a) k = none E2NotElaborable
    by_itself_by l views.Another k = none E2NotElaborable

    pub by_itself_leads : (l : ℕ) (e : Ex) → keys_fit e ≡ true → Leads s (AnyMade n instance ls w) d (spec.by_itself s locals w l e d)
    unfolding spec.by_itself
    by_itself_leads l e k = by_itself_by l (view e) (view_fits e k)

    -- ---- `yield` and `raise`

    yield_made : (l : ℕ) (ws : List Wait) → instance ≡ true → list_all (wait_fits d) ws ≡ true → MadeAs n instance ls w (Yield l ws, w) d
    yield_made l ws q i = same d (Yield l ws) known.fit (λ k. and_from (statement_fits d ls instance (Yield l ws)) true (and_all (list_all (wait_fits d) ws) true instance i refl q) refl) (λ loop. refl) (λ v a e. refl)

    yields_by : (b : Bool) (l : ℕ) (e : Ex) → instance ≡ b → IfOk (spec.yields s locals b l e) (λ st. MadeAs n instance ls w (st, w) d)
    unfolding spec.yields
    yields_by false l e q = tt
    yields_by true l e q = ok_after (λ ws. list_all (wait_fits d) ws ≡ true) (λ st. MadeAs n instance ls w (st, w) d) (yielded s locals e) _ (yielded_fit d s locals h e) (λ ws i. yield_made l ws q i)

    pub yields_fit : (l : ℕ) (e : Ex) → IfOk (spec.yields s locals instance l e) (λ st. MadeAs n instance ls w (st, w) d)
    yields_fit l e = yields_by instance l e refl

    pub stop_made : (l : ℕ) → MadeAs n instance ls w (Stop l, stops w) d
    stop_made l = record {
      grows = λ v k q. q;
      sized = record { kinds = sized.kinds; here = tt; breaks = sized.breaks; continues = sized.continues };
      fit = known.fit;
      fits = λ k. refl;
      exits = λ loop. refl;
      walked = λ v. by_paths v (seen v w.here) refl;
    }
      where
        by_paths : (v : ℕ) (o : Option Bool) → seen v w.here ≡ o → flow_at v (stops w) ≡ next (flow_at v w) o (λ a. walk v (Stop l) a)
        by_paths v None e = same_flow (flow_at v (stops w)) (flow_at v w) refl (sym e) refl refl
        by_paths v (Some a) e = same_flow (flow_at v (stops w)) (followed (flow_at v w) (walk v (Stop l) a)) refl refl (sym (both_none (seen v w.breaks))) (sym (both_none (seen v w.continues)))

    -- ---- what a `for` goes over

    abbrev GivesEnds : Design → Step Ends → Type 0
    GivesEnds f p = Leads s (λ y g. HasEnds w ls g y) f (p f)

    ends_has : (f : Design) (down : Bool) (a b : Typed) (step : ℤ) → Has w ls f a → Has w ls f b → IfOk (spec.ends_of down a b step) (λ y. HasEnds w ls f y)
    ends_has f down a b step i j = ok_if (λ y. HasEnds w ls f y) (is_number a.kind && is_number b.kind) _ _
        (λ q. ok_if (λ y. HasEnds w ls f y) (int_eq step (pos 0)) _ _ (λ r. tt)
        (λ r. let p = and_parts (is_number a.kind) (is_number b.kind) q in record { from = number_of w ls f a i p.0; to = number_of w ls f b j p.1; step = ap not r })) (λ q. tt)

    one_leads : (down : Bool) (a : Ex) → keys_fit a ≡ true → GivesEnds d (spec.one_end down (read s locals w false a))
    one_leads false a k = leads_after s (λ t f. Has w ls f t) (λ y g. HasEnds w ls g y) d (read s locals w false a d) (λ t. just (spec.ends_of false spec.zero t (pos 1))) (reads s locals w ls false a d k h known)
        (λ t f x later i. leads_just s (λ y g. HasEnds w ls g y) f later (spec.ends_of false spec.zero t (pos 1)) (ends_has f false spec.zero t (pos 1) (has_integer w ls f _) i))
    one_leads true a k = leads_after s (λ t f. Has w ls f t) (λ y g. HasEnds w ls g y) d (read s locals w false a d) (λ t. just (spec.ends_of true t spec.zero (pos 1))) (reads s locals w ls false a d k h known)
        (λ t f x later i. leads_just s (λ y g. HasEnds w ls g y) f later (spec.ends_of true t spec.zero (pos 1)) (ends_has f true t spec.zero (pos 1) i (has_integer w ls f _)))

    two_lead : (down : Bool) (a b : Ex) → keys_fit a ≡ true → keys_fit b ≡ true → GivesEnds d (spec.two_ends down (read s locals w false a) (read s locals w false b))
    two_lead down a b k m = leads_after s (λ t f. Has w ls f t) (λ y g. HasEnds w ls g y) d (read s locals w false a d) (λ t. chain (read s locals w false b) (λ u. just (spec.ends_of down t u (pos 1)))) (reads s locals w ls false a d k h known)
        (λ t f x later i. leads_after s (λ t f. Has w ls f t) (λ y g. HasEnds w ls g y) f (read s locals w false b f) (λ u. just (spec.ends_of down t u (pos 1))) (reads s locals w ls false b f m later (known_later w ls d f x known))
        (λ u f' x' later' j. leads_just s (λ y g. HasEnds w ls g y) f' later' (spec.ends_of down t u (pos 1)) (ends_has f' down t u (pos 1) (has_later w ls f f' x' t i) j)))

    step_leads : (down : Bool) (a b : Ex) (step : Result ℤ Code) → keys_fit a ≡ true → keys_fit b ≡ true → GivesEnds d (spec.ends_and_step down (read s locals w false a) (read s locals w false b) step)
    step_leads down a b step k m = leads_after s (λ t f. Has w ls f t) (λ y g. HasEnds w ls g y) d (read s locals w false a d) (λ t. chain (read s locals w false b) (λ u. chain (just step) (λ z. just (spec.ends_of down t u z)))) (reads s locals w ls false a d k h known)
        (λ t f x later i. leads_after s (λ t f. Has w ls f t) (λ y g. HasEnds w ls g y) f (read s locals w false b f) (λ u. chain (just step) (λ z. just (spec.ends_of down t u z))) (reads s locals w ls false b f m later (known_later w ls d f x known))
        (λ u f' x' later' j. by_step f' later' t u (has_later w ls f f' x' t i) j step))
      where
        by_step : (f : Design) → Holds s f → (t u : Typed) → Has w ls f t → Has w ls f u → (r : Result ℤ Code) → GivesEnds f (chain (just r) (λ z. just (spec.ends_of down t u z)))
        by_step f later t u i j (Ok z) = leads_just s (λ y g. HasEnds w ls g y) f later (spec.ends_of down t u z) (ends_has f down t u z i j)
        by_step f later t u i j (Err code) = leads_refuse s (λ y g. HasEnds w ls g y) f code

    misfit_leads : (xs : Exs) → all_keys_fit xs ≡ true → GivesEnds d (spec.misfit s locals w xs)
    misfit_leads xs k = leads_after s (λ u f. Unit {0}) (λ y g. HasEnds w ls g y) d (all s locals w xs d) (λ u. refuse E3BadArguments) (alls s locals w ls xs d k h known) (λ u f x later i. leads_refuse s (λ y g. HasEnds w ls g y) f E3BadArguments)

    in_leads : (down : Bool) (xs : Exs) → all_keys_fit xs ≡ true → GivesEnds d (spec.ends_in s locals w down xs)
    in_leads down x.NoMore k = misfit_leads x.NoMore k
    in_leads down (x.More a x.NoMore) k = one_leads down a (and_parts (keys_fit a) true k).0
    in_leads down (x.More a (x.More b x.NoMore)) k = let p = and_parts (keys_fit a) _ k in two_lead down a b p.0 (and_parts (keys_fit b) true p.1).0
    in_leads down (x.More a (x.More b (x.More step x.NoMore))) k = let p = and_parts (keys_fit a) _ k in step_leads down a b (constant_number s locals step) p.0 (and_parts (keys_fit b) _ p.1).0
    in_leads down (x.More a (x.More b (x.More step (x.More e xs)))) k = misfit_leads (x.More a (x.More b (x.More step (x.More e xs)))) k

    range_leads : (o : Option Bool) (keys : Keys) (xs : Exs) → all_keys_fit xs ≡ true → GivesEnds d (spec.range_ends s locals w o keys xs)
    range_leads None keys xs k = leads_refuse s (λ y g. HasEnds w ls g y) d E2NotElaborable
    range_leads (Some down) keys xs k = leads_if s (λ y g. HasEnds w ls g y) d (all_positional keys) (spec.ends_in s locals w down xs) (spec.misfit s locals w xs) (λ q. in_leads down xs k) (λ q. misfit_leads xs k)

    ends_by : (v : View) → ViewFits v → GivesEnds d (spec.ends_view s locals w v)
    ends_by (views.Called keys f xs) k = range_leads (spec.is_range (callee_of s locals f)) keys xs k
    ends_by (views.Text bytes) k = leads_refuse s (λ y g. HasEnds w ls g y) d E2NotElaborable
    ends_by (views.Named t) k = leads_refuse s (λ y g. HasEnds w ls g y) d E2NotElaborable
    ends_by (views.Tupled xs) k = leads_refuse s (λ y g. HasEnds w ls g y) d E2NotElaborable
    ends_by (views.Attributed a name) k = leads_refuse s (λ y g. HasEnds w ls g y) d E2NotElaborable
    ends_by (views.Indexed a i) k = leads_refuse s (λ y g. HasEnds w ls g y) d E2NotElaborable
    ends_by (views.Ranged a i j) k = leads_refuse s (λ y g. HasEnds w ls g y) d E2NotElaborable
    ends_by (views.RangedFrom a i) k = leads_refuse s (λ y g. HasEnds w ls g y) d E2NotElaborable
    ends_by (views.Resized a m) k = leads_refuse s (λ y g. HasEnds w ls g y) d E2NotElaborable
    ends_by (views.Entire a) k = leads_refuse s (λ y g. HasEnds w ls g y) d E2NotElaborable
    ends_by views.Another k = leads_refuse s (λ y g. HasEnds w ls g y) d E2NotElaborable

    pub ends_lead : (e : Ex) → keys_fit e ≡ true → GivesEnds d (spec.ends s locals w e)
    ends_lead e k = ends_by (view e) (view_fits e k)
