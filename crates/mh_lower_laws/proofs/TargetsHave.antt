-- What is known of the left side of an assignment.
use Rattle.std.proofs.Common.{◌≡◌, ℕ, Bool, true, false, ◌&&◌, ◌||◌, List, [], ◌∷◌, Option, Some, None, Result, Ok, Err, IfOk, refl, ap, sym, ◌∙◌}
use Rattle.std.specs.Prelude.{◌==◌}
use Rattle.std.specs.List.{list_all, list_any}
use Rattle.std.specs.Option.{option_map_or, option_and_then}
use Rattle.std.proofs.lemmas.Bool.{and_parts, and_from, or_from, eqb-true, false_from_ne_true}
use Rattle.std.proofs.lemmas.List.Folds.{list_all-append, list_any-append}
use Rattle.mh_codes.specs.Widths.{width_of}
use Rattle.mh_num.specs.declared.bounds.Bounds.{Bounds}
use Rattle.mh_text.specs.declared.code.Code.{Code}
use Rattle.mh_text.specs.declared.code.Code.TheVariants.{E1UnknownName, E2NotElaborable, E10KindClash}
use Rattle.mh_consts.specs.declared.kinds.Const.{Const, out-Const}
use Rattle.mh_consts.specs.declared.kinds.Const.TheOpen.{Const-F}
use Rattle.mh_consts.specs.declared.scope.Scope.{Scope}
use Rattle.mh_consts.specs.Expression as x
use Rattle.mh_consts.specs.Expression.{Ex}
use Rattle.mh_consts.specs.Names.{lookup}
use Rattle.mh_design.specs.declared.design.Design.{Design}
use Rattle.mh_design.specs.declared.design.Kind.{Kind}
use Rattle.mh_design.specs.declared.design.Kind.TheVariants as kind
use Rattle.mh_design.specs.declared.design.Local.{Local as Variable}
use Rattle.mh_design.specs.declared.kinds.ValueKind.{ValueKind}
use Rattle.mh_design.specs.declared.statement.Place.TheVariants as place
use Rattle.mh_design.specs.declared.statement.Target.TheVariants as target
use Rattle.mh_design.specs.Assigned.{reads_local, is_left_local, changes, binds}
use Rattle.mh_design.specs.Constants.{constants_keep, constant_of, index_keeps, slice_keeps, kind_width, left_width, base_keeps, left_keeps}
use Rattle.mh_design.specs.Kinds.{is_number, signal_kind}
use Rattle.mh_design.specs.Numbering.{base_indices, left_indices}
use Rattle.mh_design.specs.Statements.{is_numeric, takes, is_bits_kind, base_kind, base_fits, is_no_local, has_bits}
use Rattle.mh_design.specs.Statements as statements
use Rattle.mh_design.specs.Tree.{LeftBase, LeftSignal, LeftElement, LeftLocal, expression_of, base_of, left_of}
use Rattle.mh_exprs.specs.declared.locals.Locals.{Locals}
use Rattle.mh_exprs.specs.declared.typed.Typed.{Typed}
use Rattle.mh_lower.specs.declared.typed.Left.{Left}
use Rattle.mh_exprs.specs.declared.typed.Work.{Work}
use Rattle.mh_exprs.specs.Calls.{Collection, Listed, Tupled, Neither, collection_of}
use Rattle.mh_exprs.specs.Constant.{is_local}
use Rattle.mh_exprs.specs.Expression.{read}
use Rattle.mh_exprs.specs.Leaves.{is_assigned, kind_at, cell, place_in}
use Rattle.mh_exprs.specs.Operations.{bounds_in, bit_fits, slice_fits, zero_end}
use Rattle.mh_exprs.specs.Step.{pure, refuse, just, seeing, chain}
use Rattle.mh_lower.specs.Targets.{Placed, signal_place, held_place_step, held_place, named_place, element_place, next_view, next_place, local_place, own_place, is_next, own_named, part_view, part_place, bit_left, slice_left, whole_left, all_left, entire_of, left_view, left, left_takes}
use Rattle.mh_lower.specs.Views as views
use Rattle.mh_lower.specs.Views.{View, view}
use Rattle.mh_lower_laws.specs.Holds.{is_of, Holds, Extends}
use Rattle.mh_lower_laws.specs.Laws.{Known}
use Rattle.mh_lower_laws.proofs.Growth.{grown}
use Rattle.mh_lower_laws.proofs.Keys.{keys_fit}
use Rattle.mh_lower_laws.proofs.Having.{Has, has_integer, has_later, known_later}
use Rattle.mh_lower_laws.proofs.LeavesHave.{IsCell, cell_leads}
use Rattle.mh_lower_laws.proofs.OperationsHave.{IsBit, bit_is, IsSlice, slice_is}
use Rattle.mh_lower_laws.proofs.ExpressionsHave.{reads, collection_fine}
use Rattle.mh_lower_laws.proofs.StatementGrowth.{base_later, base_fits_later, base_keeps_later, all_keep, base_numeric}
use Rattle.mh_lower_laws.proofs.Stepping.{Leads, leads_pure, leads_refuse, leads_just, leads_if, leads_after, leads_then, ok_after, ok_given, ok_if}
use Rattle.mh_lower_laws.proofs.ViewsFit.{ViewFits, view_fits}

-- what is assigned, or a part of which is
pub record HasPlace (w : Work) (ls : List Variable) (d : Design) (p : Placed) : Type 0 where
  pub kind : base_kind d ls (base_of p.0) ≡ Some p.1
  pub fits : base_fits d ls (base_of p.0) ≡ true
  pub keeps : base_keeps d (base_of p.0) ≡ true
  pub indices : list_all (constants_keep d ls) (base_indices (base_of p.0)) ≡ true
  pub local : (v : ℕ) → is_assigned w.here v ≡ false → is_left_local v (base_of p.0) ≡ false
  pub assigned : (v : ℕ) → is_assigned w.here v ≡ false → list_any (reads_local v) (base_indices (base_of p.0)) ≡ false

-- and it is no local
pub record HasNext (w : Work) (ls : List Variable) (d : Design) (p : Placed) : Type 0 where
  pub place : HasPlace w ls d p
  pub no_local : is_no_local (base_of p.0) ≡ true

pub record HasLeft (w : Work) (ls : List Variable) (d : Design) (l : Left) : Type 0 where
  pub takes : (k : ValueKind) → left_takes l.kind k ≡ true → statements.left_takes d ls (left_of l.target) k ≡ true
  pub keeps : left_keeps d ls (left_of l.target) ≡ true
  pub indices : list_all (constants_keep d ls) (left_indices (left_of l.target)) ≡ true
  pub assigned : (v : ℕ) → is_assigned w.here v ≡ false → (changes v (left_of l.target) || list_any (reads_local v) (left_indices (left_of l.target))) ≡ false
  pub no_binding : (v : ℕ) → binds v (left_of l.target) ≡ false

-- the width of what is assigned is that of its kind
width_is : (d : Design) (ls : List Variable) (b : LeftBase) → left_width d ls b ≡ option_and_then kind_width (base_kind d ls b)
width_is d ls (LeftSignal n) = refl
width_is d ls (LeftElement m i) = refl
width_is d ls (LeftLocal v) = refl

bounds_kind : (k : Kind) (b : Bounds) → bounds_in (Some k) ≡ Some b → k ≡ kind.Bits b
bounds_kind kind.Bool b h = absurd (cc)
bounds_kind kind.Int b h = absurd (cc)
bounds_kind (kind.Bits c) b h = let q : c ≡ b = cc in ap kind.Bits q
bounds_kind (kind.Item n) b h = absurd (cc)

module _ (w : Work) (ls : List Variable) (d f : Design) (x : Extends d f) where
  place_later : (p : Placed) → HasPlace w ls d p → HasPlace w ls f p
  place_later p h = record {
    kind = base_later d f (grown d f x) ls (base_of p.0) p.1 h.kind;
    fits = base_fits_later d f (grown d f x) ls (base_of p.0) h.fits;
    keeps = base_keeps_later d f (grown d f x) ls (base_of p.0) p.1 h.kind h.keeps;
    indices = all_keep d f (grown d f x) ls (base_indices (base_of p.0)) (base_numeric d f (grown d f x) ls (base_of p.0) h.fits) h.indices;
    local = h.local;
    assigned = h.assigned;
  }

module _ (w : Work) (ls : List Variable) (d : Design) where
  numeric_is : (t : Typed) → Has w ls d t → is_number t.kind ≡ true → is_numeric d ls (expression_of t.expr) ≡ true
  numeric_is t h q = ap (λ o. option_map_or is_number o false) h.fits.kind ∙ q

  -- ---- left sides of a place

  bits_there : (p : Placed) (b : Bounds) → HasPlace w ls d p → bounds_in (Some p.1) ≡ Some b → has_bits d ls (base_of p.0) ≡ true
  bits_there p b h q = ap (λ o. option_map_or is_bits_kind o false) (h.kind ∙ ap Some (bounds_kind p.1 b q))

  width_there : (p : Placed) (b : Bounds) → HasPlace w ls d p → bounds_in (Some p.1) ≡ Some b → left_width d ls (base_of p.0) ≡ Some (width_of b.lo b.top)
  width_there p b h q = width_is d ls (base_of p.0) ∙ ap (option_and_then kind_width) (h.kind ∙ ap Some (bounds_kind p.1 b q))

  whole_has : (p : Placed) → HasPlace w ls d p → (is_no_local (base_of p.0) || has_bits d ls (base_of p.0)) ≡ true → HasLeft w ls d (whole_left p)
  whole_has p h q = record {
    takes = λ k r. and_from (base_fits d ls (base_of p.0) && (is_no_local (base_of p.0) || has_bits d ls (base_of p.0))) _ (and_from (base_fits d ls (base_of p.0)) _ h.fits q) (ap (λ o. option_map_or (λ z. takes z k) o false) h.kind ∙ r);
    keeps = h.keeps;
    indices = h.indices;
    assigned = λ v u. or_from (is_left_local v (base_of p.0)) _ (h.local v u) (h.assigned v u);
    no_binding = λ v. refl;
  }

  bit_made : (p : Placed) (b : Bounds) (i : Typed) → HasPlace w ls d p → Has w ls d i → bounds_in (Some p.1) ≡ Some b → IsBit w ls d b i → HasLeft w ls d (record { target = target.Bit p.0 i.expr; kind = None })
  bit_made p b i h g q f = record {
    takes = λ k r. and_from (base_fits d ls (base_of p.0) && has_bits d ls (base_of p.0)) _ (and_from (base_fits d ls (base_of p.0)) (has_bits d ls (base_of p.0)) h.fits (bits_there p b h q))
        (and_from (is_numeric d ls (expression_of i.expr)) (is_number k) (numeric_is i g f.number) r);
    keeps = and_from (base_keeps d (base_of p.0)) _ h.keeps (ap (λ o. option_map_or (index_keeps (expression_of i.expr)) o true) (width_there p b h q) ∙ f.keeps);
    indices = list_all-append (constants_keep d ls) (base_indices (base_of p.0)) (expression_of i.expr ∷ []) ∙ and_from (list_all (constants_keep d ls) (base_indices (base_of p.0))) _ h.indices (and_from (constants_keep d ls (expression_of i.expr)) true g.fits.keeps refl);
    assigned = λ v u. or_from (is_left_local v (base_of p.0)) _ (h.local v u)
        (list_any-append (reads_local v) (base_indices (base_of p.0)) (expression_of i.expr ∷ []) ∙ or_from (list_any (reads_local v) (base_indices (base_of p.0))) _ (h.assigned v u) (or_from (reads_local v (expression_of i.expr)) false (g.fits.assigned v u) refl));
    no_binding = λ v. refl;
  }

  bit_left_has : (p : Placed) (i : Typed) → HasPlace w ls d p → Has w ls d i → IfOk (bit_left p i) (λ l. HasLeft w ls d l)
  bit_left_has p i h g = ok_given (λ l. HasLeft w ls d l) (bounds_in (Some p.1)) E10KindClash _ (λ b q. ok_after (λ u. IsBit w ls d b i) (λ l. HasLeft w ls d l) (bit_fits b i) _ (bit_is w ls d b i) (λ u f. bit_made p b i h g q f))

  slice_made : (p : Placed) (b : Bounds) (i j : Typed) → HasPlace w ls d p → Has w ls d i → Has w ls d j → bounds_in (Some p.1) ≡ Some b → IsSlice w ls d b i j → HasLeft w ls d (record { target = target.Slice p.0 i.expr j.expr; kind = None })
  slice_made p b i j h g e q f =
      let n = and_parts (is_number i.kind) (is_number j.kind) f.numbers in
      record {
        takes = λ k r. and_from (base_fits d ls (base_of p.0) && has_bits d ls (base_of p.0)) _ (and_from (base_fits d ls (base_of p.0)) (has_bits d ls (base_of p.0)) h.fits (bits_there p b h q))
            (and_from (is_numeric d ls (expression_of i.expr) && is_numeric d ls (expression_of j.expr)) (is_number k) (and_from (is_numeric d ls (expression_of i.expr)) (is_numeric d ls (expression_of j.expr)) (numeric_is i g n.0) (numeric_is j e n.1)) r);
        keeps = and_from (base_keeps d (base_of p.0)) _ h.keeps (ap (λ o. option_map_or (slice_keeps (expression_of i.expr) (expression_of j.expr)) o true) (width_there p b h q) ∙ f.keeps);
        indices = list_all-append (constants_keep d ls) (base_indices (base_of p.0)) (expression_of i.expr ∷ expression_of j.expr ∷ []) ∙ and_from (list_all (constants_keep d ls) (base_indices (base_of p.0))) _ h.indices
            (and_from (constants_keep d ls (expression_of i.expr)) _ g.fits.keeps (and_from (constants_keep d ls (expression_of j.expr)) true e.fits.keeps refl));
        assigned = λ v u. or_from (is_left_local v (base_of p.0)) _ (h.local v u)
            (list_any-append (reads_local v) (base_indices (base_of p.0)) (expression_of i.expr ∷ expression_of j.expr ∷ []) ∙ or_from (list_any (reads_local v) (base_indices (base_of p.0))) _ (h.assigned v u)
            (or_from (reads_local v (expression_of i.expr)) _ (g.fits.assigned v u) (or_from (reads_local v (expression_of j.expr)) false (e.fits.assigned v u) refl)));
        no_binding = λ v. refl;
      }

  slice_left_has : (p : Placed) (i j : Typed) → HasPlace w ls d p → Has w ls d i → Has w ls d j → IfOk (slice_left p i j) (λ l. HasLeft w ls d l)
  slice_left_has p i j h g e = ok_given (λ l. HasLeft w ls d l) (bounds_in (Some p.1)) E10KindClash _
      (λ b q. ok_after (λ u. IsSlice w ls d b i j) (λ l. HasLeft w ls d l) (slice_fits b i j) _ (slice_is w ls d b i j) (λ u f. slice_made p b i j h g e q f))

  or_bits : (a b : Bool) → b ≡ true → (a || b) ≡ true
  or_bits true b h = refl
  or_bits false b h = h

  all_has : (p : Placed) → HasPlace w ls d p → IfOk (all_left p) (λ l. HasLeft w ls d l)
  all_has p h = ok_given (λ l. HasLeft w ls d l) (bounds_in (Some p.1)) E10KindClash _ (λ b q. whole_has p h (or_bits (is_no_local (base_of p.0)) (has_bits d ls (base_of p.0)) (bits_there p b h q)))

  next_has : (p : Placed) → HasNext w ls d p → HasLeft w ls d (whole_left p)
  next_has p h = whole_has p h.place (ap (λ b. b || has_bits d ls (base_of p.0)) h.no_local)

  -- ---- places

  signal_has : (n : ℕ) → IfOk (signal_place d n) (λ p. HasNext w ls d p)
  signal_has n = ok_given (λ p. HasNext w ls d p) (signal_kind d n) E10KindClash _ (λ k q. record { place = record { kind = q; fits = refl; keeps = refl; indices = refl; local = λ v u. refl; assigned = λ v u. refl }; no_local = refl })

  held_step : (x : Const-F Const) → IfOk (held_place_step d x) (λ p. HasNext w ls d p)
  held_step (Const-F.Signal n k) = signal_has n
  held_step Const-F.None = tt
  held_step (Const-F.Int n) = tt
  held_step (Const-F.Truth b) = tt
  held_step (Const-F.Str t) = tt
  held_step (Const-F.Delay n) = tt
  held_step (Const-F.EnumType n names) = tt
  held_step (Const-F.Item n place) = tt
  held_step (Const-F.Bounded v b) = tt
  held_step (Const-F.Edge n rising) = tt
  held_step (Const-F.Range a b step) = tt
  held_step (Const-F.List n) = tt
  held_step (Const-F.Tuple items) = tt
  held_step (Const-F.Function n) = tt
  held_step (Const-F.Instance n) = tt
  held_step (Const-F.Generator n) = tt
  held_step (Const-F.Builtin b) = tt

  named_has : (b : Bool) (o : Option Const) → IfOk (named_place b o d) (λ p. HasNext w ls d p)
  named_has true o = tt
  named_has false None = tt
  named_has false (Some v) = held_step (out-Const v)

  unlike : (v u : ℕ) → is_assigned w.here v ≡ true → is_assigned w.here u ≡ false → (v == u) ≡ false
  unlike v u a b = false_from_ne_true (v == u) (λ q. let same : v ≡ u = eqb-true v u q in let c : is_assigned w.here u ≡ true = ap (is_assigned w.here) (sym same) ∙ a in cc)

  local_has : Known w ls d → (v : ℕ) → IfOk (local_place w v) (λ p. HasPlace w ls d p)
  local_has known v = ok_if (λ p. HasPlace w ls d p) (is_assigned w.here v) _ _
      (λ a. ok_given (λ p. HasPlace w ls d p) (kind_at w v) E1UnknownName _ (λ k q. record { kind = known.kinds v k q; fits = refl; keeps = refl; indices = refl; local = λ u b. unlike v u a b; assigned = λ u b. refl })) (λ a. tt)

  own_has : Known w ls d → (n : Option ℕ) (o : Option Const) → IfOk (own_place w n o) (λ p. HasPlace w ls d p)
  own_has known (Some v) o = local_has known v
  own_has known None None = tt
  own_has known None (Some v) = tt

  cell_place : (t : Typed) (m : ℕ × Kind) → IsCell w ls t m d → HasNext w ls d (place.Element m.0 t.expr, m.1)
  cell_place t m c = record {
    place = record {
      kind = c.kind;
      fits = numeric_is t c.index c.number;
      keeps = c.keeps;
      indices = and_from (constants_keep d ls (expression_of t.expr)) true c.index.fits.keeps refl;
      local = λ v u. refl;
      assigned = λ v u. or_from (reads_local v (expression_of t.expr)) false (c.index.fits.assigned v u) refl;
    };
    no_local = refl;
  }

-- ---- reading a left side

module _ (s : Scope) (locals : Locals) (w : Work) (ls : List Variable) where
  element_leads : (d : Design) (c : Collection) (i : Ex) → Holds s d → Known w ls d → keys_fit i ≡ true → ((cs : List Const) → c ≡ Tupled cs → (f : Design) → Holds s f → list_all (is_of f) cs ≡ true) →
      Leads s (λ p f. HasNext w ls f p) d (element_place s c (read s locals w false i) d)
  element_leads d (Listed n) i h known k g =
      leads_after s (λ t f. Has w ls f t) (λ p f. HasNext w ls f p) d (read s locals w false i d) (λ t. chain (cell s n t) (λ m. pure (place.Element m.0 t.expr, m.1))) (reads s locals w ls false i d k h known)
      (λ t f x later j. leads_after s (IsCell w ls t) (λ p f. HasNext w ls f p) f (cell s n t f) (λ m. pure (place.Element m.0 t.expr, m.1)) (cell_leads s w ls t f n later j)
      (λ m f' x' later' c. leads_pure s (λ p f. HasNext w ls f p) f' later' (place.Element m.0 t.expr, m.1) (cell_place w ls f' t m c)))
  element_leads d (Tupled cs) i h known k g =
      leads_after s (λ t f. Has w ls f t) (λ p f. HasNext w ls f p) d (read s locals w false i d) (λ t. chain (just (place_in cs (constant_of (expression_of t.expr)))) (λ v. seeing (held_place v))) (reads s locals w ls false i d k h known)
      (λ t f x later j. by_item f later (place_in cs (constant_of (expression_of t.expr))))
    where
      by_item : (f : Design) → Holds s f → (r : Result Const Code) → Leads s (λ p f. HasNext w ls f p) f (chain (just r) (λ v. seeing (held_place v)) f)
      by_item f later (Ok v) = leads_just s (λ p f. HasNext w ls f p) f later (held_place v f) (held_step w ls f (out-Const v))
      by_item f later (Err code) = leads_refuse s (λ p f. HasNext w ls f p) f code
  element_leads d Neither i h known k g = leads_refuse s (λ p f. HasNext w ls f p) d E10KindClash

  module _ (d : Design) (h : Holds s d) (known : Known w ls d) where
    next_leads : (v : View) → ViewFits v → Leads s (λ p f. HasNext w ls f p) d (next_view s locals w v d)
    next_leads (views.Named t) k = leads_just s (λ p f. HasNext w ls f p) d h (named_place (is_local locals t) (lookup s.names t) d) (named_has w ls d (is_local locals t) (lookup s.names t))
    next_leads (views.Indexed a i) k = element_leads d (collection_of s locals a) i h known k.1 (λ cs q f g. collection_fine s locals w ls f g a cs q)
    next_leads (views.Text bytes) k = leads_refuse s (λ p f. HasNext w ls f p) d E10KindClash
    next_leads (views.Tupled xs) k = leads_refuse s (λ p f. HasNext w ls f p) d E10KindClash
    next_leads (views.Called keys f xs) k = leads_refuse s (λ p f. HasNext w ls f p) d E10KindClash
    next_leads (views.Attributed a name) k = leads_refuse s (λ p f. HasNext w ls f p) d E10KindClash
    next_leads (views.Ranged a i j) k = leads_refuse s (λ p f. HasNext w ls f p) d E10KindClash
    next_leads (views.RangedFrom a i) k = leads_refuse s (λ p f. HasNext w ls f p) d E10KindClash
    next_leads (views.Resized a n) k = leads_refuse s (λ p f. HasNext w ls f p) d E10KindClash
    next_leads (views.Entire a) k = leads_refuse s (λ p f. HasNext w ls f p) d E10KindClash
    next_leads views.Another k = leads_refuse s (λ p f. HasNext w ls f p) d E10KindClash

    next_place_leads : (e : Ex) → keys_fit e ≡ true → Leads s (λ p f. HasNext w ls f p) d (next_place s locals w e d)
    next_place_leads e k = next_leads (view e) (view_fits e k)

    part_leads : (v : View) → ViewFits v → Leads s (λ p f. HasPlace w ls f p) d (part_view s locals w v d)
    part_leads (views.Named t) k = leads_just s (λ p f. HasPlace w ls f p) d h (own_named s locals w t) (own_has w ls d known (lookup locals.numbers t) (lookup s.names t))
    part_leads (views.Attributed a name) k =
        leads_if s (λ p f. HasPlace w ls f p) d (is_next name) (next_place s locals w a) (refuse E2NotElaborable)
        (λ q. leads_then s (λ p f. HasPlace w ls f p) (λ p f. HasNext w ls f p) d (next_place s locals w a d) (λ p f n. n.place) (next_place_leads a k)) (λ q. leads_refuse s (λ p f. HasPlace w ls f p) d E2NotElaborable)
    part_leads (views.Text bytes) k = leads_refuse s (λ p f. HasPlace w ls f p) d E2NotElaborable
    part_leads (views.Tupled xs) k = leads_refuse s (λ p f. HasPlace w ls f p) d E2NotElaborable
    part_leads (views.Called keys f xs) k = leads_refuse s (λ p f. HasPlace w ls f p) d E2NotElaborable
    part_leads (views.Indexed a i) k = leads_refuse s (λ p f. HasPlace w ls f p) d E2NotElaborable
    part_leads (views.Ranged a i j) k = leads_refuse s (λ p f. HasPlace w ls f p) d E2NotElaborable
    part_leads (views.RangedFrom a i) k = leads_refuse s (λ p f. HasPlace w ls f p) d E2NotElaborable
    part_leads (views.Resized a n) k = leads_refuse s (λ p f. HasPlace w ls f p) d E2NotElaborable
    part_leads (views.Entire a) k = leads_refuse s (λ p f. HasPlace w ls f p) d E2NotElaborable
    part_leads views.Another k = leads_refuse s (λ p f. HasPlace w ls f p) d E2NotElaborable

    part_place_leads : (e : Ex) → keys_fit e ≡ true → Leads s (λ p f. HasPlace w ls f p) d (part_place s locals w e d)
    part_place_leads e k = part_leads (view e) (view_fits e k)

    entire_has : (o : Option (List ℕ)) → IfOk (entire_of s locals w o) (λ l. HasLeft w ls d l)
    entire_has None = tt
    entire_has (Some t) = ok_after (λ p. HasPlace w ls d p) (λ l. HasLeft w ls d l) (own_named s locals w t) all_left (own_has w ls d known (lookup locals.numbers t) (lookup s.names t)) (λ p i. all_has w ls d p i)

    bit_leads : (a i : Ex) → keys_fit a ≡ true → keys_fit i ≡ true → Leads s (λ l f. HasLeft w ls f l) d (chain (part_place s locals w a) (λ p. chain (read s locals w false i) (λ t. just (bit_left p t))) d)
    bit_leads a i k m =
        leads_after s (λ p f. HasPlace w ls f p) (λ l f. HasLeft w ls f l) d (part_place s locals w a d) (λ p. chain (read s locals w false i) (λ t. just (bit_left p t))) (part_place_leads a k)
        (λ p f x later j. leads_after s (λ t f. Has w ls f t) (λ l f. HasLeft w ls f l) f (read s locals w false i f) (λ t. just (bit_left p t)) (reads s locals w ls false i f m later (known_later w ls d f x known))
        (λ t f' x' later' j'. leads_just s (λ l f. HasLeft w ls f l) f' later' (bit_left p t) (bit_left_has w ls f' p t (place_later w ls f f' x' p j) j')))

    from_leads : (a i : Ex) → keys_fit a ≡ true → keys_fit i ≡ true → Leads s (λ l f. HasLeft w ls f l) d (chain (part_place s locals w a) (λ p. chain (read s locals w false i) (λ t. just (slice_left p t zero_end))) d)
    from_leads a i k m =
        leads_after s (λ p f. HasPlace w ls f p) (λ l f. HasLeft w ls f l) d (part_place s locals w a d) (λ p. chain (read s locals w false i) (λ t. just (slice_left p t zero_end))) (part_place_leads a k)
        (λ p f x later j. leads_after s (λ t f. Has w ls f t) (λ l f. HasLeft w ls f l) f (read s locals w false i f) (λ t. just (slice_left p t zero_end)) (reads s locals w ls false i f m later (known_later w ls d f x known))
        (λ t f' x' later' j'. leads_just s (λ l f. HasLeft w ls f l) f' later' (slice_left p t zero_end) (slice_left_has w ls f' p t zero_end (place_later w ls f f' x' p j) j' (has_integer w ls f' _))))

    slice_leads : (a i j : Ex) → keys_fit a ≡ true → keys_fit i ≡ true → keys_fit j ≡ true → Leads s (λ l f. HasLeft w ls f l) d (chain (part_place s locals w a) (λ p. chain (read s locals w false i) (λ t. chain (read s locals w false j) (λ u. just (slice_left p t u)))) d)
    slice_leads a i j k m n =
        leads_after s (λ p f. HasPlace w ls f p) (λ l f. HasLeft w ls f l) d (part_place s locals w a d) (λ p. chain (read s locals w false i) (λ t. chain (read s locals w false j) (λ u. just (slice_left p t u)))) (part_place_leads a k)
        (λ p f x later hp. leads_after s (λ t f. Has w ls f t) (λ l f. HasLeft w ls f l) f (read s locals w false i f) (λ t. chain (read s locals w false j) (λ u. just (slice_left p t u))) (reads s locals w ls false i f m later (known_later w ls d f x known))
        (λ t f' x' later' ht. leads_after s (λ t f. Has w ls f t) (λ l f. HasLeft w ls f l) f' (read s locals w false j f') (λ u. just (slice_left p t u)) (reads s locals w ls false j f' n later' (known_later w ls f f' x' (known_later w ls d f x known)))
        (λ u f'' x'' later'' hu. leads_just s (λ l f. HasLeft w ls f l) f'' later'' (slice_left p t u) (slice_left_has w ls f'' p t u (place_later w ls f' f'' x'' p (place_later w ls f f' x' p hp)) (has_later w ls f' f'' x'' t ht) hu))))

    whole_leads : (a : Ex) → keys_fit a ≡ true → Leads s (λ l f. HasLeft w ls f l) d (chain (next_place s locals w a) (λ p. pure (whole_left p)) d)
    whole_leads a k = leads_after s (λ p f. HasNext w ls f p) (λ l f. HasLeft w ls f l) d (next_place s locals w a d) (λ p. pure (whole_left p)) (next_place_leads a k)
        (λ p f x later j. leads_pure s (λ l f. HasLeft w ls f l) f later (whole_left p) (next_has w ls f p j))

    view_leads : (v : View) → ViewFits v → Leads s (λ l f. HasLeft w ls f l) d (left_view s locals w v d)
    view_leads (views.Attributed a name) k =
        leads_if s (λ l f. HasLeft w ls f l) d (is_next name) (chain (next_place s locals w a) (λ p. pure (whole_left p))) (refuse E2NotElaborable) (λ q. whole_leads a k) (λ q. leads_refuse s (λ l f. HasLeft w ls f l) d E2NotElaborable)
    view_leads (views.Indexed a i) k = bit_leads a i k.0 k.1
    view_leads (views.Ranged a i j) k = slice_leads a i j k.0 k.1 k.2
    view_leads (views.RangedFrom a i) k = from_leads a i k.0 k.1
    view_leads (views.Entire a) k = leads_just s (λ l f. HasLeft w ls f l) d h (entire_of s locals w (x.name_in a)) (entire_has (x.name_in a))
    view_leads (views.Named t) k = leads_refuse s (λ l f. HasLeft w ls f l) d E2NotElaborable
    view_leads (views.Text bytes) k = leads_refuse s (λ l f. HasLeft w ls f l) d E2NotElaborable
    view_leads (views.Tupled xs) k = leads_refuse s (λ l f. HasLeft w ls f l) d E2NotElaborable
    view_leads (views.Called keys f xs) k = leads_refuse s (λ l f. HasLeft w ls f l) d E2NotElaborable
    view_leads (views.Resized a n) k = leads_refuse s (λ l f. HasLeft w ls f l) d E2NotElaborable
    view_leads views.Another k = leads_refuse s (λ l f. HasLeft w ls f l) d E2NotElaborable

    pub left_leads : (e : Ex) → keys_fit e ≡ true → Leads s (λ l f. HasLeft w ls f l) d (left s locals w e d)
    left_leads e k = view_leads (view e) (view_fits e k)
