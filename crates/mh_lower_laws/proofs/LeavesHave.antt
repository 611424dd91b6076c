-- What is known of names and constants that were read, and of elements of lists and tuples.
use Rattle.std.proofs.Common.{◌≡◌, ℕ, suc, ◌+◌, ℤ, pos, negsuc, Bool, true, false, List, [], ◌∷◌, ◌++◌, length, Option, Some, None, Result, Ok, Err, IfOk, refl, ap, sym, ◌∙◌, arith, append-nil, length-append, if◌then◌else◌}
use Rattle.std.specs.Prelude.{nat_lt, nat_eq, int_lt, slice_get, position, ◌==◌}
use Rattle.std.specs.Ordering.{int_eq}
use Rattle.std.specs.List.{list_all}
use Rattle.std.specs.Option.{option_map, option_map_or, option_and_then}
use Rattle.std.proofs.lemmas.Bool.{and_parts, and_from, or_from, eqb-true, eq-eqb, ltb-true, lt-ltb, false_from_ne_true}
use Rattle.mh_codes.specs.Ranges.{is_inside}
use Rattle.mh_num.specs.declared.bounds.Bounds.{Bounds}
use Rattle.mh_text.specs.declared.code.Code.{Code}
use Rattle.mh_text.specs.declared.code.Code.TheVariants.{E1UnknownName, E4BadRange, E10KindClash}
use Rattle.mh_consts.specs.declared.kinds.Const.{Const, out-Const}
use Rattle.mh_consts.specs.declared.kinds.Const.TheOpen.{Const-F}
use Rattle.mh_consts.specs.declared.scope.Scope.{Scope}
use Rattle.mh_consts.specs.Names.{lookup}
use Rattle.mh_consts.specs.Outcome.{after, given}
use Rattle.mh_design.specs.declared.design.Design.{Design}
use Rattle.mh_design.specs.declared.design.MemDecl.{MemDecl}
use Rattle.mh_design.specs.declared.design.TableDecl.{TableDecl}
use Rattle.mh_design.specs.declared.design.EnumDecl.{EnumDecl}
use Rattle.mh_design.specs.declared.design.Kind.{Kind}
use Rattle.mh_design.specs.declared.design.Kind.TheVariants as kind
use Rattle.mh_design.specs.declared.design.Local.{Local as Variable}
use Rattle.mh_design.specs.declared.kinds.ValueKind.TheVariants as value
use Rattle.mh_design.specs.declared.expression.GExpr.TheVariants as e
use Rattle.mh_design.specs.Constants.{index_keeps, cell_count, table_length, kind_width, constant_of}
use Rattle.mh_design.specs.Kinds.{signal_kind, mem_kind, local_kind, item_count, is_number, read_as, read_some}
use Rattle.mh_design.specs.Kinds as kinds
use Rattle.mh_design.specs.Tree.{Item, Fixed, Signal, Local, Operation, ElementOf, TableElementOf, expression_of, one}
use Rattle.mh_design.specs.WellFormed.{kind_fits, cells_kind, mem_fits, same_kind}
use Rattle.mh_design.proofs.Shapes.{expression-item, expression-fixed, expression-signal, expression-local, expression-element, expression-table_element}
use Rattle.mh_exprs.specs.declared.locals.Locals.{Locals}
use Rattle.mh_exprs.specs.declared.typed.Typed.{Typed}
use Rattle.mh_exprs.specs.declared.typed.Work.{Work}
use Rattle.mh_exprs.specs.Leaves.{declared, integer, item, bounded, leaf_step, leaf, is_assigned, kind_at, local, held, name_or, name, signal_step, signals_onto, new_mem, cells_met, memory_at, memory, index_at, cell_in, cell, element, integer_step, integers_onto, same_integers, new_table, table_at, table, table_element, place_in, item_of, tuple_as, tuple_element}
use Rattle.mh_exprs.specs.Step.{pure, just, seeing, chain}
use Rattle.mh_lower_laws.specs.Holds.{is_of, has_its_cells, Holds, Extends}
use Rattle.mh_lower_laws.specs.Laws.{Known}
use Rattle.mh_lower_laws.proofs.Basics.{all_at, get_end, place_of, if_there}
use Rattle.mh_lower_laws.proofs.OfDesign.{step_of}
use Rattle.mh_lower_laws.proofs.ScopeValues.{opened, given_fine, name_of}
use Rattle.mh_lower_laws.proofs.Having.{Has, of_operation, one_part, has_plain, has_declared, has_integer, has_truth, has_later}
use Rattle.mh_lower_laws.proofs.HoldsLater.{holds_later, signal_kind_fits, cells_kind_fits, mem_kind_fits, same_kind-self}
use Rattle.mh_lower_laws.proofs.Stepping.{Leads, leads_pure, leads_refuse, leads_just, leads_after, ok_given, ok_if}

-- ---- leaves

item_there : (d : Design) (n place : ℕ) → nat_lt place (item_count d n) ≡ true → nat_lt n (length d.enums) ≡ true
item_there d n place h = by_enum (slice_get d.enums n) refl h
  where
    by_enum : (o : Option EnumDecl) → slice_get d.enums n ≡ o → nat_lt place (option_map_or (λ x. length x.names) o 0) ≡ true → nat_lt n (length d.enums) ≡ true
    by_enum (Some x) q f = if_there d.enums n x q
    by_enum None q f = absurd (let l = ltb-true place 0 f in omega (arith, l))

module _ (s : Scope) (w : Work) (ls : List Variable) (d : Design) (holds : Holds s d) where
  signal_has : (n : ℕ) (k : Kind) → signal_kind d n ≡ Some k → Has w ls d (declared (e.Signal n) k)
  signal_has n k h = has_declared w ls d (e.Signal n) (Signal n) k (expression-signal n) (record { kind = ap read_some h; keeps = refl; assigned = λ v u. refl }) refl (ap (option_and_then kind_width) h) (signal_kind_fits d holds.signals n k h)

  fixed_has : (v : ℤ) (b : Bounds) → is_inside b.lo b.top v ≡ true → Has w ls d (declared (e.Fixed v b) (kind.Bits b))
  fixed_has v b h = has_declared w ls d (e.Fixed v b) (Fixed v b) (kind.Bits b) (expression-fixed v b) (record { kind = ap (λ t. kinds.given t (value.Bits (int_lt b.lo (pos 0)))) h; keeps = refl; assigned = λ u p. refl }) refl refl refl

  item_has : (n place : ℕ) → IfOk (item d n place) (λ t. Has w ls d t)
  item_has n place = ok_if (λ t. Has w ls d t) (nat_lt place (item_count d n)) _ _
      (λ h. has_plain w ls d (e.Item n place) (Item n place) (value.Item n) None (expression-item n place) (record { kind = ap (λ t. kinds.given t (value.Item n)) h; keeps = refl; assigned = λ v u. refl }) (item_there d n place h)) (λ h. tt)

  bounded_has : (wide : Bool) (v : ℤ) (b : Bounds) → is_inside b.lo b.top v ≡ true → Has w ls d (bounded wide v b)
  bounded_has true v b h = fixed_has v b h
  bounded_has false v b h = has_integer w ls d v

  step_has : (wide : Bool) (x : Const-F Const) → step_of d x ≡ true → IfOk (leaf_step wide d x) (λ t. Has w ls d t)
  step_has wide (Const-F.Int n) h = has_integer w ls d n
  step_has wide (Const-F.Truth b) h = has_truth w ls d b
  step_has wide (Const-F.Item n place) h = item_has n place
  step_has wide (Const-F.Bounded v b) h = bounded_has wide v b h
  step_has wide (Const-F.Signal n k) h = ok_given (λ t. Has w ls d t) (signal_kind d n) E10KindClash _ (λ l q. signal_has n l q)
  step_has wide Const-F.None h = tt
  step_has wide (Const-F.Str t) h = tt
  step_has wide (Const-F.Delay n) h = tt
  step_has wide (Const-F.EnumType n names) h = tt
  step_has wide (Const-F.Edge n rising) h = tt
  step_has wide (Const-F.Range a b step) h = tt
  step_has wide (Const-F.List n) h = tt
  step_has wide (Const-F.Tuple items) h = tt
  step_has wide (Const-F.Function n) h = tt
  step_has wide (Const-F.Instance n) h = tt
  step_has wide (Const-F.Generator n) h = tt
  step_has wide (Const-F.Builtin b) h = tt

  pub leaf_has : (wide : Bool) (v : Const) → is_of d v ≡ true → IfOk (leaf wide v d) (λ t. Has w ls d t)
  leaf_has wide v h = step_has wide (out-Const v) (opened d v h)

  -- ---- names

  unlike : (v u : ℕ) → is_assigned w.here v ≡ true → is_assigned w.here u ≡ false → (v == u) ≡ false
  unlike v u a b = false_from_ne_true (v == u) (λ q. let same : v ≡ u = eqb-true v u q in let c : is_assigned w.here u ≡ true = ap (is_assigned w.here) (sym same) ∙ a in cc)

  pub local_has : Known w ls d → (v : ℕ) → IfOk (local w v) (λ t. Has w ls d t)
  local_has known v = ok_if (λ t. Has w ls d t) (is_assigned w.here v) _ _
      (λ a. ok_given (λ t. Has w ls d t) (kind_at w v) E1UnknownName _
      (λ k q. has_declared w ls d (e.Local v) (Local v) k (expression-local v)
      (record { kind = ap read_some (known.kinds v k q); keeps = refl; assigned = λ u b. or_from (v == u) false (unlike v u a b) refl })
      refl (ap (option_and_then kind_width) (known.kinds v k q)) (known.fit v k q)))
      (λ a. tt)

  held_has : (o : Option Const) → ((v : Const) → o ≡ Some v → is_of d v ≡ true) → IfOk (held o d) (λ t. Has w ls d t)
  held_has None f = tt
  held_has (Some v) f = leaf_has false v (f v refl)

  named_has : Known w ls d → (n : Option ℕ) (o : Option Const) → ((v : Const) → o ≡ Some v → is_of d v ≡ true) → IfOk (name_or n o w d) (λ t. Has w ls d t)
  named_has known (Some n) o f = local_has known n
  named_has known None o f = held_has o f

  pub name_leads : (locals : Locals) → Known w ls d → (t : List ℕ) → Leads s (λ x f. Has w ls f x) d (name s locals w t d)
  name_leads locals known t = leads_just s (λ x f. Has w ls f x) d holds (name_or (lookup locals.numbers t) (lookup s.names t) w d)
      (named_has known (lookup locals.numbers t) (lookup s.names t) (λ v q. name_of d s holds.names holds.lists t v q))

-- ---- memories

-- a memory has so many elements, and its elements this kind
pub record IsMemory (n : ℕ) (m : ℕ × Kind) (d : Design) : Type 0 where
  pub kind : mem_kind d m.0 ≡ Some m.1
  pub count : cell_count d m.0 ≡ n
  pub fits : kind_fits d m.1 ≡ true

onto_some : (ns : List ℕ) (cs : List Const) (cells : List ℕ) (o : Option ℕ) → ((n : ℕ) → signals_onto (ns ++ n ∷ []) cs ≡ Some cells → length cells ≡ length (ns ++ n ∷ []) + length cs) →
    option_and_then (λ n. signals_onto (ns ++ n ∷ []) cs) o ≡ Some cells → length cells ≡ length ns + suc (length cs)
onto_some ns cs cells (Some n) k q = let l = k n q in omega (arith, length-append ns (n ∷ []))
onto_some ns cs cells None k q = absurd (cc)

onto_length : (ns : List ℕ) (cs : List Const) (cells : List ℕ) → signals_onto ns cs ≡ Some cells → length cells ≡ length ns + length cs
onto_length ns [] cells h = let same : ns ≡ cells = cc in omega (arith, ap length same)
onto_length ns (v ∷ cs) cells h = onto_some ns cs cells (signal_step (out-Const v)) (λ n q. onto_length (ns ++ n ∷ []) cs cells q) h

integers_some : (zs : List ℤ) (cs : List Const) (all : List ℤ) (o : Option ℤ) → ((z : ℤ) → integers_onto (zs ++ z ∷ []) cs ≡ Some all → length all ≡ length (zs ++ z ∷ []) + length cs) →
    option_and_then (λ z. integers_onto (zs ++ z ∷ []) cs) o ≡ Some all → length all ≡ length zs + suc (length cs)
integers_some zs cs all (Some z) k q = let l = k z q in omega (arith, length-append zs (z ∷ []))
integers_some zs cs all None k q = absurd (cc)

integers_length : (zs : List ℤ) (cs : List Const) (all : List ℤ) → integers_onto zs cs ≡ Some all → length all ≡ length zs + length cs
integers_length zs [] all h = let same : zs ≡ all = cc in omega (arith, ap length same)
integers_length zs (v ∷ cs) all h = integers_some zs cs all (integer_step (out-Const v)) (λ z q. integers_length (zs ++ z ∷ []) cs all q) h

-- a new memory behind the others
module _ (s : Scope) (d : Design) (holds : Holds s d) (list : ℕ) (cs : List Const) (is_list : slice_get s.lists list ≡ Some cs) where
  new_extends : (cells : List ℕ) (k : Kind) → Extends d (new_mem d list cells k)
  new_extends cells k = record { mems = record { list = list; path = []; kind = k; cells = cells; line = 0 } ∷ []; tables = []; same = ap (λ ts. record d { mems = d.mems ++ record { list = list; path = []; kind = k; cells = cells; line = 0 } ∷ []; tables = ts }) (sym (append-nil d.tables)) }

  new_leads : (cells : List ℕ) (k : Kind) → length cells ≡ length cs → cells_kind d cells ≡ Some k → Leads s (IsMemory (length cs)) d (Ok ((length d.mems, k), new_mem d list cells k))
  unfolding new_extends
  new_leads cells k l h =
      let x : Extends d (new_mem d list cells k) = new_extends cells k in
      let m : MemDecl = record { list = list; path = []; kind = k; cells = cells; line = 0 } in
      let there : slice_get (d.mems ++ m ∷ []) (length d.mems) ≡ Some m = get_end d.mems m in
      let fits : option_map_or (same_kind k) (cells_kind d cells) false ≡ true = ap (λ o. option_map_or (same_kind k) o false) h ∙ same_kind-self k in
      let counts : option_map_or (λ vs. nat_eq (length cells) (length vs)) (slice_get s.lists list) false ≡ true = ap (λ o. option_map_or (λ (vs : List Const). nat_eq (length cells) (length vs)) o false) is_list ∙ eq-eqb (length cells) (length cs) l in
      record {
        led = record {
          extends = x;
          holds = holds_later s d (new_mem d list cells k) x (and_from _ true fits refl) (and_from _ true counts refl) refl holds;
          gives = record {
            kind = ap (option_map (λ (y : MemDecl). y.kind)) there;
            count = ap (λ o. option_map_or (λ (y : MemDecl). length y.cells) o 0) there ∙ l;
            fits = kind_fits_new k (cells_kind_fits d holds.signals cells k h);
          };
        };
      }
    where
      kind_fits_new : (k : Kind) → kind_fits d k ≡ true → kind_fits (new_mem d list cells k) k ≡ true
      kind_fits_new kind.Bool f = f
      kind_fits_new kind.Int f = f
      kind_fits_new (kind.Bits b) f = f
      kind_fits_new (kind.Item n) f = f

  met_leads : (o : Option (List ℕ)) → ((cells : List ℕ) → o ≡ Some cells → length cells ≡ length cs) → Leads s (IsMemory (length cs)) d (cells_met list o d)
  met_leads None f = leads_refuse s (IsMemory (length cs)) d E10KindClash
  met_leads (Some cells) f = by_kind (cells_kind d cells) refl
    where
      by_kind : (o : Option Kind) → cells_kind d cells ≡ o → Leads s (IsMemory (length cs)) d (after (given o E10KindClash) (λ k. Ok ((length d.mems, k), new_mem d list cells k)))
      by_kind (Some k) q = new_leads cells k (f cells refl) q
      by_kind None q = leads_refuse s (IsMemory (length cs)) d E10KindClash

  -- the memory that is there already
  count_of : (x : MemDecl) → nat_eq x.list list ≡ true → has_its_cells s x ≡ true → length x.cells ≡ length cs
  count_of x q h =
      let same : slice_get s.lists x.list ≡ Some cs = ap (slice_get s.lists) (eqb-true x.list list q) ∙ is_list in
      eqb-true (length x.cells) (length cs) (ap (λ o. option_map_or (λ (vs : List Const). nat_eq (length x.cells) (length vs)) o false) (sym same) ∙ h)

  known_mem : (m : ℕ) (x : MemDecl) → slice_get d.mems m ≡ Some x → nat_eq x.list list ≡ true → (k : Kind) → mem_kind d m ≡ Some k → IsMemory (length cs) (m, k) d
  known_mem m x there q k h =
      let same : Some x.kind ≡ Some k = ap (option_map (λ (y : MemDecl). y.kind)) (sym there) ∙ h in
      let is : x.kind ≡ k = cc in
      record {
        kind = h;
        count = ap (λ o. option_map_or (λ (y : MemDecl). length y.cells) o 0) there ∙ count_of x q (all_at (has_its_cells s) d.mems m x holds.cells there);
        fits = ap (kind_fits d) (sym is) ∙ mem_kind_fits d holds.signals x (all_at (mem_fits d) d.mems m x holds.mems there);
      }

  at_leads : (o : Option ℕ) → position (λ x. nat_eq x.list list) d.mems ≡ o → Leads s (IsMemory (length cs)) d (memory_at list cs o d)
  at_leads None q = met_leads (signals_onto [] cs) (λ cells h. let l = onto_length [] cs cells h in omega (arith, l))
  at_leads (Some m) q =
      let p = place_of (λ (x : MemDecl). nat_eq x.list list) d.mems m q in
      by_kind m p.0 p.1 p.2 (mem_kind d m) refl
    where
      by_kind : (m : ℕ) (x : MemDecl) → slice_get d.mems m ≡ Some x → nat_eq x.list list ≡ true → (o : Option Kind) → mem_kind d m ≡ o → Leads s (IsMemory (length cs)) d (after (given o E10KindClash) (λ k. Ok ((m, k), d)))
      by_kind m x there q (Some k) h = leads_pure s (IsMemory (length cs)) d holds (m, k) (known_mem m x there q k h)
      by_kind m x there q None h = leads_refuse s (IsMemory (length cs)) d E10KindClash

  pub memory_leads : Leads s (IsMemory (length cs)) d (memory list cs d)
  memory_leads = at_leads (position (λ x. nat_eq x.list list) d.mems) refl

-- ---- indices

-- an index is a number, and lies below n where it is a constant
pub record IsIndex (n : ℕ) (t : Typed) : Type 0 where
  pub number : is_number t.kind ≡ true
  pub keeps : index_keeps (expression_of t.expr) n ≡ true

pub index_is : (n : ℕ) (t : Typed) → IfOk (index_at n t) (λ u. IsIndex n t)
index_is n t = ok_if (λ u. IsIndex n t) (is_number t.kind) _ _ (λ p. ok_if (λ u. IsIndex n t) (index_keeps (expression_of t.expr) n) _ _ (λ q. record { number = p; keeps = q }) (λ q. tt)) (λ p. tt)

-- ---- elements of lists

-- an element of a list at an index
pub record IsCell (w : Work) (ls : List Variable) (t : Typed) (m : ℕ × Kind) (d : Design) : Type 0 where
  pub kind : mem_kind d m.0 ≡ Some m.1
  pub fits : kind_fits d m.1 ≡ true
  pub number : is_number t.kind ≡ true
  pub keeps : index_keeps (expression_of t.expr) (cell_count d m.0) ≡ true
  pub index : Has w ls d t

module _ (s : Scope) (w : Work) (ls : List Variable) (t : Typed) where
  cell_at : (d : Design) (list : ℕ) (cs : List Const) → Holds s d → Has w ls d t → slice_get s.lists list ≡ Some cs →
      Leads s (IsCell w ls t) d (chain (memory list cs) (λ m. chain (just (index_at (length cs) t)) (λ u. pure m)) d)
  cell_at d list cs holds has h =
      leads_after s (IsMemory (length cs)) (IsCell w ls t) d (memory list cs d) (λ m. chain (just (index_at (length cs) t)) (λ u. pure m)) (memory_leads s d holds list cs h)
      (λ m f x later there. with_index m f later there (has_later w ls d f x t has) (index_at (length cs) t) (index_is (length cs) t))
    where
      with_index : (m : ℕ × Kind) (f : Design) → Holds s f → IsMemory (length cs) m f → Has w ls f t → (r : Result (Unit {0}) Code) → IfOk r (λ u. IsIndex (length cs) t) → Leads s (IsCell w ls t) f (chain (just r) (λ u. pure m) f)
      with_index m f later there has (Ok u) i = leads_pure s (IsCell w ls t) f later m (record { kind = there.kind; fits = there.fits; number = i.number; keeps = ap (index_keeps (expression_of t.expr)) there.count ∙ i.keeps; index = has })
      with_index m f later there has (Err code) i = leads_refuse s (IsCell w ls t) f code

  cells_lead : (d : Design) (list : ℕ) (cs : List Const) → Holds s d → Has w ls d t → slice_get s.lists list ≡ Some cs → Leads s (IsCell w ls t) d (cell_in list t cs d)
  cells_lead d list [] holds has h = leads_refuse s (IsCell w ls t) d E4BadRange
  cells_lead d list (v ∷ cs) holds has h = cell_at d list (v ∷ cs) holds has h

  pub cell_leads : (d : Design) (list : ℕ) → Holds s d → Has w ls d t → Leads s (IsCell w ls t) d (cell s list t d)
  cell_leads d list holds has = by_list (slice_get s.lists list) refl
    where
      by_list : (o : Option (List Const)) → slice_get s.lists list ≡ o → Leads s (IsCell w ls t) d (chain (just (given o E10KindClash)) (λ cs. cell_in list t cs) d)
      by_list (Some cs) q = cells_lead d list cs holds has q
      by_list None q = leads_refuse s (IsCell w ls t) d E10KindClash

  pub element_has : (d : Design) (m : ℕ × Kind) → IsCell w ls t m d → Has w ls d (declared (e.Element m.0 t.expr) m.1)
  element_has d m c =
      has_declared w ls d (e.Element m.0 t.expr) (Operation (ElementOf m.0) (one (expression_of t.expr))) m.1 (expression-element m.0 t.expr)
      (of_operation w ls d (ElementOf m.0) (one (expression_of t.expr)) (t.kind ∷ []) (read_as m.1) (one_part w ls d (expression_of t.expr) t.kind c.index.fits) refl
      (ap (λ b. if b then read_some (mem_kind d m.0) else None) c.number ∙ ap read_some c.kind) c.keeps)
      refl (ap (option_and_then kind_width) c.kind) c.fits

  pub element_leads : (d : Design) (list : ℕ) → Holds s d → Has w ls d t → Leads s (λ x f. Has w ls f x) d (element s list t d)
  element_leads d list holds has =
      leads_after s (IsCell w ls t) (λ x f. Has w ls f x) d (cell s list t d) (λ m f. Ok (declared (e.Element m.0 t.expr) m.1, f)) (cell_leads d list holds has)
      (λ m f x later c. leads_pure s (λ y g. Has w ls g y) f later (declared (e.Element m.0 t.expr) m.1) (element_has f m c))

-- ---- elements of tuples

same_length : (ys zs : List ℤ) → same_integers ys zs ≡ true → length ys ≡ length zs
same_length [] [] h = refl
same_length (y ∷ ys) (z ∷ zs) h = ap suc (same_length ys zs (and_parts (int_eq y z) (same_integers ys zs) h).1)
same_length [] (z ∷ zs) h = absurd (cc)
same_length (y ∷ ys) [] h = absurd (cc)

-- a table that is there, with so many elements
pub record IsTable (n : ℕ) (t : ℕ) (d : Design) : Type 0 where
  pub there : nat_lt t (length d.tables) ≡ true
  pub count : table_length d t ≡ n

module _ (s : Scope) (d : Design) (holds : Holds s d) (zs : List ℤ) where
  table_extends : Extends d (new_table d zs)
  table_extends = record { mems = []; tables = record { path = []; values = zs } ∷ []; same = ap (λ ms. record d { mems = ms; tables = d.tables ++ record { path = []; values = zs } ∷ [] }) (sym (append-nil d.mems)) }

  new_table_leads : nat_lt 0 (length zs) ≡ true → Leads s (IsTable (length zs)) d (Ok (length d.tables, new_table d zs))
  unfolding table_extends
  new_table_leads some =
      let t : TableDecl = record { path = []; values = zs } in
      let there : slice_get (d.tables ++ t ∷ []) (length d.tables) ≡ Some t = get_end d.tables t in
      record {
        led = record {
          extends = table_extends;
          holds = holds_later s d (new_table d zs) table_extends refl refl (and_from (nat_lt 0 (length zs)) true some refl) holds;
          gives = record { there = if_there (d.tables ++ t ∷ []) (length d.tables) t there; count = ap (λ o. option_map_or (λ (y : TableDecl). length y.values) o 0) there };
        };
      }

  table_at_leads : nat_lt 0 (length zs) ≡ true → (o : Option ℕ) → position (λ x. same_integers x.values zs) d.tables ≡ o → Leads s (IsTable (length zs)) d (table_at zs o d)
  table_at_leads some None q = new_table_leads some
  table_at_leads some (Some n) q =
      let p = place_of (λ (x : TableDecl). same_integers x.values zs) d.tables n q in
      leads_pure s (IsTable (length zs)) d holds n (record { there = if_there d.tables n p.0 p.1; count = ap (λ o. option_map_or (λ (y : TableDecl). length y.values) o 0) p.1 ∙ same_length p.0.values zs p.2 })

  table_leads : nat_lt 0 (length zs) ≡ true → Leads s (IsTable (length zs)) d (table zs d)
  table_leads some = table_at_leads some (position (λ x. same_integers x.values zs) d.tables) refl

module _ (s : Scope) (w : Work) (ls : List Variable) (d : Design) (holds : Holds s d) (t : Typed) (has : Has w ls d t) where
  table_has : (zs : List ℤ) (n : ℕ) (f : Design) → IsTable (length zs) n f → IsIndex (length zs) t → Has w ls f t → Has w ls f (integer (e.TableElement n t.expr))
  table_has zs n f table i h =
      has_plain w ls f (e.TableElement n t.expr) (Operation (TableElementOf n) (one (expression_of t.expr))) value.Int None (expression-table_element n t.expr)
      (of_operation w ls f (TableElementOf n) (one (expression_of t.expr)) (t.kind ∷ []) value.Int (one_part w ls f (expression_of t.expr) t.kind h.fits) refl
      (ap (λ b. kinds.given b value.Int) (and_from (is_number t.kind) (nat_lt n (length f.tables)) i.number table.there)) (ap (index_keeps (expression_of t.expr)) table.count ∙ i.keeps)) refl

  table_element_leads : (zs : List ℤ) → nat_lt 0 (length zs) ≡ true → Leads s (λ x f. Has w ls f x) d (table_element zs t d)
  table_element_leads zs some = by_index (index_at (length zs) t) (index_is (length zs) t)
    where
      by_index : (r : Result (Unit {0}) Code) → IfOk r (λ u. IsIndex (length zs) t) → Leads s (λ x f. Has w ls f x) d (chain (just r) (λ u. chain (table zs) (λ n. pure (integer (e.TableElement n t.expr)))) d)
      by_index (Ok u) i = leads_after s (IsTable (length zs)) (λ x f. Has w ls f x) d (table zs d) (λ n f. Ok (integer (e.TableElement n t.expr), f)) (table_leads s d holds zs some)
          (λ n f x later table. leads_pure s (λ y g. Has w ls g y) f later (integer (e.TableElement n t.expr)) (table_has zs n f table i (has_later w ls d f x t has)))
      by_index (Err code) i = leads_refuse s (λ x f. Has w ls f x) d code

  place_fine : (cs : List Const) → list_all (is_of d) cs ≡ true → (o : Option ℤ) → IfOk (place_in cs o) (λ v. is_of d v ≡ true)
  place_fine cs h None = tt
  place_fine cs h (Some (pos i)) = given_fine d cs i E4BadRange h
  place_fine cs h (Some (negsuc i)) = tt

  item_leads : (cs : List Const) → list_all (is_of d) cs ≡ true → Leads s (λ x f. Has w ls f x) d (item_of cs t d)
  item_leads cs h = by_item (place_in cs (constant_of (expression_of t.expr))) (place_fine cs h (constant_of (expression_of t.expr)))
    where
      by_item : (r : Result Const Code) → IfOk r (λ v. is_of d v ≡ true) → Leads s (λ x f. Has w ls f x) d (chain (just r) (λ v. seeing (leaf false v)) d)
      by_item (Ok v) q = leads_just s (λ x f. Has w ls f x) d holds (leaf false v d) (leaf_has s w ls d holds false v q)
      by_item (Err code) q = leads_refuse s (λ x f. Has w ls f x) d code

  by_integers : (v : Const) (cs : List Const) → list_all (is_of d) (v ∷ cs) ≡ true → (o : Option (List ℤ)) → integers_onto [] (v ∷ cs) ≡ o → Leads s (λ x f. Has w ls f x) d (tuple_as (v ∷ cs) o t d)
  by_integers v cs h (Some zs) q = let l = integers_length [] (v ∷ cs) zs q in table_element_leads zs (lt-ltb 0 (length zs) (omega (arith, l)))
  by_integers v cs h None q = item_leads (v ∷ cs) h

  pub tuple_leads : (cs : List Const) → list_all (is_of d) cs ≡ true → Leads s (λ x f. Has w ls f x) d (tuple_element cs t d)
  tuple_leads [] h = leads_refuse s (λ x f. Has w ls f x) d E4BadRange
  tuple_leads (v ∷ cs) h = by_integers v cs h (integers_onto [] (v ∷ cs)) refl
