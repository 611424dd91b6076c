-- A statement that fits a design fits one that has more, and so does a generator.
use Rattle.std.proofs.Common.{◌≡◌, ℕ, Bool, true, false, ◌&&◌, ◌||◌, List, [], ◌∷◌, ◌++◌, flat_map, Option, Some, None, refl, ap, sym, ◌∙◌}
use Rattle.std.specs.Prelude.{slice_get}
use Rattle.std.specs.List.{list_all}
use Rattle.std.specs.Option.{option_map, option_map_or, option_and_then}
use Rattle.std.proofs.lemmas.Bool.{and_parts, and_from}
use Rattle.std.proofs.lemmas.List.Folds.{list_all-append}
use Rattle.mh_design.specs.declared.design.Design.{Design}
use Rattle.mh_design.specs.declared.design.Generator.{Generator}
use Rattle.mh_design.specs.declared.design.GenKind.{GenKind}
use Rattle.mh_design.specs.declared.design.GenKind.TheVariants as generator
use Rattle.mh_design.specs.declared.design.Kind.{Kind}
use Rattle.mh_design.specs.declared.design.Local.{Local as Variable}
use Rattle.mh_design.specs.declared.design.Wait.{Wait}
use Rattle.mh_design.specs.declared.kinds.ValueKind.{ValueKind}
use Rattle.mh_design.specs.Constants.{constants_keep, cell_count, index_keeps, slice_keeps, base_keeps, left_keeps, left_width, kind_width}
use Rattle.mh_design.specs.Kinds.{mem_kind, is_number, kind_of}
use Rattle.mh_design.specs.Numbering.{arm_tests, left_indices, base_indices, printed_numbers, body_of, generator_statements}
use Rattle.mh_design.specs.Statements.{is_numeric, is_integer, is_integer_kind, takes, is_bits_kind, base_kind, base_fits, is_no_local, has_bits, left_takes, wait_fits, printed_fits, kinds_fit, constants_fit, yield_fits, statement_fits, block_exits_fit}
use Rattle.mh_design.specs.Tree.{Expression, LeftBase, LeftSignal, LeftElement, LeftLocal, LeftSide, Whole, LeftBit, LeftSlice, Bind, Printed, Words, Number, Statement, Set, If, While, For, Break, Continue, Yield, Print, Assert, Stop}
use Rattle.mh_design.specs.Depth.{block_is_within}
use Rattle.mh_design.specs.WellFormed.{is_name, local_fits, is_edge, is_reset, starts_fit, is_instance, statements_fit, locals_are_assigned, body_fits, generator_fits}
use Rattle.mh_lower_laws.proofs.Basics.{all_then}
use Rattle.mh_lower_laws.proofs.Growth.{Grown, signal_same, mem_same, cells_same, kind_later, keeps_later}

-- ---- tests of what may be there

pub found_later : {X : Type 0} (p : X → Bool) (o q : Option X) → ((x : X) → o ≡ Some x → q ≡ Some x) → option_map_or p o false ≡ true → option_map_or p q false ≡ true
found_later p None q f h = absurd (cc)
found_later p (Some x) q f h = ap (λ r. option_map_or p r false) (f x refl) ∙ h

pub found : {X : Type 0} (p : X → Bool) (o : Option X) → option_map_or p o false ≡ true → (x : X) × (o ≡ Some x) × (p x ≡ true)
found p None h = absurd (cc)
found p (Some x) h = (x, refl, h)

or_later : (a b c : Bool) → (b ≡ true → c ≡ true) → (a || b) ≡ true → (a || c) ≡ true
or_later true b c f h = refl
or_later false b c f h = f h

and_later : (a b c e : Bool) → (a ≡ true → c ≡ true) → (a ≡ true → b ≡ true → e ≡ true) → (a && b) ≡ true → (c && e) ≡ true
and_later a b c e f g h = let p = and_parts a b h in and_from c e (f p.0) (g p.0 p.1)

module _ (d e : Design) (g : Grown d e) (ls : List Variable) where
  pub numeric_later : (x : Expression) → is_numeric d ls x ≡ true → is_numeric e ls x ≡ true
  numeric_later x h = found_later is_number (kind_of d ls x) (kind_of e ls x) (λ k q. kind_later d e g ls x k q) h

  integer_later : (x : Expression) → is_integer d ls x ≡ true → is_integer e ls x ≡ true
  integer_later x h = found_later is_integer_kind (kind_of d ls x) (kind_of e ls x) (λ k q. kind_later d e g ls x k q) h

  -- ---- left sides

  element_there : (m : ℕ) (k : Kind) → mem_kind d m ≡ Some k → mem_kind e m ≡ Some k
  element_there m k h = by_mem (slice_get d.mems m) refl h
    where
      by_mem : (o : Option _) → slice_get d.mems m ≡ o → option_map (λ x. x.kind) o ≡ Some k → mem_kind e m ≡ Some k
      by_mem (Some x) q f = mem_same d e g m x q ∙ h
      by_mem None q f = absurd (cc)

  pub base_later : (b : LeftBase) (k : Kind) → base_kind d ls b ≡ Some k → base_kind e ls b ≡ Some k
  base_later (LeftSignal n) k h = signal_same d e g n ∙ h
  base_later (LeftElement m i) k h = element_there m k h
  base_later (LeftLocal v) k h = h

  pub base_fits_later : (b : LeftBase) → base_fits d ls b ≡ true → base_fits e ls b ≡ true
  base_fits_later (LeftSignal n) h = h
  base_fits_later (LeftElement m i) h = numeric_later i h
  base_fits_later (LeftLocal v) h = h

  pub has_bits_later : (b : LeftBase) → has_bits d ls b ≡ true → has_bits e ls b ≡ true
  has_bits_later b h = found_later is_bits_kind (base_kind d ls b) (base_kind e ls b) (base_later b) h

  left_later : (t : LeftSide) (k : ValueKind) → left_takes d ls t k ≡ true → left_takes e ls t k ≡ true
  left_later (Whole b) k h = and_later _ _ _ _
      (λ p. and_later (base_fits d ls b) _ (base_fits e ls b) _ (base_fits_later b) (λ q r. or_later (is_no_local b) (has_bits d ls b) (has_bits e ls b) (has_bits_later b) r) p)
      (λ p q. found_later (λ x. takes x k) (base_kind d ls b) (base_kind e ls b) (base_later b) q) h
  left_later (LeftBit b i) k h = and_later _ _ _ _
      (λ p. and_later (base_fits d ls b) _ (base_fits e ls b) _ (base_fits_later b) (λ q r. has_bits_later b r) p)
      (λ p q. and_later (is_numeric d ls i) (is_number k) (is_numeric e ls i) (is_number k) (numeric_later i) (λ r s. s) q) h
  left_later (LeftSlice b i j) k h = and_later _ _ _ _
      (λ p. and_later (base_fits d ls b) _ (base_fits e ls b) _ (base_fits_later b) (λ q r. has_bits_later b r) p)
      (λ p q. and_later _ (is_number k) _ (is_number k) (λ r. and_later (is_numeric d ls i) (is_numeric d ls j) (is_numeric e ls i) (is_numeric e ls j) (numeric_later i) (λ s u. numeric_later j u) r) (λ r s. s) q) h
  left_later (Bind v b) k h = h

  -- ---- waits and what is printed

  wait_same : (w : Wait) → wait_fits e w ≡ wait_fits d w
  wait_same w = ap (λ ss. wait_fits (record d { signals = ss }) w) g.signals

  pub printed_later : (p : Printed) → printed_fits d ls p ≡ true → printed_fits e ls p ≡ true
  printed_later (Words t) h = h
  printed_later (Number x) h = integer_later x h

  -- ---- kinds

  set_later : (t : LeftSide) (x : Expression) → option_map_or (left_takes d ls t) (kind_of d ls x) false ≡ true → option_map_or (left_takes e ls t) (kind_of e ls x) false ≡ true
  set_later t x h =
      let f = found (left_takes d ls t) (kind_of d ls x) h in
      ap (λ o. option_map_or (left_takes e ls t) o false) (kind_later d e g ls x f.0 f.1) ∙ left_later t f.0 f.2

  kinds_later : (s : Statement) → kinds_fit d ls s ≡ true → kinds_fit e ls s ≡ true
  kinds_later (Set l t x) h = set_later t x h
  kinds_later (If l rs other) h = all_then (is_numeric d ls) (is_numeric e ls) (arm_tests rs) numeric_later h
  kinds_later (While l x b) h = numeric_later x h
  kinds_later (For l v down a z step b) h = and_later _ _ _ _ (λ p. p) (λ p q. and_later (is_numeric d ls a) (is_numeric d ls z) (is_numeric e ls a) (is_numeric e ls z) (numeric_later a) (λ r s. numeric_later z s) q) h
  kinds_later (Break l) h = h
  kinds_later (Continue l) h = h
  kinds_later (Yield l ws) h = all_then (wait_fits d) (wait_fits e) ws (λ w q. wait_same w ∙ q) h
  kinds_later (Print l ps) h = all_then (printed_fits d ls) (printed_fits e ls) ps printed_later h
  kinds_later (Assert l x) h = numeric_later x h
  kinds_later (Stop l) h = h

  -- ---- constants, in what has a kind

  -- it keeps the rule in a design that has more, where it has a kind
  Keeps : Expression → Type 0
  Keeps x = constants_keep d ls x ≡ true → constants_keep e ls x ≡ true

  pub keeps_numeric : (x : Expression) → is_numeric d ls x ≡ true → constants_keep d ls x ≡ true → constants_keep e ls x ≡ true
  keeps_numeric x h q = let f = found is_number (kind_of d ls x) h in keeps_later d e g ls x f.0 f.1 q

  pub all_keep : (xs : List Expression) → list_all (is_numeric d ls) xs ≡ true → list_all (constants_keep d ls) xs ≡ true → list_all (constants_keep e ls) xs ≡ true
  all_keep [] h q = refl
  all_keep (x ∷ xs) h q =
      let a = and_parts (is_numeric d ls x) (list_all (is_numeric d ls) xs) h in
      let b = and_parts (constants_keep d ls x) (list_all (constants_keep d ls) xs) q in
      and_from (constants_keep e ls x) (list_all (constants_keep e ls) xs) (keeps_numeric x a.0 b.0) (all_keep xs a.1 b.1)

  pub all_printed_keep : (ps : List Printed) → list_all (printed_fits d ls) ps ≡ true → list_all (constants_keep d ls) (flat_map printed_numbers ps) ≡ true → list_all (constants_keep e ls) (flat_map printed_numbers ps) ≡ true
  all_printed_keep [] h q = refl
  all_printed_keep (Words t ∷ ps) h q = all_printed_keep ps h q
  all_printed_keep (Number x ∷ ps) h q =
      let a = and_parts (is_integer d ls x) (list_all (printed_fits d ls) ps) h in
      let f = found is_integer_kind (kind_of d ls x) a.0 in
      let b = and_parts (constants_keep d ls x) (list_all (constants_keep d ls) (flat_map printed_numbers ps)) q in
      and_from (constants_keep e ls x) (list_all (constants_keep e ls) (flat_map printed_numbers ps)) (keeps_later d e g ls x f.0 f.1 b.0) (all_printed_keep ps a.1 b.1)

  -- the indices of a base
  pub base_numeric : (b : LeftBase) → base_fits d ls b ≡ true → list_all (is_numeric d ls) (base_indices b) ≡ true
  base_numeric (LeftSignal n) h = refl
  base_numeric (LeftElement m i) h = and_from (is_numeric d ls i) true h refl
  base_numeric (LeftLocal v) h = refl

  indices_numeric : (t : LeftSide) (k : ValueKind) → left_takes d ls t k ≡ true → list_all (is_numeric d ls) (left_indices t) ≡ true
  indices_numeric (Whole b) k h = base_numeric b (and_parts (base_fits d ls b) _ (and_parts _ _ h).0).0
  indices_numeric (LeftBit b i) k h =
      let p = and_parts _ _ h in
      list_all-append (is_numeric d ls) (base_indices b) (i ∷ []) ∙ and_from (list_all (is_numeric d ls) (base_indices b)) (is_numeric d ls i && true) (base_numeric b (and_parts (base_fits d ls b) _ p.0).0)
      (and_from (is_numeric d ls i) true (and_parts (is_numeric d ls i) _ p.1).0 refl)
  indices_numeric (LeftSlice b i j) k h =
      let p = and_parts _ _ h in
      let q = and_parts _ _ p.1 in
      let r = and_parts (is_numeric d ls i) (is_numeric d ls j) q.0 in
      list_all-append (is_numeric d ls) (base_indices b) (i ∷ j ∷ []) ∙ and_from (list_all (is_numeric d ls) (base_indices b)) (is_numeric d ls i && (is_numeric d ls j && true)) (base_numeric b (and_parts (base_fits d ls b) _ p.0).0)
      (and_from (is_numeric d ls i) _ r.0 (and_from (is_numeric d ls j) true r.1 refl))
  indices_numeric (Bind v b) k h = refl

  set_keeps : (t : LeftSide) (x : Expression) (k : ValueKind) → kind_of d ls x ≡ Some k → left_takes d ls t k ≡ true → list_all (constants_keep d ls) (left_indices t ++ x ∷ []) ≡ true → list_all (constants_keep e ls) (left_indices t ++ x ∷ []) ≡ true
  set_keeps t x k f h q =
      let a = and_parts (list_all (constants_keep d ls) (left_indices t)) (constants_keep d ls x && true) (sym (list_all-append (constants_keep d ls) (left_indices t) (x ∷ [])) ∙ q) in
      let b = and_parts (constants_keep d ls x) true a.1 in
      list_all-append (constants_keep e ls) (left_indices t) (x ∷ []) ∙ and_from (list_all (constants_keep e ls) (left_indices t)) (constants_keep e ls x && true) (all_keep (left_indices t) (indices_numeric t k h) a.0)
      (and_from (constants_keep e ls x) true (keeps_later d e g ls x k f b.0) refl)

  -- the element and the part that are assigned
  pub base_keeps_later : (b : LeftBase) (k : Kind) → base_kind d ls b ≡ Some k → base_keeps d b ≡ true → base_keeps e b ≡ true
  base_keeps_later (LeftSignal n) k f h = h
  base_keeps_later (LeftElement m i) k f h = by_mem (slice_get d.mems m) refl f
    where
      by_mem : (o : Option _) → slice_get d.mems m ≡ o → option_map (λ x. x.kind) o ≡ Some k → index_keeps i (cell_count e m) ≡ true
      by_mem (Some x) q r = ap (index_keeps i) (cells_same d e g m x q) ∙ h
      by_mem None q r = absurd (cc)
  base_keeps_later (LeftLocal v) k f h = h

  width_later : (b : LeftBase) (k : Kind) → base_kind d ls b ≡ Some k → left_width e ls b ≡ left_width d ls b
  width_later (LeftSignal n) k f = ap (option_and_then kind_width) (signal_same d e g n)
  width_later (LeftElement m i) k f = ap (option_and_then kind_width) (element_there m k f ∙ sym f)
  width_later (LeftLocal v) k f = refl

  left_keeps_later : (t : LeftSide) (k : ValueKind) → left_takes d ls t k ≡ true → left_keeps d ls t ≡ true → left_keeps e ls t ≡ true
  left_keeps_later (Whole b) k f h = let o = found (λ x. takes x k) (base_kind d ls b) (and_parts _ _ f).1 in base_keeps_later b o.0 o.1 h
  left_keeps_later (LeftBit b i) k f h =
      let p = and_parts (base_fits d ls b) (has_bits d ls b) (and_parts _ _ f).0 in
      let o = found is_bits_kind (base_kind d ls b) p.1 in
      and_later (base_keeps d b) _ (base_keeps e b) _ (base_keeps_later b o.0 o.1) (λ q r. ap (λ n. option_map_or (index_keeps i) n true) (width_later b o.0 o.1) ∙ r) h
  left_keeps_later (LeftSlice b i j) k f h =
      let p = and_parts (base_fits d ls b) (has_bits d ls b) (and_parts _ _ f).0 in
      let o = found is_bits_kind (base_kind d ls b) p.1 in
      and_later (base_keeps d b) _ (base_keeps e b) _ (base_keeps_later b o.0 o.1) (λ q r. ap (λ n. option_map_or (slice_keeps i j) n true) (width_later b o.0 o.1) ∙ r) h
  left_keeps_later (Bind v b) k f h = refl

  -- ---- statements

  constants_later : (s : Statement) → kinds_fit d ls s ≡ true → constants_fit d ls s ≡ true → constants_fit e ls s ≡ true
  constants_later (Set l t x) f h =
      let o = found (left_takes d ls t) (kind_of d ls x) f in
      and_later (left_keeps d ls t) _ (left_keeps e ls t) _ (left_keeps_later t o.0 o.2) (λ p q. set_keeps t x o.0 o.1 o.2 q) h
  constants_later (If l rs other) f h = all_keep (arm_tests rs) f h
  constants_later (While l x b) f h = all_keep (x ∷ []) (and_from (is_numeric d ls x) true f refl) h
  constants_later (For l v down a z step b) f h =
      let p = and_parts (is_numeric d ls a) (is_numeric d ls z) (and_parts _ _ f).1 in
      all_keep (a ∷ z ∷ []) (and_from (is_numeric d ls a) _ p.0 (and_from (is_numeric d ls z) true p.1 refl)) h
  constants_later (Break l) f h = refl
  constants_later (Continue l) f h = refl
  constants_later (Yield l ws) f h = refl
  constants_later (Print l ps) f h = all_printed_keep ps f h
  constants_later (Assert l x) f h = all_keep (x ∷ []) (and_from (is_numeric d ls x) true f refl) h
  constants_later (Stop l) f h = refl

  pub statement_later : (instance : Bool) (s : Statement) → statement_fits d ls instance s ≡ true → statement_fits e ls instance s ≡ true
  statement_later instance s h =
      let p = and_parts (kinds_fit d ls s && constants_fit d ls s) (yield_fits instance s) h in
      let q = and_parts (kinds_fit d ls s) (constants_fit d ls s) p.0 in
      and_from (kinds_fit e ls s && constants_fit e ls s) (yield_fits instance s) (and_from (kinds_fit e ls s) (constants_fit e ls s) (kinds_later s q.0) (constants_later s q.0 q.1)) p.1

  pub statements_later : (instance : Bool) (ss : List Statement) → list_all (statement_fits d ls instance) ss ≡ true → list_all (statement_fits e ls instance) ss ≡ true
  statements_later instance ss h = all_then (statement_fits d ls instance) (statement_fits e ls instance) ss (statement_later instance) h

-- ---- generators

module _ (d e : Design) (g : Grown d e) where
  waits_later : (w : Wait) → wait_fits e w ≡ wait_fits d w
  waits_later w = ap (λ ss. wait_fits (record d { signals = ss }) w) g.signals

  pub starts_later : (k : GenKind) → starts_fit d k ≡ true → starts_fit e k ≡ true
  starts_later generator.Comb h = h
  starts_later (generator.Always ws) h = all_then (wait_fits d) (wait_fits e) ws (λ w q. waits_later w ∙ q) h
  starts_later (generator.Seq w r) h = and_later _ (is_reset d r) _ (is_reset e r) (λ p. and_later (is_edge w) (wait_fits d w) (is_edge w) (wait_fits e w) (λ q. q) (λ q s. waits_later w ∙ s) p) (λ p q. ap (λ ss. is_reset (record d { signals = ss }) r) g.signals ∙ q) h
  starts_later generator.Instance h = h

  local_later : (v : Variable) → local_fits e v ≡ local_fits d v
  local_later v = ap (λ es. local_fits (record d { enums = es }) v) g.enums

  body_later : (x : Generator) → body_fits d x ≡ true → body_fits e x ≡ true
  body_later x h =
      and_later (block_is_within (body_of x) 200 && statements_fit d x) (block_exits_fit false (body_of x) && locals_are_assigned x) (block_is_within (body_of x) 200 && statements_fit e x) (block_exits_fit false (body_of x) && locals_are_assigned x)
      (λ u. and_later (block_is_within (body_of x) 200) (statements_fit d x) (block_is_within (body_of x) 200) (statements_fit e x) (λ v. v) (λ v y. statements_later d e g x.locals (is_instance x.kind) (generator_statements x) y) u) (λ u v. v) h

  pub generator_later : (x : Generator) → generator_fits d x ≡ true → generator_fits e x ≡ true
  generator_later x h =
      and_later (is_name x.path && list_all (local_fits d) x.locals) (starts_fit d x.kind && body_fits d x) (is_name x.path && list_all (local_fits e) x.locals) (starts_fit e x.kind && body_fits e x)
      (λ p. and_later (is_name x.path) (list_all (local_fits d) x.locals) (is_name x.path) (list_all (local_fits e) x.locals) (λ q. q) (λ q r. all_then (local_fits d) (local_fits e) x.locals (λ v s. local_later v ∙ s) r) p)
      (λ p q. and_later (starts_fit d x.kind) (body_fits d x) (starts_fit e x.kind) (body_fits e x) (starts_later x.kind) (λ r s. body_later x s) q) h
