-- An expression under the numbers of a design that draws from another has the kind that it had.
use Rattle.std.proofs.Common.{◌≡◌, ℕ, ◌<◌, arith, ℤ, pos, Bool, true, false, ◌&&◌, List, [], ◌∷◌, ◌++◌, length, Option, Some, None, refl, ap, ap₂, sym, ◌∙◌, if◌then◌else◌, slice_get}
use Rattle.std.specs.Prelude.{nat_lt, int_le, int_lt}
use Rattle.std.specs.List.{list_all}
use Rattle.std.specs.Option.{option_map, option_map_or, option_and_then}
use Rattle.std.proofs.lemmas.Bool.{and_parts, and_from, ltb-true}
use Rattle.std.proofs.lemmas.List.Folds.{list_all-append}
use Rattle.mh_design.specs.declared.design.Design.{Design}
use Rattle.mh_design.specs.declared.design.EnumDecl.{EnumDecl}
use Rattle.mh_design.specs.declared.design.Kind.{Kind}
use Rattle.mh_design.specs.declared.design.Local.{Local as Variable}
use Rattle.mh_design.specs.declared.design.MemDecl.{MemDecl}
use Rattle.mh_design.specs.declared.design.SignalDecl.{SignalDecl}
use Rattle.mh_design.specs.declared.design.TableDecl.{TableDecl}
use Rattle.mh_design.specs.declared.kinds.ValueKind.{ValueKind}
use Rattle.mh_design.specs.declared.kinds.ValueKind.TheVariants as value
use Rattle.mh_design.specs.Constants.{constant_of, keeps_rule, part_keeps, index_keeps, slice_keeps, ends_keep, base_width, kind_width, cell_count, table_length, constants_keep}
use Rattle.mh_design.specs.Kinds.{signal_kind, mem_kind, item_count, is_number, read_as, read_some, given, on_one, is_base, first_is_base, element_kind, table_kind, operated, has_base, kind_of, kinds_of}
use Rattle.mh_design.specs.Numbering.{expressions, all_expressions}
use Rattle.mh_design.specs.Statements.{is_numeric, is_integer, is_integer_kind}
use Rattle.mh_design.specs.Tree.{Expression, Expressions, Operator, Integer, Truth, Item, Fixed, Signal, Local, Now, Operation, NoMore, More, ElementOf, TableElementOf, BitOf, SliceOf, Unary, Binary, And, Or, Concat, Signed, ToInt, ToBool}
use Rattle.mh_design.specs.WellFormed.{is_reset}
use Rattle.mh_lower_laws.proofs.Basics.{there_if, if_there}
use Rattle.mh_lower_laws.proofs.Growth.{OfParts, of_parts, from_parts, OfMore, of_more, from_more}
use Rattle.mh_lower_laws.proofs.StatementGrowth.{found_later}
use Rattle.mh_plans.specs.Order.{is_in}
use Rattle.mh_plans.specs.Renumbered.{Chosen, number_in, operator_in, expression_in, expressions_in}

-- ---- what is chosen of what an expression names

abbrev pub node_chosen : Chosen → Expression → Bool
node_chosen k (Signal n) = is_in k.signals n
node_chosen k (Operation (ElementOf m) xs) = is_in k.mems m
node_chosen k (Operation (TableElementOf t) xs) = is_in k.tables t
node_chosen k x = true

abbrev pub is_chosen : Chosen → Expression → Bool
is_chosen k x = list_all (node_chosen k) (expressions x)

abbrev pub are_chosen : Chosen → Expressions → Bool
are_chosen k xs = list_all (node_chosen k) (all_expressions xs)

-- the design e has what was chosen of d
pub record Redrawn (d e : Design) (k : Chosen) : Type 0 where
  pub signals : (n : ℕ) (x : Kind) → is_in k.signals n ≡ true → signal_kind d n ≡ Some x → signal_kind e (number_in k.signals n) ≡ Some x
  pub resets : (n : ℕ) → is_in k.signals n ≡ true → is_reset d (Some n) ≡ true → is_reset e (Some (number_in k.signals n)) ≡ true
  pub mems : (m : ℕ) (x : Kind) → is_in k.mems m ≡ true → mem_kind d m ≡ Some x → mem_kind e (number_in k.mems m) ≡ Some x
  pub cells : (m : ℕ) (x : Kind) → is_in k.mems m ≡ true → mem_kind d m ≡ Some x → cell_count e (number_in k.mems m) ≡ cell_count d m
  pub tables : (t : ℕ) → is_in k.tables t ≡ true → nat_lt t (length d.tables) ≡ true → table_length e (number_in k.tables t) ≡ table_length d t
  pub tables_there : (t : ℕ) → is_in k.tables t ≡ true → nat_lt (number_in k.tables t) (length e.tables) ≡ true
  pub enums : (n : ℕ) (x : EnumDecl) → slice_get d.enums n ≡ Some x → slice_get e.enums n ≡ Some x

-- ---- options

pub kind_there : (o : Option Kind) (t : ValueKind) → read_some o ≡ Some t → (x : Kind) × (o ≡ Some x)
kind_there (Some x) t h = (x, refl)
kind_there None t h = absurd (cc)

number_kind : (b : Bool) (o : Option Kind) (t : ValueKind) → (if b then read_some o else None) ≡ Some t → (x : Kind) × (o ≡ Some x)
number_kind true o t h = kind_there o t h
number_kind false o t h = absurd (cc)

both_there : (b c : Bool) (v t : ValueKind) → given (b && c) v ≡ Some t → c ≡ true
both_there true true v t h = refl
both_there true false v t h = absurd (cc)
both_there false c v t h = absurd (cc)

-- the memory and the table of an element
pub element_there : (d : Design) (m : ℕ) (ks : List ValueKind) (t : ValueKind) → on_one (element_kind d m) ks ≡ Some t → (x : Kind) × (mem_kind d m ≡ Some x)
element_there d m (i ∷ []) t h = number_kind (is_number i) (mem_kind d m) t h
element_there d m [] t h = absurd (cc)
element_there d m (i ∷ j ∷ ks) t h = absurd (cc)

pub table_is_there : (d : Design) (n : ℕ) (ks : List ValueKind) (t : ValueKind) → on_one (table_kind d n) ks ≡ Some t → nat_lt n (length d.tables) ≡ true
table_is_there d n (i ∷ []) t h = both_there (is_number i) (nat_lt n (length d.tables)) value.Int t h
table_is_there d n [] t h = absurd (cc)
table_is_there d n (i ∷ j ∷ ks) t h = absurd (cc)

given_there : (b : Bool) (v t : ValueKind) → given b v ≡ Some t → b ≡ true
given_there true v t h = refl
given_there false v t h = absurd (cc)

-- an enum with the item is there
item_by : (d : Design) (n i : ℕ) (o : Option EnumDecl) (t : ValueKind) → slice_get d.enums n ≡ o → given (nat_lt i (option_map_or (λ x. length x.names) o 0)) (value.Item n) ≡ Some t → (x : EnumDecl) × (slice_get d.enums n ≡ Some x)
item_by d n i (Some x) t e h = (x, e)
item_by d n i None t e h = absurd (none_below i (ltb-true i 0 (given_there (nat_lt i 0) (value.Item n) t h)))
  where
    none_below : (i : ℕ) → i < 0 → ⊥
    none_below i h = omega arith

-- ---- shapes

pub constant_same : (k : Chosen) (x : Expression) → constant_of (expression_in k x) ≡ constant_of x
constant_same k (Integer z) = refl
constant_same k (Truth b) = refl
constant_same k (Item n i) = refl
constant_same k (Fixed z b) = refl
constant_same k (Signal n) = refl
constant_same k (Local v) = refl
constant_same k Now = refl
constant_same k (Operation o xs) = refl

base_same : (k : Chosen) (x : Expression) → is_base (expression_in k x) ≡ is_base x
base_same k (Integer z) = refl
base_same k (Truth b) = refl
base_same k (Item n i) = refl
base_same k (Fixed z b) = refl
base_same k (Signal n) = refl
base_same k (Local v) = refl
base_same k Now = refl
base_same k (Operation (ElementOf m) xs) = refl
base_same k (Operation (TableElementOf t) xs) = refl
base_same k (Operation BitOf xs) = refl
base_same k (Operation SliceOf xs) = refl
base_same k (Operation (Unary o) xs) = refl
base_same k (Operation (Binary o) xs) = refl
base_same k (Operation And xs) = refl
base_same k (Operation Or xs) = refl
base_same k (Operation Concat xs) = refl
base_same k (Operation Signed xs) = refl
base_same k (Operation ToInt xs) = refl
base_same k (Operation ToBool xs) = refl

first_same : (k : Chosen) (xs : Expressions) → first_is_base (expressions_in k xs) ≡ first_is_base xs
first_same k NoMore = refl
first_same k (More x xs) = base_same k x

has_base_same : (k : Chosen) (o : Operator) (xs : Expressions) → has_base (operator_in k o) (expressions_in k xs) ≡ has_base o xs
has_base_same k (ElementOf m) xs = refl
has_base_same k (TableElementOf t) xs = refl
has_base_same k BitOf xs = first_same k xs
has_base_same k SliceOf xs = first_same k xs
has_base_same k (Unary o) xs = refl
has_base_same k (Binary o) xs = refl
has_base_same k And xs = refl
has_base_same k Or xs = refl
has_base_same k Concat xs = refl
has_base_same k Signed xs = refl
has_base_same k ToInt xs = refl
has_base_same k ToBool xs = refl

pub index_same : (k : Chosen) (i : Expression) (m n : ℕ) → m ≡ n → index_keeps i n ≡ true → index_keeps (expression_in k i) m ≡ true
index_same k i m n e h = ap₂ (λ c j. option_map_or (λ z. int_le (pos 0) z && int_lt z (pos j)) c true) (constant_same k i) e ∙ h

pub index_if : (k : Chosen) (i : Expression) (o p : Option ℕ) → o ≡ p → option_map_or (index_keeps i) p true ≡ true → option_map_or (index_keeps (expression_in k i)) o true ≡ true
index_if k i o p e h = ap (λ q. option_map_or (index_keeps (expression_in k i)) q true) e ∙ ap (λ c. option_map_or (λ j. option_map_or (λ z. int_le (pos 0) z && int_lt z (pos j)) c true) p true) (constant_same k i) ∙ h

pub slice_if : (k : Chosen) (i j : Expression) (o p : Option ℕ) → o ≡ p → option_map_or (slice_keeps i j) p true ≡ true → option_map_or (slice_keeps (expression_in k i) (expression_in k j)) o true ≡ true
slice_if k i j o p e h =
    ap (λ q. option_map_or (slice_keeps (expression_in k i) (expression_in k j)) q true) e ∙ ap₂ (λ a b. option_map_or (λ w. ends_keep a b w) p true) (constant_same k i) (constant_same k j) ∙ h

module _ (d e : Design) (k : Chosen) (r : Redrawn d e k) where
  -- ---- kinds

  element_in : (m : ℕ) (ks : List ValueKind) (t : ValueKind) → is_in k.mems m ≡ true → on_one (element_kind d m) ks ≡ Some t → on_one (element_kind e (number_in k.mems m)) ks ≡ Some t
  element_in m (i ∷ []) t c h =
      let x = element_there d m (i ∷ []) t h in
      ap (λ o. if is_number i then read_some o else None) (r.mems m x.0 c x.1 ∙ sym x.1) ∙ h
  element_in m [] t c h = h
  element_in m (i ∷ j ∷ ks) t c h = h

  table_in : (n : ℕ) (ks : List ValueKind) (t : ValueKind) → is_in k.tables n ≡ true → on_one (table_kind d n) ks ≡ Some t → on_one (table_kind e (number_in k.tables n)) ks ≡ Some t
  table_in n (i ∷ []) t c h = ap (λ b. given (is_number i && b) value.Int) (r.tables_there n c ∙ sym (table_is_there d n (i ∷ []) t h)) ∙ h
  table_in n [] t c h = h
  table_in n (i ∷ j ∷ ks) t c h = h

  operated_in : (o : Operator) (xs : Expressions) (ks : List ValueKind) (t : ValueKind) → node_chosen k (Operation o xs) ≡ true → operated d o ks ≡ Some t → operated e (operator_in k o) ks ≡ Some t
  operated_in (ElementOf m) xs ks t c h = element_in m ks t c h
  operated_in (TableElementOf n) xs ks t c h = table_in n ks t c h
  operated_in BitOf xs ks t c h = h
  operated_in SliceOf xs ks t c h = h
  operated_in (Unary o) xs ks t c h = h
  operated_in (Binary o) xs ks t c h = h
  operated_in And xs ks t c h = h
  operated_in Or xs ks t c h = h
  operated_in Concat xs ks t c h = h
  operated_in Signed xs ks t c h = h
  operated_in ToInt xs ks t c h = h
  operated_in ToBool xs ks t c h = h

  item_in : (n i : ℕ) (t : ValueKind) → given (nat_lt i (item_count d n)) (value.Item n) ≡ Some t → given (nat_lt i (item_count e n)) (value.Item n) ≡ Some t
  item_in n i t h =
      let x = item_by d n i (slice_get d.enums n) t refl h in
      ap (λ o. given (nat_lt i (option_map_or (λ (y : EnumDecl). length y.names) o 0)) (value.Item n)) (r.enums n x.0 x.1 ∙ sym x.1) ∙ h

  module _ (vs : List Variable) where
    mutual
      pub kind_in : (x : Expression) (t : ValueKind) → is_chosen k x ≡ true → kind_of d vs x ≡ Some t → kind_of e vs (expression_in k x) ≡ Some t
      kind_in (Integer z) t c h = h
      kind_in (Truth b) t c h = h
      kind_in (Item n i) t c h = item_in n i t h
      kind_in (Fixed z b) t c h = h
      kind_in (Signal n) t c h =
          let x = kind_there (signal_kind d n) t h in
          ap read_some (r.signals n x.0 (and_parts (is_in k.signals n) true c).0 x.1 ∙ sym x.1) ∙ h
      kind_in (Local v) t c h = h
      kind_in Now t c h = h
      kind_in (Operation o xs) t c h =
          let p = of_parts (has_base o xs) (operated d o) (kinds_of d vs xs) t h in
          let a = and_parts (node_chosen k (Operation o xs)) (are_chosen k xs) c in
          from_parts (has_base (operator_in k o) (expressions_in k xs)) (operated e (operator_in k o)) (kinds_of e vs (expressions_in k xs)) p.list t (has_base_same k o xs ∙ p.base) (kinds_in xs p.list a.1 p.kinds)
          (operated_in o xs p.list t a.0 p.gives)

      pub kinds_in : (xs : Expressions) (ks : List ValueKind) → are_chosen k xs ≡ true → kinds_of d vs xs ≡ Some ks → kinds_of e vs (expressions_in k xs) ≡ Some ks
      kinds_in NoMore ks c h = h
      kinds_in (More x xs) ks c h =
          let m = of_more (kind_of d vs x) (kinds_of d vs xs) ks h in
          let a = and_parts (is_chosen k x) (are_chosen k xs) (sym (list_all-append (node_chosen k) (expressions x) (all_expressions xs)) ∙ c) in
          from_more (kind_of e vs (expression_in k x)) (kinds_of e vs (expressions_in k xs)) m.first m.rest (kind_in x m.first a.0 m.is_first) (kinds_in xs m.rest a.1 m.is_rest) ∙ m.is_all

    pub numeric_in : (x : Expression) → is_chosen k x ≡ true → is_numeric d vs x ≡ true → is_numeric e vs (expression_in k x) ≡ true
    numeric_in x c h = found_later is_number (kind_of d vs x) (kind_of e vs (expression_in k x)) (λ t q. kind_in x t c q) h

    pub integer_in : (x : Expression) → is_chosen k x ≡ true → is_integer d vs x ≡ true → is_integer e vs (expression_in k x) ≡ true
    integer_in x c h = found_later is_integer_kind (kind_of d vs x) (kind_of e vs (expression_in k x)) (λ t q. kind_in x t c q) h

    -- ---- widths

    element_width : (m : ℕ) (xs : Expressions) (t : ValueKind) → is_in k.mems m ≡ true → kind_of d vs (Operation (ElementOf m) xs) ≡ Some t → option_and_then kind_width (mem_kind e (number_in k.mems m)) ≡ option_and_then kind_width (mem_kind d m)
    element_width m xs t c h =
        let p = of_parts true (on_one (element_kind d m)) (kinds_of d vs xs) t h in
        let x = element_there d m p.list t p.gives in
        ap (option_and_then kind_width) (r.mems m x.0 c x.1 ∙ sym x.1)

    width_in : (x : Expression) (t : ValueKind) → is_chosen k x ≡ true → kind_of d vs x ≡ Some t → base_width e vs (expression_in k x) ≡ base_width d vs x
    width_in (Integer z) t c h = refl
    width_in (Truth b) t c h = refl
    width_in (Item n i) t c h = refl
    width_in (Fixed z b) t c h = refl
    width_in (Signal n) t c h =
        let x = kind_there (signal_kind d n) t h in
        ap (option_and_then kind_width) (r.signals n x.0 (and_parts (is_in k.signals n) true c).0 x.1 ∙ sym x.1)
    width_in (Local v) t c h = refl
    width_in Now t c h = refl
    width_in (Operation (ElementOf m) xs) t c h = element_width m xs t (and_parts (is_in k.mems m) (are_chosen k xs) c).0 h
    width_in (Operation (TableElementOf n) xs) t c h = refl
    width_in (Operation BitOf xs) t c h = refl
    width_in (Operation SliceOf xs) t c h = refl
    width_in (Operation (Unary o) xs) t c h = refl
    width_in (Operation (Binary o) xs) t c h = refl
    width_in (Operation And xs) t c h = refl
    width_in (Operation Or xs) t c h = refl
    width_in (Operation Concat xs) t c h = refl
    width_in (Operation Signed xs) t c h = refl
    width_in (Operation ToInt xs) t c h = refl
    width_in (Operation ToBool xs) t c h = refl

    -- ---- constants

    element_keeps : (m : ℕ) (xs : Expressions) (ks : List ValueKind) (t : ValueKind) → is_in k.mems m ≡ true → on_one (element_kind d m) ks ≡ Some t → part_keeps d vs (ElementOf m) xs ≡ true → part_keeps e vs (ElementOf (number_in k.mems m)) (expressions_in k xs) ≡ true
    element_keeps m (More i NoMore) ks t c f q = let x = element_there d m ks t f in index_same k i (cell_count e (number_in k.mems m)) (cell_count d m) (r.cells m x.0 c x.1) q
    element_keeps m NoMore ks t c f q = refl
    element_keeps m (More i (More j xs)) ks t c f q = refl

    table_keeps : (n : ℕ) (xs : Expressions) (ks : List ValueKind) (t : ValueKind) → is_in k.tables n ≡ true → on_one (table_kind d n) ks ≡ Some t → part_keeps d vs (TableElementOf n) xs ≡ true → part_keeps e vs (TableElementOf (number_in k.tables n)) (expressions_in k xs) ≡ true
    table_keeps n (More i NoMore) ks t c f q = index_same k i (table_length e (number_in k.tables n)) (table_length d n) (r.tables n c (table_is_there d n ks t f)) q
    table_keeps n NoMore ks t c f q = refl
    table_keeps n (More i (More j xs)) ks t c f q = refl

    first_chosen : (x : Expression) (xs : Expressions) → are_chosen k (More x xs) ≡ true → is_chosen k x ≡ true
    first_chosen x xs c = (and_parts (is_chosen k x) (are_chosen k xs) (sym (list_all-append (node_chosen k) (expressions x) (all_expressions xs)) ∙ c)).0

    bit_keeps : (xs : Expressions) (ks : List ValueKind) → are_chosen k xs ≡ true → kinds_of d vs xs ≡ Some ks → part_keeps d vs BitOf xs ≡ true → part_keeps e vs BitOf (expressions_in k xs) ≡ true
    bit_keeps (More a (More i NoMore)) ks c h q =
        let m = of_more (kind_of d vs a) (kinds_of d vs (More i NoMore)) ks h in
        index_if k i (base_width e vs (expression_in k a)) (base_width d vs a) (width_in a m.first (first_chosen a (More i NoMore) c) m.is_first) q
    bit_keeps NoMore ks c h q = refl
    bit_keeps (More a NoMore) ks c h q = refl
    bit_keeps (More a (More i (More j xs))) ks c h q = refl

    slice_keeps_in : (xs : Expressions) (ks : List ValueKind) → are_chosen k xs ≡ true → kinds_of d vs xs ≡ Some ks → part_keeps d vs SliceOf xs ≡ true → part_keeps e vs SliceOf (expressions_in k xs) ≡ true
    slice_keeps_in (More a (More i (More j NoMore))) ks c h q =
        let m = of_more (kind_of d vs a) (kinds_of d vs (More i (More j NoMore))) ks h in
        slice_if k i j (base_width e vs (expression_in k a)) (base_width d vs a) (width_in a m.first (first_chosen a (More i (More j NoMore)) c) m.is_first) q
    slice_keeps_in NoMore ks c h q = refl
    slice_keeps_in (More a NoMore) ks c h q = refl
    slice_keeps_in (More a (More i NoMore)) ks c h q = refl
    slice_keeps_in (More a (More i (More j (More l xs)))) ks c h q = refl

    part_in : (o : Operator) (xs : Expressions) (ks : List ValueKind) (t : ValueKind) → node_chosen k (Operation o xs) ≡ true → are_chosen k xs ≡ true → kinds_of d vs xs ≡ Some ks → operated d o ks ≡ Some t →
        part_keeps d vs o xs ≡ true → part_keeps e vs (operator_in k o) (expressions_in k xs) ≡ true
    part_in (ElementOf m) xs ks t c b h f q = element_keeps m xs ks t c f q
    part_in (TableElementOf n) xs ks t c b h f q = table_keeps n xs ks t c f q
    part_in BitOf xs ks t c b h f q = bit_keeps xs ks b h q
    part_in SliceOf xs ks t c b h f q = slice_keeps_in xs ks b h q
    part_in (Unary o) xs ks t c b h f q = refl
    part_in (Binary o) xs ks t c b h f q = refl
    part_in And xs ks t c b h f q = refl
    part_in Or xs ks t c b h f q = refl
    part_in Concat xs ks t c b h f q = refl
    part_in Signed xs ks t c b h f q = refl
    part_in ToInt xs ks t c b h f q = refl
    part_in ToBool xs ks t c b h f q = refl

    mutual
      pub keeps_in : (x : Expression) (t : ValueKind) → is_chosen k x ≡ true → kind_of d vs x ≡ Some t → constants_keep d vs x ≡ true → constants_keep e vs (expression_in k x) ≡ true
      keeps_in (Integer z) t c h q = refl
      keeps_in (Truth b) t c h q = refl
      keeps_in (Item n i) t c h q = refl
      keeps_in (Fixed z b) t c h q = refl
      keeps_in (Signal n) t c h q = refl
      keeps_in (Local v) t c h q = refl
      keeps_in Now t c h q = refl
      keeps_in (Operation o xs) t c h q =
          let p = of_parts (has_base o xs) (operated d o) (kinds_of d vs xs) t h in
          let a = and_parts (node_chosen k (Operation o xs)) (are_chosen k xs) c in
          let b = and_parts (part_keeps d vs o xs) (list_all (keeps_rule d vs) (all_expressions xs)) q in
          and_from (part_keeps e vs (operator_in k o) (expressions_in k xs)) (list_all (keeps_rule e vs) (all_expressions (expressions_in k xs))) (part_in o xs p.list t a.0 a.1 p.kinds p.gives b.0) (all_keep_in xs p.list a.1 p.kinds b.1)

      pub all_keep_in : (xs : Expressions) (ks : List ValueKind) → are_chosen k xs ≡ true → kinds_of d vs xs ≡ Some ks → list_all (keeps_rule d vs) (all_expressions xs) ≡ true → list_all (keeps_rule e vs) (all_expressions (expressions_in k xs)) ≡ true
      all_keep_in NoMore ks c h q = refl
      all_keep_in (More x xs) ks c h q =
          let m = of_more (kind_of d vs x) (kinds_of d vs xs) ks h in
          let a = and_parts (is_chosen k x) (are_chosen k xs) (sym (list_all-append (node_chosen k) (expressions x) (all_expressions xs)) ∙ c) in
          let b = and_parts (list_all (keeps_rule d vs) (expressions x)) (list_all (keeps_rule d vs) (all_expressions xs)) (sym (list_all-append (keeps_rule d vs) (expressions x) (all_expressions xs)) ∙ q) in
          list_all-append (keeps_rule e vs) (expressions (expression_in k x)) (all_expressions (expressions_in k xs))
          ∙ and_from (list_all (keeps_rule e vs) (expressions (expression_in k x))) (list_all (keeps_rule e vs) (all_expressions (expressions_in k xs))) (keeps_in x m.first a.0 m.is_first b.0) (all_keep_in xs m.rest a.1 m.is_rest b.1)
