-- What is known of an expression of a design is known of it in a design that has more.
use Rattle.std.proofs.Common.{◌≡◌, ℕ, Bool, true, false, ◌&&◌, List, [], ◌∷◌, ◌++◌, length, Option, Some, None, refl, ap, ap₂, sym, ◌∙◌, append_assoc, append-nil, if◌then◌else◌}
use Rattle.std.specs.Prelude.{slice_get, nat_lt}
use Rattle.std.specs.List.{list_all}
use Rattle.std.specs.Option.{option_map, option_map_or, option_and_then}
use Rattle.std.proofs.lemmas.Bool.{and_parts, and_from}
use Rattle.std.proofs.lemmas.List.Folds.{list_all-append}
use Rattle.mh_design.specs.declared.design.Design.{Design}
use Rattle.mh_design.specs.declared.design.MemDecl.{MemDecl}
use Rattle.mh_design.specs.declared.design.TableDecl.{TableDecl}
use Rattle.mh_design.specs.declared.design.Local.{Local as Variable}
use Rattle.mh_design.specs.declared.kinds.ValueKind.{ValueKind}
use Rattle.mh_design.specs.declared.kinds.ValueKind.TheVariants as value
use Rattle.mh_design.specs.Constants.{keeps_rule, part_keeps, index_keeps, slice_keeps, base_width, kind_width, cell_count, table_length}
use Rattle.mh_design.specs.Kinds.{signal_kind, mem_kind, item_count, is_number, read_some, given, on_one, element_kind, table_kind, operated, has_base, kind_of, kinds_of}
use Rattle.mh_design.specs.Numbering.{expressions, all_expressions}
use Rattle.mh_design.specs.Tree.{Expression, Expressions, Operator, Integer, Truth, Item, Fixed, Signal, Local, Now, Operation, NoMore, More, ElementOf, TableElementOf, BitOf, SliceOf, Unary, Binary, And, Or, Concat, Signed, ToInt, ToBool}
use Rattle.mh_lower_laws.specs.Holds.{Extends}
use Rattle.mh_lower_laws.proofs.Basics.{get_append, there_if, if_there}

-- ---- one design after another

pub extends_self : (d : Design) → Extends d d
extends_self d = record { mems = []; tables = []; same = ap₂ (λ ms ts. record d { mems = ms; tables = ts }) (sym (append-nil d.mems)) (sym (append-nil d.tables)) }

pub extends_on : (d e f : Design) → Extends d e → Extends e f → Extends d f
extends_on d e f x y = record {
  mems = x.mems ++ y.mems;
  tables = x.tables ++ y.tables;
  same = y.same ∙ ap (λ (z : Design). record z { mems = z.mems ++ y.mems; tables = z.tables ++ y.tables }) x.same
      ∙ ap₂ (λ ms ts. record d { mems = ms; tables = ts }) (append_assoc d.mems x.mems y.mems) (append_assoc d.tables x.tables y.tables);
}

-- what the kinds look at
pub record Grown (d e : Design) : Type 0 where
  pub signals : e.signals ≡ d.signals
  pub enums : e.enums ≡ d.enums
  pub mems : (n : ℕ) (x : MemDecl) → slice_get d.mems n ≡ Some x → slice_get e.mems n ≡ Some x
  pub tables : (n : ℕ) (x : TableDecl) → slice_get d.tables n ≡ Some x → slice_get e.tables n ≡ Some x

pub grown : (d e : Design) → Extends d e → Grown d e
grown d e x = record {
  signals = ap (λ (z : Design). z.signals) x.same;
  enums = ap (λ (z : Design). z.enums) x.same;
  mems = λ n m q. ap (λ (z : Design). slice_get z.mems n) x.same ∙ get_append d.mems x.mems n m q;
  tables = λ n t q. ap (λ (z : Design). slice_get z.tables n) x.same ∙ get_append d.tables x.tables n t q;
}

-- ---- an operation by its parts

pub record OfParts (b : Bool) (f : List ValueKind → Option ValueKind) (ks : Option (List ValueKind)) (k : ValueKind) : Type 0 where
  pub list : List ValueKind
  pub base : b ≡ true
  pub kinds : ks ≡ Some list
  pub gives : f list ≡ Some k

pub of_parts : (b : Bool) (f : List ValueKind → Option ValueKind) (ks : Option (List ValueKind)) (k : ValueKind) → (if b then option_and_then f ks else None) ≡ Some k → OfParts b f ks k
of_parts true f (Some l) k h = record { list = l; base = refl; kinds = refl; gives = h }
of_parts true f None k h = absurd (cc)
of_parts false f ks k h = absurd (cc)

pub from_parts : (b : Bool) (f : List ValueKind → Option ValueKind) (ks : Option (List ValueKind)) (l : List ValueKind) (k : ValueKind) → b ≡ true → ks ≡ Some l → f l ≡ Some k → (if b then option_and_then f ks else None) ≡ Some k
from_parts b f ks l k p q r = ap (λ t. if t then option_and_then f ks else None) p ∙ ap (option_and_then f) q ∙ r

pub record OfMore (o : Option ValueKind) (os : Option (List ValueKind)) (ks : List ValueKind) : Type 0 where
  pub first : ValueKind
  pub rest : List ValueKind
  pub is_first : o ≡ Some first
  pub is_rest : os ≡ Some rest
  pub is_all : Some (first ∷ rest) ≡ Some ks

pub of_more : (o : Option ValueKind) (os : Option (List ValueKind)) (ks : List ValueKind) → option_and_then (λ k. option_map (λ l. k ∷ l) os) o ≡ Some ks → OfMore o os ks
of_more (Some k) (Some l) ks h = record { first = k; rest = l; is_first = refl; is_rest = refl; is_all = h }
of_more (Some k) None ks h = absurd (cc)
of_more None os ks h = absurd (cc)

pub from_more : (o : Option ValueKind) (os : Option (List ValueKind)) (k : ValueKind) (l : List ValueKind) → o ≡ Some k → os ≡ Some l → option_and_then (λ x. option_map (λ y. x ∷ y) os) o ≡ Some (k ∷ l)
from_more o os k l p q = ap (option_and_then (λ x. option_map (λ y. x ∷ y) os)) p ∙ ap (option_map (λ y. k ∷ y)) q

module _ (d e : Design) (g : Grown d e) where
  pub signal_same : (n : ℕ) → signal_kind e n ≡ signal_kind d n
  signal_same n = ap (λ ss. option_map (λ x. x.kind) (slice_get ss n)) g.signals

  pub items_same : (n : ℕ) → item_count e n ≡ item_count d n
  items_same n = ap (λ es. option_map_or (λ x. length x.names) (slice_get es n) 0) g.enums

  pub mem_same : (m : ℕ) (x : MemDecl) → slice_get d.mems m ≡ Some x → mem_kind e m ≡ mem_kind d m
  mem_same m x q = ap (option_map (λ (y : MemDecl). y.kind)) (g.mems m x q ∙ sym q)

  pub cells_same : (m : ℕ) (x : MemDecl) → slice_get d.mems m ≡ Some x → cell_count e m ≡ cell_count d m
  cells_same m x q = ap (λ o. option_map_or (λ (y : MemDecl). length y.cells) o 0) (g.mems m x q ∙ sym q)

  pub table_same : (t : ℕ) (x : TableDecl) → slice_get d.tables t ≡ Some x → table_length e t ≡ table_length d t
  table_same t x q = ap (λ o. option_map_or (λ (y : TableDecl). length y.values) o 0) (g.tables t x q ∙ sym q)

  -- ---- what is there

  mem_by : (m : ℕ) (b : Bool) (o : Option MemDecl) (k : ValueKind) → slice_get d.mems m ≡ o → (if b then read_some (option_map (λ x. x.kind) o) else None) ≡ Some k → (x : MemDecl) × (slice_get d.mems m ≡ Some x)
  mem_by m true (Some x) k q h = (x, q)
  mem_by m true None k q h = absurd (cc)
  mem_by m false o k q h = absurd (cc)

  -- the memory of an element
  pub mem_there : (m : ℕ) (ks : List ValueKind) (k : ValueKind) → on_one (element_kind d m) ks ≡ Some k → (x : MemDecl) × (slice_get d.mems m ≡ Some x)
  mem_there m (i ∷ []) k h = mem_by m (is_number i) (slice_get d.mems m) k refl h
  mem_there m [] k h = absurd (cc)
  mem_there m (i ∷ j ∷ ks) k h = absurd (cc)

  table_by : (t : ℕ) (b c : Bool) (v k : ValueKind) → nat_lt t (length d.tables) ≡ c → given (b && c) v ≡ Some k → (x : TableDecl) × (slice_get d.tables t ≡ Some x)
  table_by t true true v k q h = there_if d.tables t q
  table_by t true false v k q h = absurd (cc)
  table_by t false c v k q h = absurd (cc)

  pub table_there : (t : ℕ) (ks : List ValueKind) (k : ValueKind) → on_one (table_kind d t) ks ≡ Some k → (x : TableDecl) × (slice_get d.tables t ≡ Some x)
  table_there t (i ∷ []) k h = table_by t (is_number i) (nat_lt t (length d.tables)) value.Int k refl h
  table_there t [] k h = absurd (cc)
  table_there t (i ∷ j ∷ ks) k h = absurd (cc)

  -- ---- kinds

  element_later : (m : ℕ) (ks : List ValueKind) (k : ValueKind) → on_one (element_kind d m) ks ≡ Some k → on_one (element_kind e m) ks ≡ Some k
  element_later m (i ∷ []) k h =
      let t = mem_there m (i ∷ []) k h in
      ap (λ o. if is_number i then read_some o else None) (mem_same m t.0 t.1) ∙ h
  element_later m [] k h = h
  element_later m (i ∷ j ∷ ks) k h = h

  table_later : (t : ℕ) (ks : List ValueKind) (k : ValueKind) → on_one (table_kind d t) ks ≡ Some k → on_one (table_kind e t) ks ≡ Some k
  table_later t (i ∷ []) k h =
      let x = table_there t (i ∷ []) k h in
      ap (λ b. given (is_number i && b) value.Int) (if_there e.tables t x.0 (g.tables t x.0 x.1) ∙ sym (if_there d.tables t x.0 x.1)) ∙ h
  table_later t [] k h = h
  table_later t (i ∷ j ∷ ks) k h = h

  operated_later : (o : Operator) (ks : List ValueKind) (k : ValueKind) → operated d o ks ≡ Some k → operated e o ks ≡ Some k
  operated_later (ElementOf m) ks k h = element_later m ks k h
  operated_later (TableElementOf t) ks k h = table_later t ks k h
  operated_later BitOf ks k h = h
  operated_later SliceOf ks k h = h
  operated_later (Unary o) ks k h = h
  operated_later (Binary o) ks k h = h
  operated_later And ks k h = h
  operated_later Or ks k h = h
  operated_later Concat ks k h = h
  operated_later Signed ks k h = h
  operated_later ToInt ks k h = h
  operated_later ToBool ks k h = h

  module _ (vs : List Variable) where
    mutual
      pub kind_later : (x : Expression) (k : ValueKind) → kind_of d vs x ≡ Some k → kind_of e vs x ≡ Some k
      kind_later (Integer z) k h = h
      kind_later (Truth b) k h = h
      kind_later (Item n i) k h = ap (λ c. given (nat_lt i c) (value.Item n)) (items_same n) ∙ h
      kind_later (Fixed z b) k h = h
      kind_later (Signal n) k h = ap read_some (signal_same n) ∙ h
      kind_later (Local v) k h = h
      kind_later Now k h = h
      kind_later (Operation o xs) k h =
          let p = of_parts (has_base o xs) (operated d o) (kinds_of d vs xs) k h in
          from_parts (has_base o xs) (operated e o) (kinds_of e vs xs) p.list k p.base (kinds_later xs p.list p.kinds) (operated_later o p.list k p.gives)

      pub kinds_later : (xs : Expressions) (ks : List ValueKind) → kinds_of d vs xs ≡ Some ks → kinds_of e vs xs ≡ Some ks
      kinds_later NoMore ks h = h
      kinds_later (More x xs) ks h =
          let m = of_more (kind_of d vs x) (kinds_of d vs xs) ks h in
          from_more (kind_of e vs x) (kinds_of e vs xs) m.first m.rest (kind_later x m.first m.is_first) (kinds_later xs m.rest m.is_rest) ∙ m.is_all

    -- ---- widths

    element_width : (m : ℕ) (xs : Expressions) (k : ValueKind) → kind_of d vs (Operation (ElementOf m) xs) ≡ Some k → option_and_then kind_width (mem_kind e m) ≡ option_and_then kind_width (mem_kind d m)
    element_width m xs k h =
        let p = of_parts true (on_one (element_kind d m)) (kinds_of d vs xs) k h in
        let t = mem_there m p.list k p.gives in
        ap (option_and_then kind_width) (mem_same m t.0 t.1)

    pub width_same : (x : Expression) (k : ValueKind) → kind_of d vs x ≡ Some k → base_width e vs x ≡ base_width d vs x
    width_same (Integer z) k h = refl
    width_same (Truth b) k h = refl
    width_same (Item n i) k h = refl
    width_same (Fixed z b) k h = refl
    width_same (Signal n) k h = ap (option_and_then kind_width) (signal_same n)
    width_same (Local v) k h = refl
    width_same Now k h = refl
    width_same (Operation (ElementOf m) xs) k h = element_width m xs k h
    width_same (Operation (TableElementOf t) xs) k h = refl
    width_same (Operation BitOf xs) k h = refl
    width_same (Operation SliceOf xs) k h = refl
    width_same (Operation (Unary o) xs) k h = refl
    width_same (Operation (Binary o) xs) k h = refl
    width_same (Operation And xs) k h = refl
    width_same (Operation Or xs) k h = refl
    width_same (Operation Concat xs) k h = refl
    width_same (Operation Signed xs) k h = refl
    width_same (Operation ToInt xs) k h = refl
    width_same (Operation ToBool xs) k h = refl

    -- ---- constants

    element_keeps : (m : ℕ) (xs : Expressions) (ks : List ValueKind) (k : ValueKind) → on_one (element_kind d m) ks ≡ Some k → part_keeps d vs (ElementOf m) xs ≡ true → part_keeps e vs (ElementOf m) xs ≡ true
    element_keeps m (More i NoMore) ks k f q =
        let t = mem_there m ks k f in
        ap (index_keeps i) (cells_same m t.0 t.1) ∙ q
    element_keeps m NoMore ks k f q = refl
    element_keeps m (More i (More j xs)) ks k f q = refl

    table_keeps : (t : ℕ) (xs : Expressions) (ks : List ValueKind) (k : ValueKind) → on_one (table_kind d t) ks ≡ Some k → part_keeps d vs (TableElementOf t) xs ≡ true → part_keeps e vs (TableElementOf t) xs ≡ true
    table_keeps t (More i NoMore) ks k f q =
        let x = table_there t ks k f in
        ap (index_keeps i) (table_same t x.0 x.1) ∙ q
    table_keeps t NoMore ks k f q = refl
    table_keeps t (More i (More j xs)) ks k f q = refl

    bit_keeps : (xs : Expressions) (ks : List ValueKind) → kinds_of d vs xs ≡ Some ks → part_keeps d vs BitOf xs ≡ true → part_keeps e vs BitOf xs ≡ true
    bit_keeps (More a (More i NoMore)) ks h q =
        let m = of_more (kind_of d vs a) (kinds_of d vs (More i NoMore)) ks h in
        ap (λ o. option_map_or (index_keeps i) o true) (width_same a m.first m.is_first) ∙ q
    bit_keeps NoMore ks h q = refl
    bit_keeps (More a NoMore) ks h q = refl
    bit_keeps (More a (More i (More j xs))) ks h q = refl

    slice_keeps_on : (xs : Expressions) (ks : List ValueKind) → kinds_of d vs xs ≡ Some ks → part_keeps d vs SliceOf xs ≡ true → part_keeps e vs SliceOf xs ≡ true
    slice_keeps_on (More a (More i (More j NoMore))) ks h q =
        let m = of_more (kind_of d vs a) (kinds_of d vs (More i (More j NoMore))) ks h in
        ap (λ o. option_map_or (slice_keeps i j) o true) (width_same a m.first m.is_first) ∙ q
    slice_keeps_on NoMore ks h q = refl
    slice_keeps_on (More a NoMore) ks h q = refl
    slice_keeps_on (More a (More i NoMore)) ks h q = refl
    slice_keeps_on (More a (More i (More j (More l xs)))) ks h q = refl

    part_later : (o : Operator) (xs : Expressions) (ks : List ValueKind) (k : ValueKind) → kinds_of d vs xs ≡ Some ks → operated d o ks ≡ Some k → part_keeps d vs o xs ≡ true → part_keeps e vs o xs ≡ true
    part_later (ElementOf m) xs ks k h f q = element_keeps m xs ks k f q
    part_later (TableElementOf t) xs ks k h f q = table_keeps t xs ks k f q
    part_later BitOf xs ks k h f q = bit_keeps xs ks h q
    part_later SliceOf xs ks k h f q = slice_keeps_on xs ks h q
    part_later (Unary o) xs ks k h f q = refl
    part_later (Binary o) xs ks k h f q = refl
    part_later And xs ks k h f q = refl
    part_later Or xs ks k h f q = refl
    part_later Concat xs ks k h f q = refl
    part_later Signed xs ks k h f q = refl
    part_later ToInt xs ks k h f q = refl
    part_later ToBool xs ks k h f q = refl

    mutual
      pub keeps_later : (x : Expression) (k : ValueKind) → kind_of d vs x ≡ Some k → list_all (keeps_rule d vs) (expressions x) ≡ true → list_all (keeps_rule e vs) (expressions x) ≡ true
      keeps_later (Integer z) k h q = refl
      keeps_later (Truth b) k h q = refl
      keeps_later (Item n i) k h q = refl
      keeps_later (Fixed z b) k h q = refl
      keeps_later (Signal n) k h q = refl
      keeps_later (Local v) k h q = refl
      keeps_later Now k h q = refl
      keeps_later (Operation o xs) k h q =
          let p = of_parts (has_base o xs) (operated d o) (kinds_of d vs xs) k h in
          let a = and_parts (part_keeps d vs o xs) (list_all (keeps_rule d vs) (all_expressions xs)) q in
          and_from (part_keeps e vs o xs) (list_all (keeps_rule e vs) (all_expressions xs)) (part_later o xs p.list k p.kinds p.gives a.0) (all_keep_later xs p.list p.kinds a.1)

      pub all_keep_later : (xs : Expressions) (ks : List ValueKind) → kinds_of d vs xs ≡ Some ks → list_all (keeps_rule d vs) (all_expressions xs) ≡ true → list_all (keeps_rule e vs) (all_expressions xs) ≡ true
      all_keep_later NoMore ks h q = refl
      all_keep_later (More x xs) ks h q =
          let m = of_more (kind_of d vs x) (kinds_of d vs xs) ks h in
          let a = and_parts (list_all (keeps_rule d vs) (expressions x)) (list_all (keeps_rule d vs) (all_expressions xs)) (sym (list_all-append (keeps_rule d vs) (expressions x) (all_expressions xs)) ∙ q) in
          list_all-append (keeps_rule e vs) (expressions x) (all_expressions xs)
          ∙ and_from (list_all (keeps_rule e vs) (expressions x)) (list_all (keeps_rule e vs) (all_expressions xs)) (keeps_later x m.first m.is_first a.0) (all_keep_later xs m.rest m.is_rest a.1)
