-- A statement fits under the numbers of a design that draws from another.
use Rattle.std.proofs.Common.{◌≡◌, ℕ, Bool, true, false, ◌&&◌, ◌||◌, List, [], ◌∷◌, ◌++◌, map, length, Option, Some, None, refl, ap, sym, ◌∙◌, slice_get}
use Rattle.std.specs.Prelude.{nat_lt}
use Rattle.std.specs.List.{list_all, flat_map}
use Rattle.std.specs.Option.{option_map, option_map_or, option_and_then}
use Rattle.std.proofs.lemmas.Bool.{and_parts, and_from}
use Rattle.std.proofs.lemmas.List.Folds.{list_all-append}
use Rattle.mh_design.specs.declared.design.Design.{Design}
use Rattle.mh_design.specs.declared.design.Kind.{Kind}
use Rattle.mh_design.specs.declared.design.Local.{Local as Variable}
use Rattle.mh_design.specs.declared.design.SignalDecl.{SignalDecl}
use Rattle.mh_design.specs.declared.design.Wait.{Wait}
use Rattle.mh_design.specs.declared.design.Wait.TheVariants as wait
use Rattle.mh_design.specs.declared.kinds.ValueKind.{ValueKind}
use Rattle.mh_design.specs.Constants.{constants_keep, cell_count, index_keeps, slice_keeps, base_keeps, left_keeps, left_width, kind_width}
use Rattle.mh_design.specs.Kinds.{signal_kind, is_number, kind_of}
use Rattle.mh_design.specs.Numbering.{expressions, arm_tests, left_indices, base_indices, printed_numbers, own_expressions, statement_expressions, block_expressions, arm_expressions, arms_expressions, statements, block_statements, arm_statements, arms_statements}
use Rattle.mh_design.specs.Statements.{is_numeric, is_integer, is_integer_kind, takes, is_bits_kind, is_bool_kind, base_kind, base_fits, is_no_local, has_bits, left_takes, wait_fits, printed_fits, kinds_fit, constants_fit, yield_fits, statement_fits}
use Rattle.mh_design.specs.Tree.{Expression, LeftBase, LeftSignal, LeftElement, LeftLocal, LeftSide, Whole, LeftBit, LeftSlice, Bind, Printed, Words, Number, Statement, Set, If, While, For, Break, Continue, Yield, Print, Assert, Stop, Block, End, Then, Arm, ArmOf, Arms, NoArm, MoreArms}
use Rattle.mh_lower_laws.proofs.Basics.{there_if, if_there, all_then, all_both}
use Rattle.mh_lower_laws.proofs.StatementGrowth.{found_later, found}
use Rattle.mh_plans.specs.Order.{is_in}
use Rattle.mh_plans.specs.Renumbered.{Chosen, number_in, expression_in, base_in, left_in, printed_in, wait_in, statement_in, block_in, arm_in, arms_in}
use Rattle.mh_world_laws.proofs.Lists.{both_then}
use Rattle.mh_plans_laws.proofs.Renumbering.{Redrawn, node_chosen, is_chosen, index_same, index_if, slice_if, kind_in, keeps_in, numeric_in, integer_in}

-- ---- what is chosen of what a statement names itself

abbrev pub base_chosen : Chosen → LeftBase → Bool
base_chosen k (LeftSignal n) = is_in k.signals n
base_chosen k (LeftElement m i) = is_in k.mems m
base_chosen k (LeftLocal v) = true

abbrev pub left_chosen : Chosen → LeftSide → Bool
left_chosen k (Whole b) = base_chosen k b
left_chosen k (LeftBit b i) = base_chosen k b
left_chosen k (LeftSlice b i j) = base_chosen k b
left_chosen k (Bind v n) = true

abbrev pub wait_chosen : Chosen → Wait → Bool
wait_chosen k (wait.Change n) = is_in k.signals n
wait_chosen k (wait.Edge n up) = is_in k.signals n
wait_chosen k (wait.Delay n) = true

abbrev pub own_chosen : Chosen → Statement → Bool
own_chosen k (Set l t x) = left_chosen k t
own_chosen k (Yield l ws) = list_all (wait_chosen k) ws
own_chosen k s = true

-- all of these expressions, with their parts
abbrev pub all_chosen : Chosen → List Expression → Bool
all_chosen k xs = list_all (is_chosen k) xs

pub flat_chosen : (k : Chosen) (xs : List Expression) → list_all (node_chosen k) (flat_map expressions xs) ≡ true → all_chosen k xs ≡ true
flat_chosen k [] h = refl
flat_chosen k (x ∷ xs) h =
    let a = and_parts (is_chosen k x) (list_all (node_chosen k) (flat_map expressions xs)) (sym (list_all-append (node_chosen k) (expressions x) (flat_map expressions xs)) ∙ h) in
    and_from (is_chosen k x) (all_chosen k xs) a.0 (flat_chosen k xs a.1)

or_then : (a b c : Bool) → (b ≡ true → c ≡ true) → (a || b) ≡ true → (a || c) ≡ true
or_then true b c f h = refl
or_then false b c f h = f h

-- ---- shapes

no_local_same : (k : Chosen) (b : LeftBase) → is_no_local (base_in k b) ≡ is_no_local b
no_local_same k (LeftSignal n) = refl
no_local_same k (LeftElement m i) = refl
no_local_same k (LeftLocal v) = refl

module _ (d e : Design) (k : Chosen) (r : Redrawn d e k) (ls : List Variable) where
  -- ---- left sides

  base_kind_in : (b : LeftBase) (x : Kind) → base_chosen k b ≡ true → base_kind d ls b ≡ Some x → base_kind e ls (base_in k b) ≡ Some x
  base_kind_in (LeftSignal n) x c h = r.signals n x c h
  base_kind_in (LeftElement m i) x c h = r.mems m x c h
  base_kind_in (LeftLocal v) x c h = h

  base_fits_in : (b : LeftBase) → all_chosen k (base_indices b) ≡ true → base_fits d ls b ≡ true → base_fits e ls (base_in k b) ≡ true
  base_fits_in (LeftSignal n) c h = h
  base_fits_in (LeftElement m i) c h = numeric_in d e k r ls i (and_parts (is_chosen k i) true c).0 h
  base_fits_in (LeftLocal v) c h = h

  has_bits_in : (b : LeftBase) → base_chosen k b ≡ true → has_bits d ls b ≡ true → has_bits e ls (base_in k b) ≡ true
  has_bits_in b c h = found_later is_bits_kind (base_kind d ls b) (base_kind e ls (base_in k b)) (λ x q. base_kind_in b x c q) h

  left_takes_in : (t : LeftSide) (u : ValueKind) → left_chosen k t ≡ true → all_chosen k (left_indices t) ≡ true → left_takes d ls t u ≡ true → left_takes e ls (left_in k t) u ≡ true
  left_takes_in (Whole b) u c i h =
      both_then (base_fits d ls b && (is_no_local b || has_bits d ls b)) (option_map_or (λ x. takes x u) (base_kind d ls b) false) (base_fits e ls (base_in k b) && (is_no_local (base_in k b) || has_bits e ls (base_in k b))) (option_map_or (λ x. takes x u) (base_kind e ls (base_in k b)) false)
      (λ p. both_then (base_fits d ls b) (is_no_local b || has_bits d ls b) (base_fits e ls (base_in k b)) (is_no_local (base_in k b) || has_bits e ls (base_in k b)) (base_fits_in b i)
      (λ q. ap (λ n. n || has_bits e ls (base_in k b)) (no_local_same k b) ∙ or_then (is_no_local b) (has_bits d ls b) (has_bits e ls (base_in k b)) (has_bits_in b c) q) p)
      (λ p. found_later (λ x. takes x u) (base_kind d ls b) (base_kind e ls (base_in k b)) (λ x q. base_kind_in b x c q) p) h
  left_takes_in (LeftBit b i) u c j h =
      let a = and_parts (all_chosen k (base_indices b)) (is_chosen k i && true) (sym (list_all-append (is_chosen k) (base_indices b) (i ∷ [])) ∙ j) in
      both_then (base_fits d ls b && has_bits d ls b) (is_numeric d ls i && is_number u) (base_fits e ls (base_in k b) && has_bits e ls (base_in k b)) (is_numeric e ls (expression_in k i) && is_number u)
      (λ p. both_then (base_fits d ls b) (has_bits d ls b) (base_fits e ls (base_in k b)) (has_bits e ls (base_in k b)) (base_fits_in b a.0) (has_bits_in b c) p)
      (λ p. both_then (is_numeric d ls i) (is_number u) (is_numeric e ls (expression_in k i)) (is_number u) (numeric_in d e k r ls i (and_parts (is_chosen k i) true a.1).0) (λ q. q) p) h
  left_takes_in (LeftSlice b i j) u c n h =
      let a = and_parts (all_chosen k (base_indices b)) (is_chosen k i && (is_chosen k j && true)) (sym (list_all-append (is_chosen k) (base_indices b) (i ∷ j ∷ [])) ∙ n) in
      let g = and_parts (is_chosen k i) (is_chosen k j && true) a.1 in
      both_then (base_fits d ls b && has_bits d ls b) ((is_numeric d ls i && is_numeric d ls j) && is_number u) (base_fits e ls (base_in k b) && has_bits e ls (base_in k b)) ((is_numeric e ls (expression_in k i) && is_numeric e ls (expression_in k j)) && is_number u)
      (λ p. both_then (base_fits d ls b) (has_bits d ls b) (base_fits e ls (base_in k b)) (has_bits e ls (base_in k b)) (base_fits_in b a.0) (has_bits_in b c) p)
      (λ p. both_then (is_numeric d ls i && is_numeric d ls j) (is_number u) (is_numeric e ls (expression_in k i) && is_numeric e ls (expression_in k j)) (is_number u)
      (λ q. both_then (is_numeric d ls i) (is_numeric d ls j) (is_numeric e ls (expression_in k i)) (is_numeric e ls (expression_in k j)) (numeric_in d e k r ls i g.0) (numeric_in d e k r ls j (and_parts (is_chosen k j) true g.1).0) q) (λ q. q) p) h
  left_takes_in (Bind v n) u c i h = h

  -- ---- waits, and what is printed

  change_in : (n : ℕ) → is_in k.signals n ≡ true → nat_lt n (length d.signals) ≡ true → nat_lt (number_in k.signals n) (length e.signals) ≡ true
  change_in n c h =
      let x = there_if d.signals n h in
      kind_is_there (number_in k.signals n) (slice_get e.signals (number_in k.signals n)) (x.0).kind refl (r.signals n (x.0).kind c (ap (option_map (λ (y : SignalDecl). y.kind)) x.1))
    where
      kind_is_there : (m : ℕ) (o : Option SignalDecl) (x : Kind) → slice_get e.signals m ≡ o → option_map (λ (y : SignalDecl). y.kind) o ≡ Some x → nat_lt m (length e.signals) ≡ true
      kind_is_there m (Some y) x q f = if_there e.signals m y q
      kind_is_there m None x q f = absurd (cc)

  pub wait_fits_in : (w : Wait) → wait_chosen k w ≡ true → wait_fits d w ≡ true → wait_fits e (wait_in k w) ≡ true
  wait_fits_in (wait.Change n) c h = change_in n c h
  wait_fits_in (wait.Edge n up) c h = found_later is_bool_kind (signal_kind d n) (signal_kind e (number_in k.signals n)) (λ x q. r.signals n x c q) h
  wait_fits_in (wait.Delay n) c h = h

  pub waits_fit_in : (ws : List Wait) → list_all (wait_chosen k) ws ≡ true → list_all (wait_fits d) ws ≡ true → list_all (wait_fits e) (map (wait_in k) ws) ≡ true
  waits_fit_in [] c h = refl
  waits_fit_in (w ∷ ws) c h =
      let a = and_parts (wait_chosen k w) (list_all (wait_chosen k) ws) c in
      let b = and_parts (wait_fits d w) (list_all (wait_fits d) ws) h in
      and_from (wait_fits e (wait_in k w)) (list_all (wait_fits e) (map (wait_in k) ws)) (wait_fits_in w a.0 b.0) (waits_fit_in ws a.1 b.1)

  printed_fits_in : (ps : List Printed) → all_chosen k (flat_map printed_numbers ps) ≡ true → list_all (printed_fits d ls) ps ≡ true → list_all (printed_fits e ls) (map (printed_in k) ps) ≡ true
  printed_fits_in [] c h = refl
  printed_fits_in (Words t ∷ ps) c h = printed_fits_in ps c h
  printed_fits_in (Number x ∷ ps) c h =
      let a = and_parts (is_chosen k x) (all_chosen k (flat_map printed_numbers ps)) c in
      let b = and_parts (is_integer d ls x) (list_all (printed_fits d ls) ps) h in
      and_from (is_integer e ls (expression_in k x)) (list_all (printed_fits e ls) (map (printed_in k) ps)) (integer_in d e k r ls x a.0 b.0) (printed_fits_in ps a.1 b.1)

  tests_fit_in : (rs : Arms) → all_chosen k (arm_tests rs) ≡ true → list_all (is_numeric d ls) (arm_tests rs) ≡ true → list_all (is_numeric e ls) (arm_tests (arms_in k rs)) ≡ true
  tests_fit_in NoArm c h = refl
  tests_fit_in (MoreArms (ArmOf x b) rs) c h =
      let a = and_parts (is_chosen k x) (all_chosen k (arm_tests rs)) c in
      let p = and_parts (is_numeric d ls x) (list_all (is_numeric d ls) (arm_tests rs)) h in
      and_from (is_numeric e ls (expression_in k x)) (list_all (is_numeric e ls) (arm_tests (arms_in k rs))) (numeric_in d e k r ls x a.0 p.0) (tests_fit_in rs a.1 p.1)

  -- ---- kinds

  set_fits_in : (t : LeftSide) (x : Expression) → left_chosen k t ≡ true → all_chosen k (left_indices t ++ x ∷ []) ≡ true → option_map_or (left_takes d ls t) (kind_of d ls x) false ≡ true →
      option_map_or (left_takes e ls (left_in k t)) (kind_of e ls (expression_in k x)) false ≡ true
  set_fits_in t x c i h =
      let a = and_parts (all_chosen k (left_indices t)) (is_chosen k x && true) (sym (list_all-append (is_chosen k) (left_indices t) (x ∷ [])) ∙ i) in
      let f = found (left_takes d ls t) (kind_of d ls x) h in
      ap (λ o. option_map_or (left_takes e ls (left_in k t)) o false) (kind_in d e k r ls x f.0 (and_parts (is_chosen k x) true a.1).0 f.1) ∙ left_takes_in t f.0 c a.0 f.2

  kinds_fit_in : (s : Statement) → own_chosen k s ≡ true → all_chosen k (own_expressions s) ≡ true → kinds_fit d ls s ≡ true → kinds_fit e ls (statement_in k s) ≡ true
  kinds_fit_in (Set l t x) c i h = set_fits_in t x c i h
  kinds_fit_in (If l rs other) c i h = tests_fit_in rs i h
  kinds_fit_in (While l x b) c i h = numeric_in d e k r ls x (and_parts (is_chosen k x) true i).0 h
  kinds_fit_in (For l v down a z step b) c i h =
      let g = and_parts (is_chosen k a) (is_chosen k z && true) i in
      both_then _ (is_numeric d ls a && is_numeric d ls z) _ (is_numeric e ls (expression_in k a) && is_numeric e ls (expression_in k z)) (λ q. q)
      (λ q. both_then (is_numeric d ls a) (is_numeric d ls z) (is_numeric e ls (expression_in k a)) (is_numeric e ls (expression_in k z)) (numeric_in d e k r ls a g.0) (numeric_in d e k r ls z (and_parts (is_chosen k z) true g.1).0) q) h
  kinds_fit_in (Break l) c i h = h
  kinds_fit_in (Continue l) c i h = h
  kinds_fit_in (Yield l ws) c i h = waits_fit_in ws c h
  kinds_fit_in (Print l ps) c i h = printed_fits_in ps i h
  kinds_fit_in (Assert l x) c i h = numeric_in d e k r ls x (and_parts (is_chosen k x) true i).0 h
  kinds_fit_in (Stop l) c i h = h

  -- ---- constants

  keeps_numeric : (x : Expression) → is_chosen k x ≡ true → is_numeric d ls x ≡ true → constants_keep d ls x ≡ true → constants_keep e ls (expression_in k x) ≡ true
  keeps_numeric x c h q = let f = found is_number (kind_of d ls x) h in keeps_in d e k r ls x f.0 c f.1 q

  keeps_two : (x y : Expression) → all_chosen k (x ∷ y ∷ []) ≡ true → is_numeric d ls x ≡ true → is_numeric d ls y ≡ true → list_all (constants_keep d ls) (x ∷ y ∷ []) ≡ true → list_all (constants_keep e ls) (expression_in k x ∷ expression_in k y ∷ []) ≡ true
  keeps_two x y c f g q =
      let a = and_parts (is_chosen k x) (is_chosen k y && true) c in
      let b = and_parts (constants_keep d ls x) (constants_keep d ls y && true) q in
      and_from (constants_keep e ls (expression_in k x)) (constants_keep e ls (expression_in k y) && true) (keeps_numeric x a.0 f b.0)
      (and_from (constants_keep e ls (expression_in k y)) true (keeps_numeric y (and_parts (is_chosen k y) true a.1).0 g (and_parts (constants_keep d ls y) true b.1).0) refl)

  keeps_one : (x : Expression) → all_chosen k (x ∷ []) ≡ true → is_numeric d ls x ≡ true → list_all (constants_keep d ls) (x ∷ []) ≡ true → list_all (constants_keep e ls) (expression_in k x ∷ []) ≡ true
  keeps_one x c f q = and_from (constants_keep e ls (expression_in k x)) true (keeps_numeric x (and_parts (is_chosen k x) true c).0 f (and_parts (constants_keep d ls x) true q).0) refl

  tests_keep : (rs : Arms) → all_chosen k (arm_tests rs) ≡ true → list_all (is_numeric d ls) (arm_tests rs) ≡ true → list_all (constants_keep d ls) (arm_tests rs) ≡ true → list_all (constants_keep e ls) (arm_tests (arms_in k rs)) ≡ true
  tests_keep NoArm c h q = refl
  tests_keep (MoreArms (ArmOf x b) rs) c h q =
      let a = and_parts (is_chosen k x) (all_chosen k (arm_tests rs)) c in
      let p = and_parts (is_numeric d ls x) (list_all (is_numeric d ls) (arm_tests rs)) h in
      let m = and_parts (constants_keep d ls x) (list_all (constants_keep d ls) (arm_tests rs)) q in
      and_from (constants_keep e ls (expression_in k x)) (list_all (constants_keep e ls) (arm_tests (arms_in k rs))) (keeps_numeric x a.0 p.0 m.0) (tests_keep rs a.1 p.1 m.1)

  printed_keep : (ps : List Printed) → all_chosen k (flat_map printed_numbers ps) ≡ true → list_all (printed_fits d ls) ps ≡ true → list_all (constants_keep d ls) (flat_map printed_numbers ps) ≡ true → list_all (constants_keep e ls) (flat_map printed_numbers (map (printed_in k) ps)) ≡ true
  printed_keep [] c h q = refl
  printed_keep (Words t ∷ ps) c h q = printed_keep ps c h q
  printed_keep (Number x ∷ ps) c h q =
      let a = and_parts (is_chosen k x) (all_chosen k (flat_map printed_numbers ps)) c in
      let b = and_parts (is_integer d ls x) (list_all (printed_fits d ls) ps) h in
      let f = found is_integer_kind (kind_of d ls x) b.0 in
      let m = and_parts (constants_keep d ls x) (list_all (constants_keep d ls) (flat_map printed_numbers ps)) q in
      and_from (constants_keep e ls (expression_in k x)) (list_all (constants_keep e ls) (flat_map printed_numbers (map (printed_in k) ps))) (keeps_in d e k r ls x f.0 a.0 f.1 m.0) (printed_keep ps a.1 b.1 m.1)

  base_keeps_in : (b : LeftBase) (x : Kind) → base_chosen k b ≡ true → base_kind d ls b ≡ Some x → base_keeps d b ≡ true → base_keeps e (base_in k b) ≡ true
  base_keeps_in (LeftSignal n) x c f h = h
  base_keeps_in (LeftElement m i) x c f h = index_same k i (cell_count e (number_in k.mems m)) (cell_count d m) (r.cells m x c f) h
  base_keeps_in (LeftLocal v) x c f h = h

  width_in_left : (b : LeftBase) (x : Kind) → base_chosen k b ≡ true → base_kind d ls b ≡ Some x → left_width e ls (base_in k b) ≡ left_width d ls b
  width_in_left (LeftSignal n) x c f = ap (option_and_then kind_width) (r.signals n x c f ∙ sym f)
  width_in_left (LeftElement m i) x c f = ap (option_and_then kind_width) (r.mems m x c f ∙ sym f)
  width_in_left (LeftLocal v) x c f = refl

  left_keeps_in : (t : LeftSide) (u : ValueKind) → left_chosen k t ≡ true → left_takes d ls t u ≡ true → left_keeps d ls t ≡ true → left_keeps e ls (left_in k t) ≡ true
  left_keeps_in (Whole b) u c f h = let o = found (λ x. takes x u) (base_kind d ls b) (and_parts _ _ f).1 in base_keeps_in b o.0 c o.1 h
  left_keeps_in (LeftBit b i) u c f h =
      let p = and_parts (base_fits d ls b) (has_bits d ls b) (and_parts _ _ f).0 in
      let o = found is_bits_kind (base_kind d ls b) p.1 in
      both_then (base_keeps d b) (option_map_or (index_keeps i) (left_width d ls b) true) (base_keeps e (base_in k b)) (option_map_or (index_keeps (expression_in k i)) (left_width e ls (base_in k b)) true) (base_keeps_in b o.0 c o.1)
      (index_if k i (left_width e ls (base_in k b)) (left_width d ls b) (width_in_left b o.0 c o.1)) h
  left_keeps_in (LeftSlice b i j) u c f h =
      let p = and_parts (base_fits d ls b) (has_bits d ls b) (and_parts _ _ f).0 in
      let o = found is_bits_kind (base_kind d ls b) p.1 in
      both_then (base_keeps d b) (option_map_or (slice_keeps i j) (left_width d ls b) true) (base_keeps e (base_in k b)) (option_map_or (slice_keeps (expression_in k i) (expression_in k j)) (left_width e ls (base_in k b)) true) (base_keeps_in b o.0 c o.1)
      (slice_if k i j (left_width e ls (base_in k b)) (left_width d ls b) (width_in_left b o.0 c o.1)) h
  left_keeps_in (Bind v n) u c f h = refl

  -- the indices on the left
  base_indices_keep : (b : LeftBase) → all_chosen k (base_indices b) ≡ true → base_fits d ls b ≡ true → list_all (constants_keep d ls) (base_indices b) ≡ true → list_all (constants_keep e ls) (base_indices (base_in k b)) ≡ true
  base_indices_keep (LeftSignal n) c h q = refl
  base_indices_keep (LeftElement m i) c h q = keeps_one i c h q
  base_indices_keep (LeftLocal v) c h q = refl

  indices_keep : (t : LeftSide) (u : ValueKind) → all_chosen k (left_indices t) ≡ true → left_takes d ls t u ≡ true → list_all (constants_keep d ls) (left_indices t) ≡ true → list_all (constants_keep e ls) (left_indices (left_in k t)) ≡ true
  indices_keep (Whole b) u c h q = base_indices_keep b c (and_parts (base_fits d ls b) _ (and_parts _ _ h).0).0 q
  indices_keep (LeftBit b i) u c h q =
      let p = and_parts (base_fits d ls b && has_bits d ls b) (is_numeric d ls i && is_number u) h in
      let a = and_parts (all_chosen k (base_indices b)) (is_chosen k i && true) (sym (list_all-append (is_chosen k) (base_indices b) (i ∷ [])) ∙ c) in
      let m = and_parts (list_all (constants_keep d ls) (base_indices b)) (constants_keep d ls i && true) (sym (list_all-append (constants_keep d ls) (base_indices b) (i ∷ [])) ∙ q) in
      all_both (constants_keep e ls) (base_indices (base_in k b)) (expression_in k i ∷ []) (base_indices_keep b a.0 (and_parts (base_fits d ls b) (has_bits d ls b) p.0).0 m.0) (keeps_one i a.1 (and_parts (is_numeric d ls i) (is_number u) p.1).0 m.1)
  indices_keep (LeftSlice b i j) u c h q =
      let p = and_parts (base_fits d ls b && has_bits d ls b) ((is_numeric d ls i && is_numeric d ls j) && is_number u) h in
      let g = and_parts (is_numeric d ls i) (is_numeric d ls j) (and_parts (is_numeric d ls i && is_numeric d ls j) (is_number u) p.1).0 in
      let a = and_parts (all_chosen k (base_indices b)) (is_chosen k i && (is_chosen k j && true)) (sym (list_all-append (is_chosen k) (base_indices b) (i ∷ j ∷ [])) ∙ c) in
      let m = and_parts (list_all (constants_keep d ls) (base_indices b)) (constants_keep d ls i && (constants_keep d ls j && true)) (sym (list_all-append (constants_keep d ls) (base_indices b) (i ∷ j ∷ [])) ∙ q) in
      all_both (constants_keep e ls) (base_indices (base_in k b)) (expression_in k i ∷ expression_in k j ∷ []) (base_indices_keep b a.0 (and_parts (base_fits d ls b) (has_bits d ls b) p.0).0 m.0) (keeps_two i j a.1 g.0 g.1 m.1)
  indices_keep (Bind v n) u c h q = refl

  set_keeps_in : (t : LeftSide) (x : Expression) → all_chosen k (left_indices t ++ x ∷ []) ≡ true → option_map_or (left_takes d ls t) (kind_of d ls x) false ≡ true → list_all (constants_keep d ls) (left_indices t ++ x ∷ []) ≡ true →
      list_all (constants_keep e ls) (left_indices (left_in k t) ++ expression_in k x ∷ []) ≡ true
  set_keeps_in t x c h q =
      let o = found (left_takes d ls t) (kind_of d ls x) h in
      let a = and_parts (all_chosen k (left_indices t)) (is_chosen k x && true) (sym (list_all-append (is_chosen k) (left_indices t) (x ∷ [])) ∙ c) in
      let m = and_parts (list_all (constants_keep d ls) (left_indices t)) (constants_keep d ls x && true) (sym (list_all-append (constants_keep d ls) (left_indices t) (x ∷ [])) ∙ q) in
      all_both (constants_keep e ls) (left_indices (left_in k t)) (expression_in k x ∷ []) (indices_keep t o.0 a.0 o.2 m.0)
      (and_from (constants_keep e ls (expression_in k x)) true (keeps_in d e k r ls x o.0 (and_parts (is_chosen k x) true a.1).0 o.1 (and_parts (constants_keep d ls x) true m.1).0) refl)

  constants_fit_in : (s : Statement) → own_chosen k s ≡ true → all_chosen k (own_expressions s) ≡ true → kinds_fit d ls s ≡ true → constants_fit d ls s ≡ true → constants_fit e ls (statement_in k s) ≡ true
  constants_fit_in (Set l t x) c i f h =
      let o = found (left_takes d ls t) (kind_of d ls x) f in
      both_then (left_keeps d ls t) (list_all (constants_keep d ls) (left_indices t ++ x ∷ [])) (left_keeps e ls (left_in k t)) (list_all (constants_keep e ls) (left_indices (left_in k t) ++ expression_in k x ∷ [])) (left_keeps_in t o.0 c o.2) (set_keeps_in t x i f) h
  constants_fit_in (If l rs other) c i f h = tests_keep rs i f h
  constants_fit_in (While l x b) c i f h = keeps_one x i f h
  constants_fit_in (For l v down a z step b) c i f h = let p = and_parts (is_numeric d ls a) (is_numeric d ls z) (and_parts _ _ f).1 in keeps_two a z i p.0 p.1 h
  constants_fit_in (Break l) c i f h = refl
  constants_fit_in (Continue l) c i f h = refl
  constants_fit_in (Yield l ws) c i f h = refl
  constants_fit_in (Print l ps) c i f h = printed_keep ps i f h
  constants_fit_in (Assert l x) c i f h = keeps_one x i f h
  constants_fit_in (Stop l) c i f h = refl

  -- ---- a statement by itself

  module _ (instance : Bool) where
    yield_same : (s : Statement) → yield_fits instance (statement_in k s) ≡ yield_fits instance s
    yield_same (Set l t x) = refl
    yield_same (If l rs other) = refl
    yield_same (While l x b) = refl
    yield_same (For l v down a z step b) = refl
    yield_same (Break l) = refl
    yield_same (Continue l) = refl
    yield_same (Yield l ws) = refl
    yield_same (Print l ps) = refl
    yield_same (Assert l x) = refl
    yield_same (Stop l) = refl

    fits_in : (s : Statement) → own_chosen k s ≡ true → all_chosen k (own_expressions s) ≡ true → statement_fits d ls instance s ≡ true → statement_fits e ls instance (statement_in k s) ≡ true
    fits_in s c i h =
        let p = and_parts (kinds_fit d ls s && constants_fit d ls s) (yield_fits instance s) h in
        let q = and_parts (kinds_fit d ls s) (constants_fit d ls s) p.0 in
        and_from (kinds_fit e ls (statement_in k s) && constants_fit e ls (statement_in k s)) (yield_fits instance (statement_in k s))
        (and_from (kinds_fit e ls (statement_in k s)) (constants_fit e ls (statement_in k s)) (kinds_fit_in s c i q.0) (constants_fit_in s c i q.0 q.1)) (yield_same s ∙ p.1)

    -- ---- statements with all that they hold

    abbrev AllFit : List Statement → Type 0
    AllFit ss = list_all (statement_fits d ls instance) ss ≡ true

    abbrev AllFitIn : List Statement → Type 0
    AllFitIn ss = list_all (statement_fits e ls instance) ss ≡ true

    abbrev Own : List Statement → Type 0
    Own ss = list_all (own_chosen k) ss ≡ true

    abbrev Nodes : List Expression → Type 0
    Nodes xs = list_all (node_chosen k) xs ≡ true

    simple_in : (s : Statement) → Own (s ∷ []) → Nodes (flat_map expressions (own_expressions s)) → AllFit (s ∷ []) → AllFitIn (statement_in k s ∷ [])
    simple_in s c i h = and_from (statement_fits e ls instance (statement_in k s)) true (fits_in s (and_parts (own_chosen k s) true c).0 (flat_chosen k (own_expressions s) i) (and_parts (statement_fits d ls instance s) true h).0) refl

    tests_chosen : (rs : Arms) → Nodes (arms_expressions rs) → all_chosen k (arm_tests rs) ≡ true
    tests_chosen NoArm i = refl
    tests_chosen (MoreArms (ArmOf x b) rs) i =
        let p = and_parts (list_all (node_chosen k) (expressions x ++ block_expressions b)) (list_all (node_chosen k) (arms_expressions rs)) (sym (list_all-append (node_chosen k) (expressions x ++ block_expressions b) (arms_expressions rs)) ∙ i) in
        let q = and_parts (is_chosen k x) (list_all (node_chosen k) (block_expressions b)) (sym (list_all-append (node_chosen k) (expressions x) (block_expressions b)) ∙ p.0) in
        and_from (is_chosen k x) (all_chosen k (arm_tests rs)) q.0 (tests_chosen rs p.1)

    mutual
      pub all_fit_in : (s : Statement) → Own (statements s) → Nodes (statement_expressions s) → AllFit (statements s) → AllFitIn (statements (statement_in k s))
      all_fit_in (Set l t x) c i h = simple_in (Set l t x) c i h
      all_fit_in (If l rs other) c i h =
          let p = and_parts (list_all (node_chosen k) (arms_expressions rs)) (list_all (node_chosen k) (block_expressions other)) (sym (list_all-append (node_chosen k) (arms_expressions rs) (block_expressions other)) ∙ i) in
          let q = and_parts (statement_fits d ls instance (If l rs other)) (list_all (statement_fits d ls instance) (arms_statements rs ++ block_statements other)) h in
          let f = and_parts (list_all (statement_fits d ls instance) (arms_statements rs)) (list_all (statement_fits d ls instance) (block_statements other)) (sym (list_all-append (statement_fits d ls instance) (arms_statements rs) (block_statements other)) ∙ q.1) in
          let o = and_parts (list_all (own_chosen k) (arms_statements rs)) (list_all (own_chosen k) (block_statements other)) (sym (list_all-append (own_chosen k) (arms_statements rs) (block_statements other)) ∙ c) in
          and_from (statement_fits e ls instance (If l (arms_in k rs) (block_in k other))) (list_all (statement_fits e ls instance) (arms_statements (arms_in k rs) ++ block_statements (block_in k other)))
          (fits_in (If l rs other) refl (tests_chosen rs p.0) q.0) (all_both (statement_fits e ls instance) (arms_statements (arms_in k rs)) (block_statements (block_in k other)) (arms_fit_in rs o.0 p.0 f.0) (block_fits_in other o.1 p.1 f.1))
      all_fit_in (While l x b) c i h =
          let p = and_parts (is_chosen k x) (list_all (node_chosen k) (block_expressions b)) (sym (list_all-append (node_chosen k) (expressions x) (block_expressions b)) ∙ i) in
          let q = and_parts (statement_fits d ls instance (While l x b)) (list_all (statement_fits d ls instance) (block_statements b)) h in
          and_from (statement_fits e ls instance (While l (expression_in k x) (block_in k b))) (list_all (statement_fits e ls instance) (block_statements (block_in k b)))
          (fits_in (While l x b) refl (and_from (is_chosen k x) true p.0 refl) q.0) (block_fits_in b c p.1 q.1)
      all_fit_in (For l v down a z step b) c i h =
          let p = and_parts (list_all (node_chosen k) (expressions a ++ expressions z)) (list_all (node_chosen k) (block_expressions b)) (sym (list_all-append (node_chosen k) (expressions a ++ expressions z) (block_expressions b)) ∙ i) in
          let g = and_parts (is_chosen k a) (is_chosen k z) (sym (list_all-append (node_chosen k) (expressions a) (expressions z)) ∙ p.0) in
          let q = and_parts (statement_fits d ls instance (For l v down a z step b)) (list_all (statement_fits d ls instance) (block_statements b)) h in
          and_from (statement_fits e ls instance (For l v down (expression_in k a) (expression_in k z) step (block_in k b))) (list_all (statement_fits e ls instance) (block_statements (block_in k b)))
          (fits_in (For l v down a z step b) refl (and_from (is_chosen k a) (is_chosen k z && true) g.0 (and_from (is_chosen k z) true g.1 refl)) q.0) (block_fits_in b c p.1 q.1)
      all_fit_in (Break l) c i h = simple_in (Break l) c i h
      all_fit_in (Continue l) c i h = simple_in (Continue l) c i h
      all_fit_in (Yield l ws) c i h = simple_in (Yield l ws) c i h
      all_fit_in (Print l ps) c i h = simple_in (Print l ps) c i h
      all_fit_in (Assert l x) c i h = simple_in (Assert l x) c i h
      all_fit_in (Stop l) c i h = simple_in (Stop l) c i h

      pub block_fits_in : (b : Block) → Own (block_statements b) → Nodes (block_expressions b) → AllFit (block_statements b) → AllFitIn (block_statements (block_in k b))
      block_fits_in End c i h = refl
      block_fits_in (Then s b) c i h =
          let o = and_parts (list_all (own_chosen k) (statements s)) (list_all (own_chosen k) (block_statements b)) (sym (list_all-append (own_chosen k) (statements s) (block_statements b)) ∙ c) in
          let p = and_parts (list_all (node_chosen k) (statement_expressions s)) (list_all (node_chosen k) (block_expressions b)) (sym (list_all-append (node_chosen k) (statement_expressions s) (block_expressions b)) ∙ i) in
          let f = and_parts (list_all (statement_fits d ls instance) (statements s)) (list_all (statement_fits d ls instance) (block_statements b)) (sym (list_all-append (statement_fits d ls instance) (statements s) (block_statements b)) ∙ h) in
          all_both (statement_fits e ls instance) (statements (statement_in k s)) (block_statements (block_in k b)) (all_fit_in s o.0 p.0 f.0) (block_fits_in b o.1 p.1 f.1)

      arms_fit_in : (rs : Arms) → Own (arms_statements rs) → Nodes (arms_expressions rs) → AllFit (arms_statements rs) → AllFitIn (arms_statements (arms_in k rs))
      arms_fit_in NoArm c i h = refl
      arms_fit_in (MoreArms (ArmOf x b) rs) c i h =
          let o = and_parts (list_all (own_chosen k) (block_statements b)) (list_all (own_chosen k) (arms_statements rs)) (sym (list_all-append (own_chosen k) (block_statements b) (arms_statements rs)) ∙ c) in
          let p = and_parts (list_all (node_chosen k) (expressions x ++ block_expressions b)) (list_all (node_chosen k) (arms_expressions rs)) (sym (list_all-append (node_chosen k) (expressions x ++ block_expressions b) (arms_expressions rs)) ∙ i) in
          let g = and_parts (is_chosen k x) (list_all (node_chosen k) (block_expressions b)) (sym (list_all-append (node_chosen k) (expressions x) (block_expressions b)) ∙ p.0) in
          let f = and_parts (list_all (statement_fits d ls instance) (block_statements b)) (list_all (statement_fits d ls instance) (arms_statements rs)) (sym (list_all-append (statement_fits d ls instance) (block_statements b) (arms_statements rs)) ∙ h) in
          all_both (statement_fits e ls instance) (block_statements (block_in k b)) (arms_statements (arms_in k rs)) (block_fits_in b o.0 g.1 f.0) (arms_fit_in rs o.1 p.1 f.1)
