-- What a generator that fits uses is there.
use Rattle.std.proofs.Common.{◌≡◌, ℕ, Bool, true, false, ◌&&◌, ◌||◌, List, [], ◌∷◌, ◌++◌, length, Option, Some, None, refl, ap, sym, ◌∙◌, if◌then◌else◌, slice_get}
use Rattle.std.specs.Prelude.{nat_lt}
use Rattle.std.specs.List.{list_all, flat_map}
use Rattle.std.specs.Option.{option_map, option_map_or, option_and_then}
use Rattle.std.proofs.lemmas.Bool.{and_parts, and_from}
use Rattle.std.proofs.lemmas.List.Folds.{list_all-append}
use Rattle.mh_design.specs.declared.design.Design.{Design}
use Rattle.mh_design.specs.declared.design.Kind.{Kind}
use Rattle.mh_design.specs.declared.design.Local.{Local as Variable}
use Rattle.mh_design.specs.declared.design.MemDecl.{MemDecl}
use Rattle.mh_design.specs.declared.design.SignalDecl.{SignalDecl}
use Rattle.mh_design.specs.declared.design.Wait.{Wait}
use Rattle.mh_design.specs.declared.design.Wait.TheVariants as wait
use Rattle.mh_design.specs.declared.kinds.ValueKind.{ValueKind}
use Rattle.mh_design.specs.Kinds.{signal_kind, mem_kind, is_number, on_one, element_kind, table_kind, operated, has_base, kind_of, kinds_of}
use Rattle.mh_design.specs.Numbering.{expressions, all_expressions, arm_tests, left_indices, base_indices, printed_numbers, own_expressions, statement_expressions, block_expressions, arms_expressions, statements, block_statements, arms_statements}
use Rattle.mh_design.specs.Statements.{is_numeric, is_integer, is_integer_kind, takes, is_bits_kind, is_bool_kind, base_kind, base_fits, is_no_local, has_bits, left_takes, wait_fits, printed_fits, kinds_fit, constants_fit, yield_fits, statement_fits}
use Rattle.mh_design.specs.Tree.{Expression, Expressions, Operator, Integer, Truth, Item, Fixed, Signal, Local, Now, Operation, NoMore, More, ElementOf, TableElementOf, BitOf, SliceOf, Unary, Binary, And, Or, Concat, Signed, ToInt, ToBool, LeftBase, LeftSignal, LeftElement, LeftLocal, LeftSide, Whole, LeftBit, LeftSlice, Bind, Printed, Words, Number, Statement, Set, If, While, For, Break, Continue, Yield, Print, Assert, Stop, Block, End, Then, Arm, ArmOf, Arms, NoArm, MoreArms}
use Rattle.mh_lower_laws.proofs.Basics.{if_there, all_both, all_then}
use Rattle.mh_lower_laws.proofs.Growth.{OfParts, of_parts, OfMore, of_more}
use Rattle.mh_lower_laws.proofs.StatementGrowth.{found}
use Rattle.mh_plans_laws.proofs.Renumbering.{kind_there, element_there, table_is_there}

abbrev pub node_there : Design → Expression → Bool
node_there d (Signal n) = nat_lt n (length d.signals)
node_there d (Operation (ElementOf m) xs) = nat_lt m (length d.mems)
node_there d (Operation (TableElementOf t) xs) = nat_lt t (length d.tables)
node_there d x = true

abbrev pub wait_there : Design → Wait → Bool
wait_there d (wait.Change n) = nat_lt n (length d.signals)
wait_there d (wait.Edge n up) = nat_lt n (length d.signals)
wait_there d (wait.Delay n) = true

abbrev pub base_there : Design → LeftBase → Bool
base_there d (LeftSignal n) = nat_lt n (length d.signals)
base_there d (LeftElement m i) = nat_lt m (length d.mems)
base_there d (LeftLocal v) = true

abbrev pub left_there : Design → LeftSide → Bool
left_there d (Whole b) = base_there d b
left_there d (LeftBit b i) = base_there d b
left_there d (LeftSlice b i j) = base_there d b
left_there d (Bind v n) = true

abbrev pub own_there : Design → Statement → Bool
own_there d (Set l t x) = left_there d t
own_there d (Yield l ws) = list_all (wait_there d) ws
own_there d s = true

module _ (d : Design) where
  signal_by : (n : ℕ) (o : Option SignalDecl) (x : Kind) → slice_get d.signals n ≡ o → option_map (λ y. y.kind) o ≡ Some x → nat_lt n (length d.signals) ≡ true
  signal_by n (Some y) x e h = if_there d.signals n y e
  signal_by n None x e h = absurd (cc)

  pub signal_is_there : (n : ℕ) (x : Kind) → signal_kind d n ≡ Some x → nat_lt n (length d.signals) ≡ true
  signal_is_there n x h = signal_by n (slice_get d.signals n) x refl h

  mem_by : (m : ℕ) (o : Option MemDecl) (x : Kind) → slice_get d.mems m ≡ o → option_map (λ y. y.kind) o ≡ Some x → nat_lt m (length d.mems) ≡ true
  mem_by m (Some y) x e h = if_there d.mems m y e
  mem_by m None x e h = absurd (cc)

  pub mem_is_there : (m : ℕ) (x : Kind) → mem_kind d m ≡ Some x → nat_lt m (length d.mems) ≡ true
  mem_is_there m x h = mem_by m (slice_get d.mems m) x refl h

  node_by : (o : Operator) (xs : Expressions) (ks : List ValueKind) (t : ValueKind) → operated d o ks ≡ Some t → node_there d (Operation o xs) ≡ true
  node_by (ElementOf m) xs ks t h = let x = element_there d m ks t h in mem_is_there m x.0 x.1
  node_by (TableElementOf n) xs ks t h = table_is_there d n ks t h
  node_by BitOf xs ks t h = refl
  node_by SliceOf xs ks t h = refl
  node_by (Unary o) xs ks t h = refl
  node_by (Binary o) xs ks t h = refl
  node_by And xs ks t h = refl
  node_by Or xs ks t h = refl
  node_by Concat xs ks t h = refl
  node_by Signed xs ks t h = refl
  node_by ToInt xs ks t h = refl
  node_by ToBool xs ks t h = refl

  module _ (ls : List Variable) where
    mutual
      nodes_there : (x : Expression) (t : ValueKind) → kind_of d ls x ≡ Some t → list_all (node_there d) (expressions x) ≡ true
      nodes_there (Integer z) t h = refl
      nodes_there (Truth b) t h = refl
      nodes_there (Item n i) t h = refl
      nodes_there (Fixed z b) t h = refl
      nodes_there (Signal n) t h = let x = kind_there (signal_kind d n) t h in and_from (nat_lt n (length d.signals)) true (signal_is_there n x.0 x.1) refl
      nodes_there (Local v) t h = refl
      nodes_there Now t h = refl
      nodes_there (Operation o xs) t h =
          let p = of_parts (has_base o xs) (operated d o) (kinds_of d ls xs) t h in
          and_from (node_there d (Operation o xs)) (list_all (node_there d) (all_expressions xs)) (node_by o xs p.list t p.gives) (all_nodes_there xs p.list p.kinds)

      all_nodes_there : (xs : Expressions) (ks : List ValueKind) → kinds_of d ls xs ≡ Some ks → list_all (node_there d) (all_expressions xs) ≡ true
      all_nodes_there NoMore ks h = refl
      all_nodes_there (More x xs) ks h =
          let m = of_more (kind_of d ls x) (kinds_of d ls xs) ks h in
          all_both (node_there d) (expressions x) (all_expressions xs) (nodes_there x m.first m.is_first) (all_nodes_there xs m.rest m.is_rest)

    numeric_there : (x : Expression) → is_numeric d ls x ≡ true → list_all (node_there d) (expressions x) ≡ true
    numeric_there x h = let f = found is_number (kind_of d ls x) h in nodes_there x f.0 f.1

    one_there : (x : Expression) → is_numeric d ls x ≡ true → list_all (node_there d) (flat_map expressions (x ∷ [])) ≡ true
    one_there x h = all_both (node_there d) (expressions x) [] (numeric_there x h) refl

    base_indices_there : (b : LeftBase) → base_fits d ls b ≡ true → list_all (node_there d) (flat_map expressions (base_indices b)) ≡ true
    base_indices_there (LeftSignal n) h = refl
    base_indices_there (LeftElement m i) h = one_there i h
    base_indices_there (LeftLocal v) h = refl

    flat_both : (xs ys : List Expression) → list_all (node_there d) (flat_map expressions xs) ≡ true → list_all (node_there d) (flat_map expressions ys) ≡ true → list_all (node_there d) (flat_map expressions (xs ++ ys)) ≡ true
    flat_both [] ys h k = k
    flat_both (x ∷ xs) ys h k =
        let a = and_parts (list_all (node_there d) (expressions x)) (list_all (node_there d) (flat_map expressions xs)) (sym (list_all-append (node_there d) (expressions x) (flat_map expressions xs)) ∙ h) in
        all_both (node_there d) (expressions x) (flat_map expressions (xs ++ ys)) a.0 (flat_both xs ys a.1 k)

    indices_there : (t : LeftSide) (u : ValueKind) → left_takes d ls t u ≡ true → list_all (node_there d) (flat_map expressions (left_indices t)) ≡ true
    indices_there (Whole b) u h = base_indices_there b (and_parts (base_fits d ls b) _ (and_parts _ _ h).0).0
    indices_there (LeftBit b i) u h =
        let p = and_parts (base_fits d ls b && has_bits d ls b) (is_numeric d ls i && is_number u) h in
        flat_both (base_indices b) (i ∷ []) (base_indices_there b (and_parts (base_fits d ls b) (has_bits d ls b) p.0).0) (one_there i (and_parts (is_numeric d ls i) (is_number u) p.1).0)
    indices_there (LeftSlice b i j) u h =
        let p = and_parts (base_fits d ls b && has_bits d ls b) ((is_numeric d ls i && is_numeric d ls j) && is_number u) h in
        let g = and_parts (is_numeric d ls i) (is_numeric d ls j) (and_parts (is_numeric d ls i && is_numeric d ls j) (is_number u) p.1).0 in
        flat_both (base_indices b) (i ∷ j ∷ []) (base_indices_there b (and_parts (base_fits d ls b) (has_bits d ls b) p.0).0)
        (all_both (node_there d) (expressions i) (flat_map expressions (j ∷ [])) (numeric_there i g.0) (one_there j g.1))
    indices_there (Bind v n) u h = refl

    printed_there : (ps : List Printed) → list_all (printed_fits d ls) ps ≡ true → list_all (node_there d) (flat_map expressions (flat_map printed_numbers ps)) ≡ true
    printed_there [] h = refl
    printed_there (Words t ∷ ps) h = printed_there ps h
    printed_there (Number x ∷ ps) h =
        let a = and_parts (is_integer d ls x) (list_all (printed_fits d ls) ps) h in
        let f = found is_integer_kind (kind_of d ls x) a.0 in
        all_both (node_there d) (expressions x) (flat_map expressions (flat_map printed_numbers ps)) (nodes_there x f.0 f.1) (printed_there ps a.1)

    set_there : (t : LeftSide) (x : Expression) → option_map_or (left_takes d ls t) (kind_of d ls x) false ≡ true → list_all (node_there d) (flat_map expressions (left_indices t ++ x ∷ [])) ≡ true
    set_there t x h =
        let f = found (left_takes d ls t) (kind_of d ls x) h in
        flat_both (left_indices t) (x ∷ []) (indices_there t f.0 f.2) (all_both (node_there d) (expressions x) [] (nodes_there x f.0 f.1) refl)

    -- ---- statements

    module _ (instance : Bool) where
      abbrev AllFit : List Statement → Type 0
      AllFit ss = list_all (statement_fits d ls instance) ss ≡ true

      abbrev There : List Expression → Type 0
      There xs = list_all (node_there d) xs ≡ true

      kinds_of_one : (s : Statement) → statement_fits d ls instance s ≡ true → kinds_fit d ls s ≡ true
      kinds_of_one s h = (and_parts (kinds_fit d ls s) (constants_fit d ls s) (and_parts (kinds_fit d ls s && constants_fit d ls s) (yield_fits instance s) h).0).0

      first_fits : (s : Statement) (ss : List Statement) → AllFit (s ∷ ss) → kinds_fit d ls s ≡ true
      first_fits s ss h = kinds_of_one s (and_parts (statement_fits d ls instance s) (list_all (statement_fits d ls instance) ss) h).0

      mutual
        statement_there : (s : Statement) → AllFit (statements s) → There (statement_expressions s)
        statement_there (Set l t x) h = set_there t x (first_fits (Set l t x) [] h)
        statement_there (If l rs other) h =
            let q = and_parts (statement_fits d ls instance (If l rs other)) (list_all (statement_fits d ls instance) (arms_statements rs ++ block_statements other)) h in
            let f = and_parts (list_all (statement_fits d ls instance) (arms_statements rs)) (list_all (statement_fits d ls instance) (block_statements other)) (sym (list_all-append (statement_fits d ls instance) (arms_statements rs) (block_statements other)) ∙ q.1) in
            all_both (node_there d) (arms_expressions rs) (block_expressions other) (arms_there rs (kinds_of_one (If l rs other) q.0) f.0) (block_there other f.1)
        statement_there (While l x b) h =
            let q = and_parts (statement_fits d ls instance (While l x b)) (list_all (statement_fits d ls instance) (block_statements b)) h in
            all_both (node_there d) (expressions x) (block_expressions b) (numeric_there x (kinds_of_one (While l x b) q.0)) (block_there b q.1)
        statement_there (For l v down a z step b) h =
            let q = and_parts (statement_fits d ls instance (For l v down a z step b)) (list_all (statement_fits d ls instance) (block_statements b)) h in
            let p = and_parts (is_numeric d ls a) (is_numeric d ls z) (and_parts _ (is_numeric d ls a && is_numeric d ls z) (kinds_of_one (For l v down a z step b) q.0)).1 in
            all_both (node_there d) (expressions a ++ expressions z) (block_expressions b) (all_both (node_there d) (expressions a) (expressions z) (numeric_there a p.0) (numeric_there z p.1)) (block_there b q.1)
        statement_there (Break l) h = refl
        statement_there (Continue l) h = refl
        statement_there (Yield l ws) h = refl
        statement_there (Print l ps) h = printed_there ps (first_fits (Print l ps) [] h)
        statement_there (Assert l x) h = one_there x (first_fits (Assert l x) [] h)
        statement_there (Stop l) h = refl

        pub block_there : (b : Block) → AllFit (block_statements b) → There (block_expressions b)
        block_there End h = refl
        block_there (Then s b) h =
            let f = and_parts (list_all (statement_fits d ls instance) (statements s)) (list_all (statement_fits d ls instance) (block_statements b)) (sym (list_all-append (statement_fits d ls instance) (statements s) (block_statements b)) ∙ h) in
            all_both (node_there d) (statement_expressions s) (block_expressions b) (statement_there s f.0) (block_there b f.1)

        arms_there : (rs : Arms) → list_all (is_numeric d ls) (arm_tests rs) ≡ true → AllFit (arms_statements rs) → There (arms_expressions rs)
        arms_there NoArm n h = refl
        arms_there (MoreArms (ArmOf x b) rs) n h =
            let p = and_parts (is_numeric d ls x) (list_all (is_numeric d ls) (arm_tests rs)) n in
            let f = and_parts (list_all (statement_fits d ls instance) (block_statements b)) (list_all (statement_fits d ls instance) (arms_statements rs)) (sym (list_all-append (statement_fits d ls instance) (block_statements b) (arms_statements rs)) ∙ h) in
            all_both (node_there d) (expressions x ++ block_expressions b) (arms_expressions rs) (all_both (node_there d) (expressions x) (block_expressions b) (numeric_there x p.0) (block_there b f.0)) (arms_there rs p.1 f.1)

      -- ---- what a statement names itself

      base_is_there : (b : LeftBase) (x : Kind) → base_kind d ls b ≡ Some x → base_there d b ≡ true
      base_is_there (LeftSignal n) x h = signal_is_there n x h
      base_is_there (LeftElement m i) x h = mem_is_there m x h
      base_is_there (LeftLocal v) x h = refl

      left_is_there : (t : LeftSide) (u : ValueKind) → left_takes d ls t u ≡ true → left_there d t ≡ true
      left_is_there (Whole b) u h = let o = found (λ x. takes x u) (base_kind d ls b) (and_parts _ _ h).1 in base_is_there b o.0 o.1
      left_is_there (LeftBit b i) u h = let o = found is_bits_kind (base_kind d ls b) (and_parts (base_fits d ls b) (has_bits d ls b) (and_parts _ _ h).0).1 in base_is_there b o.0 o.1
      left_is_there (LeftSlice b i j) u h = let o = found is_bits_kind (base_kind d ls b) (and_parts (base_fits d ls b) (has_bits d ls b) (and_parts _ _ h).0).1 in base_is_there b o.0 o.1
      left_is_there (Bind v n) u h = refl

      wait_is_there : (w : Wait) → wait_fits d w ≡ true → wait_there d w ≡ true
      wait_is_there (wait.Change n) h = h
      wait_is_there (wait.Edge n up) h = let o = found is_bool_kind (signal_kind d n) h in signal_is_there n o.0 o.1
      wait_is_there (wait.Delay n) h = refl

      pub waits_are_there : (ws : List Wait) → list_all (wait_fits d) ws ≡ true → list_all (wait_there d) ws ≡ true
      waits_are_there ws h = all_then (wait_fits d) (wait_there d) ws wait_is_there h

      own_is_there : (s : Statement) → statement_fits d ls instance s ≡ true → own_there d s ≡ true
      own_is_there (Set l t x) h = let f = found (left_takes d ls t) (kind_of d ls x) (kinds_of_one (Set l t x) h) in left_is_there t f.0 f.2
      own_is_there (If l rs other) h = refl
      own_is_there (While l x b) h = refl
      own_is_there (For l v down a z step b) h = refl
      own_is_there (Break l) h = refl
      own_is_there (Continue l) h = refl
      own_is_there (Yield l ws) h = waits_are_there ws (kinds_of_one (Yield l ws) h)
      own_is_there (Print l ps) h = refl
      own_is_there (Assert l x) h = refl
      own_is_there (Stop l) h = refl

      pub all_own_there : (ss : List Statement) → AllFit ss → list_all (own_there d) ss ≡ true
      all_own_there ss h = all_then (statement_fits d ls instance) (own_there d) ss own_is_there h
