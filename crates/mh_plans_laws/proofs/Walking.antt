-- A body under other numbers has the same depth, and the same exits and paths.
use Rattle.std.proofs.Common.{◌≡◌, ℕ, zero, suc, ◌-◌, ℤ, Bool, true, false, ◌&&◌, ◌||◌, List, [], ◌∷◌, ◌++◌, map, Option, Some, None, refl, ap, ap₂, sym, ◌∙◌}
use Rattle.std.specs.Prelude.{nat_lt}
use Rattle.std.specs.List.{list_all, list_any, flat_map}
use Rattle.std.proofs.lemmas.List.Folds.{list_any-append}
use Rattle.mh_design.specs.declared.assigned.Flow.{Flow}
use Rattle.mh_design.specs.Assigned.{next, is_sound, after_reading, joined, is_local, reads_local, changes, binds, is_left_local, has_turn, ends_give_turn, ends_read, turn_begins, looped, while_flow, for_flow, passes, walk_set, walk, walk_block, walk_arm, walk_arms, is_assigned_first, all_below}
use Rattle.mh_design.specs.Constants.{constant_of}
use Rattle.mh_design.specs.Depth.{is_within, are_within, base_is_within, left_is_within, printed_is_within, statement_is_within, block_is_within, arm_is_within, arms_are_within}
use Rattle.mh_design.specs.Numbering.{expressions, all_expressions, base_indices, left_indices, printed_numbers}
use Rattle.mh_design.specs.Statements.{exits_fit, block_exits_fit, arm_exits_fit, arms_exits_fit}
use Rattle.mh_design.specs.Tree.{Expression, Expressions, Integer, Truth, Item, Fixed, Signal, Local, Now, Operation, NoMore, More, LeftBase, LeftSignal, LeftElement, LeftLocal, LeftSide, Whole, LeftBit, LeftSlice, Bind, Printed, Words, Number, Statement, Set, If, While, For, Break, Continue, Yield, Print, Assert, Stop, Block, End, Then, Arm, ArmOf, Arms, NoArm, MoreArms}
use Rattle.mh_plans.specs.Renumbered.{Chosen, operator_in, expression_in, expressions_in, base_in, left_in, printed_in, statement_in, block_in, arm_in, arms_in}
use Rattle.mh_plans_laws.proofs.Renumbering.{constant_same}

module _ (k : Chosen) where
  -- ---- depth

  mutual
    within_same : (x : Expression) (n : ℕ) → is_within (expression_in k x) n ≡ is_within x n
    within_same (Integer z) n = refl
    within_same (Truth b) n = refl
    within_same (Item e i) n = refl
    within_same (Fixed z b) n = refl
    within_same (Signal s) n = refl
    within_same (Local v) n = refl
    within_same Now n = refl
    within_same (Operation o xs) n = ap (λ b. nat_lt 0 n && b) (all_within_same xs (n - 1))

    all_within_same : (xs : Expressions) (n : ℕ) → are_within (expressions_in k xs) n ≡ are_within xs n
    all_within_same NoMore n = refl
    all_within_same (More x xs) n = ap₂ (λ a b. a && b) (within_same x n) (all_within_same xs n)

  base_within_same : (b : LeftBase) (n : ℕ) → base_is_within (base_in k b) n ≡ base_is_within b n
  base_within_same (LeftSignal s) n = refl
  base_within_same (LeftElement m i) n = within_same i n
  base_within_same (LeftLocal v) n = refl

  left_within_same : (t : LeftSide) (n : ℕ) → left_is_within (left_in k t) n ≡ left_is_within t n
  left_within_same (Whole b) n = base_within_same b n
  left_within_same (LeftBit b i) n = ap₂ (λ x y. x && y) (base_within_same b n) (within_same i n)
  left_within_same (LeftSlice b i j) n = ap₂ (λ x y. x && y) (base_within_same b n) (ap₂ (λ x y. x && y) (within_same i n) (within_same j n))
  left_within_same (Bind v c) n = refl

  printed_within_same : (n : ℕ) (ps : List Printed) → list_all (printed_is_within n) (map (printed_in k) ps) ≡ list_all (printed_is_within n) ps
  printed_within_same n [] = refl
  printed_within_same n (Words t ∷ ps) = printed_within_same n ps
  printed_within_same n (Number x ∷ ps) = ap₂ (λ a b. a && b) (within_same x n) (printed_within_same n ps)

  mutual
    statement_within_same : (s : Statement) (n : ℕ) → statement_is_within (statement_in k s) n ≡ statement_is_within s n
    statement_within_same (Set l t x) n = ap₂ (λ a b. nat_lt 0 n && (a && b)) (left_within_same t (n - 1)) (within_same x (n - 1))
    statement_within_same (If l rs other) n = ap₂ (λ a b. nat_lt 0 n && (a && b)) (arms_within_same rs (n - 1)) (block_within_same other (n - 1))
    statement_within_same (While l x b) n = ap₂ (λ a c. nat_lt 0 n && (a && c)) (within_same x (n - 1)) (block_within_same b (n - 1))
    statement_within_same (For l v down a z step b) n = ap₂ (λ x y. nat_lt 0 n && (x && y)) (ap₂ (λ x y. x && y) (within_same a (n - 1)) (within_same z (n - 1))) (block_within_same b (n - 1))
    statement_within_same (Break l) n = refl
    statement_within_same (Continue l) n = refl
    statement_within_same (Yield l ws) n = refl
    statement_within_same (Print l ps) n = ap (λ b. nat_lt 0 n && b) (printed_within_same (n - 1) ps)
    statement_within_same (Assert l x) n = ap (λ b. nat_lt 0 n && b) (within_same x (n - 1))
    statement_within_same (Stop l) n = refl

    pub block_within_same : (b : Block) (n : ℕ) → block_is_within (block_in k b) n ≡ block_is_within b n
    block_within_same End n = refl
    block_within_same (Then s b) n = ap₂ (λ x y. x && y) (statement_within_same s n) (block_within_same b n)

    arms_within_same : (rs : Arms) (n : ℕ) → arms_are_within (arms_in k rs) n ≡ arms_are_within rs n
    arms_within_same NoArm n = refl
    arms_within_same (MoreArms (ArmOf x b) rs) n = ap₂ (λ a c. a && c) (ap₂ (λ a c. a && c) (within_same x n) (block_within_same b n)) (arms_within_same rs n)

  -- ---- exits

  mutual
    exits_same : (loop : Bool) (s : Statement) → exits_fit loop (statement_in k s) ≡ exits_fit loop s
    exits_same loop (Set l t x) = refl
    exits_same loop (If l rs other) = ap₂ (λ a b. a && b) (arms_exits_same loop rs) (block_exits_same loop other)
    exits_same loop (While l x b) = block_exits_same true b
    exits_same loop (For l v down a z step b) = block_exits_same true b
    exits_same loop (Break l) = refl
    exits_same loop (Continue l) = refl
    exits_same loop (Yield l ws) = refl
    exits_same loop (Print l ps) = refl
    exits_same loop (Assert l x) = refl
    exits_same loop (Stop l) = refl

    pub block_exits_same : (loop : Bool) (b : Block) → block_exits_fit loop (block_in k b) ≡ block_exits_fit loop b
    block_exits_same loop End = refl
    block_exits_same loop (Then s b) = ap₂ (λ x y. x && y) (exits_same loop s) (block_exits_same loop b)

    arms_exits_same : (loop : Bool) (rs : Arms) → arms_exits_fit loop (arms_in k rs) ≡ arms_exits_fit loop rs
    arms_exits_same loop NoArm = refl
    arms_exits_same loop (MoreArms (ArmOf x b) rs) = ap₂ (λ a c. a && c) (block_exits_same loop b) (arms_exits_same loop rs)

  -- ---- readings of a local

  module _ (v : ℕ) where
    mutual
      reads_same : (x : Expression) → reads_local v (expression_in k x) ≡ reads_local v x
      reads_same (Integer z) = refl
      reads_same (Truth b) = refl
      reads_same (Item e i) = refl
      reads_same (Fixed z b) = refl
      reads_same (Signal s) = refl
      reads_same (Local u) = refl
      reads_same Now = refl
      reads_same (Operation o xs) = all_reads_same xs

      all_reads_same : (xs : Expressions) → list_any (is_local v) (all_expressions (expressions_in k xs)) ≡ list_any (is_local v) (all_expressions xs)
      all_reads_same NoMore = refl
      all_reads_same (More x xs) =
          list_any-append (is_local v) (expressions (expression_in k x)) (all_expressions (expressions_in k xs)) ∙ ap₂ (λ a b. a || b) (reads_same x) (all_reads_same xs)
          ∙ sym (list_any-append (is_local v) (expressions x) (all_expressions xs))

    base_reads_same : (b : LeftBase) → list_any (reads_local v) (base_indices (base_in k b)) ≡ list_any (reads_local v) (base_indices b)
    base_reads_same (LeftSignal s) = refl
    base_reads_same (LeftElement m i) = ap (λ b. b || false) (reads_same i)
    base_reads_same (LeftLocal u) = refl

    left_reads_same : (t : LeftSide) → list_any (reads_local v) (left_indices (left_in k t)) ≡ list_any (reads_local v) (left_indices t)
    left_reads_same (Whole b) = base_reads_same b
    left_reads_same (LeftBit b i) =
        list_any-append (reads_local v) (base_indices (base_in k b)) (expression_in k i ∷ []) ∙ ap₂ (λ x y. x || y) (base_reads_same b) (ap (λ y. y || false) (reads_same i)) ∙ sym (list_any-append (reads_local v) (base_indices b) (i ∷ []))
    left_reads_same (LeftSlice b i j) =
        list_any-append (reads_local v) (base_indices (base_in k b)) (expression_in k i ∷ expression_in k j ∷ []) ∙ ap₂ (λ x y. x || y) (base_reads_same b) (ap₂ (λ x y. x || (y || false)) (reads_same i) (reads_same j))
        ∙ sym (list_any-append (reads_local v) (base_indices b) (i ∷ j ∷ []))
    left_reads_same (Bind u c) = refl

    printed_reads_same : (ps : List Printed) → list_any (reads_local v) (flat_map printed_numbers (map (printed_in k) ps)) ≡ list_any (reads_local v) (flat_map printed_numbers ps)
    printed_reads_same [] = refl
    printed_reads_same (Words t ∷ ps) = printed_reads_same ps
    printed_reads_same (Number x ∷ ps) = ap₂ (λ a b. a || b) (reads_same x) (printed_reads_same ps)

    base_local_same : (b : LeftBase) → is_left_local v (base_in k b) ≡ is_left_local v b
    base_local_same (LeftSignal s) = refl
    base_local_same (LeftElement m i) = refl
    base_local_same (LeftLocal u) = refl

    changes_same : (t : LeftSide) → changes v (left_in k t) ≡ changes v t
    changes_same (Whole b) = base_local_same b
    changes_same (LeftBit b i) = base_local_same b
    changes_same (LeftSlice b i j) = base_local_same b
    changes_same (Bind u c) = refl

    binds_same : (t : LeftSide) → binds v (left_in k t) ≡ binds v t
    binds_same (Whole b) = refl
    binds_same (LeftBit b i) = refl
    binds_same (LeftSlice b i j) = refl
    binds_same (Bind u c) = refl

    -- ---- walks

    turn_same : (down : Bool) (step : ℤ) (x z : Expression) → has_turn down step (expression_in k x) (expression_in k z) ≡ has_turn down step x z
    unfolding has_turn
    turn_same down step x z = ap₂ (λ a b. ends_give_turn down step a b) (constant_same k x) (constant_same k z)

    set_same : (t : LeftSide) (x : Expression) (a : Bool) → walk_set v (left_in k t) (expression_in k x) a ≡ walk_set v t x a
    set_same t x a =
        ap₂ (λ c b. passes (is_sound a c) (a || b)) (ap₂ (λ p q. p || q) (ap₂ (λ p q. p || q) (changes_same t) (left_reads_same t)) (reads_same x)) (binds_same t)

    while_same : (x : Expression) (a : Bool) (p q : Flow) → p ≡ q → while_flow v (expression_in k x) a p ≡ while_flow v x a q
    unfolding while_flow
    while_same x a p q e = ap₂ (λ b f. after_reading (is_sound a b) (looped None a f)) (reads_same x) e

    for_same : (down : Bool) (step : ℤ) (x z : Expression) (a : Bool) (p q : Flow) → p ≡ q → for_flow v (has_turn down step (expression_in k x) (expression_in k z)) (expression_in k x) (expression_in k z) a p ≡ for_flow v (has_turn down step x z) x z a q
    unfolding for_flow
    for_same down step x z a p q e =
        ap (λ t. after_reading (is_sound a (ends_read v (expression_in k x) (expression_in k z))) (looped t a p)) (turn_same down step x z)
        ∙ ap₂ (λ b f. after_reading (is_sound a b) (looped (has_turn down step x z) a f)) (ap₂ (λ b c. b || c) (reads_same x) (reads_same z)) e

    next_same : (p : Flow) (o : Option Bool) (f g : Bool → Flow) → ((a : Bool) → f a ≡ g a) → next p o f ≡ next p o g
    next_same p None f g h = refl
    next_same p (Some a) f g h = ap (λ q. next p (Some a) (λ b. q)) (h a)

    mutual
      walk_same : (s : Statement) (a : Bool) → walk v (statement_in k s) a ≡ walk v s a
      walk_same (If l rs other) a = ap (walk_arms v (arms_in k rs) a) (block_same other (passes true a)) ∙ arms_same rs a (walk_block v other (passes true a))
      walk_same (While l x b) a = while_same x a (walk_block v (block_in k b) (passes true a)) (walk_block v b (passes true a)) (block_same b (passes true a))
      walk_same (For l u down x z step b) a = for_same down step x z a (walk_block v (block_in k b) (turn_begins v u a)) (walk_block v b (turn_begins v u a)) (block_same b (turn_begins v u a))
      walk_same (Break l) a = refl
      walk_same (Continue l) a = refl
      walk_same (Stop l) a = refl
      walk_same (Set l t x) a = set_same t x a
      walk_same (Yield l ws) a = refl
      walk_same (Print l ps) a = ap (λ b. passes (is_sound a b) a) (printed_reads_same ps)
      walk_same (Assert l x) a = ap (λ b. passes (is_sound a b) a) (reads_same x)

      block_same : (b : Block) (p : Flow) → walk_block v (block_in k b) p ≡ walk_block v b p
      block_same End p = refl
      block_same (Then s b) p = ap (walk_block v (block_in k b)) (next_same p p.falls (λ a. walk v (statement_in k s) a) (λ a. walk v s a) (walk_same s)) ∙ block_same b (next p p.falls (λ a. walk v s a))

      arm_same : (r : Arm) (a : Bool) → walk_arm v (arm_in k r) a ≡ walk_arm v r a
      arm_same (ArmOf x b) a = ap₂ (λ c f. after_reading (is_sound a c) f) (reads_same x) (block_same b (passes true a))

      arms_same : (rs : Arms) (a : Bool) (p : Flow) → walk_arms v (arms_in k rs) a p ≡ walk_arms v rs a p
      arms_same NoArm a p = refl
      arms_same (MoreArms r rs) a p = ap (λ f. walk_arms v (arms_in k rs) a (joined p f)) (arm_same r a) ∙ arms_same rs a (joined p (walk_arm v r a))

    assigned_same : (b : Block) → is_assigned_first (block_in k b) v ≡ is_assigned_first b v
    assigned_same b = ap (λ (f : Flow). f.sound) (block_same b (passes true false))

  pub all_assigned_same : (n : ℕ) (b : Block) → all_below n (is_assigned_first (block_in k b)) ≡ all_below n (is_assigned_first b)
  all_assigned_same zero b = refl
  all_assigned_same (suc n) b = ap₂ (λ x y. x && y) (all_assigned_same n b) (assigned_same n b)
