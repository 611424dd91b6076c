-- What an instruction does at a position, as data: the small functions of `resume` say by it what they do.
use Rattle.std.specs.Prelude.{ℕ, ℤ, ◌+◌, ◌<◌, ◌≤◌, ◌+ℤ◌, ◌-◌, Bool, true, false, List, ◌≡◌, Result, Ok, Err, cond, Option, Some, None, slice_get, slice_set, MatchOption}
use Rattle.mh_flow.specs.declared.lang.Lang.{Ghosts}
use Rattle.mh_flow.specs.declared.resumed.Resumed.{Resumed}
use Rattle.mh_flow.specs.declared.resumed.Resumed.TheVariants.{Waits, Says, Stopped, Ended, CheckFailed, Fault, TurnLimit}
use Rattle.mh_flat.specs.declared.code.Position.{Position}
use Rattle.mh_flat.specs.declared.code.Operation.{Operation}
use Rattle.mh_flat.specs.declared.code.Operation.TheVariants.{Assign, Branch, Repeat, Iterate, Suspend, Report, Assert, Finish, Jump}
use Rattle.mh_flat.specs.declared.code.Instruction.{Instruction}
use Rattle.mh_flat.specs.declared.code.Counter.{Counter}
use Rattle.mh_flat.specs.declared.code.State.{State}
use Rattle.mh_flow.specs.Words.{Unless}
use Rattle.mh_flow.specs.Flow.{is_before}

-- What an instruction does: it moves on, counting or not; it assigns a value; it enters a counted loop; it
-- begins a turn of one; it halts with an answer; it fails with a fault; or there is none.
pub data Action (E P V S F : Type 0) : Type 0 where
  Moves : (counts : ℕ) → Position → Action E P V S F
  Assigns : (at : ℕ) → P → V → Position → Action E P V S F
  Enters : (depth : ℕ) (next to step : ℤ) → Position → Action E P V S F
  Turns : (depth : ℕ) → P → (next to step : ℤ) → Position → Action E P V S F
  Halts : (counts : ℕ) → Resumed F → Position → Action E P V S F
  Fails : (at : ℕ) → F → Action E P V S F
  Ends : Action E P V S F

abbrev pub with_value : {A E P V S F : Type 0} → ℕ → Result A F → (A → Action E P V S F) → Action E P V S F
with_value k (Ok x) go = go x
with_value k (Err f) go = Fails k f

-- A counted loop's next number, if there is one, begins a turn where it stands before the limit.
abbrev pub number_turn : {E P V S F : Type 0} → ℕ → P → Position → Position → Option ℤ → ℤ → ℤ → Action E P V S F
number_turn depth p body after None z d = Moves 0 after
number_turn depth p body after (Some n) z d = cond (is_before n z d) (Turns depth p n z d body) (Moves 0 after)

-- The same of a counter.
abbrev pub counter_turn : {E P V S F : Type 0} → ℕ → P → Position → Position → Option Counter → Action E P V S F
counter_turn depth p body after None = Ends
counter_turn depth p body after (Some c) = number_turn depth p body after c.next c.to c.step

module _ {L E P V S F : Type 0} (l : Ghosts L E P V S F) where
  abbrev pub operation_action : Operation L E P V S F → Position → Position → List Counter → S → Action E P V S F
  operation_action (Assign p e) after g cs s = with_value g.at (l.value_of e s) (λ v. Assigns g.at p v after)
  operation_action (Branch e one two) after g cs s = with_value g.at (l.value_of e s) (λ v. Moves 1 (cond (l.is_true v) one two))
  operation_action (Repeat e body) after g cs s = with_value g.at (l.value_of e s) (λ v. Moves 1 (cond (l.is_true v) body after))
  operation_action (Iterate p a z d depth body) after g cs s =
      cond g.begun (counter_turn depth p body after (slice_get cs depth)) (with_value g.at (l.value_of a s) (λ x. with_value g.at (l.value_of z s)
      (λ y. with_value g.at (l.value_of d s) (λ w. Enters depth (l.number_of x) (l.number_of y) (l.number_of w) (record { at = g.at; begun = true })))))
  operation_action (Suspend w) after g cs s = Halts 0 (Waits w) after
  operation_action (Report w) after g cs s = Halts 1 (Says w) after
  operation_action (Assert e) after g cs s =
      with_value g.at (l.value_of e s) (λ v. cond (l.is_true v) (Moves 1 after) (Halts 1 (CheckFailed g.at) after))
  operation_action Finish after g cs s = Halts 1 Stopped after
  operation_action Jump after g cs s = Moves 1 after

  abbrev pub action_at : Option (Instruction L E P V S F) → Position → List Counter → S → Action E P V S F
  action_at None g cs s = Ends
  action_at (Some instruction) g cs s = operation_action instruction.operation instruction.after g cs s

-- Whether an action is a counted statement.
abbrev pub action_counts : {E P V S F : Type 0} → Action E P V S F → ℕ
action_counts (Moves k g) = k
action_counts (Assigns k p v g) = 1
action_counts (Enters d n z w g) = 1
action_counts (Turns d p n z w g) = 1
action_counts (Halts k r g) = k
action_counts (Fails k f) = 1
action_counts Ends = 0

-- A counter's next number is this number, or none where it doesn't stand before the limit.
abbrev pub IsNext : Option ℤ → ℤ → ℤ → ℤ → Type 0
IsNext o n z d = MatchOption o (is_before n z d ≡ false) (λ m. m ≡ n)

-- A position, the counters and the count of statements.
pub record Configuration : Type 0 where
  pub position : Position
  pub counters : List Counter
  pub count : ℕ

abbrev pub configuration_of : State → Configuration
configuration_of st = record { position = st.position; counters = st.counters.items; count = st.count }

module _ {L E P V S F : Type 0} (l : Ghosts L E P V S F) (budget : ℕ) where
  -- The configuration and the store after an action that goes on. One that counts needs the count below the
  -- budget.
  abbrev pub GoesOn : Action E P V S F → Configuration → S → Configuration → S → Type 0
  GoesOn (Moves k g) p s p' s' =
      (k ≤ budget - p.count) × (p'.position ≡ g) × (p'.counters ≡ p.counters) × (p'.count ≡ p.count + k) × (s' ≡ s)
  GoesOn (Assigns k q v g) p s p' s' =
      (1 ≤ budget - p.count) × (p'.position ≡ g) × (p'.counters ≡ p.counters) × (p'.count ≡ p.count + 1) × (l.assigned q v s ≡ Ok s')
  GoesOn (Enters depth n z d g) p s p' s' =
      (1 ≤ budget - p.count) × (p'.position ≡ g) × (p'.counters ≡ slice_set p.counters depth (record { next = Some n; to = z; step = d })) × (p'.count ≡ p.count + 1) × (s' ≡ s)
  GoesOn (Turns depth q n z d g) p s p' s' =
      (1 ≤ budget - p.count) × (p'.position ≡ g) × ((o : Option ℤ) × IsNext o (n +ℤ d) z d ×
      (p'.counters ≡ slice_set p.counters depth (record { next = o; to = z; step = d }))) × (p'.count ≡ p.count + 1) × (s' ≡ l.counted q n s)
  GoesOn (Halts k r g) p s p' s' = ⊥
  GoesOn (Fails k f) p s p' s' = ⊥
  GoesOn Ends p s p' s' = ⊥

  abbrev pub Stays : Configuration → S → Configuration → S → Type 0
  Stays p s p' s' = (p'.position ≡ p.position) × (p'.counters ≡ p.counters) × (p'.count ≡ p.count) × (s' ≡ s)

  -- Those after an action that halts with an answer: a wait sets the count back.
  abbrev pub HaltsAt : Resumed F → ℕ → Position → Configuration → S → Configuration → S → Type 0
  HaltsAt (Waits w) k g p s p' s' = (p'.position ≡ g) × (p'.counters ≡ p.counters) × (p'.count ≡ 0) × (s' ≡ s)
  HaltsAt r k g p s p' s' =
      (k ≤ budget - p.count) × (p'.position ≡ g) × (p'.counters ≡ p.counters) × (p'.count ≡ p.count + k) × (s' ≡ s)

  -- A fault that an action may answer: its own, and at an assignment that of the language, or want of memory.
  abbrev pub FailsBy : Action E P V S F → S → ℕ → F → Type 0
  FailsBy (Fails k f) s k' f' = (k' ≡ k) × (f' ≡ f)
  FailsBy (Assigns k q v g) s k' f' = (k' ≡ k) × Unless (l.is_memory f') (l.assigned q v s ≡ Err f')
  FailsBy a s k f = ⊥

  abbrev pub Answers : Action E P V S F → Resumed F → Configuration → S → Configuration → S → Type 0
  Answers a TurnLimit p s p' s' = (action_counts a ≡ 1) × (budget ≤ p.count) × Stays p s p' s'
  Answers a (Fault k f) p s p' s' = (p.count < budget) × FailsBy a s k f × Stays p s p' s'
  Answers a Ended p s p' s' = (a ≡ Ends) × Stays p s p' s'
  Answers (Halts k r g) r' p s p' s' = (r' ≡ r) × HaltsAt r k g p s p' s'
  Answers a r p s p' s' = ⊥

  -- What an action leaves, with the answer where it stops.
  abbrev pub Does : Action E P V S F → Option (Resumed F) → Configuration → S → Configuration → S → Type 0
  Does a None p s p' s' = GoesOn a p s p' s'
  Does a (Some r) p s p' s' = Answers a r p s p' s'

module _ {L E P V S F : Type 0} (l : Ghosts L E P V S F) where
  -- The expressions and places that an instruction uses fit the store.
  abbrev pub FitsOperation : Operation L E P V S F → Bool → S → Type 0
  FitsOperation (Assign p e) begun s = l.fits_expr e s × l.fits_set p e s
  FitsOperation (Branch e a b) begun s = l.fits_expr e s
  FitsOperation (Repeat e b) begun s = l.fits_expr e s
  FitsOperation (Iterate p a z d depth b) true s = l.fits_count p s
  FitsOperation (Iterate p a z d depth b) false s = l.fits_expr a s × l.fits_expr z s × l.fits_expr d s
  FitsOperation (Assert e) begun s = l.fits_expr e s
  FitsOperation (Suspend w) begun s = Unit {0}
  FitsOperation (Report w) begun s = Unit {0}
  FitsOperation Finish begun s = Unit {0}
  FitsOperation Jump begun s = Unit {0}

-- There is room for a loop's counter.
abbrev pub HasRoom : {L E P V S F : Type 0} → Operation L E P V S F → ℕ → Type 0
HasRoom (Iterate p a z d depth b) n = depth < n
HasRoom operation n = Unit {0}

-- Whether a counter's next number stands before its limit.
abbrev pub number_before : Option ℤ → ℤ → ℤ → Bool
number_before None z d = false
number_before (Some n) z d = is_before n z d

abbrev pub counter_before : Option Counter → Bool
counter_before None = false
counter_before (Some c) = number_before c.next c.to c.step

-- Whether an instruction's action is a counted statement.
abbrev pub operation_counts : {L E P V S F : Type 0} → Operation L E P V S F → Bool → List Counter → Bool
operation_counts (Suspend w) begun cs = false
operation_counts (Iterate p a z d depth b) begun cs = cond begun (counter_before (slice_get cs depth)) true
operation_counts operation begun cs = true

-- What is asked of an instruction, if there is one.
abbrev pub OnInstruction : {L E P V S F : Type 0} → Option (Instruction L E P V S F) → (Operation L E P V S F → Type 0) → Type 0
OnInstruction None Q = Unit {0}
OnInstruction (Some instruction) Q = Q instruction.operation
