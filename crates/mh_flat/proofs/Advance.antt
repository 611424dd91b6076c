-- What an instruction leaves is what the rewriting leaves.
use Rattle.std.proofs.Common.{◌≡◌, ℕ, ◌+◌, ◌-◌, ◌<◌, ◌≤◌, ℤ, Bool, true, false, cond, List, [], ◌∷◌, length, Result, Ok, Err, refl, sym, ap, ◌∙◌, subst, arith, ◌⊎◌, inl, inr}
use Rattle.std.specs.Prelude.{IsTrue}
use Rattle.std.proofs.lemmas.List.{length-set}
use Rattle.mh_flow.specs.declared.lang.Lang.{Ghosts}
use Rattle.mh_flow.specs.declared.resumed.Resumed.{Resumed}
use Rattle.mh_flow.specs.declared.resumed.Resumed.TheVariants.{Waits, Says, Stopped, Ended, CheckFailed, Fault, TurnLimit}
use Rattle.mh_flat.specs.declared.code.Position.{Position}
use Rattle.mh_flat.specs.declared.code.Instruction.{Instruction}
use Rattle.mh_flat.specs.declared.code.Counter.{Counter}
use Rattle.mh_flow.specs.Words.{Keeps, Unless, keeps_same}
use Rattle.mh_flow.specs.Flow as flow
use Rattle.mh_flow.specs.Flow.{Statement, Block, Item, SetStatement, IfStatement, WhileStatement, CountStatement, WaitStatement, SayStatement, CheckStatement, StopStatement, BreakStatement, ContinueStatement, End, Then, Pending, BegunWhile, BegunCount, is_before, Outcome, Proceeds, rewriting, does_count}
use Rattle.mh_flat.specs.Machine as machine
use Rattle.mh_flat.specs.Machine.{Action, Moves, Assigns, Enters, Turns, action_at, action_counts, Configuration}
use Rattle.mh_flat.specs.Fits.{FitsItems}
use Rattle.mh_flat.specs.Stands.{Stands}
use Rattle.mh_flat.specs.Fits.{kept}
use Rattle.mh_flat.proofs.Simulates.{rank, Simulates, moves, leaves, puts, enters, turns, pauses, says, quits, checks, fails, ends}

pub record Laws {L E P V S F : Type 0} (l : Ghosts L E P V S F) : Type 0 where
  pub assign_keeps : (p : P) (v : V) (s s' : S) → l.assigned p v s ≡ Ok s' → Keeps l.fits_expr l.fits_set l.fits_count s s'
  pub count_keeps : (p : P) (n : ℤ) (s : S) → Keeps l.fits_expr l.fits_set l.fits_count s (l.counted p n s)

module _ {L E P V S F : Type 0} (l : Ghosts L E P V S F) (laws : Laws l) (instructions : List (Instruction L E P V S F)) (room budget : ℕ) where
  -- one rewriting was done
  pub record Advanced (cs : List Counter) (xs : List (Item E P)) (g : Position) (n : ℕ) (s : S) (p' : Configuration) (s' : S) : Type 0 where
    pub counts : ℕ
    pub ys : List (Item E P)
    pub moved : rewriting l xs s ≡ Proceeds counts ys s'
    pub within : counts ≤ budget - n
    pub counted : p'.count ≡ n + counts
    pub stands : Stands instructions room p'.counters ys p'.position
    pub fits : FitsItems l ys s'
    pub long : length p'.counters ≡ length cs
    pub keeps : Keeps l.fits_expr l.fits_set l.fits_count s s'
    pub falls : (1 ≤ counts) ⊎ ((counts ≡ 0) × (rank instructions p'.position < rank instructions g))

  -- an answer was given
  pub record Answered (cs : List Counter) (xs : List (Item E P)) (g : Position) (n : ℕ) (s : S) (r : Resumed F) (p' : Configuration) (s' : S) : Type 0 where
    pub ys : List (Item E P)
    pub answers : flow.Answers l budget r xs s n ys s' p'.count
    pub stands : Stands instructions room p'.counters ys p'.position
    pub fits : FitsItems l ys s'
    pub long : length p'.counters ≡ length cs
    pub same : s' ≡ s

  moved_to : (ys : List (Item E P)) (cs cs' : List Counter) (g g' : Position) → cs' ≡ cs → g' ≡ g → Stands instructions room cs ys g → Stands instructions room cs' ys g'
  moved_to ys cs cs' g g' e f h =
      subst (λ x. Stands instructions room x ys g') (sym e) (subst (λ x. Stands instructions room cs ys x) (sym f) h)

  fits_at : (ys : List (Item E P)) (s s' : S) → s' ≡ s → FitsItems l ys s → FitsItems l ys s'
  fits_at ys s s' e h = subst (λ x. FitsItems l ys x) (sym e) h

  pub advanced : (cs : List Counter) (xs : List (Item E P)) (g : Position) (n : ℕ) (s : S) (p' : Configuration) (s' : S) (m : Outcome E P S F) (a : Action E P V S F) → rewriting l xs s ≡ m → Simulates l instructions room cs xs g s m a → machine.GoesOn l budget a (record { position = g; counters = cs; count = n }) s p' s' → Advanced cs xs g n s p' s'
  advanced cs xs g n s p' s' m a e (moves {ys = ys} {g' = g'} st fit) h =
      record { counts = 1; ys = ys; moved = e ∙ ap (Proceeds 1 ys) (sym h.4); within = h.0; counted = h.3; stands = moved_to ys cs p'.counters g' p'.position h.2 h.1 st; fits = fits_at ys s s' h.4 fit; long = ap length h.2; keeps = subst (λ x. Keeps l.fits_expr l.fits_set l.fits_count s x) (sym h.4) (keeps_same s); falls = inl (omega arith) }
  advanced cs xs g n s p' s' m a e (leaves {ys = ys} {g' = g'} st fit lt) h =
      record { counts = 0; ys = ys; moved = e ∙ ap (Proceeds 0 ys) (sym h.4); within = h.0; counted = h.3; stands = moved_to ys cs p'.counters g' p'.position h.2 h.1 st; fits = fits_at ys s s' h.4 fit; long = ap length h.2; keeps = subst (λ x. Keeps l.fits_expr l.fits_set l.fits_count s x) (sym h.4) (keeps_same s); falls = inr (refl, subst (λ x. rank instructions x < rank instructions g) (sym h.1) lt) }
  advanced cs xs g n s p' s' m a e (puts {k = k} {p = p} {v = v} {ys = ys} {g' = g'} st fit memory) h =
      record { counts = 1; ys = ys; moved = e ∙ ap (λ r. flow.with_value k r (λ t. Proceeds 1 ys t)) h.4; within = h.0; counted = h.3; stands = moved_to ys cs p'.counters g' p'.position h.2 h.1 st; fits = kept l ys s s' (laws.assign_keeps p v s s' h.4) fit; long = ap length h.2; keeps = laws.assign_keeps p v s s' h.4; falls = inl (omega arith) }
  advanced cs xs g n s p' s' m a e (enters {ys = ys} {d = d} {n = i} {z = z} {w = w} {g' = g'} st fit) h =
      record { counts = 1; ys = ys; moved = e ∙ ap (Proceeds 1 ys) (sym h.4); within = h.0; counted = h.3; stands = moved_to ys _ p'.counters g' p'.position h.2 h.1 st; fits = fits_at ys s s' h.4 fit; long = ap length h.2 ∙ length-set cs d _; keeps = subst (λ x. Keeps l.fits_expr l.fits_set l.fits_count s x) (sym h.4) (keeps_same s); falls = inl (omega arith) }
  advanced cs xs g n s p' s' m a e (turns {ys = ys} {d = d} {p = p} {n = i} {z = z} {w = w} {g' = g'} st fit) h =
      record { counts = 1; ys = ys; moved = e ∙ ap (Proceeds 1 ys) (sym h.4); within = h.0; counted = h.3; stands = moved_to ys _ p'.counters g' p'.position h.2.2 h.1 (st h.2.0 h.2.1); fits = fits_at ys _ s' h.4 (kept l ys s _ (laws.count_keeps p i s) fit); long = ap length h.2.2 ∙ length-set cs d _; keeps = subst (λ x. Keeps l.fits_expr l.fits_set l.fits_count s x) (sym h.4) (laws.count_keeps p i s); falls = inl (omega arith) }
  advanced cs xs g n s p' s' m a e (pauses st fit) h = absurd h
  advanced cs xs g n s p' s' m a e (says st fit) h = absurd h
  advanced cs xs g n s p' s' m a e (quits st fit) h = absurd h
  advanced cs xs g n s p' s' m a e (checks st fit) h = absurd h
  advanced cs xs g n s p' s' m a e fails h = absurd h
  advanced cs xs g n s p' s' m a e ends h = absurd h

  abbrev move_counts : Outcome E P S F → ℕ
  move_counts (Proceeds k ys s) = k
  move_counts (flow.Halts k r ys s) = k
  move_counts (flow.Fails k f) = 1
  move_counts flow.Ends = 0

  given_counts : (k : ℕ) (r : Result S F) (ys : List (Item E P)) → move_counts (flow.with_value k r (λ t. Proceeds 1 ys t)) ≡ 1
  given_counts k (Ok t) ys = refl
  given_counts k (Err f) ys = refl

  simulates_counts : (cs : List Counter) (xs : List (Item E P)) (g : Position) (s : S) (m : Outcome E P S F) (a : Action E P V S F) → Simulates l instructions room cs xs g s m a → action_counts a ≡ move_counts m
  simulates_counts cs xs g s m a (moves st fit) = refl
  simulates_counts cs xs g s m a (leaves st fit lt) = refl
  simulates_counts cs xs g s m a (puts {k = k} {p = p} {v = v} {ys = ys} st fit f) = sym (given_counts k (l.assigned p v s) ys)
  simulates_counts cs xs g s m a (enters st fit) = refl
  simulates_counts cs xs g s m a (turns st fit) = refl
  simulates_counts cs xs g s m a (pauses st fit) = refl
  simulates_counts cs xs g s m a (says st fit) = refl
  simulates_counts cs xs g s m a (quits st fit) = refl
  simulates_counts cs xs g s m a (checks st fit) = refl
  simulates_counts cs xs g s m a fails = refl
  simulates_counts cs xs g s m a ends = refl

  range_counts : (b : Bool) (ys zs : List (Item E P)) (s t : S) → move_counts (cond b (Proceeds 1 ys s) (Proceeds 0 zs t)) ≡ 1 → b ≡ true
  range_counts true ys zs s t h = refl
  range_counts false ys zs s t h = absurd (omega arith)

  head_counts : (xs : List (Item E P)) (s : S) → move_counts (rewriting l xs s) ≡ 1 → does_count xs ≡ true
  head_counts [] s h = absurd (omega arith)
  head_counts (Pending k (SetStatement p e) ∷ rest) s h = refl
  head_counts (Pending k (IfStatement e a b) ∷ rest) s h = refl
  head_counts (Pending k (WhileStatement e b) ∷ rest) s h = refl
  head_counts (Pending k (CountStatement p x y v b) ∷ rest) s h = refl
  head_counts (Pending k (WaitStatement w) ∷ rest) s h = absurd (omega arith)
  head_counts (Pending k (SayStatement w) ∷ rest) s h = refl
  head_counts (Pending k (CheckStatement e) ∷ rest) s h = refl
  head_counts (Pending k StopStatement ∷ rest) s h = refl
  head_counts (Pending k BreakStatement ∷ rest) s h = refl
  head_counts (Pending k ContinueStatement ∷ rest) s h = refl
  head_counts (BegunWhile k e b ∷ rest) s h = refl
  head_counts (BegunCount k p n z w b ∷ rest) s h = range_counts (is_before n z w) _ _ _ _ h

  fails_at : (xs : List (Item E P)) (s : S) (k : ℕ) (f : F) → rewriting l xs s ≡ flow.Fails k f → flow.FailsAt l budget xs s k f
  fails_at [] s k f h = h
  fails_at (Pending i (SetStatement p e) ∷ rest) s k f h = inl h
  fails_at (Pending i (IfStatement e a b) ∷ rest) s k f h = h
  fails_at (Pending i (WhileStatement e b) ∷ rest) s k f h = h
  fails_at (Pending i (CountStatement p x y v b) ∷ rest) s k f h = h
  fails_at (Pending i (WaitStatement w) ∷ rest) s k f h = h
  fails_at (Pending i (SayStatement w) ∷ rest) s k f h = h
  fails_at (Pending i (CheckStatement e) ∷ rest) s k f h = h
  fails_at (Pending i StopStatement ∷ rest) s k f h = h
  fails_at (Pending i BreakStatement ∷ rest) s k f h = h
  fails_at (Pending i ContinueStatement ∷ rest) s k f h = h
  fails_at (BegunWhile i e b ∷ rest) s k f h = h
  fails_at (BegunCount i p n z w b ∷ rest) s k f h = h

  -- the same configuration and store
  stays : (cs : List Counter) (xs : List (Item E P)) (g : Position) (n : ℕ) (s : S) (r : Resumed F) (p' : Configuration) (s' : S) → Stands instructions room cs xs g → FitsItems l xs s → machine.Stays l budget (record { position = g; counters = cs; count = n }) s p' s' → flow.Answers l budget r xs s n xs s' p'.count → Answered cs xs g n s r p' s'
  stays cs xs g n s r p' s' st fit h a =
      record { ys = xs; answers = a; stands = moved_to xs cs p'.counters g p'.position h.1 h.0 st; fits = fits_at xs s s' h.3 fit; long = ap length h.1; same = h.3 }

  limited : (cs : List Counter) (xs : List (Item E P)) (g : Position) (n : ℕ) (s : S) (p' : Configuration) (s' : S) (m : Outcome E P S F) (a : Action E P V S F) → rewriting l xs s ≡ m → Stands instructions room cs xs g → FitsItems l xs s → Simulates l instructions room cs xs g s m a → machine.Answers l budget a TurnLimit (record { position = g; counters = cs; count = n }) s p' s' → Answered cs xs g n s TurnLimit p' s'
  limited cs xs g n s p' s' m a e st fit w h =
      stays cs xs g n s TurnLimit p' s' st fit h.2 (head_counts xs s (ap move_counts e ∙ sym (simulates_counts cs xs g s m a w) ∙ h.0), h.1, (refl, h.2.3, h.2.2))

  memory_or : (s : S) (xs : List (Item E P)) (k : ℕ) (f : F) (b : Bool) → l.is_memory f ≡ b → (r : Result S F) (ys : List (Item E P)) → rewriting l xs s ≡ flow.with_value k r (λ t. Proceeds 1 ys t) → (IsTrue (l.is_memory f) → (budget' : ℕ) → flow.FailsAt l budget' xs s k f) → Unless b (r ≡ Err f) → flow.FailsAt l budget xs s k f
  memory_or s xs k f true eb r ys e m h = m eb budget
  memory_or s xs k f false eb r ys e m h = fails_at xs s k f (e ∙ ap (λ r. flow.with_value k r (λ t. Proceeds 1 ys t)) h)

  faulted : (cs : List Counter) (xs : List (Item E P)) (g : Position) (n : ℕ) (s : S) (k : ℕ) (f : F) (p' : Configuration) (s' : S) (m : Outcome E P S F) (a : Action E P V S F) → rewriting l xs s ≡ m → Simulates l instructions room cs xs g s m a → machine.FailsBy l budget a s k f → flow.FailsAt l budget xs s k f
  faulted cs xs g n s k f p' s' m a e (moves st fit) h = absurd h
  faulted cs xs g n s k f p' s' m a e (leaves st fit lt) h = absurd h
  faulted cs xs g n s k f p' s' m a e (puts {k = i} {p = p} {v = v} {ys = ys} st fit memory) h =
      subst (λ x. flow.FailsAt l budget xs s x f) (sym h.0) (memory_or s xs i f (l.is_memory f) refl (l.assigned p v s) ys e (memory f) h.1)
  faulted cs xs g n s k f p' s' m a e (enters st fit) h = absurd h
  faulted cs xs g n s k f p' s' m a e (turns st fit) h = absurd h
  faulted cs xs g n s k f p' s' m a e (pauses st fit) h = absurd h
  faulted cs xs g n s k f p' s' m a e (says st fit) h = absurd h
  faulted cs xs g n s k f p' s' m a e (quits st fit) h = absurd h
  faulted cs xs g n s k f p' s' m a e (checks st fit) h = absurd h
  faulted cs xs g n s k f p' s' m a e (fails {k = i} {f = f0}) h =
      fails_at xs s k f (e ∙ ap (λ x. flow.Fails x f0) (sym h.0) ∙ ap (flow.Fails k) (sym h.1))
  faulted cs xs g n s k f p' s' m a e ends h = absurd h

  ended : (cs : List Counter) (xs : List (Item E P)) (g : Position) (s : S) (m : Outcome E P S F) (a : Action E P V S F) → Simulates l instructions room cs xs g s m a → a ≡ machine.Ends → m ≡ flow.Ends
  ended cs xs g s m a (moves st fit) h = cc
  ended cs xs g s m a (leaves st fit lt) h = cc
  ended cs xs g s m a (puts st fit f) h = cc
  ended cs xs g s m a (enters st fit) h = cc
  ended cs xs g s m a (turns st fit) h = cc
  ended cs xs g s m a (pauses st fit) h = cc
  ended cs xs g s m a (says st fit) h = cc
  ended cs xs g s m a (quits st fit) h = cc
  ended cs xs g s m a (checks st fit) h = cc
  ended cs xs g s m a fails h = cc
  ended cs xs g s m a ends h = refl

  waited : (cs : List Counter) (xs : List (Item E P)) (g : Position) (n : ℕ) (s : S) (w : ℕ) (p' : Configuration) (s' : S) (m : Outcome E P S F) (a : Action E P V S F) → rewriting l xs s ≡ m → Simulates l instructions room cs xs g s m a → machine.Answers l budget a (Waits w) (record { position = g; counters = cs; count = n }) s p' s' → Answered cs xs g n s (Waits w) p' s'
  waited cs xs g n s w p' s' m a e (moves st fit) h = absurd h
  waited cs xs g n s w p' s' m a e (leaves st fit lt) h = absurd h
  waited cs xs g n s w p' s' m a e (puts st fit f) h = absurd h
  waited cs xs g n s w p' s' m a e (enters st fit) h = absurd h
  waited cs xs g n s w p' s' m a e (turns st fit) h = absurd h
  waited cs xs g n s w p' s' m a e (pauses {w = i} {ys = ys} {g' = g'} st fit) h =
      record { ys = ys; answers = (e ∙ ap (λ r. flow.Halts 0 r ys s) (sym h.0) ∙ ap (λ t. flow.Halts 0 (Waits w) ys t) (sym h.1.3), h.1.2); stands = moved_to ys cs p'.counters g' p'.position h.1.1 h.1.0 st; fits = fits_at ys s s' h.1.3 fit; long = ap length h.1.1; same = h.1.3 }
  waited cs xs g n s w p' s' m a e (says st fit) h = let e : _ ≡ _ = h.0 in absurd (cc)
  waited cs xs g n s w p' s' m a e (quits st fit) h = let e : _ ≡ _ = h.0 in absurd (cc)
  waited cs xs g n s w p' s' m a e (checks st fit) h = let e : _ ≡ _ = h.0 in absurd (cc)
  waited cs xs g n s w p' s' m a e fails h = absurd h
  waited cs xs g n s w p' s' m a e ends h = absurd h

  said : (cs : List Counter) (xs : List (Item E P)) (g : Position) (n : ℕ) (s : S) (w : ℕ) (p' : Configuration) (s' : S) (m : Outcome E P S F) (a : Action E P V S F) → rewriting l xs s ≡ m → Simulates l instructions room cs xs g s m a → machine.Answers l budget a (Says w) (record { position = g; counters = cs; count = n }) s p' s' → Answered cs xs g n s (Says w) p' s'
  said cs xs g n s w p' s' m a e (moves st fit) h = absurd h
  said cs xs g n s w p' s' m a e (leaves st fit lt) h = absurd h
  said cs xs g n s w p' s' m a e (puts st fit f) h = absurd h
  said cs xs g n s w p' s' m a e (enters st fit) h = absurd h
  said cs xs g n s w p' s' m a e (turns st fit) h = absurd h
  said cs xs g n s w p' s' m a e (pauses st fit) h = let e : _ ≡ _ = h.0 in absurd (cc)
  said cs xs g n s w p' s' m a e (says {w = i} {ys = ys} {g' = g'} st fit) h =
      record { ys = ys; answers = (e ∙ ap (λ r. flow.Halts 1 r ys s) (sym h.0) ∙ ap (λ t. flow.Halts 1 (Says w) ys t) (sym h.1.4), omega (arith, h.1.0), h.1.3); stands = moved_to ys cs p'.counters g' p'.position h.1.2 h.1.1 st; fits = fits_at ys s s' h.1.4 fit; long = ap length h.1.2; same = h.1.4 }
  said cs xs g n s w p' s' m a e (quits st fit) h = let e : _ ≡ _ = h.0 in absurd (cc)
  said cs xs g n s w p' s' m a e (checks st fit) h = let e : _ ≡ _ = h.0 in absurd (cc)
  said cs xs g n s w p' s' m a e fails h = absurd h
  said cs xs g n s w p' s' m a e ends h = absurd h

  stopped : (cs : List Counter) (xs : List (Item E P)) (g : Position) (n : ℕ) (s : S) (p' : Configuration) (s' : S) (m : Outcome E P S F) (a : Action E P V S F) → rewriting l xs s ≡ m → Simulates l instructions room cs xs g s m a → machine.Answers l budget a (Stopped) (record { position = g; counters = cs; count = n }) s p' s' → Answered cs xs g n s (Stopped) p' s'
  stopped cs xs g n s p' s' m a e (moves st fit) h = absurd h
  stopped cs xs g n s p' s' m a e (leaves st fit lt) h = absurd h
  stopped cs xs g n s p' s' m a e (puts st fit f) h = absurd h
  stopped cs xs g n s p' s' m a e (enters st fit) h = absurd h
  stopped cs xs g n s p' s' m a e (turns st fit) h = absurd h
  stopped cs xs g n s p' s' m a e (pauses st fit) h = let e : _ ≡ _ = h.0 in absurd (cc)
  stopped cs xs g n s p' s' m a e (says st fit) h = let e : _ ≡ _ = h.0 in absurd (cc)
  stopped cs xs g n s p' s' m a e (quits {ys = ys} {g' = g'} st fit) h =
      record { ys = ys; answers = (e ∙ ap (λ r. flow.Halts 1 r ys s) (sym h.0) ∙ ap (λ t. flow.Halts 1 (Stopped) ys t) (sym h.1.4), omega (arith, h.1.0), h.1.3); stands = moved_to ys cs p'.counters g' p'.position h.1.2 h.1.1 st; fits = fits_at ys s s' h.1.4 fit; long = ap length h.1.2; same = h.1.4 }
  stopped cs xs g n s p' s' m a e (checks st fit) h = let e : _ ≡ _ = h.0 in absurd (cc)
  stopped cs xs g n s p' s' m a e fails h = absurd h
  stopped cs xs g n s p' s' m a e ends h = absurd h

  check_failed : (cs : List Counter) (xs : List (Item E P)) (g : Position) (n : ℕ) (s : S) (w : ℕ) (p' : Configuration) (s' : S) (m : Outcome E P S F) (a : Action E P V S F) → rewriting l xs s ≡ m → Simulates l instructions room cs xs g s m a → machine.Answers l budget a (CheckFailed w) (record { position = g; counters = cs; count = n }) s p' s' → Answered cs xs g n s (CheckFailed w) p' s'
  check_failed cs xs g n s w p' s' m a e (moves st fit) h = absurd h
  check_failed cs xs g n s w p' s' m a e (leaves st fit lt) h = absurd h
  check_failed cs xs g n s w p' s' m a e (puts st fit f) h = absurd h
  check_failed cs xs g n s w p' s' m a e (enters st fit) h = absurd h
  check_failed cs xs g n s w p' s' m a e (turns st fit) h = absurd h
  check_failed cs xs g n s w p' s' m a e (pauses st fit) h = let e : _ ≡ _ = h.0 in absurd (cc)
  check_failed cs xs g n s w p' s' m a e (says st fit) h = let e : _ ≡ _ = h.0 in absurd (cc)
  check_failed cs xs g n s w p' s' m a e (quits st fit) h = let e : _ ≡ _ = h.0 in absurd (cc)
  check_failed cs xs g n s w p' s' m a e (checks {k = i} {ys = ys} {g' = g'} st fit) h =
      record { ys = ys; answers = (e ∙ ap (λ r. flow.Halts 1 r ys s) (sym h.0) ∙ ap (λ t. flow.Halts 1 (CheckFailed w) ys t) (sym h.1.4), omega (arith, h.1.0), h.1.3); stands = moved_to ys cs p'.counters g' p'.position h.1.2 h.1.1 st; fits = fits_at ys s s' h.1.4 fit; long = ap length h.1.2; same = h.1.4 }
  check_failed cs xs g n s w p' s' m a e fails h = absurd h
  check_failed cs xs g n s w p' s' m a e ends h = absurd h

  pub answered : (cs : List Counter) (xs : List (Item E P)) (g : Position) (n : ℕ) (s : S) (r : Resumed F) (p' : Configuration) (s' : S) (m : Outcome E P S F) (a : Action E P V S F) → rewriting l xs s ≡ m → Stands instructions room cs xs g → FitsItems l xs s → Simulates l instructions room cs xs g s m a → machine.Answers l budget a r (record { position = g; counters = cs; count = n }) s p' s' → Answered cs xs g n s r p' s'
  answered cs xs g n s (Waits w) p' s' m a e st fit x h = waited cs xs g n s w p' s' m a e x h
  answered cs xs g n s (Says w) p' s' m a e st fit x h = said cs xs g n s w p' s' m a e x h
  answered cs xs g n s Stopped p' s' m a e st fit x h = stopped cs xs g n s p' s' m a e x h
  answered cs xs g n s (CheckFailed w) p' s' m a e st fit x h = check_failed cs xs g n s w p' s' m a e x h
  answered cs xs g n s Ended p' s' m a e st fit x h =
      stays cs xs g n s Ended p' s' st fit h.1 (e ∙ ended cs xs g s m a x h.0, (refl, h.1.3, h.1.2))
  answered cs xs g n s (Fault k f) p' s' m a e st fit x h =
      stays cs xs g n s (Fault k f) p' s' st fit h.2 (h.0, faulted cs xs g n s k f p' s' m a e x h.1, (refl, h.2.3, h.2.2))
  answered cs xs g n s TurnLimit p' s' m a e st fit x h = limited cs xs g n s p' s' m a e st fit x h
