-- What the code does at a position simulates the rewriting of the items that the position stands for.
use Rattle.std.proofs.Common.{◌≡◌, ℕ, zero, suc, ◌+◌, ◌<◌, ◌≤◌, ℤ, ◌+ℤ◌, Bool, true, false, cond, List, [], ◌∷◌, length, Option, Some, None, Result, Ok, Err, refl, sym, ap, ◌∙◌, subst, arith, inr}
use Rattle.std.specs.Prelude.{slice_get, slice_set, IsTrue}
use Rattle.std.proofs.lemmas.Option.{slice_get_past}
use Rattle.mh_flow.specs.declared.lang.Lang.{Ghosts}
use Rattle.mh_flow.specs.declared.resumed.Resumed.TheVariants.{Waits, Says, Stopped, CheckFailed}
use Rattle.mh_flat.specs.declared.code.Position.{Position}
use Rattle.mh_flat.specs.declared.code.Operation.{Operation}
use Rattle.mh_flat.specs.declared.code.Operation.TheVariants.{Assign, Branch, Repeat, Iterate, Suspend, Report, Assert, Finish, Jump}
use Rattle.mh_flat.specs.declared.code.Instruction.{Instruction}
use Rattle.mh_flat.specs.declared.code.Counter.{Counter}
use Rattle.mh_flow.specs.Flow as flow
use Rattle.mh_flow.specs.Flow.{Statement, Block, Item, SetStatement, IfStatement, WhileStatement, CountStatement, WaitStatement, SayStatement, CheckStatement, StopStatement, BreakStatement, ContinueStatement, End, Then, Pending, BegunWhile, BegunCount, size, block_size, block_items, after_loop, from_loop, is_before, Outcome, Proceeds, rewriting, does_count}
use Rattle.mh_flat.specs.Machine as machine
use Rattle.mh_flat.specs.Machine.{Action, Moves, Assigns, Enters, Turns, operation_action, action_at, action_counts, IsNext}
use Rattle.mh_flat.specs.Fits.{FitsStatement, FitsItems}
use Rattle.mh_flat.specs.Stands.{fresh, begun, first, HasInstruction, HasStatement, HasBlock, Does, Stands, end}
use Rattle.mh_flat.specs.Fits.{fits_todo, fits_after, fits_from}

pub get_set_same : {A : Type 0} (xs : List A) (i : ℕ) (x : A) → i < length xs → slice_get (slice_set xs i x) i ≡ Some x
get_set_same [] i x h = absurd (omega arith)
get_set_same (y ∷ xs) zero x h = refl
get_set_same (y ∷ xs) (suc i) x h = get_set_same xs i x (omega arith)

get_set_below : {A : Type 0} (xs : List A) (i j : ℕ) (x : A) → j < i → slice_get (slice_set xs i x) j ≡ slice_get xs j
get_set_below [] i j x h = refl
get_set_below (y ∷ xs) zero j x h = absurd (omega arith)
get_set_below (y ∷ xs) (suc i) zero x h = refl
get_set_below (y ∷ xs) (suc i) (suc j) x h = get_set_below xs i j x (omega arith)

-- how many counted loops are around a position that is a counted loop which has begun
abbrev operation_rank : {L E P V S F : Type 0} → Operation L E P V S F → Bool → ℕ
operation_rank (Iterate p a z d depth b) true = suc depth
operation_rank operation begun = 0

abbrev rank_at : {L E P V S F : Type 0} → Option (Instruction L E P V S F) → Bool → ℕ
rank_at None b = 0
rank_at (Some instruction) b = operation_rank instruction.operation b

abbrev pub rank : {L E P V S F : Type 0} → List (Instruction L E P V S F) → Position → ℕ
rank instructions g = rank_at (slice_get instructions g.at) g.begun

module _ {L E P V S F : Type 0} (instructions : List (Instruction L E P V S F)) (room : ℕ) where
  pub does_block : (cs : List Counter) (b : Block E P) (k : ℕ) (rest : List (Item E P)) (after leave again : Position) (d : ℕ) → HasBlock instructions room b k after leave again d → Does instructions room cs rest after leave again d → Does instructions room cs (block_items k b rest) (first k b after) leave again d
  does_block cs End k rest after leave again d h r = r
  does_block cs (Then t b) k rest after leave again d h r =
      (refl, (first (k + size t) b after, h.0, does_block cs b (k + size t) rest after leave again d h.1 r))

  pub does_after : (cs : List Counter) (xs : List (Item E P)) (g leave again : Position) (d : ℕ) → Does instructions room cs xs g leave again d → Stands instructions room cs (after_loop xs) leave
  does_after cs [] g leave again d h =
      record { leave = end instructions room; again = end instructions room; depth = d; does = (h.1, refl, refl) }
  does_after cs (Pending k t ∷ rest) g leave again d h = does_after cs rest h.1.0 leave again d h.1.2
  does_after cs (BegunWhile k e b ∷ rest) g leave again d h =
      record { leave = h.2.0; again = h.2.1; depth = d; does = h.2.3 }
  does_after cs (BegunCount k p n z w b ∷ rest) g leave again d h =
      record { leave = h.2.0; again = h.2.1; depth = h.2.2; does = h.2.9 }

  pub does_from : (cs : List Counter) (xs : List (Item E P)) (g leave again : Position) (d : ℕ) → Does instructions room cs xs g leave again d → Stands instructions room cs (from_loop xs) again
  does_from cs [] g leave again d h =
      record { leave = end instructions room; again = end instructions room; depth = d; does = (h.2, refl, refl) }
  does_from cs (Pending k t ∷ rest) g leave again d h = does_from cs rest h.1.0 leave again d h.1.2
  does_from cs (BegunWhile k e b ∷ rest) g leave again d h =
      record { leave = leave; again = again; depth = d; does = (h.1, h.1, h.2) }
  does_from cs (BegunCount k p n z w b ∷ rest) g leave again d h =
      record { leave = leave; again = again; depth = d; does = (h.1, h.1, h.2) }

  -- a write to a counter further in changes nothing
  pub does_set : (cs : List Counter) (xs : List (Item E P)) (i : ℕ) (c : Counter) (g leave again : Position) (d : ℕ) → d ≤ i → Does instructions room cs xs g leave again d → Does instructions room (slice_set cs i c) xs g leave again d
  does_set cs [] i c g leave again d le h = h
  does_set cs (Pending k t ∷ rest) i c g leave again d le h =
      (h.0, (h.1.0, h.1.1, does_set cs rest i c h.1.0 leave again d le h.1.2))
  does_set cs (BegunWhile k e b ∷ rest) i c g leave again d le h =
      (h.0, h.1, (h.2.0, h.2.1, h.2.2, does_set cs rest i c leave h.2.0 h.2.1 d le h.2.3))
  does_set cs (BegunCount k p n z w b ∷ rest) i c g leave again d le h =
      let lt : h.2.2 < i = omega (arith, h.2.6) in
      (h.0, h.1, (h.2.0, h.2.1, h.2.2, h.2.3, h.2.4, h.2.5, h.2.6, h.2.7, (h.2.8.0, h.2.8.1, get_set_below cs i h.2.2 c lt ∙ h.2.8.2), does_set cs rest i c leave h.2.0 h.2.1 h.2.2 (omega arith) h.2.9))

  pub rank_is : (g : Position) (k : ℕ) (b : Bool) (operation : Operation L E P V S F) (after : Position) → g ≡ record { at = k; begun = b } → HasInstruction instructions room k operation after → rank instructions g ≡ operation_rank operation b
  rank_is g k b operation after e h = ap (rank instructions) e ∙ ap (λ o. rank_at o b) h

  op_rank_fresh : (operation : Operation L E P V S F) → operation_rank operation false ≡ 0
  op_rank_fresh (Assign p e) = refl
  op_rank_fresh (Branch e a b) = refl
  op_rank_fresh (Repeat e b) = refl
  op_rank_fresh (Iterate p a z d depth b) = refl
  op_rank_fresh (Suspend w) = refl
  op_rank_fresh (Report w) = refl
  op_rank_fresh (Assert e) = refl
  op_rank_fresh Finish = refl
  op_rank_fresh Jump = refl

  rank_at_fresh : (o : Option (Instruction L E P V S F)) → rank_at o false ≡ 0
  rank_at_fresh None = refl
  rank_at_fresh (Some instruction) = op_rank_fresh instruction.operation

  rank_fresh : (g : Position) (k : ℕ) → g ≡ fresh k → rank instructions g ≡ 0
  rank_fresh g k e = ap (rank instructions) e ∙ rank_at_fresh (slice_get instructions k)

  pub rank_depth : (cs : List Counter) (xs : List (Item E P)) (g leave again : Position) (d : ℕ) → Does instructions room cs xs g leave again d → rank instructions g ≤ d
  rank_depth cs [] g leave again d h = omega (arith, rank_fresh g (length instructions) h.0)
  rank_depth cs (Pending k t ∷ rest) g leave again d h = omega (arith, rank_fresh g k h.0)
  rank_depth cs (BegunWhile k e b ∷ rest) g leave again d h = omega (arith, rank_is g k true _ _ h.0 h.2.2.0)
  rank_depth cs (BegunCount k p n z w b ∷ rest) g leave again d h =
      omega (arith, rank_is g k true _ _ h.0 h.2.7.1, h.2.6)

  pub rank_room : (cs : List Counter) (xs : List (Item E P)) (g leave again : Position) (d : ℕ) → Does instructions room cs xs g leave again d → rank instructions g ≤ room
  rank_room cs [] g leave again d h = omega (arith, rank_fresh g (length instructions) h.0)
  rank_room cs (Pending k t ∷ rest) g leave again d h = omega (arith, rank_fresh g k h.0)
  rank_room cs (BegunWhile k e b ∷ rest) g leave again d h = omega (arith, rank_is g k true _ _ h.0 h.2.2.0)
  rank_room cs (BegunCount k p n z w b ∷ rest) g leave again d h =
      omega (arith, rank_is g k true _ _ h.0 h.2.7.1, h.2.7.0)

module _ {L E P V S F : Type 0} (l : Ghosts L E P V S F) (instructions : List (Instruction L E P V S F)) (room : ℕ) where
  -- a rewriting of what is left, and the action that does it
  pub data Simulates (cs : List Counter) (xs : List (Item E P)) (g : Position) (s : S) : Outcome E P S F → Action E P V S F → Type 0 where
    moves : {ys : List (Item E P)} {g' : Position} → Stands instructions room cs ys g' → FitsItems l ys s → Simulates cs xs g s (Proceeds 1 ys s) (Moves 1 g')
    leaves : {ys : List (Item E P)} {g' : Position} → Stands instructions room cs ys g' → FitsItems l ys s → rank instructions g' < rank instructions g → Simulates cs xs g s (Proceeds 0 ys s) (Moves 0 g')
    puts : {k : ℕ} {p : P} {v : V} {ys : List (Item E P)} {g' : Position} → Stands instructions room cs ys g' → FitsItems l ys s → ((f : F) → IsTrue (l.is_memory f) → (budget : ℕ) → flow.FailsAt l budget xs s k f) → Simulates cs xs g s (flow.with_value k (l.assigned p v s) (λ t. Proceeds 1 ys t)) (Assigns k p v g')
    enters : {ys : List (Item E P)} {d : ℕ} {n z w : ℤ} {g' : Position} → Stands instructions room (slice_set cs d (record { next = Some n; to = z; step = w })) ys g' → FitsItems l ys s → Simulates cs xs g s (Proceeds 1 ys s) (Enters d n z w g')
    turns : {ys : List (Item E P)} {d : ℕ} {p : P} {n z w : ℤ} {g' : Position} → ((o : Option ℤ) → IsNext o (n +ℤ w) z w → Stands instructions room (slice_set cs d (record { next = o; to = z; step = w })) ys g') → FitsItems l ys s → Simulates cs xs g s (Proceeds 1 ys (l.counted p n s)) (Turns d p n z w g')
    pauses : {w : ℕ} {ys : List (Item E P)} {g' : Position} → Stands instructions room cs ys g' → FitsItems l ys s → Simulates cs xs g s (flow.Halts 0 (Waits w) ys s) (machine.Halts 0 (Waits w) g')
    says : {w : ℕ} {ys : List (Item E P)} {g' : Position} → Stands instructions room cs ys g' → FitsItems l ys s → Simulates cs xs g s (flow.Halts 1 (Says w) ys s) (machine.Halts 1 (Says w) g')
    quits : {ys : List (Item E P)} {g' : Position} → Stands instructions room cs ys g' → FitsItems l ys s → Simulates cs xs g s (flow.Halts 1 Stopped ys s) (machine.Halts 1 Stopped g')
    checks : {k : ℕ} {ys : List (Item E P)} {g' : Position} → Stands instructions room cs ys g' → FitsItems l ys s → Simulates cs xs g s (flow.Halts 1 (CheckFailed k) ys s) (machine.Halts 1 (CheckFailed k) g')
    fails : {k : ℕ} {f : F} → Simulates cs xs g s (flow.Fails k f) (machine.Fails k f)
    ends : Simulates cs xs g s flow.Ends machine.Ends

  simulates_value : {A : Type 0} (cs : List Counter) (xs : List (Item E P)) (g : Position) (s : S) (k : ℕ) (r : Result A F) (go : A → Outcome E P S F) (go' : A → Action E P V S F) → ((x : A) → Simulates cs xs g s (go x) (go' x)) → Simulates cs xs g s (flow.with_value k r go) (machine.with_value k r go')
  simulates_value cs xs g s k (Ok x) go go' h = h x
  simulates_value cs xs g s k (Err f) go go' h = fails

  -- the instruction at the position
  at_instruction : (cs : List Counter) (xs : List (Item E P)) (g : Position) (s : S) (m : Outcome E P S F) (k : ℕ) (b : Bool) (operation : Operation L E P V S F) (after : Position) → g ≡ record { at = k; begun = b } → HasInstruction instructions room k operation after → Simulates cs xs g s m (operation_action l operation after (record { at = k; begun = b }) cs s) → Simulates cs xs g s m (action_at l (slice_get instructions g.at) g cs s)
  at_instruction cs xs g s m k b operation after e h r =
      let a : action_at l (slice_get instructions g.at) g cs s ≡ operation_action l operation after (record { at = k; begun = b }) cs s = ap (λ (x : Position). action_at l (slice_get instructions x.at) x cs s) e ∙ ap (λ o. action_at l o (record { at = k; begun = b }) cs s) h in
      subst (λ x. Simulates cs xs g s m x) (sym a) r

  simulates_if : (cs : List Counter) (xs : List (Item E P)) (g : Position) (s : S) (b : Bool) (ys zs : List (Item E P)) (g1 g2 : Position) → Stands instructions room cs ys g1 → FitsItems l ys s → Stands instructions room cs zs g2 → FitsItems l zs s → Simulates cs xs g s (Proceeds 1 (cond b ys zs) s) (Moves 1 (cond b g1 g2))
  simulates_if cs xs g s true ys zs g1 g2 h f i e = moves h f
  simulates_if cs xs g s false ys zs g1 g2 h f i e = moves i e

  simulates_check : (cs : List Counter) (xs : List (Item E P)) (g : Position) (s : S) (b : Bool) (k : ℕ) (ys : List (Item E P)) (g1 : Position) → Stands instructions room cs ys g1 → FitsItems l ys s → Simulates cs xs g s (cond b (Proceeds 1 ys s) (flow.Halts 1 (CheckFailed k) ys s)) (cond b (Moves 1 g1) (machine.Halts 1 (CheckFailed k) g1))
  simulates_check cs xs g s true k ys g1 h f = moves h f
  simulates_check cs xs g s false k ys g1 h f = checks h f

  simulates_cond : (cs : List Counter) (xs : List (Item E P)) (g : Position) (s : S) (b : Bool) (m1 m2 : Outcome E P S F) (a1 a2 : Action E P V S F) → Simulates cs xs g s m1 a1 → Simulates cs xs g s m2 a2 → Simulates cs xs g s (cond b m1 m2) (cond b a1 a2)
  simulates_cond cs xs g s true m1 m2 a1 a2 h k = h
  simulates_cond cs xs g s false m1 m2 a1 a2 h k = k

  simulates_number : (cs : List Counter) (xs : List (Item E P)) (g : Position) (s : S) (depth k : ℕ) (p : P) (b : Block E P) (rest : List (Item E P)) (body after : Position) (o : Option ℤ) (n z w : ℤ) → IsNext o n z w → Simulates cs xs g s (Proceeds 1 (block_items (k + 1) b (BegunCount k p (n +ℤ w) z w b ∷ rest)) (l.counted p n s)) (Turns depth p n z w body) → Simulates cs xs g s (Proceeds 0 rest s) (Moves 0 after) → Simulates cs xs g s (flow.count_turn l k p n z w b rest s) (machine.number_turn depth p body after o z w)
  simulates_number cs xs g s depth k p b rest body after None n z w i t e = rw i e
  simulates_number cs xs g s depth k p b rest body after (Some m) n z w i t e =
      rw i (simulates_cond cs xs g s (is_before n z w) _ _ _ _ t e)

  stand : (cs : List Counter) (xs : List (Item E P)) (g leave again : Position) (d : ℕ) → Does instructions room cs xs g leave again d → Stands instructions room cs xs g
  stand cs xs g leave again d h = record { leave = leave; again = again; depth = d; does = h }

  simulates_while : (cs : List Counter) (xs : List (Item E P)) (g : Position) (s : S) (k : ℕ) (f : Bool) (e : E) (b : Block E P) (rest : List (Item E P)) (after leave again : Position) (d : ℕ) → g ≡ record { at = k; begun = f } → HasStatement instructions room (WhileStatement e b) k after leave again d → Does instructions room cs rest after leave again d → FitsStatement l (WhileStatement e b) s → FitsItems l rest s → Simulates cs xs g s (flow.while_turn l k e b rest s) (action_at l (slice_get instructions g.at) g cs s)
  simulates_while cs xs g s k f e b rest after leave again d eg hs hr fb fr =
      at_instruction cs xs g s _ k f _ after eg hs.0 (simulates_value cs xs g s k (l.value_of e s) _ _ (λ v. simulates_if cs xs g s (l.is_true v) (block_items (k + 1) b (BegunWhile k e b ∷ rest)) rest (first (k + 1) b (begun k)) after (stand cs _ _ after (begun k) d (does_block instructions room cs b (k + 1) (BegunWhile k e b ∷ rest) (begun k) after (begun k) d hs.1 (refl, refl, (leave, again, hs, hr)))) (fits_todo l b (k + 1) (BegunWhile k e b ∷ rest) s fb.1 (fb.0, fb.1, fr)) (stand cs _ _ leave again d hr) fr))

  pub simulation : (cs : List Counter) (xs : List (Item E P)) (g leave again : Position) (d : ℕ) (s : S) → room ≡ length cs → Does instructions room cs xs g leave again d → FitsItems l xs s → Simulates cs xs g s (rewriting l xs s) (action_at l (slice_get instructions g.at) g cs s)
  simulation cs [] g leave again d s len h fit =
      let a : action_at l (slice_get instructions g.at) g cs s ≡ machine.Ends = ap (λ (x : Position). action_at l (slice_get instructions x.at) x cs s) h.0 ∙ ap (λ o. action_at l o (end instructions room) cs s) (slice_get_past instructions (length instructions) (omega arith)) in
      subst (λ x. Simulates cs [] g s flow.Ends x) (sym a) ends
  simulation cs (Pending k (SetStatement p e) ∷ rest) g leave again d s len h fit =
      at_instruction cs _ g s _ k false _ h.1.0 h.0 h.1.1 (simulates_value cs _ g s k (l.value_of e s) _ _ (λ v. puts (stand cs rest h.1.0 leave again d h.1.2) fit.1 (λ f m b. inr (refl, m))))
  simulation cs (Pending k (IfStatement e a b) ∷ rest) g leave again d s len h fit =
      at_instruction cs _ g s _ k false _ h.1.0 h.0 h.1.1.0 (simulates_value cs _ g s k (l.value_of e s) _ _ (λ v. simulates_if cs _ g s (l.is_true v) (block_items (k + 1) a rest) (block_items (k + 1 + block_size a) b rest) _ _ (stand cs _ _ leave again d (does_block instructions room cs a (k + 1) rest h.1.0 leave again d h.1.1.1 h.1.2)) (fits_todo l a (k + 1) rest s fit.0.1 fit.1) (stand cs _ _ leave again d (does_block instructions room cs b (k + 1 + block_size a) rest h.1.0 leave again d h.1.1.2 h.1.2)) (fits_todo l b (k + 1 + block_size a) rest s fit.0.2 fit.1)))
  simulation cs (Pending k (WhileStatement e b) ∷ rest) g leave again d s len h fit =
      simulates_while cs _ g s k false e b rest h.1.0 leave again d h.0 h.1.1 h.1.2 fit.0 fit.1
  simulation cs (Pending k (CountStatement p x y v b) ∷ rest) g leave again d s len h fit =
      let after = h.1.0 in
      let hs : HasStatement instructions room (CountStatement p x y v b) k after leave again d = h.1.1 in
      let lt : d < length cs = omega (arith, hs.0) in
      at_instruction cs _ g s _ k false _ after h.0 hs.1 (simulates_value cs _ g s k (l.value_of x s) _ _ (λ a. simulates_value cs _ g s k (l.value_of y s) _ _ (λ z. simulates_value cs _ g s k (l.value_of v s) _ _ (λ w. enters (stand _ _ (begun k) after (begun k) (suc d) (refl, refl, (leave, again, d, x, y, v, refl, hs, (Some (l.number_of a), refl, get_set_same cs d _ lt), does_set instructions room cs rest d _ after leave again d (omega arith) h.1.2))) (fit.0.3, fit.0.4, fit.1)))))
  simulation cs (Pending k (WaitStatement w) ∷ rest) g leave again d s len h fit =
      at_instruction cs _ g s _ k false _ h.1.0 h.0 h.1.1 (pauses (stand cs rest h.1.0 leave again d h.1.2) fit.1)
  simulation cs (Pending k (SayStatement w) ∷ rest) g leave again d s len h fit =
      at_instruction cs _ g s _ k false _ h.1.0 h.0 h.1.1 (says (stand cs rest h.1.0 leave again d h.1.2) fit.1)
  simulation cs (Pending k (CheckStatement e) ∷ rest) g leave again d s len h fit =
      at_instruction cs _ g s _ k false _ h.1.0 h.0 h.1.1 (simulates_value cs _ g s k (l.value_of e s) _ _ (λ v. simulates_check cs _ g s (l.is_true v) k rest h.1.0 (stand cs rest h.1.0 leave again d h.1.2) fit.1))
  simulation cs (Pending k StopStatement ∷ rest) g leave again d s len h fit =
      at_instruction cs _ g s _ k false _ h.1.0 h.0 h.1.1 (quits (stand cs rest h.1.0 leave again d h.1.2) fit.1)
  simulation cs (Pending k BreakStatement ∷ rest) g leave again d s len h fit =
      at_instruction cs _ g s _ k false _ leave h.0 h.1.1 (moves (does_after instructions room cs rest h.1.0 leave again d h.1.2) (fits_after l rest s fit.1))
  simulation cs (Pending k ContinueStatement ∷ rest) g leave again d s len h fit =
      at_instruction cs _ g s _ k false _ again h.0 h.1.1 (moves (does_from instructions room cs rest h.1.0 leave again d h.1.2) (fits_from l rest s fit.1))
  simulation cs (BegunWhile k e b ∷ rest) g leave again d s len h fit =
      simulates_while cs _ g s k true e b rest leave h.2.0 h.2.1 d h.0 h.2.2 h.2.3 (fit.0, fit.1) fit.2
  simulation cs (BegunCount k p n z w b ∷ rest) g leave again d s len h fit =
      let lv = h.2.0 in
      let ag = h.2.1 in
      let d' = h.2.2 in
      let hs : HasStatement instructions room (CountStatement p h.2.3 h.2.4 h.2.5 b) k leave lv ag d' = h.2.7 in
      let hr : Does instructions room cs rest leave lv ag d' = h.2.9 in
      let o = h.2.8.0 in
      let lt : d' < length cs = omega (arith, hs.0) in
      let xs = BegunCount k p n z w b ∷ rest in
      let on : Simulates cs xs g s (rewriting l xs s) (machine.number_turn d' p (first (k + 1) b (begun k)) leave o z w) = simulates_number cs xs g s d' k p b rest (first (k + 1) b (begun k)) leave o n z w h.2.8.1 (turns (λ o' i. stand _ _ _ leave (begun k) (suc d') (does_block instructions room _ b (k + 1) (BegunCount k p (n +ℤ w) z w b ∷ rest) (begun k) leave (begun k) (suc d') hs.2 (refl, refl, (lv, ag, d', h.2.3, h.2.4, h.2.5, refl, hs, (o', i, get_set_same cs d' _ lt), does_set instructions room cs rest d' _ leave lv ag d' (omega arith) hr)))) (fits_todo l b (k + 1) (BegunCount k p (n +ℤ w) z w b ∷ rest) s fit.1 fit)) (leaves (stand cs rest leave lv ag d' hr) fit.2 (omega (arith, rank_depth instructions room cs rest leave lv ag d' hr, rank_is instructions room g k true _ _ h.0 hs.1))) in
      at_instruction cs _ g s _ k true _ leave h.0 hs.1 (subst (λ c. Simulates cs xs g s (rewriting l xs s) (machine.counter_turn d' p (first (k + 1) b (begun k)) leave c)) (sym h.2.8.2) on)

  -- what is asked of the instruction at a position
  on_instruction : (g : Position) (k : ℕ) (b : Bool) (operation : Operation L E P V S F) (after : Position) (Q : Bool → Operation L E P V S F → Type 0) → g ≡ record { at = k; begun = b } → HasInstruction instructions room k operation after → Q b operation → machine.OnInstruction (slice_get instructions g.at) (Q g.begun)
  on_instruction g k b operation after Q e h q =
      subst (λ (x : Position). machine.OnInstruction (slice_get instructions x.at) (Q x.begun)) (sym e) (subst (λ o. machine.OnInstruction o (Q b)) (sym h) q)

  pub instruction_fits : (cs : List Counter) (xs : List (Item E P)) (g leave again : Position) (d : ℕ) (s : S) → Does instructions room cs xs g leave again d → FitsItems l xs s → machine.OnInstruction (slice_get instructions g.at) (λ operation. machine.FitsOperation l operation g.begun s)
  instruction_fits cs [] g leave again d s h fit =
      subst (λ (x : Position). machine.OnInstruction (slice_get instructions x.at) (λ operation. machine.FitsOperation l operation x.begun s)) (sym h.0) (subst (λ o. machine.OnInstruction o (λ operation. machine.FitsOperation l operation false s)) (sym (slice_get_past instructions (length instructions) (omega arith))) tt)
  instruction_fits cs (Pending k (SetStatement p e) ∷ rest) g leave again d s h fit =
      on_instruction g k false _ _ (λ b operation. machine.FitsOperation l operation b s) h.0 h.1.1 fit.0
  instruction_fits cs (Pending k (IfStatement e a b) ∷ rest) g leave again d s h fit =
      on_instruction g k false _ _ (λ b operation. machine.FitsOperation l operation b s) h.0 h.1.1.0 fit.0.0
  instruction_fits cs (Pending k (WhileStatement e b) ∷ rest) g leave again d s h fit =
      on_instruction g k false _ _ (λ b operation. machine.FitsOperation l operation b s) h.0 h.1.1.0 fit.0.0
  instruction_fits cs (Pending k (CountStatement p x y v b) ∷ rest) g leave again d s h fit =
      on_instruction g k false _ _ (λ b operation. machine.FitsOperation l operation b s) h.0 h.1.1.1 (fit.0.0, fit.0.1, fit.0.2)
  instruction_fits cs (Pending k (WaitStatement w) ∷ rest) g leave again d s h fit =
      on_instruction g k false _ _ (λ b operation. machine.FitsOperation l operation b s) h.0 h.1.1 tt
  instruction_fits cs (Pending k (SayStatement w) ∷ rest) g leave again d s h fit =
      on_instruction g k false _ _ (λ b operation. machine.FitsOperation l operation b s) h.0 h.1.1 tt
  instruction_fits cs (Pending k (CheckStatement e) ∷ rest) g leave again d s h fit =
      on_instruction g k false _ _ (λ b operation. machine.FitsOperation l operation b s) h.0 h.1.1 fit.0
  instruction_fits cs (Pending k StopStatement ∷ rest) g leave again d s h fit =
      on_instruction g k false _ _ (λ b operation. machine.FitsOperation l operation b s) h.0 h.1.1 tt
  instruction_fits cs (Pending k BreakStatement ∷ rest) g leave again d s h fit =
      on_instruction g k false _ _ (λ b operation. machine.FitsOperation l operation b s) h.0 h.1.1 tt
  instruction_fits cs (Pending k ContinueStatement ∷ rest) g leave again d s h fit =
      on_instruction g k false _ _ (λ b operation. machine.FitsOperation l operation b s) h.0 h.1.1 tt
  instruction_fits cs (BegunWhile k e b ∷ rest) g leave again d s h fit =
      on_instruction g k true _ _ (λ b operation. machine.FitsOperation l operation b s) h.0 h.2.2.0 fit.0
  instruction_fits cs (BegunCount k p n z w b ∷ rest) g leave again d s h fit =
      on_instruction g k true _ _ (λ b operation. machine.FitsOperation l operation b s) h.0 h.2.7.1 fit.0

  pub instruction_room : (cs : List Counter) (xs : List (Item E P)) (g leave again : Position) (d n : ℕ) → room ≡ n → Does instructions room cs xs g leave again d → machine.OnInstruction (slice_get instructions g.at) (λ operation. machine.HasRoom operation n)
  instruction_room cs [] g leave again d n e h =
      subst (λ (x : Position). machine.OnInstruction (slice_get instructions x.at) (λ operation. machine.HasRoom operation n)) (sym h.0) (subst (λ o. machine.OnInstruction o (λ operation. machine.HasRoom operation n)) (sym (slice_get_past instructions (length instructions) (omega arith))) tt)
  instruction_room cs (Pending k (SetStatement p x) ∷ rest) g leave again d n e h =
      on_instruction g k false _ _ (λ b operation. machine.HasRoom operation n) h.0 h.1.1 tt
  instruction_room cs (Pending k (IfStatement x a b) ∷ rest) g leave again d n e h =
      on_instruction g k false _ _ (λ b operation. machine.HasRoom operation n) h.0 h.1.1.0 tt
  instruction_room cs (Pending k (WhileStatement x b) ∷ rest) g leave again d n e h =
      on_instruction g k false _ _ (λ b operation. machine.HasRoom operation n) h.0 h.1.1.0 tt
  instruction_room cs (Pending k (CountStatement p x y v b) ∷ rest) g leave again d n e h =
      on_instruction g k false _ _ (λ b operation. machine.HasRoom operation n) h.0 h.1.1.1 (omega (arith, h.1.1.0))
  instruction_room cs (Pending k (WaitStatement w) ∷ rest) g leave again d n e h =
      on_instruction g k false _ _ (λ b operation. machine.HasRoom operation n) h.0 h.1.1 tt
  instruction_room cs (Pending k (SayStatement w) ∷ rest) g leave again d n e h =
      on_instruction g k false _ _ (λ b operation. machine.HasRoom operation n) h.0 h.1.1 tt
  instruction_room cs (Pending k (CheckStatement x) ∷ rest) g leave again d n e h =
      on_instruction g k false _ _ (λ b operation. machine.HasRoom operation n) h.0 h.1.1 tt
  instruction_room cs (Pending k StopStatement ∷ rest) g leave again d n e h =
      on_instruction g k false _ _ (λ b operation. machine.HasRoom operation n) h.0 h.1.1 tt
  instruction_room cs (Pending k BreakStatement ∷ rest) g leave again d n e h =
      on_instruction g k false _ _ (λ b operation. machine.HasRoom operation n) h.0 h.1.1 tt
  instruction_room cs (Pending k ContinueStatement ∷ rest) g leave again d n e h =
      on_instruction g k false _ _ (λ b operation. machine.HasRoom operation n) h.0 h.1.1 tt
  instruction_room cs (BegunWhile k x b ∷ rest) g leave again d n e h =
      on_instruction g k true _ _ (λ b operation. machine.HasRoom operation n) h.0 h.2.2.0 tt
  instruction_room cs (BegunCount k p m z w b ∷ rest) g leave again d n e h =
      on_instruction g k true _ _ (λ b operation. machine.HasRoom operation n) h.0 h.2.7.1 (omega (arith, h.2.7.0))
