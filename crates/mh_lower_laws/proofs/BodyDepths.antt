-- A body that was read is at most one level deeper than that of the source.
use Rattle.std.proofs.Common.{◌≡◌, ℕ, zero, suc, ◌-◌, ◌≤◌, max, Bool, true, false, ◌&&◌, List, [], ◌∷◌, ◌++◌, Option, Some, None, Result, Ok, Err, IfOk, refl, ap, ◌∙◌, arith}
use Rattle.std.specs.Prelude.{nat_lt}
use Rattle.std.proofs.lemmas.Bool.{and_parts, and_from, lt-ltb}
use Rattle.mh_text.specs.declared.code.Code.{Code}
use Rattle.mh_consts.specs.declared.scope.Scope.{Scope}
use Rattle.mh_consts.specs.Expression.{Ex}
use Rattle.mh_consts.specs.Names.{lookup}
use Rattle.mh_design.specs.declared.design.Design.{Design}
use Rattle.mh_design.specs.Depth.{is_within, statement_is_within, block_is_within, arm_is_within, arms_are_within}
use Rattle.mh_design.specs.Tree as tree
use Rattle.mh_design.specs.Tree.{Statement, Arm, arms, block, expression_of}
use Rattle.mh_exprs.specs.declared.locals.Locals.{Locals}
use Rattle.mh_exprs.specs.declared.typed.Work.{Work}
use Rattle.mh_exprs.specs.Step.{pure, just, chain}
use Rattle.mh_lower.specs.declared.typed.Ends.{Ends}
use Rattle.mh_lower.specs.Body as line
use Rattle.mh_lower.specs.Body.{Line, Lines, Choice, Choices, End, Then, Where, NoChoice, OrElse}
use Rattle.mh_lower.specs.Bodies.{with_any, some, variable, begins, while_line, for_line, branch_line, Branches, with_branch, if_line, leave, read_line, read_lines, read_choices, read_choice}
use Rattle.mh_lower.specs.Paths.{Paths, breaks, continues, stops}
use Rattle.mh_lower.specs.Run as run
use Rattle.mh_lower.specs.Run.{Broken, Run, placed, placed_with, at, does}
use Rattle.mh_lower.specs.Statements.{assign, augment, by_itself, yields, is_stop_call, claim, condition, ends}
use Rattle.mh_lower_laws.proofs.Depths.{ex_depth, Deep, chain_deep, any_chain}
use Rattle.mh_lower_laws.proofs.StatementDepths.{just_gives, assign_deep, augment_deep, test_deep, claim_deep, AnyDeep, by_itself_deep, yields_deep, DeepEnds, ends_deep}

-- ---- how deep lines are, where an augmented assignment is the operation that it means

abbrev mutual
  pub line_depth : Line → ℕ
  line_depth (line.Value l e) = suc (ex_depth e)
  line_depth (line.Assign l t e) = suc (max (ex_depth t) (ex_depth e))
  line_depth (line.Augment l o t e) = suc (suc (max (ex_depth t) (ex_depth e)))
  line_depth line.Pass = 1
  line_depth (line.Break l) = 1
  line_depth (line.Continue l) = 1
  line_depth (line.Yield l e) = 1
  line_depth (line.Raise l e) = 1
  line_depth (line.Assert l e) = suc (ex_depth e)
  line_depth (line.If l cs other) = suc (max (choices_depth cs) (lines_depth other))
  line_depth (line.For l t over b) = suc (max (ex_depth over) (lines_depth b))
  line_depth (line.While l e b) = suc (max (ex_depth e) (lines_depth b))
  line_depth (line.Forbidden l) = 1

  pub lines_depth : Lines → ℕ
  lines_depth End = 0
  lines_depth (Then x xs) = max (line_depth x) (lines_depth xs)

  pub choice_depth : Choice → ℕ
  choice_depth (Where e b) = max (ex_depth e) (lines_depth b)

  pub choices_depth : Choices → ℕ
  choices_depth NoChoice = 0
  choices_depth (OrElse c cs) = max (choice_depth c) (choices_depth cs)

no_level : (x : Line) → line_depth x ≤ 0 → ⊥
no_level (line.Value l e) h = omega (arith, h)
no_level (line.Assign l t e) h = omega (arith, h)
no_level (line.Augment l o t e) h = omega (arith, h)
no_level line.Pass h = omega (arith, h)
no_level (line.Break l) h = omega (arith, h)
no_level (line.Continue l) h = omega (arith, h)
no_level (line.Yield l e) h = omega (arith, h)
no_level (line.Raise l e) h = omega (arith, h)
no_level (line.Assert l e) h = omega (arith, h)
no_level (line.If l cs other) h = omega (arith, h)
no_level (line.For l t over b) h = omega (arith, h)
no_level (line.While l e b) h = omega (arith, h)
no_level (line.Forbidden l) h = omega (arith, h)

-- ---- runs

-- the run gives this
abbrev RunGives : {A : Type 0} → (A → Type 0) → Result (A × Work × Design) Broken → Type 0
RunGives Q r = IfOk r (λ y. Q y.0)

then_gives : {A B : Type 0} (P : A → Type 0) (Q : B → Type 0) (r : Result (A × Work × Design) Broken) (f : A → Run B) → RunGives P r → ((a : A) (w : Work) (d : Design) → P a → RunGives Q (f a w d)) → RunGives Q (run.then r f)
then_gives P Q (Ok y) f h k = k y.0 y.1 y.2 h
then_gives P Q (Err b) f h k = tt

placed_gives : {A : Type 0} (Q : A → Type 0) (l : ℕ) (w : Work) (r : Result (A × Design) Code) → IfOk r (λ y. Q y.0) → RunGives Q (placed l w r)
placed_gives Q l w (Ok y) h = h
placed_gives Q l w (Err code) h = tt

placed_with_gives : {A : Type 0} (Q : A → Type 0) (l : ℕ) (r : Result ((A × Work) × Design) Code) → IfOk r (λ y. Q y.0.0) → RunGives Q (placed_with l r)
placed_with_gives Q l (Ok y) h = h
placed_with_gives Q l (Err code) h = tt

-- a statement, if there is one
abbrev AnyWithin : ℕ → Option Statement → Type 0
AnyWithin m None = Unit {0}
AnyWithin m (Some st) = statement_is_within st m ≡ true

as_one : (m : ℕ) (r : Result (Statement × Work × Design) Broken) → RunGives (λ st. statement_is_within st m ≡ true) r → RunGives (AnyWithin m) (some r)
as_one m (Ok y) h = h
as_one m (Err b) h = tt

left_by : (m l : ℕ) (allowed : Bool) (w : Work) (d : Design) (st : Statement) (f : Work → Work) → statement_is_within st m ≡ true → RunGives (AnyWithin m) (leave allowed l st f w d)
left_by m l false w d st f h = tt
left_by m l true w d st f h = h

some_level : (k : ℕ) → nat_lt 0 (suc k) ≡ true
some_level k = lt-ltb 0 (suc k) (omega arith)

-- what holds of k, one level further down
down : (P : ℕ → Bool) (k : ℕ) → P k ≡ true → P (suc k - 1) ≡ true
down P k h = let e : suc k - 1 ≡ k = omega arith in ap P e ∙ h

block_end : (m : ℕ) (out : List Statement) (st : Statement) → block_is_within (block out) m ≡ true → statement_is_within st m ≡ true → block_is_within (block (out ++ st ∷ [])) m ≡ true
block_end m [] st h i = and_from (statement_is_within st m) true i refl
block_end m (x ∷ out) st h i = let p = and_parts (statement_is_within x m) (block_is_within (block out) m) h in and_from (statement_is_within x m) _ p.0 (block_end m out st p.1 i)

with_any_deep : (m : ℕ) (out : List Statement) (o : Option Statement) → block_is_within (block out) m ≡ true → AnyWithin m o → block_is_within (block (with_any out o)) m ≡ true
with_any_deep m out None h i = h
with_any_deep m out (Some st) h i = block_end m out st h i

arms_end_deep : (k : ℕ) (rs : List Arm) (r : Arm) → arms_are_within (arms rs) k ≡ true → arm_is_within r k ≡ true → arms_are_within (arms (rs ++ r ∷ [])) k ≡ true
arms_end_deep k [] r h i = and_from (arm_is_within r k) true i refl
arms_end_deep k (x ∷ rs) r h i = let p = and_parts (arm_is_within x k) (arms_are_within (arms rs) k) h in and_from (arm_is_within x k) _ p.0 (arms_end_deep k rs r p.1 i)

any_within : (s : Scope) (locals : Locals) (w : Work) (k : ℕ) (o : Option Statement) → AnyDeep s locals w k o → AnyWithin (suc k) o
any_within s locals w k None h = tt
any_within s locals w k (Some st) h = h

weaker : {A : Type 0} (P Q : A → Type 0) (r : Result (A × Design) Code) → ((a : A) → P a → Q a) → IfOk r (λ y. P y.0) → IfOk r (λ y. Q y.0)
weaker P Q (Ok y) f h = f y.0 h
weaker P Q (Err code) f h = tt

module _ (s : Scope) (locals : Locals) (instance : Bool) where
  abbrev BlockWithin : ℕ → List Statement → Type 0
  BlockWithin m ss = block_is_within (block ss) m ≡ true

  -- what reads a block of at most so many levels
  abbrev ReadsDeep : ℕ → Run (List Statement) → Type 0
  ReadsDeep k p = (w : Work) (d : Design) → RunGives (BlockWithin k) (p w d)

  while_deep : (l k : ℕ) (e : Ex) (p : Run (List Statement)) (w : Work) (d : Design) → ex_depth e ≤ k → ReadsDeep k p → RunGives (λ st. statement_is_within st (suc k) ≡ true) (while_line s locals l e p w d)
  unfolding while_line
  while_deep l k e p w d h i =
      then_gives (Deep k) (λ st. statement_is_within st (suc k) ≡ true) (at l (λ w. condition s locals w e) w d) _ (placed_gives (Deep k) l w (condition s locals w e d) (test_deep s locals w k d e h))
      (λ t y f q. then_gives (BlockWithin k) (λ st. statement_is_within st (suc k) ≡ true) (p _ f) _ (i _ f)
      (λ ss z g b. and_from (nat_lt 0 (suc k)) _ (some_level k) (down (λ m. is_within (expression_of t.expr) m && block_is_within (block ss) m) k (and_from (is_within (expression_of t.expr) k) (block_is_within (block ss) k) q b))))

  begins_deep : (k : ℕ) (o : Option ℕ) (over : Ex) (w : Work) (d : Design) → ex_depth over ≤ k → IfOk (begins s locals o over w d) (λ y. DeepEnds s locals w k y.0.0.1)
  unfolding begins
  begins_deep k None over w d h = tt
  begins_deep k (Some u) over w d h =
      chain_deep (DeepEnds s locals w k) (λ (y : (ℕ × Ends) × Work). DeepEnds s locals w k y.0.1) d (ends s locals w over) (λ x. chain (just (variable w u)) (λ z. pure ((u, x), z))) (ends_deep s locals w k d over h)
      (λ x g q. any_chain (λ (y : (ℕ × Ends) × Work). DeepEnds s locals w k y.0.1) g (just (variable w u)) (λ z. pure ((u, x), z)) (λ z f. q))

  for_deep : (l k : ℕ) (o : Option ℕ) (over : Ex) (p : Run (List Statement)) (w : Work) (d : Design) → ex_depth over ≤ k → ReadsDeep k p → RunGives (λ st. statement_is_within st (suc k) ≡ true) (for_line s locals l o over p w d)
  unfolding for_line
  for_deep l k o over p w d h i =
      then_gives (λ y. DeepEnds s locals w k y.1) (λ st. statement_is_within st (suc k) ≡ true) (does l (begins s locals o over) w d) _ (placed_with_gives (λ y. DeepEnds s locals w k y.1) l (begins s locals o over w d) (begins_deep k o over w d h))
      (λ x y f q. then_gives (BlockWithin k) (λ st. statement_is_within st (suc k) ≡ true) (p _ f) _ (i _ f)
      (λ ss z g b. and_from (nat_lt 0 (suc k)) _ (some_level k) (down (λ m. (is_within (expression_of x.1.from) m && is_within (expression_of x.1.to) m) && block_is_within (block ss) m) k
      (and_from (is_within (expression_of x.1.from) k && is_within (expression_of x.1.to) k) (block_is_within (block ss) k) q b))))

  branch_deep : (l k : ℕ) (e : Ex) (p : Run (List Statement)) (w : Work) (d : Design) → ex_depth e ≤ k → ReadsDeep k p → RunGives (λ r. arm_is_within r k ≡ true) (branch_line s locals l e p w d)
  unfolding branch_line
  branch_deep l k e p w d h i =
      then_gives (Deep k) (λ r. arm_is_within r k ≡ true) (at l (λ w. condition s locals w e) w d) _ (placed_gives (Deep k) l w (condition s locals w e d) (test_deep s locals w k d e h))
      (λ t y f q. then_gives (BlockWithin k) (λ r. arm_is_within r k ≡ true) (p y f) _ (i y f) (λ ss z g b. and_from (is_within (expression_of t.expr) k) (block_is_within (block ss) k) q b))

  if_deep : (l k : ℕ) (p : Paths → Run Branches) (q : Run (List Statement)) (w : Work) (d : Design) → RunGives (λ done. arms_are_within (arms done.0) k ≡ true) (p w.here w d) → ReadsDeep k q → RunGives (λ st. statement_is_within st (suc k) ≡ true) (if_line l p q w d)
  unfolding if_line
  if_deep l k p q w d h i =
      then_gives (λ (done : Branches). arms_are_within (arms done.0) k ≡ true) (λ st. statement_is_within st (suc k) ≡ true) (p w.here w d) _ h
      (λ done y f a. then_gives (BlockWithin k) (λ st. statement_is_within st (suc k) ≡ true) (q _ f) _ (i _ f)
      (λ ss z g b. and_from (nat_lt 0 (suc k)) _ (some_level k) (down (λ m. arms_are_within (arms done.0) m && block_is_within (block ss) m) k (and_from (arms_are_within (arms done.0) k) (block_is_within (block ss) k) a b))))

  mutual
    unfolding read_line read_lines read_choices read_choice

    pub line_deep : (x : Line) (loop : Bool) (k : ℕ) (w : Work) (d : Design) → line_depth x ≤ suc k → RunGives (AnyWithin (suc k)) (read_line s locals instance loop x w d)
    line_deep (line.Value l e) loop k w d h =
        placed_gives (AnyWithin (suc k)) l w (by_itself s locals w l e d) (weaker (AnyDeep s locals w k) (AnyWithin (suc k)) (by_itself s locals w l e d) (any_within s locals w k) (by_itself_deep s locals w k d l e (omega (arith, h))))
    line_deep (line.Assign l t e) loop k w d h =
        as_one (suc k) (does l (λ w. assign s locals w l t e) w d) (placed_with_gives (λ st. statement_is_within st (suc k) ≡ true) l (assign s locals w l t e d) (assign_deep s locals w k d l t e (omega (arith, h)) (omega (arith, h))))
    line_deep (line.Augment l o t e) loop zero w d h = absurd (omega (arith, h))
    line_deep (line.Augment l o t e) loop (suc j) w d h =
        as_one (suc (suc j)) (does l (λ w. augment s locals w l o t e) w d) (placed_with_gives (λ st. statement_is_within st (suc (suc j)) ≡ true) l (augment s locals w l o t e d) (augment_deep s locals w j d l o t e (omega (arith, h)) (omega (arith, h))))
    line_deep line.Pass loop k w d h = tt
    line_deep (line.Break l) loop k w d h = left_by (suc k) l loop w d (tree.Break l) breaks (some_level k)
    line_deep (line.Continue l) loop k w d h = left_by (suc k) l loop w d (tree.Continue l) continues (some_level k)
    line_deep (line.Yield l e) loop k w d h =
        as_one (suc k) (at l (λ w. just (yields s locals instance l e)) w d) (placed_gives (λ st. statement_is_within st (suc k) ≡ true) l w (just (yields s locals instance l e) d) (just_gives (λ st. statement_is_within st (suc k) ≡ true) d (yields s locals instance l e) (yields_deep s locals w k instance l e)))
    line_deep (line.Raise l e) loop k w d h = left_by (suc k) l (is_stop_call s locals e) w d (tree.Stop l) stops (some_level k)
    line_deep (line.Assert l e) loop k w d h =
        as_one (suc k) (at l (λ w. claim s locals w l e) w d) (placed_gives (λ st. statement_is_within st (suc k) ≡ true) l w (claim s locals w l e d) (claim_deep s locals w k d l e (omega (arith, h))))
    line_deep (line.Forbidden l) loop k w d h = tt
    line_deep (line.If l cs other) loop k w d h =
        as_one (suc k) (if_line l (λ p. read_choices s locals instance loop l p ([], None) cs) (read_lines s locals instance loop [] other) w d)
        (if_deep l k (λ p. read_choices s locals instance loop l p ([], None) cs) (read_lines s locals instance loop [] other) w d (choices_deep cs loop l w.here ([], None) k w d (omega (arith, h)) refl) (λ y f. lines_deep other loop [] k y f (omega (arith, h)) refl))
    line_deep (line.While l e c) loop k w d h =
        as_one (suc k) (while_line s locals l e (read_lines s locals instance true [] c) w d) (while_deep l k e (read_lines s locals instance true [] c) w d (omega (arith, h)) (λ y f. lines_deep c true [] k y f (omega (arith, h)) refl))
    line_deep (line.For l t over c) loop k w d h =
        as_one (suc k) (for_line s locals l (lookup locals.numbers t) over (read_lines s locals instance true [] c) w d)
        (for_deep l k (lookup locals.numbers t) over (read_lines s locals instance true [] c) w d (omega (arith, h)) (λ y f. lines_deep c true [] k y f (omega (arith, h)) refl))

    pub lines_deep : (xs : Lines) (loop : Bool) (out : List Statement) (m : ℕ) (w : Work) (d : Design) → lines_depth xs ≤ m → BlockWithin m out → RunGives (BlockWithin m) (read_lines s locals instance loop out xs w d)
    lines_deep End loop out m w d h i = i
    lines_deep (Then x xs) loop out zero w d h i = absurd (no_level x (omega (arith, h)))
    lines_deep (Then x xs) loop out (suc k) w d h i =
        then_gives (AnyWithin (suc k)) (BlockWithin (suc k)) (read_line s locals instance loop x w d) (λ o. read_lines s locals instance loop (with_any out o) xs) (line_deep x loop k w d (omega (arith, h)))
        (λ o y f q. lines_deep xs loop (with_any out o) (suc k) y f (omega (arith, h)) (with_any_deep (suc k) out o i q))

    choices_deep : (cs : Choices) (loop : Bool) (l : ℕ) (p : Paths) (done : Branches) (k : ℕ) (w : Work) (d : Design) → choices_depth cs ≤ k → arms_are_within (arms done.0) k ≡ true →
        RunGives (λ done. arms_are_within (arms done.0) k ≡ true) (read_choices s locals instance loop l p done cs w d)
    choices_deep NoChoice loop l p done k w d h i = i
    choices_deep (OrElse c cs) loop l p done k w d h i =
        then_gives (λ r. arm_is_within r k ≡ true) (λ (done : Branches). arms_are_within (arms done.0) k ≡ true) (read_choice s locals instance loop l c _ d) (λ r v. read_choices s locals instance loop l p (with_branch done r v) cs v) (choice_deep c loop l k _ d (omega (arith, h)))
        (λ r v f q. choices_deep cs loop l p (with_branch done r v) k v f (omega (arith, h)) (arms_end_deep k done.0 r i q))

    choice_deep : (c : Choice) (loop : Bool) (l k : ℕ) (w : Work) (d : Design) → choice_depth c ≤ k → RunGives (λ r. arm_is_within r k ≡ true) (read_choice s locals instance loop l c w d)
    choice_deep (Where e c) loop l k w d h = branch_deep l k e (read_lines s locals instance loop [] c) w d (omega (arith, h)) (λ y f. lines_deep c loop [] k y f (omega (arith, h)) refl)
