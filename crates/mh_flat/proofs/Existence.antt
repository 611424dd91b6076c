-- From everywhere there is an evaluation.
use Rattle.std.proofs.Common.{◌≡◌, ℕ, zero, suc, ◌+◌, ◌-◌, ◌<◌, ◌≤◌, Bool, true, false, cond, List, [], ◌∷◌, refl, subst, arith, inl}
use Rattle.std.specs.Prelude.{Result, Ok, Err, nat_lt}
use Rattle.std.proofs.lemmas.Bool.{ltb-true, ltb-false}
use Rattle.mh_flow.specs.declared.lang.Lang.{Ghosts}
use Rattle.mh_flow.specs.declared.resumed.Resumed.{Resumed}
use Rattle.mh_flow.specs.declared.resumed.Resumed.TheVariants.{Waits, Says, Stopped, Ended, CheckFailed, Fault, TurnLimit}
use Rattle.mh_flow.specs.Flow.{Item, SetStatement, IfStatement, WhileStatement, CountStatement, WaitStatement, SayStatement, CheckStatement, StopStatement, BreakStatement, ContinueStatement, Pending, BegunWhile, BegunCount, is_before, Outcome, Proceeds, Halts, Fails, with_value, rewriting, does_count, here, reaches_on, reaches_once, Answers, FailsAt, HasEvaluation}

module _ {L E P V S F : Type 0} (l : Ghosts L E P V S F) (budget : ℕ) where
  -- what a rewriting that counts may do
  data Plain : Outcome E P S F → Type 0 where
    goes : {ys : List (Item E P)} {t : S} → Plain (Proceeds 1 ys t)
    says : {w : ℕ} {ys : List (Item E P)} {t : S} → Plain (Halts 1 (Says w) ys t)
    stops : {ys : List (Item E P)} {t : S} → Plain (Halts 1 Stopped ys t)
    checks : {w : ℕ} {ys : List (Item E P)} {t : S} → Plain (Halts 1 (CheckFailed w) ys t)
    fails : {k : ℕ} {f : F} → Plain (Fails k f)

  plain_given : {A : Type 0} (k : ℕ) (r : Result A F) (f : A → Outcome E P S F) → ((x : A) → Plain (f x)) → Plain (with_value k r f)
  plain_given k (Ok x) f h = h x
  plain_given k (Err e) f h = fails

  plain_cond : (b : Bool) (x y : Outcome E P S F) → Plain x → Plain y → Plain (cond b x y)
  plain_cond true x y h k = h
  plain_cond false x y h k = k

  plain : (xs : List (Item E P)) (s : S) → does_count xs ≡ true → Plain (rewriting l xs s)
  plain [] s h = cc
  plain (Pending k (SetStatement p e) ∷ rest) s h =
      plain_given k (l.value_of e s) _ (λ v. plain_given k (l.assigned p v s) _ (λ x. goes))
  plain (Pending k (IfStatement e a b) ∷ rest) s h = plain_given k (l.value_of e s) _ (λ v. goes)
  plain (Pending k (WhileStatement e b) ∷ rest) s h = plain_given k (l.value_of e s) _ (λ v. goes)
  plain (Pending k (CountStatement p x y z b) ∷ rest) s h =
      plain_given k (l.value_of x s) _ (λ u. plain_given k (l.value_of y s) _ (λ v. plain_given k (l.value_of z s) _ (λ w. goes)))
  plain (Pending k (WaitStatement w) ∷ rest) s h = cc
  plain (Pending k (SayStatement w) ∷ rest) s h = says
  plain (Pending k (CheckStatement e) ∷ rest) s h =
      plain_given k (l.value_of e s) _ (λ v. plain_cond (l.is_true v) _ _ goes checks)
  plain (Pending k StopStatement ∷ rest) s h = stops
  plain (Pending k BreakStatement ∷ rest) s h = goes
  plain (Pending k ContinueStatement ∷ rest) s h = goes
  plain (BegunWhile k e b ∷ rest) s h = plain_given k (l.value_of e s) _ (λ v. goes)
  plain (BegunCount k p n z d b ∷ rest) s h = rw h goes

  -- an answer at once
  at_once : (xs : List (Item E P)) (s : S) (n : ℕ) (r : Resumed F) (ys : List (Item E P)) (t : S) (m : ℕ) → Answers l budget r xs s n ys t m → HasEvaluation l budget xs s n
  at_once xs s n r ys t m a =
      record { answer = r; items = ys; store = t; count = m; evaluation = record { head = xs; store = s; count = n; reached = here; answered = a } }

  -- a rewriting, and an evaluation of what it leaves
  first : (xs : List (Item E P)) (s : S) (n k : ℕ) (ys : List (Item E P)) (t : S) → rewriting l xs s ≡ Proceeds k ys t → k ≤ budget - n → HasEvaluation l budget ys t (n + k) → HasEvaluation l budget xs s n
  first xs s n k ys t e le r =
      record { answer = r.answer; items = r.items; store = r.store; count = r.count; evaluation = record { head = r.evaluation.head; store = r.evaluation.store; count = r.evaluation.count; reached = reaches_on l budget (reaches_once l budget e le) r.evaluation.reached; answered = r.evaluation.answered } }

  abbrev FailsIs : List (Item E P) → Type 0
  FailsIs xs = (s : S) (k : ℕ) (f : F) → rewriting l xs s ≡ Fails k f → FailsAt l budget xs s k f

  fails_at : (xs : List (Item E P)) → FailsIs xs
  fails_at [] s k f h = h
  fails_at (Pending i (SetStatement p e) ∷ rest) s k f h = inl h
  fails_at (Pending i (IfStatement e a b) ∷ rest) s k f h = h
  fails_at (Pending i (WhileStatement e b) ∷ rest) s k f h = h
  fails_at (Pending i (CountStatement p x y v b) ∷ rest) s k f h = h
  fails_at (Pending i (WaitStatement w) ∷ rest) s k f h = h
  fails_at (Pending i (SayStatement w) ∷ rest) s k f h = h
  fails_at (Pending i (CheckStatement e) ∷ rest) s k f h = h
  fails_at (Pending i StopStatement ∷ rest) s k f h = h
  fails_at (Pending i BreakStatement ∷ rest) s k f h = h
  fails_at (Pending i ContinueStatement ∷ rest) s k f h = h
  fails_at (BegunWhile i e b ∷ rest) s k f h = h
  fails_at (BegunCount i p n z w b ∷ rest) s k f h = h

  by_move : (xs : List (Item E P)) (s : S) (n : ℕ) (v : Outcome E P S F) → Plain v → rewriting l xs s ≡ v → FailsIs xs → n < budget → ((ys : List (Item E P)) (t : S) → HasEvaluation l budget ys t (n + 1)) → HasEvaluation l budget xs s n
  by_move xs s n v (goes {ys = ys} {t = t}) e fa lt later = first xs s n 1 ys t e (omega arith) (later ys t)
  by_move xs s n v (says {w = w} {ys = ys} {t = t}) e fa lt later = at_once xs s n (Says w) ys t (n + 1) (e, lt, refl)
  by_move xs s n v (stops {ys = ys} {t = t}) e fa lt later = at_once xs s n Stopped ys t (n + 1) (e, lt, refl)
  by_move xs s n v (checks {w = w} {ys = ys} {t = t}) e fa lt later = at_once xs s n (CheckFailed w) ys t (n + 1) (e, lt, refl)
  by_move xs s n v (fails {k = k} {f = f}) e fa lt later =
      at_once xs s n (Fault k f) xs s n (lt, fa s k f e, (refl, refl, refl))

  -- a head that counts
  counting : (xs : List (Item E P)) (s : S) (n : ℕ) (b : Bool) → nat_lt n budget ≡ b → does_count xs ≡ true → ((ys : List (Item E P)) (t : S) → n < budget → HasEvaluation l budget ys t (n + 1)) → HasEvaluation l budget xs s n
  counting xs s n true e c later =
      let lt : n < budget = ltb-true n budget e in
      by_move xs s n (rewriting l xs s) (plain xs s c) refl (fails_at xs) lt (λ ys t. later ys t lt)
  counting xs s n false e c later =
      at_once xs s n TurnLimit xs s n (c, ltb-false n budget e, (refl, refl, refl))

  range : (b : Bool) (k : ℕ) (xs rest : List (Item E P)) (s : S) (n : ℕ) → does_count xs ≡ b → (b ≡ false → rewriting l xs s ≡ Proceeds 0 rest s) → ((ys : List (Item E P)) (t : S) → n < budget → HasEvaluation l budget ys t (n + 1)) → HasEvaluation l budget rest s n → HasEvaluation l budget xs s n
  range true k xs rest s n e f later r = counting xs s n (nat_lt n budget) refl e later
  range false k xs rest s n e f later r =
      let same : n ≡ n + 0 = omega arith in
      first xs s n 0 rest s (f refl) (omega arith) (subst (λ x. HasEvaluation l budget rest s x) same r)

  -- a head of any kind, by the list
  heads : (n : ℕ) → ((ys : List (Item E P)) (t : S) → n < budget → HasEvaluation l budget ys t (n + 1)) → (xs : List (Item E P)) (s : S) → HasEvaluation l budget xs s n
  heads n later [] s = at_once [] s n Ended [] s n (refl, (refl, refl, refl))
  heads n later (Pending k (SetStatement p e) ∷ rest) s = counting _ s n (nat_lt n budget) refl refl later
  heads n later (Pending k (IfStatement e a b) ∷ rest) s = counting _ s n (nat_lt n budget) refl refl later
  heads n later (Pending k (WhileStatement e b) ∷ rest) s = counting _ s n (nat_lt n budget) refl refl later
  heads n later (Pending k (CountStatement p x y z b) ∷ rest) s = counting _ s n (nat_lt n budget) refl refl later
  heads n later (Pending k (WaitStatement w) ∷ rest) s = at_once _ s n (Waits w) rest s 0 (refl, refl)
  heads n later (Pending k (SayStatement w) ∷ rest) s = counting _ s n (nat_lt n budget) refl refl later
  heads n later (Pending k (CheckStatement e) ∷ rest) s = counting _ s n (nat_lt n budget) refl refl later
  heads n later (Pending k StopStatement ∷ rest) s = counting _ s n (nat_lt n budget) refl refl later
  heads n later (Pending k BreakStatement ∷ rest) s = counting _ s n (nat_lt n budget) refl refl later
  heads n later (Pending k ContinueStatement ∷ rest) s = counting _ s n (nat_lt n budget) refl refl later
  heads n later (BegunWhile k e b ∷ rest) s = counting _ s n (nat_lt n budget) refl refl later
  heads n later (BegunCount k p m z d b ∷ rest) s =
      range (is_before m z d) k (BegunCount k p m z d b ∷ rest) rest s n refl (λ e. rw e refl) later (heads n later rest s)

  up_to : (j n : ℕ) → budget - n ≤ j → (xs : List (Item E P)) (s : S) → HasEvaluation l budget xs s n
  up_to zero n le xs s = heads n (λ ys t lt. absurd (omega arith)) xs s
  up_to (suc j) n le xs s = heads n (λ ys t lt. up_to j (n + 1) (omega arith) ys t) xs s

  pub always : (xs : List (Item E P)) (s : S) (n : ℕ) → HasEvaluation l budget xs s n
  always xs s n = up_to (budget - n) n (omega arith) xs s
