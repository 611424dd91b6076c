-- The flow of control, apart from the code: what is left of a body is a list of items, and one
-- rewriting takes the head of the list away and puts others in its place where needed. These are this
-- project's own rules; the generators of the source and the processes of both texts all run by them.
--
-- E, P, V, S and F are the expressions, places, values, stores and faults of a language.
use Rattle.std.specs.Prelude.{ℕ, ℤ, pos, ◌+◌, ◌-◌, ◌<◌, ◌≤◌, ◌+ℤ◌, Bool, true, false, List, [], ◌∷◌, ◌≡◌, Result, Ok, Err, cond, ◌⊎◌, IsTrue, int_lt}
use Rattle.mh_flow.specs.declared.lang.Lang.{Ghosts}
use Rattle.mh_flow.specs.declared.resumed.Resumed.{Resumed}
use Rattle.mh_flow.specs.declared.resumed.Resumed.TheVariants.{Waits, Says, Stopped, Ended, CheckFailed, Fault, TurnLimit}

-- The statements of a body, one for each variant of `Step`, and blocks of them.
mutual
  pub data Statement (E P : Type 0) : Type 0 where
    SetStatement : (place : P) (value : E) → Statement E P
    IfStatement : (test : E) (then_part else_part : Block E P) → Statement E P
    WhileStatement : (test : E) (body : Block E P) → Statement E P
    CountStatement : (place : P) (from to step : E) (body : Block E P) → Statement E P
    WaitStatement : (number : ℕ) → Statement E P
    SayStatement : (number : ℕ) → Statement E P
    CheckStatement : (test : E) → Statement E P
    StopStatement : Statement E P
    BreakStatement : Statement E P
    ContinueStatement : Statement E P

  pub data Block (E P : Type 0) : Type 0 where
    End : Block E P
    Then : Statement E P → Block E P → Block E P

-- How many statements a statement or a block is, with those that it holds.
abbrev mutual
  pub size : {E P : Type 0} → Statement E P → ℕ
  size (SetStatement place value) = 1
  size (IfStatement test then_part else_part) = 1 + block_size then_part + block_size else_part
  size (WhileStatement test body) = 1 + block_size body
  size (CountStatement place from to step body) = 1 + block_size body
  size (WaitStatement number) = 1
  size (SayStatement number) = 1
  size (CheckStatement test) = 1
  size StopStatement = 1
  size BreakStatement = 1
  size ContinueStatement = 1

  pub block_size : {E P : Type 0} → Block E P → ℕ
  block_size End = 0
  block_size (Then statement block) = size statement + block_size block

-- What is left of a body: statements that haven't begun, and loops that have. Each has its place in order
-- of text, from 0, where a statement stands before those that it holds. A counted loop that has begun has
-- its next number, and the numbers of its limit and its step: these three expressions are evaluated once,
-- before the loop.
pub data Item (E P : Type 0) : Type 0 where
  Pending : (at : ℕ) → Statement E P → Item E P
  BegunWhile : (at : ℕ) (test : E) (body : Block E P) → Item E P
  BegunCount : (at : ℕ) (place : P) (next to step : ℤ) (body : Block E P) → Item E P

-- The statements of a block, the first of which has the given place, and then the rest.
abbrev pub block_items : {E P : Type 0} → ℕ → Block E P → List (Item E P) → List (Item E P)
block_items at End rest = rest
block_items at (Then statement block) rest = Pending at statement ∷ block_items (at + size statement) block rest

-- A `Break` drops all up to and including the first loop that has begun, and all where none has.
abbrev pub after_loop : {E P : Type 0} → List (Item E P) → List (Item E P)
after_loop [] = []
after_loop (Pending at statement ∷ rest) = after_loop rest
after_loop (BegunWhile at test body ∷ rest) = rest
after_loop (BegunCount at place next to step body ∷ rest) = rest

-- A `Continue` drops all before the first loop that has begun, and all where none has.
abbrev pub from_loop : {E P : Type 0} → List (Item E P) → List (Item E P)
from_loop [] = []
from_loop (Pending at statement ∷ rest) = from_loop rest
from_loop (BegunWhile at test body ∷ rest) = BegunWhile at test body ∷ rest
from_loop (BegunCount at place next to step body ∷ rest) = BegunCount at place next to step body ∷ rest

-- Whether a number stands before a limit in the direction of a step. With step 0 none does.
abbrev pub is_before : ℤ → ℤ → ℤ → Bool
is_before number limit step =
    cond (int_lt (pos 0) step) (int_lt number limit) (cond (int_lt step (pos 0)) (int_lt limit number) false)

-- What one rewriting does: it goes on with a list and a store, it halts with an answer, it fails with a
-- fault at a place, or nothing was left. The number is 1 where the rewriting is a counted statement, else 0.
pub data Outcome (E P S F : Type 0) : Type 0 where
  Proceeds : (counts : ℕ) → List (Item E P) → S → Outcome E P S F
  Halts : (counts : ℕ) → Resumed F → List (Item E P) → S → Outcome E P S F
  Fails : (at : ℕ) → F → Outcome E P S F
  Ends : Outcome E P S F

-- Goes on with a value, or fails at this place.
abbrev pub with_value : {A E P S F : Type 0} → ℕ → Result A F → (A → Outcome E P S F) → Outcome E P S F
with_value at (Ok value) next = next value
with_value at (Err fault) next = Fails at fault

module _ {L E P V S F : Type 0} (l : Ghosts L E P V S F) where
  -- A loop over a condition, begun or not: its body followed by the begun loop where the test holds, and
  -- nothing elsewhere. Each test counts.
  abbrev pub while_turn : ℕ → E → Block E P → List (Item E P) → S → Outcome E P S F
  while_turn at test body rest store =
      with_value at (l.value_of test store) (λ value. Proceeds 1 (cond (l.is_true value) (block_items (at + 1) body (BegunWhile at test body ∷ rest)) rest) store)

  -- A counted loop that has begun: its place takes the next number, and its body follows, and then the loop
  -- with the number after that one. The numbers are mathematical ones. Each turn counts; where the next
  -- number doesn't stand before the limit, the loop is dropped, which counts nothing.
  abbrev pub count_turn : ℕ → P → ℤ → ℤ → ℤ → Block E P → List (Item E P) → S → Outcome E P S F
  count_turn at place next to step body rest store =
      cond (is_before next to step) (Proceeds 1 (block_items (at + 1) body (BegunCount at place (next +ℤ step) to step body ∷ rest)) (l.counted place next store)) (Proceeds 0 rest store)

  -- A statement that hasn't begun. Each counts but a wait.
  abbrev pub statement_outcome : ℕ → Statement E P → List (Item E P) → S → Outcome E P S F
  statement_outcome at (SetStatement place expression) rest store =
      with_value at (l.value_of expression store) (λ value. with_value at (l.assigned place value store) (λ new. Proceeds 1 rest new))
  statement_outcome at (IfStatement test then_part else_part) rest store =
      with_value at (l.value_of test store) (λ value. Proceeds 1 (cond (l.is_true value) (block_items (at + 1) then_part rest) (block_items (at + 1 + block_size then_part) else_part rest)) store)
  statement_outcome at (WhileStatement test body) rest store = while_turn at test body rest store
  statement_outcome at (CountStatement place from to step body) rest store =
      with_value at (l.value_of from store) (λ x. with_value at (l.value_of to store) (λ y. with_value at (l.value_of step store) (λ z. Proceeds 1
      (BegunCount at place (l.number_of x) (l.number_of y) (l.number_of z) body ∷ rest) store)))
  statement_outcome at (WaitStatement number) rest store = Halts 0 (Waits number) rest store
  statement_outcome at (SayStatement number) rest store = Halts 1 (Says number) rest store
  statement_outcome at (CheckStatement test) rest store =
      with_value at (l.value_of test store) (λ value. cond (l.is_true value) (Proceeds 1 rest store) (Halts 1 (CheckFailed at) rest store))
  statement_outcome at StopStatement rest store = Halts 1 Stopped rest store
  statement_outcome at BreakStatement rest store = Proceeds 1 (after_loop rest) store
  statement_outcome at ContinueStatement rest store = Proceeds 1 (from_loop rest) store

  -- One rewriting of what is left, in a store.
  abbrev pub rewriting : List (Item E P) → S → Outcome E P S F
  rewriting [] store = Ends
  rewriting (Pending at statement ∷ rest) store = statement_outcome at statement rest store
  rewriting (BegunWhile at test body ∷ rest) store = while_turn at test body rest store
  rewriting (BegunCount at place next to step body ∷ rest) store =
      count_turn at place next to step body rest store

-- Whether the next rewriting is a counted statement, whatever the store is.
abbrev pub does_count : {E P : Type 0} → List (Item E P) → Bool
does_count [] = false
does_count (Pending at (WaitStatement number) ∷ rest) = false
does_count (BegunCount at place next to step body ∷ rest) = is_before next to step
does_count (item ∷ rest) = true

module _ {L E P V S F : Type 0} (l : Ghosts L E P V S F) (budget : ℕ) where
  -- Rewritings that follow one another lead from what is left, a store and a count of statements to others.
  -- A rewriting that counts is done only while the count is below the budget, one that doesn't at any count.
  pub data Reaches (xs : List (Item E P)) (s : S) (n : ℕ) : List (Item E P) → S → ℕ → Type 0 where
    here : Reaches xs s n xs s n
    onward : {ys zs : List (Item E P)} {t u : S} {m k : ℕ} → Reaches xs s n ys t m → rewriting l ys t ≡ Proceeds k zs u → k ≤ budget - m → Reaches xs s n zs u (m + k)

  -- What is left, the store and the count are as they were.
  abbrev pub Stays : List (Item E P) → S → ℕ → List (Item E P) → S → ℕ → Type 0
  Stays xs s n ys t m = (ys ≡ xs) × (t ≡ s) × (m ≡ n)

  -- The next rewriting fails with this fault at this place. At an assignment want of memory may also come,
  -- whatever the rewriting is.
  abbrev pub FailsAt : List (Item E P) → S → ℕ → F → Type 0
  FailsAt (Pending k (SetStatement p e) ∷ rest) s at f =
      (rewriting l (Pending k (SetStatement p e) ∷ rest) s ≡ Fails at f) ⊎ ((at ≡ k) × IsTrue (l.is_memory f))
  FailsAt xs s at f = rewriting l xs s ≡ Fails at f

  -- The answer at what is left (xs, in the store s, with the count n), and what is left after it (ys, t, m).
  -- A wait is answered at any count and sets it back. `Says`, `Stopped` and `CheckFailed` count their
  -- statement, which is taken away. At the end, after a fault and at the limit all stays: the statement that
  -- was met is still the first. The limit comes where the count has reached the budget and a counted
  -- statement comes, and there nothing else does.
  abbrev pub Answers : Resumed F → List (Item E P) → S → ℕ → List (Item E P) → S → ℕ → Type 0
  Answers (Waits w) xs s n ys t m = (rewriting l xs s ≡ Halts 0 (Waits w) ys t) × (m ≡ 0)
  Answers Ended xs s n ys t m = (rewriting l xs s ≡ Ends) × Stays xs s n ys t m
  Answers (Fault at f) xs s n ys t m = (n < budget) × FailsAt xs s at f × Stays xs s n ys t m
  Answers TurnLimit xs s n ys t m = (does_count xs ≡ true) × (budget ≤ n) × Stays xs s n ys t m
  Answers r xs s n ys t m = (rewriting l xs s ≡ Halts 1 r ys t) × (n < budget) × (m ≡ n + 1)

  -- An evaluation: rewritings up to the next stop, and its answer there.
  pub record Evaluates (xs : List (Item E P)) (s : S) (n : ℕ) (r : Resumed F) (ys : List (Item E P)) (t : S) (m : ℕ) : Type 0 where
    pub head : List (Item E P)
    pub store : S
    pub count : ℕ
    pub reached : Reaches xs s n head store count
    pub answered : Answers r head store count ys t m

  -- There is an evaluation of what is left, in a store and with a count.
  pub record HasEvaluation (xs : List (Item E P)) (s : S) (n : ℕ) : Type 0 where
    pub answer : Resumed F
    pub items : List (Item E P)
    pub store : S
    pub count : ℕ
    pub evaluation : Evaluates xs s n answer items store count

  -- Runs of rewritings compose.
  pub reaches_on : {xs : List (Item E P)} {s : S} {n : ℕ} {ys : List (Item E P)} {t : S} {m : ℕ} {zs : List (Item E P)} {u : S} {p : ℕ} → Reaches xs s n ys t m →
      Reaches ys t m zs u p → Reaches xs s n zs u p
  reaches_on a here = a
  reaches_on a (onward r e le) = onward (reaches_on a r) e le

  -- One rewriting is a run.
  pub reaches_once : {xs : List (Item E P)} {s : S} {n : ℕ} {ys : List (Item E P)} {t : S} {k : ℕ} → rewriting l xs s ≡ Proceeds k ys t → k ≤ budget - n → Reaches xs s n ys t (n + k)
  reaches_once e le = onward here e le

module _ {L E P V S F : Type 0} (l : Ghosts L E P V S F) where
  -- The answer isn't want of memory.
  abbrev pub IsNoMemory : Resumed F → Type 0
  IsNoMemory (Fault at f) = l.is_memory f ≡ false
  IsNoMemory r = Unit {0}
