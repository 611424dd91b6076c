-- Which items a state of the code stands for: this project's own rule, by recursion on the items.
use Rattle.std.specs.Prelude.{ℕ, ℤ, suc, ◌+◌, ◌<◌, ◌^◌, true, false, List, [], ◌∷◌, ◌≡◌, Option, Some, slice_get, length}
use Rattle.mh_flow.specs.declared.lang.Lang.{Ghosts}
use Rattle.mh_flat.specs.declared.code.Position.{Position}
use Rattle.mh_flat.specs.declared.code.Operation.{Operation}
use Rattle.mh_flat.specs.declared.code.Operation.TheVariants.{Assign, Branch, Repeat, Iterate, Suspend, Report, Assert, Finish, Jump}
use Rattle.mh_flat.specs.declared.code.Instruction.{Instruction}
use Rattle.mh_flat.specs.declared.code.Code.{Code}
use Rattle.mh_flat.specs.declared.code.Counter.{Counter}
use Rattle.mh_flat.specs.declared.code.State.{State}
use Rattle.mh_flow.specs.Flow.{Statement, Block, Item, SetStatement, IfStatement, WhileStatement, CountStatement, WaitStatement, SayStatement, CheckStatement, StopStatement, BreakStatement, ContinueStatement, End, Then, Pending, BegunWhile, BegunCount, size, block_size, Evaluates}
use Rattle.mh_flat.specs.Fits.{FitsItems}
use Rattle.mh_flow.specs.Words.{Keeps}
use Rattle.mh_flow.specs.declared.resumed.Resumed.{Resumed}
use Rattle.mh_flat.specs.Machine.{IsNext}

-- The position of the statement at place k, and that of the loop there that has begun.
abbrev pub fresh : ℕ → Position
fresh k = record { at = k; begun = false }

abbrev pub begun : ℕ → Position
begun k = record { at = k; begun = true }

-- The position where a block at place k begins, or what follows it where it is empty.
abbrev pub first : {E P : Type 0} → ℕ → Block E P → Position → Position
first k End after = after
first k (Then t b) after = fresh k

module _ {L E P V S F : Type 0} (instructions : List (Instruction L E P V S F)) (room : ℕ) where
  -- The instruction at place k.
  abbrev pub HasInstruction : ℕ → Operation L E P V S F → Position → Type 0
  HasInstruction k operation after = slice_get instructions k ≡ Some (record { operation = operation; after = after })

  -- The instructions from place k on are those of a statement, or of a block: the positions that follow it, a
  -- break in it and a continue in it are given, and how many counted loops are around it.
  abbrev mutual
    pub HasStatement : Statement E P → ℕ → (after leave again : Position) → (depth : ℕ) → Type 0
    HasStatement (SetStatement p e) k after leave again d = HasInstruction k (Assign p e) after
    HasStatement (IfStatement e a b) k after leave again d =
        HasInstruction k (Branch e (first (k + 1) a after) (first (k + 1 + block_size a) b after)) after × HasBlock a (k + 1) after leave again d ×
        HasBlock b (k + 1 + block_size a) after leave again d
    HasStatement (WhileStatement e b) k after leave again d =
        HasInstruction k (Repeat e (first (k + 1) b (begun k))) after × HasBlock b (k + 1) (begun k) after (begun k) d
    HasStatement (CountStatement p x z w b) k after leave again d =
        (d < room) × HasInstruction k (Iterate p x z w d (first (k + 1) b (begun k))) after × HasBlock b (k + 1) (begun k) after (begun k) (suc d)
    HasStatement (WaitStatement w) k after leave again d = HasInstruction k (Suspend w) after
    HasStatement (SayStatement w) k after leave again d = HasInstruction k (Report w) after
    HasStatement (CheckStatement e) k after leave again d = HasInstruction k (Assert e) after
    HasStatement StopStatement k after leave again d = HasInstruction k Finish after
    HasStatement BreakStatement k after leave again d = HasInstruction k Jump leave
    HasStatement ContinueStatement k after leave again d = HasInstruction k Jump again

    pub HasBlock : Block E P → ℕ → (after leave again : Position) → (depth : ℕ) → Type 0
    HasBlock End k after leave again d = Unit {0}
    HasBlock (Then t b) k after leave again d =
        HasStatement t k (first (k + size t) b after) leave again d × HasBlock b (k + size t) after leave again d

  -- The position behind the last instruction.
  abbrev pub end : Position
  end = fresh (length instructions)

  -- The counter of a loop that has begun: its next number, limit and step. Where there is no next number in
  -- the counter, none stands before the limit.
  abbrev pub HasCounter : List Counter → ℕ → ℤ → ℤ → ℤ → Type 0
  HasCounter cs d n z w =
      (o : Option ℤ) × IsNext o n z w × (slice_get cs d ≡ Some (record { next = o; to = z; step = w }))

  -- From position g on the code does these items, with these counters. A break leads from here to `leave`, a
  -- continue to `again`, and d counted loops are around.
  abbrev pub Does : List Counter → List (Item E P) → Position → (leave again : Position) → (depth : ℕ) → Type 0
  Does cs [] g leave again d = (g ≡ end) × (leave ≡ end) × (again ≡ end)
  Does cs (Pending k t ∷ rest) g leave again d =
      (g ≡ fresh k) × ((after : Position) × HasStatement t k after leave again d × Does cs rest after leave again d)
  Does cs (BegunWhile k e b ∷ rest) g leave again d =
      (g ≡ begun k) × (again ≡ begun k) × ((leave' : Position) × (again' : Position) × HasStatement (WhileStatement e b) k leave leave' again' d × Does cs rest leave leave' again' d)
  Does cs (BegunCount k p n z w b ∷ rest) g leave again d =
      (g ≡ begun k) × (again ≡ begun k) × ((leave' : Position) × (again' : Position) × (d' : ℕ) × (x : E) × (y : E) × (v : E) × (d ≡ suc d') ×
      HasStatement (CountStatement p x y v b) k leave leave' again' d' × HasCounter cs d' n z w × Does cs rest leave leave' again' d')

  -- From a position on, with these counters, the code does these items.
  pub record Stands (cs : List Counter) (xs : List (Item E P)) (g : Position) : Type 0 where
    pub leave : Position
    pub again : Position
    pub depth : ℕ
    pub does : Does cs xs g leave again depth

-- A state of this code stands for these items: its code is small enough for places of 32 bits, it has room
-- for all counters, and the code does the items from its position on.
pub record StandsFor {L E P V S F : Type 0} (c : Code L E P V S F) (xs : List (Item E P)) (st : State) : Type 0 where
  pub small : length c.instructions.items < 2 ^ 32
  pub room : c.depth ≡ length st.counters.items
  pub stands : Stands c.instructions.items c.depth st.counters.items xs st.position

-- What `resume` does: an evaluation of what is left, whose answer, store and count are given. The new state
-- stands for what is left then, which fits the store, and whatever fitted the store before fits it still.
pub record Resumes {L E P V S F : Type 0} (l : Ghosts L E P V S F) (budget : ℕ) (c : Code L E P V S F) (xs : List (Item E P)) (st : State) (s : S) (r : Resumed F) (st' : State) (s' : S) : Type 0 where
  pub rest : List (Item E P)
  pub left : StandsFor c rest st'
  pub fits : FitsItems l rest s'
  pub keeps : Keeps l.fits_expr l.fits_set l.fits_count s s'
  pub evaluated : Evaluates l budget xs s st.count r rest s' st'.count
