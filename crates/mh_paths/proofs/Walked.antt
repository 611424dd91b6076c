-- The walk through a body is exact, and turns that are alike need no unrolling.
use Rattle.std.proofs.Common.{◌≡◌, ◌↔◌, ℕ, zero, suc, Bool, true, false, ◌&&◌, ◌||◌, List, refl}
use Rattle.std.specs.List.{list_any}
use Rattle.mh_paths.specs.Paths.{Statement, Does, Chooses, Counts, Loops, Breaks, Continues, Stops, Block, End, Then, Turns, NoTurn, Turn, Exit, Onward, Broken, Continued, Stopped, StatementPath, BlockPath, TurnsPath, HappensAlways, MayMiss, MayReadFirst}
use Rattle.mh_paths.specs.Walk.{Walk, walk, block_walk, turns_walk, alike, once_exit, goes_on}
use Rattle.mh_paths.proofs.Exact.{Exact, Reading, Missing, Some_path, nothing_exact, event_exact, row_exact, either_exact, turn_exact, loop_exact}

module _ {E : Type 0} (reads assigns : E → Bool) where
  mutual
    pub statement_exact : (s : Statement E) → Exact reads assigns (walk reads assigns s) (StatementPath s)
    statement_exact (Does event) = event_exact reads assigns event
    statement_exact (Chooses this that) = either_exact reads assigns (block_walk reads assigns this) (block_walk reads assigns that) (block_exact this) (block_exact that)
    statement_exact (Counts turns) = turns_exact turns
    statement_exact (Loops head body) = loop_exact reads assigns head (block_walk reads assigns body) (block_exact body)
    statement_exact Breaks = nothing_exact reads assigns Broken
    statement_exact Continues = nothing_exact reads assigns Continued
    statement_exact Stops = nothing_exact reads assigns Stopped

    pub block_exact : (b : Block E) → Exact reads assigns (block_walk reads assigns b) (BlockPath b)
    block_exact End = nothing_exact reads assigns Onward
    block_exact (Then s b) = row_exact reads assigns (walk reads assigns s) (block_walk reads assigns b) (statement_exact s) (block_exact b)

    pub turns_exact : (t : Turns E) → Exact reads assigns (turns_walk reads assigns t) (TurnsPath t)
    turns_exact NoTurn = nothing_exact reads assigns Onward
    turns_exact (Turn b t) = turn_exact reads assigns (block_walk reads assigns b) (turns_walk reads assigns t) (block_exact b) (turns_exact t)

  -- ---- the laws

  pub reads_law : (block : Block E) → ((block_walk reads assigns block).reads ≡ true) ↔ MayReadFirst reads assigns block
  reads_law block =
      let f : Exact reads assigns (block_walk reads assigns block) (BlockPath block) = block_exact block in (
        λ e. (let r : Reading reads assigns (BlockPath block) = f.read e in (r.path, r.exit, r.is, r.reads_first)),
        λ m. f.seen m.0 m.1 m.2 m.3,
      )

  pub misses_law : (block : Block E) → ((block_walk reads assigns block).missed Onward ≡ true) ↔ MayMiss assigns block
  misses_law block =
      let f : Exact reads assigns (block_walk reads assigns block) (BlockPath block) = block_exact block in (
        λ e. (let m : Missing reads assigns (BlockPath block) Onward = f.left Onward e in (m.path, m.is, m.misses)),
        λ m. f.missed m.0 Onward m.1 m.2,
      )

  assigned_or : (b : Bool) → (b ≡ false → ⊥) → b ≡ true
  assigned_or true h = refl
  assigned_or false h = absurd (h refl)

  never_both : (b : Bool) → b ≡ true → b ≡ false → ⊥
  never_both true e f = cc
  never_both false e f = cc

  false_or : (b : Bool) → (b ≡ true → ⊥) → b ≡ false
  false_or true h = absurd (h refl)
  false_or false h = refl

  pub happens_law : (block : Block E) → ((block_walk reads assigns block).missed Onward ≡ false) ↔ HappensAlways assigns block
  happens_law block =
      let f : Exact reads assigns (block_walk reads assigns block) (BlockPath block) = block_exact block in (
        λ e path is. assigned_or (list_any assigns path) (λ n. never_both ((block_walk reads assigns block).missed Onward) (f.missed path Onward is n) e),
        λ h. false_or ((block_walk reads assigns block).missed Onward) (λ e. (let m : Missing reads assigns (BlockPath block) Onward = f.left Onward e in never_both (list_any assigns m.path) (h m.path m.is) m.misses)),
      )

  -- ---- turns that are alike

  abbrev turn_of : Block E → Walk
  turn_of body = block_walk reads assigns body

  abbrev turns_of : ℕ → Block E → Walk
  turns_of n body = turns_walk reads assigns (alike n body)

  absorbs : (a g r : Bool) → r ≡ a → (a || (g && r)) ≡ a
  absorbs true g r e = refl
  absorbs false true r e = e
  absorbs false false r e = refl

  last_reads : (a g : Bool) → (a || (g && false)) ≡ a
  last_reads true g = refl
  last_reads false true = refl
  last_reads false false = refl

  last_onward : (a g : Bool) → (a || (g && true)) ≡ (a || g)
  last_onward true g = refl
  last_onward false true = refl
  last_onward false false = refl

  more_onward : (a g r : Bool) → r ≡ (a || g) → (a || (g && r)) ≡ (a || g)
  more_onward true g r e = refl
  more_onward false true r e = e
  more_onward false false r e = refl

  no_more_exit : (g r : Bool) → r ≡ false → (g && r) ≡ false
  no_more_exit true r e = e
  no_more_exit false r e = refl

  pub alike_reads : (n : ℕ) (body : Block E) → (turns_of (suc n) body).reads ≡ (turn_of body).reads
  alike_reads zero body = last_reads (turn_of body).reads (goes_on (turn_of body))
  alike_reads (suc n) body = absorbs (turn_of body).reads (goes_on (turn_of body)) (turns_of (suc n) body).reads (alike_reads n body)

  pub alike_missed : (n : ℕ) (body : Block E) (exit : Exit) → (turns_of (suc n) body).missed exit ≡ once_exit (turn_of body) exit
  alike_missed zero body Onward = last_onward ((turn_of body).missed Broken) (goes_on (turn_of body))
  alike_missed zero body Stopped = last_reads ((turn_of body).missed Stopped) (goes_on (turn_of body))
  alike_missed zero body Broken = no_more_exit (goes_on (turn_of body)) false refl
  alike_missed zero body Continued = no_more_exit (goes_on (turn_of body)) false refl
  alike_missed (suc n) body Onward = more_onward ((turn_of body).missed Broken) (goes_on (turn_of body)) ((turns_of (suc n) body).missed Onward) (alike_missed n body Onward)
  alike_missed (suc n) body Stopped = absorbs ((turn_of body).missed Stopped) (goes_on (turn_of body)) ((turns_of (suc n) body).missed Stopped) (alike_missed n body Stopped)
  alike_missed (suc n) body Broken = no_more_exit (goes_on (turn_of body)) ((turns_of (suc n) body).missed Broken) (alike_missed n body Broken)
  alike_missed (suc n) body Continued = no_more_exit (goes_on (turn_of body)) ((turns_of (suc n) body).missed Continued) (alike_missed n body Continued)

-- every body has a path
pub some_path : {E : Type 0} (block : Block E) → (path : List E) × (exit : Exit) × BlockPath block path exit
some_path block =
    let f : Some_path (λ e. false) (λ e. false) (BlockPath block) = (block_exact (λ e. false) (λ e. false) block).some in
    (f.path, f.exit, f.is)
