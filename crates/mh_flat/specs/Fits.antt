-- Which bodies fit a store, by what their expressions and places do: this project's own rule. A statement
-- fits where each of its expressions does, an assignment also asks that the place takes the expression's
-- value, and a counted loop that its place takes numbers.
use Rattle.std.specs.Prelude.{ℕ, ◌+◌, List, [], ◌∷◌}
use Rattle.mh_flow.specs.Words.{Keeps}
use Rattle.mh_flow.specs.declared.lang.Lang.{Ghosts}
use Rattle.mh_flow.specs.Flow.{Statement, Block, Item, SetStatement, IfStatement, WhileStatement, CountStatement, WaitStatement, SayStatement, CheckStatement, StopStatement, BreakStatement, ContinueStatement, End, Then, Pending, BegunWhile, BegunCount, size, block_items, after_loop, from_loop}

module _ {L E P V S F : Type 0} (l : Ghosts L E P V S F) where
  abbrev mutual
    pub FitsStatement : Statement E P → S → Type 0
    FitsStatement (SetStatement p e) s = l.fits_expr e s × l.fits_set p e s
    FitsStatement (IfStatement e a b) s = l.fits_expr e s × FitsBlock a s × FitsBlock b s
    FitsStatement (WhileStatement e b) s = l.fits_expr e s × FitsBlock b s
    FitsStatement (CountStatement p x y z b) s =
        l.fits_expr x s × l.fits_expr y s × l.fits_expr z s × l.fits_count p s × FitsBlock b s
    FitsStatement (WaitStatement w) s = Unit {0}
    FitsStatement (SayStatement w) s = Unit {0}
    FitsStatement (CheckStatement e) s = l.fits_expr e s
    FitsStatement StopStatement s = Unit {0}
    FitsStatement BreakStatement s = Unit {0}
    FitsStatement ContinueStatement s = Unit {0}

    pub FitsBlock : Block E P → S → Type 0
    FitsBlock End s = Unit {0}
    FitsBlock (Then t b) s = FitsStatement t s × FitsBlock b s

  -- What is left fits the store. The expressions of a counted loop that has begun were evaluated before.
  abbrev pub FitsItems : List (Item E P) → S → Type 0
  FitsItems [] s = Unit {0}
  FitsItems (Pending k t ∷ rest) s = FitsStatement t s × FitsItems rest s
  FitsItems (BegunWhile k e b ∷ rest) s = l.fits_expr e s × FitsBlock b s × FitsItems rest s
  FitsItems (BegunCount k p n z d b ∷ rest) s = l.fits_count p s × FitsBlock b s × FitsItems rest s

module _ {L E P V S F : Type 0} (l : Ghosts L E P V S F) where
  -- What is left of a body fits where the body does, after each jump too, and goes on to fit where the store
  -- keeps what fits.
  pub fits_todo : (b : Block E P) (k : ℕ) (rest : List (Item E P)) (s : S) → FitsBlock l b s → FitsItems l rest s → FitsItems l (block_items k b rest) s
  fits_todo End k rest s h r = r
  fits_todo (Then t b) k rest s h r = (h.0, fits_todo b (k + size t) rest s h.1 r)

  pub fits_after : (xs : List (Item E P)) (s : S) → FitsItems l xs s → FitsItems l (after_loop xs) s
  fits_after [] s h = h
  fits_after (Pending k t ∷ rest) s h = fits_after rest s h.1
  fits_after (BegunWhile k e b ∷ rest) s h = h.2
  fits_after (BegunCount k p n z d b ∷ rest) s h = h.2

  pub fits_from : (xs : List (Item E P)) (s : S) → FitsItems l xs s → FitsItems l (from_loop xs) s
  fits_from [] s h = h
  fits_from (Pending k t ∷ rest) s h = fits_from rest s h.1
  fits_from (BegunWhile k e b ∷ rest) s h = h
  fits_from (BegunCount k p n z d b ∷ rest) s h = h

  mutual
    pub kept_statement : (x : Statement E P) (s t : S) → Keeps l.fits_expr l.fits_set l.fits_count s t → FitsStatement l x s → FitsStatement l x t
    kept_statement (SetStatement p e) s t k h = (k.exprs e h.0, k.sets p e h.1)
    kept_statement (IfStatement e a b) s t k h = (k.exprs e h.0, kept_block a s t k h.1, kept_block b s t k h.2)
    kept_statement (WhileStatement e b) s t k h = (k.exprs e h.0, kept_block b s t k h.1)
    kept_statement (CountStatement p x y z b) s t k h =
        (k.exprs x h.0, k.exprs y h.1, k.exprs z h.2, k.counts p h.3, kept_block b s t k h.4)
    kept_statement (WaitStatement w) s t k h = tt
    kept_statement (SayStatement w) s t k h = tt
    kept_statement (CheckStatement e) s t k h = k.exprs e h
    kept_statement StopStatement s t k h = tt
    kept_statement BreakStatement s t k h = tt
    kept_statement ContinueStatement s t k h = tt

    pub kept_block : (b : Block E P) (s t : S) → Keeps l.fits_expr l.fits_set l.fits_count s t → FitsBlock l b s → FitsBlock l b t
    kept_block End s t k h = tt
    kept_block (Then x b) s t k h = (kept_statement x s t k h.0, kept_block b s t k h.1)

  pub kept : (xs : List (Item E P)) (s t : S) → Keeps l.fits_expr l.fits_set l.fits_count s t → FitsItems l xs s → FitsItems l xs t
  kept [] s t k h = tt
  kept (Pending n x ∷ rest) s t k h = (kept_statement x s t k h.0, kept rest s t k h.1)
  kept (BegunWhile n e b ∷ rest) s t k h = (k.exprs e h.0, kept_block b s t k h.1, kept rest s t k h.2)
  kept (BegunCount n p m z d b ∷ rest) s t k h =
      (k.counts p h.0, kept_block b s t k h.1, kept rest s t k h.2)
