-- A statement that holds others, by the list of those.
use Rattle.std.proofs.Common.{◌≡◌, ◌+◌, ◌<◌, ◌≤◌, suc, max, arith, length, ℕ, List, [], ◌∷◌, ◌++◌, refl, ap, ◌∙◌, Vec, Global}
use Rattle.mh_flow.specs.declared.lang.Lang.{Ghosts}
use Rattle.mh_flow.specs.Flow.{Item, Pending, BegunWhile, BegunCount}
use Rattle.mh_flat.specs.Fits.{FitsStatement, FitsBlock, FitsItems}
use Rattle.mh_flat.specs.declared.step.Step.{Step}
use Rattle.mh_flat.specs.declared.step.Step.TheVariants.{If, While, Count}
use Rattle.mh_flow.specs.Flow.{Statement, Block, SetStatement, IfStatement, WhileStatement, CountStatement, WaitStatement, SayStatement, CheckStatement, StopStatement, BreakStatement, ContinueStatement, End, Then, size, block_size}
use Rattle.mh_flat.specs.Flat.{nesting, block_nesting}
use Rattle.mh_flat.specs.Body.{statement_of, block_of, statement_if, statement_while, statement_count}
use Rattle.mh_flat.specs.declared.code.Position.{Position}
use Rattle.mh_flat.specs.Stands.{first, fresh}

pub size_if : {L E P V S F : Type 0} (s : Step L E P V S F) (e : E) (a b : Vec (Step L E P V S F) Global) → s ≡ If e a b → size (statement_of s) ≡ 1 + block_size (block_of a.items) + block_size (block_of b.items)
size_if s e a b h = ap (λ x. size (statement_of x)) h ∙ ap size (statement_if e a b)

pub size_while : {L E P V S F : Type 0} (s : Step L E P V S F) (e : E) (b : Vec (Step L E P V S F) Global) → s ≡ While e b → size (statement_of s) ≡ 1 + block_size (block_of b.items)
size_while s e b h = ap (λ x. size (statement_of x)) h ∙ ap size (statement_while e b)

pub size_count : {L E P V S F : Type 0} (s : Step L E P V S F) (p : P) (x y z : E) (b : Vec (Step L E P V S F) Global) → s ≡ Count p x y z b → size (statement_of s) ≡ 1 + block_size (block_of b.items)
size_count s p x y z b h = ap (λ x. size (statement_of x)) h ∙ ap size (statement_count p x y z b)

-- where a block begins
pub first_full : {L E P V S F : Type 0} (xs : List (Step L E P V S F)) (k : ℕ) (after : Position) → 0 < length xs → first k (block_of xs) after ≡ fresh k
first_full [] k after h = absurd (omega arith)
first_full (x ∷ xs) k after h = refl

pub first_empty : {L E P V S F : Type 0} (xs : List (Step L E P V S F)) (k : ℕ) (after : Position) → length xs ≡ 0 → first k (block_of xs) after ≡ after
first_empty [] k after h = refl
first_empty (x ∷ xs) k after h = absurd (omega arith)

pub nest_if : {L E P V S F : Type 0} (s : Step L E P V S F) (e : E) (a b : Vec (Step L E P V S F) Global) → s ≡ If e a b → nesting (statement_of s) ≡ max (block_nesting (block_of a.items)) (block_nesting (block_of b.items))
nest_if s e a b h = ap (λ x. nesting (statement_of x)) h ∙ ap nesting (statement_if e a b)

pub nest_while : {L E P V S F : Type 0} (s : Step L E P V S F) (e : E) (b : Vec (Step L E P V S F) Global) → s ≡ While e b → nesting (statement_of s) ≡ block_nesting (block_of b.items)
nest_while s e b h = ap (λ x. nesting (statement_of x)) h ∙ ap nesting (statement_while e b)

pub nest_count : {L E P V S F : Type 0} (s : Step L E P V S F) (p : P) (x y z : E) (b : Vec (Step L E P V S F) Global) → s ≡ Count p x y z b → nesting (statement_of s) ≡ suc (block_nesting (block_of b.items))
nest_count s p x y z b h = ap (λ v. nesting (statement_of v)) h ∙ ap nesting (statement_count p x y z b)

-- loops stand no deeper in one another than there are statements
mutual
  nesting_size : {E P : Type 0} (t : Statement E P) → nesting t ≤ size t
  nesting_size (SetStatement p e) = omega arith
  nesting_size (IfStatement e a b) = omega (arith, nestings_sizes a, nestings_sizes b)
  nesting_size (WhileStatement e b) = omega (arith, nestings_sizes b)
  nesting_size (CountStatement p x y z b) = omega (arith, nestings_sizes b)
  nesting_size (WaitStatement w) = omega arith
  nesting_size (SayStatement w) = omega arith
  nesting_size (CheckStatement e) = omega arith
  nesting_size StopStatement = omega arith
  nesting_size BreakStatement = omega arith
  nesting_size ContinueStatement = omega arith

  pub nestings_sizes : {E P : Type 0} (b : Block E P) → block_nesting b ≤ block_size b
  nestings_sizes End = omega arith
  nestings_sizes (Then t b) = omega (arith, nesting_size t, nestings_sizes b)

-- the size of a list of statements with one more at its end
pub size_last : {L E P V S F : Type 0} (xs : List (Step L E P V S F)) (x : Step L E P V S F) → block_size (block_of (xs ++ x ∷ [])) ≡ block_size (block_of xs) + size (statement_of x)
size_last [] x = omega arith
size_last (y ∷ xs) x = omega (arith, size_last xs x)

-- where every expression and place fits every store, so does whatever is left
module _ {L E P V S F : Type 0} (l : Ghosts L E P V S F) (expr : (e : E) (s : S) → l.fits_expr e s) (set : (p : P) (e : E) (s : S) → l.fits_set p e s) (count : (p : P) (s : S) → l.fits_count p s) where
  mutual
    fits_statement : (t : Statement E P) (s : S) → FitsStatement l t s
    fits_statement (SetStatement p e) s = (expr e s, set p e s)
    fits_statement (IfStatement e a b) s = (expr e s, fits_block a s, fits_block b s)
    fits_statement (WhileStatement e b) s = (expr e s, fits_block b s)
    fits_statement (CountStatement p x y z b) s = (expr x s, expr y s, expr z s, count p s, fits_block b s)
    fits_statement (WaitStatement w) s = tt
    fits_statement (SayStatement w) s = tt
    fits_statement (CheckStatement e) s = expr e s
    fits_statement StopStatement s = tt
    fits_statement BreakStatement s = tt
    fits_statement ContinueStatement s = tt

    fits_block : (b : Block E P) (s : S) → FitsBlock l b s
    fits_block End s = tt
    fits_block (Then t b) s = (fits_statement t s, fits_block b s)

  pub fits_any : (xs : List (Item E P)) (s : S) → FitsItems l xs s
  fits_any [] s = tt
  fits_any (Pending k t ∷ rest) s = (fits_statement t s, fits_any rest s)
  fits_any (BegunWhile k e b ∷ rest) s = (expr e s, fits_block b s, fits_any rest s)
  fits_any (BegunCount k p n z d b ∷ rest) s = (count p s, fits_block b s, fits_any rest s)
