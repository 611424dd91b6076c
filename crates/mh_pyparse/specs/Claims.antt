-- What the parser promises of a list of tokens that it refuses.
use Rattle.std.specs.Prelude.{◌≡◌, ℕ, ◌≤◌, List, [], ◌∷◌, ◌++◌}
use Rattle.mh_pytok.specs.Lexeme.{Lexeme}
use Rattle.mh_pytok.specs.declared.token.Tok.TheVariants.{End}
use Rattle.mh_pytree.specs.declared.statement.PyStmt.{PyStmt}
use Rattle.mh_pytree.specs.Depth.{text_depth}
use Rattle.mh_pyparse.specs.Grammar.{Spot, tok}
use Rattle.mh_pyparse.specs.Statements.{IsText}

-- the tokens of a whole text, with the end behind them
abbrev pub HasEnd : List Lexeme → Type 0
HasEnd ts = (front : List Lexeme) × (to : Spot) × (ts ≡ front ++ tok End to ∷ [])

-- No text at most d deep begins with the tokens up to one that stands on this line.
abbrev pub Refuses : ℕ → List Lexeme → ℕ → Type 0
Refuses d ts line = (u : List Lexeme) × (t : Lexeme) × (r : List Lexeme) × (ts ≡ u ++ t ∷ r) × (t.line ≡ line)
    × ((body : List PyStmt) (more : List Lexeme) → IsText body (u ++ t ∷ more) → text_depth body ≤ d → ⊥)
