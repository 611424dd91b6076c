-- Where a text is refused, no text begins with the tokens up to there; and a list of tokens has at most one tree.
use Rattle.std.proofs.Common.{◌≡◌, ℕ, ◌≤◌, ◌+◌, List, [], ◌∷◌, ◌++◌, Ok, Err, refl, sym, ap, ◌∙◌, arith}
use Rattle.std.proofs.lemmas.List.{map-append}
use Rattle.mh_reader.specs.Reader.{Outcome, Reads, first_of}
use Rattle.mh_reader.specs.Refusals as refusals
use Rattle.mh_reader.specs.declared.fault.Fault.{Fault}
use Rattle.mh_reader.specs.declared.fault.Fault.TheVariants.{Memory, Syntax}
use Rattle.mh_reader.proofs.Invert.{ok_pair}
use Rattle.mh_reader.proofs.Refuse.{begins_none}
use Rattle.mh_pytok.specs.Lexeme.{Lexeme, lexeme, lexemes}
use Rattle.mh_pytok.specs.Readable.{EndsOnce}
use Rattle.mh_pytok.specs.declared.token.Token.{Token}
use Rattle.mh_pytok.specs.declared.token.Tok.TheVariants.{End}
use Rattle.mh_pytree.specs.declared.statement.PyStmt.{PyStmt}
use Rattle.mh_pytree.specs.Depth.{text_depth}
use Rattle.mh_pyparse.specs.Grammar.{tok}
use Rattle.mh_pyparse.specs.Statements.{IsText}
use Rattle.mh_pyparse.specs.Claims.{HasEnd, Refuses}
use Rattle.mh_pyparse.specs.Reading.{is}
use Rattle.mh_pyparse.specs.ReadingStatements.{Body, line_at, stmts, text}
use Rattle.mh_pyparse.proofs.LocalStatements.{local_stmts}
use Rattle.mh_pyparse.proofs.CompleteStatements.{text_complete}

-- ---- the end

has_end : (ts : List Lexeme) → HasEnd ts → refusals.HasEnd (is End) ts
unfolding is
has_end ts h = (h.0, tok End h.1, refl, h.2)

-- tokens that end once have an end
pub ends_once : (src : List ℕ) (ts : List Token) → EndsOnce ts → HasEnd (lexemes src ts)
ends_once src ts h = (
  lexemes src h.front,
  record { text = (lexeme src h.last).text; line = (lexeme src h.last).line },
  ap (lexemes src) h.is ∙ map-append (lexeme src) h.front (h.last ∷ []) ∙ ap (λ k. lexemes src h.front ++ tok k (record { text = (lexeme src h.last).text; line = (lexeme src h.last).line }) ∷ []) h.ended,
)

-- ---- refusal

abbrev Sentence : ℕ → List PyStmt → List Lexeme → Type 0
Sentence d body ts = IsText body ts × (text_depth body ≤ d)

read_whole : (d : ℕ) (body : List PyStmt) (ts : List Lexeme) → Sentence d body ts → (x : Body) × (m : List Lexeme) × (text d ts ≡ Ok (x, m))
read_whole d body ts s = ((body, text_depth body), [], text_complete s.0 d s.1)

-- The first of the tokens that are left is one with which no text at most d deep goes on.
pub refuses : (d : ℕ) (ts r : List Lexeme) → HasEnd ts → text d ts ≡ Err r → Refuses d ts (line_at (first_of r))
unfolding text
refuses d ts r h e =
    let s = begins_none (is End) (stmts d) (local_stmts d) ts (has_end ts h) (Sentence d) (read_whole d) r e in (
      s.0,
      s.1,
      s.2,
      s.4,
      sym (ap (λ m. line_at (first_of m)) s.3),
      λ body more i l. s.5 body more (i, l),
    )

-- ---- one tree

-- Each list of tokens has at most one tree.
pub one_tree : (a b : List PyStmt) (ts : List Lexeme) → IsText a ts → IsText b ts → a ≡ b
one_tree a b ts i j =
    let d = text_depth a + text_depth b in
    let p = text_complete i d (omega arith) in
    let q = text_complete j d (omega arith) in
    ap (λ (x : Body). x.0) (ok_pair (a, text_depth a) (b, text_depth b) [] [] (sym p ∙ q)).0

-- ---- for the function that parses

pub was_refused : (o : Outcome Lexeme Body) (f : Fault) (r : List Lexeme) → f ≡ Syntax → Reads o (Err f) r → o ≡ Err r
was_refused o Memory r e h = absurd (cc)
was_refused o Syntax r e h = h

-- what was read is the tree of each text that the tokens are
pub only_tree : (d : ℕ) (ts r : List Lexeme) (x : Body) (body : List PyStmt) → text d ts ≡ Ok (x, r) → IsText body ts → text_depth body ≤ d → x.0 ≡ body
only_tree d ts r x body e i h = ap (λ (x : Body). x.0) (ok_pair x (body, text_depth body) r [] (sym e ∙ text_complete i d h)).0

-- where none was read the tokens are no text
pub not_refused : (d : ℕ) (ts r : List Lexeme) (body : List PyStmt) → text d ts ≡ Err r → IsText body ts → text_depth body ≤ d → ⊥
not_refused d ts r body e i h = let yes = text_complete i d h in absurd (cc (yes, e))
