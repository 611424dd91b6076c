-- What statements begin with and what may stand behind them, and the steps by which it is shown that they are read.
use Rattle.std.proofs.Common.{◌≡◌, ℕ, ◌≤◌, ◌==◌, Bool, true, false, List, [], ◌∷◌, ◌++◌, length, append_assoc, Some, None, Ok, refl, ap, ◌∙◌, arith, cond, if◌then◌else◌}
use Rattle.mh_reader.specs.Reader.{Outcome, ◌>>=◌, first_of, sees, want}
use Rattle.mh_reader.proofs.Steps.{chain_at, want_yes}
use Rattle.mh_pytok.specs.Lexeme.{Lexeme}
use Rattle.mh_pytok.specs.declared.token.Tok.{Tok}
use Rattle.mh_pytok.specs.declared.token.Tok.TheVariants.{Keyword, Sign, Newline}
use Rattle.mh_pytree.specs.declared.expression.PyExpr.{PyExpr}
use Rattle.mh_pytree.specs.declared.statement.PyStmt.{PyStmt}
use Rattle.mh_pyparse.specs.Signs.{same_kind, def_word, elif_word, else_word, equals, semicolon}
use Rattle.mh_pyparse.specs.Grammar.{Spot, tok, IsExpr, AreExprs}
use Rattle.mh_pyparse.specs.Statements as st
use Rattle.mh_pyparse.specs.Statements.{first_line, AreNames, IsSmall, IsSimple, IsParam, AreParams, AreMarks, IsCompound, AreBranches, IsSuite, IsStmt, AreStmts}
use Rattle.mh_pyparse.specs.Operators.{begins, begins_word, begins_sign, augment_sign}
use Rattle.mh_pyparse.specs.Reading.{Read, is, text_if, begins_at}
use Rattle.mh_pyparse.specs.ReadingStatements.{line_at, augment_at}
use Rattle.mh_pyparse.proofs.Tables.{same_is}
use Rattle.mh_pyparse.proofs.First.{Quiet, begins_expr, begins_exprs, closes_quiet, closes-newline, closes-semicolon}

-- ---- a token of the kind is next, and gives its text

pub wanted : {B : Type 0} (k : Tok) (f : List ℕ → Read B) (at : Spot) (r : List Lexeme) → same_kind k k ≡ true → (want (text_if k) >>= f) (tok k at ∷ r) ≡ f at.text r
unfolding is text_if
wanted k f at r e = chain_at (want (text_if k)) f (tok k at ∷ r) r at.text (want_yes (text_if k) (tok k at) r at.text (ap (λ (b : Bool). cond b (Some at.text) None) e))

-- ---- equations between answers

pub deep_eq : {A : Type 0} (x : A) (m n : ℕ) (r : List Lexeme) → m ≡ n → ◌≡◌ {A = Outcome Lexeme (A × ℕ)} (Ok ((x, m), r)) (Ok ((x, n), r))
deep_eq {A} x m n r e = ap (λ m. let o : Outcome Lexeme (A × ℕ) = Ok ((x, m), r) in o) e

pub row_eq : {A : Type 0} (x y : List A) (m n : ℕ) (r : List Lexeme) → x ≡ y → m ≡ n → ◌≡◌ {A = Outcome Lexeme (List A × ℕ)} (Ok ((x, m), r)) (Ok ((y, n), r))
row_eq {A} x y m n r e f = ap (λ x. let o : Outcome Lexeme (List A × ℕ) = Ok ((x, m), r) in o) e ∙ ap (λ m. let o : Outcome Lexeme (List A × ℕ) = Ok ((y, m), r) in o) f

-- ---- what begins a statement

unfoldable pub small_word : Tok → Bool
small_word (Keyword n) = if n == 6 then true else if n == 9 then true else if n == 11 then true else if n == 19 then true else if n == 29 then true else if n == 30 then true else if n == 31 then true else n == 35
small_word _ = false

unfoldable pub compound_word : Tok → Bool
compound_word (Keyword n) = if n == 12 then true else if n == 18 then true else if n == 21 then true else n == 33
compound_word (Sign n) = n == 37
compound_word _ = false

abbrev pub begins_small : Tok → Bool
begins_small k = if begins k then true else small_word k

abbrev pub begins_stmt : Tok → Bool
begins_stmt k = if begins_small k then true else compound_word k

abbrev pub starts : (Tok → Bool) → List Lexeme → Bool
starts f [] = false
starts f (t ∷ ts) = f t.kind

-- a kind that does and a kind that doesn't are two
apart : (f : Tok → Bool) (k m : Tok) → f k ≡ true → f m ≡ false → same_kind k m ≡ false
apart f k m e h = go (same_kind k m) refl
  where
    go : (b : Bool) → same_kind k m ≡ b → b ≡ false
    go false g = refl
    go true g = let q = ap f (same_is k m g) in absurd (cc (q, e, h))

pub unseen : (f : Tok → Bool) (m : Tok) (ts : List Lexeme) → starts f ts ≡ true → f m ≡ false → sees (is m) ts ≡ false
unfolding is
unseen f m [] e h = refl
unseen f m (t ∷ ts) e h = apart f t.kind m e h

-- what starts so isn't empty
pub filled : (f : Tok → Bool) (v : List Lexeme) → starts f (v ++ []) ≡ true → 1 ≤ length v
filled f [] e = absurd (cc)
filled f (t ∷ v) e = omega arith

-- and keeps its line whatever follows
pub line_kept : (f : Tok → Bool) (v r : List Lexeme) → starts f (v ++ []) ≡ true → line_at (first_of (v ++ r)) ≡ first_line v
line_kept f [] r e = absurd (cc)
line_kept f (t ∷ v) r e = refl

wider : (f : Tok → Bool) (ts : List Lexeme) → starts f ts ≡ true → (g : Tok → Bool) → ((k : Tok) → f k ≡ true → g k ≡ true) → starts g ts ≡ true
wider f [] e g h = absurd (cc)
wider f (t ∷ ts) e g h = h t.kind e

ahead : (f : Tok → Bool) (u v w r : List Lexeme) → u ≡ v ++ w → ((r : List Lexeme) → starts f (v ++ r) ≡ true) → starts f (u ++ r) ≡ true
ahead f u v w r e h = rw (e, append_assoc v w r) (h (w ++ r))

begun : (ts : List Lexeme) → begins_at (first_of ts) ≡ true → starts begins ts ≡ true
begun [] e = e
begun (t ∷ ts) e = e

pub expr_starts : {l : ℕ} {t : PyExpr} {u : List Lexeme} → IsExpr l t u → (r : List Lexeme) → starts begins (u ++ r) ≡ true
expr_starts {l} {t} {u} d r = begun (u ++ r) (begins_expr d r)

pub exprs_start : {t : PyExpr} {u : List Lexeme} → AreExprs t u → (r : List Lexeme) → starts begins (u ++ r) ≡ true
exprs_start {t} {u} d r = begun (u ++ r) (begins_exprs d r)

small_of : (ts : List Lexeme) → starts begins ts ≡ true → starts begins_small ts ≡ true
small_of ts e = wider begins ts e begins_small (λ k e. rw e refl)

expr_small : {l : ℕ} {t : PyExpr} {u : List Lexeme} → IsExpr l t u → (r : List Lexeme) → starts begins_small (u ++ r) ≡ true
expr_small {l} {t} {u} d r = small_of (u ++ r) (expr_starts d r)

exprs_small : {t : PyExpr} {u : List Lexeme} → AreExprs t u → (r : List Lexeme) → starts begins_small (u ++ r) ≡ true
exprs_small {t} {u} d r = small_of (u ++ r) (exprs_start d r)

pub small_starts : {t : PyStmt} {u : List Lexeme} → IsSmall t u → (r : List Lexeme) → starts begins_small (u ++ r) ≡ true
unfolding begins_word small_word
small_starts (st.value a d i) r = exprs_small d r
small_starts (st.assign at a b v w d e i j) r = ahead begins_small _ v _ r j (exprs_small d)
small_starts (st.augment op sign at a b v w s d e i j) r = ahead begins_small _ v _ r j (expr_small d)
small_starts (st.pass at i j) r = rw j refl
small_starts (st.break at i j) r = rw j refl
small_starts (st.continue at i j) r = rw j refl
small_starts (st.return at i j) r = rw j refl
small_starts (st.return_value at a v d i j) r = rw j refl
small_starts (st.yield at a v d i j) r = rw j refl
small_starts (st.raise at a v d i j) r = rw j refl
small_starts (st.assert at a v d i j) r = rw j refl
small_starts (st.assert_saying at between text a v d i j) r = rw j refl
small_starts (st.import_all at of at_import to h i j) r = rw j refl
small_starts (st.import at of at_import names v h d i j) r = rw j refl
small_starts (st.import_in_brackets at of at_import from to names v h d i j) r = rw j refl
small_starts (st.import_with_comma at of at_import from last to names v h d i j) r = rw j refl

pub simple_starts : {body : List PyStmt} {u : List Lexeme} → IsSimple body u → (r : List Lexeme) → starts begins_small (u ++ r) ≡ true
simple_starts (st.ended to x v d i j) r = ahead begins_small _ v _ r j (small_starts d)
simple_starts (st.ended_twice at to x v d i j) r = ahead begins_small _ v _ r j (small_starts d)
simple_starts (st.then at x others v w d e i j) r = ahead begins_small _ v _ r j (small_starts d)

marks_start : {marks : List PyExpr} {v : List Lexeme} → AreMarks marks v → (at : Spot) (r : List Lexeme) → starts begins_stmt (v ++ tok def_word at ∷ r) ≡ true
unfolding begins_word begins_sign small_word compound_word
marks_start (st.no_mark i j) at r = rw j refl
marks_start (st.mark at to a others v w d e i j) at_def r = rw j refl

pub compound_starts : {t : PyStmt} {u : List Lexeme} → IsCompound t u → (r : List Lexeme) → starts begins_stmt (u ++ r) ≡ true
unfolding begins_word small_word compound_word
compound_starts (st.def at at_name from to at_colon marks params body v w x d e f i j) r = rw (j, append_assoc v _ r) (marks_start d at _)
compound_starts (st.branches at all v d i j) r = rw j refl
compound_starts (st.branches_else at at_else at_colon all body v w d e i j) r = rw j refl
compound_starts (st.for at at_name at_in at_colon over body v w d e i j) r = rw j refl
compound_starts (st.while at at_colon test body v w d e i j) r = rw j refl

pub stmt_starts : {body : List PyStmt} {u : List Lexeme} → IsStmt body u → (r : List Lexeme) → starts begins_stmt (u ++ r) ≡ true
stmt_starts {body} {u} (st.simple d) r = wider begins_small (u ++ r) (simple_starts d r) begins_stmt (λ k e. rw e refl)
stmt_starts (st.compound t d i) r = compound_starts d r

pub stmts_start : {body : List PyStmt} {u : List Lexeme} → AreStmts body u → (r : List Lexeme) → starts begins_stmt (u ++ r) ≡ true
stmts_start (st.one d) r = stmt_starts d r
stmts_start (st.more first others v w d e i j) r = ahead begins_stmt _ v w r j (stmt_starts d)

pub names_start : {names : List (List ℕ)} {u : List Lexeme} → AreNames names u → (r : List Lexeme) → starts begins (u ++ r) ≡ true
names_start (st.one_name at i j) r = rw j refl
names_start (st.more_names at between others v d i j) r = rw j refl

-- ---- what may stand behind a statement

-- no branch of an `if` before it
pub record Calm (r : List Lexeme) : Type 0 where
  pub no_elif : sees (is elif_word) r ≡ false
  pub no_else : sees (is else_word) r ≡ false

pub calm : (k : Tok) (at : Spot) (r : List Lexeme) → same_kind k elif_word ≡ false → same_kind k else_word ≡ false → Calm (tok k at ∷ r)
unfolding is
calm k at r e f = record { no_elif = e; no_else = f }

pub stmts_calm : {body : List PyStmt} {u : List Lexeme} → AreStmts body u → (r : List Lexeme) → Calm (u ++ r)
unfolding begins_word small_word compound_word
stmts_calm {body} {u} d r = record {
  no_elif = unseen begins_stmt elif_word (u ++ r) (stmts_start d r) refl;
  no_else = unseen begins_stmt else_word (u ++ r) (stmts_start d r) refl;
}

-- the end of a small statement
pub record Ended (r : List Lexeme) : Type 0 where
  pub quiet : Quiet r
  pub no_equals : sees (is equals) r ≡ false
  pub no_operator : augment_at (first_of r) ≡ None

pub ended_newline : (at : Spot) (r : List Lexeme) → Ended (tok Newline at ∷ r)
unfolding is
ended_newline at r = record { quiet = closes_quiet Newline at r closes-newline; no_equals = refl; no_operator = refl }

pub ended_semicolon : (at : Spot) (r : List Lexeme) → Ended (tok semicolon at ∷ r)
unfolding is augment_sign
ended_semicolon at r = record { quiet = closes_quiet semicolon at r closes-semicolon; no_equals = refl; no_operator = refl }
