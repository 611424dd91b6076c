-- Each turn of a loop in the reading of statements that goes on takes a token: the measure of the code's loops.
use Rattle.std.proofs.Common.{ℕ, ◌≤◌, List, [], ◌∷◌, ◌++◌, length, length-append, refl, ap, arith}
use Rattle.mh_reader.specs.Locality.{PassesNoEnd}
use Rattle.mh_reader.proofs.Local.{locally}
use Rattle.mh_reader.proofs.Advances.{Advances, advancing}
use Rattle.mh_pytok.specs.Lexeme.{Lexeme}
use Rattle.mh_pytok.specs.declared.token.Tok.TheVariants.{Name, Newline, Dedent, End}
use Rattle.mh_pytree.specs.declared.statement.PyStmt.{PyStmt}
use Rattle.mh_pyparse.specs.Signs.{semicolon, def_word, lparen, rparen, colon, elif_word, at_sign}
use Rattle.mh_pyparse.specs.Grammar.{tok}
use Rattle.mh_pyparse.specs.Statements as st
use Rattle.mh_pyparse.specs.Statements.{IsSimple, IsCompound, IsStmt}
use Rattle.mh_pyparse.specs.Reading.{Row, is}
use Rattle.mh_pyparse.specs.ReadingStatements as q
use Rattle.mh_pyparse.specs.ReadingStatements.{Body, Names, Branches, Params}
use Rattle.mh_pyparse.proofs.Local.{no_end, no_ends, local_closing, local_expr}
use Rattle.mh_pyparse.proofs.LocalStatements.{local_small, local_stmt, local_suite}
use Rattle.mh_pyparse.proofs.SoundStatements.{stmt_yields}
use Rattle.mh_pyparse.proofs.Advances.{Consumes, advances_after, advances_closing}

no_end_newline : PassesNoEnd (is End) (is Newline)
no_end_newline = no_end Newline refl

no_end_dedent : PassesNoEnd (is End) (is Dedent)
no_end_dedent = no_end Dedent refl

no_end_elif : PassesNoEnd (is End) (is elif_word)
no_end_elif = no_end elif_word refl

no_end_at : PassesNoEnd (is End) (is at_sign)
no_end_at = no_end at_sign refl

ruleset words = (no_ends, no_end_newline, no_end_dedent, no_end_elif, no_end_at)

-- ---- a statement has a token

simple_some : {body : List PyStmt} {u : List Lexeme} → IsSimple body u → 1 ≤ length u
simple_some (st.ended to x v i j e) = omega (arith, ap length e, length-append v (tok Newline to ∷ []))
simple_some (st.ended_twice at to x v i j e) = omega (arith, ap length e, length-append v (tok semicolon at ∷ tok Newline to ∷ []))
simple_some (st.then at x others v w i is j e) = omega (arith, ap length e, length-append v (tok semicolon at ∷ w))

compound_some : {t : PyStmt} {u : List Lexeme} → IsCompound t u → 1 ≤ length u
compound_some (st.def at at_name from to at_colon marks params body v w x i j k h e) =
    omega (arith, ap length e, length-append v (tok def_word at ∷ tok Name at_name ∷ tok lparen from ∷ (w ++ tok rparen to ∷ tok colon at_colon ∷ x)))
compound_some (st.branches at all v i j e) = omega (arith, ap length e)
compound_some (st.branches_else at at_else at_colon all body v w i k j e) = omega (arith, ap length e)
compound_some (st.for at at_name at_in at_colon over body v w i k j e) = omega (arith, ap length e)
compound_some (st.while at at_colon test body v w i k j e) = omega (arith, ap length e)

stmt_some : {body : List PyStmt} {u : List Lexeme} → IsStmt body u → 1 ≤ length u
stmt_some (st.simple i) = simple_some i
stmt_some (st.compound t i j) = compound_some i

pub consumes_stmt : (d : ℕ) → Consumes (q.stmt d)
consumes_stmt d = record {
  at = λ ts m x e.
      let a = (stmt_yields d).yields ts m x e in
      omega (arith, ap length a.1, length-append a.0 m, stmt_some a.2.are);
}

-- ---- small statements

pub advances_names_turn : (found : Names) → Advances (is End) (q.names_turn found)
unfolding q.names_turn
advances_names_turn found = search (advancing, locally, words) depth 14

pub advances_bracketed_names_turn : (found : Names) → Advances (is End) (q.bracketed_names_turn found)
unfolding q.bracketed_names_turn
advances_bracketed_names_turn found = search (advancing, locally, words) depth 14

module _ (d : ℕ) where
  pub advances_line_turn : (body : Body) → Advances (is End) (q.line_turn d body)
  unfolding q.line_turn
  advances_line_turn body = search (advancing, locally, words, local_small) depth 14

  -- ---- statements that hold others

  pub advances_block_turn : (body : Body) → Advances (is End) (q.block_turn (q.stmt d) body)
  unfolding q.block_turn
  advances_block_turn body = search (locally, words, advances_after, consumes_stmt) depth 14

  pub advances_branch_turn : (found : Branches) → Advances (is End) (q.branch_turn (q.stmt d) d found)
  unfolding q.branch_turn
  advances_branch_turn found = search (advancing, locally, words, local_expr, local_suite, local_stmt) depth 14

  pub advances_param_turn : (found : Params) → Advances (is End) (q.param_turn (q.stmt d) d found)
  unfolding q.param_turn
  advances_param_turn found = search (advancing, locally, words, advances_closing, local_closing, local_expr) depth 18

  pub advances_mark_turn : (found : Row) → Advances (is End) (q.mark_turn (q.stmt d) d found)
  unfolding q.mark_turn
  advances_mark_turn found = search (advancing, locally, words, local_expr) depth 14

  -- ---- whole texts

  pub advances_text_turn : (body : Body) → Advances (is End) (q.text_turn d body)
  unfolding q.text_turn
  advances_text_turn body = search (advances_after, consumes_stmt, advancing, locally) depth 14
