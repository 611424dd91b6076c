-- Small statements and lines of them are read.
use Rattle.std.proofs.Common.{◌≡◌, ℕ, zero, suc, ◌≤◌, ◌+◌, max, Bool, true, false, nat_le, nat_lt, nat_eq, List, [], ◌∷◌, ◌++◌, length, length-append, append_assoc, Option, Some, None, Ok, refl, sym, ap, ◌∙◌, arith, subst, cond, codes}
use Rattle.std.specs.Cmp.Lexicographic.{pointwise}
use Rattle.std.proofs.lemmas.Bool.{lt-ltb, le-leb}
use Rattle.mh_reader.specs.Reader.{◌>>=◌, first_of, sees, look, take, eat, expect, many}
use Rattle.mh_reader.proofs.Steps.{chain_at, expect_yes}
use Rattle.mh_reader.proofs.Turns.{many_done, many_again}
use Rattle.mh_pytok.specs.Lexeme.{Lexeme}
use Rattle.mh_pytok.specs.Strings.{string_value}
use Rattle.mh_pytok.specs.declared.token.Tok.{Tok}
use Rattle.mh_pytok.specs.declared.token.Tok.TheVariants.{Name, Str, Newline}
use Rattle.mh_pytree.specs.declared.expression.Operator.{Operator}
use Rattle.mh_pytree.specs.declared.expression.PyExpr.{PyExpr}
use Rattle.mh_pytree.specs.declared.statement.PyStmt.{PyStmt}
use Rattle.mh_pytree.specs.declared.statement.PyStmt.TheVariants as tree
use Rattle.mh_pytree.specs.declared.statement.PyStmt.TheOpen.{PyStmt-F}
use Rattle.mh_pytree.specs.declared.statement.PyStmt.TheFolds.{fold_out-PyStmt}
use Rattle.mh_pytree.specs.Depth.{expr_depth, stmt_depth, text_depth, stmt_step, branch_step, def_step}
use Rattle.mh_pytree.proofs.Depths.{depth-value, depth-assign, depth-augment, depth-pass, depth-break, depth-continue, depth-return, depth-yield, depth-raise, depth-assert, depth-importall, depth-import}
use Rattle.mh_pyparse.specs.Signs.{same_kind, assert_word, break_word, continue_word, from_word, import_word, pass_word, raise_word, return_word, yield_word, star, equals, lparen, rparen, comma, semicolon, augmented}
use Rattle.mh_pyparse.specs.Grammar.{Spot, tok, IsExpr, AreExprs}
use Rattle.mh_pyparse.specs.Statements as st
use Rattle.mh_pyparse.specs.Statements.{first_line, AreNames, IsSmall, IsSimple}
use Rattle.mh_pyparse.specs.Operators.{augment_of, augment_sign, begins, begins_word, begins_sign, level}
use Rattle.mh_pyparse.specs.Reading.{Deep, is, begins_at, expr, exprs}
use Rattle.mh_pyparse.specs.ReadingStatements as read
use Rattle.mh_pyparse.specs.ReadingStatements.{Step, Body, Names, line_at, augment_at, is_module}
use Rattle.mh_pyparse.proofs.Tables.{augment_of-augmented}
use Rattle.mh_pyparse.proofs.First.{closes_quiet, closes-equals, closes-augmented}
use Rattle.mh_pyparse.proofs.Complete.{read_expr, read_exprs, read_one, level_of, depth-some}
use Rattle.mh_pyparse.proofs.CompleteItems.{comma_stops}
use Rattle.mh_pyparse.proofs.CompleteSteps.{eaten, expected, unseen as passed}
use Rattle.mh_pyparse.proofs.CompleteStatementsFirst.{wanted, deep_eq, row_eq, starts, begins_small, small_word, unseen, line_kept, expr_starts, exprs_start, simple_starts, names_start, Ended, ended_newline, ended_semicolon}

-- ---- names

abbrev Names_of : List (List ℕ) → List Lexeme → Type 0
Names_of names u = (s : Names) (r : List Lexeme) → sees (is comma) r ≡ false → many read.names_turn s (u ++ r) ≡ Ok (s ++ names, r)

names_one : (at : Spot) → Names_of (at.text ∷ []) (tok Name at ∷ [])
unfolding read.names_turn
names_one at s r e = many_done read.names_turn s (tok Name at ∷ r) (s ++ at.text ∷ []) r (wanted Name _ at r refl ∙ passed comma r _ e)

names_more : (at between : Spot) (others : List (List ℕ)) (v : List Lexeme) → Names_of others v → Names_of (at.text ∷ others) (tok Name at ∷ tok comma between ∷ v)
unfolding read.names_turn
names_more at between others v ih s r e =
    let step = read.names_turn in
    many_again step s (tok Name at ∷ tok comma between ∷ (v ++ r)) (s ++ at.text ∷ []) (v ++ r)
    (wanted Name _ at (tok comma between ∷ (v ++ r)) refl ∙ eaten comma between (v ++ r) _ refl)
    (omega arith)
    ∙ ih (s ++ at.text ∷ []) r e
    ∙ ap (λ (x : Names). let o : _ = Ok (x, r) in o) (append_assoc s (at.text ∷ []) others)

pub moved : {A : Type 0} (P : A → List Lexeme → Type 0) (t t' : A) (u u' : List Lexeme) → t ≡ t' → u ≡ u' → P t' u' → P t u
moved P t t' u u' e f h = subst (λ t. P t u) (sym e) (subst (λ u. P t' u) (sym f) h)

names_read : {names : List (List ℕ)} {u : List Lexeme} → AreNames names u → Names_of names u
names_read (st.one_name at i j) = moved Names_of _ _ _ _ i j (names_one at)
names_read (st.more_names at between others v d i j) = moved Names_of _ _ _ _ i j (names_more at between others v (names_read d))

-- the closing bracket with r behind it, after a comma or not: a last name leads there
abbrev Closed : List Lexeme → List Lexeme → Type 0
Closed tail r = (s : Names) (at : Spot) → read.bracketed_names_turn s (tok Name at ∷ tail) ≡ Ok ((s ++ at.text ∷ [], false), r)

closed_bare : (to : Spot) (r : List Lexeme) → Closed (tok rparen to ∷ r) r
unfolding read.bracketed_names_turn is
closed_bare to r s at =
    wanted Name _ at (tok rparen to ∷ r) refl
    ∙ passed comma (tok rparen to ∷ r) _ refl
    ∙ expected rparen to r _ refl

closed_comma : (last to : Spot) (r : List Lexeme) → Closed (tok comma last ∷ tok rparen to ∷ r) r
unfolding read.bracketed_names_turn
closed_comma last to r s at =
    wanted Name _ at (tok comma last ∷ tok rparen to ∷ r) refl
    ∙ eaten comma last (tok rparen to ∷ r) _ refl
    ∙ eaten rparen to r _ refl

abbrev Bracketed_of : List (List ℕ) → List Lexeme → Type 0
Bracketed_of names u = (s : Names) (tail r : List Lexeme) → Closed tail r → length r ≤ length tail → many read.bracketed_names_turn s (u ++ tail) ≡ Ok (s ++ names, r)

bracketed_one : (at : Spot) → Bracketed_of (at.text ∷ []) (tok Name at ∷ [])
bracketed_one at s tail r e h = many_done read.bracketed_names_turn s (tok Name at ∷ tail) (s ++ at.text ∷ []) r (e s at)

bracketed_more : (at between : Spot) (others : List (List ℕ)) (v : List Lexeme) → AreNames others v → Bracketed_of others v → Bracketed_of (at.text ∷ others) (tok Name at ∷ tok comma between ∷ v)
unfolding read.bracketed_names_turn begins_sign
bracketed_more at between others v d ih s tail r e h =
    let step = read.bracketed_names_turn in
    many_again step s (tok Name at ∷ tok comma between ∷ (v ++ tail)) (s ++ at.text ∷ []) (v ++ tail)
    (wanted Name _ at (tok comma between ∷ (v ++ tail)) refl
    ∙ eaten comma between (v ++ tail) _ refl
    ∙ passed rparen (v ++ tail) _ (unseen begins rparen (v ++ tail) (names_start d tail) refl))
    (omega arith)
    ∙ ih (s ++ at.text ∷ []) tail r e h
    ∙ ap (λ (x : Names). let o : _ = Ok (x, r) in o) (append_assoc s (at.text ∷ []) others)

bracketed_read : {names : List (List ℕ)} {u : List Lexeme} → AreNames names u → Bracketed_of names u
bracketed_read (st.one_name at i j) = moved Bracketed_of _ _ _ _ i j (bracketed_one at)
bracketed_read (st.more_names at between others v d i j) = moved Bracketed_of _ _ _ _ i j (bracketed_more at between others v d (bracketed_read d))

-- ---- statements of one word

abbrev Small_of : PyStmt → List Lexeme → Type 0
Small_of t u = (d : ℕ) → stmt_depth t ≤ suc d → (r : List Lexeme) → Ended r → read.small d (u ++ r) ≡ Ok ((t, stmt_depth t), r)

-- a statement begins on the line of its first token
at_first : (d line : ℕ) (ts : List Lexeme) → line_at (first_of ts) ≡ line → read.small d ts ≡ read.small_by d line ts
unfolding read.small
at_first d line ts e = chain_at (look line_at) (read.small_by d) ts ts (line_at (first_of ts)) refl ∙ ap (λ line. read.small_by d line ts) e

read_pass : (at : Spot) → Small_of (tree.Pass at.line) (tok pass_word at ∷ [])
unfolding read.small_by is
read_pass at d h r s =
    at_first d at.line (tok pass_word at ∷ r) refl
    ∙ eaten pass_word at r _ refl
    ∙ deep_eq (tree.Pass at.line) 1 (stmt_depth (tree.Pass at.line)) r (sym (depth-pass at.line))

read_break : (at : Spot) → Small_of (tree.Break at.line) (tok break_word at ∷ [])
unfolding read.small_by is
read_break at d h r s =
    at_first d at.line (tok break_word at ∷ r) refl
    ∙ passed pass_word (tok break_word at ∷ r) _ refl
    ∙ eaten break_word at r _ refl
    ∙ deep_eq (tree.Break at.line) 1 (stmt_depth (tree.Break at.line)) r (sym (depth-break at.line))

read_continue : (at : Spot) → Small_of (tree.Continue at.line) (tok continue_word at ∷ [])
unfolding read.small_by is
read_continue at d h r s =
    at_first d at.line (tok continue_word at ∷ r) refl
    ∙ passed pass_word (tok continue_word at ∷ r) _ refl
    ∙ passed break_word (tok continue_word at ∷ r) _ refl
    ∙ eaten continue_word at r _ refl
    ∙ deep_eq (tree.Continue at.line) 1 (stmt_depth (tree.Continue at.line)) r (sym (depth-continue at.line))

to_return : (d : ℕ) (at : Spot) (m : List Lexeme) → read.small d (tok return_word at ∷ m) ≡ read.returned d at.line m
unfolding read.small_by is
to_return d at m =
    at_first d at.line (tok return_word at ∷ m) refl
    ∙ passed pass_word (tok return_word at ∷ m) _ refl
    ∙ passed break_word (tok return_word at ∷ m) _ refl
    ∙ passed continue_word (tok return_word at ∷ m) _ refl
    ∙ eaten return_word at m _ refl

read_return : (at : Spot) → Small_of (tree.Return at.line None) (tok return_word at ∷ [])
unfolding read.returned
read_return at d h r s =
    to_return d at r
    ∙ chain_at (look begins_at) _ r r false (ap (λ (b : Bool). let o : _ = Ok (b, r) in o) s.quiet.no_start)
    ∙ deep_eq (tree.Return at.line None) 1 (stmt_depth (tree.Return at.line None)) r (omega (arith, depth-return at.line None))

first_begins : (ts : List Lexeme) → starts begins ts ≡ true → begins_at (first_of ts) ≡ true
first_begins [] e = e
first_begins (t ∷ ts) e = e

read_return_value : (at : Spot) (a : PyExpr) (v : List Lexeme) → AreExprs a v → Small_of (tree.Return at.line (Some a)) (tok return_word at ∷ v)
unfolding read.returned
read_return_value at a v e d h r s =
    to_return d at (v ++ r)
    ∙ chain_at (look begins_at) _ (v ++ r) (v ++ r) true (ap (λ (b : Bool). let o : _ = Ok (b, v ++ r) in o) (first_begins (v ++ r) (exprs_start e r)))
    ∙ chain_at (exprs d) _ (v ++ r) r (a, expr_depth a) (read_exprs e d (omega (arith, depth-return at.line (Some a))) r s.quiet)
    ∙ deep_eq (tree.Return at.line (Some a)) (expr_depth a + 1) (stmt_depth (tree.Return at.line (Some a))) r (omega (arith, depth-return at.line (Some a)))

-- ---- imports

to_import : (d : ℕ) (at of at_import : Spot) (m : List Lexeme) → of.text ≡ codes "myhdl" →
    read.small d (tok from_word at ∷ tok Name of ∷ tok import_word at_import ∷ m) ≡ (eat (is star) >>= (λ b. cond b (λ ts. Ok ((tree.ImportAll at.line, 1), ts)) (read.imported_names at.line))) m
unfolding read.small_by read.imported is is_module
to_import d at of at_import m e =
    let rest = tok import_word at_import ∷ m in
    let ts = tok from_word at ∷ tok Name of ∷ rest in
    at_first d at.line ts refl
    ∙ passed pass_word ts _ refl
    ∙ passed break_word ts _ refl
    ∙ passed continue_word ts _ refl
    ∙ passed return_word ts _ refl
    ∙ eaten from_word at (tok Name of ∷ rest) _ refl
    ∙ chain_at (expect is_module) _ (tok Name of ∷ rest) rest tt (expect_yes is_module (tok Name of) rest (ap (λ text. pointwise nat_eq text (codes "myhdl")) e))
    ∙ expected import_word at_import m _ refl

read_import_all : (at of at_import to : Spot) → of.text ≡ codes "myhdl" → Small_of (tree.ImportAll at.line) (tok from_word at ∷ tok Name of ∷ tok import_word at_import ∷ tok star to ∷ [])
read_import_all at of at_import to e d h r s =
    to_import d at of at_import (tok star to ∷ r) e
    ∙ eaten star to r _ refl
    ∙ deep_eq (tree.ImportAll at.line) 1 (stmt_depth (tree.ImportAll at.line)) r (sym (depth-importall at.line))

read_import : (at of at_import : Spot) (names : List (List ℕ)) (v : List Lexeme) → of.text ≡ codes "myhdl" → AreNames names v →
    Small_of (tree.Import at.line names) (tok from_word at ∷ tok Name of ∷ tok import_word at_import ∷ v)
unfolding read.imported_names begins_sign
read_import at of at_import names v e n d h r s =
    to_import d at of at_import (v ++ r) e
    ∙ passed star (v ++ r) _ (unseen begins star (v ++ r) (names_start n r) refl)
    ∙ passed lparen (v ++ r) _ (unseen is_name lparen (v ++ r) (names_named n r) refl)
    ∙ chain_at (many read.names_turn []) _ (v ++ r) r names (names_read n [] r s.quiet.no_comma)
    ∙ deep_eq (tree.Import at.line names) 1 (stmt_depth (tree.Import at.line names)) r (sym (depth-import at.line names))
  where
    is_name : Tok → Bool
    is_name k = same_kind k Name

    names_named : {names : List (List ℕ)} {u : List Lexeme} → AreNames names u → (r : List Lexeme) → starts is_name (u ++ r) ≡ true
    names_named (st.one_name at i j) r = rw j refl
    names_named (st.more_names at between others v d i j) r = rw j refl

read_bracketed : (at of at_import from : Spot) (names : List (List ℕ)) (v tail r : List Lexeme) → of.text ≡ codes "myhdl" → AreNames names v → Closed tail r → length r ≤ length tail → (d : ℕ) →
    read.small d (tok from_word at ∷ tok Name of ∷ tok import_word at_import ∷ tok lparen from ∷ (v ++ tail)) ≡ Ok ((tree.Import at.line names, stmt_depth (tree.Import at.line names)), r)
unfolding read.imported_names is
read_bracketed at of at_import from names v tail r e n c l d =
    to_import d at of at_import (tok lparen from ∷ (v ++ tail)) e
    ∙ passed star (tok lparen from ∷ (v ++ tail)) _ refl
    ∙ eaten lparen from (v ++ tail) _ refl
    ∙ chain_at (many read.bracketed_names_turn []) _ (v ++ tail) r names (bracketed_read n [] tail r c l)
    ∙ deep_eq (tree.Import at.line names) 1 (stmt_depth (tree.Import at.line names)) r (sym (depth-import at.line names))

read_import_in_brackets : (at of at_import from to : Spot) (names : List (List ℕ)) (v : List Lexeme) → of.text ≡ codes "myhdl" → AreNames names v →
    Small_of (tree.Import at.line names) (tok from_word at ∷ tok Name of ∷ tok import_word at_import ∷ tok lparen from ∷ (v ++ tok rparen to ∷ []))
read_import_in_brackets at of at_import from to names v e n d h r s =
    ap (λ m. read.small d (tok from_word at ∷ tok Name of ∷ tok import_word at_import ∷ tok lparen from ∷ m)) (append_assoc v (tok rparen to ∷ []) r)
    ∙ read_bracketed at of at_import from names v (tok rparen to ∷ r) r e n (closed_bare to r) (omega arith) d

read_import_with_comma : (at of at_import from last to : Spot) (names : List (List ℕ)) (v : List Lexeme) → of.text ≡ codes "myhdl" → AreNames names v →
    Small_of (tree.Import at.line names) (tok from_word at ∷ tok Name of ∷ tok import_word at_import ∷ tok lparen from ∷ (v ++ tok comma last ∷ tok rparen to ∷ []))
read_import_with_comma at of at_import from last to names v e n d h r s =
    ap (λ m. read.small d (tok from_word at ∷ tok Name of ∷ tok import_word at_import ∷ tok lparen from ∷ m)) (append_assoc v (tok comma last ∷ tok rparen to ∷ []) r)
    ∙ read_bracketed at of at_import from names v (tok comma last ∷ tok rparen to ∷ r) r e n (closed_comma last to r) (omega arith) d

-- ---- statements that hold an expression

-- no sign of an assignment is `=`
no_equals : (op : Operator) (sign : Tok) (at : Spot) (m : List Lexeme) → augmented op ≡ Some sign → sees (is equals) (tok sign at ∷ m) ≡ false
unfolding augment_sign
no_equals op sign at m e = unseen some equals (tok sign at ∷ m) (ap is_some (augment_of-augmented op sign e)) refl
  where
    is_some : Option Operator → Bool
    is_some None = false
    is_some (Some op) = true

    some : Tok → Bool
    some k = is_some (augment_of k)

-- no statement of one word, and no import
record Holds (f : Tok → Bool) : Type 0 where
  pub pass : f pass_word ≡ false
  pub break : f break_word ≡ false
  pub continue : f continue_word ≡ false
  pub return : f return_word ≡ false
  pub from : f from_word ≡ false

to_holding : (f : Tok → Bool) (d line : ℕ) (ts : List Lexeme) → Holds f → starts f ts ≡ true → 1 ≤ d → line_at (first_of ts) ≡ line → read.small d ts ≡ read.holding d line ts
unfolding read.small_by
to_holding f d line ts h s l e =
    at_first d line ts e
    ∙ passed pass_word ts _ (unseen f pass_word ts s h.pass)
    ∙ passed break_word ts _ (unseen f break_word ts s h.break)
    ∙ passed continue_word ts _ (unseen f continue_word ts s h.continue)
    ∙ passed return_word ts _ (unseen f return_word ts s h.return)
    ∙ passed from_word ts _ (unseen f from_word ts s h.from)
    ∙ (let b : nat_lt 0 d ≡ true = lt-ltb 0 d (omega arith) in rw b refl)

holds-word : (k : Tok) → same_kind k pass_word ≡ false → same_kind k break_word ≡ false → same_kind k continue_word ≡ false → same_kind k return_word ≡ false → same_kind k from_word ≡ false →
    Holds (λ m. same_kind k m)
holds-word k a b c e f = record { pass = a; break = b; continue = c; return = e; from = f }

read_yield : (at : Spot) (a : PyExpr) (v : List Lexeme) → AreExprs a v → Small_of (tree.Yield at.line a) (tok yield_word at ∷ v)
unfolding read.holding read.yielded
read_yield at a v e d h r s =
    to_holding (λ m. same_kind yield_word m) d at.line (tok yield_word at ∷ (v ++ r)) (holds-word yield_word refl refl refl refl refl) refl (omega (arith, depth-yield at.line a, depth-some a)) refl
    ∙ eaten yield_word at (v ++ r) _ refl
    ∙ chain_at (exprs d) _ (v ++ r) r (a, expr_depth a) (read_exprs e d (omega (arith, depth-yield at.line a)) r s.quiet)
    ∙ deep_eq (tree.Yield at.line a) (expr_depth a + 1) (stmt_depth (tree.Yield at.line a)) r (omega (arith, depth-yield at.line a))

read_raise : (at : Spot) (a : PyExpr) (v : List Lexeme) → IsExpr 1 a v → Small_of (tree.Raise at.line a) (tok raise_word at ∷ v)
unfolding read.holding read.raised is
read_raise at a v e d h r s =
    to_holding (λ m. same_kind raise_word m) d at.line (tok raise_word at ∷ (v ++ r)) (holds-word raise_word refl refl refl refl refl) refl (omega (arith, depth-raise at.line a, depth-some a)) refl
    ∙ passed yield_word (tok raise_word at ∷ (v ++ r)) _ refl
    ∙ eaten raise_word at (v ++ r) _ refl
    ∙ chain_at (expr d 1) _ (v ++ r) r (a, expr_depth a) (read_expr e d (omega (arith, depth-raise at.line a)) r s.quiet.stops)
    ∙ deep_eq (tree.Raise at.line a) (expr_depth a + 1) (stmt_depth (tree.Raise at.line a)) r (omega (arith, depth-raise at.line a))

to_assert : (d : ℕ) (at : Spot) (m : List Lexeme) → 1 ≤ d → read.small d (tok assert_word at ∷ m) ≡ read.asserted d at.line m
unfolding read.holding is
to_assert d at m l =
    to_holding (λ m. same_kind assert_word m) d at.line (tok assert_word at ∷ m) (holds-word assert_word refl refl refl refl refl) refl l refl
    ∙ passed yield_word (tok assert_word at ∷ m) _ refl
    ∙ passed raise_word (tok assert_word at ∷ m) _ refl
    ∙ eaten assert_word at m _ refl

read_assert : (at : Spot) (a : PyExpr) (v : List Lexeme) → IsExpr 1 a v → Small_of (tree.Assert at.line a None) (tok assert_word at ∷ v)
unfolding read.asserted
read_assert at a v e d h r s =
    to_assert d at (v ++ r) (omega (arith, depth-assert at.line a None, depth-some a))
    ∙ chain_at (expr d 1) _ (v ++ r) r (a, expr_depth a) (read_expr e d (omega (arith, depth-assert at.line a None)) r s.quiet.stops)
    ∙ passed comma r _ s.quiet.no_comma
    ∙ deep_eq (tree.Assert at.line a None) (expr_depth a + 1) (stmt_depth (tree.Assert at.line a None)) r (omega (arith, depth-assert at.line a None))

read_assert_saying : (at between text : Spot) (a : PyExpr) (v : List Lexeme) → IsExpr 1 a v →
    Small_of (tree.Assert at.line a (Some (string_value text.text))) (tok assert_word at ∷ (v ++ tok comma between ∷ tok Str text ∷ []))
unfolding read.asserted
read_assert_saying at between text a v e d h r s =
    let says = Some (string_value text.text) in
    let rest = tok comma between ∷ tok Str text ∷ r in
    to_assert d at ((v ++ tok comma between ∷ tok Str text ∷ []) ++ r) (omega (arith, depth-assert at.line a says, depth-some a))
    ∙ ap (read.asserted d at.line) (append_assoc v (tok comma between ∷ tok Str text ∷ []) r)
    ∙ chain_at (expr d 1) _ (v ++ rest) rest (a, expr_depth a) (read_expr e d (omega (arith, depth-assert at.line a says)) rest (comma_stops between (tok Str text ∷ r)))
    ∙ eaten comma between (tok Str text ∷ r) _ refl
    ∙ wanted Str _ text r refl
    ∙ deep_eq (tree.Assert at.line a says) (expr_depth a + 1) (stmt_depth (tree.Assert at.line a says)) r (omega (arith, depth-assert at.line a says))

-- ---- values and assignments

holds-expr : Holds begins
unfolding begins_word
holds-expr = record { pass = refl; break = refl; continue = refl; return = refl; from = refl }

to_expressed : (d line : ℕ) (ts : List Lexeme) → starts begins ts ≡ true → 1 ≤ d → line_at (first_of ts) ≡ line → read.small d ts ≡ read.expressed d line ts
unfolding read.holding begins_word
to_expressed d line ts s l e =
    to_holding begins d line ts holds-expr s l e
    ∙ passed yield_word ts _ (unseen begins yield_word ts s refl)
    ∙ passed raise_word ts _ (unseen begins raise_word ts s refl)
    ∙ passed assert_word ts _ (unseen begins assert_word ts s refl)

valued_end : (d line : ℕ) (a : Deep) (r : List Lexeme) → augment_at (first_of r) ≡ None → read.valued d line a r ≡ Ok ((tree.Value line a.0, a.1 + 1), r)
unfolding read.valued
valued_end d line a r e = go (nat_le 12 (level a.0))
  where
    go : (b : Bool) → cond b (look augment_at >>= read.augment_by d line a) (λ ts. Ok ((tree.Value line a.0, a.1 + 1), ts)) r ≡ Ok ((tree.Value line a.0, a.1 + 1), r)
    go true = chain_at (look augment_at) (read.augment_by d line a) r r (augment_at (first_of r)) refl ∙ ap (λ o. read.augment_by d line a o r) e
    go false = refl

read_value : (a : PyExpr) (u : List Lexeme) → AreExprs a u → Small_of (tree.Value (first_line u) a) u
unfolding read.expressed
read_value a u e d h r s =
    let line = first_line u in
    to_expressed d line (u ++ r) (exprs_start e r) (omega (arith, depth-value line a, depth-some a)) (line_kept begins u r (exprs_start e []))
    ∙ chain_at (exprs d) _ (u ++ r) r (a, expr_depth a) (read_exprs e d (omega (arith, depth-value line a)) r s.quiet)
    ∙ passed equals r _ s.no_equals
    ∙ valued_end d line (a, expr_depth a) r s.no_operator
    ∙ deep_eq (tree.Value line a) (expr_depth a + 1) (stmt_depth (tree.Value line a)) r (omega (arith, depth-value line a))

read_assign : (at : Spot) (a b : PyExpr) (v w : List Lexeme) → AreExprs a v → AreExprs b w → Small_of (tree.Assign (first_line v) a b) (v ++ tok equals at ∷ w)
unfolding read.expressed
read_assign at a b v w e f d h r s =
    let line = first_line v in
    let tail = w ++ r in
    let rest = tok equals at ∷ tail in
    ap (read.small d) (append_assoc v (tok equals at ∷ w) r)
    ∙ to_expressed d line (v ++ rest) (exprs_start e rest) (omega (arith, depth-assign line a b, depth-some a)) (line_kept begins v rest (exprs_start e []))
    ∙ chain_at (exprs d) _ (v ++ rest) rest (a, expr_depth a) (read_exprs e d (omega (arith, depth-assign line a b)) rest (closes_quiet equals at tail closes-equals))
    ∙ eaten equals at tail _ refl
    ∙ chain_at (exprs d) _ tail r (b, expr_depth b) (read_exprs f d (omega (arith, depth-assign line a b)) r s.quiet)
    ∙ deep_eq (tree.Assign line a b) (max (expr_depth a) (expr_depth b) + 1) (stmt_depth (tree.Assign line a b)) r (omega (arith, depth-assign line a b))

valued_augment : (d line : ℕ) (op : Operator) (sign : Tok) (at : Spot) (a : Deep) (m : List Lexeme) → augmented op ≡ Some sign → 12 ≤ level a.0 →
    read.valued d line a (tok sign at ∷ m) ≡ (expr d 1 >>= (λ b ts. Ok ((tree.Augment line op a.0 b.0, max a.1 b.1 + 1), ts))) m
unfolding read.valued read.augmented
valued_augment d line op sign at a m e l =
    let b : nat_le 12 (level a.0) ≡ true = le-leb 12 (level a.0) l in
    ap (λ b. cond b (look augment_at >>= read.augment_by d line a) (λ ts. Ok ((tree.Value line a.0, a.1 + 1), ts)) (tok sign at ∷ m)) b
    ∙ chain_at (look augment_at) (read.augment_by d line a) (tok sign at ∷ m) (tok sign at ∷ m) (augment_of sign) refl
    ∙ ap (λ o. read.augment_by d line a o (tok sign at ∷ m)) (augment_of-augmented op sign e)
    ∙ chain_at take _ (tok sign at ∷ m) m tt refl

read_augment : (op : Operator) (sign : Tok) (at : Spot) (a b : PyExpr) (v w : List Lexeme) → augmented op ≡ Some sign → IsExpr 12 a v → IsExpr 1 b w →
    Small_of (tree.Augment (first_line v) op a b) (v ++ tok sign at ∷ w)
unfolding read.expressed
read_augment op sign at a b v w g e f d h r s =
    let line = first_line v in
    let tail = w ++ r in
    let rest = tok sign at ∷ tail in
    let c = closes-augmented op sign g in
    ap (read.small d) (append_assoc v (tok sign at ∷ w) r)
    ∙ to_expressed d line (v ++ rest) (expr_starts e rest) (omega (arith, depth-augment line op a b, depth-some a)) (line_kept begins v rest (expr_starts e []))
    ∙ chain_at (exprs d) _ (v ++ rest) rest (a, expr_depth a) (read_one e (omega arith) d (omega (arith, depth-augment line op a b)) rest (closes_quiet sign at tail c))
    ∙ passed equals rest _ (no_equals op sign at tail g)
    ∙ valued_augment d line op sign at (a, expr_depth a) tail g (level_of e)
    ∙ chain_at (expr d 1) _ tail r (b, expr_depth b) (read_expr f d (omega (arith, depth-augment line op a b)) r s.quiet.stops)
    ∙ deep_eq (tree.Augment line op a b) (max (expr_depth a) (expr_depth b) + 1) (stmt_depth (tree.Augment line op a b)) r (omega (arith, depth-augment line op a b))

small_read : {t : PyStmt} {u : List Lexeme} → IsSmall t u → Small_of t u
small_read {t} {u} (st.value a d i) = moved Small_of t _ u u i refl (read_value a u d)
small_read (st.assign at a b v w d e i j) = moved Small_of _ _ _ _ i j (read_assign at a b v w d e)
small_read (st.augment op sign at a b v w s d e i j) = moved Small_of _ _ _ _ i j (read_augment op sign at a b v w s d e)
small_read (st.pass at i j) = moved Small_of _ _ _ _ i j (read_pass at)
small_read (st.break at i j) = moved Small_of _ _ _ _ i j (read_break at)
small_read (st.continue at i j) = moved Small_of _ _ _ _ i j (read_continue at)
small_read (st.return at i j) = moved Small_of _ _ _ _ i j (read_return at)
small_read (st.return_value at a v d i j) = moved Small_of _ _ _ _ i j (read_return_value at a v d)
small_read (st.yield at a v d i j) = moved Small_of _ _ _ _ i j (read_yield at a v d)
small_read (st.raise at a v d i j) = moved Small_of _ _ _ _ i j (read_raise at a v d)
small_read (st.assert at a v d i j) = moved Small_of _ _ _ _ i j (read_assert at a v d)
small_read (st.assert_saying at between text a v d i j) = moved Small_of _ _ _ _ i j (read_assert_saying at between text a v d)
small_read (st.import_all at of at_import to h i j) = moved Small_of _ _ _ _ i j (read_import_all at of at_import to h)
small_read (st.import at of at_import names v h d i j) = moved Small_of _ _ _ _ i j (read_import at of at_import names v h d)
small_read (st.import_in_brackets at of at_import from to names v h d i j) = moved Small_of _ _ _ _ i j (read_import_in_brackets at of at_import from to names v h d)
small_read (st.import_with_comma at of at_import from last to names v h d i j) = moved Small_of _ _ _ _ i j (read_import_with_comma at of at_import from last to names v h d)

-- ---- lines of small statements

step-some : (x : PyStmt-F ℕ ℕ ℕ) → 1 ≤ stmt_step x
step-some (PyStmt-F.Value line a) = omega arith
step-some (PyStmt-F.Assign line a b) = omega arith
step-some (PyStmt-F.Augment line op a b) = omega arith
step-some (PyStmt-F.Pass line) = omega arith
step-some (PyStmt-F.Break line) = omega arith
step-some (PyStmt-F.Continue line) = omega arith
step-some (PyStmt-F.Return line a) = omega arith
step-some (PyStmt-F.Yield line a) = omega arith
step-some (PyStmt-F.Raise line a) = omega arith
step-some (PyStmt-F.Assert line a message) = omega arith
step-some (PyStmt-F.ImportAll line) = omega arith
step-some (PyStmt-F.Import line names) = omega arith
step-some (PyStmt-F.Def f) = omega arith
step-some (PyStmt-F.If line branches other) = omega arith
step-some (PyStmt-F.For line name a body) = omega arith
step-some (PyStmt-F.While line a body) = omega arith

pub stmt_some : (t : PyStmt) → 1 ≤ stmt_depth t
unfolding stmt_depth
stmt_some t = rw (fold_out-PyStmt ℕ ℕ ℕ stmt_step branch_step def_step t) (step-some _)

pub simple_some : {body : List PyStmt} {u : List Lexeme} → IsSimple body u → 1 ≤ text_depth body
simple_some (st.ended to x v d i j) = rw i (omega (arith, stmt_some x))
simple_some (st.ended_twice at to x v d i j) = rw i (omega (arith, stmt_some x))
simple_some (st.then at x others v w d e i j) = rw i (omega (arith, stmt_some x))

abbrev Line_of : List PyStmt → List Lexeme → Type 0
Line_of body u = (d : ℕ) → text_depth body ≤ suc d → (s : Body) (r : List Lexeme) → many (read.line_turn d) s (u ++ r) ≡ Ok ((s.0 ++ body, max s.1 (text_depth body)), r)

line_ended : (to : Spot) (x : PyStmt) (v : List Lexeme) → IsSmall x v → Line_of (x ∷ []) (v ++ tok Newline to ∷ [])
unfolding read.line_turn is
line_ended to x v e d h s r =
    let step = read.line_turn d in
    let rest = tok Newline to ∷ r in
    ap (many step s) (append_assoc v (tok Newline to ∷ []) r)
    ∙ many_done step s (v ++ rest) (s.0 ++ x ∷ [], max s.1 (stmt_depth x)) r
    (chain_at (read.small d) _ (v ++ rest) rest (x, stmt_depth x) (small_read e d (omega arith) rest (ended_newline to r))
    ∙ passed semicolon rest _ refl
    ∙ expected Newline to r _ refl)
    ∙ row_eq (s.0 ++ x ∷ []) (s.0 ++ x ∷ []) (max s.1 (stmt_depth x)) (max s.1 (text_depth (x ∷ []))) r refl (omega arith)

line_ended_twice : (at to : Spot) (x : PyStmt) (v : List Lexeme) → IsSmall x v → Line_of (x ∷ []) (v ++ tok semicolon at ∷ tok Newline to ∷ [])
unfolding read.line_turn
line_ended_twice at to x v e d h s r =
    let step = read.line_turn d in
    let rest = tok semicolon at ∷ tok Newline to ∷ r in
    ap (many step s) (append_assoc v (tok semicolon at ∷ tok Newline to ∷ []) r)
    ∙ many_done step s (v ++ rest) (s.0 ++ x ∷ [], max s.1 (stmt_depth x)) r
    (chain_at (read.small d) _ (v ++ rest) rest (x, stmt_depth x) (small_read e d (omega arith) rest (ended_semicolon at (tok Newline to ∷ r)))
    ∙ eaten semicolon at (tok Newline to ∷ r) _ refl
    ∙ eaten Newline to r _ refl)
    ∙ row_eq (s.0 ++ x ∷ []) (s.0 ++ x ∷ []) (max s.1 (stmt_depth x)) (max s.1 (text_depth (x ∷ []))) r refl (omega arith)

line_then : (at : Spot) (x : PyStmt) (others : List PyStmt) (v w : List Lexeme) → IsSmall x v → IsSimple others w → Line_of others w → Line_of (x ∷ others) (v ++ tok semicolon at ∷ w)
unfolding read.line_turn small_word
line_then at x others v w e f ih d h s r =
    let step = read.line_turn d in
    let rest = tok semicolon at ∷ (w ++ r) in
    let next : Body = (s.0 ++ x ∷ [], max s.1 (stmt_depth x)) in
    ap (many step s) (append_assoc v (tok semicolon at ∷ w) r)
    ∙ many_again step s (v ++ rest) next (w ++ r)
    (chain_at (read.small d) _ (v ++ rest) rest (x, stmt_depth x) (small_read e d (omega arith) rest (ended_semicolon at (w ++ r)))
    ∙ eaten semicolon at (w ++ r) _ refl
    ∙ passed Newline (w ++ r) _ (unseen begins_small Newline (w ++ r) (simple_starts f r) refl))
    (omega (arith, length-append v rest))
    ∙ ih d (omega arith) next r
    ∙ row_eq ((s.0 ++ x ∷ []) ++ others) (s.0 ++ x ∷ others) (max (max s.1 (stmt_depth x)) (text_depth others)) (max s.1 (text_depth (x ∷ others))) r (append_assoc s.0 (x ∷ []) others) (omega arith)

line_read : {body : List PyStmt} {u : List Lexeme} → IsSimple body u → Line_of body u
line_read (st.ended to x v d i j) = moved Line_of _ _ _ _ i j (line_ended to x v d)
line_read (st.ended_twice at to x v d i j) = moved Line_of _ _ _ _ i j (line_ended_twice at to x v d)
line_read (st.then at x others v w d e i j) = moved Line_of _ _ _ _ i j (line_then at x others v w d e (line_read e))

-- A line of small statements is read.
pub simple_read : {body : List PyStmt} {u : List Lexeme} → IsSimple body u → (d : ℕ) → text_depth body ≤ d → (r : List Lexeme) → read.simple d (u ++ r) ≡ Ok ((body, text_depth body), r)
unfolding read.simple
simple_read i zero h r = absurd (omega (arith, simple_some i))
simple_read {body} i (suc d) h r = line_read i d h ([], 0) r ∙ row_eq body body (max 0 (text_depth body)) (text_depth body) r refl (omega arith)
