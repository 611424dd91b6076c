-- Statements and texts of the grammar are read.
use Rattle.std.proofs.Common.{◌≡◌, ℕ, zero, suc, ◌≤◌, ◌+◌, max, Bool, true, false, nat_lt, List, [], ◌∷◌, ◌++◌, length-append, append_assoc, map, Some, None, Ok, refl, sym, ap, ◌∙◌, arith, rules, cond}
use Rattle.std.proofs.lemmas.Bool.{lt-ltb}
use Rattle.std.proofs.lemmas.List.{append-nil}
use Rattle.mh_reader.specs.Reader.{◌>>=◌, first_of, sees, look, eat, many}
use Rattle.mh_reader.proofs.Steps.{chain_at, eat_yes, eat_no}
use Rattle.mh_reader.proofs.Turns.{many_done, many_again}
use Rattle.mh_reader.proofs.Refuse.{whole_at}
use Rattle.mh_pytok.specs.Lexeme.{Lexeme}
use Rattle.mh_pytok.specs.declared.token.Tok.TheVariants.{Name, Newline, Indent, Dedent, End}
use Rattle.mh_pytree.specs.declared.expression.PyExpr.{PyExpr}
use Rattle.mh_pytree.specs.declared.statement.Param.{Param}
use Rattle.mh_pytree.specs.declared.statement.Branch.{Branch}
use Rattle.mh_pytree.specs.declared.statement.PyStmt.{PyStmt, the_lemmas}
use Rattle.mh_pytree.specs.declared.statement.PyStmt.TheVariants as tree
use Rattle.mh_pytree.specs.Depth.{deepest, expr_depth, param_depth, stmt_depth, branch_depth, text_depth}
use Rattle.mh_pytree.proofs.Depths.{depth-def, depth-if, depth-for, depth-while, depth-branch, depth-def_of}
use Rattle.mh_pyparse.specs.Signs.{def_word, elif_word, else_word, for_word, if_word, in_word, while_word, equals, lparen, rparen, comma, colon, at_sign}
use Rattle.mh_pyparse.specs.Grammar.{Spot, tok, IsExpr}
use Rattle.mh_pyparse.specs.Statements as st
use Rattle.mh_pyparse.specs.Statements.{param, branch, definition, IsSimple, IsParam, AreParams, AreMarks, IsCompound, AreBranches, IsSuite, IsStmt, AreStmts, IsText}
use Rattle.mh_pyparse.specs.Operators.{begins_sign, begins_word}
use Rattle.mh_pyparse.specs.Reading as read_expression
use Rattle.mh_pyparse.specs.Reading.{Read, Row, is, expr}
use Rattle.mh_pyparse.specs.ReadingStatements as read
use Rattle.mh_pyparse.specs.ReadingStatements.{Step, Body, Branches, Params, line_at, ends_at}
use Rattle.mh_pyparse.proofs.First.{Stops, closes_stops, closes-colon, closes-rparen}
use Rattle.mh_pyparse.proofs.Complete.{read_expr, depth-some}
use Rattle.mh_pyparse.proofs.CompleteItems.{comma_stops, closing_more, closing_last}
use Rattle.mh_pyparse.proofs.CompleteSteps.{eaten, expected, unseen as passed}
use Rattle.mh_pyparse.proofs.CompleteStatementsFirst.{wanted, deep_eq, row_eq, starts, begins_small, begins_stmt, small_word, compound_word, unseen, filled, simple_starts, stmt_starts, stmts_start, Calm, calm, stmts_calm}
use Rattle.mh_pyparse.proofs.CompleteStatementsSmall.{moved, stmt_some, simple_some, simple_read}

-- ---- what stands behind most expressions

stops_colon : (at : Spot) (r : List Lexeme) → Stops 1 (tok colon at ∷ r)
stops_colon at r = closes_stops colon at r 1 closes-colon.no_infix

-- ---- depths

depth_append : (xs ys : List PyStmt) → text_depth (xs ++ ys) ≡ max (text_depth xs) (text_depth ys)
depth_append [] ys = omega arith
depth_append (x ∷ xs) ys = omega (arith, depth_append xs ys)

depth_branch : (test : PyExpr) (body : List PyStmt) → branch_depth (branch test body) ≡ max (expr_depth test) (text_depth body)
depth_branch test body = depth-branch (branch test body) ∙ search (rules, the_lemmas)

depth_definition : (marks : List PyExpr) (name : List ℕ) (params : List Param) (body : List PyStmt) (line : ℕ) →
    stmt_depth (tree.Def (definition marks name params body line)) ≡ suc (max (deepest (map expr_depth marks)) (max (deepest (map param_depth params)) (text_depth body)))
depth_definition marks name params body line = depth-def (definition marks name params body line) ∙ ap (λ n. suc n) (depth-def_of (definition marks name params body line) ∙ search (rules, the_lemmas))

-- ---- parameters

-- what `closing` makes of a tail
abbrev Closing : List Lexeme → Bool → List Lexeme → Type 0
Closing tail b m = (found : Params) → read_expression.closing rparen found tail ≡ Ok ((found, b), m)

module _ (sub : Read Body) (d : ℕ) where
  param_bare : (at : Spot) (s : Params) (tail m : List Lexeme) (b : Bool) → Closing tail b m → sees (is equals) tail ≡ false →
      read.param_turn sub d s (tok Name at ∷ tail) ≡ Ok (((s.0 ++ param at.text None ∷ [], max s.1 0), b), m)
  unfolding read.param_turn is
  param_bare at s tail m b c e =
      passed rparen (tok Name at ∷ tail) _ refl
      ∙ wanted Name _ at tail refl
      ∙ passed equals tail _ e
      ∙ c (s.0 ++ param at.text None ∷ [], s.1)
      ∙ (let q : s.1 ≡ max s.1 0 = omega arith in ap (λ n. let o : _ = Ok (((s.0 ++ param at.text None ∷ [], n), b), m) in o) q)

  param_valued : (at between : Spot) (a : PyExpr) (v : List Lexeme) → IsExpr 1 a v → expr_depth a ≤ d → (s : Params) (tail m : List Lexeme) (b : Bool) → Closing tail b m → Stops 1 tail →
      read.param_turn sub d s (tok Name at ∷ tok equals between ∷ (v ++ tail)) ≡ Ok (((s.0 ++ param at.text (Some a) ∷ [], max s.1 (expr_depth a)), b), m)
  unfolding read.param_turn is
  param_valued at between a v e h s tail m b c k =
      passed rparen (tok Name at ∷ tok equals between ∷ (v ++ tail)) _ refl
      ∙ wanted Name _ at (tok equals between ∷ (v ++ tail)) refl
      ∙ eaten equals between (v ++ tail) _ refl
      ∙ chain_at (expr d 1) _ (v ++ tail) tail (a, expr_depth a) (read_expr e d h tail k)
      ∙ c (s.0 ++ param at.text (Some a) ∷ [], max s.1 (expr_depth a))

  abbrev Param_of : Param → List Lexeme → Type 0
  Param_of x u = param_depth x ≤ d → (s : Params) (tail m : List Lexeme) (b : Bool) → Closing tail b m → sees (is equals) tail ≡ false → Stops 1 tail →
      read.param_turn sub d s (u ++ tail) ≡ Ok (((s.0 ++ x ∷ [], max s.1 (param_depth x)), b), m)

  param_read : {x : Param} {u : List Lexeme} → IsParam x u → Param_of x u
  param_read (st.bare at i j) = moved Param_of _ _ _ _ i j (λ h s tail m b c e k. param_bare at s tail m b c e)
  param_read (st.valued at between a v d i j) = moved Param_of _ _ _ _ i j (λ h s tail m b c e k. param_valued at between a v d h s tail m b c k)

  abbrev Params_of : List Param → List Lexeme → Type 0
  Params_of xs u = deepest (map param_depth xs) ≤ d → (s : Params) (to : Spot) (r : List Lexeme) →
      many (read.param_turn sub d) s (u ++ tok rparen to ∷ r) ≡ Ok ((s.0 ++ xs, max s.1 (deepest (map param_depth xs))), r)

  params_none : Params_of [] []
  unfolding read.param_turn
  params_none h s to r =
      many_done (read.param_turn sub d) s (tok rparen to ∷ r) s r (eaten rparen to r _ refl)
      ∙ row_eq s.0 (s.0 ++ []) s.1 (max s.1 0) r (sym (append-nil s.0)) (omega arith)

  params_last : (x : Param) (u : List Lexeme) → IsParam x u → Params_of (x ∷ []) u
  unfolding is
  params_last x u e h s to r =
      many_done (read.param_turn sub d) s (u ++ tok rparen to ∷ r) (s.0 ++ x ∷ [], max s.1 (param_depth x)) r
      (param_read e (omega arith) s (tok rparen to ∷ r) r false (λ found. closing_last rparen found to r closes-rparen) refl (closes_stops rparen to r 1 closes-rparen.no_infix))
      ∙ row_eq (s.0 ++ x ∷ []) (s.0 ++ x ∷ []) (max s.1 (param_depth x)) (max s.1 (deepest (map param_depth (x ∷ [])))) r refl (omega arith)

  params_more : (at : Spot) (x : Param) (others : List Param) (v w : List Lexeme) → IsParam x v → Params_of others w → Params_of (x ∷ others) (v ++ tok comma at ∷ w)
  unfolding is
  params_more at x others v w e ih h s to r =
      let step = read.param_turn sub d in
      let tail = w ++ tok rparen to ∷ r in
      let next : Params = (s.0 ++ x ∷ [], max s.1 (param_depth x)) in
      ap (many step s) (append_assoc v (tok comma at ∷ w) (tok rparen to ∷ r))
      ∙ many_again step s (v ++ tok comma at ∷ tail) next tail
      (param_read e (omega arith) s (tok comma at ∷ tail) tail true (λ found. closing_more rparen found at tail) refl (comma_stops at tail))
      (omega (arith, length-append v (tok comma at ∷ tail)))
      ∙ ih (omega arith) next to r
      ∙ row_eq ((s.0 ++ x ∷ []) ++ others) (s.0 ++ x ∷ others) (max (max s.1 (param_depth x)) (deepest (map param_depth others))) (max s.1 (deepest (map param_depth (x ∷ others)))) r (append_assoc s.0 (x ∷ []) others) (omega arith)

  params_read : {xs : List Param} {u : List Lexeme} → AreParams xs u → Params_of xs u
  params_read (st.no_param i j) = moved Params_of _ _ _ _ i j params_none
  params_read {xs} {u} (st.last_param x d i) = moved Params_of xs (x ∷ []) u u i refl (params_last x u d)
  params_read (st.more_params at x others v w d e i j) = moved Params_of _ _ _ _ i j (params_more at x others v w d (params_read e))

  -- ---- marks

  mark_read : (a : PyExpr) (v : List Lexeme) (to : Spot) → IsExpr 12 a v → expr_depth a ≤ d → (s : Row) (m r : List Lexeme) (b : Bool) → eat (is at_sign) m ≡ Ok (b, r) →
      read.mark_turn sub d s (v ++ tok Newline to ∷ m) ≡ Ok (((s.0 ++ a ∷ [], max s.1 (expr_depth a)), b), r)
  unfolding read.mark_turn
  mark_read a v to e h s m r b g =
      chain_at (expr d 12) _ (v ++ tok Newline to ∷ m) (tok Newline to ∷ m) (a, expr_depth a) (read_expr e d h (tok Newline to ∷ m) (closes_stops Newline to m 12 refl))
      ∙ expected Newline to m _ refl
      ∙ chain_at (eat (is at_sign)) _ m r b g

  -- the marks after one that was begun
  abbrev Marks_of : List PyExpr → List Lexeme → Type 0
  Marks_of others w = (a : PyExpr) (v : List Lexeme) (to : Spot) → IsExpr 12 a v → expr_depth a ≤ d → deepest (map expr_depth others) ≤ d → (s : Row) (m : List Lexeme) → sees (is at_sign) m ≡ false →
      many (read.mark_turn sub d) s (v ++ tok Newline to ∷ (w ++ m)) ≡ Ok ((s.0 ++ a ∷ others, max s.1 (max (expr_depth a) (deepest (map expr_depth others)))), m)

  marks_none : Marks_of [] []
  marks_none a v to e h k s m g =
      many_done (read.mark_turn sub d) s (v ++ tok Newline to ∷ m) (s.0 ++ a ∷ [], max s.1 (expr_depth a)) m (mark_read a v to e h s m m false (eat_no (is at_sign) m g))
      ∙ row_eq (s.0 ++ a ∷ []) (s.0 ++ a ∷ []) (max s.1 (expr_depth a)) (max s.1 (max (expr_depth a) 0)) m refl (omega arith)

  marks_more : (at between : Spot) (b : PyExpr) (others : List PyExpr) (x w : List Lexeme) → IsExpr 12 b x → Marks_of others w → Marks_of (b ∷ others) (tok at_sign at ∷ (x ++ tok Newline between ∷ w))
  unfolding is
  marks_more at between b others x w f ih a v to e h k s m g =
      let step = read.mark_turn sub d in
      let rest = x ++ tok Newline between ∷ (w ++ m) in
      let next : Row = (s.0 ++ a ∷ [], max s.1 (expr_depth a)) in
      ap (λ y. many step s (v ++ tok Newline to ∷ tok at_sign at ∷ y)) (append_assoc x (tok Newline between ∷ w) m)
      ∙ many_again step s (v ++ tok Newline to ∷ tok at_sign at ∷ rest) next rest
      (mark_read a v to e h s (tok at_sign at ∷ rest) rest true (eat_yes (is at_sign) (tok at_sign at) rest refl))
      (omega (arith, length-append v (tok Newline to ∷ tok at_sign at ∷ rest)))
      ∙ ih b x between f (omega arith) (omega arith) next m g
      ∙ row_eq ((s.0 ++ a ∷ []) ++ b ∷ others) (s.0 ++ a ∷ b ∷ others) (max (max s.1 (expr_depth a)) (max (expr_depth b) (deepest (map expr_depth others)))) (max s.1 (max (expr_depth a) (deepest (map expr_depth (b ∷ others))))) m (append_assoc s.0 (a ∷ []) (b ∷ others)) (omega arith)

  marks_read : {others : List PyExpr} {w : List Lexeme} → AreMarks others w → Marks_of others w
  marks_read (st.no_mark i j) = moved Marks_of _ _ _ _ i j marks_none
  marks_read (st.mark at to a others v w d e i j) = moved Marks_of _ _ _ _ i j (marks_more at to a others v w d (marks_read e))

-- ---- what was proved of each part

abbrev Stmt_of : List PyStmt → List Lexeme → Type 0
Stmt_of body u = (d : ℕ) → text_depth body ≤ d → (r : List Lexeme) → Calm r → read.stmt d (u ++ r) ≡ Ok ((body, text_depth body), r)

abbrev Stmts_of : List PyStmt → List Lexeme → Type 0
Stmts_of body u = (d : ℕ) → text_depth body ≤ d → (s : Body) (to : Spot) (r : List Lexeme) →
    many (read.block_turn (read.stmt d)) s (u ++ tok Dedent to ∷ r) ≡ Ok ((s.0 ++ body, max s.1 (text_depth body)), r)

abbrev Suite_of : List PyStmt → List Lexeme → Type 0
Suite_of body u = (d : ℕ) → text_depth body ≤ d → (r : List Lexeme) → read.suite (read.stmt d) d (u ++ r) ≡ Ok ((body, text_depth body), r)

abbrev Branches_of : List Branch → List Lexeme → Type 0
Branches_of all u = (d : ℕ) → deepest (map branch_depth all) ≤ d → (s : Branches) (r : List Lexeme) → sees (is elif_word) r ≡ false →
    many (read.branch_turn (read.stmt d) d) s (u ++ r) ≡ Ok ((s.0 ++ all, max s.1 (deepest (map branch_depth all))), r)

abbrev Compound_of : PyStmt → List Lexeme → Type 0
Compound_of t u = (d : ℕ) → stmt_depth t ≤ suc d → (r : List Lexeme) → Calm r →
    read.compound (read.stmt d) d (line_at (first_of (u ++ r))) (u ++ r) ≡ Ok ((t ∷ [], stmt_depth t), r)

-- ---- suites

suite_line : (body : List PyStmt) (u : List Lexeme) → IsSimple body u → Suite_of body u
unfolding read.suite small_word
suite_line body u e d h r = passed Newline (u ++ r) _ (unseen begins_small Newline (u ++ r) (simple_starts e r) refl) ∙ simple_read e d h r

suite_block : (at from to : Spot) (body : List PyStmt) (v : List Lexeme) → Stmts_of body v → Suite_of body (tok Newline at ∷ tok Indent from ∷ (v ++ tok Dedent to ∷ []))
unfolding read.suite
suite_block at from to body v ih d h r =
    eaten Newline at (tok Indent from ∷ ((v ++ tok Dedent to ∷ []) ++ r)) _ refl
    ∙ expected Indent from ((v ++ tok Dedent to ∷ []) ++ r) _ refl
    ∙ ap (many (read.block_turn (read.stmt d)) ([], 0)) (append_assoc v (tok Dedent to ∷ []) r)
    ∙ ih d h ([], 0) to r
    ∙ row_eq body body (max 0 (text_depth body)) (text_depth body) r refl (omega arith)

-- ---- branches

branch_read : (at : Spot) (test : PyExpr) (body : List PyStmt) (v w : List Lexeme) → IsExpr 1 test v → Suite_of body w → (d : ℕ) → expr_depth test ≤ d → text_depth body ≤ d → (s : Branches) (r m : List Lexeme) (b : Bool) → eat (is elif_word) r ≡ Ok (b, m) →
    read.branch_turn (read.stmt d) d s (v ++ tok colon at ∷ (w ++ r)) ≡ Ok (((s.0 ++ branch test body ∷ [], max s.1 (max (expr_depth test) (text_depth body))), b), m)
unfolding read.branch_turn
branch_read at test body v w e ih d h k s r m b f =
    let tail = w ++ r in
    let rest = tok colon at ∷ tail in
    chain_at (expr d 1) _ (v ++ rest) rest (test, expr_depth test) (read_expr e d h rest (stops_colon at tail))
    ∙ expected colon at tail _ refl
    ∙ chain_at (read.suite (read.stmt d) d) _ tail r (body, text_depth body) (ih d k r)
    ∙ chain_at (eat (is elif_word)) _ r m b f

branches_last : (at : Spot) (test : PyExpr) (body : List PyStmt) (v w : List Lexeme) → IsExpr 1 test v → Suite_of body w → Branches_of (branch test body ∷ []) (v ++ tok colon at ∷ w)
branches_last at test body v w e ih d h s r n =
    let step = read.branch_turn (read.stmt d) d in
    ap (many step s) (append_assoc v (tok colon at ∷ w) r)
    ∙ many_done step s (v ++ tok colon at ∷ (w ++ r)) (s.0 ++ branch test body ∷ [], max s.1 (max (expr_depth test) (text_depth body))) r
    (branch_read at test body v w e ih d (omega (arith, depth_branch test body)) (omega (arith, depth_branch test body)) s r r false (eat_no (is elif_word) r n))
    ∙ row_eq (s.0 ++ branch test body ∷ []) (s.0 ++ branch test body ∷ []) (max s.1 (max (expr_depth test) (text_depth body))) (max s.1 (deepest (map branch_depth (branch test body ∷ [])))) r refl (omega (arith, depth_branch test body))

branches_elif : (at at_elif : Spot) (test : PyExpr) (body : List PyStmt) (others : List Branch) (v w x : List Lexeme) → IsExpr 1 test v → Suite_of body w → Branches_of others x →
    Branches_of (branch test body ∷ others) (v ++ tok colon at ∷ (w ++ tok elif_word at_elif ∷ x))
unfolding is
branches_elif at at_elif test body others v w x e ih iho d h s r n =
    let step = read.branch_turn (read.stmt d) d in
    let rest = x ++ r in
    let next : Branches = (s.0 ++ branch test body ∷ [], max s.1 (max (expr_depth test) (text_depth body))) in
    let ts = v ++ tok colon at ∷ (w ++ tok elif_word at_elif ∷ rest) in
    ap (many step s) (append_assoc v (tok colon at ∷ (w ++ tok elif_word at_elif ∷ x)) r ∙ ap (λ m. v ++ tok colon at ∷ m) (append_assoc w (tok elif_word at_elif ∷ x) r))
    ∙ many_again step s ts next rest
    (branch_read at test body v w e ih d (omega (arith, depth_branch test body)) (omega (arith, depth_branch test body)) s (tok elif_word at_elif ∷ rest) rest true (eat_yes (is elif_word) (tok elif_word at_elif) rest refl))
    (omega (arith, length-append v (tok colon at ∷ (w ++ tok elif_word at_elif ∷ rest)), length-append w (tok elif_word at_elif ∷ rest)))
    ∙ iho d (omega arith) next r n
    ∙ row_eq ((s.0 ++ branch test body ∷ []) ++ others) (s.0 ++ branch test body ∷ others) (max next.1 (deepest (map branch_depth others))) (max s.1 (deepest (map branch_depth (branch test body ∷ others)))) r (append_assoc s.0 (branch test body ∷ []) others) (omega (arith, depth_branch test body))

-- ---- statements that hold others

to_if : (d line : ℕ) (at : Spot) (m : List Lexeme) → read.compound (read.stmt d) d line (tok if_word at ∷ m) ≡ read.alone (read.stmt d) (read.conditional (read.stmt d) d line) m
unfolding read.compound
to_if d line at m = eaten if_word at m _ refl

read_branches : (at : Spot) (all : List Branch) (v : List Lexeme) → Branches_of all v → Compound_of (tree.If at.line all None) (tok if_word at ∷ v)
unfolding read.conditional
read_branches at all v ih d h r c =
    let t = tree.If at.line all None in
    to_if d at.line at (v ++ r)
    ∙ chain_at (read.conditional (read.stmt d) d at.line) _ (v ++ r) r (t, stmt_depth t)
    (chain_at (many (read.branch_turn (read.stmt d) d) ([], 0)) _ (v ++ r) r (all, max 0 (deepest (map branch_depth all))) (ih d (omega (arith, depth-if at.line all None)) ([], 0) r c.no_elif)
    ∙ passed else_word r _ c.no_else
    ∙ deep_eq t (max 0 (deepest (map branch_depth all)) + 1) (stmt_depth t) r (omega (arith, depth-if at.line all None)))

read_else : (at at_else at_colon : Spot) (all : List Branch) (body : List PyStmt) (v w : List Lexeme) → Branches_of all v → Suite_of body w →
    Compound_of (tree.If at.line all (Some body)) (tok if_word at ∷ (v ++ tok else_word at_else ∷ tok colon at_colon ∷ w))
unfolding read.conditional read.otherwise is
read_else at at_else at_colon all body v w iha ihb d h r c =
    let t = tree.If at.line all (Some body) in
    let tail = w ++ r in
    let rest = tok else_word at_else ∷ tok colon at_colon ∷ tail in
    ap (λ m. read.compound (read.stmt d) d at.line (tok if_word at ∷ m)) (append_assoc v (tok else_word at_else ∷ tok colon at_colon ∷ w) r)
    ∙ to_if d at.line at (v ++ rest)
    ∙ chain_at (read.conditional (read.stmt d) d at.line) _ (v ++ rest) r (t, stmt_depth t)
    (chain_at (many (read.branch_turn (read.stmt d) d) ([], 0)) _ (v ++ rest) rest (all, max 0 (deepest (map branch_depth all))) (iha d (omega (arith, depth-if at.line all (Some body))) ([], 0) rest refl)
    ∙ eaten else_word at_else (tok colon at_colon ∷ tail) _ refl
    ∙ expected colon at_colon tail _ refl
    ∙ chain_at (read.suite (read.stmt d) d) _ tail r (body, text_depth body) (ihb d (omega (arith, depth-if at.line all (Some body))) r)
    ∙ deep_eq t (max (max 0 (deepest (map branch_depth all))) (text_depth body) + 1) (stmt_depth t) r (omega (arith, depth-if at.line all (Some body))))

read_for : (at at_name at_in at_colon : Spot) (over : PyExpr) (body : List PyStmt) (v w : List Lexeme) → IsExpr 1 over v → Suite_of body w →
    Compound_of (tree.For at.line at_name.text over body) (tok for_word at ∷ tok Name at_name ∷ tok in_word at_in ∷ (v ++ tok colon at_colon ∷ w))
unfolding read.compound read.for_each is
read_for at at_name at_in at_colon over body v w e ih d h r c =
    let t = tree.For at.line at_name.text over body in
    let tail = w ++ r in
    let rest = tok colon at_colon ∷ tail in
    let inner = tok Name at_name ∷ tok in_word at_in ∷ (v ++ rest) in
    ap (λ m. read.compound (read.stmt d) d at.line (tok for_word at ∷ tok Name at_name ∷ tok in_word at_in ∷ m)) (append_assoc v (tok colon at_colon ∷ w) r)
    ∙ passed if_word (tok for_word at ∷ inner) _ refl
    ∙ eaten for_word at inner _ refl
    ∙ chain_at (read.for_each (read.stmt d) d at.line) _ inner r (t, stmt_depth t)
    (wanted Name _ at_name (tok in_word at_in ∷ (v ++ rest)) refl
    ∙ expected in_word at_in (v ++ rest) _ refl
    ∙ chain_at (expr d 1) _ (v ++ rest) rest (over, expr_depth over) (read_expr e d (omega (arith, depth-for at.line at_name.text over body)) rest (stops_colon at_colon tail))
    ∙ expected colon at_colon tail _ refl
    ∙ chain_at (read.suite (read.stmt d) d) _ tail r (body, text_depth body) (ih d (omega (arith, depth-for at.line at_name.text over body)) r)
    ∙ deep_eq t (max (expr_depth over) (text_depth body) + 1) (stmt_depth t) r (omega (arith, depth-for at.line at_name.text over body)))

read_while : (at at_colon : Spot) (test : PyExpr) (body : List PyStmt) (v w : List Lexeme) → IsExpr 1 test v → Suite_of body w →
    Compound_of (tree.While at.line test body) (tok while_word at ∷ (v ++ tok colon at_colon ∷ w))
unfolding read.compound read.as_long is
read_while at at_colon test body v w e ih d h r c =
    let t = tree.While at.line test body in
    let tail = w ++ r in
    let rest = tok colon at_colon ∷ tail in
    ap (λ m. read.compound (read.stmt d) d at.line (tok while_word at ∷ m)) (append_assoc v (tok colon at_colon ∷ w) r)
    ∙ passed if_word (tok while_word at ∷ (v ++ rest)) _ refl
    ∙ passed for_word (tok while_word at ∷ (v ++ rest)) _ refl
    ∙ eaten while_word at (v ++ rest) _ refl
    ∙ chain_at (read.as_long (read.stmt d) d at.line) _ (v ++ rest) r (t, stmt_depth t)
    (chain_at (expr d 1) _ (v ++ rest) rest (test, expr_depth test) (read_expr e d (omega (arith, depth-while at.line test body)) rest (stops_colon at_colon tail))
    ∙ expected colon at_colon tail _ refl
    ∙ chain_at (read.suite (read.stmt d) d) _ tail r (body, text_depth body) (ih d (omega (arith, depth-while at.line test body)) r)
    ∙ deep_eq t (max (expr_depth test) (text_depth body) + 1) (stmt_depth t) r (omega (arith, depth-while at.line test body)))

-- ---- definitions

-- after the marks and `def`
defined_read : (at_name from to at_colon : Spot) (line : ℕ) (marks : List PyExpr) (params : List Param) (body : List PyStmt) (w x : List Lexeme) → AreParams params w → Suite_of body x → (d n : ℕ) →
    let t = tree.Def (definition marks at_name.text params body line) in
    stmt_depth t ≤ suc d → n ≡ deepest (map expr_depth marks) → (r : List Lexeme) →
    read.defined (read.stmt d) d (marks, n) line (tok Name at_name ∷ tok lparen from ∷ (w ++ tok rparen to ∷ tok colon at_colon ∷ (x ++ r))) ≡ Ok ((t, stmt_depth t), r)
unfolding read.defined
defined_read at_name from to at_colon line marks params body w x e ih d n h k r =
    let t = tree.Def (definition marks at_name.text params body line) in
    let tail = tok colon at_colon ∷ (x ++ r) in
    let rest = w ++ tok rparen to ∷ tail in
    let deep = depth_definition marks at_name.text params body line in
    wanted Name _ at_name (tok lparen from ∷ rest) refl
    ∙ expected lparen from rest _ refl
    ∙ chain_at (many (read.param_turn (read.stmt d) d) ([], 0)) _ rest tail (params, max 0 (deepest (map param_depth params))) (params_read (read.stmt d) d e (omega (arith, deep)) ([], 0) to tail)
    ∙ expected colon at_colon (x ++ r) _ refl
    ∙ chain_at (read.suite (read.stmt d) d) _ (x ++ r) r (body, text_depth body) (ih d (omega (arith, deep)) r)
    ∙ deep_eq t (max n (max (max 0 (deepest (map param_depth params))) (text_depth body)) + 1) (stmt_depth t) r (omega (arith, deep, k))

module _ (at at_name from to at_colon : Spot) (params : List Param) (body : List PyStmt) (w x : List Lexeme) (e : AreParams params w) (ih : Suite_of body x) where
  -- from `def` on
  abbrev heading : List Lexeme → List Lexeme
  heading m = tok def_word at ∷ tok Name at_name ∷ tok lparen from ∷ (w ++ tok rparen to ∷ tok colon at_colon ∷ m)

  abbrev Defined_of : List PyExpr → List Lexeme → Type 0
  Defined_of marks v = Compound_of (tree.Def (definition marks at_name.text params body at.line)) (v ++ heading x)

  heading_behind : (r : List Lexeme) → heading x ++ r ≡ heading (x ++ r)
  heading_behind r = ap (λ m. tok def_word at ∷ tok Name at_name ∷ tok lparen from ∷ m) (append_assoc w (tok rparen to ∷ tok colon at_colon ∷ x) r)

  define_bare : Defined_of [] []
  unfolding read.compound is
  define_bare d h r c =
      let t = tree.Def (definition [] at_name.text params body at.line) in
      let rest = w ++ tok rparen to ∷ tok colon at_colon ∷ (x ++ r) in
      let inner = tok Name at_name ∷ tok lparen from ∷ rest in
      ap (read.compound (read.stmt d) d at.line) (heading_behind r)
      ∙ passed if_word (tok def_word at ∷ inner) _ refl
      ∙ passed for_word (tok def_word at ∷ inner) _ refl
      ∙ passed while_word (tok def_word at ∷ inner) _ refl
      ∙ eaten def_word at inner _ refl
      ∙ chain_at (read.defined (read.stmt d) d ([], 0) at.line) _ inner r (t, stmt_depth t) (defined_read at_name from to at_colon at.line [] params body w x e ih d 0 h refl r)

  define_marked : (at_mark to_mark : Spot) (a : PyExpr) (others : List PyExpr) (v y : List Lexeme) → IsExpr 12 a v → AreMarks others y → Defined_of (a ∷ others) (tok at_sign at_mark ∷ (v ++ tok Newline to_mark ∷ y))
  unfolding read.compound read.marked is
  define_marked at_mark to_mark a others v y f g d h r c =
      let marks = a ∷ others in
      let t = tree.Def (definition marks at_name.text params body at.line) in
      let deep = depth_definition marks at_name.text params body at.line in
      let n = max 0 (max (expr_depth a) (deepest (map expr_depth others))) in
      let rest = w ++ tok rparen to ∷ tok colon at_colon ∷ (x ++ r) in
      let inner = tok Name at_name ∷ tok lparen from ∷ rest in
      let m = tok def_word at ∷ inner in
      let all = v ++ tok Newline to_mark ∷ (y ++ m) in
      ap (λ m. read.compound (read.stmt d) d at_mark.line (tok at_sign at_mark ∷ m))
      (append_assoc (v ++ tok Newline to_mark ∷ y) (heading x) r
      ∙ append_assoc v (tok Newline to_mark ∷ y) (heading x ++ r)
      ∙ ap (λ m. v ++ tok Newline to_mark ∷ (y ++ m)) (heading_behind r))
      ∙ passed if_word (tok at_sign at_mark ∷ all) _ refl
      ∙ passed for_word (tok at_sign at_mark ∷ all) _ refl
      ∙ passed while_word (tok at_sign at_mark ∷ all) _ refl
      ∙ passed def_word (tok at_sign at_mark ∷ all) _ refl
      ∙ eaten at_sign at_mark all _ refl
      ∙ chain_at (read.marked (read.stmt d) d) _ all r (t, stmt_depth t)
      (chain_at (many (read.mark_turn (read.stmt d) d) ([], 0)) _ all m (marks, n) (marks_read (read.stmt d) d g a v to_mark f (omega (arith, deep)) (omega (arith, deep)) ([], 0) m refl)
      ∙ chain_at (look line_at) _ m m at.line refl
      ∙ expected def_word at inner _ refl
      ∙ defined_read at_name from to at_colon at.line marks params body w x e ih d n h (omega arith) r)

  define : {marks : List PyExpr} {v : List Lexeme} → AreMarks marks v → Defined_of marks v
  define (st.no_mark i j) = moved Defined_of _ _ _ _ i j define_bare
  define (st.mark at_mark to_mark a others v y f g i j) = moved Defined_of _ _ _ _ i j (define_marked at_mark to_mark a others v y f g)

-- ---- statements in a row

body_some : {body : List PyStmt} {u : List Lexeme} → IsStmt body u → 1 ≤ text_depth body
body_some (st.simple d) = simple_some d
body_some (st.compound t d i) = rw i (omega (arith, stmt_some t))

stmts_some : {body : List PyStmt} {u : List Lexeme} → AreStmts body u → 1 ≤ text_depth body
stmts_some (st.one d) = body_some d
stmts_some (st.more first others v w d e i j) = rw i (omega (arith, depth_append first others, body_some d))

suite_some : {body : List PyStmt} {u : List Lexeme} → IsSuite body u → 1 ≤ text_depth body
suite_some (st.line d) = simple_some d
suite_some (st.block at from to v d j) = stmts_some d

branches_some : {all : List Branch} {u : List Lexeme} → AreBranches all u → 1 ≤ deepest (map branch_depth all)
branches_some (st.last_branch at test body v w d e i j) = rw i (omega (arith, depth_branch test body, depth-some test))
branches_some (st.elif at at_elif test body others v w x d e f i j) = rw i (omega (arith, depth_branch test body, depth-some test))

-- what holds another is two levels deep at least
compound_some : {t : PyStmt} {u : List Lexeme} → IsCompound t u → 2 ≤ stmt_depth t
compound_some (st.def at at_name from to at_colon marks params body v w x d e f i j) = rw i (omega (arith, depth_definition marks at_name.text params body at.line, suite_some f))
compound_some (st.branches at all v d i j) = rw i (omega (arith, depth-if at.line all None, branches_some d))
compound_some (st.branches_else at at_else at_colon all body v w d e i j) = rw i (omega (arith, depth-if at.line all (Some body), branches_some d))
compound_some (st.for at at_name at_in at_colon over body v w d e i j) = rw i (omega (arith, depth-for at.line at_name.text over body, depth-some over))
compound_some (st.while at at_colon test body v w d e i j) = rw i (omega (arith, depth-while at.line test body, depth-some test))

compound_none : (d line : ℕ) (ts : List Lexeme) → starts begins_small ts ≡ true → read.compound (read.stmt d) d line ts ≡ read.simple (suc d) ts
unfolding read.compound begins_word begins_sign small_word
compound_none d line ts s =
    passed if_word ts _ (unseen begins_small if_word ts s refl)
    ∙ passed for_word ts _ (unseen begins_small for_word ts s refl)
    ∙ passed while_word ts _ (unseen begins_small while_word ts s refl)
    ∙ passed def_word ts _ (unseen begins_small def_word ts s refl)
    ∙ passed at_sign ts _ (unseen begins_small at_sign ts s refl)

stmt_simple : (body : List PyStmt) (u : List Lexeme) → IsSimple body u → Stmt_of body u
unfolding read.stmt read.stmt_by
stmt_simple body u e zero h r c = absurd (omega (arith, simple_some e))
stmt_simple body u e (suc d) h r c = go (nat_lt 0 d) ∙ simple_read e (suc d) h r
  where
    go : (b : Bool) → cond b (look line_at >>= read.compound (read.stmt d) d) (read.simple (suc d)) (u ++ r) ≡ read.simple (suc d) (u ++ r)
    go true = chain_at (look line_at) (read.compound (read.stmt d) d) (u ++ r) (u ++ r) (line_at (first_of (u ++ r))) refl ∙ compound_none d (line_at (first_of (u ++ r))) (u ++ r) (simple_starts e r)
    go false = refl

stmt_compound : (t : PyStmt) (u : List Lexeme) → 2 ≤ stmt_depth t → Compound_of t u → Stmt_of (t ∷ []) u
unfolding read.stmt read.stmt_by
stmt_compound t u l ih zero h r c = absurd (omega arith)
stmt_compound t u l ih (suc d) h r c =
    let b : nat_lt 0 d ≡ true = lt-ltb 0 d (omega arith) in
    ap (λ b. cond b (look line_at >>= read.compound (read.stmt d) d) (read.simple (suc d)) (u ++ r)) b
    ∙ chain_at (look line_at) (read.compound (read.stmt d) d) (u ++ r) (u ++ r) (line_at (first_of (u ++ r))) refl
    ∙ ih d (omega arith) r c
    ∙ row_eq (t ∷ []) (t ∷ []) (stmt_depth t) (text_depth (t ∷ [])) r refl (omega arith)

stmts_one : (body : List PyStmt) (u : List Lexeme) → Stmt_of body u → Stmts_of body u
unfolding read.block_turn is
stmts_one body u ih d h s to r =
    let rest = tok Dedent to ∷ r in
    many_done (read.block_turn (read.stmt d)) s (u ++ rest) (s.0 ++ body, max s.1 (text_depth body)) r
    (chain_at (read.stmt d) _ (u ++ rest) rest (body, text_depth body) (ih d h rest (calm Dedent to r refl refl))
    ∙ eaten Dedent to r _ refl)

stmts_more : (first others : List PyStmt) (v w : List Lexeme) → IsStmt first v → AreStmts others w → Stmt_of first v → Stmts_of others w → Stmts_of (first ++ others) (v ++ w)
unfolding read.block_turn small_word compound_word
stmts_more first others v w e f ihx ihs d h s to r =
    let rest = w ++ tok Dedent to ∷ r in
    let step = read.block_turn (read.stmt d) in
    let next : Body = (s.0 ++ first, max s.1 (text_depth first)) in
    ap (many step s) (append_assoc v w (tok Dedent to ∷ r))
    ∙ many_again step s (v ++ rest) next rest
    (chain_at (read.stmt d) _ (v ++ rest) rest (first, text_depth first) (ihx d (omega (arith, depth_append first others)) rest (stmts_calm f (tok Dedent to ∷ r)))
    ∙ passed Dedent rest _ (unseen begins_stmt Dedent rest (stmts_start f (tok Dedent to ∷ r)) refl))
    (omega (arith, length-append v rest, filled begins_stmt v (stmt_starts e [])))
    ∙ ihs d (omega (arith, depth_append first others)) next to r
    ∙ row_eq ((s.0 ++ first) ++ others) (s.0 ++ (first ++ others)) (max next.1 (text_depth others)) (max s.1 (text_depth (first ++ others))) r (append_assoc s.0 first others) (omega (arith, depth_append first others))

-- ---- the induction over the grammar

mutual
  compound_read : {t : PyStmt} {u : List Lexeme} → IsCompound t u → Compound_of t u
  compound_read (st.def at at_name from to at_colon marks params body v w x d e f i j) = moved Compound_of _ _ _ _ i j (define at at_name from to at_colon params body w x e (suite_read f) d)
  compound_read (st.branches at all v d i j) = moved Compound_of _ _ _ _ i j (read_branches at all v (branches_read d))
  compound_read (st.branches_else at at_else at_colon all body v w d e i j) = moved Compound_of _ _ _ _ i j (read_else at at_else at_colon all body v w (branches_read d) (suite_read e))
  compound_read (st.for at at_name at_in at_colon over body v w d e i j) = moved Compound_of _ _ _ _ i j (read_for at at_name at_in at_colon over body v w d (suite_read e))
  compound_read (st.while at at_colon test body v w d e i j) = moved Compound_of _ _ _ _ i j (read_while at at_colon test body v w d (suite_read e))

  branches_read : {all : List Branch} {u : List Lexeme} → AreBranches all u → Branches_of all u
  branches_read (st.last_branch at test body v w d e i j) = moved Branches_of _ _ _ _ i j (branches_last at test body v w d (suite_read e))
  branches_read (st.elif at at_elif test body others v w x d e f i j) = moved Branches_of _ _ _ _ i j (branches_elif at at_elif test body others v w x d (suite_read e) (branches_read f))

  suite_read : {body : List PyStmt} {u : List Lexeme} → IsSuite body u → Suite_of body u
  suite_read {body} {u} (st.line d) = suite_line body u d
  suite_read {body} (st.block at from to v d j) = moved Suite_of body body _ _ refl j (suite_block at from to body v (stmts_read d))

  stmt_read : {body : List PyStmt} {u : List Lexeme} → IsStmt body u → Stmt_of body u
  stmt_read {body} {u} (st.simple d) = stmt_simple body u d
  stmt_read {body} {u} (st.compound t d i) = moved Stmt_of body (t ∷ []) u u i refl (stmt_compound t u (compound_some d) (compound_read d))

  stmts_read : {body : List PyStmt} {u : List Lexeme} → AreStmts body u → Stmts_of body u
  stmts_read {body} {u} (st.one d) = stmts_one body u (stmt_read d)
  stmts_read (st.more first others v w d e i j) = moved Stmts_of _ _ _ _ i j (stmts_more first others v w d e (stmt_read d) (stmts_read e))

-- ---- a whole text

abbrev Text_of : List PyStmt → List Lexeme → Type 0
Text_of body u = (d : ℕ) → text_depth body ≤ d → (s : Body) (to : Spot) (r : List Lexeme) →
    many (read.text_turn d) s (u ++ tok End to ∷ r) ≡ Ok ((s.0 ++ body, max s.1 (text_depth body)), tok End to ∷ r)

text_none : Text_of [] []
unfolding read.text_turn is
text_none d h s to r =
    let ts = tok End to ∷ r in
    many_done (read.text_turn d) s ts s ts (chain_at (look ends_at) _ ts ts true refl)
    ∙ row_eq s.0 (s.0 ++ []) s.1 (max s.1 0) ts (sym (append-nil s.0)) (omega arith)

not_ended : (ts : List Lexeme) → sees (is End) ts ≡ false → ends_at (first_of ts) ≡ false
not_ended [] e = refl
not_ended (t ∷ ts) e = e

text_more : (first others : List PyStmt) (v w : List Lexeme) → IsStmt first v → ((to : Spot) (r : List Lexeme) → Calm (w ++ tok End to ∷ r)) → Text_of others w → Text_of (first ++ others) (v ++ w)
unfolding read.text_turn small_word compound_word
text_more first others v w e calm ih d h s to r =
    let rest = w ++ tok End to ∷ r in
    let step = read.text_turn d in
    let next : Body = (s.0 ++ first, max s.1 (text_depth first)) in
    ap (many step s) (append_assoc v w (tok End to ∷ r))
    ∙ many_again step s (v ++ rest) next rest
    (chain_at (look ends_at) _ (v ++ rest) (v ++ rest) false (ap (λ (b : Bool). let o : _ = Ok (b, v ++ rest) in o) (not_ended (v ++ rest) (unseen begins_stmt End (v ++ rest) (stmt_starts e rest) refl)))
    ∙ chain_at (read.stmt d) _ (v ++ rest) rest (first, text_depth first) (stmt_read e d (omega (arith, depth_append first others)) rest (calm to r)))
    (omega (arith, length-append v rest, filled begins_stmt v (stmt_starts e [])))
    ∙ ih d (omega (arith, depth_append first others)) next to r
    ∙ row_eq ((s.0 ++ first) ++ others) (s.0 ++ (first ++ others)) (max next.1 (text_depth others)) (max s.1 (text_depth (first ++ others))) (tok End to ∷ r) (append_assoc s.0 first others) (omega (arith, depth_append first others))

turns_read : {body : List PyStmt} {u : List Lexeme} → AreStmts body u → Text_of body u
unfolding is
turns_read {body} {u} (st.one d) = moved Text_of body (body ++ []) u (u ++ []) (sym (append-nil body)) (sym (append-nil u))
    (text_more body [] u [] d (λ to r. calm End to r refl refl) text_none)
turns_read (st.more first others v w d e i j) = moved Text_of _ _ _ _ i j (text_more first others v w d (λ to r. stmts_calm e (tok End to ∷ r)) (turns_read e))

abbrev Read_so : List PyStmt → List Lexeme → Type 0
Read_so body ts = (d : ℕ) → text_depth body ≤ d → read.text d ts ≡ Ok ((body, text_depth body), [])

text_read : (body : List PyStmt) (u : List Lexeme) (to : Spot) → Text_of body u → Read_so body (u ++ tok End to ∷ [])
unfolding read.text read.stmts is
text_read body u to h d l = whole_at (is End) (read.stmts d) u (tok End to) (body, text_depth body) refl
    (h d l ([], 0) to [] ∙ row_eq body body (max 0 (text_depth body)) (text_depth body) (tok End to ∷ []) refl (omega arith))

-- A text at most d deep is read, as the tree that it is.
pub text_complete : {body : List PyStmt} {ts : List Lexeme} → IsText body ts → Read_so body ts
text_complete (st.nothing to i j) = moved Read_so _ [] _ (tok End to ∷ []) i j (text_read [] [] to text_none)
text_complete {body} (st.full to v e j) = moved Read_so body body _ (v ++ tok End to ∷ []) refl j (text_read body v to (turns_read e))
