-- What is read as a statement, and as a whole text, is one by the grammar, with its depth and its lines.
use Rattle.std.proofs.Common.{◌≡◌, ℕ, zero, suc, ◌≤◌, ◌+◌, max, true, false, nat_lt, List, [], ◌∷◌, ◌++◌, append_assoc, map, Some, None, Ok, refl, sym, ap, ◌∙◌, arith, subst, rules, ◌⊎◌, inl, inr}
use Rattle.mh_reader.specs.Reader.{◌>>=◌, first_of, expect}
use Rattle.mh_reader.proofs.Yields.{Yields, Turned, yields_pure, yields_refuse, yields_if, yields_more, yields_bind, yields_made, yields_stop, yields_expect_made, yields_eat_made, yields_after_look, yields_many, yields_many_after, whole_yields}
use Rattle.mh_pytok.specs.Lexeme.{Lexeme}
use Rattle.mh_pytok.specs.declared.token.Tok.{Tok}
use Rattle.mh_pytok.specs.declared.token.Tok.TheVariants.{Name, Newline, Indent, Dedent, End}
use Rattle.mh_pytree.specs.declared.expression.PyExpr.{PyExpr}
use Rattle.mh_pytree.specs.declared.statement.PyStmt.{PyStmt, the_lemmas}
use Rattle.mh_pytree.specs.declared.statement.PyStmt.TheVariants as tree
use Rattle.mh_pytree.specs.declared.statement.Param.{Param}
use Rattle.mh_pytree.specs.Depth.{deepest, expr_depth, stmt_depth, text_depth, param_depth, branch_depth}
use Rattle.mh_pytree.proofs.Depths as deep
use Rattle.mh_pyparse.specs.Signs.{def_word, elif_word, else_word, for_word, if_word, in_word, while_word, equals, lparen, rparen, comma, colon, at_sign}
use Rattle.mh_pyparse.specs.Grammar.{Spot, tok, IsExpr}
use Rattle.mh_pyparse.specs.Statements as st
use Rattle.mh_pyparse.specs.Statements.{param, branch, definition, IsSimple, IsParam, AreParams, AreMarks, IsCompound, AreBranches, IsSuite, IsStmt, AreStmts, IsText}
use Rattle.mh_pyparse.specs.Reading.{Read, Row, is}
use Rattle.mh_pyparse.specs.ReadingStatements as q
use Rattle.mh_pyparse.specs.ReadingStatements.{Step, Body, Branches, Params, ends_at}
use Rattle.mh_pyparse.proofs.Tables.{is_true}
use Rattle.mh_pyparse.proofs.Sound.{expr_yields}
use Rattle.mh_pyparse.proofs.SoundRows.{Goes, goes_then, deepest-append, deepest-more, yields_text, yields_taken, yields_closing, WithCommas, Partly, Closed, row_begun, row_more, row_closed, row_closed_after}
use Rattle.mh_pyparse.proofs.SoundSmall.{FoundStep, FoundBody, GoesOn, Lined, yields_lined, simple_yields}

depth_branch : (test : PyExpr) (body : List PyStmt) → branch_depth (branch test body) ≡ max (expr_depth test) (text_depth body)
depth_branch test body = search (rules, the_lemmas, deep.depth-branch)

depth_definition : (marks : List PyExpr) (name : List ℕ) (params : List Param) (body : List PyStmt) (line : ℕ) →
    stmt_depth (tree.Def (definition marks name params body line)) ≡ suc (max (deepest (map expr_depth marks)) (max (deepest (map param_depth params)) (text_depth body)))
depth_definition marks name params body line = deep.depth-def (definition marks name params body line) ∙ ap suc (search (rules, the_lemmas, deep.depth-def_of))

params_rules : WithCommas IsParam AreParams
params_rules = record {
  none = st.no_param refl refl;
  last = λ x v i. st.last_param x i refl;
  more = λ at x others v w i is. st.more_params at x others v w i is refl refl;
}

-- branches that were found, where more of them follow
record SomeBranches (d : ℕ) (x : Branches) (u : List Lexeme) : Type 0 where
  goes : Goes AreBranches x.0 u
  depth : x.1 ≡ deepest (map branch_depth x.0)
  small : x.1 ≤ d

record AllBranches (d : ℕ) (x : Branches) (u : List Lexeme) : Type 0 where
  are : AreBranches x.0 u
  depth : x.1 ≡ deepest (map branch_depth x.0)
  small : x.1 ≤ d

-- the lines before a definition, where the next one was begun
record SomeMarks (d : ℕ) (x : Row) (u : List Lexeme) : Type 0 where
  taken : List Lexeme
  at : Spot
  goes : Goes AreMarks x.0 taken
  split : u ≡ taken ++ tok at_sign at ∷ []
  depth : x.1 ≡ deepest (map expr_depth x.0)
  small : x.1 ≤ d

record AllMarks (d : ℕ) (x : Row) (u : List Lexeme) : Type 0 where
  are : AreMarks x.0 u
  depth : x.1 ≡ deepest (map expr_depth x.0)
  small : x.1 ≤ d

-- statements set in, with the end of the block
record Block (d : ℕ) (x : Body) (u : List Lexeme) : Type 0 where
  taken : List Lexeme
  to : Spot
  are : AreStmts x.0 taken
  split : u ≡ taken ++ tok Dedent to ∷ []
  depth : x.1 ≡ text_depth x.0
  small : x.1 ≤ d

module _ (sub : Read Body) (d : ℕ) (below : Yields sub (FoundBody IsStmt d)) where
  block_turn_yields : (body : Body) (u : List Lexeme) → GoesOn AreStmts d body u → Yields (q.block_turn sub body) (λ y v. Turned (GoesOn AreStmts d) (Block d) y (u ++ v))
  unfolding q.block_turn
  block_turn_yields body u i = yields_bind _ _ _ _ below (λ x v f.
      let deeper : max body.1 x.1 ≡ text_depth (body.0 ++ x.0) = omega (arith, deepest-append stmt_depth body.0 x.0, i.depth, f.depth) in
      let low : max body.1 x.1 ≤ d = omega (arith, i.small, f.small) in
      yields_taken Dedent _ _
      (λ to. yields_pure _ _ (record { taken = u ++ v; to = to; are = i.goes x.0 v (st.one f.are); split = sym (append_assoc u v (tok Dedent to ∷ [])); depth = deeper; small = low }))
      (yields_stop _ (λ y m. Turned (GoesOn AreStmts d) (Block d) y (u ++ m)) v
      (record { goes = goes_then AreStmts body.0 x.0 u v i.goes (λ others w j. st.more x.0 others v w f.are j refl refl); depth = deeper; small = low })))

  suite_yields : Yields (q.suite sub d) (FoundBody IsSuite d)
  unfolding q.suite
  suite_yields = yields_eat_made (is Newline) (tok Newline) (is_true Newline) _ _ _
      (λ at. yields_expect_made (is Indent) (tok Indent) (is_true Indent) _ _ (λ from. yields_more _ _ _
      (yields_many (q.block_turn sub) (GoesOn AreStmts d) (Block d) block_turn_yields ([], 0) (record { goes = λ others w i. i; depth = refl; small = omega arith }))
      (λ x u b. record { are = st.block at from b.to b.taken b.are (ap (λ v. tok Newline at ∷ tok Indent from ∷ v) b.split); depth = b.depth; small = b.small })))
      (yields_more _ _ _ (simple_yields d) (λ x u f. record { are = st.line f.are; depth = f.depth; small = f.small }))

  -- ---- if

  goes_branch : (at at_elif : Spot) (test : PyExpr) (body : List PyStmt) (v w : List Lexeme) → IsExpr 1 test v → IsSuite body w →
      Goes AreBranches (branch test body ∷ []) (v ++ tok colon at ∷ (w ++ tok elif_word at_elif ∷ []))
  goes_branch at at_elif test body v w i j others x k =
      rw (append_assoc v (tok colon at ∷ (w ++ tok elif_word at_elif ∷ [])) x, append_assoc w (tok elif_word at_elif ∷ []) x) (st.elif at at_elif test body others v w x i j k refl refl)

  branch_turn_yields : (found : Branches) (u : List Lexeme) → SomeBranches d found u → Yields (q.branch_turn sub d found) (λ y v. Turned (SomeBranches d) (AllBranches d) y (u ++ v))
  unfolding q.branch_turn
  branch_turn_yields found u i = yields_bind _ _ _ _ (expr_yields d 1 (omega arith)) (λ test v f. yields_expect_made (is colon) (tok colon) (is_true colon) _ _ (λ at.
      yields_bind _ _ _ _ suite_yields (λ body w h.
      let deeper : max found.1 (max test.1 body.1) ≡ deepest (map branch_depth (found.0 ++ branch test.0 body.0 ∷ [])) =
      omega (arith, deepest-more branch_depth found.0 (branch test.0 body.0), depth_branch test.0 body.0, i.depth, f.depth, h.depth) in
      let low : max found.1 (max test.1 body.1) ≤ d = omega (arith, i.small, f.small, h.small) in
      yields_taken elif_word _ _
      (λ at_elif. yields_pure _ _ (record {
        goes = goes_then AreBranches found.0 (branch test.0 body.0 ∷ []) u (v ++ tok colon at ∷ (w ++ tok elif_word at_elif ∷ [])) i.goes (goes_branch at at_elif test.0 body.0 v w f.is h.are);
        depth = deeper;
        small = low;
      }))
      (yields_stop _ (λ y m. Turned (SomeBranches d) (AllBranches d) y (u ++ (v ++ tok colon at ∷ m))) w
      (record { are = i.goes (branch test.0 body.0 ∷ []) (v ++ tok colon at ∷ w) (st.last_branch at test.0 body.0 v w f.is h.are refl refl); depth = deeper; small = low })))))

  otherwise_yields : (line : ℕ) (at at_else : Spot) (found : Branches) (v : List Lexeme) → AllBranches d found v →
      Yields (q.otherwise sub d line found) (λ x w. Lined (FoundStep IsCompound (suc d)) line x (tok if_word at ∷ (v ++ tok else_word at_else ∷ w)))
  unfolding q.otherwise
  otherwise_yields line at at_else found v f = yields_expect_made (is colon) (tok colon) (is_true colon) _ _ (λ at_colon.
      yields_made _ (λ body. (tree.If line found.0 (Some body.0), max found.1 body.1 + 1)) _ _ suite_yields (λ body w h. record {
        holds = λ r k. record {
          is = st.branches_else at at_else at_colon found.0 body.0 v w f.are h.are (ap (λ n. tree.If n found.0 (Some body.0)) (sym k)) refl;
          depth = omega (arith, deep.depth-if line found.0 (Some body.0), f.depth, h.depth);
          small = omega (arith, f.small, h.small);
        };
      }))

  conditional_yields : (line : ℕ) (at : Spot) → Yields (q.conditional sub d line) (λ x v. Lined (FoundStep IsCompound (suc d)) line x (tok if_word at ∷ v))
  unfolding q.conditional
  conditional_yields line at = yields_bind _ _ _ _
      (yields_many (q.branch_turn sub d) (SomeBranches d) (AllBranches d) branch_turn_yields ([], 0) (record { goes = λ others w i. i; depth = refl; small = omega arith })) (λ found v f.
      yields_eat_made (is else_word) (tok else_word) (is_true else_word) _ _ _
      (λ at_else. otherwise_yields line at at_else found v f)
      (yields_stop (tree.If line found.0 None, found.1 + 1) (λ x m. Lined (FoundStep IsCompound (suc d)) line x (tok if_word at ∷ m)) v (record {
        holds = λ r k. record {
          is = st.branches at found.0 v f.are (ap (λ n. tree.If n found.0 None) (sym k)) refl;
          depth = omega (arith, deep.depth-if line found.0 None, f.depth);
          small = omega (arith, f.small);
        };
      })))

  -- ---- for and while

  for_each_yields : (line : ℕ) (at : Spot) → Yields (q.for_each sub d line) (λ x v. Lined (FoundStep IsCompound (suc d)) line x (tok for_word at ∷ v))
  unfolding q.for_each
  for_each_yields line at = yields_text Name _ _ (λ at_name. yields_expect_made (is in_word) (tok in_word) (is_true in_word) _ _ (λ at_in.
      yields_bind _ _ _ _ (expr_yields d 1 (omega arith)) (λ over v f. yields_expect_made (is colon) (tok colon) (is_true colon) _ _ (λ at_colon.
      yields_made _ (λ body. (tree.For line at_name.text over.0 body.0, max over.1 body.1 + 1)) _ _ suite_yields (λ body w h. record {
        holds = λ r k. record {
          is = st.for at at_name at_in at_colon over.0 body.0 v w f.is h.are (ap (λ n. tree.For n at_name.text over.0 body.0) (sym k)) refl;
          depth = omega (arith, deep.depth-for line at_name.text over.0 body.0, f.depth, h.depth);
          small = omega (arith, f.small, h.small);
        };
      })))))

  as_long_yields : (line : ℕ) (at : Spot) → Yields (q.as_long sub d line) (λ x v. Lined (FoundStep IsCompound (suc d)) line x (tok while_word at ∷ v))
  unfolding q.as_long
  as_long_yields line at = yields_bind _ _ _ _ (expr_yields d 1 (omega arith)) (λ test v f. yields_expect_made (is colon) (tok colon) (is_true colon) _ _ (λ at_colon.
      yields_made _ (λ body. (tree.While line test.0 body.0, max test.1 body.1 + 1)) _ _ suite_yields (λ body w h. record {
        holds = λ r k. record {
          is = st.while at at_colon test.0 body.0 v w f.is h.are (ap (λ n. tree.While n test.0 body.0) (sym k)) refl;
          depth = omega (arith, deep.depth-while line test.0 body.0, f.depth, h.depth);
          small = omega (arith, f.small, h.small);
        };
      })))

  -- ---- def

  param_turn_yields : (s : Params) (u : List Lexeme) → Partly param_depth AreParams d [] s u →
      Yields (q.param_turn sub d s) (λ y v. Turned (Partly param_depth AreParams d []) (Closed param_depth AreParams d [] rparen) y (u ++ v))
  unfolding q.param_turn
  param_turn_yields s u i = yields_eat_made (is rparen) (tok rparen) (is_true rparen) _ _ _
      (λ to. yields_pure _ _ (row_closed param_depth _ AreParams params_rules d [] rparen s u i to))
      (yields_text Name _ _ (λ at. yields_eat_made (is equals) (tok equals) (is_true equals) _ _ _
      (λ between. yields_bind _ _ _ _ (expr_yields d 1 (omega arith)) (λ a v f.
      let x : Param = param at.text (Some a.0) in
      let w : List Lexeme = tok Name at ∷ tok equals between ∷ v in
      let p : IsParam x w = st.valued at between a.0 v f.is refl refl in
      yields_closing rparen _ _
      (λ then. row_more param_depth _ AreParams params_rules d [] s u i x a.1 w p f.depth f.small then)
      (λ to. row_closed_after param_depth _ AreParams params_rules d [] rparen s u i x a.1 w p f.depth f.small to)))
      (let x : Param = param at.text None in
      let w : List Lexeme = tok Name at ∷ [] in
      let p : IsParam x w = st.bare at refl refl in
      let same : max s.1 0 ≡ s.1 = omega arith in
      yields_closing rparen _ _
      (λ then. subst (λ n. Partly param_depth AreParams d [] (s.0 ++ x ∷ [], n) (u ++ (w ++ tok comma then ∷ []))) same
      (row_more param_depth _ AreParams params_rules d [] s u i x 0 w p refl (omega arith) then))
      (λ to. subst (λ n. Closed param_depth AreParams d [] rparen (s.0 ++ x ∷ [], n) (u ++ (w ++ tok rparen to ∷ []))) same
      (row_closed_after param_depth _ AreParams params_rules d [] rparen s u i x 0 w p refl (omega arith) to)))))

  -- after the marks, of the tokens m
  defined_yields : (marks : Row) (m : List Lexeme) → AllMarks d marks m → (line : ℕ) (at : Spot) →
      Yields (q.defined sub d marks line) (λ x v. Lined (λ x v. FoundStep IsCompound (suc d) x (m ++ v)) line x (tok def_word at ∷ v))
  unfolding q.defined
  defined_yields marks m f line at = yields_text Name _ _ (λ at_name. yields_expect_made (is lparen) (tok lparen) (is_true lparen) _ _ (λ from.
      yields_bind _ _ _ _ (yields_many (q.param_turn sub d) (Partly param_depth AreParams d []) (Closed param_depth AreParams d [] rparen) param_turn_yields
      ([], 0) (row_begun param_depth _ AreParams params_rules d [] 0 refl (omega arith))) (λ params w c.
      yields_expect_made (is colon) (tok colon) (is_true colon) _ _ (λ at_colon.
      yields_made _ (λ body. (tree.Def (definition marks.0 at_name.text params.0 body.0 line), max marks.1 (max params.1 body.1) + 1)) _ _ suite_yields (λ body x h. record {
        holds = λ r k. record {
          is = st.def at at_name from c.to at_colon marks.0 params.0 body.0 m c.taken x f.are (subst (λ xs. AreParams xs c.taken) (sym c.listed.form) c.listed.are) h.are
              (ap (λ n. tree.Def (definition marks.0 at_name.text params.0 body.0 n)) (sym k))
              (ap (λ w. m ++ tok def_word at ∷ tok Name at_name ∷ tok lparen from ∷ w)
              (ap (λ w. w ++ tok colon at_colon ∷ x) c.split ∙ append_assoc c.taken (tok rparen c.to ∷ []) (tok colon at_colon ∷ x)));
          depth = omega (arith, depth_definition marks.0 at_name.text params.0 body.0 line, f.depth, c.listed.deep, h.depth);
          small = omega (arith, f.small, c.listed.small, h.small);
        };
      })))))

  -- ---- the lines before a definition

  goes_mark : (at to : Spot) (a : PyExpr) (v : List Lexeme) → IsExpr 12 a v → Goes AreMarks (a ∷ []) (tok at_sign at ∷ (v ++ tok Newline to ∷ []))
  goes_mark at to a v i others w j = rw (append_assoc v (tok Newline to ∷ []) w) (st.mark at to a others v w i j refl refl)

  mark_turn_yields : (found : Row) (u : List Lexeme) → SomeMarks d found u → Yields (q.mark_turn sub d found) (λ y v. Turned (SomeMarks d) (AllMarks d) y (u ++ v))
  unfolding q.mark_turn
  mark_turn_yields found u i = yields_bind _ _ _ _ (expr_yields d 12 (omega arith)) (λ a v f. yields_expect_made (is Newline) (tok Newline) (is_true Newline) _ _ (λ to.
      let deeper : max found.1 a.1 ≡ deepest (map expr_depth (found.0 ++ a.0 ∷ [])) = omega (arith, deepest-more expr_depth found.0 a.0, i.depth, f.depth) in
      let low : max found.1 a.1 ≤ d = omega (arith, i.small, f.small) in
      let line : List Lexeme = tok at_sign i.at ∷ (v ++ tok Newline to ∷ []) in
      yields_taken at_sign _ _
      (λ at. yields_pure _ _ (record {
        taken = i.taken ++ line;
        at = at;
        goes = goes_then AreMarks found.0 (a.0 ∷ []) i.taken line i.goes (goes_mark i.at to a.0 v f.is);
        split = ap (λ u. u ++ (v ++ tok Newline to ∷ tok at_sign at ∷ [])) i.split ∙ append_assoc i.taken (tok at_sign i.at ∷ []) (v ++ tok Newline to ∷ tok at_sign at ∷ [])
            ∙ sym (append_assoc i.taken line (tok at_sign at ∷ []) ∙ ap (λ m. i.taken ++ tok at_sign i.at ∷ m) (append_assoc v (tok Newline to ∷ []) (tok at_sign at ∷ [])));
        depth = deeper;
        small = low;
      }))
      (yields_pure _ _ (record {
        are = subst (λ m. AreMarks (found.0 ++ a.0 ∷ []) m) (sym (ap (λ u. u ++ (v ++ tok Newline to ∷ [])) i.split ∙ append_assoc i.taken (tok at_sign i.at ∷ []) (v ++ tok Newline to ∷ [])))
            (i.goes (a.0 ∷ []) line (st.mark i.at to a.0 [] v [] f.is (st.no_mark refl refl) refl refl));
        depth = deeper;
        small = low;
      }))))

  marked_yields : (at : Spot) → Yields (q.marked sub d) (λ x v. FoundStep IsCompound (suc d) x (tok at_sign at ∷ v))
  unfolding q.marked
  marked_yields at = yields_bind _ _ (λ marks v. AllMarks d marks (tok at_sign at ∷ v)) _
      (yields_many_after (q.mark_turn sub d) (SomeMarks d) (AllMarks d) mark_turn_yields ([], 0) (tok at_sign at ∷ [])
      (record { taken = []; at = at; goes = λ others w i. i; split = refl; depth = refl; small = omega arith })) (λ marks v f.
      yields_lined (λ line. expect (is def_word) >>= (λ _. q.defined sub d marks line)) (λ x w. FoundStep IsCompound (suc d) x (tok at_sign at ∷ (v ++ w))) (λ line.
      yields_expect_made (is def_word) (tok def_word) (is_true def_word) _ _ (λ at_def. defined_yields marks (tok at_sign at ∷ v) f line at_def)))

  -- ---- all of them

  alone : (x : Step) (u : List Lexeme) → FoundStep IsCompound (suc d) x u → FoundBody IsStmt (suc d) (x.0 ∷ [], x.1) u
  alone x u f = record { are = st.compound x.0 f.is refl; depth = omega (arith, f.depth); small = f.small }

  alone_yields : (p : Read Step) (kind : Tok) (line : ℕ) → ((at : Spot) → Yields p (λ x v. Lined (FoundStep IsCompound (suc d)) line x (tok kind at ∷ v))) →
      (at : Spot) → Yields (q.alone sub p) (λ x v. Lined (FoundBody IsStmt (suc d)) line x (tok kind at ∷ v))
  alone_yields p kind line here at = yields_made p (λ x. (x.0 ∷ [], x.1)) _ _ (here at) (λ x v f. record { holds = λ r k. alone x (tok kind at ∷ v) (f.holds r k) })

  simply_yields : Yields (q.simple (suc d)) (FoundBody IsStmt (suc d))
  simply_yields = yields_more _ _ _ (simple_yields (suc d)) (λ x u f. record { are = st.simple f.are; depth = f.depth; small = f.small })

  compound_yields : (line : ℕ) → Yields (q.compound sub d line) (Lined (FoundBody IsStmt (suc d)) line)
  unfolding q.compound
  compound_yields line =
      yields_eat_made (is if_word) (tok if_word) (is_true if_word) _ _ _ (alone_yields _ if_word line (conditional_yields line))
      (yields_eat_made (is for_word) (tok for_word) (is_true for_word) _ _ _ (alone_yields _ for_word line (for_each_yields line))
      (yields_eat_made (is while_word) (tok while_word) (is_true while_word) _ _ _ (alone_yields _ while_word line (as_long_yields line))
      (yields_eat_made (is def_word) (tok def_word) (is_true def_word) _ _ _
      (alone_yields _ def_word line (defined_yields ([], 0) [] (record { are = st.no_mark refl refl; depth = refl; small = omega arith }) line))
      (yields_eat_made (is at_sign) (tok at_sign) (is_true at_sign) _ _ _
      (λ at. yields_made _ (λ x. (x.0 ∷ [], x.1)) _ _ (marked_yields at) (λ x v f. record { holds = λ r k. alone x (tok at_sign at ∷ v) f }))
      (yields_more _ _ _ simply_yields (λ x u f. record { holds = λ r k. f }))))))

  stmt_by_yields : Yields (q.stmt_by sub d) (FoundBody IsStmt (suc d))
  unfolding q.stmt_by
  stmt_by_yields = yields_if (nat_lt 0 d) _ _ _ (λ h. yields_lined (q.compound sub d) (FoundBody IsStmt (suc d)) compound_yields) (λ h. simply_yields)

pub stmt_yields : (d : ℕ) → Yields (q.stmt d) (FoundBody IsStmt d)
unfolding q.stmt
stmt_yields zero = yields_refuse _
stmt_yields (suc d) = stmt_by_yields (q.stmt d) d (stmt_yields d)

-- ---- whole texts

-- statements of a text without its end
record FoundAll (d : ℕ) (x : Body) (u : List Lexeme) : Type 0 where
  goes : Goes AreStmts x.0 u
  so_far : ((x.0 ≡ []) × (u ≡ [])) ⊎ AreStmts x.0 u
  depth : x.1 ≡ text_depth x.0
  small : x.1 ≤ d

-- what makes up a text with its end
pub record FoundText (d : ℕ) (x : Body) (u : List Lexeme) : Type 0 where
  pub are : (to : Spot) → IsText x.0 (u ++ tok End to ∷ [])
  pub depth : x.1 ≡ text_depth x.0
  pub small : x.1 ≤ d

text_turn_yields : (d : ℕ) (body : Body) (u : List Lexeme) → FoundAll d body u → Yields (q.text_turn d body) (λ y v. Turned (FoundAll d) (FoundAll d) y (u ++ v))
unfolding q.text_turn
text_turn_yields d body u i = yields_after_look ends_at _ _ (λ ts. (yields_if (ends_at (first_of ts)) _ _ _
    (λ h. yields_stop (body, false) (Turned (FoundAll d) (FoundAll d)) u i)
    (λ h. yields_made _ (λ x. ((body.0 ++ x.0, max body.1 x.1), true)) _ _ (stmt_yields d) (λ x v f. record {
      goes = goes_then AreStmts body.0 x.0 u v i.goes (λ others w j. st.more x.0 others v w f.are j refl refl);
      so_far = inr (i.goes x.0 v (st.one f.are));
      depth = omega (arith, deepest-append stmt_depth body.0 x.0, i.depth, f.depth);
      small = omega (arith, i.small, f.small);
    }))).yields ts)

pub stmts_yields : (d : ℕ) → Yields (q.stmts d) (FoundText d)
unfolding q.stmts
stmts_yields d = yields_more _ _ _
    (yields_many (q.text_turn d) (FoundAll d) (FoundAll d) (text_turn_yields d) ([], 0) (record { goes = λ others w i. i; so_far = inl (refl, refl); depth = refl; small = omega arith }))
    (λ x u f. record { are = λ to. ended x.0 u to f.so_far; depth = f.depth; small = f.small })
  where
    ended : (body : List PyStmt) (u : List Lexeme) (to : Spot) → ((body ≡ []) × (u ≡ [])) ⊎ AreStmts body u → IsText body (u ++ tok End to ∷ [])
    ended body u to (inl h) = st.nothing to h.0 (ap (λ u. u ++ tok End to ∷ []) h.1)
    ended body u to (inr i) = st.full to u i refl

-- What is read as a text is one by the grammar, no deeper than the number, and all tokens were read.
pub text_sound : (d : ℕ) (ts : List Lexeme) (x : Body) (r : List Lexeme) → q.text d ts ≡ Ok (x, r) → IsText x.0 ts × (text_depth x.0 ≤ d)
unfolding q.text
text_sound d ts x r e =
    let a = whole_yields (is End) (q.stmts d) (FoundText d) (stmts_yields d) ts r x e in
    let m = is_true End a.1 a.2 in
    let split : ts ≡ a.0 ++ tok End m.0 ∷ [] = a.3 ∙ ap (λ t. a.0 ++ t ∷ []) m.1 in
    (subst (λ ts. IsText x.0 ts) (sym split) (a.5.are m.0), omega (arith, a.5.depth, a.5.small))
