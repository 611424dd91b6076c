-- What is read as a line of small statements is one by the grammar, with its depth and its lines.
use Rattle.std.proofs.Common.{◌≡◌, ℕ, zero, suc, ◌≤◌, ◌+◌, max, nat_eq, true, nat_le, nat_lt, List, [], ◌∷◌, ◌++◌, append_assoc, Option, Some, None, refl, sym, ap, ◌∙◌, arith, codes, ◌⊎◌, inl, inr}
use Rattle.std.proofs.lemmas.Bool.{eqb-true, leb-true}
use Rattle.std.specs.Cmp.Lexicographic.{pointwise}
use Rattle.mh_reader.specs.Reader.{◌>>=◌, pure, first_of, look}
use Rattle.mh_reader.proofs.Yields.{Yields, YieldsAt, Turned, yields_pure, yields_refuse, yields_if, yields_bind, yields_made, yields_stop, yields_expect_made, yields_eat_made, yields_after_look, yields_after_take, yields_many}
use Rattle.mh_pytok.specs.Lexeme.{Lexeme}
use Rattle.mh_pytok.specs.Strings.{string_value}
use Rattle.mh_pytok.specs.declared.token.Tok.TheVariants.{Name, Str, Newline}
use Rattle.mh_pytree.specs.declared.expression.Operator.{Operator}
use Rattle.mh_pytree.specs.declared.expression.PyExpr.{PyExpr}
use Rattle.mh_pytree.specs.declared.statement.PyStmt.{PyStmt}
use Rattle.mh_pytree.specs.declared.statement.PyStmt.TheVariants as tree
use Rattle.mh_pytree.specs.Depth.{stmt_depth, text_depth}
use Rattle.mh_pytree.proofs.Depths as deep
use Rattle.mh_pyparse.specs.Signs.{assert_word, break_word, continue_word, from_word, import_word, pass_word, raise_word, return_word, yield_word, star, equals, lparen, rparen, comma, semicolon}
use Rattle.mh_pyparse.specs.Grammar as g
use Rattle.mh_pyparse.specs.Grammar.{Spot, tok, IsExpr, AreExprs}
use Rattle.mh_pyparse.specs.Operators.{level}
use Rattle.mh_pyparse.specs.Statements as st
use Rattle.mh_pyparse.specs.Statements.{first_line, AreNames, IsSmall, IsSimple}
use Rattle.mh_pyparse.specs.Reading.{Read, Deep, is, begins_at, expr}
use Rattle.mh_pyparse.specs.ReadingStatements as q
use Rattle.mh_pyparse.specs.ReadingStatements.{Step, Body, Names, line_at, augment_at, is_module}
use Rattle.mh_pyparse.proofs.Tables as table
use Rattle.mh_pyparse.proofs.Tables.{is_true, augmented_of}
use Rattle.mh_pyparse.proofs.Sound.{FoundExprs, and_both, at_level, expr_yields, exprs_yields}
use Rattle.mh_pyparse.proofs.SoundRows.{Goes, goes_then, deepest-more, yields_text, yields_taken}

-- a statement that was found in the tokens, at most d deep
pub record FoundStep (Is : PyStmt → List Lexeme → Type 0) (d : ℕ) (x : Step) (u : List Lexeme) : Type 0 where
  pub is : Is x.0 u
  pub depth : x.1 ≡ stmt_depth x.0
  pub small : x.1 ≤ d

-- so with several
pub record FoundBody (Are : List PyStmt → List Lexeme → Type 0) (d : ℕ) (x : Body) (u : List Lexeme) : Type 0 where
  pub are : Are x.0 u
  pub depth : x.1 ≡ text_depth x.0
  pub small : x.1 ≤ d

-- where more of them follow
pub record GoesOn (Are : List PyStmt → List Lexeme → Type 0) (d : ℕ) (x : Body) (u : List Lexeme) : Type 0 where
  pub goes : Goes Are x.0 u
  pub depth : x.1 ≡ text_depth x.0
  pub small : x.1 ≤ d

-- ---- lines

-- what holds of a statement where its tokens begin on the line
pub record Lined {A : Type 0} (P : A → List Lexeme → Type 0) (line : ℕ) (x : A) (u : List Lexeme) : Type 0 where
  pub holds : (r : List Lexeme) → line_at (first_of (u ++ r)) ≡ line → P x u

pub yields_lined : {A : Type 0} (f : ℕ → Read A) (P : A → List Lexeme → Type 0) → ((line : ℕ) → Yields (f line) (Lined P line)) → Yields (look line_at >>= f) P
yields_lined f P each = yields_after_look line_at f P (λ ts r x e.
    let a = (each (line_at (first_of ts))).yields ts r x e in
    (a.0, a.1, a.2.holds r (ap (λ m. line_at (first_of m)) (sym a.1))))

abbrev Begins : List Lexeme → Type 0
Begins u = (t : Lexeme) × (w : List Lexeme) × (u ≡ t ∷ w)

begins_so : (u v w : List Lexeme) → u ≡ v ++ w → Begins v → Begins u
begins_so u v w e b = (b.0, b.1 ++ w, e ∙ ap (λ v. v ++ w) b.2)

expr_begins : {l : ℕ} {t : PyExpr} {u : List Lexeme} → IsExpr l t u → Begins u
expr_begins (g.name at m j e) = (_, _, e)
expr_begins (g.number at m j e) = (_, _, e)
expr_begins (g.string at m j e) = (_, _, e)
expr_begins (g.truth at m j e) = (_, _, e)
expr_begins (g.falsehood at m j e) = (_, _, e)
expr_begins (g.nothing at m j e) = (_, _, e)
expr_begins (g.group at to a v m i j e) = (_, _, e)
expr_begins (g.empty at to m j e) = (_, _, e)
expr_begins (g.bracketed at between to x others v w m i is j e) = (_, _, e)
expr_begins (g.list at to xs v m is j e) = (_, _, e)
expr_begins (g.comprehension at at_for at_name at_in to a b v w m i i' j e) = (_, _, e)
expr_begins (g.negation at a v m i j e) = (_, _, e)
expr_begins (g.unary sign at a v m i j e) = (_, _, e)
expr_begins (g.binary op at a b v w m i i' j e) = begins_so _ v _ e (expr_begins i)
expr_begins (g.attribute at at_name a v m i j e) = begins_so _ v _ e (expr_begins i)
expr_begins (g.call at to f xs v w m i is j e) = begins_so _ v _ e (expr_begins i)
expr_begins (g.index at to a b v w m i i' j e) = begins_so _ v _ e (expr_begins i)
expr_begins (g.slice_from at between to a b v w m i i' j e) = begins_so _ v _ e (expr_begins i)
expr_begins (g.slice at between to a b c v w x m i i' i'' j e) = begins_so _ v _ e (expr_begins i)
expr_begins (g.whole at between to a v m i j e) = begins_so _ v _ e (expr_begins i)

exprs_begin : {t : PyExpr} {u : List Lexeme} → AreExprs t u → Begins u
exprs_begin (g.single i) = expr_begins i
exprs_begin (g.tuple at x others v w i is j e) = begins_so _ v _ e (expr_begins i)

-- an expression's line is that of its first token, whatever follows
line_of_exprs : (line : ℕ) (t : PyExpr) (u r : List Lexeme) → AreExprs t u → line_at (first_of (u ++ r)) ≡ line → line ≡ first_line u
line_of_exprs line t u r i h = let b = exprs_begin i in sym h ∙ ap (λ u. line_at (first_of (u ++ r))) b.2 ∙ sym (ap first_line b.2)

-- no tuple without brackets has the level of a primary
primary : {t : PyExpr} {u : List Lexeme} → AreExprs t u → 12 ≤ level t → IsExpr 12 t u
primary (g.single i) h = at_level 12 i h
primary (g.tuple at x others v w i is j e) h = let k = ap level j ∙ table.level-tuple (x ∷ others) in absurd (omega arith)

-- ---- imports

same_bytes : (xs ys : List ℕ) → pointwise nat_eq xs ys ≡ true → xs ≡ ys
same_bytes [] [] h = refl
same_bytes [] (y ∷ ys) h = absurd (cc)
same_bytes (x ∷ xs) [] h = absurd (cc)
same_bytes (x ∷ xs) (y ∷ ys) h =
    let b = and_both (nat_eq x y) (pointwise nat_eq xs ys) h in
    ap (λ x. x ∷ xs) (eqb-true x y b.0) ∙ ap (λ ys. y ∷ ys) (same_bytes xs ys b.1)

-- the word `myhdl`
abbrev Module : Type 0
Module = (of : Spot) × (of.text ≡ codes "myhdl")

module_true : (t : Lexeme) → is_module t ≡ true → (of : Module) × (t ≡ tok Name of.0)
unfolding is_module
module_true t e =
    let b = and_both (is Name t) (pointwise nat_eq t.text (codes "myhdl")) e in
    let m = is_true Name t b.0 in
    ((m.0, ap (λ t. t.text) (sym m.1) ∙ same_bytes _ _ b.1), m.1)

goes_name : (at between : Spot) → Goes AreNames (at.text ∷ []) (tok Name at ∷ tok comma between ∷ [])
goes_name at between others w i = st.more_names at between others w i refl refl

names_turn_yields : (found : Names) (u : List Lexeme) → Goes AreNames found u → Yields (q.names_turn found) (λ y v. Turned (Goes AreNames) AreNames y (u ++ v))
unfolding q.names_turn
names_turn_yields found u i = yields_text Name _ _ (λ at. yields_taken comma _ _
    (λ between. yields_pure _ _ (goes_then AreNames found (at.text ∷ []) u (tok Name at ∷ tok comma between ∷ []) i (goes_name at between)))
    (yields_pure _ _ (i (at.text ∷ []) (tok Name at ∷ []) (st.one_name at refl refl))))

-- names, maybe a comma, and the closing bracket
record InBrackets (names : Names) (u : List Lexeme) : Type 0 where
  taken : List Lexeme
  to : Spot
  are : AreNames names taken
  split : (u ≡ taken ++ tok rparen to ∷ []) ⊎ ((last : Spot) × (u ≡ taken ++ tok comma last ∷ tok rparen to ∷ []))

bracketed_names_turn_yields : (found : Names) (u : List Lexeme) → Goes AreNames found u → Yields (q.bracketed_names_turn found) (λ y v. Turned (Goes AreNames) InBrackets y (u ++ v))
unfolding q.bracketed_names_turn
bracketed_names_turn_yields found u i = yields_text Name _ _ (λ at.
    let names : AreNames (found ++ at.text ∷ []) (u ++ tok Name at ∷ []) = i (at.text ∷ []) (tok Name at ∷ []) (st.one_name at refl refl) in
    yields_eat_made (is comma) (tok comma) (is_true comma) _ _ _
    (λ last. yields_taken rparen _ _
    (λ to. yields_pure _ _ (record { taken = u ++ tok Name at ∷ []; to = to; are = names; split = inr (last, sym (append_assoc u (tok Name at ∷ []) (tok comma last ∷ tok rparen to ∷ []))) }))
    (yields_pure _ _ (goes_then AreNames found (at.text ∷ []) u (tok Name at ∷ tok comma last ∷ []) i (goes_name at last))))
    (yields_expect_made (is rparen) (tok rparen) (is_true rparen) _ _ (λ to. yields_pure _ _ (
    record { taken = u ++ tok Name at ∷ []; to = to; are = names; split = inl (sym (append_assoc u (tok Name at ∷ []) (tok rparen to ∷ []))) }))))

abbrev Small : ℕ → ℕ → Step → List Lexeme → Type 0
Small d line x u = Lined (FoundStep IsSmall (suc d)) line x u

module _ (d : ℕ) where
  imported_names_yields : (line : ℕ) (at at_import : Spot) (of : Module) → Yields (q.imported_names line) (λ x v. Small d line x (tok from_word at ∷ tok Name of.0 ∷ tok import_word at_import ∷ v))
  unfolding q.imported_names
  imported_names_yields line at at_import of = yields_eat_made (is lparen) (tok lparen) (is_true lparen) _ _ _
      (λ from. yields_made _ (λ names. (tree.Import line names, 1)) _ _ (yields_many q.bracketed_names_turn (Goes AreNames) InBrackets bracketed_names_turn_yields [] (λ others w i. i)) (λ names v b. record {
        holds = λ r h. record {
          is = elim b.split [
            | inl e ↦ st.import_in_brackets at of.0 at_import from b.to names b.taken of.1 b.are (ap (λ n. tree.Import n names) (sym h)) (ap (λ v. tok from_word at ∷ tok Name of.0 ∷ tok import_word at_import ∷ tok lparen from ∷ v) e)
            | inr e ↦ st.import_with_comma at of.0 at_import from e.0 b.to names b.taken of.1 b.are (ap (λ n. tree.Import n names) (sym h)) (ap (λ v. tok from_word at ∷ tok Name of.0 ∷ tok import_word at_import ∷ tok lparen from ∷ v) e.1)
          ];
          depth = sym (deep.depth-import line names);
          small = omega arith;
        };
      }))
      (yields_made _ (λ names. (tree.Import line names, 1)) _ _ (yields_many q.names_turn (Goes AreNames) AreNames names_turn_yields [] (λ others w i. i)) (λ names v i. record {
        holds = λ r h. record {
          is = st.import at of.0 at_import names v of.1 i (ap (λ n. tree.Import n names) (sym h)) refl;
          depth = sym (deep.depth-import line names);
          small = omega arith;
        };
      }))

  imported_yields : (line : ℕ) (at : Spot) → Yields (q.imported line) (λ x v. Small d line x (tok from_word at ∷ v))
  unfolding q.imported
  imported_yields line at = yields_expect_made is_module (λ (of : Module). tok Name of.0) module_true _ _ (λ of.
      yields_expect_made (is import_word) (tok import_word) (is_true import_word) _ _ (λ at_import.
      yields_eat_made (is star) (tok star) (is_true star) _ _ _
      (λ to. yields_pure _ _ (record {
        holds = λ r h. record { is = st.import_all at of.0 at_import to of.1 (ap (λ n. tree.ImportAll n) (sym h)) refl; depth = sym (deep.depth-importall line); small = omega arith };
      }))
      (imported_names_yields line at at_import of)))

  -- ---- statements that hold expressions

  valued_yields : (line : ℕ) (a : Deep) (v : List Lexeme) → FoundExprs d a v → Yields (q.valued d line a) (λ x w. Small d line x (v ++ w))
  unfolding q.valued q.augmented
  valued_yields line a v f = yields_if (nat_le 12 (level a.0)) _ _ _
      (λ h. yields_after_look augment_at (q.augment_by d line a) _ (λ ts. by_sign (leb-true _ _ h) (augment_at (first_of ts)) ts refl))
      (λ h. alone)
    where
      alone : Yields (pure (tree.Value line a.0, a.1 + 1)) (λ x w. Small d line x (v ++ w))
      alone = yields_stop (tree.Value line a.0, a.1 + 1) (Small d line) v (record {
        holds = λ r h. record {
          is = st.value a.0 f.are (ap (λ n. tree.Value n a.0) (line_of_exprs line a.0 v r f.are h));
          depth = omega (arith, deep.depth-value line a.0, f.depth);
          small = omega (arith, f.small);
        };
      })

      by_sign : 12 ≤ level a.0 → (o : Option Operator) (ts : List Lexeme) → augment_at (first_of ts) ≡ o → YieldsAt (q.augment_by d line a o) (λ x w. Small d line x (v ++ w)) ts
      by_sign high None ts e = alone.yields ts
      by_sign high (Some op) [] e = absurd (cc)
      by_sign high (Some op) (t ∷ ts) e = yields_after_take t (expr d 1 >>= (λ b. pure (tree.Augment line op a.0 b.0, max a.1 b.1 + 1))) _ ts (
          let at : Spot = record { text = t.text; line = t.line } in
          yields_made _ (λ b. (tree.Augment line op a.0 b.0, max a.1 b.1 + 1)) _ _ (expr_yields d 1 (omega arith)) (λ b w h. record {
            holds = λ r k. record {
              is = st.augment op t.kind at a.0 b.0 v w (augmented_of t.kind op e) (primary f.are high) h.is
                  (ap (λ n. tree.Augment n op a.0 b.0) (line_of_exprs line a.0 v ((t ∷ w) ++ r) f.are (ap (λ m. line_at (first_of m)) (sym (append_assoc v (t ∷ w) r)) ∙ k))) refl;
              depth = omega (arith, deep.depth-augment line op a.0 b.0, f.depth, h.depth);
              small = omega (arith, f.small, h.small);
            };
          }))

  expressed_yields : (line : ℕ) → Yields (q.expressed d line) (Small d line)
  unfolding q.expressed
  expressed_yields line = yields_bind _ _ _ _ (exprs_yields d) (λ a v f. yields_eat_made (is equals) (tok equals) (is_true equals) _ _ _
      (λ at. yields_made _ (λ b. (tree.Assign line a.0 b.0, max a.1 b.1 + 1)) _ _ (exprs_yields d) (λ b w h. record {
        holds = λ r k. record {
          is = st.assign at a.0 b.0 v w f.are h.are
              (ap (λ n. tree.Assign n a.0 b.0) (line_of_exprs line a.0 v ((tok equals at ∷ w) ++ r) f.are (ap (λ m. line_at (first_of m)) (sym (append_assoc v (tok equals at ∷ w) r)) ∙ k))) refl;
          depth = omega (arith, deep.depth-assign line a.0 b.0, f.depth, h.depth);
          small = omega (arith, f.small, h.small);
        };
      }))
      (valued_yields line a v f))

  returned_yields : (line : ℕ) (at : Spot) → Yields (q.returned d line) (λ x v. Small d line x (tok return_word at ∷ v))
  unfolding q.returned
  returned_yields line at = yields_after_look begins_at _ _ (λ ts. (yields_if (begins_at (first_of ts)) _ _ _
      (λ h. yields_made _ (λ a. (tree.Return line (Some a.0), a.1 + 1)) _ _ (exprs_yields d) (λ a v f. record {
        holds = λ r k. record {
          is = st.return_value at a.0 v f.are (ap (λ n. tree.Return n (Some a.0)) (sym k)) refl;
          depth = omega (arith, deep.depth-return line (Some a.0), f.depth);
          small = omega (arith, f.small);
        };
      }))
      (λ h. yields_pure _ _ (record {
        holds = λ r k. record { is = st.return at (ap (λ n. tree.Return n None) (sym k)) refl; depth = sym (deep.depth-return line None); small = omega arith };
      }))).yields ts)

  yielded_yields : (line : ℕ) (at : Spot) → Yields (q.yielded d line) (λ x v. Small d line x (tok yield_word at ∷ v))
  unfolding q.yielded
  yielded_yields line at = yields_made _ (λ a. (tree.Yield line a.0, a.1 + 1)) _ _ (exprs_yields d) (λ a v f. record {
    holds = λ r k. record {
      is = st.yield at a.0 v f.are (ap (λ n. tree.Yield n a.0) (sym k)) refl;
      depth = omega (arith, deep.depth-yield line a.0, f.depth);
      small = omega (arith, f.small);
    };
  })

  raised_yields : (line : ℕ) (at : Spot) → Yields (q.raised d line) (λ x v. Small d line x (tok raise_word at ∷ v))
  unfolding q.raised
  raised_yields line at = yields_made _ (λ a. (tree.Raise line a.0, a.1 + 1)) _ _ (expr_yields d 1 (omega arith)) (λ a v f. record {
    holds = λ r k. record {
      is = st.raise at a.0 v f.is (ap (λ n. tree.Raise n a.0) (sym k)) refl;
      depth = omega (arith, deep.depth-raise line a.0, f.depth);
      small = omega (arith, f.small);
    };
  })

  asserted_yields : (line : ℕ) (at : Spot) → Yields (q.asserted d line) (λ x v. Small d line x (tok assert_word at ∷ v))
  unfolding q.asserted
  asserted_yields line at = yields_bind _ _ _ _ (expr_yields d 1 (omega arith)) (λ a v f. yields_eat_made (is comma) (tok comma) (is_true comma) _ _ _
      (λ between. yields_text Str _ _ (λ text. yields_pure _ _ (record {
        holds = λ r k. record {
          is = st.assert_saying at between text a.0 v f.is (ap (λ n. tree.Assert n a.0 (Some (string_value text.text))) (sym k)) refl;
          depth = omega (arith, deep.depth-assert line a.0 (Some (string_value text.text)), f.depth);
          small = omega (arith, f.small);
        };
      })))
      (yields_stop (tree.Assert line a.0 None, a.1 + 1) (λ x m. Small d line x (tok assert_word at ∷ m)) v (record {
        holds = λ r k. record {
          is = st.assert at a.0 v f.is (ap (λ n. tree.Assert n a.0 None) (sym k)) refl;
          depth = omega (arith, deep.depth-assert line a.0 None, f.depth);
          small = omega (arith, f.small);
        };
      })))

  holding_yields : (line : ℕ) → Yields (q.holding d line) (Small d line)
  unfolding q.holding
  holding_yields line = yields_eat_made (is yield_word) (tok yield_word) (is_true yield_word) _ _ _ (yielded_yields line)
      (yields_eat_made (is raise_word) (tok raise_word) (is_true raise_word) _ _ _ (raised_yields line)
      (yields_eat_made (is assert_word) (tok assert_word) (is_true assert_word) _ _ _ (asserted_yields line) (expressed_yields line)))

  small_by_yields : (line : ℕ) → Yields (q.small_by d line) (Small d line)
  unfolding q.small_by
  small_by_yields line = yields_eat_made (is pass_word) (tok pass_word) (is_true pass_word) _ _ _
      (λ at. yields_pure _ _ (record { holds = λ r k. record { is = st.pass at (ap (λ n. tree.Pass n) (sym k)) refl; depth = sym (deep.depth-pass line); small = omega arith } }))
      (yields_eat_made (is break_word) (tok break_word) (is_true break_word) _ _ _
      (λ at. yields_pure _ _ (record { holds = λ r k. record { is = st.break at (ap (λ n. tree.Break n) (sym k)) refl; depth = sym (deep.depth-break line); small = omega arith } }))
      (yields_eat_made (is continue_word) (tok continue_word) (is_true continue_word) _ _ _
      (λ at. yields_pure _ _ (record { holds = λ r k. record { is = st.continue at (ap (λ n. tree.Continue n) (sym k)) refl; depth = sym (deep.depth-continue line); small = omega arith } }))
      (yields_eat_made (is return_word) (tok return_word) (is_true return_word) _ _ _ (returned_yields line)
      (yields_eat_made (is from_word) (tok from_word) (is_true from_word) _ _ _ (imported_yields line)
      (yields_if (nat_lt 0 d) _ _ _ (λ h. holding_yields line) (λ h. yields_refuse _))))))

  small_yields : Yields (q.small d) (FoundStep IsSmall (suc d))
  unfolding q.small
  small_yields = yields_lined (q.small_by d) (FoundStep IsSmall (suc d)) small_by_yields

  -- ---- a line of them

  goes_small : (at : Spot) (x : PyStmt) (v : List Lexeme) → IsSmall x v → Goes IsSimple (x ∷ []) (v ++ tok semicolon at ∷ [])
  goes_small at x v i others w j = rw (append_assoc v (tok semicolon at ∷ []) w) (st.then at x others v w i j refl refl)

  line_turn_yields : (body : Body) (u : List Lexeme) → GoesOn IsSimple (suc d) body u →
      Yields (q.line_turn d body) (λ y v. Turned (GoesOn IsSimple (suc d)) (FoundBody IsSimple (suc d)) y (u ++ v))
  unfolding q.line_turn
  line_turn_yields body u i = yields_bind _ _ _ _ small_yields (λ x v f.
      let deeper : max body.1 x.1 ≡ text_depth (body.0 ++ x.0 ∷ []) = omega (arith, deepest-more stmt_depth body.0 x.0, i.depth, f.depth) in
      let low : max body.1 x.1 ≤ suc d = omega (arith, i.small, f.small) in
      yields_eat_made (is semicolon) (tok semicolon) (is_true semicolon) _ _ _
      (λ at. yields_taken Newline _ _
      (λ to. yields_pure _ _ (record { are = i.goes (x.0 ∷ []) (v ++ tok semicolon at ∷ tok Newline to ∷ []) (st.ended_twice at to x.0 v f.is refl refl); depth = deeper; small = low }))
      (yields_pure _ _ (record { goes = goes_then IsSimple body.0 (x.0 ∷ []) u (v ++ tok semicolon at ∷ []) i.goes (goes_small at x.0 v f.is); depth = deeper; small = low })))
      (yields_expect_made (is Newline) (tok Newline) (is_true Newline) _ _ (λ to. yields_pure _ _ (
      record { are = i.goes (x.0 ∷ []) (v ++ tok Newline to ∷ []) (st.ended to x.0 v f.is refl refl); depth = deeper; small = low }))))

pub simple_yields : (d : ℕ) → Yields (q.simple d) (FoundBody IsSimple d)
unfolding q.simple
simple_yields zero = yields_refuse _
simple_yields (suc d) = yields_many (q.line_turn d) (GoesOn IsSimple (suc d)) (FoundBody IsSimple (suc d)) (line_turn_yields d) ([], 0)
    (record { goes = λ others w i. i; depth = refl; small = omega arith })
