-- What is read as an expression is one by the grammar, with its depth: each rule is its constructor.
use Rattle.std.proofs.Common.{◌≡◌, ℕ, zero, suc, ◌==◌, ◌≤◌, ◌+◌, max, Bool, true, false, ◌&&◌, nat_le, nat_lt, if◌then◌else◌, List, [], ◌∷◌, ◌++◌, append_assoc, Option, Some, None, refl, sym, ap, ◌∙◌, arith, subst, cond, rules}
use Rattle.std.proofs.lemmas.Bool.{eqb-true, leb-true, ltb-false}
use Rattle.mh_reader.specs.Reader.{◌>>=◌, ◌>>◌, pure, refuse, first_of, take}
use Rattle.mh_reader.proofs.Yields.{Yields, YieldsAt, Turned, yields_pure, yields_refuse, yields_if, yields_if_at, yields_bind, yields_made, yields_stop, yields_want, yields_expect_made, yields_eat_made, yields_after_look, yields_after_take, yields_many, yields_many_after}
use Rattle.mh_pytok.specs.Lexeme.{Lexeme}
use Rattle.mh_pytok.specs.declared.token.Tok.{Tok}
use Rattle.mh_pytok.specs.declared.token.Tok.TheVariants.{Name, Number, Str, Keyword}
use Rattle.mh_pytree.specs.declared.expression.Operator.{Operator}
use Rattle.mh_pytree.specs.declared.expression.PyExpr.{PyExpr, the_lemmas}
use Rattle.mh_pytree.specs.declared.expression.PyExpr.TheVariants as tree
use Rattle.mh_pytree.specs.declared.expression.Argument.{Argument}
use Rattle.mh_pytree.specs.Depth.{expr_depth, argument_depth}
use Rattle.mh_pytree.proofs.Depths as deep
use Rattle.mh_pyparse.specs.declared.infix.Infix.{Infix}
use Rattle.mh_pyparse.specs.declared.infix.Infix.TheVariants.{Binary, Attribute, Call, Index}
use Rattle.mh_pyparse.specs.declared.infix.Prefix.{Prefix}
use Rattle.mh_pyparse.specs.declared.infix.Prefix.TheVariants.{Not, Unary}
use Rattle.mh_pyparse.specs.Signs.{for_word, in_word, equals, lparen, rparen, lbracket, rbracket, comma, colon, op_level, left_level}
use Rattle.mh_pyparse.specs.Grammar as g
use Rattle.mh_pyparse.specs.Grammar.{Spot, tok, argument, IsExpr, AreItems, AreArguments, IsArgument, AreExprs}
use Rattle.mh_pyparse.specs.Operators.{binds, needs, infix_kind, prefix_level, prefix_kind, level, name_of}
use Rattle.mh_pyparse.specs.Reading as r
use Rattle.mh_pyparse.specs.Reading.{Read, Deep, Row, Arguments, is, leaf_of, leaf_by, word_leaf, infix_at, prefix_at, begins_at}
use Rattle.mh_pyparse.proofs.Levels.{op-most}
use Rattle.mh_pyparse.proofs.Tables as table
use Rattle.mh_pyparse.proofs.Tables.{is_true, infix_kind_of, prefix_kind_of}
use Rattle.mh_pyparse.proofs.SoundRows.{yields_text, yields_taken, yields_closing, WithCommas, Partly, Listed, Closed, row_begun, row_more, row_ends, row_ends_after, row_closed, row_closed_after}

-- an expression that was found in the tokens, at most d deep
pub record Found (d least : ℕ) (x : Deep) (u : List Lexeme) : Type 0 where
  pub is : IsExpr least x.0 u
  pub depth : x.1 ≡ expr_depth x.0
  pub small : x.1 ≤ d

-- an expression, or a tuple without brackets
pub record FoundExprs (d : ℕ) (x : Deep) (u : List Lexeme) : Type 0 where
  pub are : AreExprs x.0 u
  pub depth : x.1 ≡ expr_depth x.0
  pub small : x.1 ≤ d

-- ---- a tree may stand wherever its level may

at_most : (k n : ℕ) (t c : PyExpr) → k ≤ level t → t ≡ c → level c ≡ n → k ≤ n
at_most k n t c h j e = subst (λ m. k ≤ m) (ap level j ∙ e) h

pub at_level : {l : ℕ} {t : PyExpr} {u : List Lexeme} (k : ℕ) → IsExpr l t u → k ≤ level t → IsExpr k t u
at_level k (g.name at m j e) h = g.name at (at_most k 12 _ _ h j (table.level-name _)) j e
at_level k (g.number at m j e) h = g.number at (at_most k 12 _ _ h j (table.level-number _)) j e
at_level k (g.string at m j e) h = g.string at (at_most k 12 _ _ h j (table.level-string _)) j e
at_level k (g.truth at m j e) h = g.truth at (at_most k 12 _ _ h j table.level-true) j e
at_level k (g.falsehood at m j e) h = g.falsehood at (at_most k 12 _ _ h j table.level-false) j e
at_level k (g.nothing at m j e) h = g.nothing at (at_most k 12 _ _ h j table.level-none) j e
at_level k (g.group at to a v m i j e) h = g.group at to a v (at_most k 12 _ _ h j (table.level-group _)) i j e
at_level k (g.empty at to m j e) h = g.empty at to (at_most k 12 _ _ h j (table.level-bracketed _)) j e
at_level k (g.bracketed at between to x others v w m i is j e) h = g.bracketed at between to x others v w (at_most k 12 _ _ h j (table.level-bracketed _)) i is j e
at_level k (g.list at to xs v m is j e) h = g.list at to xs v (at_most k 12 _ _ h j (table.level-list _)) is j e
at_level k (g.comprehension at at_for at_name at_in to a b v w m i i' j e) h = g.comprehension at at_for at_name at_in to a b v w (at_most k 12 _ _ h j (table.level-comprehension _ _ _)) i i' j e
at_level k (g.negation at a v m i j e) h = g.negation at a v (at_most k 3 _ _ h j (table.level-not _)) i j e
at_level k (g.unary sign at a v m i j e) h = g.unary sign at a v (at_most k 11 _ _ h j (table.level-unary _ _)) i j e
at_level k (g.binary op at a b v w m i i' j e) h = g.binary op at a b v w (at_most k (op_level op) _ _ h j (table.level-binary _ _ _)) i i' j e
at_level k (g.attribute at at_name a v m i j e) h = g.attribute at at_name a v (at_most k 12 _ _ h j (table.level-attribute _ _)) i j e
at_level k (g.call at to f xs v w m i is j e) h = g.call at to f xs v w (at_most k 12 _ _ h j (table.level-call _ _)) i is j e
at_level k (g.index at to a b v w m i i' j e) h = g.index at to a b v w (at_most k 12 _ _ h j (table.level-index _ _)) i i' j e
at_level k (g.slice_from at between to a b v w m i i' j e) h = g.slice_from at between to a b v w (at_most k 12 _ _ h j (table.level-slice _ _ None)) i i' j e
at_level k (g.slice at between to a b c v w x m i i' i'' j e) h = g.slice at between to a b c v w x (at_most k 12 _ _ h j (table.level-slice _ _ (Some c))) i i' i'' j e
at_level k (g.whole at between to a v m i j e) h = g.whole at between to a v (at_most k 12 _ _ h j (table.level-whole _)) i j e

-- ---- a name by itself

nameless : (t c : PyExpr) (n : List ℕ) → name_of t ≡ Some n → t ≡ c → name_of c ≡ None → ⊥
nameless t c n h j e = let q = sym h ∙ ap name_of j ∙ e in absurd (cc)

-- a tree that is a name alone is of one token
name_alone : {l : ℕ} {t : PyExpr} {u : List Lexeme} (n : List ℕ) → IsExpr l t u → name_of t ≡ Some n → (at : Spot) × (u ≡ tok Name at ∷ []) × (at.text ≡ n)
name_alone n (g.name at m j e) h = let q : ◌≡◌ {A = Option (List ℕ)} (Some at.text) (Some n) = sym (search (rules, the_lemmas)) ∙ ap name_of (sym j) ∙ h in (at, e, cc)
name_alone n (g.number at m j e) h = absurd (nameless _ _ n h j (search (rules, the_lemmas)))
name_alone n (g.string at m j e) h = absurd (nameless _ _ n h j (search (rules, the_lemmas)))
name_alone n (g.truth at m j e) h = absurd (nameless _ _ n h j (search (rules, the_lemmas)))
name_alone n (g.falsehood at m j e) h = absurd (nameless _ _ n h j (search (rules, the_lemmas)))
name_alone n (g.nothing at m j e) h = absurd (nameless _ _ n h j (search (rules, the_lemmas)))
name_alone n (g.group at to a v m i j e) h = absurd (nameless _ _ n h j (search (rules, the_lemmas)))
name_alone n (g.empty at to m j e) h = absurd (nameless _ _ n h j (search (rules, the_lemmas)))
name_alone n (g.bracketed at between to x others v w m i is j e) h = absurd (nameless _ _ n h j (search (rules, the_lemmas)))
name_alone n (g.list at to xs v m is j e) h = absurd (nameless _ _ n h j (search (rules, the_lemmas)))
name_alone n (g.comprehension at at_for at_name at_in to a b v w m i i' j e) h = absurd (nameless _ _ n h j (search (rules, the_lemmas)))
name_alone n (g.negation at a v m i j e) h = absurd (nameless _ _ n h j (search (rules, the_lemmas)))
name_alone n (g.unary sign at a v m i j e) h = absurd (nameless _ _ n h j (search (rules, the_lemmas)))
name_alone n (g.binary op at a b v w m i i' j e) h = absurd (nameless _ _ n h j (search (rules, the_lemmas)))
name_alone n (g.attribute at at_name a v m i j e) h = absurd (nameless _ _ n h j (search (rules, the_lemmas)))
name_alone n (g.call at to f xs v w m i is j e) h = absurd (nameless _ _ n h j (search (rules, the_lemmas)))
name_alone n (g.index at to a b v w m i i' j e) h = absurd (nameless _ _ n h j (search (rules, the_lemmas)))
name_alone n (g.slice_from at between to a b v w m i i' j e) h = absurd (nameless _ _ n h j (search (rules, the_lemmas)))
name_alone n (g.slice at between to a b c v w x m i i' i'' j e) h = absurd (nameless _ _ n h j (search (rules, the_lemmas)))
name_alone n (g.whole at between to a v m i j e) h = absurd (nameless _ _ n h j (search (rules, the_lemmas)))

-- ---- words and literals

some_is : (a b : PyExpr) → ◌≡◌ {A = Option PyExpr} (Some a) (Some b) → a ≡ b
some_is a b e = cc

-- a row of a table of tests
test_row : {A : Type 0} (P : Type 0) (n m : ℕ) (x y : A) (next : Option A) → (if n == m then Some x else next) ≡ Some y → (n ≡ m → x ≡ y → P) → (next ≡ Some y → P) → P
test_row {A} P n m x y next e here later = go (n == m) refl e
  where
    go : (b : Bool) → (n == m) ≡ b → cond b (Some x) next ≡ Some y → P
    go true h k = let q : x ≡ y = cc in here (eqb-true n m h) q
    go false h k = later k

module _ (d least : ℕ) (low : least ≤ 12) where
  alone : (t a : PyExpr) (u : List Lexeme) → IsExpr least t u → expr_depth t ≡ 1 → t ≡ a → Found (suc d) least (a, 1) u
  alone t a u i e h = subst (λ a. Found (suc d) least (a, 1) u) h (record { is = i; depth = sym e; small = omega arith })

  word_found : (n : ℕ) (at : Spot) (a : PyExpr) → word_leaf n ≡ Some a → Found (suc d) least (a, 1) (tok (Keyword n) at ∷ [])
  unfolding word_leaf
  word_found n at a e =
      let spell = λ (n : ℕ). tok (Keyword n) at ∷ [] in
      test_row _ n 1 _ a _ e (λ h q. alone _ a _ (g.falsehood at low refl (ap spell h)) deep.depth-false q) (λ e.
      test_row _ n 2 _ a _ e (λ h q. alone _ a _ (g.nothing at low refl (ap spell h)) deep.depth-none q) (λ e.
      test_row _ n 3 _ a _ e (λ h q. alone _ a _ (g.truth at low refl (ap spell h)) deep.depth-true q) (λ e. absurd (cc))))

  leaf_found : (k : Tok) (at : Spot) (a : PyExpr) → leaf_by k at.text ≡ Some a → Found (suc d) least (a, 1) (tok k at ∷ [])
  leaf_found Name at a e = alone _ a _ (g.name at low refl refl) (deep.depth-name at.text) (some_is _ a e)
  leaf_found Number at a e = alone _ a _ (g.number at low refl refl) (deep.depth-number _) (some_is _ a e)
  leaf_found Str at a e = alone _ a _ (g.string at low refl refl) (deep.depth-str _) (some_is _ a e)
  leaf_found (Keyword n) at a e = word_found n at a e
  leaf_found _ at a e = absurd (cc)

  leaf_yields : Yields r.leaf (Found (suc d) least)
  unfolding r.leaf leaf_of
  leaf_yields = yields_made _ (λ a. (a, 1)) _ _ (yields_want _ _ (λ t a e. leaf_found t.kind (record { text = t.text; line = t.line }) a e)) (λ a u f. f)

-- ---- the parts of expressions

-- an argument that was found
record Given (d : ℕ) (a : Argument × ℕ) (u : List Lexeme) : Type 0 where
  is : IsArgument a.0 u
  depth : a.1 ≡ argument_depth a.0
  small : a.1 ≤ d

depth_argument : (name : Option (List ℕ)) (a : PyExpr) → argument_depth (argument name a) ≡ expr_depth a
depth_argument name a = search (rules, the_lemmas, deep.depth-argument)

items_rules : WithCommas (λ x v. IsExpr 1 x v) AreItems
items_rules = record {
  none = g.none refl refl;
  last = λ x v i. g.last x i refl;
  more = λ at x others v w i is. g.more at x others v w i is refl refl;
}

arguments_rules : WithCommas IsArgument AreArguments
arguments_rules = record {
  none = g.none_given refl refl;
  last = λ x v i. g.last_given x i refl;
  more = λ at x others v w i is. g.more_given at x others v w i is refl refl;
}

op_low : (op : Operator) → op_level op + 1 ≤ 12
op_low op = omega (arith, op-most op)

pub and_both : (a b : Bool) → (a && b) ≡ true → (a ≡ true) × (b ≡ true)
and_both true true e = (refl, refl)
and_both true false e = absurd (cc)
and_both false b e = absurd (cc)

abbrev Begun : ℕ → List PyExpr → Row → List Lexeme → Type 0
Begun d before s u = Partly expr_depth AreItems d before s u

abbrev Ended : ℕ → List PyExpr → Tok → Row → List Lexeme → Type 0
Ended d before close s u = Closed expr_depth AreItems d before close s u

module _ (sub : ℕ → Read Deep) (d : ℕ) (below : (least : ℕ) → least ≤ 12 → Yields (sub least) (Found d least)) where
  items_turn_yields : (close : Tok) (before : List PyExpr) (s : Row) (u : List Lexeme) → Begun d before s u →
      Yields (r.items_turn sub close s) (λ y v. Turned (Begun d before) (Ended d before close) y (u ++ v))
  unfolding r.items_turn
  items_turn_yields close before s u i = yields_eat_made (is close) (tok close) (is_true close) _ _ _
      (λ to. yields_pure _ _ (row_closed expr_depth _ AreItems items_rules d before close s u i to))
      (yields_bind _ _ _ _ (below 1 (omega arith)) (λ x v f. yields_closing close _ _
      (λ at. row_more expr_depth _ AreItems items_rules d before s u i x.0 x.1 v f.is f.depth f.small at)
      (λ to. row_closed_after expr_depth _ AreItems items_rules d before close s u i x.0 x.1 v f.is f.depth f.small to)))

  -- expressions after the first one, up to the closing sign
  items_yields : (close : Tok) (a : Deep) → a.1 ≡ expr_depth a.0 → a.1 ≤ d → Yields (r.items sub close (a.0 ∷ [], a.1)) (Ended d (a.0 ∷ []) close)
  unfolding r.items
  items_yields close a e h = yields_many (r.items_turn sub close) (Begun d (a.0 ∷ [])) (Ended d (a.0 ∷ []) close) (items_turn_yields close (a.0 ∷ []))
      (a.0 ∷ [], a.1) (row_begun expr_depth _ AreItems items_rules d (a.0 ∷ []) a.1 (omega (arith, e)) h)

  argument_yields : (x : Deep) (v : List Lexeme) → Found d 1 x v → (o : Option (List ℕ)) → name_of x.0 ≡ o → Yields (r.argument_by sub x o) (λ a w. Given d a (v ++ w))
  argument_yields x v f None e = yields_stop (argument None x.0, x.1) (Given d) v (record { is = g.plain x.0 f.is refl; depth = omega (arith, depth_argument None x.0, f.depth); small = f.small })
  argument_yields x v f (Some n) e =
      let m = name_alone n f.is e in
      yields_eat_made (is equals) (tok equals) (is_true equals) _ _ _
      (λ at. yields_made _ (λ a. (argument (Some n) a.0, a.1)) _ _ (below 1 (omega arith)) (λ a w h. record {
        is = g.named m.0 at a.0 w h.is (ap (λ n. argument (Some n) a.0) (sym m.2)) (ap (λ v. v ++ tok equals at ∷ w) m.1);
        depth = omega (arith, depth_argument (Some n) a.0, h.depth);
        small = h.small;
      }))
      (yields_stop (argument None x.0, x.1) (Given d) v (record { is = g.plain x.0 f.is refl; depth = omega (arith, depth_argument None x.0, f.depth); small = f.small }))

  arguments_turn_yields : (s : Arguments) (u : List Lexeme) → Partly argument_depth AreArguments d [] s u →
      Yields (r.arguments_turn sub s) (λ y v. Turned (Partly argument_depth AreArguments d []) (Closed argument_depth AreArguments d [] rparen) y (u ++ v))
  unfolding r.arguments_turn
  arguments_turn_yields s u i = yields_eat_made (is rparen) (tok rparen) (is_true rparen) _ _ _
      (λ to. yields_pure _ _ (row_closed argument_depth _ AreArguments arguments_rules d [] rparen s u i to))
      (yields_bind _ _ _ _ (below 1 (omega arith)) (λ x v f. yields_bind _ _ _ _ (argument_yields x v f (name_of x.0) refl) (λ a w h. yields_closing rparen _ _
      (λ at. subst (λ m. Partly argument_depth AreArguments d [] (s.0 ++ a.0 ∷ [], max s.1 a.1) (u ++ m)) (append_assoc v w (tok comma at ∷ []))
      (row_more argument_depth _ AreArguments arguments_rules d [] s u i a.0 a.1 (v ++ w) h.is h.depth h.small at))
      (λ to. subst (λ m. Closed argument_depth AreArguments d [] rparen (s.0 ++ a.0 ∷ [], max s.1 a.1) (u ++ m)) (append_assoc v w (tok rparen to ∷ []))
      (row_closed_after argument_depth _ AreArguments arguments_rules d [] rparen s u i a.0 a.1 (v ++ w) h.is h.depth h.small to)))))

  module _ (least : ℕ) (low : least ≤ 12) where
    -- ---- what begins an expression

    bracketed_yields : (at between : Spot) (a : Deep) (v : List Lexeme) → Found d 1 a v → Yields (r.bracketed sub a) (λ x w. Found (suc d) least x (tok lparen at ∷ (v ++ tok comma between ∷ w)))
    unfolding r.bracketed
    bracketed_yields at between a v f = yields_made _ (λ xs. (tree.Bracketed xs.0, xs.1 + 1)) _ _ (items_yields rparen a f.depth f.small) (λ xs w c. record {
      is = g.bracketed at between c.to a.0 c.listed.all v c.taken low f.is c.listed.are (ap (λ xs. tree.Bracketed xs) c.listed.form) (ap (λ w. tok lparen at ∷ (v ++ tok comma between ∷ w)) c.split);
      depth = omega (arith, deep.depth-bracketed xs.0, c.listed.deep);
      small = omega (arith, c.listed.small);
    })

    round_yields : (at : Spot) → Yields (r.round sub) (λ x v. Found (suc d) least x (tok lparen at ∷ v))
    unfolding r.round
    round_yields at = yields_eat_made (is rparen) (tok rparen) (is_true rparen) _ _ _
        (λ to. yields_pure _ _ (record { is = g.empty at to low refl refl; depth = sym (deep.depth-bracketed []); small = omega arith }))
        (yields_bind _ _ _ _ (below 1 (omega arith)) (λ a v f. yields_eat_made (is comma) (tok comma) (is_true comma) _ _ _
        (λ between. bracketed_yields at between a v f)
        (yields_expect_made (is rparen) (tok rparen) (is_true rparen) _ _ (λ to. yields_pure _ _ (record {
          is = g.group at to a.0 v low f.is refl refl;
          depth = omega (arith, deep.depth-group a.0, f.depth);
          small = omega (arith, f.small);
        })))))

    comprehension_yields : (at at_for : Spot) (a : Deep) (v : List Lexeme) → Found d 1 a v → Yields (r.comprehension sub a) (λ x w. Found (suc d) least x (tok lbracket at ∷ (v ++ tok for_word at_for ∷ w)))
    unfolding r.comprehension
    comprehension_yields at at_for a v f = yields_text Name _ _ (λ at_name. yields_expect_made (is in_word) (tok in_word) (is_true in_word) _ _ (λ at_in.
        yields_bind _ _ _ _ (below 1 (omega arith)) (λ b w h. yields_expect_made (is rbracket) (tok rbracket) (is_true rbracket) _ _ (λ to. yields_pure _ _ (record {
          is = g.comprehension at at_for at_name at_in to a.0 b.0 v w low f.is h.is refl refl;
          depth = omega (arith, deep.depth-comprehension a.0 at_name.text b.0, f.depth, h.depth);
          small = omega (arith, f.small, h.small);
        })))))

    list_yields : (at : Spot) (a : Deep) (v : List Lexeme) → Found d 1 a v → Yields (r.list sub a) (λ x w. Found (suc d) least x (tok lbracket at ∷ (v ++ w)))
    unfolding r.list
    list_yields at a v f = yields_eat_made (is comma) (tok comma) (is_true comma) _ _ _
        (λ between. yields_made _ (λ xs. (tree.List xs.0, xs.1 + 1)) _ _ (items_yields rbracket a f.depth f.small) (λ xs w c. record {
          is = g.list at c.to xs.0 (v ++ tok comma between ∷ c.taken) low (g.more between a.0 c.listed.all v c.taken f.is c.listed.are c.listed.form refl) refl
              (ap (λ w. tok lbracket at ∷ (v ++ tok comma between ∷ w)) c.split ∙ ap (λ w. tok lbracket at ∷ w) (sym (append_assoc v (tok comma between ∷ c.taken) (tok rbracket c.to ∷ []))));
          depth = omega (arith, deep.depth-list xs.0, c.listed.deep);
          small = omega (arith, c.listed.small);
        }))
        (yields_expect_made (is rbracket) (tok rbracket) (is_true rbracket) _ _ (λ to. yields_pure _ _ (record {
          is = g.list at to (a.0 ∷ []) v low (g.last a.0 f.is refl) refl refl;
          depth = omega (arith, deep.depth-list (a.0 ∷ []), f.depth);
          small = omega (arith, f.small);
        })))

    square_yields : (at : Spot) → Yields (r.square sub) (λ x v. Found (suc d) least x (tok lbracket at ∷ v))
    unfolding r.square
    square_yields at = yields_eat_made (is rbracket) (tok rbracket) (is_true rbracket) _ _ _
        (λ to. yields_pure _ _ (record { is = g.list at to [] [] low (g.none refl refl) refl refl; depth = sym (deep.depth-list []); small = omega arith }))
        (yields_bind _ _ _ _ (below 1 (omega arith)) (λ a v f. yields_eat_made (is for_word) (tok for_word) (is_true for_word) _ _ _
        (λ at_for. comprehension_yields at at_for a v f)
        (list_yields at a v f)))

    operand_yields : (p : Prefix) (at : Spot) → least ≤ prefix_level p → Yields (r.operand sub p) (λ x v. Found (suc d) least x (tok (prefix_kind p) at ∷ v))
    unfolding r.operand
    operand_yields Not at h = yields_made _ (λ a. (tree.Not a.0, a.1 + 1)) _ _ (below 3 (omega arith)) (λ a v f. record {
      is = g.negation at a.0 v h f.is refl refl;
      depth = omega (arith, deep.depth-not a.0, f.depth);
      small = omega (arith, f.small);
    })
    operand_yields (Unary sign) at h = yields_made _ (λ a. (tree.Unary sign a.0, a.1 + 1)) _ _ (below 11 (omega arith)) (λ a v f. record {
      is = g.unary sign at a.0 v h f.is refl refl;
      depth = omega (arith, deep.depth-unary sign a.0, f.depth);
      small = omega (arith, f.small);
    })

    prefix_by_yields : (o : Option Prefix) (ts : List Lexeme) → prefix_at (first_of ts) ≡ o → YieldsAt (r.prefix_by sub d least o) (Found (suc d) least) ts
    prefix_by_yields None ts e = (leaf_yields d least low).yields ts
    prefix_by_yields (Some p) [] e = absurd (cc)
    prefix_by_yields (Some p) (t ∷ ts) e = yields_if_at (nat_lt 0 d && nat_le least (prefix_level p)) (take >> r.operand sub p) refuse _ (t ∷ ts)
        (λ h. yields_after_take t (r.operand sub p) _ ts (
        let at : Spot = record { text = t.text; line = t.line } in
        subst (λ k. Yields (r.operand sub p) (λ x v. Found (suc d) least x (tok k at ∷ v))) (sym (prefix_kind_of t.kind p e))
        (operand_yields p at (leb-true _ _ (and_both (nat_lt 0 d) (nat_le least (prefix_level p)) h).1))))
        (λ h. (yields_refuse _).yields (t ∷ ts))

    prefix_yields : Yields (r.prefix sub d least) (Found (suc d) least)
    unfolding r.prefix
    prefix_yields = yields_eat_made (is lparen) (tok lparen) (is_true lparen) _ _ _ round_yields
        (yields_eat_made (is lbracket) (tok lbracket) (is_true lbracket) _ _ _ square_yields
        (yields_after_look prefix_at (r.prefix_by sub d least) _ (λ ts. prefix_by_yields (prefix_at (first_of ts)) ts refl)))

    -- ---- what follows an expression, left of the tokens u

    module _ (left : Deep) (u : List Lexeme) (f : Found (suc d) least left u) (room : left.1 ≤ d) where
      sliced_yields : (at between : Spot) (b : Deep) (v : List Lexeme) → 12 ≤ level left.0 → Found d 1 b v →
          Yields (r.sliced sub left b) (λ x w. Found (suc d) least x (u ++ tok lbracket at ∷ (v ++ tok colon between ∷ w)))
      unfolding r.sliced
      sliced_yields at between b v high h = yields_eat_made (is rbracket) (tok rbracket) (is_true rbracket) _ _ _
          (λ to. yields_pure _ _ (record {
            is = g.slice_from at between to left.0 b.0 u v low (at_level 12 f.is high) h.is refl refl;
            depth = omega (arith, deep.depth-slice left.0 b.0 None, f.depth, h.depth);
            small = omega (arith, room, h.small);
          }))
          (yields_bind _ _ _ _ (below 1 (omega arith)) (λ c w k. yields_expect_made (is rbracket) (tok rbracket) (is_true rbracket) _ _ (λ to. yields_pure _ _ (record {
            is = g.slice at between to left.0 b.0 c.0 u v w low (at_level 12 f.is high) h.is k.is refl refl;
            depth = omega (arith, deep.depth-slice left.0 b.0 (Some c.0), f.depth, h.depth, k.depth);
            small = omega (arith, room, h.small, k.small);
          }))))

      indexed_yields : (at : Spot) → 12 ≤ level left.0 → Yields (r.indexed sub left) (λ x w. Found (suc d) least x (u ++ tok lbracket at ∷ w))
      unfolding r.indexed
      indexed_yields at high = yields_eat_made (is colon) (tok colon) (is_true colon) _ _ _
          (λ between. yields_expect_made (is rbracket) (tok rbracket) (is_true rbracket) _ _ (λ to. yields_pure _ _ (record {
            is = g.whole at between to left.0 u low (at_level 12 f.is high) refl refl;
            depth = omega (arith, deep.depth-whole left.0, f.depth);
            small = omega (arith, room);
          })))
          (yields_bind _ _ _ _ (below 1 (omega arith)) (λ b v h. yields_eat_made (is colon) (tok colon) (is_true colon) _ _ _
          (λ between. sliced_yields at between b v high h)
          (yields_expect_made (is rbracket) (tok rbracket) (is_true rbracket) _ _ (λ to. yields_pure _ _ (record {
            is = g.index at to left.0 b.0 u v low (at_level 12 f.is high) h.is refl refl;
            depth = omega (arith, deep.depth-index left.0 b.0, f.depth, h.depth);
            small = omega (arith, room, h.small);
          })))))

      apply_yields : (i : Infix) (at : Spot) → least ≤ binds i → needs i ≤ level left.0 → Yields (r.apply sub left i) (λ x w. Found (suc d) least x (u ++ tok (infix_kind i) at ∷ w))
      unfolding r.apply
      apply_yields (Binary op) at fits high = yields_made _ (λ b. (tree.Binary op left.0 b.0, max left.1 b.1 + 1)) _ _ (below (op_level op + 1) (op_low op)) (λ b w h. record {
        is = g.binary op at left.0 b.0 u w fits (at_level (left_level op) f.is high) h.is refl refl;
        depth = omega (arith, deep.depth-binary op left.0 b.0, f.depth, h.depth);
        small = omega (arith, room, h.small);
      })
      apply_yields Attribute at fits high = yields_text Name _ _ (λ at_name. yields_pure _ _ (record {
        is = g.attribute at at_name left.0 u low (at_level 12 f.is high) refl refl;
        depth = omega (arith, deep.depth-attribute left.0 at_name.text, f.depth);
        small = omega (arith, room);
      }))
      apply_yields Call at fits high = yields_made _ (λ xs. (tree.Call left.0 xs.0, max left.1 xs.1 + 1)) _ _
          (yields_many (r.arguments_turn sub) (Partly argument_depth AreArguments d []) (Closed argument_depth AreArguments d [] rparen) arguments_turn_yields
          ([], 0) (row_begun argument_depth _ AreArguments arguments_rules d [] 0 refl (omega arith))) (λ xs w c. record {
            is = g.call at c.to left.0 xs.0 u c.taken low (at_level 12 f.is high) (subst (λ xs. AreArguments xs c.taken) (sym c.listed.form) c.listed.are) refl (ap (λ w. u ++ tok lparen at ∷ w) c.split);
            depth = omega (arith, deep.depth-call left.0 xs.0, f.depth, c.listed.deep);
            small = omega (arith, room, c.listed.small);
          })
      apply_yields Index at fits high = indexed_yields at high

    module _ (left : Deep) (u : List Lexeme) (f : Found (suc d) least left u) where
      goes_on_yields : (o : Option Infix) (ts : List Lexeme) → infix_at (first_of ts) ≡ o →
          YieldsAt (r.goes_on_by sub d least left o) (λ y v. Turned (Found (suc d) least) (Found (suc d) least) y (u ++ v)) ts
      unfolding r.applied r.admits
      goes_on_yields None ts e = (yields_stop (left, false) (Turned (Found (suc d) least) (Found (suc d) least)) u f).yields ts
      goes_on_yields (Some i) [] e = absurd (cc)
      goes_on_yields (Some i) (t ∷ ts) e = yields_if_at (r.admits least left.0 i) (if nat_lt d left.1 then refuse else r.applied sub left i) (pure (left, false)) _ (t ∷ ts)
          (λ h. yields_if_at (nat_lt d left.1) refuse (r.applied sub left i) _ (t ∷ ts)
          (λ k. (yields_refuse _).yields (t ∷ ts))
          (λ k. yields_after_take t (r.apply sub left i >>= (λ x. pure (x, true))) _ ts (
          let at : Spot = record { text = t.text; line = t.line } in
          let fits = and_both (nat_le least (binds i)) (nat_le (needs i) (level left.0)) h in
          yields_made (r.apply sub left i) (λ x. (x, true)) _ _ (apply_yields left u f (ltb-false _ _ k) i at (leb-true _ _ fits.0) (leb-true _ _ fits.1))
          (λ x w p. subst (λ k. Found (suc d) least x (u ++ tok k at ∷ w)) (sym (infix_kind_of t.kind i e)) p))))
          (λ h. (yields_stop (left, false) (Turned (Found (suc d) least) (Found (suc d) least)) u f).yields (t ∷ ts))

      operate_turn_yields : Yields (r.operate_turn sub d least left) (λ y v. Turned (Found (suc d) least) (Found (suc d) least) y (u ++ v))
      unfolding r.operate_turn
      operate_turn_yields = yields_after_look infix_at (r.goes_on_by sub d least left) _ (λ ts. goes_on_yields (infix_at (first_of ts)) ts refl)

    whole_yields : Yields (r.whole sub d least) (Found (suc d) least)
    unfolding r.whole r.operate
    whole_yields = yields_bind _ _ _ _ prefix_yields (λ a u f.
        yields_many_after (r.operate_turn sub d least) (Found (suc d) least) (Found (suc d) least) operate_turn_yields a u f)

  -- ---- a tuple without brackets

  tuple_turn_yields : (before : List PyExpr) (s : Row) (u : List Lexeme) → Begun d before s u →
      Yields (r.tuple_turn sub s) (λ y v. Turned (Begun d before) (Listed expr_depth AreItems d before) y (u ++ v))
  unfolding r.tuple_turn
  tuple_turn_yields before s u i = yields_after_look begins_at _ _ (λ ts. (yields_if (begins_at (first_of ts)) _ _ _
      (λ h. yields_bind _ _ _ _ (below 1 (omega arith)) (λ x v f. yields_taken comma _ _
      (λ at. yields_pure _ _ (row_more expr_depth _ AreItems items_rules d before s u i x.0 x.1 v f.is f.depth f.small at))
      (yields_stop _ (λ y m. Turned (Begun d before) (Listed expr_depth AreItems d before) y (u ++ m)) v
      (row_ends_after expr_depth _ AreItems items_rules d before s u i x.0 x.1 v f.is f.depth f.small))))
      (λ h. yields_stop (s, false) (Turned (Begun d before) (Listed expr_depth AreItems d before)) u (row_ends expr_depth _ AreItems items_rules d before s u i))).yields ts)

  tuple_yields : (a : Deep) (u : List Lexeme) → Found (suc d) 1 a u → Yields (r.tuple sub d a) (λ x w. FoundExprs (suc d) x (u ++ w))
  unfolding r.tuple
  tuple_yields a u f =
      let alone : FoundExprs (suc d) a u = record { are = g.single f.is; depth = f.depth; small = f.small } in
      yields_if (nat_lt d a.1) _ _ _
      (λ h. yields_stop a (FoundExprs (suc d)) u alone)
      (λ h. yields_eat_made (is comma) (tok comma) (is_true comma) _ _ _
      (λ at. yields_made _ (λ xs. (tree.Tuple xs.0, xs.1 + 1)) _ _
      (yields_many (r.tuple_turn sub) (Begun d (a.0 ∷ [])) (Listed expr_depth AreItems d (a.0 ∷ [])) (tuple_turn_yields (a.0 ∷ []))
      (a.0 ∷ [], a.1) (row_begun expr_depth _ AreItems items_rules d (a.0 ∷ []) a.1 (omega (arith, f.depth)) (ltb-false _ _ h)))
      (λ xs w c. record {
        are = g.tuple at a.0 c.all u w f.is c.are (ap (λ xs. tree.Tuple xs) c.form) refl;
        depth = omega (arith, deep.depth-tuple xs.0, c.deep);
        small = omega (arith, c.small);
      }))
      (yields_stop a (FoundExprs (suc d)) u alone))

-- ---- what is read is an expression

pub expr_yields : (d least : ℕ) → least ≤ 12 → Yields (r.expr d least) (Found d least)
unfolding r.expr
expr_yields zero least low = yields_refuse _
expr_yields (suc d) least low = whole_yields (r.expr d) d (expr_yields d) least low

pub exprs_yields : (d : ℕ) → Yields (r.exprs d) (FoundExprs d)
unfolding r.exprs
exprs_yields zero = yields_refuse _
exprs_yields (suc d) = yields_bind _ _ _ _ (expr_yields (suc d) 1 (omega arith)) (λ a u f. tuple_yields (r.expr d) d (expr_yields d) a u f)
