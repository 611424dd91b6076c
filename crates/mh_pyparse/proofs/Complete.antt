-- What is in the grammar of expressions is read.
use Rattle.std.proofs.Common.{◌≡◌, ℕ, zero, suc, ◌+◌, ◌≤◌, max, Bool, true, false, nat_lt, List, [], ◌∷◌, ◌++◌, append_assoc, Ok, refl, sym, ap, ◌∙◌, arith, subst, pos}
use Rattle.std.proofs.lemmas.Bool.{le-ltb}
use Rattle.mh_reader.specs.Reader.{many}
use Rattle.mh_reader.proofs.Steps.{chain_at, if_true, if_false}
use Rattle.mh_pytok.specs.Lexeme.{Lexeme}
use Rattle.mh_pytok.specs.Numbers.{number_value}
use Rattle.mh_pytok.specs.Strings.{string_value}
use Rattle.mh_pytok.specs.declared.token.Tok.TheVariants.{Name, Number, Str}
use Rattle.mh_pytree.specs.declared.expression.PyExpr.{PyExpr}
use Rattle.mh_pytree.specs.declared.expression.PyExpr.TheVariants as tree
use Rattle.mh_pytree.specs.declared.expression.Argument.{Argument}
use Rattle.mh_pytree.specs.Depth.{expr_depth}
use Rattle.mh_pytree.proofs.Depths.{depth-name, depth-number, depth-str, depth-true, depth-false, depth-none, depth-tuple}
use Rattle.mh_pyparse.specs.declared.infix.Prefix.TheVariants.{Not, Unary}
use Rattle.mh_pyparse.specs.Signs.{true_word, false_word, none_word, comma}
use Rattle.mh_pyparse.specs.Grammar.{Spot, tok, IsExpr, name, number, string, truth, falsehood, nothing, group, empty, bracketed, list, comprehension, negation, unary, binary, attribute, call, index, slice_from, slice, whole, AreItems, none, last, more, AreArguments, none_given, last_given, more_given, IsArgument, plain, named, AreExprs, single, tuple}
use Rattle.mh_pyparse.specs.Operators.{prefix_of, level}
use Rattle.mh_pyparse.specs.Reading as read
use Rattle.mh_pyparse.specs.Reading.{Read, Deep, is, leaf_of, word_leaf, begins_at, expr, exprs}
use Rattle.mh_pyparse.proofs.Tables.{levels}
use Rattle.mh_pyparse.proofs.First.{Stops, Quiet, begins_expr, begins_argument}
use Rattle.mh_pyparse.proofs.Levels.{depths}
pub use Rattle.mh_pyparse.proofs.Levels.{depth-some}
use Rattle.mh_pyparse.proofs.CompleteSteps.{eaten, unseen, Reading_of, Known, settle, part, read_leaf, read_prefixed}
use Rattle.mh_pyparse.proofs.CompleteItems.{comma_stops, Items_of, items_none, items_last, items_more, Tuple_of, tuple_none, tuple_last, tuple_more, Argument_of, argument_plain, argument_named, Arguments_of, arguments_none, arguments_last, arguments_more}
use Rattle.mh_pyparse.proofs.CompleteBrackets.{read_group, read_empty, read_bracketed, List_of, list_none, list_last, list_more, read_list, read_comprehension, read_binary, read_attribute, read_call, read_index, read_slice_from, read_slice, read_whole}

-- the level that an expression was read for is no more than its own
pub level_of : {l : ℕ} {t : PyExpr} {u : List Lexeme} → IsExpr l t u → l ≤ level t
level_of (name at h i j) = rw i (simp levels h)
level_of (number at h i j) = rw i (simp levels h)
level_of (string at h i j) = rw i (simp levels h)
level_of (truth at h i j) = rw i (simp levels h)
level_of (falsehood at h i j) = rw i (simp levels h)
level_of (nothing at h i j) = rw i (simp levels h)
level_of (group at to a v h d i j) = rw i (simp levels h)
level_of (empty at to h i j) = rw i (simp levels h)
level_of (bracketed at between to x others v w h c d i j) = rw i (simp levels h)
level_of (list at to xs v h d i j) = rw i (simp levels h)
level_of (comprehension at at_for at_name at_in to a b v w h c d i j) = rw i (simp levels h)
level_of (negation at a v h d i j) = rw i (simp levels h)
level_of (unary sign at a v h d i j) = rw i (simp levels h)
level_of (binary op at a b v w h c d i j) = rw i (simp levels h)
level_of (attribute at at_name a v h c i j) = rw i (simp levels h)
level_of (call at to f xs v w h c d i j) = rw i (simp levels h)
level_of (index at to a b v w h c d i j) = rw i (simp levels h)
level_of (slice_from at between to a b v w h c d i j) = rw i (simp levels h)
level_of (slice at between to a b e v w x h c d f i j) = rw i (simp levels h)
level_of (whole at between to a v h c i j) = rw i (simp levels h)

-- ---- names and literals

read_name : (at : Spot) → Reading_of (tree.Name at.text) (tok Name at ∷ [])
unfolding leaf_of prefix_of
read_name at = read_leaf Name at (tree.Name at.text) refl refl refl refl (depth-name at.text)

read_number : (at : Spot) → Reading_of (tree.Number (pos (number_value at.text))) (tok Number at ∷ [])
unfolding leaf_of prefix_of
read_number at = read_leaf Number at (tree.Number (pos (number_value at.text))) refl refl refl refl (depth-number (pos (number_value at.text)))

read_string : (at : Spot) → Reading_of (tree.Str (string_value at.text)) (tok Str at ∷ [])
unfolding leaf_of prefix_of
read_string at = read_leaf Str at (tree.Str (string_value at.text)) refl refl refl refl (depth-str (string_value at.text))

read_true : (at : Spot) → Reading_of tree.True (tok true_word at ∷ [])
unfolding leaf_of prefix_of word_leaf
read_true at = read_leaf true_word at tree.True refl refl refl refl depth-true

read_false : (at : Spot) → Reading_of tree.False (tok false_word at ∷ [])
unfolding leaf_of prefix_of word_leaf
read_false at = read_leaf false_word at tree.False refl refl refl refl depth-false

read_none : (at : Spot) → Reading_of tree.None (tok none_word at ∷ [])
unfolding leaf_of prefix_of word_leaf
read_none at = read_leaf none_word at tree.None refl refl refl refl depth-none

-- ---- the induction over the grammar

known : {l : ℕ} {t : PyExpr} {u : List Lexeme} → IsExpr l t u → Reading_of t u → Known l t u
known i h = record { reads = h; high = level_of i; begun = begins_expr i }

known_name : (at : Spot) → Known 1 (tree.Name at.text) (tok Name at ∷ [])
known_name at = known (name at (omega arith) refl refl) (read_name at)

moved : {A : Type 0} (P : A → List Lexeme → Type 0) {t t' : A} {u u' : List Lexeme} → t ≡ t' → u ≡ u' → P t' u' → P t u
moved P {t} {t'} {u} {u'} e f h = subst (λ t. P t u) (sym e) (subst (λ u. P t' u) (sym f) h)

mutual
  pub reads : {l : ℕ} {t : PyExpr} {u : List Lexeme} → IsExpr l t u → Reading_of t u
  reads (name at h i j) = moved Reading_of i j (read_name at)
  reads (number at h i j) = moved Reading_of i j (read_number at)
  reads (string at h i j) = moved Reading_of i j (read_string at)
  reads (truth at h i j) = moved Reading_of i j (read_true at)
  reads (falsehood at h i j) = moved Reading_of i j (read_false at)
  reads (nothing at h i j) = moved Reading_of i j (read_none at)
  reads (group at to a v h d i j) = moved Reading_of i j (read_group at to a v (known d (reads d)))
  reads (empty at to h i j) = moved Reading_of i j (read_empty at to)
  reads (bracketed at between to x others v w h c d i j) = moved Reading_of i j (read_bracketed at between to x others v w (known c (reads c)) (reads_items d))
  reads (list at to xs v h d i j) = moved Reading_of i j (read_list at to xs v (reads_list d))
  reads (comprehension at at_for at_name at_in to a b v w h c d i j) = moved Reading_of i j (read_comprehension at at_for at_name at_in to a b v w (known c (reads c)) (known d (reads d)))
  reads (negation at a v h d i j) = moved Reading_of i j (read_prefixed Not at a v (known d (reads d)))
  reads (unary sign at a v h d i j) = moved Reading_of i j (read_prefixed (Unary sign) at a v (known d (reads d)))
  reads (binary op at a b v w h c d i j) = moved Reading_of i j (read_binary op at a b v w (known c (reads c)) (known d (reads d)))
  reads (attribute at at_name a v h c i j) = moved Reading_of i j (read_attribute at at_name a v (known c (reads c)))
  reads (call at to f xs v w h c d i j) = moved Reading_of i j (read_call at to f xs v w (known c (reads c)) (reads_arguments d))
  reads (index at to a b v w h c d i j) = moved Reading_of i j (read_index at to a b v w (known c (reads c)) (known d (reads d)))
  reads (slice_from at between to a b v w h c d i j) = moved Reading_of i j (read_slice_from at between to a b v w (known c (reads c)) (known d (reads d)))
  reads (slice at between to a b e v w x h c d f i j) = moved Reading_of i j (read_slice at between to a b e v w x (known c (reads c)) (known d (reads d)) (known f (reads f)))
  reads (whole at between to a v h c i j) = moved Reading_of i j (read_whole at between to a v (known c (reads c)))

  reads_list : {xs : List PyExpr} {u : List Lexeme} → AreItems xs u → List_of xs u
  reads_list (none i j) = moved List_of i j list_none
  reads_list {xs} {u} (last x d i) = moved List_of i refl (list_last x u (known d (reads d)))
  reads_list (more at x others v w c d i j) = moved List_of i j (list_more at x others v w (known c (reads c)) (reads_items d))

  reads_items : {xs : List PyExpr} {u : List Lexeme} → AreItems xs u → Items_of xs u
  reads_items (none i j) = moved Items_of i j items_none
  reads_items {xs} {u} (last x d i) = moved Items_of i refl (items_last x u (known d (reads d)))
  reads_items (more at x others v w c d i j) = moved Items_of i j (items_more at x others v w (known c (reads c)) (reads_items d))

  reads_arguments : {xs : List Argument} {u : List Lexeme} → AreArguments xs u → Arguments_of xs u
  reads_arguments (none_given i j) = moved Arguments_of i j arguments_none
  reads_arguments {xs} {u} (last_given x d i) = moved Arguments_of i refl (arguments_last x u (begins_argument d) (reads_argument d))
  reads_arguments (more_given at x others v w c d i j) = moved Arguments_of i j (arguments_more at x others v w (begins_argument c) (reads_argument c) (reads_arguments d))

  reads_argument : {x : Argument} {u : List Lexeme} → IsArgument x u → Argument_of x u
  reads_argument {x} {u} (plain a d i) = moved Argument_of i refl (argument_plain a u (known d (reads d)))
  reads_argument (named at_name at a v d i j) = moved Argument_of i j (argument_named at_name at a v (known d (reads d)) (known_name at_name))

tuples : {xs : List PyExpr} {u : List Lexeme} → AreItems xs u → Tuple_of xs u
tuples (none i j) = moved Tuple_of i j tuple_none
tuples {xs} {u} (last x d i) = moved Tuple_of i refl (tuple_last x u (known d (reads d)))
tuples (more at x others v w c d i j) = moved Tuple_of i j (tuple_more at x others v w (known c (reads c)) (tuples d))

-- ---- the laws

-- an expression is read, where no operator stands behind it that it would take
pub read_expr : {l : ℕ} {t : PyExpr} {u : List Lexeme} → IsExpr l t u → (d : ℕ) → expr_depth t ≤ d → (r : List Lexeme) → Stops l r →
    expr d l (u ++ r) ≡ Ok ((t, expr_depth t), r)
read_expr i d h r s = settle (known i (reads i)) d h r s

-- what comes after the first expression where no comma follows, and where one does
no_tuple : (d : ℕ) (a : Deep) (r : List Lexeme) → Quiet r → read.tuple (expr d) d a r ≡ Ok (a, r)
unfolding read.tuple
no_tuple d a r q = go (nat_lt d a.1) refl
  where
    go : (b : Bool) → nat_lt d a.1 ≡ b → read.tuple (expr d) d a r ≡ Ok (a, r)
    go true e = if_true (nat_lt d a.1) _ _ r e
    go false e = if_false (nat_lt d a.1) _ _ r e ∙ unseen comma r _ q.no_comma

more_tuple : (d : ℕ) (at : Spot) (x : PyExpr) (others : List PyExpr) (w r : List Lexeme) → expr_depth x ≤ d → depths others ≤ d → Tuple_of others w → Quiet r →
    read.tuple (expr d) d (x, expr_depth x) (tok comma at ∷ (w ++ r)) ≡ Ok ((tree.Tuple (x ∷ others), max (expr_depth x) (depths others) + 1), r)
unfolding read.tuple
more_tuple d at x others w r h k reads_others q =
    if_false (nat_lt d (expr_depth x)) _ _ (tok comma at ∷ (w ++ r)) (le-ltb d (expr_depth x) h)
    ∙ eaten comma at (w ++ r) _ refl
    ∙ chain_at (many (read.tuple_turn (expr d)) (x ∷ [], expr_depth x)) _ (w ++ r) r (x ∷ others, max (expr_depth x) (depths others)) (reads_others d k (x ∷ [], expr_depth x) r q)

one_by : {t : PyExpr} {u : List Lexeme} → Known 1 t u → (d : ℕ) → expr_depth t ≤ d → (r : List Lexeme) → Quiet r → exprs d (u ++ r) ≡ Ok ((t, expr_depth t), r)
unfolding exprs
one_by {t} {u} a zero h r q = absurd (omega (arith, depth-some t))
one_by {t} {u} a (suc d) h r q = part a (suc d) h r q.stops _ ∙ no_tuple d (t, expr_depth t) r q

tuple_by : (at : Spot) (x : PyExpr) (others : List PyExpr) (v w : List Lexeme) → Known 1 x v → Tuple_of others w →
    (d : ℕ) → expr_depth (tree.Tuple (x ∷ others)) ≤ d → (r : List Lexeme) → Quiet r → exprs d ((v ++ tok comma at ∷ w) ++ r) ≡ Ok ((tree.Tuple (x ∷ others), expr_depth (tree.Tuple (x ∷ others))), r)
unfolding exprs
tuple_by at x others v w a reads_others zero h r q = absurd (omega (arith, depth-tuple (x ∷ others)))
tuple_by at x others v w a reads_others (suc d) h r q =
    let rest = tok comma at ∷ (w ++ r) in
    ap (exprs (suc d)) (append_assoc v (tok comma at ∷ w) r)
    ∙ part a (suc d) (omega (arith, depth-tuple (x ∷ others))) rest (comma_stops at (w ++ r)) _
    ∙ more_tuple d at x others w r (omega (arith, depth-tuple (x ∷ others))) (omega (arith, depth-tuple (x ∷ others))) reads_others q
    ∙ ap (λ n. Ok ((tree.Tuple (x ∷ others), n), r)) (omega (arith, depth-tuple (x ∷ others)))

abbrev Reads_exprs : PyExpr → List Lexeme → Type 0
Reads_exprs t u = (d : ℕ) → expr_depth t ≤ d → (r : List Lexeme) → Quiet r → exprs d (u ++ r) ≡ Ok ((t, expr_depth t), r)

-- so is a tuple without brackets, where nothing stands behind it that it goes on with
pub read_exprs : {t : PyExpr} {u : List Lexeme} → AreExprs t u → (d : ℕ) → expr_depth t ≤ d → (r : List Lexeme) → Quiet r →
    exprs d (u ++ r) ≡ Ok ((t, expr_depth t), r)
read_exprs (single i) = one_by (known i (reads i))
read_exprs (tuple at x others v w c d i j) = moved Reads_exprs i j (tuple_by at x others v w (known c (reads c)) (tuples d))

-- and so is one expression in their place
pub read_one : {l : ℕ} {t : PyExpr} {u : List Lexeme} → IsExpr l t u → 1 ≤ l → (d : ℕ) → expr_depth t ≤ d → (r : List Lexeme) → Quiet r →
    exprs d (u ++ r) ≡ Ok ((t, expr_depth t), r)
read_one i k = one_by (record { reads = reads i; high = omega (arith, level_of i); begun = begins_expr i })
