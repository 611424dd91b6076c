-- What stands in brackets is read: groups, tuples and lists, and indices behind a tree.
use Rattle.std.proofs.Common.{◌≡◌, ℕ, suc, ◌+◌, ◌<◌, ◌≤◌, max, List, [], ◌∷◌, ◌++◌, append_assoc, Some, None, Ok, refl, ap, ◌∙◌, arith, subst}
use Rattle.mh_reader.specs.Reader.{want, many}
use Rattle.mh_reader.proofs.Steps.{chain_at, want_yes}
use Rattle.mh_pytok.specs.Lexeme.{Lexeme}
use Rattle.mh_pytok.specs.declared.token.Tok.TheVariants.{Name}
use Rattle.mh_pytree.specs.declared.expression.Operator.{Operator}
use Rattle.mh_pytree.specs.declared.expression.PyExpr.{PyExpr}
use Rattle.mh_pytree.specs.declared.expression.PyExpr.TheVariants as tree
use Rattle.mh_pytree.specs.declared.expression.Argument.{Argument}
use Rattle.mh_pytree.specs.Depth.{expr_depth}
use Rattle.mh_pytree.proofs.Depths.{depth-group, depth-bracketed, depth-list, depth-comprehension, depth-binary, depth-attribute, depth-call, depth-index, depth-slice, depth-whole}
use Rattle.mh_pyparse.specs.declared.infix.Infix.TheVariants.{Binary, Attribute, Call, Index}
use Rattle.mh_pyparse.specs.Signs.{for_word, in_word, lparen, rparen, lbracket, rbracket, comma, colon, dot, spelled, op_level, left_level}
use Rattle.mh_pyparse.specs.Grammar.{Spot, tok}
use Rattle.mh_pyparse.specs.Operators.{level}
use Rattle.mh_pyparse.specs.Reading as read
use Rattle.mh_pyparse.specs.Reading.{Read, Deep, is, text_if}
use Rattle.mh_pyparse.proofs.Tables.{level-binary, level-attribute, level-call, level-index, level-slice, level-whole}
use Rattle.mh_pyparse.proofs.First.{closes_stops, closes-rparen, closes-rbracket, closes-colon, closes-for}
use Rattle.mh_pyparse.proofs.Levels.{depths, argument_depths, takes-binary, binds-needs}
use Rattle.mh_pyparse.proofs.CompleteSteps.{eaten, not_eaten, expected, Reading_of, Known, part, not_there, begun, prefix_round, prefix_square, extended}
use Rattle.mh_pyparse.proofs.CompleteItems.{comma_stops, Items_of, items_after, Arguments_of}

-- ---- round brackets

-- what was read after `(` is the whole
rounded : (t : PyExpr) (at to : Spot) (w : List Lexeme) (n : ℕ) → ((d : ℕ) → expr_depth t ≤ suc d → (r : List Lexeme) → read.round (read.expr d) (w ++ tok rparen to ∷ r) ≡ Ok ((t, n), r)) →
    n ≡ expr_depth t → Reading_of t (tok lparen at ∷ (w ++ tok rparen to ∷ []))
rounded t at to w n h e d least l k r s =
    begun t d least n (tok lparen at ∷ ((w ++ tok rparen to ∷ []) ++ r)) r
    (prefix_round (read.expr d) d least at ((w ++ tok rparen to ∷ []) ++ r)
    ∙ ap (read.round (read.expr d)) (append_assoc w (tok rparen to ∷ []) r)
    ∙ h d k r)
    e

pub read_group : (at to : Spot) (a : PyExpr) (v : List Lexeme) → Known 1 a v → Reading_of (tree.Group a) (tok lparen at ∷ (v ++ tok rparen to ∷ []))
unfolding read.round
read_group at to a v h = rounded (tree.Group a) at to v (expr_depth a + 1) inner (omega (arith, depth-group a))
  where
    inner : (d : ℕ) → expr_depth (tree.Group a) ≤ suc d → (r : List Lexeme) → read.round (read.expr d) (v ++ tok rparen to ∷ r) ≡ Ok ((tree.Group a, expr_depth a + 1), r)
    inner d k r =
        not_there h rparen closes-rparen.no_start (tok rparen to ∷ r) _
        ∙ part h d (omega (arith, depth-group a)) (tok rparen to ∷ r) (closes_stops rparen to r 1 closes-rparen.no_infix) _
        ∙ not_eaten comma rparen to r _ refl
        ∙ expected rparen to r _ refl

pub read_empty : (at to : Spot) → Reading_of (tree.Bracketed []) (tok lparen at ∷ tok rparen to ∷ [])
unfolding read.round
read_empty at to = rounded (tree.Bracketed []) at to [] 1 (λ d k r. eaten rparen to r _ refl) (omega (arith, depth-bracketed []))

pub read_bracketed : (at between to : Spot) (x : PyExpr) (others : List PyExpr) (v w : List Lexeme) → Known 1 x v → Items_of others w →
    Reading_of (tree.Bracketed (x ∷ others)) (tok lparen at ∷ (v ++ tok comma between ∷ (w ++ tok rparen to ∷ [])))
unfolding read.round read.bracketed
read_bracketed at between to x others v w h more =
    subst (λ m. Reading_of (tree.Bracketed (x ∷ others)) (tok lparen at ∷ m)) (append_assoc v (tok comma between ∷ w) (tok rparen to ∷ []))
    (rounded (tree.Bracketed (x ∷ others)) at to (v ++ tok comma between ∷ w) (max (expr_depth x) (depths others) + 1) inner (omega (arith, depth-bracketed (x ∷ others))))
  where
    inner : (d : ℕ) → expr_depth (tree.Bracketed (x ∷ others)) ≤ suc d → (r : List Lexeme) →
        read.round (read.expr d) ((v ++ tok comma between ∷ w) ++ tok rparen to ∷ r) ≡ Ok ((tree.Bracketed (x ∷ others), max (expr_depth x) (depths others) + 1), r)
    inner d k r =
        let tail = w ++ tok rparen to ∷ r in
        let rest = tok comma between ∷ tail in
        ap (read.round (read.expr d)) (append_assoc v (tok comma between ∷ w) (tok rparen to ∷ r))
        ∙ not_there h rparen closes-rparen.no_start rest _
        ∙ part h d (omega (arith, depth-bracketed (x ∷ others))) rest (comma_stops between tail) _
        ∙ eaten comma between tail _ refl
        ∙ chain_at (read.items (read.expr d) rparen (x ∷ [], expr_depth x)) _ tail r (x ∷ others, max (expr_depth x) (depths others))
        (items_after x others w more d (omega (arith, depth-bracketed (x ∷ others))) rparen closes-rparen to r)

-- ---- square brackets

-- what was read after `[` is the whole
squared : (t : PyExpr) (at to : Spot) (w : List Lexeme) (n : ℕ) → ((d : ℕ) → expr_depth t ≤ suc d → (r : List Lexeme) → read.square (read.expr d) (w ++ tok rbracket to ∷ r) ≡ Ok ((t, n), r)) →
    n ≡ expr_depth t → Reading_of t (tok lbracket at ∷ (w ++ tok rbracket to ∷ []))
squared t at to w n h e d least l k r s =
    begun t d least n (tok lbracket at ∷ ((w ++ tok rbracket to ∷ []) ++ r)) r
    (prefix_square (read.expr d) d least at ((w ++ tok rbracket to ∷ []) ++ r)
    ∙ ap (read.square (read.expr d)) (append_assoc w (tok rbracket to ∷ []) r)
    ∙ h d k r)
    e

-- the items xs, spelled w, are read in square brackets
abbrev pub List_of : List PyExpr → List Lexeme → Type 0
List_of xs w = (d : ℕ) → depths xs ≤ d → (to : Spot) (r : List Lexeme) → read.square (read.expr d) (w ++ tok rbracket to ∷ r) ≡ Ok ((tree.List xs, depths xs + 1), r)

pub list_none : List_of [] []
unfolding read.square
list_none d k to r = eaten rbracket to r _ refl

pub list_last : (x : PyExpr) (w : List Lexeme) → Known 1 x w → List_of (x ∷ []) w
unfolding read.square read.list
list_last x w h d k to r =
    let rest = tok rbracket to ∷ r in
    not_there h rbracket closes-rbracket.no_start rest _
    ∙ part h d (omega arith) rest (closes_stops rbracket to r 1 closes-rbracket.no_infix) _
    ∙ not_eaten for_word rbracket to r _ refl
    ∙ not_eaten comma rbracket to r _ refl
    ∙ expected rbracket to r _ refl
    ∙ ap (λ n. Ok ((tree.List (x ∷ []), n), r)) (omega arith)

pub list_more : (at : Spot) (x : PyExpr) (others : List PyExpr) (v w : List Lexeme) → Known 1 x v → Items_of others w → List_of (x ∷ others) (v ++ tok comma at ∷ w)
unfolding read.square read.list
list_more at x others v w h more d k to r =
    let tail = w ++ tok rbracket to ∷ r in
    let rest = tok comma at ∷ tail in
    ap (read.square (read.expr d)) (append_assoc v (tok comma at ∷ w) (tok rbracket to ∷ r))
    ∙ not_there h rbracket closes-rbracket.no_start rest _
    ∙ part h d (omega arith) rest (comma_stops at tail) _
    ∙ not_eaten for_word comma at tail _ refl
    ∙ eaten comma at tail _ refl
    ∙ chain_at (read.items (read.expr d) rbracket (x ∷ [], expr_depth x)) _ tail r (x ∷ others, max (expr_depth x) (depths others))
    (items_after x others w more d (omega arith) rbracket closes-rbracket to r)

pub read_list : (at to : Spot) (xs : List PyExpr) (v : List Lexeme) → List_of xs v → Reading_of (tree.List xs) (tok lbracket at ∷ (v ++ tok rbracket to ∷ []))
read_list at to xs v h = squared (tree.List xs) at to v (depths xs + 1) (λ d k r. h d (omega (arith, depth-list xs)) to r) (omega (arith, depth-list xs))

pub read_comprehension : (at at_for at_name at_in to : Spot) (a b : PyExpr) (v w : List Lexeme) → Known 1 a v → Known 1 b w →
    Reading_of (tree.Comprehension a at_name.text b) (tok lbracket at ∷ (v ++ tok for_word at_for ∷ tok Name at_name ∷ tok in_word at_in ∷ (w ++ tok rbracket to ∷ [])))
unfolding read.square read.comprehension is text_if
read_comprehension at at_for at_name at_in to a b v w ha hb =
    subst (λ m. Reading_of t (tok lbracket at ∷ m)) (append_assoc v front (tok rbracket to ∷ []))
    (squared t at to (v ++ front) (max (expr_depth a) (expr_depth b) + 1) inner (omega (arith, depth-comprehension a at_name.text b)))
  where
    t : PyExpr
    t = tree.Comprehension a at_name.text b

    front : List Lexeme
    front = tok for_word at_for ∷ tok Name at_name ∷ tok in_word at_in ∷ w

    inner : (d : ℕ) → expr_depth t ≤ suc d → (r : List Lexeme) → read.square (read.expr d) ((v ++ front) ++ tok rbracket to ∷ r) ≡ Ok ((t, max (expr_depth a) (expr_depth b) + 1), r)
    inner d k r =
        let rest = tok rbracket to ∷ r in
        let after_for = tok Name at_name ∷ tok in_word at_in ∷ (w ++ rest) in
        ap (read.square (read.expr d)) (append_assoc v front rest)
        ∙ not_there ha rbracket closes-rbracket.no_start (tok for_word at_for ∷ after_for) _
        ∙ part ha d (omega (arith, depth-comprehension a at_name.text b)) (tok for_word at_for ∷ after_for) (closes_stops for_word at_for after_for 1 closes-for.no_infix) _
        ∙ eaten for_word at_for after_for _ refl
        ∙ chain_at (want (text_if Name)) _ after_for (tok in_word at_in ∷ (w ++ rest)) at_name.text (want_yes (text_if Name) (tok Name at_name) _ at_name.text refl)
        ∙ expected in_word at_in (w ++ rest) _ refl
        ∙ part hb d (omega (arith, depth-comprehension a at_name.text b)) rest (closes_stops rbracket to r 1 closes-rbracket.no_infix) _
        ∙ expected rbracket to r _ refl

-- ---- what stands behind a tree

pub read_binary : (op : Operator) (at : Spot) (a b : PyExpr) (v w : List Lexeme) → Known (left_level op) a v → Known (op_level op + 1) b w →
    Reading_of (tree.Binary op a b) (v ++ tok (spelled op) at ∷ w)
unfolding read.apply
read_binary op at a b v w ha hb d least l k r s =
    ap (read.expr (suc d) least) (append_assoc v (tok (spelled op) at ∷ w) r)
    ∙ extended ha (tree.Binary op a b) (max (expr_depth a) (expr_depth b) + 1) (Binary op) at d least (w ++ r) r
    (omega (arith, level-binary op a b)) (omega (arith, binds-needs (Binary op), ha.high, level-binary op a b)) ha.high (omega (arith, depth-binary op a b))
    (part hb d (omega (arith, depth-binary op a b)) r (λ i e. let below = s i e in omega (arith, takes-binary op a b)) _)
    (omega (arith, depth-binary op a b))

pub read_attribute : (at at_name : Spot) (a : PyExpr) (v : List Lexeme) → Known 12 a v → Reading_of (tree.Attribute a at_name.text) (v ++ tok dot at ∷ tok Name at_name ∷ [])
unfolding read.apply is text_if
read_attribute at at_name a v h d least l k r s =
    ap (read.expr (suc d) least) (append_assoc v (tok dot at ∷ tok Name at_name ∷ []) r)
    ∙ extended h (tree.Attribute a at_name.text) (expr_depth a + 1) Attribute at d least (tok Name at_name ∷ r) r
    (omega (arith, level-attribute a at_name.text)) (omega (arith, h.high, level-attribute a at_name.text)) h.high (omega (arith, depth-attribute a at_name.text))
    (chain_at (want (text_if Name)) _ (tok Name at_name ∷ r) r at_name.text (want_yes (text_if Name) (tok Name at_name) r at_name.text refl))
    (omega (arith, depth-attribute a at_name.text))

pub read_call : (at to : Spot) (f : PyExpr) (xs : List Argument) (v w : List Lexeme) → Known 12 f v → Arguments_of xs w →
    Reading_of (tree.Call f xs) (v ++ tok lparen at ∷ (w ++ tok rparen to ∷ []))
unfolding read.apply
read_call at to f xs v w h given d least l k r s =
    let rest = tok rparen to ∷ r in
    ap (read.expr (suc d) least) (append_assoc v (tok lparen at ∷ (w ++ tok rparen to ∷ [])) r ∙ ap (λ m. v ++ tok lparen at ∷ m) (append_assoc w (tok rparen to ∷ []) r))
    ∙ extended h (tree.Call f xs) (max (expr_depth f) (max 0 (argument_depths xs)) + 1) Call at d least (w ++ rest) r
    (omega (arith, level-call f xs)) (omega (arith, h.high, level-call f xs)) h.high (omega (arith, depth-call f xs))
    (chain_at (many (read.arguments_turn (read.expr d)) ([], 0)) _ (w ++ rest) r (xs, max 0 (argument_depths xs)) (given d (omega (arith, depth-call f xs)) ([], 0) to r))
    (omega (arith, depth-call f xs))

-- an index or a slice: what was read after `[` is the whole
indexed : {a : PyExpr} {v : List Lexeme} → Known 12 a v → (t : PyExpr) (at to : Spot) (w : List Lexeme) (n : ℕ) → level t ≡ 12 → expr_depth a < expr_depth t →
    ((d : ℕ) → expr_depth t ≤ suc d → (r : List Lexeme) → read.indexed (read.expr d) (a, expr_depth a) (w ++ tok rbracket to ∷ r) ≡ Ok ((t, n), r)) →
    n ≡ expr_depth t → Reading_of t (v ++ tok lbracket at ∷ (w ++ tok rbracket to ∷ []))
unfolding read.apply
indexed {a} {v} known t at to w n high less h e d least l k r s =
    let rest = tok rbracket to ∷ r in
    ap (read.expr (suc d) least) (append_assoc v (tok lbracket at ∷ (w ++ tok rbracket to ∷ [])) r ∙ ap (λ m. v ++ tok lbracket at ∷ m) (append_assoc w (tok rbracket to ∷ []) r))
    ∙ extended known t n Index at d least (w ++ rest) r (omega arith) (omega (arith, known.high)) known.high (omega arith) (h d k r) e

pub read_index : (at to : Spot) (a b : PyExpr) (v w : List Lexeme) → Known 12 a v → Known 1 b w → Reading_of (tree.Index a b) (v ++ tok lbracket at ∷ (w ++ tok rbracket to ∷ []))
unfolding read.indexed
read_index at to a b v w ha hb = indexed ha (tree.Index a b) at to w (max (expr_depth a) (expr_depth b) + 1) (level-index a b) (omega (arith, depth-index a b)) inner (omega (arith, depth-index a b))
  where
    inner : (d : ℕ) → expr_depth (tree.Index a b) ≤ suc d → (r : List Lexeme) →
        read.indexed (read.expr d) (a, expr_depth a) (w ++ tok rbracket to ∷ r) ≡ Ok ((tree.Index a b, max (expr_depth a) (expr_depth b) + 1), r)
    inner d k r =
        let rest = tok rbracket to ∷ r in
        not_there hb colon closes-colon.no_start rest _
        ∙ part hb d (omega (arith, depth-index a b)) rest (closes_stops rbracket to r 1 closes-rbracket.no_infix) _
        ∙ not_eaten colon rbracket to r _ refl
        ∙ expected rbracket to r _ refl

pub read_slice_from : (at between to : Spot) (a b : PyExpr) (v w : List Lexeme) → Known 12 a v → Known 1 b w →
    Reading_of (tree.Slice a b None) (v ++ tok lbracket at ∷ (w ++ tok colon between ∷ tok rbracket to ∷ []))
unfolding read.indexed read.sliced
read_slice_from at between to a b v w ha hb =
    subst (λ m. Reading_of (tree.Slice a b None) (v ++ tok lbracket at ∷ m)) (append_assoc w (tok colon between ∷ []) (tok rbracket to ∷ []))
    (indexed ha (tree.Slice a b None) at to (w ++ tok colon between ∷ []) (max (expr_depth a) (expr_depth b) + 1) (level-slice a b None)
    (omega (arith, depth-slice a b None)) inner (omega (arith, depth-slice a b None)))
  where
    inner : (d : ℕ) → expr_depth (tree.Slice a b None) ≤ suc d → (r : List Lexeme) →
        read.indexed (read.expr d) (a, expr_depth a) ((w ++ tok colon between ∷ []) ++ tok rbracket to ∷ r) ≡ Ok ((tree.Slice a b None, max (expr_depth a) (expr_depth b) + 1), r)
    inner d k r =
        let tail = tok rbracket to ∷ r in
        let rest = tok colon between ∷ tail in
        ap (read.indexed (read.expr d) (a, expr_depth a)) (append_assoc w (tok colon between ∷ []) tail)
        ∙ not_there hb colon closes-colon.no_start rest _
        ∙ part hb d (omega (arith, depth-slice a b None)) rest (closes_stops colon between tail 1 closes-colon.no_infix) _
        ∙ eaten colon between tail _ refl
        ∙ eaten rbracket to r _ refl

pub read_slice : (at between to : Spot) (a b c : PyExpr) (v w x : List Lexeme) → Known 12 a v → Known 1 b w → Known 1 c x →
    Reading_of (tree.Slice a b (Some c)) (v ++ tok lbracket at ∷ (w ++ tok colon between ∷ (x ++ tok rbracket to ∷ [])))
unfolding read.indexed read.sliced
read_slice at between to a b c v w x ha hb hc =
    subst (λ m. Reading_of (tree.Slice a b (Some c)) (v ++ tok lbracket at ∷ m)) (append_assoc w (tok colon between ∷ x) (tok rbracket to ∷ []))
    (indexed ha (tree.Slice a b (Some c)) at to (w ++ tok colon between ∷ x) (max (expr_depth a) (max (expr_depth b) (expr_depth c)) + 1) (level-slice a b (Some c))
    (omega (arith, depth-slice a b (Some c))) inner (omega (arith, depth-slice a b (Some c))))
  where
    inner : (d : ℕ) → expr_depth (tree.Slice a b (Some c)) ≤ suc d → (r : List Lexeme) →
        read.indexed (read.expr d) (a, expr_depth a) ((w ++ tok colon between ∷ x) ++ tok rbracket to ∷ r) ≡ Ok ((tree.Slice a b (Some c), max (expr_depth a) (max (expr_depth b) (expr_depth c)) + 1), r)
    inner d k r =
        let rest = tok rbracket to ∷ r in
        let tail = x ++ rest in
        ap (read.indexed (read.expr d) (a, expr_depth a)) (append_assoc w (tok colon between ∷ x) rest)
        ∙ not_there hb colon closes-colon.no_start (tok colon between ∷ tail) _
        ∙ part hb d (omega (arith, depth-slice a b (Some c))) (tok colon between ∷ tail) (closes_stops colon between tail 1 closes-colon.no_infix) _
        ∙ eaten colon between tail _ refl
        ∙ not_there hc rbracket closes-rbracket.no_start rest _
        ∙ part hc d (omega (arith, depth-slice a b (Some c))) rest (closes_stops rbracket to r 1 closes-rbracket.no_infix) _
        ∙ expected rbracket to r _ refl

pub read_whole : (at between to : Spot) (a : PyExpr) (v : List Lexeme) → Known 12 a v → Reading_of (tree.Whole a) (v ++ tok lbracket at ∷ tok colon between ∷ tok rbracket to ∷ [])
unfolding read.indexed
read_whole at between to a v h =
    indexed h (tree.Whole a) at to (tok colon between ∷ []) (expr_depth a + 1) (level-whole a) (omega (arith, depth-whole a))
    (λ d k r. eaten colon between (tok rbracket to ∷ r) _ refl ∙ expected rbracket to r _ refl) (omega (arith, depth-whole a))
