-- Expressions with commas between are read: in brackets, without, and as the arguments of a call.
use Rattle.std.proofs.Common.{◌≡◌, ℕ, ◌≤◌, max, Bool, true, false, List, [], ◌∷◌, ◌++◌, length-append, append_assoc, Option, Some, None, Ok, refl, sym, ap, ◌∙◌, arith}
use Rattle.std.proofs.lemmas.List.{append-nil}
use Rattle.mh_reader.specs.Reader.{◌>>=◌, first_of, look, many}
use Rattle.mh_reader.proofs.Turns.{many_done, many_again}
use Rattle.mh_reader.proofs.Steps.{chain_at}
use Rattle.mh_pytok.specs.Lexeme.{Lexeme}
use Rattle.mh_pytok.specs.declared.token.Tok.{Tok}
use Rattle.mh_pytok.specs.declared.token.Tok.TheVariants.{Name}
use Rattle.mh_pytree.specs.declared.expression.PyExpr.{PyExpr}
use Rattle.mh_pytree.specs.declared.expression.PyExpr.TheVariants as tree
use Rattle.mh_pytree.specs.declared.expression.Argument.{Argument}
use Rattle.mh_pytree.specs.Depth.{expr_depth, argument_depth}
use Rattle.mh_pytree.proofs.Depths.{depth-name}
use Rattle.mh_pyparse.specs.Signs.{same_kind, equals, rparen, comma}
use Rattle.mh_pyparse.specs.Grammar.{Spot, tok, argument}
use Rattle.mh_pyparse.specs.Operators.{infix_of, infix_sign, name_of}
use Rattle.mh_pyparse.specs.Reading as read
use Rattle.mh_pyparse.specs.Reading.{Read, Deep, Row, Arguments, is, leaf_of, begins_at}
use Rattle.mh_pyparse.proofs.First.{Stops, Quiet, Closes, closes_stops, closes-rparen, closes-equals, begins_unseen}
use Rattle.mh_pyparse.proofs.Levels.{depths, argument_depths, depth-some, depth-given, name_of-name}
use Rattle.mh_pyparse.proofs.CompleteSteps.{eaten, not_eaten, unseen, expected, Known, part, settle, not_there}

pub comma_stops : (at : Spot) (r : List Lexeme) → Stops 1 (tok comma at ∷ r)
unfolding infix_sign
comma_stops at r = closes_stops comma at r 1 refl

-- ---- what follows an item

module _ {A : Type 0} (k : Tok) (found : A) where
  pub closing_more : (at : Spot) (r : List Lexeme) → read.closing k found (tok comma at ∷ r) ≡ Ok ((found, true), r)
  unfolding read.closing
  closing_more at r = eaten comma at r _ refl

  pub closing_last : (to : Spot) (r : List Lexeme) → Closes k → read.closing k found (tok k to ∷ r) ≡ Ok ((found, false), r)
  unfolding read.closing
  closing_last to r c = not_eaten comma k to r _ c.no_comma ∙ expected k to r _ c.self

-- ---- items up to the sign that closes them

-- the items xs, spelled w, are read up to the sign that closes them
abbrev pub Items_of : List PyExpr → List Lexeme → Type 0
Items_of xs w = (d : ℕ) → depths xs ≤ d → (k : Tok) → Closes k → (s : Row) (to : Spot) (r : List Lexeme) →
    many (read.items_turn (read.expr d) k) s (w ++ tok k to ∷ r) ≡ Ok ((s.0 ++ xs, max s.1 (depths xs)), r)

row_eq : {A : Type 0} (a b : A) (m n : ℕ) → a ≡ b → m ≡ n → ◌≡◌ {A = A × ℕ} (a, m) (b, n)
row_eq a b m n e f = ap (λ a. (a, m)) e ∙ ap (λ m. (b, m)) f

pub items_none : Items_of [] []
unfolding read.items_turn
items_none d h k c s to r =
    many_done (read.items_turn (read.expr d) k) s (tok k to ∷ r) s r (eaten k to r _ c.self)
    ∙ ap (λ (s : Row). Ok (s, r)) (row_eq s.0 (s.0 ++ []) s.1 (max s.1 0) (sym (append-nil s.0)) (omega arith))

pub items_last : (x : PyExpr) (w : List Lexeme) → Known 1 x w → Items_of (x ∷ []) w
unfolding read.items_turn
items_last x w a d h k c s to r =
    let rest = tok k to ∷ r in
    let next : Row = (s.0 ++ x ∷ [], max s.1 (expr_depth x)) in
    many_done (read.items_turn (read.expr d) k) s (w ++ rest) next r
    (not_there a k c.no_start rest _
    ∙ part a d (omega arith) rest (closes_stops k to r 1 c.no_infix) _
    ∙ closing_last k next to r c)
    ∙ ap (λ (s : Row). Ok (s, r)) (row_eq (s.0 ++ x ∷ []) (s.0 ++ x ∷ []) (max s.1 (expr_depth x)) (max s.1 (depths (x ∷ []))) refl (omega arith))

pub items_more : (at : Spot) (x : PyExpr) (others : List PyExpr) (v w : List Lexeme) → Known 1 x v → Items_of others w → Items_of (x ∷ others) (v ++ tok comma at ∷ w)
unfolding read.items_turn
items_more at x others v w a more d h k c s to r =
    let tail = w ++ tok k to ∷ r in
    let rest = tok comma at ∷ tail in
    let step = read.items_turn (read.expr d) k in
    let next : Row = (s.0 ++ x ∷ [], max s.1 (expr_depth x)) in
    ap (many step s) (append_assoc v (tok comma at ∷ w) (tok k to ∷ r))
    ∙ many_again step s (v ++ rest) next tail
    (not_there a k c.no_start rest _
    ∙ part a d (omega arith) rest (comma_stops at tail) _
    ∙ closing_more k next at tail)
    (omega (arith, length-append v rest))
    ∙ more d (omega arith) k c next to r
    ∙ ap (λ (s : Row). Ok (s, r)) (row_eq ((s.0 ++ x ∷ []) ++ others) (s.0 ++ x ∷ others) (max (max s.1 (expr_depth x)) (depths others)) (max s.1 (depths (x ∷ others)))
    (append_assoc s.0 (x ∷ []) others) (omega arith))

-- the others of a row whose first is x
pub items_after : (x : PyExpr) (others : List PyExpr) (w : List Lexeme) → Items_of others w → (d : ℕ) → depths others ≤ d → (k : Tok) → Closes k → (to : Spot) (r : List Lexeme) →
    read.items (read.expr d) k (x ∷ [], expr_depth x) (w ++ tok k to ∷ r) ≡ Ok ((x ∷ others, max (expr_depth x) (depths others)), r)
unfolding read.items
items_after x others w more d h k c to r = more d h k c (x ∷ [], expr_depth x) to r

-- ---- items without a sign that closes them

abbrev pub Tuple_of : List PyExpr → List Lexeme → Type 0
Tuple_of xs w = (d : ℕ) → depths xs ≤ d → (s : Row) (r : List Lexeme) → Quiet r →
    many (read.tuple_turn (read.expr d)) s (w ++ r) ≡ Ok ((s.0 ++ xs, max s.1 (depths xs)), r)

-- an expression begins here, or none does
goes_on : {B : Type 0} (r : List Lexeme) (f : Bool → Read B) (b : Bool) → begins_at (first_of r) ≡ b → (look begins_at >>= f) r ≡ f b r
goes_on r f b e = chain_at (look begins_at) f r r (begins_at (first_of r)) refl ∙ ap (λ (b : Bool). f b r) e

pub tuple_none : Tuple_of [] []
unfolding read.tuple_turn
tuple_none d h s r q =
    many_done (read.tuple_turn (read.expr d)) s r s r (goes_on r _ false q.no_start)
    ∙ ap (λ (s : Row). Ok (s, r)) (row_eq s.0 (s.0 ++ []) s.1 (max s.1 0) (sym (append-nil s.0)) (omega arith))

pub tuple_last : (x : PyExpr) (w : List Lexeme) → Known 1 x w → Tuple_of (x ∷ []) w
unfolding read.tuple_turn
tuple_last x w a d h s r q =
    let next : Row = (s.0 ++ x ∷ [], max s.1 (expr_depth x)) in
    many_done (read.tuple_turn (read.expr d)) s (w ++ r) next r
    (goes_on (w ++ r) _ true (a.begun r)
    ∙ part a d (omega arith) r q.stops _
    ∙ unseen comma r _ q.no_comma)
    ∙ ap (λ (s : Row). Ok (s, r)) (row_eq (s.0 ++ x ∷ []) (s.0 ++ x ∷ []) (max s.1 (expr_depth x)) (max s.1 (depths (x ∷ []))) refl (omega arith))

pub tuple_more : (at : Spot) (x : PyExpr) (others : List PyExpr) (v w : List Lexeme) → Known 1 x v → Tuple_of others w → Tuple_of (x ∷ others) (v ++ tok comma at ∷ w)
unfolding read.tuple_turn
tuple_more at x others v w a more d h s r q =
    let tail = w ++ r in
    let rest = tok comma at ∷ tail in
    let step = read.tuple_turn (read.expr d) in
    let next : Row = (s.0 ++ x ∷ [], max s.1 (expr_depth x)) in
    ap (many step s) (append_assoc v (tok comma at ∷ w) r)
    ∙ many_again step s (v ++ rest) next tail
    (goes_on (v ++ rest) _ true (a.begun rest)
    ∙ part a d (omega arith) rest (comma_stops at tail) _
    ∙ eaten comma at tail _ refl)
    (omega (arith, length-append v rest))
    ∙ more d (omega arith) next r q
    ∙ ap (λ (s : Row). Ok (s, r)) (row_eq ((s.0 ++ x ∷ []) ++ others) (s.0 ++ x ∷ others) (max (max s.1 (expr_depth x)) (depths others)) (max s.1 (depths (x ∷ others)))
    (append_assoc s.0 (x ∷ []) others) (omega arith))

-- ---- arguments of a call

-- an expression is read in front of what follows the argument, and then the argument
abbrev pub Argument_of : Argument → List Lexeme → Type 0
Argument_of x w = (d : ℕ) → argument_depth x ≤ d → (k : Tok) (to : Spot) (r : List Lexeme) → infix_of k ≡ None → same_kind k equals ≡ false →
    (a : Deep) × (m : List Lexeme) × (read.expr d 1 (w ++ tok k to ∷ r) ≡ Ok (a, m))
    × (read.argument_by (read.expr d) a (name_of a.0) m ≡ Ok ((x, argument_depth x), tok k to ∷ r))

plain_by : (d : ℕ) (a : PyExpr) (k : Tok) (to : Spot) (r : List Lexeme) → same_kind k equals ≡ false → (name : Option (List ℕ)) →
    read.argument_by (read.expr d) (a, expr_depth a) name (tok k to ∷ r) ≡ Ok ((argument None a, argument_depth (argument None a)), tok k to ∷ r)
plain_by d a k to r c None = ap (λ n. Ok ((argument None a, n), tok k to ∷ r)) (sym (depth-given None a))
plain_by d a k to r c (Some name) = not_eaten equals k to r _ c ∙ ap (λ n. Ok ((argument None a, n), tok k to ∷ r)) (sym (depth-given None a))

pub argument_plain : (a : PyExpr) (w : List Lexeme) → Known 1 a w → Argument_of (argument None a) w
argument_plain a w h d k m to r c e = (
  (a, expr_depth a),
  tok m to ∷ r,
  settle h d (omega (arith, depth-given None a)) (tok m to ∷ r) (closes_stops m to r 1 c),
  plain_by d a m to r e (name_of a),
)

pub argument_named : (at_name at : Spot) (a : PyExpr) (v : List Lexeme) → Known 1 a v → Known 1 (tree.Name at_name.text) (tok Name at_name ∷ []) →
    Argument_of (argument (Some at_name.text) a) (tok Name at_name ∷ tok equals at ∷ v)
argument_named at_name at a v h n d k m to r c e =
    let rest = tok m to ∷ r in
    let after_name = tok equals at ∷ (v ++ rest) in
    let given = Some at_name.text in (
      (tree.Name at_name.text, expr_depth (tree.Name at_name.text)),
      after_name,
      settle n d (omega (arith, depth-name at_name.text, depth-some a, depth-given given a)) after_name (closes_stops equals at (v ++ rest) 1 closes-equals.no_infix),
      ap (λ o. read.argument_by (read.expr d) (tree.Name at_name.text, expr_depth (tree.Name at_name.text)) o after_name) (name_of-name at_name.text)
          ∙ eaten equals at (v ++ rest) _ refl
          ∙ part h d (omega (arith, depth-given given a)) rest (closes_stops m to r 1 c) _
          ∙ ap (λ n. Ok ((argument given a, n), rest)) (sym (depth-given given a)),
    )

-- the two readers, and what comes after them
argument_part : {B : Type 0} (x : Argument) (w : List Lexeme) → Argument_of x w → (d : ℕ) → argument_depth x ≤ d → (k : Tok) (to : Spot) (r : List Lexeme) → infix_of k ≡ None → same_kind k equals ≡ false →
    (f : Argument × ℕ → Read B) → (read.expr d 1 >>= (λ a. read.argument_by (read.expr d) a (name_of a.0) >>= f)) (w ++ tok k to ∷ r) ≡ f (x, argument_depth x) (tok k to ∷ r)
argument_part x w one d h k to r c e f = go (one d h k to r c e).0 (one d h k to r c e).1 (one d h k to r c e).2 (one d h k to r c e).3
  where
    go : (a : Deep) (m : List Lexeme) → read.expr d 1 (w ++ tok k to ∷ r) ≡ Ok (a, m) → read.argument_by (read.expr d) a (name_of a.0) m ≡ Ok ((x, argument_depth x), tok k to ∷ r) →
        (read.expr d 1 >>= (λ a. read.argument_by (read.expr d) a (name_of a.0) >>= f)) (w ++ tok k to ∷ r) ≡ f (x, argument_depth x) (tok k to ∷ r)
    go a m p q =
        chain_at (read.expr d 1) (λ a. read.argument_by (read.expr d) a (name_of a.0) >>= f) (w ++ tok k to ∷ r) m a p
        ∙ chain_at (read.argument_by (read.expr d) a (name_of a.0)) f m (tok k to ∷ r) (x, argument_depth x) q

-- the arguments xs, spelled w, are read up to the closing bracket
abbrev pub Arguments_of : List Argument → List Lexeme → Type 0
Arguments_of xs w = (d : ℕ) → argument_depths xs ≤ d → (s : Arguments) (to : Spot) (r : List Lexeme) →
    many (read.arguments_turn (read.expr d)) s (w ++ tok rparen to ∷ r) ≡ Ok ((s.0 ++ xs, max s.1 (argument_depths xs)), r)

pub arguments_none : Arguments_of [] []
unfolding read.arguments_turn
arguments_none d h s to r =
    many_done (read.arguments_turn (read.expr d)) s (tok rparen to ∷ r) s r (eaten rparen to r _ refl)
    ∙ ap (λ (s : Arguments). Ok (s, r)) (row_eq s.0 (s.0 ++ []) s.1 (max s.1 0) (sym (append-nil s.0)) (omega arith))

-- an argument begins as an expression does
abbrev pub Begun : List Lexeme → Type 0
Begun w = (r : List Lexeme) → begins_at (first_of (w ++ r)) ≡ true

pub arguments_last : (x : Argument) (w : List Lexeme) → Begun w → Argument_of x w → Arguments_of (x ∷ []) w
unfolding read.arguments_turn
arguments_last x w b one d h s to r =
    let rest = tok rparen to ∷ r in
    let next : Arguments = (s.0 ++ x ∷ [], max s.1 (argument_depth x)) in
    many_done (read.arguments_turn (read.expr d)) s (w ++ rest) next r
    (unseen rparen (w ++ rest) _ (begins_unseen rparen (w ++ rest) closes-rparen.no_start (b rest))
    ∙ argument_part x w one d (omega arith) rparen to r closes-rparen.no_infix refl _
    ∙ closing_last rparen next to r closes-rparen)
    ∙ ap (λ (s : Arguments). Ok (s, r)) (row_eq (s.0 ++ x ∷ []) (s.0 ++ x ∷ []) (max s.1 (argument_depth x)) (max s.1 (argument_depths (x ∷ []))) refl (omega arith))

pub arguments_more : (at : Spot) (x : Argument) (others : List Argument) (v w : List Lexeme) → Begun v → Argument_of x v → Arguments_of others w →
    Arguments_of (x ∷ others) (v ++ tok comma at ∷ w)
unfolding read.arguments_turn infix_sign
arguments_more at x others v w b one more d h s to r =
    let tail = w ++ tok rparen to ∷ r in
    let rest = tok comma at ∷ tail in
    let step = read.arguments_turn (read.expr d) in
    let next : Arguments = (s.0 ++ x ∷ [], max s.1 (argument_depth x)) in
    ap (many step s) (append_assoc v (tok comma at ∷ w) (tok rparen to ∷ r))
    ∙ many_again step s (v ++ rest) next tail
    (unseen rparen (v ++ rest) _ (begins_unseen rparen (v ++ rest) closes-rparen.no_start (b rest))
    ∙ argument_part x v one d (omega arith) comma at tail refl refl _
    ∙ closing_more rparen next at tail)
    (omega (arith, length-append v rest))
    ∙ more d (omega arith) next to r
    ∙ ap (λ (s : Arguments). Ok (s, r)) (row_eq ((s.0 ++ x ∷ []) ++ others) (s.0 ++ x ∷ others) (max (max s.1 (argument_depth x)) (argument_depths others)) (max s.1 (argument_depths (x ∷ others)))
    (append_assoc s.0 (x ∷ []) others) (omega arith))
