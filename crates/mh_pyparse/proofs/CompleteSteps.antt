-- What was read of an expression leads to the loop over operators, with its tree in hand.
use Rattle.std.proofs.Common.{◌≡◌, ℕ, zero, suc, ◌+◌, ◌<◌, ◌≤◌, Bool, true, false, List, [], ◌∷◌, ◌++◌, length, Option, Some, None, Ok, refl, sym, ap, ◌∙◌, arith, subst}
use Rattle.std.proofs.lemmas.Bool.{le-ltb, lt-ltb, le-leb, lt-leb}
use Rattle.mh_reader.specs.Reader.{◌>>=◌, first_of, sees, look, take, eat, expect, want}
use Rattle.mh_reader.proofs.Turns.{many_done, many_again}
use Rattle.mh_reader.proofs.Steps.{chain_at, eat_yes, eat_no, expect_yes, want_yes}
use Rattle.mh_reader.proofs.Local.{shorter}
use Rattle.mh_pytok.specs.Lexeme.{Lexeme}
use Rattle.mh_pytok.specs.declared.token.Tok.{Tok}
use Rattle.mh_pytok.specs.declared.token.Tok.TheVariants.{End}
use Rattle.mh_pytree.specs.declared.expression.Sign.TheVariants.{Minus, Plus, Invert}
use Rattle.mh_pytree.specs.declared.expression.PyExpr.{PyExpr}
use Rattle.mh_pytree.specs.Depth.{expr_depth}
use Rattle.mh_pyparse.specs.declared.infix.Infix.{Infix}
use Rattle.mh_pyparse.specs.declared.infix.Prefix.{Prefix}
use Rattle.mh_pyparse.specs.declared.infix.Prefix.TheVariants.{Not, Unary}
use Rattle.mh_pyparse.specs.Signs.{same_kind, lparen, lbracket}
use Rattle.mh_pyparse.specs.Grammar.{Spot, tok}
use Rattle.mh_pyparse.specs.Operators.{infix_of, infix_kind, binds, needs, prefix_of, prefix_kind, prefix_level, prefixed, level, begins}
use Rattle.mh_pyparse.specs.Reading as read
use Rattle.mh_pyparse.specs.Reading.{Read, Deep, is, leaf_of, infix_at, prefix_at, begins_at}
use Rattle.mh_pyparse.proofs.Tables.{infix_of-infix_kind, prefix_of-prefix_kind}
use Rattle.mh_pyparse.proofs.Local.{local_expr, local_apply}
use Rattle.mh_pyparse.proofs.First.{Stops, begins_unseen}
use Rattle.mh_pyparse.proofs.Levels.{takes, depth-some, depth-prefixed, level-prefixed, takes-prefixed, level-takes, takes-more}

-- ---- tokens of a known kind

module _ {B : Type 0} (k : Tok) where
  -- the token that is asked for is there
  pub eaten : (at : Spot) (r : List Lexeme) (f : Bool → Read B) → same_kind k k ≡ true → (eat (is k) >>= f) (tok k at ∷ r) ≡ f true r
  unfolding is
  eaten at r f e = chain_at (eat (is k)) f (tok k at ∷ r) r true (eat_yes (is k) (tok k at) r e)

  -- another is there
  pub not_eaten : (m : Tok) (at : Spot) (r : List Lexeme) (f : Bool → Read B) → same_kind m k ≡ false → (eat (is k) >>= f) (tok m at ∷ r) ≡ f false (tok m at ∷ r)
  unfolding is
  not_eaten m at r f e = chain_at (eat (is k)) f (tok m at ∷ r) (tok m at ∷ r) false (eat_no (is k) (tok m at ∷ r) e)

  pub unseen : (r : List Lexeme) (f : Bool → Read B) → sees (is k) r ≡ false → (eat (is k) >>= f) r ≡ f false r
  unseen r f e = chain_at (eat (is k)) f r r false (eat_no (is k) r e)

  pub expected : (at : Spot) (r : List Lexeme) (f : Unit {0} → Read B) → same_kind k k ≡ true → (expect (is k) >>= f) (tok k at ∷ r) ≡ f tt r
  unfolding is
  expected at r f e = chain_at (expect (is k)) f (tok k at ∷ r) r tt (expect_yes (is k) (tok k at) r e)

-- ---- one turn

not_admitted : (least : ℕ) (left : PyExpr) (i : Infix) → binds i < least → read.admits least left i ≡ false
unfolding read.admits
not_admitted least left i h = rw (lt-leb least (binds i) h) refl

is_admitted : (least : ℕ) (left : PyExpr) (i : Infix) → least ≤ binds i → needs i ≤ level left → read.admits least left i ≡ true
unfolding read.admits
is_admitted least left i h k = rw (le-leb least (binds i) h, le-leb (needs i) (level left) k) refl

module _ (d : ℕ) (sub : ℕ → Read Deep) where
  stop_by : (least : ℕ) (left : Deep) (r : List Lexeme) (o : Option Infix) → ((i : Infix) → o ≡ Some i → binds i < least) → read.goes_on_by sub d least left o r ≡ Ok ((left, false), r)
  stop_by least left r None h = refl
  stop_by least left r (Some i) h = rw (not_admitted least left.0 i (h i refl)) refl

  pub operate_stop : (least : ℕ) (left : Deep) (r : List Lexeme) → Stops least r → read.operate sub d least left r ≡ Ok (left, r)
  unfolding read.operate read.operate_turn
  operate_stop least left r h = many_done (read.operate_turn sub d least) left r left r
      (chain_at (look infix_at) (read.goes_on_by sub d least left) r r (infix_at (first_of r)) refl ∙ stop_by least left r (infix_at (first_of r)) h)

  pub operate_more : (least : ℕ) (left x : Deep) (i : Infix) (at : Spot) (ts r : List Lexeme) → least ≤ binds i → needs i ≤ level left.0 → left.1 ≤ d →
      read.apply sub left i ts ≡ Ok (x, r) → length r ≤ length ts → read.operate sub d least left (tok (infix_kind i) at ∷ ts) ≡ read.operate sub d least x r
  unfolding read.operate read.operate_turn read.applied
  operate_more least left x i at ts r h k l e s =
      let all = tok (infix_kind i) at ∷ ts in
      let go : read.goes_on_by sub d least left (Some i) all ≡ Ok ((x, true), r) =
      rw (is_admitted least left.0 i h k, le-ltb d left.1 l)
      (chain_at take _ all ts tt refl ∙ chain_at (read.apply sub left i) _ ts r x e) in
      many_again (read.operate_turn sub d least) left all x r
      (chain_at (look infix_at) (read.goes_on_by sub d least left) all all (infix_of (infix_kind i)) refl
      ∙ ap (λ o. read.goes_on_by sub d least left o all) (infix_of-infix_kind i) ∙ go)
      (omega arith)

-- ---- what was proved of a tree and its tokens

abbrev pub Reading_of : PyExpr → List Lexeme → Type 0
Reading_of t u = (d least : ℕ) → least ≤ level t → expr_depth t ≤ suc d → (r : List Lexeme) → Stops (takes t) r →
    read.expr (suc d) least (u ++ r) ≡ read.operate (read.expr d) d least (t, expr_depth t) r

-- of one that was read for this level
pub record Known (l : ℕ) (t : PyExpr) (u : List Lexeme) : Type 0 where
  pub reads : Reading_of t u
  pub high : l ≤ level t
  pub begun : (r : List Lexeme) → begins_at (first_of (u ++ r)) ≡ true

pub settle : {l : ℕ} {t : PyExpr} {u : List Lexeme} → Known l t u → (d : ℕ) → expr_depth t ≤ d → (r : List Lexeme) → Stops l r →
    read.expr d l (u ++ r) ≡ Ok ((t, expr_depth t), r)
settle {l} {t} {u} h zero k r s = absurd (omega (arith, depth-some t))
settle {l} {t} {u} h (suc d) k r s =
    h.reads d l h.high k r (λ i e. let b = s i e in omega (arith, level-takes t, h.high)) ∙ operate_stop d (read.expr d) l (t, expr_depth t) r s

-- a part that is an expression, and what comes after it
pub part : {B : Type 0} {l : ℕ} {t : PyExpr} {u : List Lexeme} → Known l t u → (d : ℕ) → expr_depth t ≤ d → (r : List Lexeme) → Stops l r → (f : Deep → Read B) →
    (read.expr d l >>= f) (u ++ r) ≡ f (t, expr_depth t) r
part {B} {l} {t} {u} h d k r s f = chain_at (read.expr d l) f (u ++ r) r (t, expr_depth t) (settle h d k r s)

-- a token that begins no expression isn't there where one begins
pub not_there : {B : Type 0} {l : ℕ} {t : PyExpr} {u : List Lexeme} → Known l t u → (k : Tok) → begins k ≡ false → (r : List Lexeme) (f : Bool → Read B) →
    (eat (is k) >>= f) (u ++ r) ≡ f false (u ++ r)
not_there {B} {l} {t} {u} h k b r f = unseen k (u ++ r) f (begins_unseen k (u ++ r) b (h.begun r))

-- ---- what begins an expression

pub begun : (t : PyExpr) (d least n : ℕ) (ts r : List Lexeme) → read.prefix (read.expr d) d least ts ≡ Ok ((t, n), r) → n ≡ expr_depth t →
    read.expr (suc d) least ts ≡ read.operate (read.expr d) d least (t, expr_depth t) r
unfolding read.expr read.whole
begun t d least n ts r e h =
    chain_at (read.prefix (read.expr d) d least) (read.operate (read.expr d) d least) ts r (t, n) e
    ∙ ap (λ n. read.operate (read.expr d) d least (t, n) r) h

module _ (sub : ℕ → Read Deep) (d least : ℕ) where
  pub prefix_round : (at : Spot) (r : List Lexeme) → read.prefix sub d least (tok lparen at ∷ r) ≡ read.round sub r
  unfolding read.prefix
  prefix_round at r = eaten lparen at r _ refl

  pub prefix_square : (at : Spot) (r : List Lexeme) → read.prefix sub d least (tok lbracket at ∷ r) ≡ read.square sub r
  unfolding read.prefix
  prefix_square at r = not_eaten lparen lbracket at r _ refl ∙ eaten lbracket at r _ refl

  prefix_other : (k : Tok) (at : Spot) (r : List Lexeme) → same_kind k lparen ≡ false → same_kind k lbracket ≡ false →
      read.prefix sub d least (tok k at ∷ r) ≡ read.prefix_by sub d least (prefix_of k) (tok k at ∷ r)
  unfolding read.prefix
  prefix_other k at r a b =
      not_eaten lparen k at r _ a ∙ not_eaten lbracket k at r _ b
      ∙ chain_at (look prefix_at) (read.prefix_by sub d least) _ _ (prefix_of k) refl

  pub prefix_leaf : (k : Tok) (at : Spot) (r : List Lexeme) (t : PyExpr) → same_kind k lparen ≡ false → same_kind k lbracket ≡ false → prefix_of k ≡ None → leaf_of (tok k at) ≡ Some t →
      read.prefix sub d least (tok k at ∷ r) ≡ Ok ((t, 1), r)
  unfolding read.leaf
  prefix_leaf k at r t a b c e =
      prefix_other k at r a b ∙ ap (λ o. read.prefix_by sub d least o (tok k at ∷ r)) c
      ∙ chain_at (want leaf_of) _ (tok k at ∷ r) r t (want_yes leaf_of (tok k at) r t e)

  by_prefix : (p : Prefix) (at : Spot) (r : List Lexeme) → 1 ≤ d → least ≤ prefix_level p → read.prefix_by sub d least (Some p) (tok (prefix_kind p) at ∷ r) ≡ read.operand sub p r
  by_prefix p at r h k = rw (lt-ltb 0 d h, le-leb least (prefix_level p) k) (chain_at take _ (tok (prefix_kind p) at ∷ r) r tt refl)

  round_apart : (p : Prefix) → (same_kind (prefix_kind p) lparen ≡ false) × (same_kind (prefix_kind p) lbracket ≡ false)
  round_apart Not = (refl, refl)
  round_apart (Unary Minus) = (refl, refl)
  round_apart (Unary Plus) = (refl, refl)
  round_apart (Unary Invert) = (refl, refl)

  pub prefix_operand : (p : Prefix) (at : Spot) (r : List Lexeme) → 1 ≤ d → least ≤ prefix_level p → read.prefix sub d least (tok (prefix_kind p) at ∷ r) ≡ read.operand sub p r
  prefix_operand p at r h k =
      prefix_other (prefix_kind p) at r (round_apart p).0 (round_apart p).1
      ∙ ap (λ o. read.prefix_by sub d least o (tok (prefix_kind p) at ∷ r)) (prefix_of-prefix_kind p)
      ∙ by_prefix p at r h k

-- ---- names, literals, and signs in front of an operand

pub read_leaf : (k : Tok) (at : Spot) (t : PyExpr) → same_kind k lparen ≡ false → same_kind k lbracket ≡ false → prefix_of k ≡ None → leaf_of (tok k at) ≡ Some t → expr_depth t ≡ 1 →
    Reading_of t (tok k at ∷ [])
read_leaf k at t a b c e f d least l h r s = begun t d least 1 (tok k at ∷ r) r (prefix_leaf (read.expr d) d least k at r t a b c e) (sym f)

pub read_prefixed : (p : Prefix) (at : Spot) (a : PyExpr) (v : List Lexeme) → Known (prefix_level p) a v → Reading_of (prefixed p a) (tok (prefix_kind p) at ∷ v)
unfolding read.operand
read_prefixed p at a v h d least l k r s =
    begun (prefixed p a) d least (expr_depth a + 1) (tok (prefix_kind p) at ∷ (v ++ r)) r
    (prefix_operand (read.expr d) d least p at (v ++ r) (omega (arith, depth-prefixed p a, depth-some a)) (omega (arith, level-prefixed p a))
    ∙ part h d (omega (arith, depth-prefixed p a)) r (λ i e. let b = s i e in omega (arith, takes-prefixed p a)) _)
    (omega (arith, depth-prefixed p a))

-- ---- an operator behind a tree that was read

at_operator : (i : Infix) (at : Spot) (r : List Lexeme) (least : ℕ) → binds i < least → Stops least (tok (infix_kind i) at ∷ r)
at_operator i at r least h j e = let q : i ≡ j = cc (infix_of-infix_kind i) in subst (λ (i : Infix). binds i < least) q h

pub extended : {l : ℕ} {a : PyExpr} {v : List Lexeme} → Known l a v → (t : PyExpr) (n : ℕ) (i : Infix) (at : Spot) (d least : ℕ) (ts r : List Lexeme) →
    least ≤ binds i → least ≤ level a → needs i ≤ level a → expr_depth a ≤ d →
    read.apply (read.expr d) (a, expr_depth a) i ts ≡ Ok ((t, n), r) → n ≡ expr_depth t →
    read.expr (suc d) least (v ++ tok (infix_kind i) at ∷ ts) ≡ read.operate (read.expr d) d least (t, expr_depth t) r
extended {l} {a} {v} known t n i at d least ts r h b c k e f =
    known.reads d least b (omega arith) (tok (infix_kind i) at ∷ ts) (at_operator i at ts (takes a) (takes-more a i c))
    ∙ operate_more d (read.expr d) least (a, expr_depth a) (t, n) i at ts r h c k e
    (shorter (is End) (read.apply (read.expr d) (a, expr_depth a) i) (local_apply (read.expr d) (local_expr d) (a, expr_depth a) i) ts (t, n) r e)
    ∙ ap (λ n. read.operate (read.expr d) d least (t, n) r) f
