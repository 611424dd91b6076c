-- What may begin an expression, and what may stand behind one.
use Rattle.std.proofs.Common.{◌≡◌, ℕ, ◌<◌, Bool, true, false, List, [], ◌∷◌, ◌++◌, append_assoc, Option, Some, None, refl, ap, subst}
use Rattle.mh_reader.specs.Reader.{first_of, sees}
use Rattle.mh_pytok.specs.Lexeme.{Lexeme}
use Rattle.mh_pytok.specs.declared.token.Tok.{Tok}
use Rattle.mh_pytok.specs.declared.token.Tok.TheVariants.{Sign, Newline, Indent, Dedent, End}
use Rattle.mh_pytree.specs.declared.expression.Sign.{Sign as UnarySign}
use Rattle.mh_pytree.specs.declared.expression.Sign.TheVariants.{Minus, Plus, Invert}
use Rattle.mh_pytree.specs.declared.expression.Operator.{Operator}
use Rattle.mh_pytree.specs.declared.expression.Operator.TheVariants.{Or, And, Equal, NotEqual, Less, LessEqual, Greater, GreaterEqual, BitOr, BitXor, BitAnd, ShiftLeft, ShiftRight, Add, Subtract, Multiply, Divide, Remainder}
use Rattle.mh_pytree.specs.declared.expression.PyExpr.{PyExpr}
use Rattle.mh_pytree.specs.declared.expression.Argument.{Argument}
use Rattle.mh_pyparse.specs.declared.infix.Infix.{Infix}
use Rattle.mh_pyparse.specs.Signs.{same_kind, assert_word, break_word, continue_word, def_word, elif_word, else_word, for_word, from_word, if_word, import_word, in_word, pass_word, raise_word, return_word, while_word, yield_word, equals, rparen, rbracket, comma, colon, dot, semicolon, at_sign, augmented, prefix_sign}
use Rattle.mh_pyparse.specs.Grammar.{Spot, tok, IsExpr, name, number, string, truth, falsehood, nothing, group, empty, bracketed, list, comprehension, negation, unary, binary, attribute, call, index, slice_from, slice, whole, IsArgument, plain, named, AreExprs, single, tuple}
use Rattle.mh_pyparse.specs.Operators.{infix_of, infix_sign, infix_word, binds, begins, begins_sign, begins_word}
use Rattle.mh_pyparse.specs.Reading.{is, infix_at, begins_at}
use Rattle.mh_pyparse.proofs.Tables.{same_is}

-- no operator of this level or above comes next: the level of an attribute, a call and an index is 12
abbrev pub Stops : ℕ → List Lexeme → Type 0
Stops least r = (i : Infix) → infix_at (first_of r) ≡ Some i → binds i < least

-- what may stand behind expressions with commas between: nothing that they go on with
pub record Quiet (r : List Lexeme) : Type 0 where
  pub stops : Stops 1 r
  pub no_comma : sees (is comma) r ≡ false
  pub no_start : begins_at (first_of r) ≡ false

-- a kind that no expression goes on with and none begins with
pub record Closes (k : Tok) : Type 0 where
  pub self : same_kind k k ≡ true
  pub no_infix : infix_of k ≡ None
  pub no_start : begins k ≡ false
  pub no_comma : same_kind k comma ≡ false

-- ---- what begins an expression

-- a kind that begins an expression is none that begins none
pub begins_apart : (k m : Tok) → begins k ≡ true → begins m ≡ false → same_kind k m ≡ false
begins_apart k m b c = go (same_kind k m) refl
  where
    go : (s : Bool) → same_kind k m ≡ s → s ≡ false
    go false e = refl
    go true e = let q = same_is k m e in absurd (cc (ap begins q))

pub begins_unseen : (m : Tok) (r : List Lexeme) → begins m ≡ false → begins_at (first_of r) ≡ true → sees (is m) r ≡ false
unfolding is
begins_unseen m [] c b = refl
begins_unseen m (t ∷ r) c b = begins_apart t.kind m b c

-- what begins the first part begins the whole
along : (u v w r : List Lexeme) → u ≡ v ++ w → ((r : List Lexeme) → begins_at (first_of (v ++ r)) ≡ true) → begins_at (first_of (u ++ r)) ≡ true
along u v w r e h = rw (e, append_assoc v w r) (h (w ++ r))

begins_prefix : (sign : UnarySign) → begins (prefix_sign sign) ≡ true
unfolding begins_sign
begins_prefix Minus = refl
begins_prefix Plus = refl
begins_prefix Invert = refl

pub begins_expr : {l : ℕ} {t : PyExpr} {u : List Lexeme} → IsExpr l t u → (r : List Lexeme) → begins_at (first_of (u ++ r)) ≡ true
unfolding begins_sign begins_word
begins_expr (name at h i j) r = rw j refl
begins_expr (number at h i j) r = rw j refl
begins_expr (string at h i j) r = rw j refl
begins_expr (truth at h i j) r = rw j refl
begins_expr (falsehood at h i j) r = rw j refl
begins_expr (nothing at h i j) r = rw j refl
begins_expr (group at to a v h d i j) r = rw j refl
begins_expr (empty at to h i j) r = rw j refl
begins_expr (bracketed at between to x others v w h c d i j) r = rw j refl
begins_expr (list at to xs v h d i j) r = rw j refl
begins_expr (comprehension at at_for at_name at_in to a b v w h c d i j) r = rw j refl
begins_expr (negation at a v h d i j) r = rw j refl
begins_expr (unary sign at a v h d i j) r = rw j (begins_prefix sign)
begins_expr (binary op at a b v w h c d i j) r = along _ v _ r j (begins_expr c)
begins_expr (attribute at at_name a v h c i j) r = along _ v _ r j (begins_expr c)
begins_expr (call at to f xs v w h c d i j) r = along _ v _ r j (begins_expr c)
begins_expr (index at to a b v w h c d i j) r = along _ v _ r j (begins_expr c)
begins_expr (slice_from at between to a b v w h c d i j) r = along _ v _ r j (begins_expr c)
begins_expr (slice at between to a b e v w x h c d f i j) r = along _ v _ r j (begins_expr c)
begins_expr (whole at between to a v h c i j) r = along _ v _ r j (begins_expr c)

pub begins_exprs : {t : PyExpr} {u : List Lexeme} → AreExprs t u → (r : List Lexeme) → begins_at (first_of (u ++ r)) ≡ true
begins_exprs (single d) r = begins_expr d r
begins_exprs (tuple at x others v w c d i j) r = along _ v _ r j (begins_expr c)

pub begins_argument : {x : Argument} {u : List Lexeme} → IsArgument x u → (r : List Lexeme) → begins_at (first_of (u ++ r)) ≡ true
begins_argument (plain a d i) r = begins_expr d r
begins_argument (named at_name at a v d i j) r = rw j refl

-- ---- what stands behind one

pub closes_stops : (k : Tok) (at : Spot) (r : List Lexeme) (least : ℕ) → infix_of k ≡ None → Stops least (tok k at ∷ r)
closes_stops k at r least c i e = absurd (cc)

pub closes_quiet : (k : Tok) (at : Spot) (r : List Lexeme) → Closes k → Quiet (tok k at ∷ r)
unfolding is
closes_quiet k at r c = record { stops = closes_stops k at r 1 c.no_infix; no_comma = c.no_comma; no_start = c.no_start }

pub quiet_end : Quiet []
quiet_end = record { stops = λ i e. absurd (cc); no_comma = refl; no_start = refl }

-- ---- words and signs that begin no expression

pub no_start-assert : begins assert_word ≡ false
unfolding begins_word
no_start-assert = refl

pub no_start-break : begins break_word ≡ false
unfolding begins_word
no_start-break = refl

pub no_start-continue : begins continue_word ≡ false
unfolding begins_word
no_start-continue = refl

pub no_start-def : begins def_word ≡ false
unfolding begins_word
no_start-def = refl

pub no_start-elif : begins elif_word ≡ false
unfolding begins_word
no_start-elif = refl

pub no_start-else : begins else_word ≡ false
unfolding begins_word
no_start-else = refl

pub no_start-for : begins for_word ≡ false
unfolding begins_word
no_start-for = refl

pub no_start-from : begins from_word ≡ false
unfolding begins_word
no_start-from = refl

pub no_start-if : begins if_word ≡ false
unfolding begins_word
no_start-if = refl

pub no_start-import : begins import_word ≡ false
unfolding begins_word
no_start-import = refl

pub no_start-in : begins in_word ≡ false
unfolding begins_word
no_start-in = refl

pub no_start-pass : begins pass_word ≡ false
unfolding begins_word
no_start-pass = refl

pub no_start-raise : begins raise_word ≡ false
unfolding begins_word
no_start-raise = refl

pub no_start-return : begins return_word ≡ false
unfolding begins_word
no_start-return = refl

pub no_start-while : begins while_word ≡ false
unfolding begins_word
no_start-while = refl

pub no_start-yield : begins yield_word ≡ false
unfolding begins_word
no_start-yield = refl

pub no_start-equals : begins equals ≡ false
unfolding begins_sign
no_start-equals = refl

pub no_start-rparen : begins rparen ≡ false
unfolding begins_sign
no_start-rparen = refl

pub no_start-rbracket : begins rbracket ≡ false
unfolding begins_sign
no_start-rbracket = refl

pub no_start-comma : begins comma ≡ false
unfolding begins_sign
no_start-comma = refl

pub no_start-colon : begins colon ≡ false
unfolding begins_sign
no_start-colon = refl

pub no_start-dot : begins dot ≡ false
unfolding begins_sign
no_start-dot = refl

pub no_start-semicolon : begins semicolon ≡ false
unfolding begins_sign
no_start-semicolon = refl

pub no_start-at : begins at_sign ≡ false
unfolding begins_sign
no_start-at = refl

pub no_start-newline : begins Newline ≡ false
no_start-newline = refl

pub no_start-indent : begins Indent ≡ false
no_start-indent = refl

pub no_start-dedent : begins Dedent ≡ false
no_start-dedent = refl

pub no_start-end : begins End ≡ false
no_start-end = refl

pub ruleset no_starts = (no_start-assert, no_start-break, no_start-continue, no_start-def, no_start-elif, no_start-else, no_start-for, no_start-from, no_start-if, no_start-import, no_start-in, no_start-pass, no_start-raise, no_start-return, no_start-while, no_start-yield, no_start-equals, no_start-rparen, no_start-rbracket, no_start-comma, no_start-colon, no_start-dot, no_start-semicolon, no_start-at, no_start-newline, no_start-indent, no_start-dedent, no_start-end)

-- ---- and that close one

pub closes-rparen : Closes rparen
unfolding infix_sign begins_sign
closes-rparen = record { self = refl; no_infix = refl; no_start = refl; no_comma = refl }

pub closes-rbracket : Closes rbracket
unfolding infix_sign begins_sign
closes-rbracket = record { self = refl; no_infix = refl; no_start = refl; no_comma = refl }

pub closes-colon : Closes colon
unfolding infix_sign begins_sign
closes-colon = record { self = refl; no_infix = refl; no_start = refl; no_comma = refl }

pub closes-equals : Closes equals
unfolding infix_sign begins_sign
closes-equals = record { self = refl; no_infix = refl; no_start = refl; no_comma = refl }

pub closes-semicolon : Closes semicolon
unfolding infix_sign begins_sign
closes-semicolon = record { self = refl; no_infix = refl; no_start = refl; no_comma = refl }

pub closes-at : Closes at_sign
unfolding infix_sign begins_sign
closes-at = record { self = refl; no_infix = refl; no_start = refl; no_comma = refl }

pub closes-for : Closes for_word
unfolding infix_word begins_word
closes-for = record { self = refl; no_infix = refl; no_start = refl; no_comma = refl }

pub closes-in : Closes in_word
unfolding infix_word begins_word
closes-in = record { self = refl; no_infix = refl; no_start = refl; no_comma = refl }

pub closes-newline : Closes Newline
closes-newline = record { self = refl; no_infix = refl; no_start = refl; no_comma = refl }

pub closes-end : Closes End
closes-end = record { self = refl; no_infix = refl; no_start = refl; no_comma = refl }

-- the sign of an assignment that operates on its target
pub closes-augmented : (op : Operator) (k : Tok) → augmented op ≡ Some k → Closes k
unfolding infix_sign begins_sign
closes-augmented op k e = go op e
  where
    at : (n : ℕ) → ◌≡◌ {A = Option Tok} (Some (Sign n)) (Some k) → Closes (Sign n) → Closes k
    at n e c = let q : Sign n ≡ k = cc in subst Closes q c

    go : (op : Operator) → augmented op ≡ Some k → Closes k
    go Or e = absurd (cc)
    go And e = absurd (cc)
    go Equal e = absurd (cc)
    go NotEqual e = absurd (cc)
    go Less e = absurd (cc)
    go LessEqual e = absurd (cc)
    go Greater e = absurd (cc)
    go GreaterEqual e = absurd (cc)
    go Add e = at 19 e (record { self = refl; no_infix = refl; no_start = refl; no_comma = refl })
    go Subtract e = at 20 e (record { self = refl; no_infix = refl; no_start = refl; no_comma = refl })
    go Multiply e = at 21 e (record { self = refl; no_infix = refl; no_start = refl; no_comma = refl })
    go Divide e = at 22 e (record { self = refl; no_infix = refl; no_start = refl; no_comma = refl })
    go Remainder e = at 23 e (record { self = refl; no_infix = refl; no_start = refl; no_comma = refl })
    go BitAnd e = at 24 e (record { self = refl; no_infix = refl; no_start = refl; no_comma = refl })
    go BitOr e = at 25 e (record { self = refl; no_infix = refl; no_start = refl; no_comma = refl })
    go BitXor e = at 26 e (record { self = refl; no_infix = refl; no_start = refl; no_comma = refl })
    go ShiftLeft e = at 27 e (record { self = refl; no_infix = refl; no_start = refl; no_comma = refl })
    go ShiftRight e = at 28 e (record { self = refl; no_infix = refl; no_start = refl; no_comma = refl })
