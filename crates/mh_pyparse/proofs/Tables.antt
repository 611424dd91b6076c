-- Which operator a sign is and how an operator is spelled undo each other; and the levels of trees.
use Rattle.std.proofs.Common.{◌≡◌, ℕ, ◌==◌, Bool, true, false, List, Option, Some, refl, sym, ap, ◌∙◌, rules, ℤ, cond, if◌then◌else◌}
use Rattle.std.proofs.lemmas.Bool.{eqb-true}
use Rattle.mh_pytok.specs.Lexeme.{Lexeme}
use Rattle.mh_pytok.specs.declared.token.Tok.{Tok}
use Rattle.mh_pytok.specs.declared.token.Tok.TheVariants.{Name, Number, Str, Keyword, Sign, Newline, Indent, Dedent, End}
use Rattle.mh_pytree.specs.declared.expression.Operator.{Operator}
use Rattle.mh_pytree.specs.declared.expression.Operator.TheVariants.{Or, And, Equal, NotEqual, Less, LessEqual, Greater, GreaterEqual, BitOr, BitXor, BitAnd, ShiftLeft, ShiftRight, Add, Subtract, Multiply, Divide, Remainder}
use Rattle.mh_pytree.specs.declared.expression.Sign.{Sign as UnarySign}
use Rattle.mh_pytree.specs.declared.expression.Sign.TheVariants.{Minus, Plus, Invert}
use Rattle.mh_pytree.specs.declared.expression.PyExpr.{PyExpr, the_lemmas}
use Rattle.mh_pytree.specs.declared.expression.PyExpr.TheVariants as tree
use Rattle.mh_pytree.specs.declared.expression.Argument.{Argument}
use Rattle.mh_pyparse.specs.declared.infix.Infix.{Infix}
use Rattle.mh_pyparse.specs.declared.infix.Infix.TheVariants.{Binary, Attribute, Call, Index}
use Rattle.mh_pyparse.specs.declared.infix.Prefix.{Prefix}
use Rattle.mh_pyparse.specs.declared.infix.Prefix.TheVariants.{Not, Unary}
use Rattle.mh_pyparse.specs.Signs.{same_kind, augmented, op_level}
use Rattle.mh_pyparse.specs.Grammar.{Spot, tok}
use Rattle.mh_pyparse.specs.Operators.{infix_of, infix_sign, infix_word, infix_kind, prefix_of, prefix_kind, augment_of, augment_sign, level}
use Rattle.mh_pyparse.specs.Reading.{is}

-- ---- kinds

pub same_is : (k m : Tok) → same_kind k m ≡ true → k ≡ m
same_is Name Name e = refl
same_is Number Number e = refl
same_is Str Str e = refl
same_is (Keyword a) (Keyword b) e = ap (λ n. Keyword n) (eqb-true a b e)
same_is (Sign a) (Sign b) e = ap (λ n. Sign n) (eqb-true a b e)
same_is Newline Newline e = refl
same_is Indent Indent e = refl
same_is Dedent Dedent e = refl
same_is End End e = refl
same_is _ _ e = absurd (cc)

-- a token that passes the test on a kind is the token of this kind that stands there
pub is_true : (k : Tok) (t : Lexeme) → is k t ≡ true → (at : Spot) × (t ≡ tok k at)
unfolding is
is_true k t e = (record { text = t.text; line = t.line }, ap (λ k. tok k (record { text = t.text; line = t.line })) (same_is t.kind k e))

-- ---- an operator is found by how it is spelled

pub infix_of-infix_kind : (i : Infix) → infix_of (infix_kind i) ≡ Some i
unfolding infix_sign infix_word
infix_of-infix_kind (Binary Or) = refl
infix_of-infix_kind (Binary And) = refl
infix_of-infix_kind (Binary Equal) = refl
infix_of-infix_kind (Binary NotEqual) = refl
infix_of-infix_kind (Binary Less) = refl
infix_of-infix_kind (Binary LessEqual) = refl
infix_of-infix_kind (Binary Greater) = refl
infix_of-infix_kind (Binary GreaterEqual) = refl
infix_of-infix_kind (Binary BitOr) = refl
infix_of-infix_kind (Binary BitXor) = refl
infix_of-infix_kind (Binary BitAnd) = refl
infix_of-infix_kind (Binary ShiftLeft) = refl
infix_of-infix_kind (Binary ShiftRight) = refl
infix_of-infix_kind (Binary Add) = refl
infix_of-infix_kind (Binary Subtract) = refl
infix_of-infix_kind (Binary Multiply) = refl
infix_of-infix_kind (Binary Divide) = refl
infix_of-infix_kind (Binary Remainder) = refl
infix_of-infix_kind Attribute = refl
infix_of-infix_kind Call = refl
infix_of-infix_kind Index = refl

pub prefix_of-prefix_kind : (p : Prefix) → prefix_of (prefix_kind p) ≡ Some p
unfolding prefix_of
prefix_of-prefix_kind Not = refl
prefix_of-prefix_kind (Unary Minus) = refl
prefix_of-prefix_kind (Unary Plus) = refl
prefix_of-prefix_kind (Unary Invert) = refl

-- ---- and the other way round

some_is : (k m : Tok) → ◌≡◌ {A = Option Tok} (Some k) (Some m) → k ≡ m
some_is k m e = cc

-- a row of a table of tests: where the test fails, what follows says it
step : {A : Type 0} (P : Type 0) (n m : ℕ) (x y : A) (next : Option A) → (if n == m then Some x else next) ≡ Some y → (n ≡ m → x ≡ y → P) → (next ≡ Some y → P) → P
step {A} P n m x y next e here later = go (n == m) refl e
  where
    go : (b : Bool) → (n == m) ≡ b → cond b (Some x) next ≡ Some y → P
    go true h k = let q : x ≡ y = cc in here (eqb-true n m h) q
    go false h k = later k

pub infix_kind_of : (k : Tok) (i : Infix) → infix_of k ≡ Some i → k ≡ infix_kind i
unfolding infix_sign infix_word
infix_kind_of (Keyword n) i e =
    step _ n 4 _ i _ e (λ h q. ap (λ n. Keyword n) h ∙ ap infix_kind q) (λ e.
    step _ n 28 _ i _ e (λ h q. ap (λ n. Keyword n) h ∙ ap infix_kind q) (λ e. absurd (cc)))
infix_kind_of (Sign n) i e =
    step _ n 1 _ i _ e (λ h q. ap (λ n. Sign n) h ∙ ap infix_kind q) (λ e.
    step _ n 2 _ i _ e (λ h q. ap (λ n. Sign n) h ∙ ap infix_kind q) (λ e.
    step _ n 3 _ i _ e (λ h q. ap (λ n. Sign n) h ∙ ap infix_kind q) (λ e.
    step _ n 4 _ i _ e (λ h q. ap (λ n. Sign n) h ∙ ap infix_kind q) (λ e.
    step _ n 5 _ i _ e (λ h q. ap (λ n. Sign n) h ∙ ap infix_kind q) (λ e.
    step _ n 6 _ i _ e (λ h q. ap (λ n. Sign n) h ∙ ap infix_kind q) (λ e.
    step _ n 7 _ i _ e (λ h q. ap (λ n. Sign n) h ∙ ap infix_kind q) (λ e.
    step _ n 8 _ i _ e (λ h q. ap (λ n. Sign n) h ∙ ap infix_kind q) (λ e.
    step _ n 10 _ i _ e (λ h q. ap (λ n. Sign n) h ∙ ap infix_kind q) (λ e.
    step _ n 11 _ i _ e (λ h q. ap (λ n. Sign n) h ∙ ap infix_kind q) (λ e.
    step _ n 12 _ i _ e (λ h q. ap (λ n. Sign n) h ∙ ap infix_kind q) (λ e.
    step _ n 13 _ i _ e (λ h q. ap (λ n. Sign n) h ∙ ap infix_kind q) (λ e.
    step _ n 14 _ i _ e (λ h q. ap (λ n. Sign n) h ∙ ap infix_kind q) (λ e.
    step _ n 15 _ i _ e (λ h q. ap (λ n. Sign n) h ∙ ap infix_kind q) (λ e.
    step _ n 16 _ i _ e (λ h q. ap (λ n. Sign n) h ∙ ap infix_kind q) (λ e.
    step _ n 17 _ i _ e (λ h q. ap (λ n. Sign n) h ∙ ap infix_kind q) (λ e.
    step _ n 29 _ i _ e (λ h q. ap (λ n. Sign n) h ∙ ap infix_kind q) (λ e.
    step _ n 31 _ i _ e (λ h q. ap (λ n. Sign n) h ∙ ap infix_kind q) (λ e.
    step _ n 35 _ i _ e (λ h q. ap (λ n. Sign n) h ∙ ap infix_kind q) (λ e. absurd (cc))))))))))))))))))))
infix_kind_of _ i e = absurd (cc)

pub prefix_kind_of : (k : Tok) (p : Prefix) → prefix_of k ≡ Some p → k ≡ prefix_kind p
unfolding prefix_of
prefix_kind_of (Keyword n) p e = step _ n 27 _ p _ e (λ h q. ap (λ n. Keyword n) h ∙ ap prefix_kind q) (λ e. absurd (cc))
prefix_kind_of (Sign n) p e =
    step _ n 1 _ p _ e (λ h q. ap (λ n. Sign n) h ∙ ap prefix_kind q) (λ e.
    step _ n 2 _ p _ e (λ h q. ap (λ n. Sign n) h ∙ ap prefix_kind q) (λ e.
    step _ n 9 _ p _ e (λ h q. ap (λ n. Sign n) h ∙ ap prefix_kind q) (λ e. absurd (cc))))
prefix_kind_of _ p e = absurd (cc)

pub augmented_of : (k : Tok) (op : Operator) → augment_of k ≡ Some op → augmented op ≡ Some k
unfolding augment_sign
augmented_of (Sign n) op e =
    step _ n 19 _ op _ e (λ h q. ap augmented (sym q) ∙ ap (λ n. Some (Sign n)) (sym h)) (λ e.
    step _ n 20 _ op _ e (λ h q. ap augmented (sym q) ∙ ap (λ n. Some (Sign n)) (sym h)) (λ e.
    step _ n 21 _ op _ e (λ h q. ap augmented (sym q) ∙ ap (λ n. Some (Sign n)) (sym h)) (λ e.
    step _ n 22 _ op _ e (λ h q. ap augmented (sym q) ∙ ap (λ n. Some (Sign n)) (sym h)) (λ e.
    step _ n 23 _ op _ e (λ h q. ap augmented (sym q) ∙ ap (λ n. Some (Sign n)) (sym h)) (λ e.
    step _ n 24 _ op _ e (λ h q. ap augmented (sym q) ∙ ap (λ n. Some (Sign n)) (sym h)) (λ e.
    step _ n 25 _ op _ e (λ h q. ap augmented (sym q) ∙ ap (λ n. Some (Sign n)) (sym h)) (λ e.
    step _ n 26 _ op _ e (λ h q. ap augmented (sym q) ∙ ap (λ n. Some (Sign n)) (sym h)) (λ e.
    step _ n 27 _ op _ e (λ h q. ap augmented (sym q) ∙ ap (λ n. Some (Sign n)) (sym h)) (λ e.
    step _ n 28 _ op _ e (λ h q. ap augmented (sym q) ∙ ap (λ n. Some (Sign n)) (sym h)) (λ e. absurd (cc)))))))))))
augmented_of _ op e = absurd (cc)

pub augment_of-augmented : (op : Operator) (k : Tok) → augmented op ≡ Some k → augment_of k ≡ Some op
unfolding augment_sign
augment_of-augmented Or k e = absurd (cc)
augment_of-augmented And k e = absurd (cc)
augment_of-augmented Equal k e = absurd (cc)
augment_of-augmented NotEqual k e = absurd (cc)
augment_of-augmented Less k e = absurd (cc)
augment_of-augmented LessEqual k e = absurd (cc)
augment_of-augmented Greater k e = absurd (cc)
augment_of-augmented GreaterEqual k e = absurd (cc)
augment_of-augmented BitOr k e = ap augment_of (sym (some_is (Sign 25) k e))
augment_of-augmented BitXor k e = ap augment_of (sym (some_is (Sign 26) k e))
augment_of-augmented BitAnd k e = ap augment_of (sym (some_is (Sign 24) k e))
augment_of-augmented ShiftLeft k e = ap augment_of (sym (some_is (Sign 27) k e))
augment_of-augmented ShiftRight k e = ap augment_of (sym (some_is (Sign 28) k e))
augment_of-augmented Add k e = ap augment_of (sym (some_is (Sign 19) k e))
augment_of-augmented Subtract k e = ap augment_of (sym (some_is (Sign 20) k e))
augment_of-augmented Multiply k e = ap augment_of (sym (some_is (Sign 21) k e))
augment_of-augmented Divide k e = ap augment_of (sym (some_is (Sign 22) k e))
augment_of-augmented Remainder k e = ap augment_of (sym (some_is (Sign 23) k e))

-- ---- levels

pub level-name : (text : List ℕ) → level (tree.Name text) ≡ 12
level-name text = search (rules, the_lemmas)

pub level-number : (n : ℤ) → level (tree.Number n) ≡ 12
level-number n = search (rules, the_lemmas)

pub level-string : (text : List ℕ) → level (tree.Str text) ≡ 12
level-string text = search (rules, the_lemmas)

pub level-true : level (tree.True) ≡ 12
level-true = search (rules, the_lemmas)

pub level-false : level (tree.False) ≡ 12
level-false = search (rules, the_lemmas)

pub level-none : level (tree.None) ≡ 12
level-none = search (rules, the_lemmas)

pub level-group : (a : PyExpr) → level (tree.Group a) ≡ 12
level-group a = search (rules, the_lemmas)

pub level-bracketed : (xs : List PyExpr) → level (tree.Bracketed xs) ≡ 12
level-bracketed xs = search (rules, the_lemmas)

pub level-tuple : (xs : List PyExpr) → level (tree.Tuple xs) ≡ 0
level-tuple xs = search (rules, the_lemmas)

pub level-list : (xs : List PyExpr) → level (tree.List xs) ≡ 12
level-list xs = search (rules, the_lemmas)

pub level-comprehension : (a : PyExpr) (name : List ℕ) (b : PyExpr) → level (tree.Comprehension a name b) ≡ 12
level-comprehension a name b = search (rules, the_lemmas)

pub level-not : (a : PyExpr) → level (tree.Not a) ≡ 3
level-not a = search (rules, the_lemmas)

pub level-unary : (sign : UnarySign) (a : PyExpr) → level (tree.Unary sign a) ≡ 11
level-unary sign a = search (rules, the_lemmas)

pub level-binary : (op : Operator) (a b : PyExpr) → level (tree.Binary op a b) ≡ op_level op
level-binary op a b = search (rules, the_lemmas)

pub level-attribute : (a : PyExpr) (name : List ℕ) → level (tree.Attribute a name) ≡ 12
level-attribute a name = search (rules, the_lemmas)

pub level-call : (f : PyExpr) (xs : List Argument) → level (tree.Call f xs) ≡ 12
level-call f xs = search (rules, the_lemmas)

pub level-index : (a b : PyExpr) → level (tree.Index a b) ≡ 12
level-index a b = search (rules, the_lemmas)

pub level-slice : (a b : PyExpr) (c : Option PyExpr) → level (tree.Slice a b c) ≡ 12
level-slice a b c = search (rules, the_lemmas)

pub level-whole : (a : PyExpr) → level (tree.Whole a) ≡ 12
level-whole a = search (rules, the_lemmas)

pub ruleset levels = (level-name, level-number, level-string, level-true, level-false, level-none, level-group, level-bracketed, level-tuple, level-list, level-comprehension, level-not, level-unary, level-binary, level-attribute, level-call, level-index, level-slice, level-whole)
