-- The grammar of expressions: one case for each production (Python Language Reference, sections 6.2 to 6.16, in this project's subset).
use Rattle.std.specs.Prelude.{◌≡◌, ℕ, pos, ◌≤◌, ◌+◌, List, [], ◌∷◌, ◌++◌, Option, Some, None}
use Rattle.mh_pytok.specs.Lexeme.{Lexeme}
use Rattle.mh_pytok.specs.Numbers.{number_value}
use Rattle.mh_pytok.specs.Strings.{string_value}
use Rattle.mh_pytok.specs.declared.token.Tok.{Tok}
use Rattle.mh_pytok.specs.declared.token.Tok.TheVariants.{Name, Number, Str}
use Rattle.mh_pytree.specs.declared.expression.Operator.{Operator}
use Rattle.mh_pytree.specs.declared.expression.Sign.{Sign as UnarySign}
use Rattle.mh_pytree.specs.declared.expression.PyExpr.{PyExpr}
use Rattle.mh_pytree.specs.declared.expression.PyExpr.TheVariants as tree
use Rattle.mh_pytree.specs.declared.expression.Argument.{Argument, roll-Argument}
use Rattle.mh_pyparse.specs.Signs.{false_word, none_word, true_word, for_word, in_word, not_word, equals, lparen, rparen, lbracket, rbracket, comma, colon, dot, prefix_sign, spelled, op_level, left_level}

-- how a token is spelled, and the line that it stands on
pub record Spot : Type 0 where
  pub text : List ℕ
  pub line : ℕ

-- the token of this kind that stands there
abbrev pub tok : Tok → Spot → Lexeme
tok kind at = record { kind = kind; text = at.text; line = at.line }

-- an argument of a call, with its name where it has one
abbrev pub argument : Option (List ℕ) → PyExpr → Argument
argument name value = roll-Argument (record { name = name; value = value })

-- `IsExpr l t u`: the tokens u are the expression t, where one of level l or above may stand.
-- `AreItems xs u`: the tokens u are the expressions xs with commas between, and maybe one more at the end.
-- `AreArguments xs u`: so are they the arguments xs.
mutual
  pub data IsExpr : ℕ → PyExpr → List Lexeme → Type 0 where
    name : {l : ℕ} {t : PyExpr} {u : List Lexeme} (at : Spot) → l ≤ 12 →
        t ≡ tree.Name at.text → u ≡ tok Name at ∷ [] → IsExpr l t u
    number : {l : ℕ} {t : PyExpr} {u : List Lexeme} (at : Spot) → l ≤ 12 →
        t ≡ tree.Number (pos (number_value at.text)) → u ≡ tok Number at ∷ [] → IsExpr l t u
    string : {l : ℕ} {t : PyExpr} {u : List Lexeme} (at : Spot) → l ≤ 12 →
        t ≡ tree.Str (string_value at.text) → u ≡ tok Str at ∷ [] → IsExpr l t u
    truth : {l : ℕ} {t : PyExpr} {u : List Lexeme} (at : Spot) → l ≤ 12 →
        t ≡ tree.True → u ≡ tok true_word at ∷ [] → IsExpr l t u
    falsehood : {l : ℕ} {t : PyExpr} {u : List Lexeme} (at : Spot) → l ≤ 12 →
        t ≡ tree.False → u ≡ tok false_word at ∷ [] → IsExpr l t u
    nothing : {l : ℕ} {t : PyExpr} {u : List Lexeme} (at : Spot) → l ≤ 12 →
        t ≡ tree.None → u ≡ tok none_word at ∷ [] → IsExpr l t u
    -- brackets round one expression
    group : {l : ℕ} {t : PyExpr} {u : List Lexeme} (at to : Spot) (a : PyExpr) (v : List Lexeme) → l ≤ 12 → IsExpr 1 a v →
        t ≡ tree.Group a → u ≡ tok lparen at ∷ (v ++ tok rparen to ∷ []) → IsExpr l t u
    -- a tuple in brackets: nothing, or an expression and a comma, and what follows
    empty : {l : ℕ} {t : PyExpr} {u : List Lexeme} (at to : Spot) → l ≤ 12 →
        t ≡ tree.Bracketed [] → u ≡ tok lparen at ∷ tok rparen to ∷ [] → IsExpr l t u
    bracketed : {l : ℕ} {t : PyExpr} {u : List Lexeme} (at between to : Spot) (x : PyExpr) (others : List PyExpr) (v w : List Lexeme) → l ≤ 12 →
        IsExpr 1 x v → AreItems others w →
        t ≡ tree.Bracketed (x ∷ others) → u ≡ tok lparen at ∷ (v ++ tok comma between ∷ (w ++ tok rparen to ∷ [])) → IsExpr l t u
    list : {l : ℕ} {t : PyExpr} {u : List Lexeme} (at to : Spot) (xs : List PyExpr) (v : List Lexeme) → l ≤ 12 → AreItems xs v →
        t ≡ tree.List xs → u ≡ tok lbracket at ∷ (v ++ tok rbracket to ∷ []) → IsExpr l t u
    comprehension : {l : ℕ} {t : PyExpr} {u : List Lexeme} (at at_for at_name at_in to : Spot) (a b : PyExpr) (v w : List Lexeme) → l ≤ 12 →
        IsExpr 1 a v → IsExpr 1 b w →
        t ≡ tree.Comprehension a at_name.text b →
        u ≡ tok lbracket at ∷ (v ++ tok for_word at_for ∷ tok Name at_name ∷ tok in_word at_in ∷ (w ++ tok rbracket to ∷ [])) → IsExpr l t u
    negation : {l : ℕ} {t : PyExpr} {u : List Lexeme} (at : Spot) (a : PyExpr) (v : List Lexeme) → l ≤ 3 → IsExpr 3 a v →
        t ≡ tree.Not a → u ≡ tok not_word at ∷ v → IsExpr l t u
    unary : {l : ℕ} {t : PyExpr} {u : List Lexeme} (sign : UnarySign) (at : Spot) (a : PyExpr) (v : List Lexeme) → l ≤ 11 → IsExpr 11 a v →
        t ≡ tree.Unary sign a → u ≡ tok (prefix_sign sign) at ∷ v → IsExpr l t u
    binary : {l : ℕ} {t : PyExpr} {u : List Lexeme} (op : Operator) (at : Spot) (a b : PyExpr) (v w : List Lexeme) → l ≤ op_level op →
        IsExpr (left_level op) a v → IsExpr (op_level op + 1) b w →
        t ≡ tree.Binary op a b → u ≡ v ++ tok (spelled op) at ∷ w → IsExpr l t u
    attribute : {l : ℕ} {t : PyExpr} {u : List Lexeme} (at at_name : Spot) (a : PyExpr) (v : List Lexeme) → l ≤ 12 → IsExpr 12 a v →
        t ≡ tree.Attribute a at_name.text → u ≡ v ++ tok dot at ∷ tok Name at_name ∷ [] → IsExpr l t u
    call : {l : ℕ} {t : PyExpr} {u : List Lexeme} (at to : Spot) (f : PyExpr) (xs : List Argument) (v w : List Lexeme) → l ≤ 12 →
        IsExpr 12 f v → AreArguments xs w →
        t ≡ tree.Call f xs → u ≡ v ++ tok lparen at ∷ (w ++ tok rparen to ∷ []) → IsExpr l t u
    index : {l : ℕ} {t : PyExpr} {u : List Lexeme} (at to : Spot) (a b : PyExpr) (v w : List Lexeme) → l ≤ 12 →
        IsExpr 12 a v → IsExpr 1 b w →
        t ≡ tree.Index a b → u ≡ v ++ tok lbracket at ∷ (w ++ tok rbracket to ∷ []) → IsExpr l t u
    -- `a[b:]`, `a[b:c]` and `a[:]`
    slice_from : {l : ℕ} {t : PyExpr} {u : List Lexeme} (at between to : Spot) (a b : PyExpr) (v w : List Lexeme) → l ≤ 12 →
        IsExpr 12 a v → IsExpr 1 b w →
        t ≡ tree.Slice a b None → u ≡ v ++ tok lbracket at ∷ (w ++ tok colon between ∷ tok rbracket to ∷ []) → IsExpr l t u
    slice : {l : ℕ} {t : PyExpr} {u : List Lexeme} (at between to : Spot) (a b c : PyExpr) (v w x : List Lexeme) → l ≤ 12 →
        IsExpr 12 a v → IsExpr 1 b w → IsExpr 1 c x →
        t ≡ tree.Slice a b (Some c) → u ≡ v ++ tok lbracket at ∷ (w ++ tok colon between ∷ (x ++ tok rbracket to ∷ [])) → IsExpr l t u
    whole : {l : ℕ} {t : PyExpr} {u : List Lexeme} (at between to : Spot) (a : PyExpr) (v : List Lexeme) → l ≤ 12 → IsExpr 12 a v →
        t ≡ tree.Whole a → u ≡ v ++ tok lbracket at ∷ tok colon between ∷ tok rbracket to ∷ [] → IsExpr l t u

  pub data AreItems : List PyExpr → List Lexeme → Type 0 where
    none : {xs : List PyExpr} {u : List Lexeme} → xs ≡ [] → u ≡ [] → AreItems xs u
    last : {xs : List PyExpr} {u : List Lexeme} (x : PyExpr) → IsExpr 1 x u → xs ≡ x ∷ [] → AreItems xs u
    more : {xs : List PyExpr} {u : List Lexeme} (at : Spot) (x : PyExpr) (others : List PyExpr) (v w : List Lexeme) →
        IsExpr 1 x v → AreItems others w →
        xs ≡ x ∷ others → u ≡ v ++ tok comma at ∷ w → AreItems xs u

  pub data AreArguments : List Argument → List Lexeme → Type 0 where
    none_given : {xs : List Argument} {u : List Lexeme} → xs ≡ [] → u ≡ [] → AreArguments xs u
    last_given : {xs : List Argument} {u : List Lexeme} (x : Argument) → IsArgument x u → xs ≡ x ∷ [] → AreArguments xs u
    more_given : {xs : List Argument} {u : List Lexeme} (at : Spot) (x : Argument) (others : List Argument) (v w : List Lexeme) →
        IsArgument x v → AreArguments others w →
        xs ≡ x ∷ others → u ≡ v ++ tok comma at ∷ w → AreArguments xs u

  pub data IsArgument : Argument → List Lexeme → Type 0 where
    plain : {x : Argument} {u : List Lexeme} (a : PyExpr) → IsExpr 1 a u → x ≡ argument None a → IsArgument x u
    named : {x : Argument} {u : List Lexeme} (at_name at : Spot) (a : PyExpr) (v : List Lexeme) → IsExpr 1 a v →
        x ≡ argument (Some at_name.text) a → u ≡ tok Name at_name ∷ tok equals at ∷ v → IsArgument x u

-- one expression, or a tuple without brackets, which has a comma
pub data AreExprs : PyExpr → List Lexeme → Type 0 where
  single : {t : PyExpr} {u : List Lexeme} → IsExpr 1 t u → AreExprs t u
  tuple : {t : PyExpr} {u : List Lexeme} (at : Spot) (x : PyExpr) (others : List PyExpr) (v w : List Lexeme) → IsExpr 1 x v → AreItems others w →
      t ≡ tree.Tuple (x ∷ others) → u ≡ v ++ tok comma at ∷ w → AreExprs t u
