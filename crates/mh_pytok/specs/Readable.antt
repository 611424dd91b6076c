-- What a parser may ask of the tokens of a source.
use Rattle.std.specs.Prelude.{ℕ, suc, ◌+◌, ◌-◌, ◌^◌, ◌≡◌, ◌≢◌, ◌<◌, ◌≤◌, List, [], ◌∷◌, ◌++◌, length, IsTrue, None}
use Rattle.std.specs.List.{AllByRecursion}
use Rattle.mh_text.specs.Characters.{is_identifier}
use Rattle.mh_text.specs.Rows.{found}
use Rattle.mh_pytok.specs.Lexeme.{text_of}
use Rattle.mh_pytok.specs.Words.{keywords}
use Rattle.mh_pytok.specs.Numbers.{IsNumber, number_value}
use Rattle.mh_pytok.specs.Strings.{IsQuoted}
use Rattle.mh_pytok.specs.declared.token.Tok.{Tok}
use Rattle.mh_pytok.specs.declared.token.Tok.TheVariants.{Name, Number, Str, Keyword, Sign, Newline, Indent, Dedent, End}
use Rattle.mh_pytok.specs.declared.token.Token.{Token}

-- a token is no End
abbrev pub IsNoEnd : Token → Type 0
IsNoEnd t = t.kind ≢ End

-- The last token is an End, and the only one.
pub record EndsOnce (ts : List Token) : Type 0 where
  pub front : List Token
  pub last : Token
  pub is : ts ≡ front ++ last ∷ []
  pub ended : last.kind ≡ End
  pub others : AllByRecursion IsNoEnd front

-- A token has no place outside the source.
pub record LiesInside (src : List ℕ) (t : Token) : Type 0 where
  pub start : t.span.start ≤ t.span.end
  pub end : t.span.end ≤ length src
  pub line : t.span.line ≤ 1 + length src

-- The tokens stand one behind the other, from a place on.
abbrev pub AreInOrder : ℕ → List Token → Type 0
AreInOrder from [] = Unit {0}
AreInOrder from (t ∷ ts) = (from ≤ t.span.start) × (t.span.start ≤ t.span.end) × AreInOrder t.span.end ts

-- how many blocks are open behind a token, of those before it
abbrev pub depth_behind : Tok → ℕ → ℕ
depth_behind Name depth = depth
depth_behind Number depth = depth
depth_behind Str depth = depth
depth_behind (Keyword tag) depth = depth
depth_behind (Sign tag) depth = depth
depth_behind Newline depth = depth
depth_behind Indent depth = suc depth
depth_behind Dedent depth = depth - 1
depth_behind End depth = depth

-- Each Dedent closes a block that an Indent opened, and at the end none is open.
abbrev pub IsBalanced : ℕ → List Token → Type 0
IsBalanced depth [] = depth ≡ 0
IsBalanced depth (t ∷ ts) = (t.kind ≡ Dedent → 0 < depth) × IsBalanced (depth_behind t.kind depth) ts

-- The text of a Name is an identifier, and no keyword's spelling.
abbrev pub HasName : List ℕ → Token → Type 0
HasName src t = t.kind ≡ Name → IsTrue (is_identifier (text_of src t)) × (found keywords (text_of src t) ≡ None)

-- The text of a Number is that of a number of at most 2 ^ 127 - 1.
abbrev pub HasNumber : List ℕ → Token → Type 0
HasNumber src t = t.kind ≡ Number → IsNumber (text_of src t) × (number_value (text_of src t) < 2 ^ 127)

-- The text of a Str is that of a string.
abbrev pub HasString : List ℕ → Token → Type 0
HasString src t = t.kind ≡ Str → IsQuoted (text_of src t)

pub record Readable (src : List ℕ) (ts : List Token) : Type 0 where
  pub ends : EndsOnce ts
  pub inside : AllByRecursion (LiesInside src) ts
  pub ordered : AreInOrder 0 ts
  pub balanced : IsBalanced 0 ts
  pub names : AllByRecursion (HasName src) ts
  pub numbers : AllByRecursion (HasNumber src) ts
  pub strings : AllByRecursion (HasString src) ts
