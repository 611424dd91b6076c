-- Tokens with their texts, as a grammar sees them: what a token is, the bytes that it is spelled by, and
-- its line. Nothing else of the place is left, so a sentence doesn't depend on one source.
use Rattle.std.specs.Prelude.{ℕ, List, map, slice_range}
use Rattle.mh_pytok.specs.declared.token.Tok.{Tok}
use Rattle.mh_pytok.specs.declared.token.Token.{Token}

pub record Lexeme : Type 0 where
  pub kind : Tok
  pub text : List ℕ
  pub line : ℕ

-- the bytes that a token of the source is spelled by
abbrev pub text_of : List ℕ → Token → List ℕ
text_of src t = slice_range src t.span.start t.span.end

abbrev pub lexeme : List ℕ → Token → Lexeme
lexeme src t = record { kind = t.kind; text = text_of src t; line = t.span.line }

abbrev pub lexemes : List ℕ → List Token → List Lexeme
lexemes src ts = map (lexeme src) ts
