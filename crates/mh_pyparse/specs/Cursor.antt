-- What the parser's functions say of the tokens that they read from.
use Rattle.std.specs.Prelude.{◌≡◌, ◌≤◌, ℕ, List, [], ◌∷◌, length, Option, Some, None, Result, Ok, Err}
use Rattle.mh_reader.specs.Reader.{want}
use Rattle.mh_reader.specs.declared.fault.Fault.{Fault}
use Rattle.mh_reader.specs.declared.fault.Fault.TheVariants.{Memory, Syntax}
use Rattle.mh_pytok.specs.Lexeme.{Lexeme}
use Rattle.mh_pytok.specs.Readable.{HasNumber}
use Rattle.mh_pytok.specs.Strings.{string_value}
use Rattle.mh_pytok.specs.declared.token.Tok.{Tok}
use Rattle.mh_pytok.specs.declared.token.Tok.TheVariants.{Str}
use Rattle.mh_pytok.specs.declared.token.Token.{Token}
use Rattle.mh_pyparse.specs.Reading.{text_if}

-- Each token lies in the source, and the text of a number has its form.
abbrev pub AreIn : List ℕ → List Token → Type 0
AreIn src [] = Unit {0}
AreIn src (t ∷ ts) = (t.span.start ≤ t.span.end) × (t.span.end ≤ length src) × HasNumber src t × AreIn src ts

abbrev pub kind_at : List Lexeme → Option Tok
kind_at [] = None
kind_at (t ∷ ts) = Some t.kind

abbrev pub text_at : List Lexeme → List ℕ
text_at [] = []
text_at (t ∷ ts) = t.text

-- a string was read, or refused
abbrev pub ReadsString : List Lexeme → Result (List ℕ) Fault → List Lexeme → Type 0
ReadsString ts (Ok s) new = (s ≡ string_value (text_at ts)) × (want (text_if Str) ts ≡ Ok (text_at ts, new))
ReadsString ts (Err Memory) new = Unit {0}
ReadsString ts (Err Syntax) new = want (text_if Str) ts ≡ Err new
