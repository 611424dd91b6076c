-- A token as a grammar sees it: with its text, and without where that lies. K is the type of the kinds.
use Rattle.std.specs.Prelude.{ℕ, ◌≤◌, Bool, List, [], ◌∷◌, length, map, slice_range, Option, Some, None, refl, if◌then◌else◌}
use Rattle.std.specs.Coded.{Coded, code_by, coded×, coded_ℕ, coded_list}
use Rattle.mh_reader.specs.declared.token.Token.{Token}

pub record Lexeme (K : Type 0) : Type 0 where
  pub kind : K
  pub text : List ℕ
  pub line : ℕ

-- a lexeme is stored as the tuple of its fields
abbrev pub lexeme_code : {K : Type 0} → Coded K → Coded (Lexeme K)
lexeme_code {K} kinds =
    code_by (K × (List ℕ × ℕ)) (coded× kinds (coded× (coded_list coded_ℕ) coded_ℕ)) (λ t. (t.kind, (t.text, t.line)))
    (λ p. record { kind = p.0; text = p.1.0; line = p.1.1 }) (λ _. refl)

abbrev pub lexeme : {K : Type 0} → List ℕ → Token K → Lexeme K
lexeme src t = record { kind = t.kind; text = slice_range src t.span.start t.span.end; line = t.span.line }

abbrev pub lexemes : {K : Type 0} → List ℕ → List (Token K) → List (Lexeme K)
lexemes src ts = map (lexeme src) ts

abbrev pub AreIn : {K : Type 0} → List ℕ → List (Token K) → Type 0
AreIn src [] = Unit {0}
AreIn src (t ∷ ts) = ((t.span.start ≤ t.span.end) × (t.span.end ≤ length src)) × AreIn src ts

abbrev pub kind_at : {K : Type 0} → List (Lexeme K) → Option K
kind_at [] = None
kind_at (t ∷ ts) = Some t.kind

abbrev pub text_at : {K : Type 0} → List (Lexeme K) → List ℕ
text_at [] = []
text_at (t ∷ ts) = t.text

abbrev pub line_at : {K : Type 0} → List (Lexeme K) → ℕ
line_at [] = 0
line_at (t ∷ ts) = t.line

-- whether a token is of this kind
abbrev pub is_of : {K : Type 0} → (K → K → Bool) → K → Lexeme K → Bool
is_of same k t = same t.kind k

-- the text of a token of this kind
abbrev pub text_if : {K : Type 0} → (K → K → Bool) → K → Lexeme K → Option (List ℕ)
text_if same k t = if is_of same k t then Some t.text else None
