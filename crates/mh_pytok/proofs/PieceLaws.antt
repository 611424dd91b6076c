-- What stands next lies within the bytes, and a token's text is what its kind says.
use Rattle.std.proofs.Common.{◌≡◌, ℕ, zero, suc, ◌^◌, ◌<◌, ◌≤◌, List, [], ◌∷◌, length, take, get_or, refl, sym, subst, true, false, Bool, cond, ◌&&◌, ◌||◌, Some, None, Option, arith, eqb, IsSome, IsTrue, unwrap_or}
use Rattle.std.proofs.lemmas.Bool.{eqb-true, eqb-false, ltb-true}
use Rattle.std.proofs.lemmas.List.Sums.{prefix_len-le-length}
use Rattle.std.specs.List.{prefix_len, list_all}
use Rattle.mh_text.specs.Characters.{is_digit, is_name_start, is_name_part, is_identifier}
use Rattle.mh_text.specs.Rows.{Entry, found}
use Rattle.mh_text.specs.declared.code.Code.TheVariants.{L1BadByte, L5BadNumber}
use Rattle.mh_pytok.specs.Words.{keywords, longest_sign}
use Rattle.mh_pytok.specs.Numbers.{number_of, IsNumber, number_value}
use Rattle.mh_pytok.specs.Strings.{is_quote, string_length, IsQuoted}
use Rattle.mh_pytok.specs.Pieces as spec
use Rattle.mh_pytok.specs.Pieces.{is_comment_part, is_number_part, is_allowed, is_blank, closed_string, named, signed, piece}
use Rattle.mh_pytok.specs.declared.token.Tok.{Tok}
use Rattle.mh_pytok.specs.declared.token.Tok.TheVariants.{Name, Number, Str, Keyword, Sign, Newline, Indent, Dedent, End}
use Rattle.mh_pytok.specs.declared.shape.Piece.{Piece}
use Rattle.mh_pytok.specs.declared.shape.Piece.TheVariants.{Nothing, LineEnd, Gap, Word, Bad}
use Rattle.mh_pytok.specs.State.{LiesWithin}
use Rattle.mh_pytok.proofs.QuoteLaws.{IsString, string_is}
use Rattle.mh_pytok.proofs.WordLaws.{Begins, longest_begins}

-- what the text of a token of this kind is
abbrev pub Spelled : Tok → List ℕ → Type 0
Spelled Name text = IsTrue (is_identifier text) × (found keywords text ≡ None)
Spelled Number text = IsNumber text × (number_value text < 2 ^ 127)
Spelled Str text = IsQuoted text
Spelled (Keyword tag) text = Unit {0}
Spelled (Sign tag) text = Unit {0}
Spelled Newline text = ⊥
Spelled Indent text = ⊥
Spelled Dedent text = ⊥
Spelled End text = ⊥

pub record IsWord (kind : Tok) (n : ℕ) (bytes : List ℕ) : Type 0 where
  pub some : 0 < n
  pub within : n ≤ length bytes
  pub spelled : Spelled kind (take n bytes)

-- what a piece at the front of the bytes is
abbrev pub Shaped : Piece → List ℕ → Type 0
Shaped Nothing bytes = Unit {0}
Shaped LineEnd bytes = 0 < length bytes
Shaped (Gap n) bytes = (0 < n) × (n ≤ length bytes)
Shaped (Word kind n) bytes = IsWord kind n bytes
Shaped (Bad code) bytes = Unit {0}

pick : (b : Bool) (x y : Piece) (bytes : List ℕ) → (b ≡ true → Shaped x bytes) → (b ≡ false → Shaped y bytes) → Shaped (cond b x y) bytes
pick true x y bytes f g = f refl
pick false x y bytes f g = g refl

-- bytes
some_bytes : (bytes : List ℕ) → eqb (length bytes) 0 ≡ false → 0 < length bytes
some_bytes bytes h = let other : length bytes ≡ 0 → ⊥ = eqb-false (length bytes) 0 h in omega arith

byte_within : (bytes : List ℕ) (k m : ℕ) → get_or bytes k 0 ≡ suc m → k < length bytes
byte_within [] k m h = absurd (omega arith)
byte_within (b ∷ bs) zero m h = omega arith
byte_within (b ∷ bs) (suc k) m h = let below : k < length bs = byte_within bs k m h in omega arith

begins : (p : ℕ → Bool) (bytes : List ℕ) → 0 < length bytes → p (get_or bytes 0 0) ≡ true → 0 < prefix_len p bytes
begins p [] h is = absurd (omega arith)
begins p (b ∷ bs) h is = rw is (omega arith)

both_first : (a b : Bool) → (a && b) ≡ true → a ≡ true
both_first true b h = refl
both_first false b h = absurd cc

both_second : (a b : Bool) → (a && b) ≡ true → b ≡ true
both_second true b h = h
both_second false b h = absurd cc

both : {a b : Bool} → a ≡ true → b ≡ true → (a && b) ≡ true
both h k = rw h k

or_first : (a b : Bool) → a ≡ true → (a || b) ≡ true
or_first a b h = rw h refl

or_second : (a b : Bool) → b ≡ true → (a || b) ≡ true
or_second true b h = refl
or_second false b h = h

-- a joined line
joined_shaped : (bytes : List ℕ) → Shaped (spec.joined bytes) bytes
unfolding spec.joined
joined_shaped bytes = pick (eqb (get_or bytes 1 0) 10) (Gap 2) _ bytes
    (λ h. let below : 1 < length bytes = byte_within bytes 1 9 (eqb-true _ 10 h) in (omega arith, omega arith))
    (λ _. pick (eqb (get_or bytes 1 0) 13 && eqb (get_or bytes 2 0) 10) (Gap 3) (Bad L1BadByte) bytes
    (λ h. let below : 2 < length bytes = byte_within bytes 2 9 (eqb-true _ 10 (both_second (eqb (get_or bytes 1 0) 13) _ h)) in (omega arith, omega arith))
    (λ _. tt))

-- a number
number_spelled : (o : Option ℕ) → is_allowed o ≡ true → IsSome o × (unwrap_or o 0 < 2 ^ 127)
number_spelled None h = absurd cc
number_spelled (Some n) h = (refl, ltb-true n (2 ^ 127) h)

number_shaped : (bytes : List ℕ) → 0 < length bytes → is_digit (get_or bytes 0 0) ≡ true → Shaped (spec.number bytes) bytes
unfolding spec.number
number_shaped bytes h is = pick (is_allowed (number_of (take (prefix_len is_number_part bytes) bytes))) (Word Number (prefix_len is_number_part bytes)) (Bad L5BadNumber) bytes
    (λ ok. record {
      some = begins is_number_part bytes h (or_first (is_name_part (get_or bytes 0 0)) _ (or_second (is_name_start (get_or bytes 0 0)) _ is));
      within = prefix_len-le-length is_number_part bytes;
      spelled = number_spelled (number_of (take (prefix_len is_number_part bytes) bytes)) ok;
    })
    (λ _. tt)

-- a name
prefix_more : (p : ℕ → Bool) (b : ℕ) (bs : List ℕ) → p b ≡ true → prefix_len p (b ∷ bs) ≡ suc (prefix_len p bs)
prefix_more p b bs h = rw h (omega arith)

prefix_none : (p : ℕ → Bool) (b : ℕ) (bs : List ℕ) → p b ≡ false → prefix_len p (b ∷ bs) ≡ 0
prefix_none p b bs h = rw h refl

all_at : (p : ℕ → Bool) (b : ℕ) (bs : List ℕ) (t : Bool) → p b ≡ t → list_all p (take (prefix_len p bs) bs) ≡ true →
    list_all p (take (prefix_len p (b ∷ bs)) (b ∷ bs)) ≡ true
all_at p b bs true h rest = subst (λ n. list_all p (take n (b ∷ bs)) ≡ true) (sym (prefix_more p b bs h)) (rw h rest)
all_at p b bs false h rest = subst (λ n. list_all p (take n (b ∷ bs)) ≡ true) (sym (prefix_none p b bs h)) refl

all_of_prefix : (p : ℕ → Bool) (bs : List ℕ) → list_all p (take (prefix_len p bs) bs) ≡ true
all_of_prefix p [] = refl
all_of_prefix p (b ∷ bs) = all_at p b bs (p b) refl (all_of_prefix p bs)

identifier : (bytes : List ℕ) → 0 < length bytes → is_name_start (get_or bytes 0 0) ≡ true → is_identifier (take (prefix_len is_name_part bytes) bytes) ≡ true
unfolding is_identifier
identifier [] h is = absurd (omega arith)
identifier (b ∷ bs) h is =
    let part : is_name_part b ≡ true = or_first (is_name_start b) _ is in
    subst (λ n. is_identifier (take n (b ∷ bs)) ≡ true) (sym (prefix_more is_name_part b bs part)) (both {a = is_name_start b} is (all_of_prefix is_name_part bs))

name_at : (bytes : List ℕ) (n : ℕ) (o : Option Entry) → o ≡ found keywords (take n bytes) → 0 < n → n ≤ length bytes → is_identifier (take n bytes) ≡ true → Shaped (named o n) bytes
name_at bytes n None h some within is = record { some = some; within = within; spelled = (is, sym h) }
name_at bytes n (Some row) h some within is = record { some = some; within = within; spelled = tt }

name_shaped : (bytes : List ℕ) → 0 < length bytes → is_name_start (get_or bytes 0 0) ≡ true → Shaped (spec.name bytes) bytes
unfolding spec.name
name_shaped bytes h is =
    name_at bytes (prefix_len is_name_part bytes) (found keywords (take (prefix_len is_name_part bytes) bytes)) refl
    (begins is_name_part bytes h (or_first (is_name_start (get_or bytes 0 0)) _ is)) (prefix_len-le-length is_name_part bytes) (identifier bytes h is)

-- a sign
sign_at : (bytes : List ℕ) (o : Option Entry) → longest_sign bytes ≡ o → Shaped (signed o) bytes
sign_at bytes None h = tt
sign_at bytes (Some row) h = let at : Begins bytes row = longest_begins bytes row h in record { some = at.some; within = at.within; spelled = tt }

sign_shaped : (bytes : List ℕ) → Shaped (spec.sign bytes) bytes
unfolding spec.sign
sign_shaped bytes = sign_at bytes (longest_sign bytes) refl

-- a string
string_at : (bytes : List ℕ) (o : Option ℕ) → is_quote (get_or bytes 0 0) ≡ true → string_length bytes ≡ o → Shaped (closed_string o) bytes
string_at bytes None quote h = tt
string_at bytes (Some n) quote h = let at : IsString n bytes = string_is bytes n quote h in record { some = at.some; within = at.within; spelled = at.quoted }

string_shaped : (bytes : List ℕ) → is_quote (get_or bytes 0 0) ≡ true → Shaped (spec.string bytes) bytes
unfolding spec.string
string_shaped bytes quote = string_at bytes (string_length bytes) quote refl

not_lf : (b : ℕ) → b ≡ 35 → is_comment_part b ≡ true
not_lf b h = rw h refl

-- what stands next
pub piece-shaped : (bytes : List ℕ) → Shaped (piece bytes) bytes
unfolding piece
piece-shaped bytes =
    pick (eqb (length bytes) 0) Nothing _ bytes (λ _. tt) (λ full. let h : 0 < length bytes = some_bytes bytes full in
    pick (eqb (get_or bytes 0 0) 10) LineEnd _ bytes (λ _. h) (λ _.
    pick (is_blank bytes) (Gap 1) _ bytes (λ _. (omega arith, omega arith)) (λ _.
    pick (eqb (get_or bytes 0 0) 35) (Gap (prefix_len is_comment_part bytes)) _ bytes
    (λ mark. (begins is_comment_part bytes h (not_lf (get_or bytes 0 0) (eqb-true (get_or bytes 0 0) 35 mark)), prefix_len-le-length is_comment_part bytes)) (λ _.
    pick (eqb (get_or bytes 0 0) 92) (spec.joined bytes) _ bytes (λ _. joined_shaped bytes) (λ _.
    pick (is_quote (get_or bytes 0 0)) (spec.string bytes) _ bytes (string_shaped bytes) (λ _.
    pick (is_digit (get_or bytes 0 0)) (spec.number bytes) _ bytes (number_shaped bytes h) (λ _.
    pick (is_name_start (get_or bytes 0 0)) (spec.name bytes) (spec.sign bytes) bytes (name_shaped bytes h) (λ _. sign_shaped bytes))))))))

within_shape : (x : Piece) (bytes : List ℕ) → Shaped x bytes → LiesWithin x bytes
within_shape Nothing bytes h = tt
within_shape LineEnd bytes h = h
within_shape (Gap n) bytes h = h
within_shape (Word kind n) bytes h = (h.some, h.within)
within_shape (Bad code) bytes h = tt

pub piece-within : (bytes : List ℕ) → LiesWithin (piece bytes) bytes
piece-within bytes = within_shape (piece bytes) bytes (piece-shaped bytes)
