-- The longest sign.
use Rattle.std.proofs.Common.{◌≡◌, ℕ, zero, suc, ◌<◌, ◌≤◌, List, [], ◌∷◌, length, take, refl, sym, ◌∙◌, ap, subst, Some, None, Option, ◌⊎◌, inl, inr, arith}
use Rattle.std.proofs.lemmas.List.{length-take}
use Rattle.mh_text.specs.Rows.{Entry, found}
use Rattle.mh_text.proofs.SpellingLaws.{found-contains}
use Rattle.std.proofs.lemmas.Option.{none-some}
use Rattle.mh_pytok.specs.Words.{signs, or_else, longest_sign}

-- a sign's row, of bytes that begin with its spelling
pub record Begins (bytes : List ℕ) (row : Entry) : Type 0 where
  pub some : 0 < length row.spelling
  pub within : length row.spelling ≤ length bytes
  pub is : take (length row.spelling) bytes ≡ row.spelling

no_sign_of_nothing : found signs [] ≡ None
unfolding found signs
no_sign_of_nothing = refl

-- a text that a row has isn't empty
some_text : (text : List ℕ) (row : Entry) → found signs text ≡ Some row → 0 < length text
some_text [] row h = absurd (none-some row (sym no_sign_of_nothing ∙ h))
some_text (b ∷ bs) row h = omega arith

take_own : (n : ℕ) (bytes : List ℕ) → take (length (take n bytes)) bytes ≡ take n bytes
take_own zero bytes = refl
take_own (suc n) [] = refl
take_own (suc n) (b ∷ bs) = ap (λ xs. b ∷ xs) (take_own n bs)

begins : (n : ℕ) (bytes : List ℕ) (row : Entry) → found signs (take n bytes) ≡ Some row → Begins bytes row
begins n bytes row h =
    let e : row.spelling ≡ take n bytes = (found-contains signs (take n bytes) row h).1 in
    record {
      some = subst (λ t. 0 < length t) (sym e) (some_text (take n bytes) row h);
      within = subst (λ t. length t ≤ length bytes) (sym e) (omega (arith, length-take n bytes));
      is = subst (λ t. take (length t) bytes ≡ t) (sym e) (take_own n bytes);
    }

either : (x y : Option Entry) (row : Entry) → or_else x y ≡ Some row → (x ≡ Some row) ⊎ (y ≡ Some row)
either None y row h = inr h
either (Some x) y row h = inl h

-- the longest sign's spelling begins the bytes
pub longest_begins : (bytes : List ℕ) (row : Entry) → longest_sign bytes ≡ Some row → Begins bytes row
unfolding longest_sign
longest_begins bytes row h = elim (either (found signs (take 3 bytes)) (or_else (found signs (take 2 bytes)) (found signs (take 1 bytes))) row h) [
  | inl first ↦ begins 3 bytes row first
  | inr rest ↦ elim (either (found signs (take 2 bytes)) (found signs (take 1 bytes)) row rest) [
    | inl second ↦ begins 2 bytes row second
    | inr third ↦ begins 1 bytes row third
  ]
]
