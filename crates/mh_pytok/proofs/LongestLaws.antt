-- No sign that begins the bytes is longer than the one that is found.
use Rattle.std.proofs.Common.{◌≡◌, ℕ, zero, suc, ◌<◌, ◌≤◌, List, [], ◌∷◌, length, take, get_or, refl, sym, ◌∙◌, ap, subst, Some, None, Option, true, false, Bool, Contains, arith, leb, ◌&&◌}
use Rattle.std.specs.List.{list_all}
use Rattle.std.proofs.lemmas.List.{length-take}
use Rattle.std.proofs.lemmas.Bool.{leb-true}
use Rattle.mh_text.specs.Rows.{Entry, found}
use Rattle.mh_text.proofs.SpellingLaws.{found-contains, found-none}
use Rattle.mh_pytok.specs.Words.{signs, or_else, longest_sign}

abbrev is_short : Entry → Bool
is_short row = leb 1 (length row.spelling) && leb (length row.spelling) 3

all_short : list_all is_short signs ≡ true
unfolding signs
all_short = refl

first_so : (a b : Bool) → (a && b) ≡ true → a ≡ true
first_so true b h = refl
first_so false b h = absurd cc

second_so : (a b : Bool) → (a && b) ≡ true → b ≡ true
second_so true b h = h
second_so false b h = absurd cc

row_short : (rows : List Entry) (row : Entry) (k : ℕ) → list_all is_short rows ≡ true → k < length rows → get_or rows k row ≡ row → is_short row ≡ true
row_short [] row k all below is = absurd (omega arith)
row_short (x ∷ xs) row zero all below is = subst (λ (r : Entry). is_short r ≡ true) is (first_so (is_short x) (list_all is_short xs) all)
row_short (x ∷ xs) row (suc k) all below is = row_short xs row k (second_so (is_short x) (list_all is_short xs) all) (omega arith) is

abbrev Best : List ℕ → ℕ → Option Entry → Type 0
Best bytes n o = (best : Entry) × (o ≡ Some best) × (n ≤ length best.spelling)

-- found by n bytes, a sign is as long as n bytes or all bytes
as_long : (n k : ℕ) (bytes : List ℕ) (best : Entry) → found signs (take n bytes) ≡ Some best → k ≤ n → k ≤ length bytes → k ≤ length best.spelling
as_long n k bytes best h most within =
    let e : best.spelling ≡ take n bytes = (found-contains signs (take n bytes) best h).1 in
    omega (arith, ap length e, length-take n bytes)

-- a sign of n bytes is found by n bytes
not_found : (n : ℕ) (bytes : List ℕ) (row : Entry) → Contains signs row → take (length row.spelling) bytes ≡ row.spelling → found signs (take n bytes) ≡ None → length row.spelling ≡ n → ⊥
not_found n bytes row has is none same = found-none signs (take n bytes) row none has (sym is ∙ ap (λ (m : ℕ). take m bytes) same)

module _ (bytes : List ℕ) (row : Entry) (has : Contains signs row) (is : take (length row.spelling) bytes ≡ row.spelling) where
  within : length row.spelling ≤ length bytes
  within = omega (arith, ap length is, length-take (length row.spelling) bytes)

  short : (1 ≤ length row.spelling) × (length row.spelling ≤ 3)
  short =
      let s : is_short row ≡ true = row_short signs row has.0 all_short has.1 has.2 in
      (leb-true 1 _ (first_so (leb 1 (length row.spelling)) _ s), leb-true _ 3 (second_so (leb 1 (length row.spelling)) _ s))

  third : (o : Option Entry) → found signs (take 1 bytes) ≡ o → found signs (take 2 bytes) ≡ None → found signs (take 3 bytes) ≡ None → Best bytes (length row.spelling) o
  third (Some best) h none2 none3 =
      let a = not_found 3 bytes row has is none3 in let b = not_found 2 bytes row has is none2 in
      (best, refl, as_long 1 (length row.spelling) bytes best h (omega (arith, short.1)) within)
  third None h none2 none3 =
      let a = not_found 3 bytes row has is none3 in let b = not_found 2 bytes row has is none2 in let c = not_found 1 bytes row has is h in
      absurd (omega (arith, short.0, short.1))

  second : (o : Option Entry) → found signs (take 2 bytes) ≡ o → found signs (take 3 bytes) ≡ None → Best bytes (length row.spelling) (or_else o (found signs (take 1 bytes)))
  second (Some best) h none3 =
      let a = not_found 3 bytes row has is none3 in (best, refl, as_long 2 (length row.spelling) bytes best h (omega (arith, short.1)) within)
  second None h none3 = third (found signs (take 1 bytes)) refl h none3

  first : (o : Option Entry) → found signs (take 3 bytes) ≡ o → Best bytes (length row.spelling) (or_else o (or_else (found signs (take 2 bytes)) (found signs (take 1 bytes))))
  first (Some best) h = (best, refl, as_long 3 (length row.spelling) bytes best h short.1 within)
  first None h = second (found signs (take 2 bytes)) refl h

  pub longest : Best bytes (length row.spelling) (longest_sign bytes)
  unfolding longest_sign
  longest = first (found signs (take 3 bytes)) refl
