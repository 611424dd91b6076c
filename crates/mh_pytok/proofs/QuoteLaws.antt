-- A string at the front lies within the bytes, and its text is that of a string.
use Rattle.std.proofs.Common.{◌≡◌, ℕ, zero, suc, ◌<◌, ◌≤◌, List, [], ◌∷◌, length, take, drop, get_or, refl, sym, ◌∙◌, ap, subst, true, false, Bool, ◌&&◌, Some, arith, eqb}
use Rattle.std.proofs.lemmas.Bool.{ne_eqb}
use Rattle.std.proofs.lemmas.List.{length-take-le}
use Rattle.mh_pytok.specs.Strings.{is_quote, is_triple, string_end, string_length, IsQuoted}
use Rattle.mh_pytok.proofs.EndLaws.{Cut, string_end-cut}

pub record IsString (n : ℕ) (bytes : List ℕ) : Type 0 where
  pub some : 0 < n
  pub within : n ≤ length bytes
  pub quoted : IsQuoted (take n bytes)

-- 0 is no quote
zero_quote : (a : ℕ) → is_quote a ≡ true → eqb 0 a ≡ false
zero_quote a h = ne_eqb 0 a (λ e. let z : is_quote 0 ≡ true = subst (λ x. is_quote x ≡ true) (sym e) h in absurd cc)

none_last : (t : Bool) → (t && false) ≡ false
none_last true = refl
none_last false = refl

-- two quotes in a row are no three, where the bytes are cut
not_triple : (a b k : ℕ) (bs : List ℕ) → eqb 0 a ≡ false → (eqb b a && eqb (get_or bs 0 0) a) ≡ false → (eqb b a && eqb (get_or (take k bs) 0 0) a) ≡ false
not_triple a b zero bs z h = rw z (none_last (eqb b a))
not_triple a b (suc k) [] z h = rw z (none_last (eqb b a))
not_triple a b (suc k) (c ∷ cs) z h = h

triple_string : (a b c : ℕ) (rest : List ℕ) (n : ℕ) → is_quote a ≡ true → is_triple (a ∷ b ∷ c ∷ rest) ≡ true → string_end a 3 3 false 3 rest ≡ Some n →
    IsString n (a ∷ b ∷ c ∷ rest)
unfolding string_length
triple_string a b c rest n quote three end = at (string_end-cut a 3 3 false 3 rest n end)
  where
    cut : (k : ℕ) → suc k ≤ length rest → string_end a 3 3 false 3 (take (suc k) rest) ≡ Some (suc (suc (suc (suc k)))) → IsString (suc (suc (suc (suc k)))) (a ∷ b ∷ c ∷ rest)
    cut k within is = record {
      some = omega arith;
      within = omega arith;
      quoted = (quote, rw three (is ∙ ap Some (omega (arith, length-take-le (suc k) rest within))));
    }

    at : Cut (λ j. string_end a 3 3 false 3 (take j rest)) 3 n (length rest) → IsString n (a ∷ b ∷ c ∷ rest)
    at (k, count, within, is) =
        let e : n ≡ suc (suc (suc (suc k))) = omega arith in
        subst (λ m. IsString m (a ∷ b ∷ c ∷ rest)) (sym e) (cut k within (is ∙ ap Some e))

single_string : (a : ℕ) (bs : List ℕ) (n : ℕ) → is_quote a ≡ true → is_triple (a ∷ bs) ≡ false → string_end a 1 1 false 1 bs ≡ Some n → IsString n (a ∷ bs)
unfolding string_length
single_string a bs n quote three end = at (string_end-cut a 1 1 false 1 bs n end)
  where
    text : (k : ℕ) (bs : List ℕ) → suc k ≤ length bs → is_triple (a ∷ bs) ≡ false → is_triple (a ∷ take (suc k) bs) ≡ false
    text k [] h other = absurd (omega arith)
    text k (b ∷ cs) h other = not_triple a b k cs (zero_quote a quote) other

    cut : (k : ℕ) → suc k ≤ length bs → string_end a 1 1 false 1 (take (suc k) bs) ≡ Some (suc (suc k)) → IsString (suc (suc k)) (a ∷ bs)
    cut k within is = record {
      some = omega arith;
      within = omega arith;
      quoted = (quote, rw (text k bs within three) (is ∙ ap Some (omega (arith, length-take-le (suc k) bs within))));
    }

    at : Cut (λ j. string_end a 1 1 false 1 (take j bs)) 1 n (length bs) → IsString n (a ∷ bs)
    at (k, count, within, is) =
        let e : n ≡ suc (suc k) = omega arith in
        subst (λ m. IsString m (a ∷ bs)) (sym e) (cut k within (is ∙ ap Some e))

three_bytes : (a : ℕ) (bs : List ℕ) (n : ℕ) → is_quote a ≡ true → is_triple (a ∷ bs) ≡ true → string_end a 3 3 false 3 (drop 3 (a ∷ bs)) ≡ Some n → IsString n (a ∷ bs)
three_bytes a [] n quote three end =
    let z : eqb 0 a ≡ false = zero_quote a quote in let f : false ≡ true = rw z at three in absurd cc
three_bytes a (b ∷ []) n quote three end =
    let z : eqb 0 a ≡ false = zero_quote a quote in let f : (eqb b a && false) ≡ true = rw z at three in
    let g : false ≡ true = sym (none_last (eqb b a)) ∙ f in absurd cc
three_bytes a (b ∷ c ∷ rest) n quote three end = triple_string a b c rest n quote three end

string_at : (a : ℕ) (bs : List ℕ) (n : ℕ) (t : Bool) → is_quote a ≡ true → is_triple (a ∷ bs) ≡ t → string_length (a ∷ bs) ≡ Some n → IsString n (a ∷ bs)
unfolding string_length
string_at a bs n true quote three is = three_bytes a bs n quote three (rw three at is)
string_at a bs n false quote three is = single_string a bs n quote three (rw three at is)

-- a string at the front
pub string_is : (bytes : List ℕ) (n : ℕ) → is_quote (get_or bytes 0 0) ≡ true → string_length bytes ≡ Some n → IsString n bytes
string_is [] n quote h = absurd cc
string_is (a ∷ bs) n quote h = string_at a bs n (is_triple (a ∷ bs)) quote refl h
