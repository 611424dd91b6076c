-- Lists, options and truth values.
use Rattle.std.proofs.Common.{◌≡◌, ℕ, zero, suc, ◌<◌, Bool, true, ◌&&◌, List, [], ◌∷◌, ◌++◌, length, get_or, position, Some, refl, ap, sym, ◌∙◌, arith}
use Rattle.std.specs.Prelude.{slice_get, nat_lt}
use Rattle.std.specs.List.{list_all}
use Rattle.std.proofs.lemmas.Bool.{and_parts, and_from, lt-ltb, ltb-true}
use Rattle.std.proofs.lemmas.List.Folds.{list_all-append}
use Rattle.std.proofs.lemmas.List.Quantifiers.{position-Some}
use Rattle.std.proofs.lemmas.Option.{slice_get_within, slice_get-get_or}

-- what stands at a place stays there where more follows
pub get_append : {X : Type 0} (xs ys : List X) (n : ℕ) (x : X) → slice_get xs n ≡ Some x → slice_get (xs ++ ys) n ≡ Some x
get_append [] ys n x e = absurd (cc)
get_append (y ∷ xs) ys zero x e = e
get_append (y ∷ xs) ys (suc n) x e = get_append xs ys n x e

-- a place below the length has an item
pub there : {X : Type 0} (xs : List X) (n : ℕ) → n < length xs → (x : X) × (slice_get xs n ≡ Some x)
there [] n h = absurd (omega arith)
there (x ∷ xs) zero h = (x, refl)
there (x ∷ xs) (suc n) h = there xs n (omega arith)

pub there_if : {X : Type 0} (xs : List X) (n : ℕ) → nat_lt n (length xs) ≡ true → (x : X) × (slice_get xs n ≡ Some x)
there_if xs n h = there xs n (ltb-true n (length xs) h)

pub if_there : {X : Type 0} (xs : List X) (n : ℕ) (x : X) → slice_get xs n ≡ Some x → nat_lt n (length xs) ≡ true
if_there xs n x e = lt-ltb n (length xs) (slice_get_within xs n x e)

-- what holds of all items holds of one
pub all_at : {X : Type 0} (p : X → Bool) (xs : List X) (n : ℕ) (x : X) → list_all p xs ≡ true → slice_get xs n ≡ Some x → p x ≡ true
all_at p [] n x h e = absurd (cc)
all_at p (y ∷ xs) zero x h e = let q : y ≡ x = cc in ap p (sym q) ∙ (and_parts (p y) (list_all p xs) h).0
all_at p (y ∷ xs) (suc n) x h e = all_at p xs n x (and_parts (p y) (list_all p xs) h).1 e

-- what follows for each item follows for all
pub all_then : {X : Type 0} (p q : X → Bool) (xs : List X) → ((x : X) → p x ≡ true → q x ≡ true) → list_all p xs ≡ true → list_all q xs ≡ true
all_then p q [] f h = refl
all_then p q (x ∷ xs) f h = let a = and_parts (p x) (list_all p xs) h in ap (λ b. b && list_all q xs) (f x a.0) ∙ all_then p q xs f a.1

-- the place that a search finds
pub place_of : {X : Type 0} (p : X → Bool) (xs : List X) (n : ℕ) → position p xs ≡ Some n → (x : X) × (slice_get xs n ≡ Some x) × (p x ≡ true)
place_of p [] n h = absurd (cc)
place_of p (y ∷ ys) n h = let f = position-Some p (y ∷ ys) n y h in (get_or (y ∷ ys) n y, slice_get-get_or (y ∷ ys) n y f.0, f.1)

-- what stands behind all others
pub get_end : {X : Type 0} (xs : List X) (x : X) → slice_get (xs ++ x ∷ []) (length xs) ≡ Some x
get_end [] x = refl
get_end (y ∷ xs) x = get_end xs x

pub all_same : {X : Type 0} (p q : X → Bool) (xs : List X) → ((x : X) → p x ≡ q x) → list_all p xs ≡ true → list_all q xs ≡ true
all_same p q xs f h = all_then p q xs (λ x e. sym (f x) ∙ e) h

pub all_both : {X : Type 0} (p : X → Bool) (xs ys : List X) → list_all p xs ≡ true → list_all p ys ≡ true → list_all p (xs ++ ys) ≡ true
all_both p xs ys h k = list_all-append p xs ys ∙ and_from (list_all p xs) (list_all p ys) h k
