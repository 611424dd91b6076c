-- Tests of all and of some items of lists that are put together.
use Rattle.std.proofs.Common.{◌≡◌, Bool, true, false, ◌&&◌, ◌||◌, List, [], ◌∷◌, ◌++◌, refl, ap, sym, ◌∙◌}
use Rattle.std.specs.List.{list_all, list_any}
use Rattle.std.proofs.lemmas.List.Folds.{list_all-append}

and_true : (b : Bool) → (b && true) ≡ b
and_true true = refl
and_true false = refl

or_false : (b : Bool) → (b || false) ≡ b
or_false true = refl
or_false false = refl

or_assoc : (a b c : Bool) → ((a || b) || c) ≡ (a || (b || c))
or_assoc true b c = refl
or_assoc false b c = refl

-- all of the items before nothing more
pub all-end : {X : Type 0} (p : X → Bool) (xs : List X) → list_all p (xs ++ []) ≡ list_all p xs
all-end p xs = list_all-append p xs [] ∙ and_true (list_all p xs)

pub all-append : {X : Type 0} (p : X → Bool) (xs ys : List X) → list_all p (xs ++ ys) ≡ (list_all p xs && list_all p ys)
all-append p xs ys = list_all-append p xs ys

pub any-append : {X : Type 0} (p : X → Bool) (xs ys : List X) → list_any p (xs ++ ys) ≡ (list_any p xs || list_any p ys)
any-append p [] ys = refl
any-append p (x ∷ xs) ys = ap (λ b. p x || b) (any-append p xs ys) ∙ sym (or_assoc (p x) (list_any p xs) (list_any p ys))

pub any-end : {X : Type 0} (p : X → Bool) (xs : List X) → list_any p (xs ++ []) ≡ list_any p xs
any-end p xs = any-append p xs [] ∙ or_false (list_any p xs)

pub ruleset all_laws = (all-end, all-append)

pub ruleset any_laws = (any-end, any-append)
