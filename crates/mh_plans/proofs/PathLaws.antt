-- The names of instances from the top down, and names that are joined.
use Rattle.std.proofs.Common.{◌≡◌, ◌≢◌, ◌∙◌, ℕ, zero, suc, ◌+◌, ◌-◌, ◌<◌, Bool, true, false, List, [], ◌∷◌, ◌++◌, Option, Some, None, refl, sym, ap, arith}
use Rattle.std.specs.Prelude.{nat_eq, is_some, slice_get, if◌then◌else◌}
use Rattle.std.proofs.lemmas.Bool.Decides.{nat_tests}
use Rattle.std.proofs.lemmas.List.{append-nil, append_assoc}
use Rattle.mh_world.specs.declared.kinds.Instance.{Instance}
use Rattle.mh_plans.specs.Paths.{instance_name, name_at, outer_of, with_name, names_from, joined, words_before}

pub names_none : (n : ℕ) (is : List Instance) (top : ℕ) → names_from n is top None ≡ None
names_none zero is top = refl
names_none (suc n) is top = refl

pub names_zero : (n : ℕ) (is : List Instance) (top : ℕ) (o : Option ℕ) → n ≡ 0 → names_from n is top o ≡ None
names_zero n is top o h = ap (λ m. names_from m is top o) h

pub names_some : (n : ℕ) (is : List Instance) (top i : ℕ) → 0 < n → names_from n is top (Some i) ≡ (if nat_eq i top then Some [] else with_name (name_at (slice_get is i)) (names_from (n - 1) is top (outer_of (slice_get is i))))
names_some zero is top i h = absurd (omega (arith, h))
names_some (suc n) is top i h =
    let e : suc n - 1 ≡ n = omega arith in
    ap (λ m. if nat_eq i top then Some [] else with_name (name_at (slice_get is i)) (names_from m is top (outer_of (slice_get is i)))) (sym e)

pub is_some-with_name : (t : List ℕ) (ts : Option (List (List ℕ))) → is_some (with_name t ts) ≡ is_some ts
is_some-with_name t None = refl
is_some-with_name t (Some us) = refl

pub joined-append : (ts : List (List ℕ)) (t : List ℕ) → joined ts t ≡ joined ts [] ++ t
joined-append [] t = refl
joined-append (u ∷ us) t = ap (λ w. u ++ 95 ∷ w) (joined-append us t) ∙ sym (append_assoc u (95 ∷ joined us []) t)

joined-last : (ts : List (List ℕ)) (u : List ℕ) → joined (ts ++ u ∷ []) [] ≡ joined ts [] ++ (u ++ 95 ∷ [])
joined-last [] u = refl
joined-last (x ∷ xs) u = ap (λ w. x ++ 95 ∷ w) (joined-last xs u) ∙ sym (append_assoc x (95 ∷ joined xs []) (u ++ 95 ∷ []))

-- one name more
pub words_before-more : (u : List ℕ) (ts : Option (List (List ℕ))) → is_some ts ≡ true → words_before (with_name u ts) ≡ words_before ts ++ (u ++ 95 ∷ [])
words_before-more u None h = absurd (cc)
words_before-more u (Some ts) h = joined-last ts u

not_same : (a b : ℕ) → a ≢ b → nat_eq a b ≡ false
not_same a b h = grind (arith, nat_tests)

-- the next instance outwards
pub names_step : (n : ℕ) (is : List Instance) (top i : ℕ) (o : Option ℕ) (x : Instance) → 0 < n → o ≡ Some i → i ≢ top → slice_get is i ≡ Some x → names_from n is top o ≡ with_name (instance_name x) (names_from (n - 1) is top x.outer)
names_step n is top i o x some at apart there =
    ap (names_from n is top) at
    ∙ names_some n is top i some
    ∙ ap (λ b. if b then Some [] else with_name (name_at (slice_get is i)) (names_from (n - 1) is top (outer_of (slice_get is i)))) (not_same i top apart)
    ∙ ap (λ y. with_name (name_at y) (names_from (n - 1) is top (outer_of y))) there

pub names_lost : (n : ℕ) (is : List Instance) (top i : ℕ) (o : Option ℕ) → 0 < n → o ≡ Some i → i ≢ top → slice_get is i ≡ None → names_from n is top o ≡ None
names_lost n is top i o some at apart there =
    ap (names_from n is top) at
    ∙ names_some n is top i some
    ∙ ap (λ b. if b then Some [] else with_name (name_at (slice_get is i)) (names_from (n - 1) is top (outer_of (slice_get is i)))) (not_same i top apart)
    ∙ ap (λ y. with_name (name_at y) (names_from (n - 1) is top (outer_of y))) there
    ∙ ap (with_name []) (names_none (n - 1) is top)

pub within_step : (n : ℕ) (is : List Instance) (top i : ℕ) (o : Option ℕ) (x : Instance) → 0 < n → o ≡ Some i → i ≢ top → slice_get is i ≡ Some x → is_some (names_from n is top o) ≡ is_some (names_from (n - 1) is top x.outer)
within_step n is top i o x some at apart there =
    ap is_some (names_step n is top i o x some at apart there) ∙ is_some-with_name (instance_name x) (names_from (n - 1) is top x.outer)

-- a name and `_` behind it
pub pushed : (ws a b c t : List ℕ) (ts all : Option (List (List ℕ))) → a ≡ ws ++ words_before ts → b ≡ a ++ t → c ≡ b ++ 95 ∷ [] → is_some ts ≡ true → all ≡ with_name t ts → c ≡ ws ++ words_before all
pushed ws a b c t ts all e f g h k =
    g
    ∙ ap (λ l. l ++ 95 ∷ []) (f ∙ ap (λ l. l ++ t) e)
    ∙ ap (λ l. l ++ 95 ∷ []) (append_assoc ws (words_before ts) t)
    ∙ append_assoc ws (words_before ts ++ t) (95 ∷ [])
    ∙ ap (λ l. ws ++ l) (append_assoc (words_before ts) t (95 ∷ []) ∙ sym (words_before-more t ts h) ∙ ap words_before (sym k))

pub ruleset path_laws = (names_none, names_zero, names_some, is_some-with_name, words_before-more, joined-append, append_assoc, append-nil)
