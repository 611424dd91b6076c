-- Numbers that are added in turn, each once, and their places.
use Rattle.std.proofs.Common.{◌≡◌, ◌∙◌, ℕ, zero, suc, ◌+◌, ◌<◌, ◌≤◌, Bool, true, false, cond, not, ◌||◌, List, [], ◌∷◌, ◌++◌, length, drop, slice_index_or, Option, Some, None, refl, sym, ap, arith, add-one}
use Rattle.std.specs.Prelude.{nat_eq, nat_lt, is_some, position, filter}
use Rattle.std.specs.List.{list_any, position_or_len}
use Rattle.std.specs.BTreeMap.{BTreeMap, get}
use Rattle.std.specs.Ordering.{nat_cmp, eq_by_cmp}
use Rattle.std.specs.Cmp.{unsigned_tied}
use Rattle.std.proofs.Math.Seq.{drop-cons}
use Rattle.std.proofs.lemmas.Bool.Decides.{nat_tests}
use Rattle.std.proofs.lemmas.List.{append-nil, append_assoc, length_push}
use Rattle.std.proofs.lemmas.List.Folds.{list_any-append, position_or_len_push}
use Rattle.mh_plans.specs.Order.{is_in, with_last}
use Rattle.mh_plans.specs.Plans.{below, each_once}
use Rattle.mh_plans.specs.Places.{ArePlaces}

pub same_eq : (a b : ℕ) → nat_eq a b ≡ nat_eq b a
same_eq a b = grind (arith, nat_tests)

pub suc_not_zero : (n : ℕ) → nat_eq (suc n) 0 ≡ false
suc_not_zero n = grind (arith, nat_tests)

or_false : (b : Bool) → (b || false) ≡ b
or_false true = refl
or_false false = refl

or_assoc : (a b c : Bool) → ((a || b) || c) ≡ (a || (b || c))
or_assoc true b c = refl
or_assoc false b c = refl

-- ---- places

-- one item more in front
ahead : (b : Bool) (k l : ℕ) → nat_lt (cond (not b) (1 + k) 0) (suc l) ≡ (b || nat_lt k l)
ahead true k l = grind (arith, nat_tests)
ahead false k l = grind (arith, nat_tests)

-- a number has a place exactly where it is there
within : (n : ℕ) (ns : List ℕ) → nat_lt (position_or_len (λ m. nat_eq m n) ns) (length ns) ≡ is_in ns n
within n [] = refl
within n (x ∷ xs) =
    ahead (nat_eq x n) (position_or_len (λ m. nat_eq m n) xs) (length xs)
    ∙ (ap (λ b. nat_eq x n || b) (within n xs) ∙ ap (λ b. b || is_in xs n) (same_eq x n))

some_if : (b : Bool) (k : ℕ) → is_some (cond b (Some k) None) ≡ b
some_if true k = refl
some_if false k = refl

pub has_place : (n : ℕ) (ns : List ℕ) → is_some (position (λ m. nat_eq m n) ns) ≡ is_in ns n
has_place n ns = some_if (nat_lt (position_or_len (λ m. nat_eq m n) ns) (length ns)) (position_or_len (λ m. nat_eq m n) ns) ∙ within n ns

at_most : (p : ℕ → Bool) (ns : List ℕ) → position_or_len p ns ≤ length ns
at_most p [] = omega arith
at_most p (x ∷ xs) = elim (p x) as (λ b. cond (not b) (1 + position_or_len p xs) 0 ≤ suc (length xs)) [ true ↦ omega arith | false ↦ let h = at_most p xs in omega (arith, h) ]

-- the place among one more number
one_more : (first count all place : ℕ) (b : Bool) → first ≤ count → (b ≡ true → first ≡ count) → all ≡ count + 1 → place ≡ cond (nat_eq first count) (count + cond b 0 1) first → cond (nat_lt place all) (Some place) None ≡ cond b (Some count) (cond (nat_lt first count) (Some first) None)
one_more first count all place true l is e p = grind (arith, nat_tests)
one_more first count all place false l is e p = grind (arith, nat_tests)

-- a number that isn't there has its place at the end
absent : (ns : List ℕ) (n q : ℕ) → is_in ns n ≡ false → nat_eq n q ≡ true → position_or_len (λ m. nat_eq m q) ns ≡ length ns
absent ns n q out is =
    let e : n ≡ q = grind (arith, nat_tests, is) in
    let o : nat_lt (position_or_len (λ m. nat_eq m q) ns) (length ns) ≡ false = within q ns ∙ (ap (is_in ns) (sym e) ∙ out) in
    let m = at_most (λ m. nat_eq m q) ns in
    grind (arith, nat_tests, o, m)

pub placed : (ns : List ℕ) (n q : ℕ) → is_in ns n ≡ false → position (λ m. nat_eq m q) (ns ++ n ∷ []) ≡ cond (nat_eq n q) (Some (length ns)) (position (λ m. nat_eq m q) ns)
placed ns n q out =
    one_more (position_or_len (λ m. nat_eq m q) ns) (length ns) (length (ns ++ n ∷ [])) (position_or_len (λ m. nat_eq m q) (ns ++ n ∷ [])) (nat_eq n q)
    (at_most (λ m. nat_eq m q) ns) (absent ns n q out) (length_push ns n) (position_or_len_push (λ m. nat_eq m q) ns n)

-- the places among one more number, as the program holds them
pub places_more : (old new : BTreeMap ℕ ℕ) (ns : List ℕ) (n : ℕ) → ArePlaces old ns → is_in ns n ≡ false → ((q : ℕ) → get nat_cmp new q ≡ cond (eq_by_cmp nat_cmp n q) (Some (length ns)) (get nat_cmp old q)) → ArePlaces new (ns ++ n ∷ [])
places_more old new ns n are out updates q =
    updates q
    ∙ (ap (λ b. cond b (Some (length ns)) (get nat_cmp old q)) (unsigned_tied n q)
    ∙ (ap (λ o. cond (nat_eq n q) (Some (length ns)) o) (are q) ∙ sym (placed ns n q out)))

-- ---- numbers in turn

pub known_stays : (ns : List ℕ) (n : ℕ) → is_in ns n ≡ true → ns ≡ with_last ns n
known_stays ns n h = ap (λ b. cond b ns (ns ++ n ∷ [])) (sym h)

pub new_comes : (ns : List ℕ) (n : ℕ) → is_in ns n ≡ false → ns ++ n ∷ [] ≡ with_last ns n
new_comes ns n h = ap (λ b. cond b ns (ns ++ n ∷ [])) (sym h)

pub below-more : (n : ℕ) → below (n + 1) ≡ below n ++ n ∷ []
below-more n = ap below (add-one n)

pub filter-last : (p : ℕ → Bool) (xs : List ℕ) (x : ℕ) → filter p (xs ++ x ∷ []) ≡ cond (p x) (filter p xs ++ x ∷ []) (filter p xs)
filter-last p [] x = elim (p x) as (λ b. cond b (x ∷ []) [] ≡ cond b (x ∷ []) []) [ true ↦ refl | false ↦ refl ]
filter-last p (y ∷ ys) x =
    ap (λ zs. cond (p y) (y ∷ zs) zs) (filter-last p ys x)
    ∙ elim (p y) as (λ a. cond a (y ∷ cond (p x) (filter p ys ++ x ∷ []) (filter p ys)) (cond (p x) (filter p ys ++ x ∷ []) (filter p ys)) ≡ cond (p x) (cond a (y ∷ filter p ys) (filter p ys) ++ x ∷ []) (cond a (y ∷ filter p ys) (filter p ys))) [
      | true ↦ elim (p x) as (λ b. y ∷ cond b (filter p ys ++ x ∷ []) (filter p ys) ≡ cond b ((y ∷ filter p ys) ++ x ∷ []) (y ∷ filter p ys)) [ true ↦ refl | false ↦ refl ]
      | false ↦ refl
    ]

pub each_once-last : (ns xs : List ℕ) (x : ℕ) → each_once ns (xs ++ x ∷ []) ≡ with_last (each_once ns xs) x
each_once-last ns [] x = refl
each_once-last ns (y ∷ ys) x = each_once-last (with_last ns y) ys x

pub same_filter : (p q : ℕ → Bool) → ((x : ℕ) → p x ≡ q x) → (xs : List ℕ) → filter p xs ≡ filter q xs
same_filter p q h [] = refl
same_filter p q h (x ∷ xs) = ap (λ b. cond b (x ∷ filter p xs) (filter p xs)) (h x) ∙ ap (λ zs. cond (q x) (x ∷ zs) zs) (same_filter p q h xs)

in_last : (ns : List ℕ) (n m : ℕ) → is_in (ns ++ n ∷ []) m ≡ (is_in ns m || nat_eq m n)
in_last ns n m = list_any-append (λ k. nat_eq m k) ns (n ∷ []) ∙ ap (λ b. is_in ns m || b) (or_false (nat_eq m n))

-- a number that is in a list already
known : (ns : List ℕ) (n m : ℕ) → is_in ns n ≡ true → is_in ns m ≡ (is_in ns m || nat_eq m n)
known ns n m h =
    elim (nat_eq m n) as (λ b. (b ≡ true → m ≡ n) → is_in ns m ≡ (is_in ns m || b)) [
      | true ↦ λ is. let t : is_in ns m ≡ true = ap (is_in ns) (is refl) ∙ h in t ∙ sym (ap (λ b. b || true) t)
      | false ↦ λ is. sym (or_false (is_in ns m))
    ] (λ e. grind (arith, nat_tests, e))

pub in_with_last : (ns : List ℕ) (n m : ℕ) → is_in (with_last ns n) m ≡ (is_in ns m || nat_eq m n)
in_with_last ns n m =
    elim (is_in ns n) as (λ b. is_in ns n ≡ b → is_in (cond b ns (ns ++ n ∷ [])) m ≡ (is_in ns m || nat_eq m n)) [
      | true ↦ λ e. known ns n m e
      | false ↦ λ e. in_last ns n m
    ] refl

pub in_each_once : (ns ms : List ℕ) (k : ℕ) → is_in (each_once ns ms) k ≡ (is_in ns k || is_in ms k)
in_each_once ns [] k = sym (or_false (is_in ns k))
in_each_once ns (m ∷ ms) k =
    in_each_once (with_last ns m) ms k
    ∙ (ap (λ b. b || is_in ms k) (in_with_last ns m k) ∙ or_assoc (is_in ns k) (nat_eq k m) (is_in ms k))

-- one number more in a set
next : (i : ℕ) → suc i ≡ i + 1
next i = omega arith

first : (xs : List ℕ) (i : ℕ) → i < length xs → drop i xs ≡ slice_index_or xs i 0 ∷ drop (i + 1) xs
first xs i h = drop-cons xs i 0 h ∙ ap (λ n. slice_index_or xs i 0 ∷ drop n xs) (next i)

either : (old is other : Bool) → (old || (is || other)) ≡ (cond is true old || other)
either true true other = refl
either true false other = refl
either false true other = refl
either false false other = refl

pub added : (xs : List ℕ) (i s : ℕ) (old : Bool) → i < length xs → (old || is_in (drop i xs) s) ≡ (cond (eq_by_cmp nat_cmp (slice_index_or xs i 0) s) true old || is_in (drop (i + 1) xs) s)
added xs i s old h =
    ap (λ ys. old || is_in ys s) (first xs i h)
    ∙ (either old (nat_eq s (slice_index_or xs i 0)) (is_in (drop (i + 1) xs) s)
    ∙ ap (λ b. cond b true old || is_in (drop (i + 1) xs) s) (same_eq s (slice_index_or xs i 0) ∙ sym (unsigned_tied (slice_index_or xs i 0) s)))

-- ---- numbers in order

apart : (k n : ℕ) → n < k → nat_eq k n ≡ false
apart k n h = grind (arith, nat_tests)

not_below : (n k : ℕ) → n ≤ k → is_in (below n) k ≡ false
not_below zero k h = refl
not_below (suc n) k h =
    in_last (below n) n k ∙ (ap (λ b. b || nat_eq k n) (not_below n k (omega (arith, h))) ∙ apart k n (omega (arith, h)))

neither : (a b : Bool) → (a || b) ≡ false → (a ≡ false) × (b ≡ false)
neither true b h = absurd (cc)
neither false b h = (refl, h)

not_filtered : (p : ℕ → Bool) (xs : List ℕ) (k : ℕ) → is_in xs k ≡ false → is_in (filter p xs) k ≡ false
not_filtered p [] k h = refl
not_filtered p (x ∷ xs) k h =
    let parts : (nat_eq k x ≡ false) × (is_in xs k ≡ false) = neither (nat_eq k x) (is_in xs k) h in
    elim (p x) as (λ b. is_in (cond b (x ∷ filter p xs) (filter p xs)) k ≡ false) [
      | true ↦ ap (λ b. b || is_in (filter p xs) k) parts.0 ∙ not_filtered p xs k parts.1
      | false ↦ not_filtered p xs k parts.1
    ]

-- one number more that is nowhere among the added ones
add_last : (ns xs : List ℕ) (n : ℕ) → is_in xs n ≡ false → each_once ns xs ≡ ns ++ filter (λ m. not (is_in ns m)) xs → each_once ns (xs ++ n ∷ []) ≡ ns ++ filter (λ m. not (is_in ns m)) (xs ++ n ∷ [])
add_last ns xs n out e =
    let kept : List ℕ = filter (λ m. not (is_in ns m)) xs in
    each_once-last ns xs n
    ∙ (ap (λ ys. with_last ys n) e
    ∙ (ap (λ b. cond b (ns ++ kept) ((ns ++ kept) ++ n ∷ [])) (list_any-append (λ m. nat_eq n m) ns kept ∙ (ap (λ b. is_in ns n || b) (not_filtered (λ m. not (is_in ns m)) xs n out) ∙ or_false (is_in ns n)))
    ∙ (elim (is_in ns n) as (λ b. cond b (ns ++ kept) ((ns ++ kept) ++ n ∷ []) ≡ ns ++ cond (not b) (kept ++ n ∷ []) kept) [ true ↦ refl | false ↦ append_assoc ns kept (n ∷ []) ]
    ∙ ap (λ ys. ns ++ ys) (sym (filter-last (λ m. not (is_in ns m)) xs n)))))

step : (ns xs : List ℕ) (n : ℕ) (b : Bool) → is_in xs n ≡ false → each_once ns xs ≡ ns ++ filter (λ m. not (is_in ns m)) xs → each_once ns (cond b (xs ++ n ∷ []) xs) ≡ ns ++ filter (λ m. not (is_in ns m)) (cond b (xs ++ n ∷ []) xs)
step ns xs n true out e = add_last ns xs n out e
step ns xs n false out e = e

-- numbers in order come after those that were there, without these
pub in_order : (ns : List ℕ) (p : ℕ → Bool) (n : ℕ) → each_once ns (filter p (below n)) ≡ ns ++ filter (λ m. not (is_in ns m)) (filter p (below n))
in_order ns p zero = sym (append-nil ns)
in_order ns p (suc n) =
    ap (each_once ns) (filter-last p (below n) n)
    ∙ (step ns (filter p (below n)) n (p n) (not_filtered p (below n) n (not_below n n (omega arith))) (in_order ns p n)
    ∙ ap (λ xs. ns ++ filter (λ m. not (is_in ns m)) xs) (sym (filter-last p (below n) n)))

all_kept : (xs : List ℕ) → filter (λ m. true) xs ≡ xs
all_kept [] = refl
all_kept (x ∷ xs) = ap (λ ys. x ∷ ys) (all_kept xs)

-- the numbers of a set, in order
pub set_in_order : (p q : ℕ → Bool) (n : ℕ) → ((m : ℕ) → p m ≡ q m) → each_once [] (filter p (below n)) ≡ filter q (below n)
set_in_order p q n h = in_order [] p n ∙ (all_kept (filter p (below n)) ∙ same_filter p q h (below n))

-- the ports, and then the numbers of a set
pub ports_then : (ports : List ℕ) (p q : ℕ → Bool) (n : ℕ) → ((m : ℕ) → p m ≡ q m) → each_once (each_once [] ports) (filter p (below n)) ≡ each_once [] ports ++ filter (λ m. not (is_in ports m)) (filter q (below n))
ports_then ports p q n h =
    in_order (each_once [] ports) p n
    ∙ ap (λ ys. each_once [] ports ++ ys)
    (same_filter (λ m. not (is_in (each_once [] ports) m)) (λ m. not (is_in ports m)) (λ m. ap not (in_each_once [] ports m)) (filter p (below n))
    ∙ ap (filter (λ m. not (is_in ports m))) (same_filter p q h (below n)))

pub ruleset number_laws = (below-more, filter-last, each_once-last, has_place)
