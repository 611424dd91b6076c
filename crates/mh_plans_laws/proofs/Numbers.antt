-- Numbers that stand in a list, and what is taken at them.
use Rattle.std.proofs.Common.{◌≡◌, ℕ, zero, suc, ◌+◌, ◌<◌, Bool, true, false, not, ◌&&◌, ◌||◌, List, [], ◌∷◌, ◌++◌, length, cond, Option, Some, None, refl, ap, sym, ◌∙◌, subst, arith, slice_get, if◌then◌else◌}
use Rattle.std.specs.Prelude.{nat_eq, nat_lt, filter, position}
use Rattle.std.specs.List.{list_all, list_any, flat_map, position_or_len}
use Rattle.std.specs.Option.{option_map, option_map_or}
use Rattle.std.proofs.lemmas.Bool.{and_parts, and_from, or_left, or_right, eqb-true, eq-eqb, lt-ltb, ltb-true}
use Rattle.std.proofs.lemmas.Bool.Decides.{nat_tests}
use Rattle.std.proofs.lemmas.List.Folds.{list_all-append, list_any-append}
use Rattle.mh_plans.specs.Order.{is_in, with_last}
use Rattle.mh_plans.specs.Renumbered.{number_in}
use Rattle.mh_plans.specs.Plans.{below, used_below, each_once, signals_from}
use Rattle.mh_world_laws.proofs.Lists.{all_end, all_filter, all_if}

-- ---- either of two

pub either : {Y : Type 0} (a b : Bool) → (a || b) ≡ true → (a ≡ true → Y) → (b ≡ true → Y) → Y
either true b h f g = f refl
either false b h f g = g h

-- ---- places

record Place (ns : List ℕ) (n : ℕ) : Type 0 where
  pub at : ℕ
  pub is : position_or_len (λ m. nat_eq m n) ns ≡ at
  pub within : at < length ns
  pub there : slice_get ns at ≡ Some n

same_number : (m n : ℕ) → nat_eq n m ≡ true → nat_eq m n ≡ true
same_number m n h = eq-eqb m n (sym (eqb-true n m h))

place_by : (m n : ℕ) (ms : List ℕ) (b : Bool) → nat_eq m n ≡ b → (nat_eq n m || is_in ms n) ≡ true → (is_in ms n ≡ true → Place ms n) → Place (m ∷ ms) n
place_by m n ms true e h f = record {
  at = 0;
  is = ap (λ b. cond (not b) (1 + position_or_len (λ x. nat_eq x n) ms) 0) e;
  within = omega arith;
  there = ap (λ x. Some x) (eqb-true m n e);
}
place_by m n ms false e h f =
    let r : is_in ms n ≡ true = either (nat_eq n m) (is_in ms n) h (λ q. let z : true ≡ false = sym (same_number m n q) ∙ e in absurd (cc)) (λ q. q) in
    let p = f r in
    let i = p.is in
    let w = p.within in
    record {
      at = suc p.at;
      is = ap (λ b. cond (not b) (1 + position_or_len (λ x. nat_eq x n) ms) 0) e ∙ omega (arith, i);
      within = omega (arith, w);
      there = p.there;
    }

placed : (ns : List ℕ) (n : ℕ) → is_in ns n ≡ true → Place ns n
placed [] n h = absurd (cc)
placed (m ∷ ms) n h = place_by m n ms (nat_eq m n) refl h (placed ms n)

number_by : (ns : List ℕ) (n r : ℕ) → position_or_len (λ m. nat_eq m n) ns ≡ r → r < length ns → number_in ns n ≡ r
number_by ns n r e h =
    let b : nat_lt r (length ns) ≡ true = lt-ltb r (length ns) h in
    ap (λ i. option_map_or (λ j. j) (cond (nat_lt i (length ns)) (Some i) None) 0) e ∙ ap (λ t. option_map_or (λ j. j) (cond t (Some r) None) 0) b

-- a number stands at its place
pub number_there : (ns : List ℕ) (n : ℕ) → is_in ns n ≡ true → slice_get ns (number_in ns n) ≡ Some n
number_there ns n h = let p = placed ns n h in ap (slice_get ns) (number_by ns n p.at p.is p.within) ∙ p.there

pub number_within : (ns : List ℕ) (n : ℕ) → is_in ns n ≡ true → nat_lt (number_in ns n) (length ns) ≡ true
number_within ns n h = let p = placed ns n h in ap (λ i. nat_lt i (length ns)) (number_by ns n p.at p.is p.within) ∙ lt-ltb p.at (length ns) p.within

-- ---- what is taken at numbers

module _ {X Y : Type 0} (f : ℕ → X → Y) (xs : List X) where
  abbrev pub taken_at : ℕ → Option X → List Y
  taken_at n o = option_map_or (λ x. f n x ∷ []) o []

  abbrev pub taken : List ℕ → List Y
  taken ns = flat_map (λ n. taken_at n (slice_get xs n)) ns

  abbrev pub AllThere : List ℕ → Type 0
  AllThere ns = list_all (λ n. nat_lt n (length xs)) ns ≡ true

  there_by : (n : ℕ) (o : Option X) → slice_get xs n ≡ o → nat_lt n (length xs) ≡ true → (x : X) × (slice_get xs n ≡ Some x)
  there_by n (Some x) e h = (x, e)
  there_by n None e h = absurd (none_there xs n e (ltb-true n (length xs) h))
    where
      none_there : (ys : List X) (n : ℕ) → slice_get ys n ≡ None → n < length ys → ⊥
      none_there [] n e h = omega arith
      none_there (y ∷ ys) zero e h = absurd (cc)
      none_there (y ∷ ys) (suc n) e h = none_there ys n e (omega arith)

  pub is_there : (n : ℕ) → nat_lt n (length xs) ≡ true → (x : X) × (slice_get xs n ≡ Some x)
  is_there n h = there_by n (slice_get xs n) refl h

  pub taken_there : (ns : List ℕ) (i n : ℕ) (x : X) → AllThere ns → slice_get ns i ≡ Some n → slice_get xs n ≡ Some x → slice_get (taken ns) i ≡ Some (f n x)
  taken_there [] i n x h e q = absurd (cc)
  taken_there (m ∷ ms) zero n x h e q =
      let same : m ≡ n = cc in
      ap (λ o. slice_get (taken_at m o ++ taken ms) 0) (ap (slice_get xs) same ∙ q) ∙ ap (λ j. Some (f j x)) same
  taken_there (m ∷ ms) (suc i) n x h e q =
      let a = and_parts (nat_lt m (length xs)) (list_all (λ j. nat_lt j (length xs)) ms) h in
      let y = is_there m a.0 in
      ap (λ o. slice_get (taken_at m o ++ taken ms) (suc i)) y.1 ∙ taken_there ms i n x a.1 e q

  pub length_taken : (ns : List ℕ) → AllThere ns → length (taken ns) ≡ length ns
  length_taken [] h = refl
  length_taken (m ∷ ms) h =
      let a = and_parts (nat_lt m (length xs)) (list_all (λ j. nat_lt j (length xs)) ms) h in
      let y = is_there m a.0 in
      ap (λ o. length (taken_at m o ++ taken ms)) y.1 ∙ ap suc (length_taken ms a.1)

  taken_one : (p : Y → Bool) (n : ℕ) (o : Option X) → ((x : X) → o ≡ Some x → p (f n x) ≡ true) → list_all p (taken_at n o) ≡ true
  taken_one p n None k = refl
  taken_one p n (Some x) k = and_from (p (f n x)) true (k x refl) refl

  -- what holds of each that is taken holds of all
  pub all_taken : (p : Y → Bool) (ns : List ℕ) → ((n : ℕ) (x : X) → is_in ns n ≡ true → slice_get xs n ≡ Some x → p (f n x) ≡ true) → list_all p (taken ns) ≡ true
  all_taken p [] k = refl
  all_taken p (n ∷ ns) k =
      list_all-append p (taken_at n (slice_get xs n)) (taken ns)
      ∙ and_from (list_all p (taken_at n (slice_get xs n))) (list_all p (taken ns)) (taken_one p n (slice_get xs n) (λ x e. k n x (or_left (nat_eq n n) (is_in ns n) (eq-eqb n n refl)) e))
      (all_taken p ns (λ m x i e. k m x (or_right (nat_eq m n) (is_in ns m) i) e))

-- ---- which numbers stand in a list

pub all_in : (p q : ℕ → Bool) (ns : List ℕ) → ((n : ℕ) → is_in ns n ≡ true → p n ≡ true → q n ≡ true) → list_all p ns ≡ true → list_all q ns ≡ true
all_in p q [] f h = refl
all_in p q (n ∷ ns) f h =
    let a = and_parts (p n) (list_all p ns) h in
    and_from (q n) (list_all q ns) (f n (or_left (nat_eq n n) (is_in ns n) (eq-eqb n n refl)) a.0) (all_in p q ns (λ m i r. f m (or_right (nat_eq m n) (is_in ns m) i) r) a.1)

pub in_left : (ns ms : List ℕ) (n : ℕ) → is_in ns n ≡ true → is_in (ns ++ ms) n ≡ true
in_left ns ms n h = list_any-append (λ m. nat_eq n m) ns ms ∙ or_left (is_in ns n) (is_in ms n) h

pub in_right : (ns ms : List ℕ) (n : ℕ) → is_in ms n ≡ true → is_in (ns ++ ms) n ≡ true
in_right ns ms n h = list_any-append (λ m. nat_eq n m) ns ms ∙ or_right (is_in ns n) (is_in ms n) h

pub at_in : (ns : List ℕ) (n : ℕ) (p : ℕ → Bool) → list_all p ns ≡ true → is_in ns n ≡ true → p n ≡ true
at_in [] n p h i = absurd (cc)
at_in (m ∷ ms) n p h i =
    let a = and_parts (p m) (list_all p ms) h in
    either (nat_eq n m) (is_in ms n) i (λ q. ap p (eqb-true n m q) ∙ a.0) (λ q. at_in ms n p a.1 q)

in_cond : (b : Bool) (m : ℕ) (ns : List ℕ) (n : ℕ) → is_in ns n ≡ true → is_in (cond b (m ∷ ns) ns) n ≡ true
in_cond true m ns n h = or_right (nat_eq n m) (is_in ns n) h
in_cond false m ns n h = h

in_first : (b : Bool) (m : ℕ) (ns : List ℕ) (n : ℕ) → b ≡ true → nat_eq n m ≡ true → is_in (cond b (m ∷ ns) ns) n ≡ true
in_first true m ns n e h = or_left (nat_eq n m) (is_in ns n) h
in_first false m ns n e h = absurd (cc)

pub in_filter : (p : ℕ → Bool) (ns : List ℕ) (n : ℕ) → is_in ns n ≡ true → p n ≡ true → is_in (filter p ns) n ≡ true
in_filter p [] n h q = h
in_filter p (m ∷ ms) n h q =
    either (nat_eq n m) (is_in ms n) h (λ r. in_first (p m) m (filter p ms) n (ap p (sym (eqb-true n m r)) ∙ q) r) (λ r. in_cond (p m) m (filter p ms) n (in_filter p ms n r q))

in_flat : {X : Type 0} (f : X → List ℕ) (xs : List X) (i : ℕ) (x : X) (n : ℕ) → slice_get xs i ≡ Some x → is_in (f x) n ≡ true → is_in (flat_map f xs) n ≡ true
in_flat f [] i x n e h = absurd (cc)
in_flat f (y ∷ ys) zero x n e h = let same : y ≡ x = cc in in_left (f y) (flat_map f ys) n (ap (λ z. is_in (f z) n) same ∙ h)
in_flat f (y ∷ ys) (suc i) x n e h = in_right (f y) (flat_map f ys) n (in_flat f ys i x n e h)

pub in_all : {X : Type 0} (f : X → List ℕ) (xs : List X) (i : ℕ) (x : X) (n : ℕ) → slice_get xs i ≡ Some x → is_in (f x) n ≡ true → is_in (flat_map f xs) n ≡ true
in_all f xs i x n e h = in_flat f xs i x n e h

-- ---- numbers below, and each once

less_than : (l n : ℕ) → nat_eq n l ≡ false → n < suc l → n < l
less_than l n e h = grind (arith, nat_tests)

below_by : (l n : ℕ) (b : Bool) → nat_eq n l ≡ b → n < suc l → (n < l → is_in (below l) n ≡ true) → is_in (below l ++ l ∷ []) n ≡ true
below_by l n true e h k = in_right (below l) (l ∷ []) n (or_left (nat_eq n l) false e)
below_by l n false e h k = in_left (below l) (l ∷ []) n (k (less_than l n e h))

in_below : (l n : ℕ) → n < l → is_in (below l) n ≡ true
in_below zero n h = absurd (omega arith)
in_below (suc l) n h = below_by l n (nat_eq n l) refl h (in_below l n)

below_less : (l n : ℕ) → n < suc l → list_all (λ m. nat_lt m l) (below n) ≡ true
below_less l zero h = refl
below_less l (suc n) h = all_end (λ m. nat_lt m l) (below n) n (below_less l n (omega arith)) (lt-ltb n l (omega arith))

pub used_there : (l : ℕ) (ns : List ℕ) → list_all (λ m. nat_lt m l) (used_below l ns) ≡ true
used_there l ns = all_filter (λ m. nat_lt m l) (is_in ns) (below l) (below_less l l (omega arith))

pub in_used : (l : ℕ) (ns : List ℕ) (n : ℕ) → nat_lt n l ≡ true → is_in ns n ≡ true → is_in (used_below l ns) n ≡ true
in_used l ns n h i = in_filter (is_in ns) (below l) n (in_below l n (ltb-true n l h)) i

in_last : (b : Bool) (ns : List ℕ) (m n : ℕ) → is_in ns n ≡ true → is_in (if b then ns else ns ++ m ∷ []) n ≡ true
in_last true ns m n h = h
in_last false ns m n h = in_left ns (m ∷ []) n h

new_last : (b : Bool) (ns : List ℕ) (m n : ℕ) → is_in ns m ≡ b → nat_eq n m ≡ true → is_in (if b then ns else ns ++ m ∷ []) n ≡ true
new_last true ns m n e h = ap (is_in ns) (eqb-true n m h) ∙ e
new_last false ns m n e h = in_right ns (m ∷ []) n (or_left (nat_eq n m) false h)

once_before : (ms ns : List ℕ) (n : ℕ) → is_in ns n ≡ true → is_in (each_once ns ms) n ≡ true
once_before [] ns n h = h
once_before (m ∷ ms) ns n h = once_before ms (with_last ns m) n (in_last (is_in ns m) ns m n h)

once_in : (ms ns : List ℕ) (n : ℕ) → is_in ms n ≡ true → is_in (each_once ns ms) n ≡ true
once_in [] ns n h = absurd (cc)
once_in (m ∷ ms) ns n h =
    either (nat_eq n m) (is_in ms n) h (λ q. once_before ms (with_last ns m) n (new_last (is_in ns m) ns m n refl q)) (λ q. once_in ms (with_last ns m) n q)

once_there : (p : ℕ → Bool) (ms ns : List ℕ) → list_all p ns ≡ true → list_all p ms ≡ true → list_all p (each_once ns ms) ≡ true
once_there p [] ns h k = h
once_there p (m ∷ ms) ns h k =
    let a = and_parts (p m) (list_all p ms) k in
    once_there p ms (with_last ns m) (all_if p (is_in ns m) ns (ns ++ m ∷ []) h (all_end p ns m h a.0)) a.1

pub from_there : (p : ℕ → Bool) (ports others : List ℕ) → list_all p ports ≡ true → list_all p others ≡ true → list_all p (signals_from ports others) ≡ true
from_there p ports others h k =
    list_all-append p (each_once [] ports) (filter (λ n. not (is_in ports n)) others)
    ∙ and_from (list_all p (each_once [] ports)) (list_all p (filter (λ n. not (is_in ports n)) others)) (once_there p ports [] refl h) (all_filter p (λ n. not (is_in ports n)) others k)

pub in_ports : (ports others : List ℕ) (n : ℕ) → is_in ports n ≡ true → is_in (signals_from ports others) n ≡ true
in_ports ports others n h = in_left (each_once [] ports) (filter (λ m. not (is_in ports m)) others) n (once_in ports [] n h)

in_others_by : (ports others : List ℕ) (n : ℕ) (b : Bool) → is_in ports n ≡ b → is_in others n ≡ true → is_in (signals_from ports others) n ≡ true
in_others_by ports others n true e h = in_ports ports others n e
in_others_by ports others n false e h = in_right (each_once [] ports) (filter (λ m. not (is_in ports m)) others) n (in_filter (λ m. not (is_in ports m)) others n h (ap not e))

pub in_others : (ports others : List ℕ) (n : ℕ) → is_in others n ≡ true → is_in (signals_from ports others) n ≡ true
in_others ports others n h = in_others_by ports others n (is_in ports n) refl h
