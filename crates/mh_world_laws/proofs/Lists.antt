-- What holds of all items of a list, and of those at places.
use Rattle.std.proofs.Common.{◌≡◌, ◌≢◌, ℕ, zero, suc, Bool, true, false, ◌&&◌, List, [], ◌∷◌, ◌++◌, length, drop, cond, Option, Some, None, refl, ap, sym, subst, ◌∙◌, if◌then◌else◌, slice_get}
use Rattle.std.specs.Prelude.{slice_set, filter}
use Rattle.std.specs.List.{list_all}
use Rattle.std.specs.Option.{option_map, option_map_or, option_and_then}
use Rattle.std.proofs.lemmas.Bool.{and_parts, and_from}
use Rattle.std.proofs.lemmas.List.{length-set}
use Rattle.mh_world.specs.World.{put_at, changed}
use Rattle.mh_lower_laws.proofs.Basics.{all_at}

-- ---- truth values

pub both_then : (a b c e : Bool) → (a ≡ true → c ≡ true) → (b ≡ true → e ≡ true) → (a && b) ≡ true → (c && e) ≡ true
both_then a b c e f g h = let p = and_parts a b h in and_from c e (f p.0) (g p.1)

-- ---- options

pub map_then : {X : Type 0} (p q : X → Bool) (o : Option X) → ((x : X) → p x ≡ true → q x ≡ true) → option_map_or p o false ≡ true → option_map_or q o false ≡ true
map_then p q None f h = absurd (cc)
map_then p q (Some x) f h = f x h

pub and_then_later : {X Y : Type 0} (f : X → Option Y) (o p : Option X) (r : Y) → ((x : X) → o ≡ Some x → p ≡ Some x) → option_and_then f o ≡ Some r → option_and_then f p ≡ Some r
and_then_later f None p r k h = absurd (cc)
and_then_later f (Some x) p r k h = ap (option_and_then f) (k x refl) ∙ h

-- ---- lists

pub all_set : {X : Type 0} (p : X → Bool) (xs : List X) (n : ℕ) (x : X) → list_all p xs ≡ true → p x ≡ true → list_all p (slice_set xs n x) ≡ true
all_set p [] n x h q = refl
all_set p (y ∷ xs) zero x h q = and_from (p x) (list_all p xs) q (and_parts (p y) (list_all p xs) h).1
all_set p (y ∷ xs) (suc n) x h q = let a = and_parts (p y) (list_all p xs) h in and_from (p y) (list_all p (slice_set xs n x)) a.0 (all_set p xs n x a.1 q)

all_put : {X : Type 0} (p : X → Bool) (f : X → X) (xs : List X) (n : ℕ) (o : Option X) → slice_get xs n ≡ o → ((x : X) → p x ≡ true → p (f x) ≡ true) → list_all p xs ≡ true → list_all p (put_at xs n (option_map f o)) ≡ true
all_put p f xs n None e k h = h
all_put p f xs n (Some x) e k h = all_set p xs n (f x) h (k x (all_at p xs n x h e))

pub all_changed : {X : Type 0} (p : X → Bool) (f : X → X) (xs : List X) (n : ℕ) → ((x : X) → p x ≡ true → p (f x) ≡ true) → list_all p xs ≡ true → list_all p (changed f xs n) ≡ true
all_changed p f xs n k h = all_put p f xs n (slice_get xs n) refl k h

length_put : {X : Type 0} (xs : List X) (n : ℕ) (o : Option X) → length (put_at xs n o) ≡ length xs
length_put xs n None = refl
length_put xs n (Some x) = length-set xs n x

pub length_changed : {X : Type 0} (f : X → X) (xs : List X) (n : ℕ) → length (changed f xs n) ≡ length xs
length_changed f xs n = length_put xs n (option_map f (slice_get xs n))

-- what holds at a place holds there where another item takes a place
pub kept_set : {X : Type 0} (p : X → Bool) (xs : List X) (n m : ℕ) (x y : X) → slice_get xs n ≡ Some y → (p y ≡ true → p x ≡ true) → option_map_or p (slice_get xs m) false ≡ true → option_map_or p (slice_get (slice_set xs n x) m) false ≡ true
kept_set p [] n m x y e k h = h
kept_set p (z ∷ xs) zero zero x y e k h = let q : z ≡ y = cc in k (ap p (sym q) ∙ h)
kept_set p (z ∷ xs) zero (suc m) x y e k h = h
kept_set p (z ∷ xs) (suc n) zero x y e k h = h
kept_set p (z ∷ xs) (suc n) (suc m) x y e k h = kept_set p xs n m x y e k h

kept_put : {X : Type 0} (p : X → Bool) (f : X → X) (xs : List X) (n m : ℕ) (o : Option X) → slice_get xs n ≡ o → ((x : X) → p x ≡ true → p (f x) ≡ true) → option_map_or p (slice_get xs m) false ≡ true → option_map_or p (slice_get (put_at xs n (option_map f o)) m) false ≡ true
kept_put p f xs n m None e k h = h
kept_put p f xs n m (Some x) e k h = kept_set p xs n m (f x) x e (k x) h

pub kept_changed : {X : Type 0} (p : X → Bool) (f : X → X) (xs : List X) (n m : ℕ) → ((x : X) → p x ≡ true → p (f x) ≡ true) → option_map_or p (slice_get xs m) false ≡ true → option_map_or p (slice_get (changed f xs n) m) false ≡ true
kept_changed p f xs n m k h = kept_put p f xs n m (slice_get xs n) refl k h

-- the items at other places stay
pub get_other : {X : Type 0} (xs : List X) (n m : ℕ) (x : X) → m ≢ n → slice_get (slice_set xs n x) m ≡ slice_get xs m
get_other [] n m x d = refl
get_other (z ∷ xs) zero zero x d = absurd (d refl)
get_other (z ∷ xs) zero (suc m) x d = refl
get_other (z ∷ xs) (suc n) zero x d = refl
get_other (z ∷ xs) (suc n) (suc m) x d = get_other xs n m x (λ e. d (ap suc e))

-- what stands behind all others
pub at_end : {X : Type 0} (P : X → Type 0) (xs : List X) (x : X) → ((n : ℕ) (y : X) → slice_get xs n ≡ Some y → P y) → P x → (n : ℕ) (y : X) → slice_get (xs ++ x ∷ []) n ≡ Some y → P y
at_end P [] x f h zero y e = let q : x ≡ y = cc in subst P q h
at_end P [] x f h (suc n) y e = absurd (cc)
at_end P (z ∷ xs) x f h zero y e = f zero y e
at_end P (z ∷ xs) x f h (suc n) y e = at_end P xs x (λ m v q. f (suc m) v q) h n y e

pub all_end : {X : Type 0} (p : X → Bool) (xs : List X) (x : X) → list_all p xs ≡ true → p x ≡ true → list_all p (xs ++ x ∷ []) ≡ true
all_end p [] x h q = and_from (p x) true q refl
all_end p (y ∷ xs) x h q = let a = and_parts (p y) (list_all p xs) h in and_from (p y) (list_all p (xs ++ x ∷ [])) a.0 (all_end p xs x a.1 q)

pub all_drop : {X : Type 0} (p : X → Bool) (xs : List X) → list_all p xs ≡ true → list_all p (drop 1 xs) ≡ true
all_drop p [] h = refl
all_drop p (x ∷ xs) h = (and_parts (p x) (list_all p xs) h).1

all_cond : {X : Type 0} (p : X → Bool) (b : Bool) (x : X) (xs : List X) → p x ≡ true → list_all p xs ≡ true → list_all p (cond b (x ∷ xs) xs) ≡ true
all_cond p true x xs h k = and_from (p x) (list_all p xs) h k
all_cond p false x xs h k = k

pub all_filter : {X : Type 0} (p q : X → Bool) (xs : List X) → list_all p xs ≡ true → list_all p (filter q xs) ≡ true
all_filter p q [] h = refl
all_filter p q (x ∷ xs) h = let a = and_parts (p x) (list_all p xs) h in all_cond p (q x) x (filter q xs) a.0 (all_filter p q xs a.1)

pub all_if : {X : Type 0} (p : X → Bool) (b : Bool) (xs ys : List X) → list_all p xs ≡ true → list_all p ys ≡ true → list_all p (if b then xs else ys) ≡ true
all_if p true xs ys h k = h
all_if p false xs ys h k = k
