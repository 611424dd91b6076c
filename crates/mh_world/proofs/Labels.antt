-- The elements that are still to be labelled, where more are put on top.
use Rattle.std.proofs.Common.{◌≡◌, ℕ, zero, suc, ◌+◌, ◌-◌, ◌*◌, ◌^◌, ◌<◌, ◌≤◌, List, [], ◌∷◌, ◌++◌, length, refl, ap, ◌∙◌, arith}
use Rattle.std.proofs.Math.Nat.{mul-le-mul_right, mul-pos, pow-suc, pow-zero}
use Rattle.std.specs.Prelude.{Some, drop, slice_get}
use Rattle.std.specs.Option.{option_map_or}
use Rattle.mh_consts.specs.declared.kinds.Const.{Const}
use Rattle.mh_world.specs.Named.{Labelling, element, items_of, label_items, label_through}
use Rattle.mh_world.specs.Labels.{rest, all_rest, base, total, work, all_work}
use Rattle.mh_world.specs.declared.kinds.Label.{Label}
use Rattle.mh_world.specs.declared.kinds.Marks.{Marks}
use Rattle.mh_world.specs.declared.marks.Rest.{Rest}

pub all_rest-push : (ls : List (List Const)) (fs : List Rest) (x : Rest) (k : Marks) → all_rest ls (fs ++ x ∷ []) k ≡ all_rest ls fs (rest ls x k)
all_rest-push ls [] x k = refl
all_rest-push ls (f ∷ fs) x k = ap (rest ls f) (all_rest-push ls fs x k)

pub all_work-push : (ls : List (List Const)) (fs : List Rest) (x : Rest) → all_work ls (fs ++ x ∷ []) ≡ all_work ls fs + work ls x
all_work-push ls [] x = omega arith
all_work-push ls (f ∷ fs) x = let h = all_work-push ls fs x in omega (arith, h)

-- the first of some elements is labelled, and then the others
pub items_step : (f : Labelling) (p : Label) (i : ℕ) (vs : List Const) (k : Marks) →
    label_items f p i vs k ≡ option_map_or (λ v. label_items f p (i + 1) (drop 1 vs) (f (element p i) v k)) (slice_get vs 0) k
items_step f p i [] k = refl
items_step f p i (v ∷ vs) k = refl

pub ruleset steps = (all_rest-push, all_work-push, items_step)

pub ruleset pushes = (all_rest-push, all_work-push)

at_least : (a b : ℕ) → a ≤ a + b
at_least a b = omega arith

length_below : (ls : List (List Const)) (n : ℕ) → length (items_of (slice_get ls n)) ≤ total ls
length_below [] n = omega arith
length_below (vs ∷ ls) zero = at_least (length vs) (total ls)
length_below (vs ∷ ls) (suc n) = let h = length_below ls n in omega (arith, h)

pub some_power : (ls : List (List Const)) (d : ℕ) → 0 < base ls ^ d
some_power ls zero = omega (arith, pow-zero (base ls))
some_power ls (suc d) =
    let p : 0 < base ls ^ d = some_power ls d in
    let q : 0 < base ls ^ d * base ls = mul-pos p (omega arith) in
    omega (arith, pow-suc (base ls) d, q)

fits_one : (t l q : ℕ) → l ≤ t → 0 < q → l * q + 1 < q * (t + 2)
fits_one t l q h p = let m : l * q ≤ t * q = mul-le-mul_right q h in omega (arith, m)

less : (n : ℕ) → suc n - 1 ≡ n
less n = omega arith

-- going into a list takes fewer steps than an element may
pub under_power : (ls : List (List Const)) (n d : ℕ) → 0 < d → length (items_of (slice_get ls n)) * base ls ^ (d - 1) + 1 < base ls ^ d
under_power ls n zero h = absurd (omega arith)
under_power ls n (suc d) h =
    rw (less d, pow-suc (base ls) d) (fits_one (total ls) (length (items_of (slice_get ls n))) (base ls ^ d) (length_below ls n) (some_power ls d))

pub ruleset powers = (under_power, some_power)

-- ---- orders between numbers of steps

pub more_steps : (a q : ℕ) → 0 < q → a < a + q
more_steps a q h = omega arith

pub fewer_steps : (a b c d : ℕ) → a ≤ b + c → c < d → a < b + d
fewer_steps a b c d h p = omega arith

more_times : (n q : ℕ) → suc n * q ≡ n * q + q
more_times n q = omega arith

pub length_first : (vs : List Const) (v : Const) (q : ℕ) → slice_get vs 0 ≡ Some v → length vs * q ≡ length (drop 1 vs) * q + q
length_first [] v q h = absurd (cc)
length_first (u ∷ vs) v q h = more_times (length vs) q

-- one element takes fewer steps than labelling all of them
pub under_top : (a b s n m q : ℕ) → a < b + q → b ≡ s + (m * q + 1) → n * q ≡ m * q + q → a < s + (n * q + 1)
under_top a b s n m q h e p = omega arith

-- ---- the first of some elements is labelled, and the others are put on top

next_rest : (f : Labelling) (p own : Label) (i j : ℕ) (vs us : List Const) (v : Const) (k : Marks) →
    j ≡ i + 1 → us ≡ drop 1 vs → own ≡ element p i → slice_get vs 0 ≡ Some v → label_items f p j us (f own v k) ≡ label_items f p i vs k
next_rest f p own i j [] us v k hj hu ho h = absurd (cc)
next_rest f p own i j (w ∷ vs) us v k hj hu ho h = cc

pub first_labelled : (ls : List (List Const)) (fs gs : List Rest) (x y : Rest) (own : Label) (v : Const) (k : Marks) →
    gs ≡ fs ++ y ∷ [] → y.label ≡ x.label → y.depth ≡ x.depth → y.place ≡ x.place + 1 → y.elements.now ≡ drop 1 x.elements.now →
    own ≡ element x.label x.place → slice_get x.elements.now 0 ≡ Some v →
    all_rest ls gs (label_through ls x.depth own v k) ≡ all_rest ls fs (rest ls x k)
first_labelled ls fs gs x y own v k e hl hd hp hu ho h =
    ap (λ rs. all_rest ls rs (label_through ls x.depth own v k)) e
    ∙ (all_rest-push ls fs y (label_through ls x.depth own v k)
    ∙ ap (all_rest ls fs)
    (ap (λ p. label_items (label_through ls y.depth) p y.place y.elements.now (label_through ls x.depth own v k)) hl
    ∙ (ap (λ d. label_items (label_through ls d) x.label y.place y.elements.now (label_through ls x.depth own v k)) hd
    ∙ next_rest (label_through ls x.depth) x.label own x.place y.place x.elements.now y.elements.now v k hp hu ho h)))

work_of : (ls : List (List Const)) (x y : Rest) → y.depth ≡ x.depth → y.elements.now ≡ drop 1 x.elements.now →
    work ls y ≡ length (drop 1 x.elements.now) * base ls ^ x.depth + 1
work_of ls x y hd hu = ap (λ d. length y.elements.now * base ls ^ d + 1) hd ∙ ap (λ us. length us * base ls ^ x.depth + 1) hu

pub first_worked : (ls : List (List Const)) (fs gs : List Rest) (x y : Rest) (v : Const) (a : ℕ) →
    gs ≡ fs ++ y ∷ [] → y.depth ≡ x.depth → y.elements.now ≡ drop 1 x.elements.now → slice_get x.elements.now 0 ≡ Some v →
    a < all_work ls gs + base ls ^ x.depth → a < all_work ls fs + work ls x
first_worked ls fs gs x y v a e hd hu h less =
    under_top a (all_work ls gs) (all_work ls fs) (length x.elements.now) (length (drop 1 x.elements.now)) (base ls ^ x.depth) less
    (ap (all_work ls) e ∙ (all_work-push ls fs y ∙ ap (λ n. all_work ls fs + n) (work_of ls x y hd hu)))
    (length_first x.elements.now v (base ls ^ x.depth) h)
