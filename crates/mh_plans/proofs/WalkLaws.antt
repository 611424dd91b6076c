-- Steps of the walk over the parts of instances.
use Rattle.std.proofs.Common.{◌≡◌, ◌∙◌, ℕ, zero, suc, ◌+◌, ◌-◌, ◌<◌, ◌≤◌, Bor, List, [], ◌∷◌, ◌++◌, drop, reverse, Option, Some, None, Bool, false, cond, refl, sym, ap, arith, rules, add-one}
use Rattle.std.specs.Prelude.{slice_get}
use Rattle.std.specs.List.{flat_map}
use Rattle.std.specs.Option.{option_map_or}
use Rattle.std.proofs.lemmas.List.{reverse-append}
use Rattle.mh_consts.specs.declared.kinds.Const.{Const, out-Const, the_lemmas}
use Rattle.mh_consts.specs.declared.kinds.Const.TheOpen.{Const-F}
use Rattle.mh_consts.specs.declared.kinds.Const.TheVariants as c
use Rattle.mh_world.specs.declared.kinds.Instance.{Instance}
use Rattle.mh_plans.specs.Order.{Walk, is_in, with_last, parts_at, met_instance, visit, next, walk}
use Rattle.mh_plans.specs.Walks.{parts_ahead}

pub parts_ahead-push : (ss : List (Bor (List Const))) (s : Bor (List Const)) → parts_ahead (ss ++ s ∷ []) ≡ s.now ++ parts_ahead ss
parts_ahead-push ss s = ap (flat_map (λ (t : Bor (List Const)). t.now)) (reverse-append ss (s ∷ []))

-- what is ahead comes from what is visited
visit_ahead : (is : List Instance) (x : Const-F Const) (vs us : List Const) (k : Walk) → visit is x vs k ≡ visit is x vs (record k { ahead = us })
visit_ahead is (Const-F.Instance i) vs us k = refl
visit_ahead is (Const-F.Generator g) vs us k = refl
visit_ahead is x vs us k = refl

pub next_step : (is : List Instance) (x : Const) (vs us : List Const) (k : Walk) → slice_get vs 0 ≡ Some x → next is vs k ≡ visit is (out-Const x) (drop 1 vs) (record k { ahead = us })
next_step is x [] us k h = absurd (cc)
next_step is x (v ∷ vs) us k h =
    let e : v ≡ x = cc in
    ap (λ y. visit is (out-Const y) vs k) e ∙ visit_ahead is (out-Const x) vs us k

last : (n : ℕ) (is : List Instance) (k : Walk) → walk (suc n) is k ≡ next is (walk n is k).ahead (walk n is k)
last zero is k = refl
last (suc n) is k = last n is (next is k.ahead k)

pub walk-more : (n : ℕ) (is : List Instance) (k : Walk) → walk (n + 1) is k ≡ next is (walk n is k).ahead (walk n is k)
walk-more n is k = ap (λ m. walk m is k) (add-one n) ∙ last n is k

stays : (n : ℕ) (is : List Instance) (k : Walk) → k.ahead ≡ [] → walk n is k ≡ k
stays zero is k h = refl
stays (suc n) is k h = ap (λ vs. walk n is (next is vs k)) h ∙ stays n is k h

steps_on : (i j : ℕ) (is : List Instance) (k : Walk) → walk (i + j) is k ≡ walk j is (walk i is k)
steps_on zero j is k = let e : zero + j ≡ j = omega arith in ap (λ m. walk m is k) e
steps_on (suc i) j is k = let e : suc i + j ≡ suc (i + j) = omega arith in ap (λ m. walk m is k) e ∙ steps_on i j is (next is k.ahead k)

-- once nothing is ahead the walk has ended
pub walk_ends : (i n : ℕ) (is : List Instance) (k : Walk) → i ≤ n → (walk i is k).ahead ≡ [] → walk i is k ≡ walk n is k
walk_ends i n is k h e =
    let sum : i + (n - i) ≡ n = omega (arith, h) in
    sym (sym (ap (λ m. walk m is k) sum) ∙ (steps_on i (n - i) is k ∙ stays (n - i) is (walk i is k) e))

instance_out : (i : ℕ) → out-Const (c.Instance i) ≡ Const-F.Instance i
instance_out i = search (rules, the_lemmas)

-- the walk begins with the instance itself
pub walk_begins : (n top : ℕ) (is : List Instance) → 0 < n → walk (n - 1) is (met_instance is top [] (record { ahead = []; met = []; found = [] })) ≡ walk n is (record { ahead = c.Instance top ∷ []; met = []; found = [] })
walk_begins zero top is h = absurd (omega (arith, h))
walk_begins (suc n) top is h =
    let e : suc n - 1 ≡ n = omega arith in
    ap (λ m. walk m is (met_instance is top [] (record { ahead = []; met = []; found = [] }))) e
    ∙ sym (ap (λ x. walk n is (visit is x [] (record { ahead = c.Instance top ∷ []; met = []; found = [] }))) (instance_out top))

-- ---- an instance is met

met_new : (is : List Instance) (i : ℕ) (vs : List Const) (k : Walk) → is_in k.met i ≡ false → met_instance is i vs k ≡ record k { ahead = parts_at is i ++ vs; met = with_last k.met i }
met_new is i vs k h = ap (λ b. cond b (record k { ahead = vs }) (record k { ahead = parts_at is i ++ vs; met = with_last k.met i })) h

abbrev walking : List Const → List ℕ → List ℕ → Walk
walking a m f = record { ahead = a; met = m; found = f }

pub met_there : (is : List Instance) (i : ℕ) (x : Instance) (ss new : List (Bor (List Const))) (s : Bor (List Const)) (met more found : List ℕ) → is_in met i ≡ false → more ≡ with_last met i → slice_get is i ≡ Some x → s.now ≡ x.parts → new ≡ ss ++ s ∷ [] → record { ahead = parts_ahead new; met = more; found = found } ≡ met_instance is i (parts_ahead ss) (record { ahead = parts_ahead ss; met = met; found = found })
met_there is i x ss new s met more found out e there f g =
    let parts : parts_ahead new ≡ parts_at is i ++ parts_ahead ss = ap parts_ahead g ∙ parts_ahead-push ss s ∙ ap (λ vs. vs ++ parts_ahead ss) (f ∙ ap (λ o. option_map_or (λ (y : Instance). y.parts) o []) (sym there)) in
    ap (λ a. walking a more found) parts
    ∙ ap (λ m. walking (parts_at is i ++ parts_ahead ss) m found) e
    ∙ sym (met_new is i (parts_ahead ss) (walking (parts_ahead ss) met found) out)

pub met_nowhere : (is : List Instance) (i : ℕ) (ss : List (Bor (List Const))) (met more found : List ℕ) → is_in met i ≡ false → more ≡ with_last met i → slice_get is i ≡ None → record { ahead = parts_ahead ss; met = more; found = found } ≡ met_instance is i (parts_ahead ss) (record { ahead = parts_ahead ss; met = met; found = found })
met_nowhere is i ss met more found out e there =
    let none : parts_at is i ≡ [] = ap (λ o. option_map_or (λ (y : Instance). y.parts) o []) there in
    ap (λ a. walking (a ++ parts_ahead ss) more found) (sym none)
    ∙ ap (λ m. walking (parts_at is i ++ parts_ahead ss) m found) e
    ∙ sym (met_new is i (parts_ahead ss) (walking (parts_ahead ss) met found) out)

pub ruleset walk_laws = (parts_ahead-push, walk-more)
