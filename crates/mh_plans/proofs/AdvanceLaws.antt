-- The next part is met, one after another.
use Rattle.std.proofs.Common.{◌≡◌, ◌∙◌, ℕ, zero, suc, ◌+◌, ◌-◌, ◌<◌, ◌≤◌, Bor, List, [], ◌∷◌, ◌++◌, drop, reverse, Option, Some, None, Bool, false, cond, refl, sym, ap, arith, rules, add-one}
use Rattle.std.specs.Prelude.{slice_get}
use Rattle.std.specs.List.{flat_map}
use Rattle.std.specs.Option.{option_map_or}
use Rattle.std.proofs.lemmas.List.{reverse-append}
use Rattle.mh_consts.specs.declared.kinds.Const.{Const, out-Const, the_lemmas}
use Rattle.mh_consts.specs.declared.kinds.Const.TheOpen.{Const-F}
use Rattle.mh_consts.specs.declared.kinds.Const.TheVariants as c
use Rattle.mh_world.specs.declared.kinds.Instance.{Instance}
use Rattle.mh_plans.specs.Order.{Walk, is_in, with_last, parts_at, met_instance, visit, next, walk}
use Rattle.mh_plans.specs.Walks.{parts_ahead}
use Rattle.mh_plans.proofs.WalkLaws.{next_step, walk-more, walk_ends, walk_begins}

abbrev walking : List Const → List ℕ → List ℕ → Walk
walking a m f = record { ahead = a; met = m; found = f }

none_ahead : (vs : List Const) → None ≡ slice_get vs 0 → vs ≡ []
none_ahead [] h = refl
none_ahead (v ∷ vs) h = absurd (cc)

pub nothing_ahead : (vs : List Const) → None ≡ slice_get vs 0 → vs ≡ []
nothing_ahead = none_ahead

pub advance_none : (is : List Instance) (vs us : List Const) (met found : List ℕ) → us ≡ drop 1 vs → None ≡ slice_get vs 0 → record { ahead = us; met = met; found = found } ≡ next is vs (record { ahead = vs; met = met; found = found })
advance_none is [] us met found e h = ap (λ a. walking a met found) e
advance_none is (v ∷ vs) us met found e h = absurd (cc)

pub advance_some : (is : List Instance) (x : Const) (vs us : List Const) (met found : List ℕ) (new : Walk) → us ≡ drop 1 vs → Some x ≡ slice_get vs 0 → new ≡ visit is (out-Const x) us (record { ahead = us; met = met; found = found }) → new ≡ next is vs (record { ahead = vs; met = met; found = found })
advance_some is x vs us met found new e s h =
    h
    ∙ ap (λ a. visit is (out-Const x) a (walking a met found)) e
    ∙ sym (next_step is x vs (drop 1 vs) (walking vs met found) (sym s))

-- one step more, and the end
pub go_more : (i : ℕ) (is : List Instance) (k before new : Walk) → before ≡ walk i is k → new ≡ next is before.ahead before → new ≡ walk (i + 1) is k
go_more i is k before new b h = h ∙ ap (λ (j : Walk). next is j.ahead j) b ∙ sym (walk-more i is k)

pub go_ends : (i n : ℕ) (is : List Instance) (k before new : Walk) → i ≤ n → before ≡ walk i is k → before.ahead ≡ [] → new ≡ next is before.ahead before → new ≡ walk n is k
go_ends i n is k before new l b e h =
    h
    ∙ ap (λ vs. next is vs before) e
    ∙ b
    ∙ walk_ends i n is k l (ap (λ (j : Walk). j.ahead) (sym b) ∙ e)

-- all of it
pub whole : (n top : ℕ) (is : List Instance) (start : List (Bor (List Const))) (met found : List ℕ) (first last : Walk) → 0 < n → start ≡ [] → met ≡ [] → found ≡ [] → first ≡ met_instance is top (parts_ahead start) (record { ahead = parts_ahead start; met = met; found = found }) → last ≡ walk (n - 1) is first → last.found ≡ (walk n is (record { ahead = c.Instance top ∷ []; met = []; found = [] })).found
whole n top is start met found first last some e f g h l =
    ap (λ (j : Walk). j.found)
    (l
    ∙ ap (walk (n - 1) is)
    (h
    ∙ ap (λ s. met_instance is top (parts_ahead s) (walking (parts_ahead s) met found)) e
    ∙ ap (λ m. met_instance is top [] (walking [] m found)) f
    ∙ ap (λ q. met_instance is top [] (walking [] [] q)) g)
    ∙ walk_begins n top is some)
