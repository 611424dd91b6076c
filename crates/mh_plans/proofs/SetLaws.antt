-- What a set has after lists of numbers were added in turn, and what generators use one by one.
use Rattle.std.proofs.Common.{◌≡◌, ◌∙◌, ℕ, ◌+◌, ◌<◌, Bool, true, false, ◌||◌, ◌==◌, List, [], ◌∷◌, ◌++◌, length, drop, get_or, Option, Some, None, map, refl, sym, ap}
use Rattle.std.specs.Prelude.{nat_eq, slice_get}
use Rattle.std.specs.List.{list_any, flat_map}
use Rattle.std.specs.Option.{option_map, option_map_or}
use Rattle.std.proofs.lemmas.List.Folds.{list_any-append}
use Rattle.std.proofs.lemmas.List.{append-nil, drop_more}
use Rattle.std.proofs.lemmas.Grind.{flat_map-append}
use Rattle.mh_design.specs.declared.design.MemDecl.{MemDecl}
use Rattle.mh_design.specs.WellFormed as design
use Rattle.mh_world.specs.World.{World, Made}
use Rattle.mh_plans.specs.Order.{is_in}
use Rattle.mh_plans.specs.Renumbered.{Chosen}
use Rattle.mh_plans.specs.Plans.{reads_at}
use Rattle.mh_plans.proofs.NumberLaws.{same_eq}

abbrev chosen_with : List ℕ → List ℕ → List ℕ → Chosen
chosen_with signals mems tables = record { signals = signals; mems = mems; tables = tables }

or_false : (b : Bool) → (b || false) ≡ b
or_false true = refl
or_false false = refl

or_assoc : (a b c : Bool) → ((a || b) || c) ≡ (a || (b || c))
or_assoc true b c = refl
or_assoc false b c = refl

in_append : (xs ys : List ℕ) (n : ℕ) → is_in (xs ++ ys) n ≡ (is_in xs n || is_in ys n)
in_append xs ys n = list_any-append (λ m. nat_eq n m) xs ys

-- a list after those before it
pub also : (old : Bool) (xs ys : List ℕ) (n : ℕ) → ((old || is_in xs n) || is_in ys n) ≡ (old || is_in (xs ++ ys) n)
also old xs ys n = or_assoc old (is_in xs n) (is_in ys n) ∙ ap (λ b. old || b) (sym (in_append xs ys n))

pub four : (old : Bool) (xs ys zs us : List ℕ) (n : ℕ) → ((((old || is_in xs n) || is_in ys n) || is_in zs n) || is_in us n) ≡ (old || is_in (xs ++ (ys ++ (zs ++ us))) n)
four old xs ys zs us n =
    also ((old || is_in xs n) || is_in ys n) zs us n
    ∙ (also (old || is_in xs n) ys (zs ++ us) n ∙ also old xs (ys ++ (zs ++ us)) n)

-- four lists in turn
pub four_added : (old a b c d : Bool) (xs ys zs us xs' ys' zs' us' : List ℕ) (n : ℕ) → a ≡ (old || is_in xs n) → b ≡ (a || is_in ys n) → c ≡ (b || is_in zs n) → d ≡ (c || is_in us n) → xs ≡ xs' → ys ≡ ys' → zs ≡ zs' → us ≡ us' → d ≡ (old || is_in (xs' ++ (ys' ++ (zs' ++ us'))) n)
four_added old a b c d xs ys zs us xs' ys' zs' us' n p q r s e f g h =
    s
    ∙ (ap (λ x. x || is_in us n) (r ∙ ap (λ x. x || is_in zs n) (q ∙ ap (λ x. x || is_in ys n) p))
    ∙ (ap (λ l. (((old || is_in l n) || is_in ys n) || is_in zs n) || is_in us n) e
    ∙ (ap (λ l. (((old || is_in xs' n) || is_in l n) || is_in zs n) || is_in us n) f
    ∙ (ap (λ l. (((old || is_in xs' n) || is_in ys' n) || is_in l n) || is_in us n) g
    ∙ (ap (λ l. (((old || is_in xs' n) || is_in ys' n) || is_in zs' n) || is_in l n) h
    ∙ four old xs' ys' zs' us' n)))))

-- two lists in turn
pub two_added : (old a b : Bool) (xs ys xs' ys' : List ℕ) (n : ℕ) → a ≡ (old || is_in xs n) → b ≡ (a || is_in ys n) → xs ≡ xs' → ys ≡ ys' → b ≡ (old || is_in (xs' ++ ys') n)
two_added old a b xs ys xs' ys' n p q e f =
    q
    ∙ (ap (λ x. x || is_in ys n) p
    ∙ (ap (λ l. (old || is_in l n) || is_in ys n) e
    ∙ (ap (λ l. (old || is_in xs' n) || is_in l n) f
    ∙ also old xs' ys' n)))

pub none_more : (old : Bool) (n : ℕ) → (old || is_in [] n) ≡ old
none_more old n = or_false old

-- ---- the elements of memories

same_list : (cells : List ℕ) (n : ℕ) → list_any (λ c. c == n) cells ≡ is_in cells n
same_list [] n = refl
same_list (c ∷ cs) n = ap (λ b. b || list_any (λ x. x == n) cs) (same_eq c n) ∙ ap (λ b. nat_eq n c || b) (same_list cs n)

pub cells_more : (ms : List MemDecl) (i n : ℕ) (m : MemDecl) (old : Bool) → i < length ms → m ≡ get_or ms i m → (old || design.is_in (drop i ms) n) ≡ ((old || is_in m.cells n) || design.is_in (drop (i + 1) ms) n)
cells_more ms i n m old lt is =
    ap (λ ys. old || design.is_in ys n) (drop_more ms i m lt ∙ ap (λ y. y ∷ drop (i + 1) ms) (sym is))
    ∙ (sym (or_assoc old (list_any (λ c. c == n) m.cells) (design.is_in (drop (i + 1) ms) n))
    ∙ ap (λ b. (old || b) || design.is_in (drop (i + 1) ms) n) (same_list m.cells n))

-- ---- the generators of numbers

pub reads_more : (w : World) (gs : List ℕ) (i : ℕ) → i < length gs → reads_at w (drop i gs) ≡ reads_at w (get_or gs i 0 ∷ []) ++ reads_at w (drop (i + 1) gs)
reads_more w gs i h =
    ap (reads_at w) (drop_more gs i 0 h)
    ∙ ap (λ xs. xs ++ reads_at w (drop (i + 1) gs)) (sym (append-nil (option_map_or (λ (x : Made). x ∷ []) (slice_get w.generators (get_or gs i 0)) [])))

pub reads_some : (w : World) (g : ℕ) (r : Made) → slice_get w.generators g ≡ Some r → reads_at w (g ∷ []) ≡ r ∷ []
reads_some w g r h = ap (λ o. option_map_or (λ (x : Made). x ∷ []) o [] ++ []) h

pub reads_none : (w : World) (g : ℕ) → slice_get w.generators g ≡ None → reads_at w (g ∷ []) ≡ []
reads_none w g h = ap (λ o. option_map_or (λ (x : Made). x ∷ []) o [] ++ []) h

-- what the next generators use, after what was used before
pub used_more : (f : Made → List ℕ) (all one rest : List Made) (old : Bool) (n : ℕ) → all ≡ one ++ rest → (old || is_in (flat_map f all) n) ≡ ((old || is_in (flat_map f one) n) || is_in (flat_map f rest) n)
used_more f all one rest old n e =
    ap (λ xs. old || is_in xs n) (ap (flat_map f) e ∙ flat_map-append f one rest)
    ∙ sym (also old (flat_map f one) (flat_map f rest) n)

-- what one generator uses
pub used_one : (f : Made → List ℕ) (one : List Made) (r : Made) (old : Bool) (n : ℕ) → one ≡ r ∷ [] → (old || is_in (f r) n) ≡ (old || is_in (flat_map f one) n)
used_one f one r old n e = sym (ap (λ xs. old || is_in xs n) (ap (flat_map f) e ∙ append-nil (f r)))

pub used_none : (f : Made → List ℕ) (one : List Made) (old : Bool) (n : ℕ) → one ≡ [] → old ≡ (old || is_in (flat_map f one) n)
used_none f one old n e = sym (ap (λ xs. old || is_in (flat_map f xs) n) e ∙ or_false old)

-- what was chosen, part by part
pub same_chosen : {signals mems tables signals' mems' tables' : List ℕ} → signals ≡ signals' → mems ≡ mems' → tables ≡ tables' → ◌≡◌ {A = Chosen} (record { signals = signals; mems = mems; tables = tables }) (record { signals = signals'; mems = mems'; tables = tables' })
same_chosen {signals} {mems} {tables} {signals'} {mems'} {tables'} p q r =
    ap (λ xs. chosen_with xs mems tables) p ∙ ap (λ xs. chosen_with signals' xs tables) q ∙ ap (λ xs. chosen_with signals' mems' xs) r
