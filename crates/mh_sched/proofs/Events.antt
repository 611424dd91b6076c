-- The next time is the earliest later one that has an event.
use Rattle.std.proofs.Common.{◌≡◌, ℕ, ◌+◌, ◌<◌, ◌≤◌, Bool, true, false, List, [], ◌∷◌, refl, sym, ap, ◌∙◌, arith, inl, inr}
use Rattle.std.specs.Prelude.{Option, None, Some, nat_lt, nat_le, ◌==◌, ◌||◌, if◌then◌else◌, ◌⊎◌, ◌↔◌}
use Rattle.std.specs.List.{filter, flat_map, list_any}
use Rattle.std.proofs.lemmas.Bool.{ltb-true, ltb-false, leb-true, leb-false, eqb-true, eq-eqb, or_cases, false_from_ne_true, both_ways}
use Rattle.std.proofs.lemmas.List.Folds.{list_any-append}
use Rattle.mh_design.specs.declared.design.Wait.{Wait}
use Rattle.mh_design.specs.declared.design.Wait.TheVariants as wait
use Rattle.mh_design.specs.Values.{Signals}
use Rattle.mh_design.specs.Deltas.{State, Process, is_over, waiter_at}
use Rattle.mh_sched.specs.Events.{some_is_over, has_event, IsNext, HasNoNext}
use Rattle.mh_sched.specs.Runs.{next_time, later_ends, all_ends, process_ends, delay_end, least, lesser}

abbrev holds : ℕ → List ℕ → Bool
holds v xs = list_any (λ x. x == v) xs

-- The least of some numbers is one of them, and none is below it.
lesser_is : (x : ℕ) (o : Option ℕ) (u : ℕ) → lesser x o ≡ Some u → ((x ≡ u) ⊎ (o ≡ Some u)) × (u ≤ x) × ((y : ℕ) → o ≡ Some y → u ≤ y)
lesser_is x None u e =
    let s : x ≡ u = cc in
    (inl s, omega (arith, s), λ y h. absurd cc)
lesser_is x (Some y) u e = by_le (nat_le x y) refl e where
  by_le : (b : Bool) → nat_le x y ≡ b → (if b then Some x else Some y) ≡ Some u → ((x ≡ u) ⊎ (Some y ≡ Some u)) × (u ≤ x) × ((z : ℕ) → Some y ≡ Some z → u ≤ z)
  by_le true w q =
      let s : x ≡ u = cc in
      let le = leb-true x y w in
      (inl s, omega (arith, s), λ z h. let t : y ≡ z = cc in omega (arith, s, t, le))
  by_le false w q =
      let s : y ≡ u = cc in
      let lt = leb-false x y w in
      (inr q, omega (arith, s, lt), λ z h. let t : y ≡ z = cc in omega (arith, s, t))

lesser_some : (x : ℕ) (o : Option ℕ) → lesser x o ≡ None → ⊥
lesser_some x None e = cc
lesser_some x (Some y) e = by_le (nat_le x y) e where
  by_le : (b : Bool) → (if b then Some x else Some y) ≡ None → ⊥
  by_le true q = cc
  by_le false q = cc

least_some : (x : ℕ) (xs : List ℕ) → least (x ∷ xs) ≡ None → ⊥
least_some x xs e = lesser_some x (least xs) e

holds_head : (v x : ℕ) (xs : List ℕ) → x ≡ v → holds v (x ∷ xs) ≡ true
holds_head v x xs e = rw (eq-eqb x v e) refl

holds_tail : (v x : ℕ) (xs : List ℕ) → holds v xs ≡ true → holds v (x ∷ xs) ≡ true
holds_tail v x xs e = by_test (x == v) where
  by_test : (b : Bool) → (b || holds v xs) ≡ true
  by_test true = refl
  by_test false = e

least_in : (xs : List ℕ) (u : ℕ) → least xs ≡ Some u → holds u xs ≡ true
least_in [] u e = absurd cc
least_in (x ∷ xs) u e =
    elim (lesser_is x (least xs) u e).0 [ inl s ↦ holds_head u x xs s | inr q ↦ holds_tail u x xs (least_in xs u q) ]

least_none : (xs : List ℕ) (v : ℕ) → least xs ≡ None → holds v xs ≡ true → ⊥
least_none [] v e h = cc
least_none (x ∷ xs) v e h = least_some x xs e

below_rest : (u v : ℕ) (xs : List ℕ) (o : Option ℕ) → least xs ≡ o → ((y : ℕ) → least xs ≡ Some y → u ≤ y) → ((y : ℕ) → least xs ≡ Some y → y ≤ v) → holds v xs ≡ true → u ≤ v
below_rest u v xs None w f f' q = absurd (least_none xs v w q)
below_rest u v xs (Some y) w f f' q = let a = f y w in let b = f' y w in omega (arith, a, b)

least_first : (xs : List ℕ) (u v : ℕ) → least xs ≡ Some u → holds v xs ≡ true → u ≤ v
least_first [] u v e h = absurd cc
least_first (x ∷ xs) u v e h =
    let l = lesser_is x (least xs) u e in
    elim (or_cases (x == v) (holds v xs) h) [ inl s ↦ (let t = eqb-true x v s in omega (arith, t, l.1)) | inr q ↦ below_rest u v xs (least xs) refl l.2 (λ y w. least_first xs y v w q) q ]

-- The later ones of some numbers.
later_of : (t : ℕ) (xs : List ℕ) (v : ℕ) → holds v (filter (nat_lt t) xs) ≡ true → (t < v) × (holds v xs ≡ true)
later_of t [] v h = absurd cc
later_of t (x ∷ xs) v h = by_test t x xs v (nat_lt t x) refl h (λ q. later_of t xs v q) where
  by_test : (t x : ℕ) (xs : List ℕ) (v : ℕ) (b : Bool) → nat_lt t x ≡ b → holds v (if b then x ∷ filter (nat_lt t) xs else filter (nat_lt t) xs) ≡ true → (holds v (filter (nat_lt t) xs) ≡ true → (t < v) × (holds v xs ≡ true)) → (t < v) × (holds v (x ∷ xs) ≡ true)
  by_test t x xs v false w q rest = let r = rest q in (r.0, holds_tail v x xs r.1)
  by_test t x xs v true w q rest =
      elim (or_cases (x == v) (holds v (filter (nat_lt t) xs)) q) [ inl s ↦ (let e = eqb-true x v s in let lt = ltb-true t x w in (omega (arith, e, lt), holds_head v x xs e)) | inr q' ↦ (let r = rest q' in (r.0, holds_tail v x xs r.1)) ]

of_later : (t : ℕ) (xs : List ℕ) (v : ℕ) → t < v → holds v xs ≡ true → holds v (filter (nat_lt t) xs) ≡ true
of_later t [] v lt h = absurd cc
of_later t (x ∷ xs) v lt h = by_test t x xs v lt (nat_lt t x) refl h (λ q. of_later t xs v lt q) where
  by_test : (t x : ℕ) (xs : List ℕ) (v : ℕ) → t < v → (b : Bool) → nat_lt t x ≡ b → holds v (x ∷ xs) ≡ true → (holds v xs ≡ true → holds v (filter (nat_lt t) xs) ≡ true) → holds v (if b then x ∷ filter (nat_lt t) xs else filter (nat_lt t) xs) ≡ true
  by_test t x xs v lt true w q rest =
      elim (or_cases (x == v) (holds v xs) q) [ inl s ↦ holds_head v x (filter (nat_lt t) xs) (eqb-true x v s) | inr q' ↦ holds_tail v x (filter (nat_lt t) xs) (rest q') ]
  by_test t x xs v lt false w q rest =
      elim (or_cases (x == v) (holds v xs) q) [ inl s ↦ (let e = eqb-true x v s in let le = ltb-false t x w in absurd (omega (arith, e, le, lt))) | inr q' ↦ rest q' ]

-- The ends of delays are the times at which one is over.
ends_over : (since v : ℕ) (ws : List Wait) → holds v (flat_map (delay_end since) ws) ≡ list_any (is_over v since) ws
ends_over since v [] = refl
ends_over since v (wait.Change n ∷ ws) = ends_over since v ws
ends_over since v (wait.Edge n up ∷ ws) = ends_over since v ws
ends_over since v (wait.Delay k ∷ ws) = ap (λ b. (since + k == v) || b) (ends_over since v ws)

all_over : (s : Signals) (g v : ℕ) (ps : List Process) → holds v (all_ends s g ps) ≡ some_is_over v s g ps
all_over s g v [] = refl
all_over s g v (p ∷ ps) =
    list_any-append (λ x. x == v) (process_ends s g p) (all_ends s (g + 1) ps) ∙ ap (λ b. b || holds v (all_ends s (g + 1) ps)) (ends_over p.since v (waiter_at s g).waits) ∙ ap (λ b. list_any (is_over v p.since) (waiter_at s g).waits || b) (all_over s (g + 1) v ps)

event_of : (st : State) (v : ℕ) → holds v (all_ends st.signals 0 st.processes) ≡ has_event st v
event_of st v = all_over st.signals 0 v st.processes

-- The next time is the earliest later one that has an event.
pub next_is : (st : State) (u : ℕ) → next_time st ≡ Some u → IsNext st u
next_is st u e =
    let l = later_of st.time (all_ends st.signals 0 st.processes) u (least_in (later_ends st) u e) in
    record { later = l.0; event = sym (event_of st u) ∙ l.1; first = λ v lt h. least_first (later_ends st) u v e (of_later st.time (all_ends st.signals 0 st.processes) v lt (event_of st v ∙ h)) }

pub next_is_later : (st : State) (u : ℕ) → next_time st ≡ Some u → st.time < u
next_is_later st u e = (next_is st u e).later

-- Where there is none, no later time has an event.
pub no_next : (st : State) → next_time st ≡ None → HasNoNext st
no_next st e v lt =
    false_from_ne_true (has_event st v) (λ h. least_none (later_ends st) v e (of_later st.time (all_ends st.signals 0 st.processes) v lt (event_of st v ∙ h)))

is_next_time : (st : State) (u : ℕ) → IsNext st u → (o : Option ℕ) → next_time st ≡ o → o ≡ Some u
is_next_time st u h None e = absurd (both_ways (has_event st u) (no_next st e u h.later) h.event)
is_next_time st u h (Some w) e =
    let k = next_is st w e in
    let a = k.first u h.later h.event in
    let b = h.first w k.later k.event in
    let s : w ≡ u = omega (arith, a, b) in
    ap Some s

no_next_time : (st : State) → HasNoNext st → (o : Option ℕ) → next_time st ≡ o → o ≡ None
no_next_time st h None e = refl
no_next_time st h (Some w) e =
    let k = next_is st w e in absurd (both_ways (has_event st w) (h w k.later) k.event)

pub next_iff : (st : State) (u : ℕ) → (next_time st ≡ Some u) ↔ IsNext st u
next_iff st u = (next_is st u, λ h. is_next_time st u h (next_time st) refl)

pub none_iff : (st : State) → (next_time st ≡ None) ↔ HasNoNext st
none_iff st = (no_next st, λ h. no_next_time st h (next_time st) refl)
