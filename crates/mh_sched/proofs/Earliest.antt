-- The earliest end by one wait after the other is the least of all later ends.
use Rattle.std.proofs.Common.{◌≡◌, ℕ, ◌+◌, ◌<◌, ◌≤◌, Bool, true, false, List, [], ◌∷◌, ◌++◌, refl, sym, ap, ◌∙◌, arith}
use Rattle.std.specs.Prelude.{Option, None, Some, nat_lt, nat_le, if◌then◌else◌}
use Rattle.std.specs.List.{filter, flat_map}
use Rattle.std.proofs.lemmas.Bool.{leb-true, leb-false, le-leb, lt-leb, cond-true, cond-false}
use Rattle.std.proofs.lemmas.List.Elements.{filter-append}
use Rattle.mh_design.specs.declared.design.Wait.{Wait}
use Rattle.mh_design.specs.declared.design.Wait.TheVariants as wait
use Rattle.mh_sched.specs.Runs.{delay_end, least, lesser}
use Rattle.mh_sched.specs.Events.{with_ends, earlier}

-- Two times are looked at in any order.
lesser_le : (x y : ℕ) → x ≤ y → lesser x (Some y) ≡ Some x
lesser_le x y e = cond-true (nat_le x y) (Some x) (Some y) (le-leb x y e)

lesser_gt : (x y : ℕ) → y < x → lesser x (Some y) ≡ Some y
lesser_gt x y e = cond-false (nat_le x y) (Some x) (Some y) (lt-leb x y e)

later_alone : (x y : ℕ) → x ≤ y → lesser y (Some x) ≡ Some x
later_alone x y e = by_order (nat_le y x) refl where
  by_order : (t : Bool) → nat_le y x ≡ t → lesser y (Some x) ≡ Some x
  by_order true w = let le = leb-true y x w in let s : y ≡ x = omega (arith, le, e) in lesser_le y x le ∙ ap Some s
  by_order false w = lesser_gt y x (leb-false y x w)

drop_later : (x y : ℕ) (b : Option ℕ) → x ≤ y → lesser y (lesser x b) ≡ lesser x b
drop_later x y None e = later_alone x y e
drop_later x y (Some z) e = by_order (nat_le x z) refl where
  by_order : (t : Bool) → nat_le x z ≡ t → lesser y (lesser x (Some z)) ≡ lesser x (Some z)
  by_order true w =
      let a = lesser_le x z (leb-true x z w) in
      ap (lesser y) a ∙ later_alone x y e ∙ sym a
  by_order false w =
      let lt = leb-false x z w in
      let a = lesser_gt x z lt in
      ap (lesser y) a ∙ lesser_gt y z (omega (arith, lt, e)) ∙ sym a

drop_earlier : (x y : ℕ) (b : Option ℕ) → y < x → lesser y (lesser x b) ≡ lesser y b
drop_earlier x y None e = lesser_le y x (omega (arith, e))
drop_earlier x y (Some z) e = by_order (nat_le x z) refl where
  by_order : (t : Bool) → nat_le x z ≡ t → lesser y (lesser x (Some z)) ≡ lesser y (Some z)
  by_order true w =
      let le = leb-true x z w in
      ap (lesser y) (lesser_le x z le) ∙ lesser_le y x (omega (arith, e)) ∙ sym (lesser_le y z (omega (arith, e, le)))
  by_order false w = ap (lesser y) (lesser_gt x z (leb-false x z w))

least_on : (x : ℕ) (o b : Option ℕ) → earlier o (lesser x b) ≡ earlier (lesser x o) b
least_on x None b = refl
least_on x (Some y) b = by_order (nat_le x y) refl where
  by_order : (t : Bool) → nat_le x y ≡ t → lesser y (lesser x b) ≡ earlier (lesser x (Some y)) b
  by_order true w =
      let le = leb-true x y w in
      drop_later x y b le ∙ sym (ap (λ o. earlier o b) (lesser_le x y le))
  by_order false w =
      let lt = leb-false x y w in
      drop_earlier x y b lt ∙ sym (ap (λ o. earlier o b) (lesser_gt x y lt))

-- The ends of the waits of one generator.
pub ends_least : (after since : ℕ) (ws : List Wait) (b : Option ℕ) → with_ends after since ws b ≡ earlier (least (filter (nat_lt after) (flat_map (delay_end since) ws))) b
ends_least after since [] b = refl
ends_least after since (wait.Change n ∷ ws) b = ends_least after since ws b
ends_least after since (wait.Edge n up ∷ ws) b = ends_least after since ws b
ends_least after since (wait.Delay k ∷ ws) b = by_test (nat_lt after (since + k)) (filter (nat_lt after) (flat_map (delay_end since) ws)) (λ c. ends_least after since ws c) where
  by_test : (t : Bool) (later : List ℕ) → ((c : Option ℕ) → with_ends after since ws c ≡ earlier (least later) c) → with_ends after since ws (if t then lesser (since + k) b else b) ≡ earlier (least (if t then (since + k) ∷ later else later)) b
  by_test true later h = h (lesser (since + k) b) ∙ least_on (since + k) (least later) b
  by_test false later h = h b

-- The earliest of the ends of several generators, by one after the other.
lesser_on : (x y : ℕ) (b : Option ℕ) → lesser x (lesser y b) ≡ earlier (lesser x (Some y)) b
lesser_on x y b = by_order (nat_le x y) refl where
  same_or_less : (t : Bool) → nat_le y x ≡ t → x ≤ y → lesser x (lesser y b) ≡ lesser x b
  same_or_less true w le =
      let ge = leb-true y x w in
      let s : x ≡ y = omega (arith, le, ge) in
      ap (λ z. lesser x (lesser z b)) (sym s) ∙ drop_later x x b (omega arith)
  same_or_less false w le = drop_earlier y x b (leb-false y x w)

  by_order : (t : Bool) → nat_le x y ≡ t → lesser x (lesser y b) ≡ earlier (lesser x (Some y)) b
  by_order true w =
      let le = leb-true x y w in
      same_or_less (nat_le y x) refl le ∙ sym (ap (λ o. earlier o b) (lesser_le x y le))
  by_order false w =
      let lt = leb-false x y w in
      drop_later y x b (omega (arith, lt)) ∙ sym (ap (λ o. earlier o b) (lesser_gt x y lt))

earlier_in : (x : ℕ) (o b : Option ℕ) → lesser x (earlier o b) ≡ earlier (lesser x o) b
earlier_in x None b = refl
earlier_in x (Some y) b = lesser_on x y b

least_append : (xs ys : List ℕ) → least (xs ++ ys) ≡ earlier (least xs) (least ys)
least_append [] ys = refl
least_append (x ∷ xs) ys = ap (lesser x) (least_append xs ys) ∙ earlier_in x (least xs) (least ys)

later_earlier : (p r b : Option ℕ) → earlier r (earlier p b) ≡ earlier (earlier p r) b
later_earlier None r b = refl
later_earlier (Some x) r b = least_on x r b

-- One generator's ends before those of others.
pub ends_more : (after : ℕ) (xs ys : List ℕ) (b : Option ℕ) → earlier (least (filter (nat_lt after) (xs ++ ys))) b ≡ earlier (least (filter (nat_lt after) ys)) (earlier (least (filter (nat_lt after) xs)) b)
ends_more after xs ys b =
    ap (λ zs. earlier (least zs) b) (filter-append (nat_lt after) xs ys) ∙ ap (λ o. earlier o b) (least_append (filter (nat_lt after) xs) (filter (nat_lt after) ys)) ∙ sym (later_earlier (least (filter (nat_lt after) xs)) (least (filter (nat_lt after) ys)) b)

pub ends_none : (o : Option ℕ) → earlier o None ≡ o
ends_none None = refl
ends_none (Some x) = refl
