-- Floor division: its law, and that nothing else keeps it.
use Rattle.std.proofs.Common.{ℕ, ℤ, pos, negsuc, ◌+◌, ◌-◌, ◌*◌, ◌/◌, ◌%◌, ◌<◌, ◌+ℤ◌, ◌*ℤ◌, ◌≡◌, sym, ap, ◌∙◌, arith}
use Rattle.std.proofs.lemmas.Int.{ints}
use Rattle.std.proofs.lemmas.Nat.{mod_below, div-add-mod', div-mul-add, mod-mul-add}
use borrow.Author.Differences.{sum_is_lem, product_is}
use Rattle.mh_codes.specs.Integers.{floor_div, floor_mod}

-- the remainder is below the divisor
pub floor_mod_below : (z : ℤ) (d : ℕ) → 0 < d → floor_mod z d < d
floor_mod_below (pos n) d some = mod_below n d some
floor_mod_below (negsuc n) d some = omega arith

-- the law of floor division
pub floor_division : (z : ℤ) (d : ℕ) → 0 < d → z ≡ (floor_div z d *ℤ pos d) +ℤ pos (floor_mod z d)
floor_division (pos n) d some = let e = div-add-mod' n d in omega (arith, ints, sum_is_lem, product_is)
floor_division (negsuc n) d some = let e = div-add-mod' n d in let l = mod_below n d some in omega (arith, ints, sum_is_lem, product_is)

-- quotients of naturals: no other pair keeps the law
same_parts : (d q r p s : ℕ) → r < d → s < d → q * d + r ≡ p * d + s → (q ≡ p) × (r ≡ s)
same_parts d q r p s a b e =
    let u : q ≡ p = sym (div-mul-add q d r a) ∙ ap (λ n. n / d) e ∙ div-mul-add p d s b in
    let v : r ≡ s = sym (mod-mul-add q d r a) ∙ ap (λ n. n % d) e ∙ mod-mul-add p d s b in
    (u, v)

-- and so of integers
pub floor_division_only : (z q : ℤ) (d r : ℕ) → r < d → z ≡ (q *ℤ pos d) +ℤ pos r → (q ≡ floor_div z d) × (r ≡ floor_mod z d)
floor_division_only (pos n) (pos q) d r l e =
    let g = same_parts d q r (n / d) (n % d) l (mod_below n d (omega arith)) (let f = div-add-mod' n d in omega (arith, ints, sum_is_lem, product_is)) in
    (ap pos g.0, g.1)
floor_division_only (pos n) (negsuc q) d r l e = absurd (omega (arith, ints, sum_is_lem, product_is))
floor_division_only (negsuc n) (pos q) d r l e = absurd (omega (arith, ints, sum_is_lem, product_is))
floor_division_only (negsuc n) (negsuc q) d r l e =
    let h : q * d + (d - 1 - r) ≡ n / d * d + n % d = let f = div-add-mod' n d in omega (arith, ints, sum_is_lem, product_is) in
    let g = same_parts d q (d - 1 - r) (n / d) (n % d) (omega arith) (mod_below n d (omega arith)) h in
    (ap negsuc g.0, omega (arith, g.1))
