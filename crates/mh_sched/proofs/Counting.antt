-- How many numbers of a range pass a test.
use Rattle.std.proofs.Common.{◌≡◌, ℕ, suc, ◌+◌, ◌-◌, ◌<◌, ◌≤◌, Bool, true, false, ◌∷◌, length, refl, sym, ap, ◌∙◌, arith}
use Rattle.std.specs.Prelude.{if◌then◌else◌}
use Rattle.std.specs.List.{filter, range_with_len}

module _ (p : ℕ → Bool) (count : ℕ) where
  -- how many of those from n on
  abbrev pub many_from : ℕ → ℕ
  many_from n = length (filter p (range_with_len n (count - n)))

  filtered : (n m : ℕ) (b : Bool) → p n ≡ b → length (filter p (range_with_len n (suc m))) ≡ (if b then suc (length (filter p (range_with_len (n + 1) m))) else length (filter p (range_with_len (n + 1) m)))
  filtered n m true e = ap (λ x. length (if x then n ∷ filter p (range_with_len (n + 1) m) else filter p (range_with_len (n + 1) m))) e
  filtered n m false e = ap (λ x. length (if x then n ∷ filter p (range_with_len (n + 1) m) else filter p (range_with_len (n + 1) m))) e

  pub many_next : (n : ℕ) (b : Bool) → n < count → p n ≡ b → many_from n ≡ (if b then suc (many_from (n + 1)) else many_from (n + 1))
  many_next n b h e =
      let m : count - n ≡ suc (count - (n + 1)) = omega arith in
      ap (λ k. length (filter p (range_with_len n k))) m ∙ filtered n (count - (n + 1)) b e

  pub many_all : many_from 0 ≡ length (filter p (range_with_len 0 count))
  many_all = let m : count - 0 ≡ count = omega arith in ap (λ k. length (filter p (range_with_len 0 k))) m

  pub many_end : (n : ℕ) → count ≤ n → many_from n ≡ 0
  many_end n h = let m : count - n ≡ 0 = omega arith in ap (λ k. length (filter p (range_with_len n k))) m

-- How many of those below n there are so far.
pub record Counted (p : ℕ → Bool) (count n many : ℕ) : Type 0 where
  pub total : many + many_from p count n ≡ many_from p count 0
  pub bound : many ≤ n

pub counted_none : (p : ℕ → Bool) (count : ℕ) → Counted p count 0 0
counted_none p count = record { total = omega arith; bound = omega arith }

pub counted_more : {p : ℕ → Bool} {count n many : ℕ} (more : ℕ) (b : Bool) → Counted p count n many → n < count → b ≡ p n → (b ≡ true → more ≡ many + 1) → (b ≡ false → more ≡ many) → Counted p count (n + 1) more
counted_more {p} {count} {n} {many} more true c h e y f =
    let a : many_from p count n ≡ suc (many_from p count (n + 1)) = many_next p count n true h (sym e) in
    let m = y refl in
    let w = c.total in
    let l = c.bound in
    record { total = omega (arith, a, m, w); bound = omega (arith, m, l) }
counted_more {p} {count} {n} {many} more false c h e y f =
    let a : many_from p count n ≡ many_from p count (n + 1) = many_next p count n false h (sym e) in
    let m = f refl in
    let w = c.total in
    let l = c.bound in
    record { total = omega (arith, a, m, w); bound = omega (arith, m, l) }

pub counted_all : {p : ℕ → Bool} {count n many : ℕ} → Counted p count n many → count ≤ n → many ≡ length (filter p (range_with_len 0 count))
counted_all {p} {count} {n} {many} c h =
    let z = many_end p count n h in
    let w = c.total in
    let e : many ≡ many_from p count 0 = omega (arith, z, w) in
    e ∙ many_all p count
