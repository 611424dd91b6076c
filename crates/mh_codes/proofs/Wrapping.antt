-- Wrapping into a range gives the one integer of the range that differs by a multiple of its size.
use Rattle.std.proofs.Common.{ℕ, ◌^◌, ℤ, pos, negsuc, ◌<◌, ◌+ℤ◌, ◌-ℤ◌, ◌*ℤ◌, ◌≤ℤ◌, ◌≡◌, refl, sym, ap, ◌∙◌, unsigned_abs, arith}
use Rattle.std.proofs.lemmas.Int.{ints}
use borrow.Author.Differences.{up, down, product_is}
use Rattle.mh_codes.specs.Integers.{floor_div, floor_mod}
use Rattle.mh_codes.specs.Codes.{code}
use Rattle.mh_codes.proofs.Codes.{code_same}
use Rattle.mh_codes.specs.Ranges.{size_of, wrap_of}
use Rattle.mh_codes.proofs.Division.{floor_mod_below, floor_division, floor_division_only}

-- the size of what is not negative
abs_is : (t : ℤ) → pos 0 ≤ℤ t → pos (unsigned_abs t) ≡ t
abs_is (pos n) h = refl
abs_is (negsuc n) h = absurd (omega (arith, ints))

-- the size of a range, from its ends
pub size_is : (lo top : ℤ) → lo ≤ℤ top → pos (size_of lo top) ≡ (top -ℤ lo) +ℤ pos 1
size_is lo top h =
    let e = abs_is (top -ℤ lo) (omega (arith, ints)) in
    ap (λ t. t +ℤ pos 1) e

module _ (lo top : ℤ) (l : lo ≤ℤ top) where
  -- what is wrapped lies in the range
  pub wrap_of_low : (v : ℤ) → lo ≤ℤ wrap_of lo top v
  wrap_of_low v = omega (arith, ints)

  pub wrap_of_high : (v : ℤ) → wrap_of lo top v ≤ℤ top
  wrap_of_high v =
      let b = floor_mod_below (v -ℤ lo) (size_of lo top) (omega arith) in
      let s = size_is lo top l in
      top_of (floor_mod (v -ℤ lo) (size_of lo top)) (size_of lo top) b s
    where
      top_of : (r n : ℕ) → r < n → pos n ≡ (top -ℤ lo) +ℤ pos 1 → (lo +ℤ pos r) ≤ℤ top
      top_of r n b s = omega (arith, ints)

  -- it differs by a multiple of the size
  pub wrap_of_differs : (v : ℤ) → v ≡ wrap_of lo top v +ℤ (floor_div (v -ℤ lo) (size_of lo top) *ℤ pos (size_of lo top))
  wrap_of_differs v = moved (floor_div (v -ℤ lo) (size_of lo top) *ℤ pos (size_of lo top)) (floor_mod (v -ℤ lo) (size_of lo top)) (floor_division (v -ℤ lo) (size_of lo top) (omega arith))
    where
      moved : (m : ℤ) (r : ℕ) → v -ℤ lo ≡ m +ℤ pos r → v ≡ (lo +ℤ pos r) +ℤ m
      moved m r e = omega (arith, ints)

  -- and nothing else of the range does
  pub wrap_of_only : (v x k : ℤ) → lo ≤ℤ x → x ≤ℤ top → v ≡ x +ℤ (k *ℤ pos (size_of lo top)) → x ≡ wrap_of lo top v
  wrap_of_only v x k a b e =
      let r = unsigned_abs (x -ℤ lo) in
      let f = abs_is (x -ℤ lo) (omega (arith, ints)) in
      let s = size_is lo top l in
      let g = floor_division_only (v -ℤ lo) k (size_of lo top) r (less r (size_of lo top) f s) (moved (k *ℤ pos (size_of lo top)) r f e) in
      back r f ∙ ap (λ n. lo +ℤ pos n) g.1
    where
      less : (r n : ℕ) → pos r ≡ x -ℤ lo → pos n ≡ (top -ℤ lo) +ℤ pos 1 → r < n
      less r n f s = omega (arith, ints)

      moved : (m : ℤ) (r : ℕ) → pos r ≡ x -ℤ lo → v ≡ x +ℤ m → v -ℤ lo ≡ m +ℤ pos r
      moved m r f e = omega (arith, ints)

      back : (r : ℕ) → pos r ≡ x -ℤ lo → x ≡ lo +ℤ pos r
      back r f = omega (arith, ints)

  -- an integer of the range stays, so wrapping twice is wrapping once
  pub wrap_of_inside : (v : ℤ) → lo ≤ℤ v → v ≤ℤ top → wrap_of lo top v ≡ v
  wrap_of_inside v a b = sym (wrap_of_only v v (pos 0) a b (none v (size_of lo top)))
    where
      none : (v : ℤ) (n : ℕ) → v ≡ v +ℤ (pos 0 *ℤ pos n)
      none v n = omega (arith, ints, product_is)

  -- so wrapping again changes nothing
  pub wrap_of-wrap_of : (v : ℤ) → wrap_of lo top (wrap_of lo top v) ≡ wrap_of lo top v
  wrap_of-wrap_of v = wrap_of_inside (wrap_of lo top v) (wrap_of_low v) (wrap_of_high v)

-- integers that differ by a multiple of 2 ^ w have one code of w bits
pub code_differs : (w : ℕ) (v x k : ℤ) → v ≡ x +ℤ (k *ℤ pos (2 ^ w)) → code w v ≡ code w x
code_differs w v x k e = code_same w v x (down k) (up k) (omega (arith, ints, product_is, e))

-- so wrapping into a range of 2 ^ w integers keeps the w low bits
pub code-wrap_of : (w : ℕ) (lo top v : ℤ) → lo ≤ℤ top → size_of lo top ≡ 2 ^ w → code w (wrap_of lo top v) ≡ code w v
code-wrap_of w lo top v l e =
    let q = floor_div (v -ℤ lo) (size_of lo top) in
    sym (code_differs w v (wrap_of lo top v) q (wrap_of_differs lo top l v ∙ ap (λ n. wrap_of lo top v +ℤ (q *ℤ pos n)) e))
