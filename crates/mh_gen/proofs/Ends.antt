-- Indices and slices.
use Rattle.std.proofs.Common.{ℕ, ℤ, pos, negsuc, ◌+◌, ◌-◌, ◌*◌, ◌/◌, ◌^◌, ◌<◌, ◌+ℤ◌, ◌-ℤ◌, ◌≤ℤ◌, ◌≡◌, Bool, true, false, Result, Ok, Err, unsigned_abs, if◌then◌else◌, refl, sym, ap, subst, ◌∙◌, arith}
use Rattle.std.proofs.lemmas.Nat.{pow_pos, pow-add}
use Rattle.std.proofs.Math.Nat.{div-lt_iff_lt-mul, mod-eq_of_lt}
use borrow.Author.Differences.{sum_is_lem}
use Rattle.std.proofs.lemmas.Int.{ints}
use Rattle.mh_codes.specs.Integers.{slice_of, floor_div}
use Rattle.mh_codes.specs.Ranges.{is_inside}
use Rattle.mh_design.specs.Values.{Fault, with_ends}

-- what two tests decide
module _ {A B : Type 0} (e g : Fault) where
  tested-ok : (b c : Bool) (p x : A) (r : Result B Fault) → Ok p ≡ (if b then (if c then Ok x else Err e) else Err g) → (if b then (if c then r else Err e) else Err g) ≡ r
  tested-ok true true p x r h = refl
  tested-ok true false p x r h = cc
  tested-ok false c p x r h = cc

  tested-err : (b c : Bool) (f : Fault) (x : A) (r : Result B Fault) → Err f ≡ (if b then (if c then Ok x else Err e) else Err g) → (if b then (if c then r else Err e) else Err g) ≡ Err f
  tested-err true true f x r h = cc
  tested-err true false f x r h = cc
  tested-err false c f x r h = cc

-- where the ends of a slice are taken, what follows is what is asked for
pub ends-ok : {A B : Type 0} (i j : ℤ) (w : ℕ) (p x : A) (r : Result B Fault) → Ok p ≡ with_ends i j w (Ok x) → with_ends i j w r ≡ r
ends-ok i j w p x r h = tested-ok _ _ (is_inside (pos 0) (pos w -ℤ pos 1) j) (is_inside (j +ℤ pos 1) (pos w) i) p x r h

-- and else the fault is kept
pub ends-err : {A B : Type 0} (i j : ℤ) (w : ℕ) (f : Fault) (x : A) (r : Result B Fault) → Err f ≡ with_ends i j w (Ok x) → with_ends i j w r ≡ Err f
ends-err i j w f x r h = tested-err _ _ (is_inside (pos 0) (pos w -ℤ pos 1) j) (is_inside (j +ℤ pos 1) (pos w) i) f x r h

apart : (u l : ℕ) → l < u → unsigned_abs (pos u -ℤ pos l) ≡ u - l
apart u l h = omega (arith, ints, sum_is_lem)

-- the distance of the ends
pub ends-apart : (i j : ℤ) (u l : ℕ) → pos u ≡ i → pos l ≡ j → l < u → unsigned_abs (i -ℤ j) ≡ u - l
ends-apart i j u l e f h =
    ap (λ x. unsigned_abs (x -ℤ j)) (sym e) ∙ ap (λ x. unsigned_abs (pos u -ℤ x)) (sym f) ∙ apart u l h

pub ruleset ends_laws = (ends-ok, ends-err, ends-apart)

-- a number that isn't negative has no bits above its 127
pub slice_top : (z : ℤ) (i j : ℕ) → i ≡ 128 → j < i → pos 0 ≤ℤ z → z ≤ℤ pos (2 ^ 127 - 1) → floor_div z (2 ^ j) ≡ pos (slice_of i j z)
slice_top (pos n) i j e h l t =
    let some = pow_pos j in
    let small : n < 2 ^ 128 = omega (arith, ints) in
    let places : i - j + j ≡ 128 = omega arith in
    let whole : 2 ^ (i - j) * 2 ^ j ≡ 2 ^ 128 = sym (pow-add 2 (i - j) j) ∙ ap (λ k. 2 ^ k) places in
    let below : n / 2 ^ j < 2 ^ (i - j) = (div-lt_iff_lt-mul some).1 (subst (λ k. n < k) (sym whole) small) in
    ap pos (sym (mod-eq_of_lt below))
slice_top (negsuc n) i j e h l t = absurd (omega (arith, ints))

-- the greatest number of n bits isn't negative
pub low_range : (n : ℕ) (t : ℤ) → t ≡ pos (2 ^ n - 1) → pos 0 ≤ℤ t
low_range n t e = subst (λ z. pos 0 ≤ℤ z) (sym e) (omega (arith, ints))
