-- The number that the parts of a `concat` make, cut off where it leaves 128 signed bits.
use Rattle.std.proofs.Common.{ℕ, ℤ, pos, negsuc, ◌+◌, ◌*◌, ◌^◌, ◌<◌, ◌≤◌, ◌+ℤ◌, ◌*ℤ◌, ◌≤ℤ◌, ◌≡◌, true, nat_lt, min, List, [], ◌∷◌, Option, None, Some, Result, Ok, Err, sum_by, unsigned_abs, if◌then◌else◌, add-zero, zero-add, add_assoc, refl, sym, ap, ◌∙◌, arith}
use Rattle.std.proofs.lemmas.Int.{ints}
use Rattle.std.proofs.lemmas.Nat.{pow_pos}
use Rattle.std.proofs.lemmas.List.Sums.{sum_by-cons}
use Rattle.std.proofs.lemmas.Bool.Decides.{nat_tests}
use Rattle.std.proofs.Math.Nat.{mul-le-mul_left}
use borrow.Author.Differences.{sum_is_lem, product_is}
use Rattle.std.specs.Option.{option_and_then}
use Rattle.mh_codes.specs.Codes.{code}
use Rattle.mh_codes.specs.Integers.{slice_of}
use Rattle.mh_num.specs.Results.{in_i128, left_shift_of}
use Rattle.mh_num.proofs.ResultLaws.{in_i128-none, in_i128-outside, in_i128-some}
use Rattle.mh_num.proofs.Words.{slice-whole}
use Rattle.mh_design.specs.Values as spec
use Rattle.mh_gen.specs.Joined.{one_more, joined_from}

-- a number is never less than what stands before its last part
grows : (n w c : ℕ) → n ≤ n * 2 ^ w + c
grows n w c = let h = mul-le-mul_left n (pow_pos w) in omega (arith, h)

-- what has left 128 signed bits stays outside
pub stays-outside : (n w c : ℕ) → in_i128 (pos n) ≡ None → in_i128 (pos (n * 2 ^ w + c)) ≡ None
stays-outside n w c h =
    let o : 2 ^ 127 ≤ n = in_i128-outside (pos n) (sym h) in
    let g = grows n w c in
    let p : 2 ^ 127 ≤ n * 2 ^ w + c = omega (arith, o, g) in
    in_i128-none (pos (n * 2 ^ w + c)) p

-- one more part below a number that is cut off or not
more-by : (n : ℕ) (a : spec.Operand) (o : Option ℤ) → o ≡ in_i128 (pos n) → one_more o a ≡ in_i128 (pos (n * 2 ^ spec.bits_of a.form + code (spec.bits_of a.form) a.value))
more-by n a None e = sym (stays-outside n (spec.bits_of a.form) (code (spec.bits_of a.form) a.value) (sym e))
more-by n a (Some z) e =
    ap (λ y. in_i128 (pos (unsigned_abs y * 2 ^ spec.bits_of a.form + code (spec.bits_of a.form) a.value))) (in_i128-some (pos n) z e)

pub one_more-is : (n : ℕ) (a : spec.Operand) → one_more (in_i128 (pos n)) a ≡ in_i128 (pos (n * 2 ^ spec.bits_of a.form + code (spec.bits_of a.form) a.value))
one_more-is n a = more-by n a (in_i128 (pos n)) refl

capped : (w b : ℕ) → min 128 (min 128 w + b) ≡ min 128 (w + b)
capped w b = omega arith

abbrev bits : List spec.Operand → ℕ
bits xs = sum_by (λ a. spec.bits_of a.form) xs

pub joined_from-is : (n w : ℕ) (xs : List spec.Operand) → joined_from (in_i128 (pos n)) (min 128 w) xs ≡ spec.within (spec.as_bits (min 128 (w + bits xs))) (pos (spec.joined_code n xs))
joined_from-is n w [] = ap (λ k. spec.within (spec.as_bits (min 128 k)) (pos n)) (sym (add-zero w))
joined_from-is n w (a ∷ xs) =
    let b = spec.bits_of a.form in
    let m = n * 2 ^ b + code b a.value in
    ap (λ c. joined_from c (min 128 (min 128 w + b)) xs) (one_more-is n a)
    ∙ ap (λ k. joined_from (in_i128 (pos m)) k xs) (capped w b)
    ∙ joined_from-is m (w + b) xs
    ∙ ap (λ k. spec.within (spec.as_bits (min 128 k)) (pos (spec.joined_code m xs))) (add_assoc w b (bits xs) ∙ ap (λ k. w + k) (sym (sum_by-cons (λ y. spec.bits_of y.form) a xs)))

pub joined-start : (xs : List spec.Operand) → joined_from (Some (pos 0)) 0 xs ≡ spec.joined xs
joined-start xs = joined_from-is 0 0 xs ∙ ap (λ k. spec.within (spec.as_bits (min 128 k)) (pos (spec.joined_code 0 xs))) (zero-add (bits xs))

of_all : (r : Result (List spec.Operand) spec.Fault) → spec.with_value r (joined_from (Some (pos 0)) 0) ≡ spec.with_value r spec.joined
of_all (Ok xs) = joined-start xs
of_all (Err f) = refl

pub joined-all : (rs : List (Result spec.Operand spec.Fault)) → spec.with_value (spec.all_values rs) (joined_from (Some (pos 0)) 0) ≡ spec.with_value (spec.all_values rs) spec.joined
joined-all rs = of_all (spec.all_values rs)

-- one more value in front of others
pub all-more : (a : spec.Operand) (r : Result (List spec.Operand) spec.Fault) (f : List spec.Operand → Result spec.Operand spec.Fault) → spec.with_value (spec.with_value r (λ xs. Ok (a ∷ xs))) f ≡ spec.with_value r (λ xs. f (a ∷ xs))
all-more a (Ok xs) f = refl
all-more a (Err e) f = refl

-- what the code computes of one more part
shift_is : (n w : ℕ) → w < 128 → left_shift_of (pos n) (pos w) ≡ in_i128 (pos (n * 2 ^ w))
shift_is n w h =
    let e : pos n *ℤ pos (2 ^ w) ≡ pos (n * 2 ^ w) = omega (arith, ints, product_is) in
    let t : nat_lt w 128 ≡ true = grind (arith, nat_tests) in
    ap (λ b. option_and_then (λ k. in_i128 (pos n *ℤ pos (2 ^ k))) (if b then Some w else None)) t ∙ ap in_i128 e

pub more-none : (z : ℤ) (w : ℕ) (c : ℕ) → pos 0 ≤ℤ z → w < 128 → None ≡ left_shift_of z (pos w) → in_i128 (pos (unsigned_abs z * 2 ^ w + c)) ≡ None
more-none (pos n) w c h l e =
    let o : 2 ^ 127 ≤ n * 2 ^ w = in_i128-outside (pos (n * 2 ^ w)) (e ∙ shift_is n w l) in
    let p : 2 ^ 127 ≤ n * 2 ^ w + c = omega (arith, o) in
    in_i128-none (pos (n * 2 ^ w + c)) p
more-none (negsuc n) w c h l e = absurd (omega (arith, ints))

pub more-some : (z : ℤ) (w : ℕ) (v h l : ℤ) → pos 0 ≤ℤ z → w < 128 → Some h ≡ left_shift_of z (pos w) → l ≡ pos (slice_of w 0 v) → in_i128 (h +ℤ l) ≡ in_i128 (pos (unsigned_abs z * 2 ^ w + code w v))
more-some (pos n) w v h l p q e f =
    let high = in_i128-some (pos (n * 2 ^ w)) h (e ∙ shift_is n w q) in
    let low = f ∙ ap pos (slice-whole w v) in
    let sum : pos (n * 2 ^ w) +ℤ pos (code w v) ≡ pos (n * 2 ^ w + code w v) = omega (arith, ints, sum_is_lem) in
    ap (λ x. in_i128 (x +ℤ l)) high ∙ ap (λ x. in_i128 (pos (n * 2 ^ w) +ℤ x)) low ∙ ap in_i128 sum
more-some (negsuc n) w v h l p q e f = absurd (omega (arith, ints))
