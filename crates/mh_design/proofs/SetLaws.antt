-- One number more in a set, and some numbers that are in one.
use Rattle.std.proofs.Common.{◌≡◌, ◌∙◌, ℕ, suc, ◌+◌, ◌<◌, Bool, true, false, cond, ◌||◌, ◌==◌, List, [], ◌∷◌, drop, length, slice_index_or, refl, sym, ap, arith}
use Rattle.std.specs.Ordering.{nat_cmp, eq_by_cmp}
use Rattle.std.specs.Cmp.{unsigned_tied}
use Rattle.std.specs.List.{list_any}
use Rattle.std.proofs.Math.Seq.{drop-cons}
use Rattle.mh_design.specs.Inout.{is_among}

next : (i : ℕ) → suc i ≡ i + 1
next i = omega arith

-- what is left begins with the number at its place
first : (xs : List ℕ) (i : ℕ) → i < length xs → drop i xs ≡ slice_index_or xs i 0 ∷ drop (i + 1) xs
first xs i h = drop-cons xs i 0 h ∙ ap (λ n. slice_index_or xs i 0 ∷ drop n xs) (next i)

either : (old : Bool) (is other : Bool) → (old || (is || other)) ≡ (cond is true old || other)
either true true other = refl
either true false other = refl
either false true other = refl
either false false other = refl

pub added : (xs : List ℕ) (i s : ℕ) (old : Bool) → i < length xs → (old || is_among (drop i xs) s) ≡ (cond (eq_by_cmp nat_cmp (slice_index_or xs i 0) s) true old || is_among (drop (i + 1) xs) s)
added xs i s old h =
    ap (λ ys. old || is_among ys s) (first xs i h)
    ∙ either old (slice_index_or xs i 0 == s) (is_among (drop (i + 1) xs) s)
    ∙ sym (ap (λ b. cond b true old || is_among (drop (i + 1) xs) s) (unsigned_tied (slice_index_or xs i 0) s))

-- the number at a place has the property, or hasn't
pub any_here : (p : ℕ → Bool) (xs : List ℕ) (i : ℕ) → i < length xs → p (slice_index_or xs i 0) ≡ true → true ≡ list_any p (drop i xs)
any_here p xs i h is =
    ap (λ b. b || list_any p (drop (i + 1) xs)) (sym is) ∙ sym (ap (list_any p) (first xs i h))

pub any_later : (p : ℕ → Bool) (xs : List ℕ) (i : ℕ) → i < length xs → p (slice_index_or xs i 0) ≡ false → list_any p (drop i xs) ≡ list_any p (drop (i + 1) xs)
any_later p xs i h is =
    ap (list_any p) (first xs i h) ∙ ap (λ b. b || list_any p (drop (i + 1) xs)) is

-- the same test of all
pub same_any : (p q : ℕ → Bool) → ((x : ℕ) → p x ≡ q x) → (xs : List ℕ) → list_any p xs ≡ list_any q xs
same_any p q h [] = refl
same_any p q h (x ∷ xs) = ap (λ b. b || list_any p xs) (h x) ∙ ap (λ b. q x || b) (same_any p q h xs)
