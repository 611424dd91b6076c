-- Bounds as values.
use Rattle.std.proofs.Common.{ℤ, Bool, ◌≡◌, ◌≤ℤ◌, ◌≤◌, ap, ◌∙◌, subst}
use denote.Struct.Props.{props}
use Rattle.mh_codes.specs.Widths.{width_of}
use Rattle.mh_num.specs.declared.bounds.Bounds.{Bounds}

make : (lo top : ℤ) (wraps : Bool) → lo ≤ℤ top → width_of lo top ≤ 127 → Bounds
make lo top wraps o n = record { lo = lo; top = top; wraps = wraps; ordered = o; in_127_bits = n }

-- the two facts have one proof each
one_make : (lo top : ℤ) (wraps : Bool) (o p : lo ≤ℤ top) (n m : width_of lo top ≤ 127) → make lo top wraps o n ≡ make lo top wraps p m
one_make lo top wraps o p n m =
    let e : IsProp (lo ≤ℤ top) = hlevel props in
    let f : IsProp (width_of lo top ≤ 127) = hlevel props in
    ap (λ o. make lo top wraps o n) (e o p) ∙ ap (make lo top wraps p) (f n m)

same_make : (lo low top high : ℤ) (w v : Bool) (o : lo ≤ℤ top) (p : low ≤ℤ high) (n : width_of lo top ≤ 127) (m : width_of low high ≤ 127) → lo ≡ low → top ≡ high → w ≡ v → make lo top w o n ≡ make low high v p m
same_make lo low top high w v o p n m e f g =
    subst (λ low. (p : low ≤ℤ high) (m : width_of low high ≤ 127) → make lo top w o n ≡ make low high v p m) e
    (subst (λ high. (p : lo ≤ℤ high) (m : width_of lo high ≤ 127) → make lo top w o n ≡ make lo high v p m) f
    (subst (λ v. (p : lo ≤ℤ top) (m : width_of lo top ≤ 127) → make lo top w o n ≡ make lo top v p m) g
    (λ p m. one_make lo top w o p n m))) p m

-- bounds of the same ends that both wrap or both don't are the same
pub same_bounds : (a b : Bounds) → a.lo ≡ b.lo → a.top ≡ b.top → a.wraps ≡ b.wraps → a ≡ b
unfolding make
same_bounds a b e f g = same_make a.lo b.lo a.top b.top a.wraps b.wraps a.ordered b.ordered a.in_127_bits b.in_127_bits e f g
