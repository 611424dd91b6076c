-- The ends of intervals of sums, differences, products, quotients and shifts.
use Rattle.std.proofs.Common.{ℕ, suc, ℤ, pos, negsuc, ◌+◌, ◌/◌, ◌<◌, ◌≤◌, ◌+ℤ◌, ◌-ℤ◌, ◌*ℤ◌, ◌≤ℤ◌, arith, ◌⊎◌, inl, inr}
use Rattle.std.specs.Int.{int_min, int_max}
use borrow.Author.Differences.{up, down}
use Rattle.std.proofs.lemmas.Int.{ints, clamps}
use Rattle.std.proofs.lemmas.Nat.{le-div, div-add-mod'}
use Rattle.std.proofs.Math.Nat.{mul-le-mul_left, mul-le-mul_right}
use Rattle.mh_codes.specs.Integers.{floor_div}

-- x lies in l .. m
pub record Within (l m x : ℤ) : Type 0 where
  pub low : l ≤ℤ x
  pub high : x ≤ℤ m

-- the least and the greatest of four integers
abbrev pub least_of : ℤ → ℤ → ℤ → ℤ → ℤ
least_of p q r s = int_min (int_min p q) (int_min r s)

abbrev pub greatest_of : ℤ → ℤ → ℤ → ℤ → ℤ
greatest_of p q r s = int_max (int_max p q) (int_max r s)

-- the ends of a sum and of a difference
pub sum_within : (a b c d x y : ℤ) → Within a b x → Within c d y → Within (a +ℤ c) (b +ℤ d) (x +ℤ y)
sum_within a b c d x y i j = let p = i.low in let q = i.high in let r = j.low in let s = j.high in record { low = omega (arith, ints); high = omega (arith, ints) }

pub difference_within : (a b c d x y : ℤ) → Within a b x → Within c d y → Within (a -ℤ d) (b -ℤ c) (x -ℤ y)
difference_within a b c d x y i j = let p = i.low in let q = i.high in let r = j.low in let s = j.high in record { low = omega (arith, ints); high = omega (arith, ints) }

-- r lies between p and q
abbrev pub Between : ℤ → ℤ → ℤ → Type 0
Between p q r = (p ≤ℤ r) × (r ≤ℤ q) ⊎ (q ≤ℤ r) × (r ≤ℤ p)

-- the lesser is below both, and the greater above
min_left : (a b : ℤ) → int_min a b ≤ℤ a
min_left a b = omega (arith, ints, clamps)

min_right : (a b : ℤ) → int_min a b ≤ℤ b
min_right a b = omega (arith, ints, clamps)

max_left : (a b : ℤ) → a ≤ℤ int_max a b
max_left a b = omega (arith, ints, clamps)

max_right : (a b : ℤ) → b ≤ℤ int_max a b
max_right a b = omega (arith, ints, clamps)

-- what lies between two values lies between bounds of both
within_bounds : (p q r l m : ℤ) → Between p q r → l ≤ℤ p → l ≤ℤ q → p ≤ℤ m → q ≤ℤ m → (l ≤ℤ r) × (r ≤ℤ m)
within_bounds p q r l m (inl h) a b c d = let e = h.0 in let f = h.1 in (omega (arith, ints), omega (arith, ints))
within_bounds p q r l m (inr h) a b c d = let e = h.0 in let f = h.1 in (omega (arith, ints), omega (arith, ints))

-- a value between values between corners lies between the least and the greatest of them
pub between_corners : (p q r s t u v : ℤ) → Between t u v → Between p q t → Between r s u → (least_of p q r s ≤ℤ v) × (v ≤ℤ greatest_of p q r s)
between_corners p q r s t u v a b c =
    let l = least_of p q r s in
    let m = greatest_of p q r s in
    let ll = min_left (int_min p q) (int_min r s) in
    let lr = min_right (int_min p q) (int_min r s) in
    let p1 = min_left p q in let q1 = min_right p q in let r1 = min_left r s in let s1 = min_right r s in
    let ml = max_left (int_max p q) (int_max r s) in
    let mr = max_right (int_max p q) (int_max r s) in
    let p2 = max_left p q in let q2 = max_right p q in let r2 = max_left r s in let s2 = max_right r s in
    let x = within_bounds p q t l m b (le_trans_z _ _ _ ll p1) (le_trans_z _ _ _ ll q1) (le_trans_z _ _ _ p2 ml) (le_trans_z _ _ _ q2 ml) in
    let y = within_bounds r s u l m c (le_trans_z _ _ _ lr r1) (le_trans_z _ _ _ lr s1) (le_trans_z _ _ _ r2 mr) (le_trans_z _ _ _ s2 mr) in
    within_bounds t u v l m a x.0 y.0 x.1 y.1
  where
    le_trans_z : (a b c : ℤ) → a ≤ℤ b → b ≤ℤ c → a ≤ℤ c
    le_trans_z a b c h k = omega (arith, ints)

-- a product grows or falls with one factor
times_up : (a x : ℤ) (n : ℕ) → a ≤ℤ x → (a *ℤ pos n) ≤ℤ (x *ℤ pos n)
times_up a x n h =
    let e : up a + down x ≤ up x + down a = omega (arith, ints) in
    let f = mul-le-mul_right n e in
    omega (arith, ints)

-- and the other way with a negative factor
times_down : (a x : ℤ) (n : ℕ) → a ≤ℤ x → (x *ℤ negsuc n) ≤ℤ (a *ℤ negsuc n)
times_down a x n h =
    let e : up a + down x ≤ up x + down a = omega (arith, ints) in
    let f = mul-le-mul_right (suc n) e in
    omega (arith, ints)

-- so a product lies between those of the ends of its left factor
pub times_between : (a b x y : ℤ) → a ≤ℤ x → x ≤ℤ b → Between (a *ℤ y) (b *ℤ y) (x *ℤ y)
times_between a b x (pos n) h k = inl (times_up a x n h, times_up x b n k)
times_between a b x (negsuc n) h k = inr (times_down x b n k, times_down a x n h)

-- the same for the right factor
up_times : (a x : ℤ) (n : ℕ) → a ≤ℤ x → (pos n *ℤ a) ≤ℤ (pos n *ℤ x)
up_times a x n h =
    let e : up a + down x ≤ up x + down a = omega (arith, ints) in
    let f = mul-le-mul_left n e in
    omega (arith, ints)

down_times : (a x : ℤ) (n : ℕ) → a ≤ℤ x → (negsuc n *ℤ x) ≤ℤ (negsuc n *ℤ a)
down_times a x n h =
    let e : up a + down x ≤ up x + down a = omega (arith, ints) in
    let f = mul-le-mul_left (suc n) e in
    omega (arith, ints)

-- and of its right factor
pub between_times : (c d y a : ℤ) → c ≤ℤ y → y ≤ℤ d → Between (a *ℤ c) (a *ℤ d) (a *ℤ y)
between_times c d y (pos n) h k = inl (up_times c y n h, up_times y d n k)
between_times c d y (negsuc n) h k = inr (down_times y d n k, down_times c y n h)

-- shifts to the right and quotients
div_up : (a x n : ℕ) → 0 < n → a ≤ x → a / n ≤ x / n
div_up a x n p l = let e = div-add-mod' a n in le-div (a / n) x n p (omega arith)

-- a greater divisor gives a lesser quotient
div_nearer : (a m n : ℕ) → 0 < m → m ≤ n → a / n ≤ a / m
div_nearer a m n p l = let e = div-add-mod' a n in let f = mul-le-mul_left (a / n) l in le-div (a / n) a m p (omega arith)

-- floor division grows with its dividend
floor_div_up : (a x : ℤ) (n : ℕ) → 0 < n → a ≤ℤ x → floor_div a n ≤ℤ floor_div x n
floor_div_up (pos a) (pos x) n p h = let l : a ≤ x = omega (arith, ints) in let e = div_up a x n p l in omega (arith, ints)
floor_div_up (pos a) (negsuc x) n p h = absurd (omega (arith, ints))
floor_div_up (negsuc a) (pos x) n p h = omega (arith, ints)
floor_div_up (negsuc a) (negsuc x) n p h = let l : x ≤ a = omega (arith, ints) in let e = div_up x a n p l in omega (arith, ints)

-- so a quotient lies between those of the ends of its dividend
pub floor_div_between : (a b x : ℤ) (n : ℕ) → 0 < n → a ≤ℤ x → x ≤ℤ b → Between (floor_div a n) (floor_div b n) (floor_div x n)
floor_div_between a b x n p h k = inl (floor_div_up a x n p h, floor_div_up x b n p k)

-- a greater divisor brings a quotient nearer to 0, or to -1
pub between_floor_div : (c d y : ℕ) (a : ℤ) → 0 < c → c ≤ y → y ≤ d → Between (floor_div a c) (floor_div a d) (floor_div a y)
between_floor_div c d y (pos a) p h k = let q : 0 < y = omega arith in let e = div_nearer a c y p h in let f = div_nearer a y d q k in inr (omega (arith, ints), omega (arith, ints))
between_floor_div c d y (negsuc a) p h k = let q : 0 < y = omega arith in let e = div_nearer a c y p h in let f = div_nearer a y d q k in inl (omega (arith, ints), omega (arith, ints))

-- a function that is between its values at the ends in each argument lies between its corners
pub corners_within : (f : ℤ → ℤ → ℤ) (a b c d x y : ℤ) → Between (f a y) (f b y) (f x y) → Between (f a c) (f a d) (f a y) → Between (f b c) (f b d) (f b y) → Within (least_of (f a c) (f a d) (f b c) (f b d)) (greatest_of (f a c) (f a d) (f b c) (f b d)) (f x y)
corners_within f a b c d x y h k l = let r = between_corners _ _ _ _ _ _ _ h k l in record { low = r.0; high = r.1 }

-- the ends of a product are among its four corners
pub product_within : (a b c d x y : ℤ) → Within a b x → Within c d y → Within (least_of (a *ℤ c) (a *ℤ d) (b *ℤ c) (b *ℤ d)) (greatest_of (a *ℤ c) (a *ℤ d) (b *ℤ c) (b *ℤ d)) (x *ℤ y)
product_within a b c d x y i j = corners_within (λ x y. x *ℤ y) a b c d x y (times_between a b x y i.low i.high) (between_times c d y a j.low j.high) (between_times c d y b j.low j.high)
