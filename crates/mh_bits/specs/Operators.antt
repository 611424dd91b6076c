-- The operators of IEEE 1364-2005 on vectors: by the table of one bit, by number, by moving bits.
use Rattle.std.specs.Prelude.{ℕ, zero, suc, ℤ, pos, negsuc, ◌+◌, ◌-◌, ◌+ℤ◌, ◌-ℤ◌, ◌*ℤ◌, neg_ℤ, int_div, int_rem, int_lt, int_le, Bool, true, false, ◌&&◌, nat_lt, ◌≡◌, if◌then◌else◌, Option, Some, None}
use Rattle.mh_codes.specs.Codes.{code, number}
use Rattle.mh_bits.specs.Vector.{Bit, low, high, unknown, Vector, bit, gathered, some_below, known, all_unknown, is_known}
use Rattle.mh_bits.specs.declared.values.BinOp.{BinOp}
use Rattle.mh_bits.specs.declared.values.BinOp.TheVariants.{Add, Sub, Mul, Div, Rem, And, Or, Xor, Shl, Shr, Sar, Eq, Ne, Lt, Le, Gt, Ge}
use Rattle.mh_bits.specs.declared.values.UnOp.{UnOp}
use Rattle.mh_bits.specs.declared.values.UnOp.TheVariants.{Neg, Not}

-- ---- by the table of one bit (IEEE 1364-2005, 5.1.10)

-- `&`: 0 where either bit is 0
abbrev pub and_bit : Bit → Bit → Bit
and_bit low low = low
and_bit low high = low
and_bit low unknown = low
and_bit high low = low
and_bit high high = high
and_bit high unknown = unknown
and_bit unknown low = low
and_bit unknown high = unknown
and_bit unknown unknown = unknown

-- `|`: 1 where either bit is 1
abbrev pub or_bit : Bit → Bit → Bit
or_bit low low = low
or_bit low high = high
or_bit low unknown = unknown
or_bit high low = high
or_bit high high = high
or_bit high unknown = high
or_bit unknown low = unknown
or_bit unknown high = high
or_bit unknown unknown = unknown

-- `^`: x where either bit is x
abbrev pub xor_bit : Bit → Bit → Bit
xor_bit low low = low
xor_bit low high = high
xor_bit low unknown = unknown
xor_bit high low = high
xor_bit high high = low
xor_bit high unknown = unknown
xor_bit unknown low = unknown
xor_bit unknown high = unknown
xor_bit unknown unknown = unknown

-- `~`
abbrev pub not_bit : Bit → Bit
not_bit low = high
not_bit high = low
not_bit unknown = unknown

-- Each bit of the result is the table's entry at the operands' bits.
abbrev pub bitwise : (Bit → Bit → Bit) → Vector → Vector → Vector
bitwise table a b = gathered a.width (λ k. table (bit a k) (bit b k))

-- Two bits that are known to differ.
abbrev pub differs : Bit → Bit → Bool
differs low high = true
differs high low = true
differs low low = false
differs high high = false
differs unknown y = false
differs low unknown = false
differs high unknown = false

-- `==`, whose negation is `!=` (5.1.8): 0 where two known bits differ; else x where a bit is x, since
-- then the relation is ambiguous; else 1.
abbrev pub equality : Vector → Vector → Bit
equality a b =
    if some_below (λ k. differs (bit a k) (bit b k)) a.width
    then low
    else (if is_known a && is_known b then high else unknown)

-- The vector of one bit.
abbrev pub single : Bit → Vector
single low = known 1 0
single high = known 1 1
single unknown = all_unknown 1

-- The bit of a test's answer, x where there is none.
abbrev pub bit_of_answer : Option Bool → Bit
bit_of_answer (Some true) = high
bit_of_answer (Some false) = low
bit_of_answer None = unknown

-- The vector of the one bit that says whether a test holds.
abbrev pub tested : Bool → Vector
tested b = single (bit_of_answer (Some b))

-- ---- by number (5.1.5, 5.1.7)

-- The number that a vector without x stands for, read as signed (`true`) or unsigned.
abbrev pub number_of : Bool → Vector → ℤ
number_of s v = number s v.width v.val

-- The vector of w bits for an integer: its remainder by 2 ^ w.
abbrev pub coded : ℕ → ℤ → Vector
coded w z = known w (code w z)

-- v where the operands are known, and else x in every bit of it.
abbrev pub where_known : Bool → Vector → Vector
where_known k v = if k then v else all_unknown v.width

-- An operator on the two numbers, read as signed or not: x in every bit where an operand has an x
-- bit.
abbrev pub by_number : (ℤ → ℤ → Vector) → Bool → Vector → Vector → Vector
by_number f s a b = where_known (is_known a && is_known b) (f (number_of s a) (number_of s b))

-- `/` drops the fraction towards 0, and the remainder has the dividend's sign; a divisor of 0 gives x
-- in every bit.
abbrev pub divided : (ℤ → ℤ → ℤ) → ℕ → ℤ → ℤ → Vector
divided f w x (pos zero) = all_unknown w
divided f w x (pos (suc n)) = coded w (f x (pos (suc n)))
divided f w x (negsuc n) = coded w (f x (negsuc n))

-- ---- by moving bits (5.1.12)

-- A shift by the amount b, which is never read as signed: an x bit in it makes every bit x.
abbrev pub by_amount : (ℕ → Vector) → Vector → Vector
by_amount f b = where_known (is_known b) (f b.val)

-- The bits move with their x. What fills the vacated places: the top bit in a signed `>>>`, x too,
-- and else 0.
abbrev pub fill : Bool → Vector → Bit
fill s a = if s then bit a (a.width - 1) else low

abbrev pub shifted_left : Vector → ℕ → Vector
shifted_left a n = gathered a.width (λ k. if nat_lt k n then low else bit a (k - n))

abbrev pub shifted_right : Bit → Vector → ℕ → Vector
shifted_right f a n = gathered a.width (λ k. if nat_lt (k + n) a.width then bit a (k + n) else f)

-- ---- all of them

-- What `binary` gives: s says how `/ % >>>` and the orderings read their operands (5.5). It makes no
-- difference to `+ - *`, which are modulo 2 ^ w.
abbrev pub binary_of : BinOp → Vector → Vector → Bool → Vector
binary_of Add a b s = by_number (λ x y. coded a.width (x +ℤ y)) s a b
binary_of Sub a b s = by_number (λ x y. coded a.width (x -ℤ y)) s a b
binary_of Mul a b s = by_number (λ x y. coded a.width (x *ℤ y)) s a b
binary_of Div a b s = by_number (divided int_div a.width) s a b
binary_of Rem a b s = by_number (divided int_rem a.width) s a b
binary_of And a b s = bitwise and_bit a b
binary_of Or a b s = bitwise or_bit a b
binary_of Xor a b s = bitwise xor_bit a b
binary_of Shl a b s = by_amount (shifted_left a) b
binary_of Shr a b s = by_amount (shifted_right low a) b
binary_of Sar a b s = by_amount (shifted_right (fill s a) a) b
binary_of Eq a b s = single (equality a b)
binary_of Ne a b s = single (not_bit (equality a b))
binary_of Lt a b s = by_number (λ x y. tested (int_lt x y)) s a b
binary_of Le a b s = by_number (λ x y. tested (int_le x y)) s a b
binary_of Gt a b s = by_number (λ x y. tested (int_lt y x)) s a b
binary_of Ge a b s = by_number (λ x y. tested (int_le y x)) s a b

-- Its width: a comparison's is 1, and else that of the first operand.
abbrev pub result_width : BinOp → ℕ → ℕ
result_width Eq w = 1
result_width Ne w = 1
result_width Lt w = 1
result_width Le w = 1
result_width Gt w = 1
result_width Ge w = 1
result_width op w = w

-- The operands' widths: equal, but for the shifts, whose amount has a width of its own.
abbrev pub WidthsFit : BinOp → ℕ → ℕ → Type 0
WidthsFit Shl v w = Unit {0}
WidthsFit Shr v w = Unit {0}
WidthsFit Sar v w = Unit {0}
WidthsFit op v w = v ≡ w

-- Each bit of the result is the table's entry at the operand's bit.
abbrev pub inverted : Vector → Vector
inverted a = gathered a.width (λ k. not_bit (bit a k))

-- What `unary` gives.
abbrev pub unary_of : UnOp → Vector → Vector
unary_of Neg a = where_known (is_known a) (coded a.width (neg_ℤ (number_of false a)))
unary_of Not a = inverted a

-- ---- widths (5.4, 5.5.4), part-selects (5.2.1) and concatenations (5.1.14)

-- What `extend` gives: w bits, those above by the top bit, x too, where it is signed, and else 0.
abbrev pub extended : Vector → ℕ → Bool → Vector
extended a w s = gathered w (λ k. if nat_lt k a.width then bit a k else fill s a)

-- What `select` gives: the bits from hi down to lo.
abbrev pub selected : Vector → ℕ → ℕ → Vector
selected a hi lo = gathered (hi + 1 - lo) (λ k. bit a (lo + k))

-- What `cat` gives: the bits of a above those of b.
abbrev pub joined : Vector → Vector → Vector
joined a b =
    gathered (a.width + b.width) (λ k. if nat_lt k b.width then bit b k else bit a (k - b.width))

-- What `truth` gives: some bit is 1 (9.4).
abbrev pub is_high : Bit → Bool
is_high low = false
is_high high = true
is_high unknown = false

abbrev pub truth_of : Vector → Bool
truth_of a = some_below (λ k. is_high (bit a k)) a.width
