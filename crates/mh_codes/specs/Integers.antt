-- Integers: floor division, and the binary expansion that has no end, in two's complement.
-- `pos n` is n, and `negsuc n` is -(n + 1).
use Rattle.std.specs.Prelude.{ℕ, ℤ, pos, negsuc, ◌-◌, ◌-ℤ◌, ◌/◌, ◌%◌, ◌^◌, bit_and, bit_or, bit_xor}

-- The quotient of z by d, rounded down, as `//` of Python and MyHDL 0.11 (`intbv` and `modbv`
-- compute as `int` does); by 2 ^ k it is the shift right by k (IEEE 1364-2005, 5.1.12, `>>>`).
abbrev pub floor_div : ℤ → ℕ → ℤ
floor_div (pos n) d = pos (n / d)
floor_div (negsuc n) d = negsuc (n / d)

-- What that quotient leaves: z = floor_div z d * d + floor_mod z d, and it lies in 0 .. d - 1.
abbrev pub floor_mod : ℤ → ℕ → ℕ
floor_mod (pos n) d = n % d
floor_mod (negsuc n) d = d - 1 - n % d

-- Bit k of z, 0 or 1: the parity of z shifted right by k. Two's complement without end: from some
-- bit on all bits of a negative integer are 1, and all of another integer are 0.
abbrev pub bit_of : ℕ → ℤ → ℕ
bit_of k z = floor_mod (floor_div z (2 ^ k)) 2

-- `&`, `|` and `^` of MyHDL 0.11 and Python: each works bit by bit on that expansion (IEEE
-- 1364-2005, 5.1.10). -(n + 1) has the bits of n inverted, hence the cases. That every bit of the
-- result is as it must be is what `bitwise_laws` proves.
abbrev pub integer_and : ℤ → ℤ → ℤ
integer_and (pos a) (pos b) = pos (bit_and a b)
integer_and (pos a) (negsuc b) = pos (a - bit_and a b)
integer_and (negsuc a) (pos b) = pos (b - bit_and a b)
integer_and (negsuc a) (negsuc b) = negsuc (bit_or a b)

abbrev pub integer_or : ℤ → ℤ → ℤ
integer_or (pos a) (pos b) = pos (bit_or a b)
integer_or (pos a) (negsuc b) = negsuc (b - bit_and a b)
integer_or (negsuc a) (pos b) = negsuc (a - bit_and a b)
integer_or (negsuc a) (negsuc b) = negsuc (bit_and a b)

abbrev pub integer_xor : ℤ → ℤ → ℤ
integer_xor (pos a) (pos b) = pos (bit_xor a b)
integer_xor (pos a) (negsuc b) = negsuc (bit_xor a b)
integer_xor (negsuc a) (pos b) = negsuc (bit_xor a b)
integer_xor (negsuc a) (negsuc b) = pos (bit_xor a b)

-- z with each of its w low bits inverted, where it has no others: `~` of an `intbv` of MyHDL 0.11
-- whose least value is 0 or more (IEEE 1364-2005, 5.1.10).
abbrev pub inverse_of : ℕ → ℤ → ℤ
inverse_of w z = pos (2 ^ w - 1) -ℤ z

-- The bits of z from j up to and without i, read as a number: `z[i:j]` of MyHDL 0.11.
abbrev pub slice_of : ℕ → ℕ → ℤ → ℕ
slice_of i j z = floor_mod (floor_div z (2 ^ j)) (2 ^ (i - j))
