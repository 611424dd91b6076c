-- Vectors of bits that stand for integers.
use Rattle.std.specs.Prelude.{ℕ, ℤ, pos, negsuc, ◌+◌, ◌-◌, ◌^◌, ◌<◌, ◌≤◌, Bool, true, false, if◌then◌else◌, nat_lt}
use Rattle.mh_codes.specs.Integers.{floor_mod}

-- The code of z at width w: the number whose w bits are the low w bits of z in two's complement
-- (IEEE 1364-2005, 3.5.1 and 5.6; numeric_std of IEEE 1076-2008, `to_unsigned` and `to_signed`).
abbrev pub code : ℕ → ℤ → ℕ
code w z = floor_mod z (2 ^ w)

-- The integer that w bits with the code n stand for: n itself where they are read as unsigned
-- (`false`), and where they are read as signed (`true`) n less 2 ^ w if the highest bit is 1
-- (IEEE 1364-2005, 5.1.6; numeric_std, `to_integer`).
abbrev pub number : Bool → ℕ → ℕ → ℤ
number false w n = pos n
number true w n = if nat_lt (n + n) (2 ^ w) then pos n else negsuc (2 ^ w - 1 - n)

-- z is one of the integers that w bits can stand for: 0 .. 2 ^ w - 1 unsigned (`false`), and signed
-- (`true`) -2 ^ (w - 1) .. 2 ^ (w - 1) - 1, said by doubling; at width 0 only 0 fits.
abbrev pub Fits : Bool → ℕ → ℤ → Type 0
Fits false w (pos n) = n < 2 ^ w
Fits false w (negsuc n) = ⊥
Fits true w (pos n) = n + n < 2 ^ w
Fits true w (negsuc n) = n + n + 1 < 2 ^ w

-- Every integer that fits the first sign and width fits the second (the project's own rule).
abbrev pub Holds : Bool → ℕ → Bool → ℕ → Type 0
Holds false w false v = w ≤ v
Holds false w true v = w < v
Holds true w true v = w ≤ v
Holds true w false v = ⊥
