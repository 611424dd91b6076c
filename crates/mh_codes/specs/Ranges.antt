-- Ranges lo .. top of integers, both ends included, and wrapping into them.
use Rattle.std.specs.Prelude.{ℕ, ℤ, pos, ◌+◌, ◌+ℤ◌, ◌-ℤ◌, Bool, ◌&&◌, int_le, unsigned_abs}
use Rattle.mh_codes.specs.Integers.{floor_mod}

-- v lies in lo .. top.
abbrev pub is_inside : ℤ → ℤ → ℤ → Bool
is_inside lo top v = int_le lo v && int_le v top

-- How many integers lo .. top has.
abbrev pub size_of : ℤ → ℤ → ℕ
size_of lo top = unsigned_abs (top -ℤ lo) + 1

-- The integer of lo .. top that differs from v by a multiple of the size of lo .. top (MyHDL 0.11,
-- `modbv`). That there is one, and one alone, is what `wrapping_laws` proves.
abbrev pub wrap_of : ℤ → ℤ → ℤ → ℤ
wrap_of lo top v = lo +ℤ pos (floor_mod (v -ℤ lo) (size_of lo top))
