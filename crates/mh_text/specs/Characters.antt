-- Characters that names and numbers are made of, and identifiers. A character is the number of its
-- ASCII byte. Identifiers are those of Python 3 in ASCII, and of Verilog (IEEE 1364-2005, 3.7) without `$`.
use Rattle.std.specs.Prelude.{ℕ, Bool, false, List, [], ◌∷◌, ◌==◌, ◌&&◌, ◌||◌, nat_le}
use Rattle.std.specs.List.{list_all}

-- low .. high, both included
abbrev pub is_between : ℕ → ℕ → ℕ → Bool
is_between low high b = nat_le low b && nat_le b high

-- `0` to `9`
abbrev pub is_digit : ℕ → Bool
is_digit b = is_between 48 57 b

-- `A` to `Z`, `a` to `z`
abbrev pub is_letter : ℕ → Bool
is_letter b = is_between 65 90 b || is_between 97 122 b

-- a letter or `_`
abbrev pub is_name_start : ℕ → Bool
is_name_start b = is_letter b || b == 95

-- a letter, a digit or `_`
abbrev pub is_name_part : ℕ → Bool
is_name_part b = is_name_start b || is_digit b

-- a letter or `_`, and then letters, digits and `_`
unfoldable pub is_identifier : List ℕ → Bool
is_identifier [] = false
is_identifier (b ∷ bs) = is_name_start b && list_all is_name_part bs
