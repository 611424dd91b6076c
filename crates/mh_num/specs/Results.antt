-- What the calls on numbers answer: the integer, or nothing.
use Rattle.std.specs.Prelude.{ℕ, zero, suc, ℤ, pos, negsuc, ◌*ℤ◌, ◌^◌, ◌-◌, if◌then◌else◌, nat_lt, Some, None, Option}
use Rattle.std.specs.Option.{option_map, option_and_then}
use Rattle.mh_codes.specs.Ranges.{is_inside}
use Rattle.mh_codes.specs.Integers.{floor_div, floor_mod}

-- z, where it is one of the integers -2 ^ 127 .. 2 ^ 127 - 1 of the type i128.
abbrev pub in_i128 : ℤ → Option ℤ
in_i128 z = if is_inside (negsuc (2 ^ 127 - 1)) (pos (2 ^ 127 - 1)) z then Some z else None

-- b as the amount of a shift, 0 .. 127 (the project's own rule).
abbrev pub amount_of : ℤ → Option ℕ
amount_of (pos k) = if nat_lt k 128 then Some k else None
amount_of (negsuc k) = None

-- b as a divisor, 1 or more (the project's own rule).
abbrev pub divisor_of : ℤ → Option ℕ
divisor_of (pos zero) = None
divisor_of (pos (suc d)) = Some (suc d)
divisor_of (negsuc d) = None

-- `a << b` and `a >> b` of MyHDL 0.11: a times 2 ^ b, and the floor of a divided by 2 ^ b.
abbrev pub left_shift_of : ℤ → ℤ → Option ℤ
left_shift_of a b = option_and_then (λ k. in_i128 (a *ℤ pos (2 ^ k))) (amount_of b)

abbrev pub right_shift_of : ℤ → ℤ → Option ℤ
right_shift_of a b = option_map (λ k. floor_div a (2 ^ k)) (amount_of b)

-- `a // b` and `a % b` of MyHDL 0.11.
abbrev pub quotient_of : ℤ → ℤ → Option ℤ
quotient_of a b = option_map (floor_div a) (divisor_of b)

abbrev pub remainder_of : ℤ → ℤ → Option ℤ
remainder_of a b = option_map (λ d. pos (floor_mod a d)) (divisor_of b)
