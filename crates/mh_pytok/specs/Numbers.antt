-- Numbers of a source: decimal, hexadecimal, octal and binary integers as in the Python 3 reference
-- (2.4.5, integer literals).
use Rattle.std.specs.Prelude.{ℕ, Bool, true, false, not, List, [], ◌∷◌, ◌+◌, ◌-◌, ◌*◌, ◌==◌, ◌&&◌, ◌||◌, nat_lt, drop, slice_index, Option, Some, None, IsSome, option_and_then, unwrap_or, if◌then◌else◌}
use Rattle.mh_text.specs.Characters.{is_digit, is_between}

-- the value of a digit, of any base up to 36; 36 for a byte that is no digit of any
unfoldable pub digit_value : ℕ → ℕ
digit_value b = if is_digit b then b - 48 else (if is_between 65 90 b then b - 55 else (if is_between 97 122 b then b - 87 else 36))

-- The number that digits of a base stand for, where one `_` may stand between two of them: n is the value
-- of those before, and last says that a digit stands directly before. None where they are malformed.
unfoldable pub digits_value : ℕ → ℕ → Bool → List ℕ → Option ℕ
digits_value base n last [] = if last then Some n else None
digits_value base n last (b ∷ bs) =
    if last && b == 95 then digits_value base n false bs
    else (if nat_lt (digit_value b) base then digits_value base (base * n + digit_value b) true bs else None)

-- the base that a letter behind a leading 0 stands for: `x`, `o` and `b` of either case; 10 for any other
unfoldable pub base_of : ℕ → ℕ
base_of c = if c == 120 || c == 88 then 16 else (if c == 111 || c == 79 then 8 else (if c == 98 || c == 66 then 2 else 10))

-- digits without a base: with a leading 0, all are zeros
unfoldable pub decimal_value : List ℕ → Option ℕ
decimal_value text =
    option_and_then (λ n. if slice_index text 0 == 48 && not (n == 0) then None else Some n) (digits_value 10 0 false text)

-- the base of a number's text
unfoldable pub number_base : List ℕ → ℕ
number_base text = if slice_index text 0 == 48 then base_of (slice_index text 1) else 10

-- The value of a number's text. None where the text is no number.
unfoldable pub number_of : List ℕ → Option ℕ
number_of text =
    if number_base text == 10 then decimal_value text else digits_value (number_base text) 0 false (drop 2 text)

abbrev pub IsNumber : List ℕ → Type 0
IsNumber text = IsSome (number_of text)

abbrev pub number_value : List ℕ → ℕ
number_value text = unwrap_or (number_of text) 0
