-- The width of a range of integers.
use Rattle.std.specs.Prelude.{ℕ, zero, suc, ℤ, pos, negsuc, ◌/◌, ◌≤◌, Bool, true, false, max}
use Rattle.mh_codes.specs.Codes.{Fits}

-- The number of bits of n without leading zeros, where n is at most the first argument.
abbrev pub bits_within : ℕ → ℕ → ℕ
bits_within zero n = zero
bits_within (suc fuel) zero = zero
bits_within (suc fuel) (suc n) = suc (bits_within fuel (suc n / 2))

-- The number of bits of n without leading zeros, 0 for 0.
abbrev pub bit_length : ℕ → ℕ
bit_length n = bits_within n n

-- A range is read as signed where its least number is negative.
abbrev pub is_signed : ℤ → Bool
is_signed (pos n) = false
is_signed (negsuc n) = true

-- n, where z is n or -(n + 1): the number that the bits of z below its sign are, or their inverse.
abbrev pub magnitude_of : ℤ → ℕ
magnitude_of (pos n) = n
magnitude_of (negsuc n) = n

-- The width of lo .. top, for lo ≤ top: the bits of the magnitudes, and one more for the sign of a
-- signed range (MyHDL 0.11, `intbv`: the bits that the range needs). That it is the least is what
-- `width_laws` proves.
abbrev pub width_of : ℤ → ℤ → ℕ
width_of (pos n) top = max 1 (bit_length (magnitude_of top))
width_of (negsuc n) top = suc (max (bit_length n) (bit_length (magnitude_of top)))

-- w is the least width of at least 1 at which both ends of lo .. top fit, unsigned where lo is 0 or
-- more, and else signed.
pub record IsWidth (lo top : ℤ) (w : ℕ) : Type 0 where
  pub some : 1 ≤ w
  pub low_fits : Fits (is_signed lo) w lo
  pub top_fits : Fits (is_signed lo) w top
  pub least : (v : ℕ) → 1 ≤ v → Fits (is_signed lo) v lo → Fits (is_signed lo) v top → w ≤ v
