-- Vectors of bits 0, 1 and x.
use Rattle.std.specs.Prelude.{ℕ, zero, suc, ◌+◌, ◌-◌, ◌*◌, ◌^◌, ◌<◌, ◌≤◌, ◌≡◌, ◌==◌, Bool, false, ◌||◌, bit_and, nat_lt, if◌then◌else◌}
use Rattle.std.specs.Int.{bit_at}

-- A bit: 0, 1 or x (IEEE 1364-2005, 4.1). There is no z, which no text that this project reads or
-- writes can make.
pub data Bit : Type 0 where
  low : Bit
  high : Bit
  unknown : Bit

-- The digits of a bit in the two words of a vector: 1 at the bit 1, and 1 at the bit x.
abbrev pub high_digit : Bit → ℕ
high_digit low = 0
high_digit high = 1
high_digit unknown = 0

abbrev pub unknown_digit : Bit → ℕ
unknown_digit low = 0
unknown_digit high = 0
unknown_digit unknown = 1

-- The bit whose digits in the word of x bits and in the word of 1 bits are these.
abbrev pub bit_from : ℕ → ℕ → Bit
bit_from zero zero = low
bit_from zero (suc n) = high
bit_from (suc u) n = unknown

-- A vector of `width` bits (IEEE 1364-2005, 4.3.1) as two words: `val` has the 1 bits, and `unk` the
-- x bits.
pub record Vector : Type 0 where
  pub width : ℕ
  pub val : ℕ
  pub unk : ℕ

abbrev pub vector_from : ℕ → ℕ → ℕ → Vector
vector_from w m n = record { width = w; val = m; unk = n }

-- The rule of a vector: 1 to 128 bits, none past the width, and no bit in both words.
pub record IsVector (v : Vector) : Type 0 where
  pub some_bits : 1 ≤ v.width
  pub word_bits : v.width ≤ 128
  pub val_within : v.val < 2 ^ v.width
  pub unk_within : v.unk < 2 ^ v.width
  pub apart : bit_and v.val v.unk ≡ 0

-- Bit k of a vector; bit 0 is the least significant one.
abbrev pub bit : Vector → ℕ → Bit
bit v k = bit_from (bit_at v.unk k) (bit_at v.val k)

-- The word with the digits f 0, .., f (w - 1), each 0 or 1, the least significant one first.
unfoldable pub word : (ℕ → ℕ) → ℕ → ℕ
word f zero = 0
word f (suc k) = word f k + f k * 2 ^ k

-- The vector of w bits with the bits f 0, .., f (w - 1).
abbrev pub gathered : ℕ → (ℕ → Bit) → Vector
gathered w f = vector_from w (word (λ k. high_digit (f k)) w) (word (λ k. unknown_digit (f k)) w)

-- p holds of some k below w.
unfoldable pub some_below : (ℕ → Bool) → ℕ → Bool
some_below p zero = false
some_below p (suc k) = p k || some_below p k

-- The vector of w bits without x whose word is n, and the one with x in every bit.
abbrev pub known : ℕ → ℕ → Vector
known w n = vector_from w n 0

abbrev pub all_unknown : ℕ → Vector
all_unknown w = vector_from w 0 (2 ^ w - 1)

-- No bit of a vector is x.
abbrev pub is_known : Vector → Bool
is_known v = v.unk == 0

-- The vector with one bit more, below the others.
abbrev pub appended : Vector → Bit → Vector
appended v b = gathered (v.width + 1) (λ k. if nat_lt k 1 then b else bit v (k - 1))
