-- The number that the parts of a `concat` make, part by part. This serves proofs: it is that of `mh_design` with the number cut off where
-- it leaves 128 signed bits.
use Rattle.std.specs.Prelude.{ℕ, ℤ, pos, ◌+◌, ◌*◌, ◌^◌, min, List, [], ◌∷◌, Option, Result, Ok, Err, option_and_then, unsigned_abs}
use Rattle.std.specs.Option.{option_map_or}
use Rattle.mh_codes.specs.Codes.{code}
use Rattle.mh_num.specs.Results.{in_i128}
use Rattle.mh_design.specs.Values.{Operand, Fault, NumberTooWide, bits_of, as_bits}

-- The number with one more part below it, or nothing where it leaves 128 signed bits.
abbrev pub one_more : Option ℤ → Operand → Option ℤ
one_more c a = option_and_then (λ z. in_i128 (pos (unsigned_abs z * 2 ^ bits_of a.form + code (bits_of a.form) a.value))) c

-- The width with one more part.
abbrev pub wider : ℕ → Operand → ℕ
wider w a = min 128 (w + bits_of a.form)

abbrev pub joined_from : Option ℤ → ℕ → List Operand → Result Operand Fault
joined_from c w [] = option_map_or (λ z. Ok (as_bits w z)) c (Err NumberTooWide)
joined_from c w (a ∷ rest) = joined_from (one_more c a) (wider w a) rest
