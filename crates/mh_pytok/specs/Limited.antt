-- Numbers up to the greatest of a source.
use Rattle.std.specs.Prelude.{ℕ, ◌^◌, nat_lt, Option, Some, None, option_and_then, if◌then◌else◌}

-- n, where it is at most 2 ^ 127 - 1
abbrev pub limited : Option ℕ → Option ℕ
limited o = option_and_then (λ n. if nat_lt n (2 ^ 127) then Some n else None) o
