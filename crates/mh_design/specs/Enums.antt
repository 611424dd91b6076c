-- The codes of the items of an enum (MyHDL 0.11 manual, "Reference": `enum`; the three encodings as stated are this project's own).
use Rattle.std.specs.Prelude.{ℕ, zero, suc, ℤ, pos, Bool, false, ◌-◌, ◌^◌, ◌||◌, max, nat_le}
use Rattle.std.specs.Ordering.{int_eq}
use Rattle.mh_codes.specs.Widths.{bit_length}
use Rattle.mh_design.specs.declared.design.Encoding.{Encoding}
use Rattle.mh_design.specs.declared.design.Encoding.TheVariants as encoding

-- The width of the codes of n items.
abbrev pub encoding_width : Encoding → ℕ → ℕ
encoding_width encoding.Binary n = max 1 (bit_length (n - 1))
encoding_width encoding.OneHot n = n
encoding_width encoding.OneCold n = n

-- The codes need at most 127 bits.
abbrev pub is_narrow : Encoding → ℕ → Bool
is_narrow c n = nat_le (encoding_width c n) 127

-- The code of the item at place k among n.
abbrev pub item_code : Encoding → ℕ → ℕ → ℕ
item_code encoding.Binary n k = k
item_code encoding.OneHot n k = 2 ^ k
item_code encoding.OneCold n k = 2 ^ n - 1 - 2 ^ k

-- A test holds of some number below n.
abbrev pub any_below : ℕ → (ℕ → Bool) → Bool
any_below zero test = false
any_below (suc n) test = any_below n test || test n

-- z is the code of one of n items.
abbrev pub is_item_code : Encoding → ℕ → ℤ → Bool
is_item_code c n z = any_below n (λ k. int_eq z (pos (item_code c n k)))
