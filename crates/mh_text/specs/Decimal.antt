-- The text of an integer in decimal digits, as MyHDL 0.11 prints it and as Verilog and VHDL read it: no
-- leading zeros, `0` for zero, and `-` in front of a negative one.
use Rattle.std.specs.Prelude.{ℕ, ℤ, List}
use Rattle.std.specs.Fmt.{signed_decimal}

abbrev pub decimal_text : ℤ → List ℕ
decimal_text z = signed_decimal z
