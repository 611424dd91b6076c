-- What an error line shows of a fault.
use Rattle.std.specs.Prelude.{pos}
use Rattle.mh_text.specs.declared.code.Code.TheVariants.{X1Range, X2Index, X4Divide, X5NumberTooWide, X6Shift}
use Rattle.mh_gen.specs.declared.fault.FaultNumbers.{FaultNumbers}
use Rattle.mh_design.specs.Values.{Fault, Range, Index, Divide, NumberTooWide, Shift}

-- The code and the numbers, 0 for one that it doesn't have.
abbrev pub numbers_of : Fault → FaultNumbers
numbers_of (Range v l h) = record { code = X1Range; value = v; low = l; high = h }
numbers_of (Index v l h) = record { code = X2Index; value = v; low = l; high = h }
numbers_of (Divide v) = record { code = X4Divide; value = v; low = pos 0; high = pos 0 }
numbers_of NumberTooWide = record { code = X5NumberTooWide; value = pos 0; low = pos 0; high = pos 0 }
numbers_of (Shift v) = record { code = X6Shift; value = v; low = pos 0; high = pos 0 }
