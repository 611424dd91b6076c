use Rattle.mh_codes.specs.Integers.{floor_div}
use Rattle.mh_codes.specs.Ranges.{size_of}
use Rattle.std.proofs.Common.{◌-ℤ◌}
use Rattle.mh_codes.proofs.Wrapping.{wrap_of_low, wrap_of_high, wrap_of_differs, wrap_of_only}
use Rattle.mh_codes.proofs.wrapping_laws.Goals as goal

pub returns-clause-inside : goal.returns-clause-inside
returns-clause-inside c = λ lo top v l. (wrap_of_low lo top l v, wrap_of_high lo top l v)

pub returns-clause-congruent : goal.returns-clause-congruent
returns-clause-congruent c = λ lo top v l. (floor_div (v -ℤ lo) (size_of lo top), wrap_of_differs lo top l v)

pub returns-clause-only : goal.returns-clause-only
returns-clause-only c = wrap_of_only
