use Rattle.std.proofs.Common.{◌≡◌, false, drop}
use Rattle.mh_pytok.specs.Numbers.{digits_value}
use Rattle.mh_pytok.proofs.numbers.digits_value.Given as goal

-- the digits that are left, behind the value so far, have the value of all
abbrev pub invariant-loop-b : goal.invariant-loop-b
invariant-loop-b l = digits_value l.base l.n l.last (drop l.b-index l.text) ≡ digits_value l.base 0 false l.text
