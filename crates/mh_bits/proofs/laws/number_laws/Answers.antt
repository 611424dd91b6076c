use Rattle.std.proofs.Common.{ap}
use Rattle.mh_bits.specs.Operators.{number_of}
use Rattle.std.proofs.Common.{false}
use Rattle.mh_bits.proofs.KnownVectors.{number-sum, number-difference, number-product, number-extension, selected-known, joined-known}
use Rattle.mh_bits.proofs.laws.number_laws.Goals as goal

pub returns-clause-sum : goal.returns-clause-sum
returns-clause-sum c = number-sum

pub returns-clause-difference : goal.returns-clause-difference
returns-clause-difference c = number-difference

pub returns-clause-product : goal.returns-clause-product
returns-clause-product c = number-product

pub returns-clause-part : goal.returns-clause-part
returns-clause-part c = λ w n hi lo. ap (number_of false) (selected-known w n hi lo)

pub returns-clause-concatenation : goal.returns-clause-concatenation
returns-clause-concatenation c = λ v m w n p q. ap (number_of false) (joined-known v m w n p q)

pub returns-clause-extension : goal.returns-clause-extension
returns-clause-extension c = number-extension
