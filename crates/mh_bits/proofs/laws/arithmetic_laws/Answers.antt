use Rattle.mh_bits.proofs.KnownVectors.{sum-coded, difference-coded, product-coded, negation-coded, sum-sign, difference-sign, product-sign}
use Rattle.mh_bits.proofs.laws.arithmetic_laws.Goals as goal

pub returns-clause-sum : goal.returns-clause-sum
returns-clause-sum c = sum-coded

pub returns-clause-difference : goal.returns-clause-difference
returns-clause-difference c = difference-coded

pub returns-clause-product : goal.returns-clause-product
returns-clause-product c = product-coded

pub returns-clause-negation : goal.returns-clause-negation
returns-clause-negation c = negation-coded

pub returns-clause-sum_sign : goal.returns-clause-sum_sign
returns-clause-sum_sign c = sum-sign

pub returns-clause-difference_sign : goal.returns-clause-difference_sign
returns-clause-difference_sign c = difference-sign

pub returns-clause-product_sign : goal.returns-clause-product_sign
returns-clause-product_sign c = product-sign
