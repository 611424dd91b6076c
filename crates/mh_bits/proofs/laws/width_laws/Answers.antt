use Rattle.mh_bits.proofs.Validity.{IsVector-binary_of, width-binary_of, IsVector-unary_of, width-unary_of, WidthsFit-same}
use Rattle.mh_bits.proofs.laws.width_laws.Goals as goal

pub returns-clause-binary : goal.returns-clause-binary
returns-clause-binary c = λ op a b s. IsVector-binary_of a b s op

pub returns-clause-binary_width : goal.returns-clause-binary_width
returns-clause-binary_width c = λ op a b s. width-binary_of a b s op

pub returns-clause-unary : goal.returns-clause-unary
returns-clause-unary c = IsVector-unary_of

pub returns-clause-unary_width : goal.returns-clause-unary_width
returns-clause-unary_width c = width-unary_of

pub returns-clause-fit : goal.returns-clause-fit
returns-clause-fit c = WidthsFit-same
