use Rattle.mh_codes.proofs.Codes.{code-add, code-sub, code-mul, code_part}
use Rattle.mh_codes.proofs.Bitwise.{code-and, code-or, code-xor}
use Rattle.mh_codes.proofs.arithmetic_laws.Goals as goal

pub returns-clause-sum : goal.returns-clause-sum
returns-clause-sum c = code-add

pub returns-clause-difference : goal.returns-clause-difference
returns-clause-difference c = code-sub

pub returns-clause-product : goal.returns-clause-product
returns-clause-product c = code-mul

pub returns-clause-and : goal.returns-clause-and
returns-clause-and c = code-and

pub returns-clause-or : goal.returns-clause-or
returns-clause-or c = code-or

pub returns-clause-xor : goal.returns-clause-xor
returns-clause-xor c = code-xor

pub returns-clause-part : goal.returns-clause-part
returns-clause-part c = code_part
