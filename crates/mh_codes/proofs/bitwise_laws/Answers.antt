use Rattle.mh_codes.proofs.Bits.{bit_of-and, bit_of-or, bit_of-xor, bit_of-inverse, same_from_bits}
use Rattle.mh_codes.proofs.bitwise_laws.Goals as goal

pub returns-clause-and : goal.returns-clause-and
returns-clause-and c = bit_of-and

pub returns-clause-or : goal.returns-clause-or
returns-clause-or c = bit_of-or

pub returns-clause-xor : goal.returns-clause-xor
returns-clause-xor c = bit_of-xor

pub returns-clause-determined : goal.returns-clause-determined
returns-clause-determined c = same_from_bits

pub returns-clause-inverse : goal.returns-clause-inverse
returns-clause-inverse c = bit_of-inverse
