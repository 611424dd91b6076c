use Rattle.mh_bits.proofs.Gathered.{same_from_bits, gathered_from_bits, bit-gathered, IsVector-gathered}
use Rattle.mh_bits.proofs.Validity.{bits_same}
use Rattle.mh_bits.proofs.laws.bit_laws.Goals as goal

pub returns-clause-same : goal.returns-clause-same
returns-clause-same c = same_from_bits

pub returns-clause-same_bits : goal.returns-clause-same_bits
returns-clause-same_bits c = bits_same

pub returns-clause-chosen : goal.returns-clause-chosen
returns-clause-chosen c = bit-gathered

pub returns-clause-valid : goal.returns-clause-valid
returns-clause-valid c = IsVector-gathered

pub returns-clause-gathered : goal.returns-clause-gathered
returns-clause-gathered c = gathered_from_bits
