use Rattle.mh_bits.proofs.Selections.{bit-and_first, bit-and_second, bit-or_first, bit-or_second}
use Rattle.mh_bits.proofs.laws.absorption_laws.Goals as goal

pub returns-clause-and_first : goal.returns-clause-and_first
returns-clause-and_first c = bit-and_first

pub returns-clause-and_second : goal.returns-clause-and_second
returns-clause-and_second c = bit-and_second

pub returns-clause-or_first : goal.returns-clause-or_first
returns-clause-or_first c = bit-or_first

pub returns-clause-or_second : goal.returns-clause-or_second
returns-clause-or_second c = bit-or_second
